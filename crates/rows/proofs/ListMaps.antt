-- Tests over one list after another.
-- Assumes nothing.
use Prim.Native.Nat.{suc, ◌+◌}
use mathlib.Core.Path.{◌≡◌, refl}
use mathlib.Core.Bool.{Bool, true, false, cond, ◌&&◌, ◌||◌}
use mathlib.Core.List.{List, [], ◌∷◌, ◌++◌}
use native.Mathlib.Omega.{arith}
use Rattle.base.specs.Lists.{any, every, count_of}

module _ {A : Type 0} (p : A → Bool) where
  pub count-append : (xs ys : List A) → count_of p (xs ++ ys) ≡ count_of p xs + count_of p ys
  unfolding count_of
  count-append [] ys = omega arith
  count-append (x ∷ xs) ys = counted (p x) (count-append xs ys)
    where
      counted : (t : Bool) → count_of p (xs ++ ys) ≡ count_of p xs + count_of p ys
          → cond t (suc (count_of p (xs ++ ys))) (count_of p (xs ++ ys))
          ≡ cond t (suc (count_of p xs)) (count_of p xs) + count_of p ys
      counted true e = omega arith
      counted false e = e

  pub any_append : (xs ys : List A) → any p (xs ++ ys) ≡ (any p xs || any p ys)
  unfolding any
  any_append [] ys = refl
  any_append (x ∷ xs) ys = found (p x) (any_append xs ys)
    where
      found : (t : Bool) → any p (xs ++ ys) ≡ (any p xs || any p ys) → (t || any p (xs ++ ys)) ≡ (t || any p xs || any p ys)
      found true e = refl
      found false e = e

  pub every_append : (xs ys : List A) → every p (xs ++ ys) ≡ (every p xs && every p ys)
  unfolding every
  every_append [] ys = refl
  every_append (x ∷ xs) ys = passed (p x) (every_append xs ys)
    where
      passed : (t : Bool) → every p (xs ++ ys) ≡ (every p xs && every p ys) → (t && every p (xs ++ ys)) ≡ ((t && every p xs) && every p ys)
      passed true e = e
      passed false e = refl
