-- What a chain of std's makes of a list is what the definitions' own words make of it.
-- Assumes nothing.
use mathlib.Core.Path.{◌≡◌, ◌∙◌, sym, ap, refl}
use mathlib.Core.Bool.{Bool, ◌&&◌, ◌||◌, and-true, and_assoc, and_comm}
use mathlib.Core.List.{List, [], ◌∷◌, reverse}
use Prim.Native.Nat.{ℕ, zero, suc, ◌+◌}
use native.Mathlib.Nat.{add-zero, zero-add}
use native.Mathlib.Omega.{arith}
use Rattle.std.specs.List.{list_all, list_any, range_with_len}
use Rattle.std.proofs.lemmas.List.{reverse-append}
use Rattle.std.proofs.lemmas.List.Folds.{list_all-append}
use lib.Dec.{eqb}
use borrow.Author.Tests.{eqb-true, eqb-false, eq-eqb, ne_eqb}
use Rattle.base.proofs.Choices.{cases}
use Rattle.base.specs.Lists.{any, every, below}

module _ {A : Type 0} (p : A → Bool) where
  pub every_all : (l : List A) → list_all p l ≡ every p l
  unfolding every
  every_all [] = refl
  every_all (x ∷ l) = ap (λ (b : Bool). p x && b) (every_all l)

  -- from the last one down
  pub all_back : (l : List A) → list_all p (reverse l) ≡ list_all p l
  all_back [] = refl
  all_back (x ∷ l) = ap (list_all p) (reverse-append (x ∷ []) l) ∙ list_all-append p (reverse l) (x ∷ [])
      ∙ ap (λ (b : Bool). list_all p (reverse l) && b) (and-true (p x)) ∙ and_comm (list_all p (reverse l)) (p x)
      ∙ ap (λ (b : Bool). p x && b) (all_back l)

-- is n among the numbers?
pub held : (n : ℕ) (l : List ℕ) → list_any (λ m. eqb m n) l ≡ any (eqb n) l
unfolding any
held n [] = refl
held n (m ∷ l) = rw swap (ap (λ (b : Bool). eqb n m || b) (held n l))
  where
    swap : eqb m n ≡ eqb n m
    swap = cases (eqb m n) (λ t. t ∙ sym (eq-eqb n m (sym (eqb-true m n t)))) (λ t. t ∙ sym (ne_eqb n m (λ e. eqb-false m n t (sym e))))

-- the numbers of a range
module _ (p : ℕ → Bool) where
  range_more : (a n : ℕ) → list_all p (range_with_len a (suc n)) ≡ (list_all p (range_with_len a n) && p (a + n))
  range_more a zero = rw add-zero (and-true (p a))
  range_more a (suc n) =
      let e : a + 1 + n ≡ a + suc n = omega arith in
      ap (λ (b : Bool). p a && b) (range_more (a + 1) n)
      ∙ rw e (sym (and_assoc (p a) (list_all p (range_with_len (a + 1) n)) (p (a + suc n))))

  pub range_below : (n : ℕ) → list_all p (range_with_len 0 n) ≡ below n p
  unfolding below
  range_below zero = refl
  range_below (suc n) = range_more 0 n ∙ rw zero-add (ap (λ (b : Bool). b && p n) (range_below n))
