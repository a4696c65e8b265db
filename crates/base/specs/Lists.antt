-- Lists and tests on their elements: what the definitions of the receivers are written with.
use Rattle.std.specs.Prelude.{ℕ, zero, suc, Bool, true, false, cond, ◌&&◌, ◌||◌, List, [], ◌∷◌, eqb}
use Rattle.std.proofs.Math.Option.{Option, none, some}

-- the first value, or a function of what an option holds
abbrev pub option : {A B : Type 0} → Option A → B → (A → B) → B
option none b f = b
option (some a) b f = f a

module _ {A : Type 0} where
  -- the first element that passes
  unfoldable pub find : (A → Bool) → List A → Option A
  find p [] = none
  find p (x ∷ xs) = cond (p x) (some x) (find p xs)

  -- does any element pass?
  unfoldable pub any : (A → Bool) → List A → Bool
  any p [] = false
  any p (x ∷ xs) = p x || any p xs

  -- does every element pass?
  unfoldable pub every : (A → Bool) → List A → Bool
  every p [] = true
  every p (x ∷ xs) = p x && every p xs

  -- how many pass?
  unfoldable pub count_of : (A → Bool) → List A → ℕ
  count_of p [] = 0
  count_of p (x ∷ xs) = cond (p x) (suc (count_of p xs)) (count_of p xs)

  -- the elements that fail
  unfoldable pub without : (A → Bool) → List A → List A
  without p [] = []
  without p (x ∷ xs) = cond (p x) (without p xs) (x ∷ without p xs)

  -- the elements that pass
  unfoldable pub only : (A → Bool) → List A → List A
  only p [] = []
  only p (x ∷ xs) = cond (p x) (x ∷ only p xs) (only p xs)

  -- do each two elements at different places pass, either way round?
  unfoldable pub pairs : (A → A → Bool) → List A → Bool
  pairs p [] = true
  pairs p (x ∷ xs) = every (λ y. p x y && p y x) xs && pairs p xs

-- does every number below n pass?
unfoldable pub below : ℕ → (ℕ → Bool) → Bool
below zero p = true
below (suc n) p = below n p && p n

-- are two lists of numbers the same?
unfoldable pub same : List ℕ → List ℕ → Bool
same [] [] = true
same [] (y ∷ l) = false
same (x ∷ k) [] = false
same (x ∷ k) (y ∷ l) = eqb x y && same k l
