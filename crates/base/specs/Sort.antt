-- A list in the order of a number of its elements.
use Rattle.std.specs.Prelude.{ℕ, cond, List, [], ◌∷◌, ltb}

module _ {A : Type 0} where
  -- x goes before the first element of a greater number
  unfoldable pub insert_by : (A → ℕ) → A → List A → List A
  insert_by number x [] = x ∷ []
  insert_by number x (y ∷ l) = cond (ltb (number x) (number y)) (x ∷ y ∷ l) (y ∷ insert_by number x l)

  unfoldable pub sort_by : (A → ℕ) → List A → List A
  sort_by number [] = []
  sort_by number (x ∷ l) = insert_by number x (sort_by number l)
