-- The records as rows and back, and what a take and a drop leave of the records.
use Rattle.std.specs.Prelude.{Bool, cond, List, map, ◌≡◌}
use Rattle.cells.specs.Cell.{Cell, empty_cell}

-- each of ys is what R gives of the one at its place of xs: they are f's values of these, where R gives f's values
abbrev pub Converted : {A B : Type 0} → (A → B → Type 0) → List A → List B → Type 0
Converted {A} {B} R xs ys = (f : A → B) → ((a : A) (b : B) → R a b → b ≡ f a) → ys ≡ map f xs

-- what a call that frees the records that pass leaves of a record
unfoldable pub record_left_by : (Cell → Bool) → Cell → Cell
record_left_by p c = cond (p c) empty_cell c
