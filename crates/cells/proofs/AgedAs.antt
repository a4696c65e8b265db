-- "The age kept for an id" (request 4): the open slots of an id have one age.
-- Assumes nothing.
use Prim.Native.Nat.{ℕ, ◌≤◌}
use mathlib.Core.Path.{◌≡◌}
use mathlib.Core.Bool.{true}
use mathlib.Core.List.{List, Memᴰ}
use Rattle.base.specs.Limits.{max_age}
use Rattle.cells.specs.Cell.{Slot, is_open}

-- F says an id's age, which "stops at 2^32".
pub record AgedAs (F : ℕ → ℕ) (l : List Slot) : Type 0 where
  pub is : (s : Slot) → Memᴰ s l → is_open s ≡ true → s.cell.age ≡ F s.cell.id
  pub small : (id : ℕ) → F id ≤ max_age
