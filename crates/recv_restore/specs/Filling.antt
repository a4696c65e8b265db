-- Rows filled one after the other from an image's bytes.
use Rattle.std.specs.Prelude.{ℕ, ◌+◌, ◌*◌, ◌-◌, ◌≤◌, ◌<◌, ◌≡◌, Bool, true, false, List, [], ◌++◌, length, take, drop, set, replicate}
use Rattle.std.specs.Prelude.{Option, Some, None}
use Rattle.cells.specs.Cell.{Slot, empty_slot}
use Rattle.image.specs.Image.{Image}
use Rattle.image.specs.Slots.{used_slots}
use Rattle.rows.specs.declared.Row.{Row}
use Rattle.row_slots.specs.Slots.{slots_in, AllFit}
use Rattle.recv_restore.specs.declared.filling.Filled.{Filled}
use Rattle.recv_restore.specs.Fits.{CellsFit}

-- the rows stand for the slots l, and after them for unused cells; bodies stand in s
pub record Rowed (s : List ℕ) (rows : List Row) (l : List Slot) : Type 0 where
  pub is : (store : List ℕ) → slots_in rows store s ≡ l ++ replicate (length rows - length l) empty_slot
  pub fits : AllFit s rows
  pub few : length l ≤ length rows

-- a test tells whether P holds
unfoldable pub TestOf : Bool → Type 0 → Type 0
TestOf b P = (b ≡ true → P) × (b ≡ false → P → ⊥)

-- the row of a slot whose body stands at place p of s
pub record RowOf (s : List ℕ) (p : ℕ) (x : Slot) (r : Row) : Type 0 where
  pub cell : r.cell ≡ x.cell
  pub place : r.place ≡ p + 1
  pub body : x.body ≡ take x.cell.length (drop p s)

-- a row put behind those that are used
unfoldable pub PutRow : List Row → Filled → Row → ℕ → List Row → Option Filled → Type 0
PutRow rows at r end rows' None = length rows ≤ at.used
PutRow rows at r end rows' (Some f) = (at.used < length rows)
    × ((f ≡ record { place = end; used = at.used + 1 }) × (rows' ≡ set rows at.used r))

-- rows become rows' as these slots are put behind those that are there; f is how far the filling has come then, at the place `end`.
-- A slot takes `pace` bytes at most.
pub record Put (pace : ℕ) (can : Type 0) (slots : List Slot) (end : ℕ) (s : List ℕ) (rows : List Row) (at : Filled) (rows' : List Row)
    (f : Filled)
    : Type 0 where
  pub may : can
  pub used : f.used ≡ at.used + length slots
  pub room : f.used ≤ length rows
  pub many : length rows' ≡ length rows
  pub place : f.place ≡ end
  pub near : f.place ≤ at.place + pace * length slots
  pub rowed : (l : List Slot) → length l ≡ at.used → Rowed s rows l → Rowed s rows' (l ++ slots)

-- the same, or none, where an entry cannot be restored or no row is left
unfoldable pub Fills : ℕ → Type 0 → List Slot → ℕ → List ℕ → List Row → Filled → List Row → Option Filled → Type 0
Fills pace can slots end s rows at rows' None = can → at.used + length slots ≤ length rows → ⊥
Fills pace can slots end s rows at rows' (Some f) = Put pace can slots end s rows at rows' f

-- the rows afterwards stand for the image's cells; none, where these cannot be restored or are too many
unfoldable pub Cells : Image → List ℕ → List Row → List Row → Option Filled → Type 0
Cells i s rows rows' None = CellsFit i → length (used_slots i) ≤ length rows → ⊥
Cells i s rows rows' (Some f) = CellsFit i × ((length (used_slots i) ≤ length rows) × (Rowed s rows [] → Rowed s rows' (used_slots i)))
