-- What rows mean: each row is a cell's record with its body, which stands in the store's cell or in the datagram d that is worked on.
use Rattle.std.specs.Prelude.{ℕ, ◌+◌, ◌-◌, ◌≤◌, ◌≡◌, Bool, true, false, cond, not, ◌&&◌, eqb, length, take, drop}
use mathlib.Core.List.{List, [], ◌∷◌, ◌++◌, Memᴰ}
use Rattle.cells.specs.Cell.{Slot, unused_use}
use Rattle.cells.specs.Store.{cell_size}
use Rattle.rows.specs.declared.Row.{Row}
use Rattle.rows.specs.Rows.{cell_of}

-- the bytes that a row's body begins: its cell's where place is 0, else the datagram's from place - 1 on
unfoldable pub row_bytes : Row → List ℕ → List ℕ → List ℕ
row_bytes r bytes d = cond (eqb r.place 0) bytes (drop (r.place - 1) d)

-- a row's body; an unused row has none
unfoldable pub row_body : Row → List ℕ → List ℕ → List ℕ
row_body r bytes d = cond (eqb r.cell.used unused_use) [] (take r.cell.length (row_bytes r bytes d))

-- the slot that a row stands for
unfoldable pub slot_in : Row → List ℕ → List ℕ → Slot
slot_in r bytes d = record { cell = cell_of r; body = row_body r bytes d }

-- the slots of rows, over the store cell by cell: as `slots_of` reads records
unfoldable pub slots_in : List Row → List ℕ → List ℕ → List Slot
slots_in [] store d = []
slots_in (r ∷ rs) store d = slot_in r store d ∷ slots_in rs (drop cell_size store) d

-- is this the row of a body that is still in the datagram?
unfoldable pub is_placed : Row → Bool
is_placed r = not (eqb r.cell.used unused_use) && not (eqb r.place 0)

-- such a body lies over the first bytes of its cell; all other bytes keep their values
unfoldable pub flushed_cell : Row → List ℕ → List ℕ → List ℕ
flushed_cell r bytes d = cond (is_placed r) (row_body r bytes d ++ drop (length (row_body r bytes d)) bytes) bytes

-- the store after acceptance, when every such body was copied
unfoldable pub flushed : List Row → List ℕ → List ℕ → List ℕ
flushed [] store d = store
flushed (r ∷ rs) store d = flushed_cell r (take cell_size store) d ++ flushed rs (drop cell_size store) d

-- the store when the bodies of the first i rows were copied
unfoldable pub flushed_to : ℕ → List Row → List ℕ → List ℕ → List ℕ
flushed_to i rs store d = flushed (take i rs) store d

-- A used row's body is no longer than a cell, and stands whole in the datagram where it is placed there.
pub record Fits (d : List ℕ) (r : Row) : Type 0 where
  pub short : eqb r.cell.used unused_use ≡ false → r.cell.length ≤ cell_size
  pub within : is_placed r ≡ true → r.place - 1 + r.cell.length ≤ length d

abbrev pub AllFit : List ℕ → List Row → Type 0
AllFit d rs = (r : Row) → Memᴰ r rs → Fits d r
