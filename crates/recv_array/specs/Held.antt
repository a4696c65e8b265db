-- A receiver with 256 records, and the first of them, which its calls are over.
use Rattle.std.specs.Prelude.{ℕ, List, ◌≡◌, take, drop, replicate}
use Rattle.cells.specs.Cell.{Cell, empty_cell}
use Rattle.recv_array.specs.declared.Receiver.{Receiver}

-- how many records are held
abbrev pub held_cells : ℕ
held_cells = 256

-- where none is in use
unfoldable pub unused_cells : List Cell
unused_cells = replicate held_cells empty_cell

-- the records that the calls are over
abbrev pub in_use : Receiver → List Cell
in_use x = take x.cells x.records

-- a call leaves the others, and how many it is over
pub record IsSameBeyond (x y : Receiver) : Type 0 where
  pub cells : y.cells ≡ x.cells
  pub records : drop x.cells y.records ≡ drop x.cells x.records
