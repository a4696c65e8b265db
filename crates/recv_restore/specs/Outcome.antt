-- What a restore on rows comes to: its answer, and what the call leaves of all that it was lent.
use Rattle.std.specs.Prelude.{ℕ, List, ◌≡◌, true, map, length, replicate, Result, Option, Some, None}
use Rattle.base.specs.Answer.{Answer}
use Rattle.base.specs.declared.refusal.Refusal.{Refusal}
use Rattle.base.specs.Refusals.{answer}
use Rattle.cells.specs.Cell.{empty_cell}
use Rattle.cells.specs.Sound.{lengths}
use Rattle.rows.specs.declared.Row.{Row}
use Rattle.rows.specs.Rows.{stored_row}
use Rattle.image.specs.Image.{Image}
use Rattle.image.specs.Slots.{used_slots}
use Rattle.receiver.specs.declared.RecvQueue.{RecvQueue}
use Rattle.receiver.specs.Restore.{Restored, queue_from, valid, restore_of}
use Rattle.recv_restore.specs.Filling.{Rowed}

-- the answer, and what the call leaves of receiver, rows and store
pub record RowsRestored : Type 0 where
  pub answer : Answer (Unit {0})
  pub queue : RecvQueue
  pub rows : List Row
  pub store : List ℕ

unfoldable pub restored_rows : Result (Unit {0}) Refusal → RecvQueue → List Row → List ℕ → RowsRestored
restored_rows r q rows st = record { answer = answer r; queue = q; rows = rows; store = st }

-- what a restore leaves that comes to x: each record's row, with its body in the store
unfoldable pub rows_outcome : Restored → RowsRestored
rows_outcome x = record { answer = x.answer; queue = x.left.queue; rows = map stored_row x.left.records; store = x.left.store }

-- Restore on so many rows, whatever they were: the definition over as many unused records. (So a refusal leaves blank rows.)
unfoldable pub restore_rows_of : RecvQueue → List Row → List ℕ → List ℕ → RowsRestored
restore_rows_of q rows st bytes = rows_outcome (restore_of q (replicate (length rows) empty_cell) st bytes)

-- the receiver that the image i, which stands in s, restores to over these rows; none where it restores to none
unfoldable pub Restores : Image → List ℕ → List Row → List Row → Option RecvQueue → Type 0
Restores i s rows rows' None = (st : List ℕ) → lengths (length rows) (length st) ≡ true → valid (length rows) st i ≡ true → ⊥
Restores i s rows rows' (Some q) = (q ≡ queue_from i) × (Rowed s rows' (used_slots i)
    × ((st : List ℕ) → lengths (length rows) (length st) ≡ true
    → valid (length rows) st i ≡ true))
