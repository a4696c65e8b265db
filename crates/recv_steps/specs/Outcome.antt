-- What a receive on rows comes to: its answer, and what the call leaves of all that it was lent.
use Rattle.std.specs.Prelude.{ℕ, Bool, cond, ◌||◌, List, map, eqb, length, replicate, Result}
use Rattle.base.specs.Answer.{Answer, refused, gives}
use Rattle.base.specs.declared.refusal.Refusal.{Refusal}
use Rattle.base.specs.Refusals.{answer_by}
use Rattle.cells.specs.Cell.{Cell}
use Rattle.rows.specs.declared.Row.{Row}
use Rattle.rows.specs.Rows.{cells_in, stored_row, blank_row}
use Rattle.receiver.specs.declared.RecvQueue.{RecvQueue}
use Rattle.receiver.specs.Receive.{Report}
use Rattle.receiver.specs.Receive as Definition
use Rattle.recv_prefix.specs.Receiving.{receive_first}
use Rattle.recv_steps.specs.declared.Received.{Received}

-- document 01's values
unfoldable pub report_of : Received → Report
report_of r = record { ready = r.ready; dropped = r.dropped; left = r.left }

-- the answer, and what the call leaves of receiver, rows and store
pub record RowsReceived : Type 0 where
  pub answer : Answer Report
  pub queue : RecvQueue
  pub rows : List Row
  pub store : List ℕ

-- the same, of what the call returns and of the last values of what it was lent
unfoldable pub received_rows : Result Received Refusal → RecvQueue → List Row → List ℕ → RowsReceived
received_rows r q rows st = record { answer = answer_by report_of r; queue = q; rows = rows; store = st }

-- refusals 7 and 8 are found while the frames are worked on
unfoldable pub found_in_frames : ℕ → Bool
found_in_frames number = eqb number 7 || eqb number 8

-- What is left of the rows. An accepted datagram leaves the records of the definition, each with its body in the store. A refusal leaves
-- the rows as they were; where it is found while the frames are worked on, they are all blank: the caller lends a copy of its records.
unfoldable pub rows_left : Answer Report → List Row → List Cell → List Row
rows_left (gives report) rows cs = map stored_row cs
rows_left (refused number) rows cs = cond (found_in_frames number) (replicate (length rows) blank_row) rows

-- what a receive over these rows leaves that comes to x
unfoldable pub rows_outcome : List Row → Definition.Received → RowsReceived
rows_outcome rows x = record { answer = x.answer; queue = x.queue; rows = rows_left x.answer rows x.records; store = x.store }

-- Receive on rows that stand for the first of so many records: answer, receiver and store are those of the definition.
unfoldable pub receive_rows_of : RecvQueue → ℕ → List Row → List ℕ → List ℕ → RowsReceived
receive_rows_of q cells rows st d = rows_outcome rows (receive_first q cells (cells_in rows) st d)
