-- What a drop's answer is, and what the call leaves of the records.
use Rattle.std.specs.Prelude.{ℕ, List, Result}
use Rattle.base.specs.Answer.{Answer, refused, gives}
use Rattle.base.specs.declared.refusal.Refusal.{Refusal}
use Rattle.base.specs.Refusals.{answer}
use Rattle.cells.specs.Cell.{Cell, empty_cell}
use Rattle.cells.specs.Ages.{is_stale}
use Rattle.cells.specs.Records.{change_cells}
use Rattle.rows.specs.declared.Row.{Row}
use Rattle.rows.specs.Rows.{cells_in}
use Rattle.receiver.specs.declared.RecvQueue.{RecvQueue}
use Rattle.receiver.specs.Drop.{DropResult}
use Rattle.recv_prefix.specs.Dropping.{drop_first}

-- a call's outcome, of what it returns and of the last value of the records
unfoldable pub drop_result : Result ℕ Refusal → List Cell → DropResult
drop_result a rs = record { answer = answer a; records = rs }

-- A drop over rows, which are the first of so many cells' records; it only reads them, and answers.
unfoldable pub drop_rows_of : RecvQueue → ℕ → List Row → List ℕ → ℕ → Answer ℕ
drop_rows_of q cells rows st n = (drop_first q cells (cells_in rows) st n).answer

-- what a drop with this answer leaves of the records: a refusal leaves them as they were
abbrev pub records_left : Answer ℕ → ℕ → List Cell → List Cell
records_left (refused number) n cs = cs
records_left (gives freed) n cs = change_cells (is_stale n) (λ _. empty_cell) cs
