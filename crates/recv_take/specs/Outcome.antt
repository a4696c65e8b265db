-- What a take's answer is in document 01's words, and what a call leaves.
use Rattle.std.specs.Prelude.{ℕ, List, Result, Ok, Err}
use Rattle.base.specs.Answer.{Answer, refused, gives}
use Rattle.base.specs.declared.refusal.Refusal.{Refusal}
use Rattle.base.specs.Refusals.{answer_by}
use Rattle.base.specs.Lists.{option}
use Rattle.cells.specs.Cell.{Cell, ready_as, bears, empty_cell}
use Rattle.cells.specs.Records.{change_cells, earliest_cell}
use Rattle.rows.specs.declared.Row.{Row}
use Rattle.rows.specs.Rows.{cells_in}
use Rattle.receiver.specs.declared.RecvQueue.{RecvQueue}
use Rattle.receiver.specs.Take.{Where, in_store, in_joined, Handed, TakeResult}
use Rattle.recv_prefix.specs.Taking.{take_first}
use Rattle.recv_take.specs.declared.Body.{Body}
use Rattle.recv_take.specs.declared.Body.TheVariants.{InStore, Joined}
use Rattle.recv_take.specs.declared.Taken.{Taken}
use Rattle.recv_take.specs.declared.TakenRows.{TakenRows}

-- where the message's bytes stand
abbrev pub where_of : Body → Where
where_of (InStore start len) = in_store start len
where_of (Joined len) = in_joined len

-- that, with the message's kind, channel and order number
unfoldable pub handed_of : Taken → Handed
handed_of t = record { kind = t.kind; channel = t.channel; order = t.order; body = where_of t.body }

-- a call's outcome, of its answer and of the last values of records and joining buffer
unfoldable pub take_result : Result Taken Refusal → List Cell → List ℕ → TakeResult
take_result a rs buffer = record { answer = answer_by handed_of a; records = rs; joined = buffer }

-- What a take over rows leaves: its answer, the turn of the message that it gave, and the joining buffer. It only reads the rows.
pub record RowsTaken : Type 0 where
  pub answer : Answer Handed
  pub turn : ℕ
  pub joined : List ℕ

-- the message without the turn
abbrev pub without_turn : Result TakenRows Refusal → Result Taken Refusal
without_turn (Ok t) = Ok t.taken
without_turn (Err r) = Err r

-- the turn of the message; 0 where none is given
abbrev pub turn_given : Result TakenRows Refusal → ℕ
turn_given (Ok t) = t.turn
turn_given (Err r) = 0

-- the same, of what the call returns and of the buffer's last value
unfoldable pub taken_rows : Result TakenRows Refusal → List ℕ → RowsTaken
taken_rows r buffer = record { answer = answer_by handed_of (without_turn r); turn = turn_given r; joined = buffer }

-- the turn t of the message that a take gives; 0 where it gives none
abbrev pub turn_taken : Answer Handed → ℕ → ℕ
turn_taken (refused number) t = 0
turn_taken (gives h) t = t

-- the outcome of a take that looks for the message of turn t
unfoldable pub outcome_at : ℕ → TakeResult → RowsTaken
outcome_at t x = record { answer = x.answer; turn = turn_taken x.answer t; joined = x.joined }

-- the least turn of a ready cell; 0 where none is ready
unfoldable pub earliest_turn : List Cell → ℕ
earliest_turn cs = option (earliest_cell cs) 0 (λ t. t)

-- A take over rows, which are the first of so many cells' records.
unfoldable pub take_rows_of : RecvQueue → ℕ → List Row → List ℕ → List ℕ → RowsTaken
take_rows_of q cells rows st buffer = outcome_at (earliest_turn (cells_in rows)) (take_first q cells (cells_in rows) st buffer)

-- "A taken message frees its cells": what a take with this answer leaves of the records; a refusal leaves them as they were.
abbrev pub records_left : Answer Handed → ℕ → List Cell → List Cell
records_left (refused number) turn cs = cs
records_left (gives h) turn cs = change_cells (bears (ready_as turn)) (λ _. empty_cell) cs
