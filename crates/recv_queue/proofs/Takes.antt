-- `take` as a call that loads, works and frees the records of the message.
-- Assumes nothing.
use mathlib.Core.Path.{◌≡◌, sym, ◌∙◌, ap}
use Rattle.std.specs.Prelude.{Result, Ok, Err}
use Prim.Native.Nat.{ℕ}
use mathlib.Core.List.{List, ◌++◌, map}
use lib.ListN.{length, take, drop, take-append-drop}
use lib.Seq.{length-take-le, take_all}
use Rattle.base.specs.declared.refusal.Refusal.{Refusal}
use Rattle.base.specs.Refusals.{answer_by}
use Rattle.cells.specs.Cell.{Cell, ready_as, bears}
use Rattle.cells.specs.Records.{change_cells}
use Rattle.rows.specs.declared.Row.{Row}
use Rattle.rows.specs.Rows.{cell_of, cells_in, stored_row}
use Rattle.row_slots.proofs.First.{stored-cells}
use Rattle.receiver.specs.declared.RecvQueue.{RecvQueue}
use Rattle.receiver.specs.Take.{take_of}
use Rattle.recv_prefix.specs.Taking.{beside_taken}
use Rattle.recv_prefix.proofs.Enough.{take-enough}
use Rattle.recv_take.specs.declared.TakenRows.{TakenRows}
use Rattle.recv_take.specs.Outcome.{handed_of, take_result, without_turn, turn_given, taken_rows, take_rows_of, records_left}
use Rattle.recv_take.proofs.First.{whole_take}
use Rattle.recv_queue.specs.Records.{Converted, record_left_by}
use Rattle.recv_queue.proofs.Enough.{Enough, needs_within}

-- ---- the call's promise, of what the calls in its body return and leave: the core gets the first k records as the rows ls, answers r and
-- leaves the joining buffer u
module _ (q : RecvQueue) (rs : List Cell) (st j : List ℕ) (ls : List Row) (u : List ℕ) (k : ℕ) (is : Enough rs st k)
    (loaded : Converted (λ c r. r ≡ stored_row c) (take k rs) ls) where
  load : ls ≡ map stored_row (take k rs)
  load = loaded stored_row (λ c r e. e)

  said : (r : Result TakenRows Refusal) → taken_rows r u ≡ take_rows_of q (length rs) ls st j
      → take_result (without_turn r) (records_left (answer_by handed_of (without_turn r)) (turn_given r) (take k rs) ++ drop k rs) u
      ≡ take_of q rs st j
  unfolding take_result beside_taken
  said r core =
      let cells : cells_in ls ≡ take k rs = unfold cells_in in ap (map cell_of) load ∙ stored-cells (take k rs) in
      ap (beside_taken (drop k rs)) (rw cells at (whole_take q (length rs) ls st j r u core)) ∙ sym (take-enough q rs st j k is)

  -- it refuses
  pub taken_err : (r : Refusal) → taken_rows (Err r) u ≡ take_rows_of q (length rs) ls st j → take_result (Err r) rs u ≡ take_of q rs st j
  taken_err r core = ap (λ (cs : List Cell). take_result (Err r) cs u) (sym (take-append-drop k rs)) ∙ said (Err r) core

  -- it gives a message
  pub taken_ok : (t : TakenRows) (zs : List Cell) → taken_rows (Ok t) u ≡ take_rows_of q (length rs) ls st j
      → zs ≡ map (record_left_by (bears (ready_as t.turn))) (take k rs) → take_result (Ok t.taken) (zs ++ drop k rs) u ≡ take_of q rs st j
  unfolding change_cells record_left_by
  taken_ok t zs core free = ap (λ (cs : List Cell). take_result (Ok t.taken) (cs ++ drop k rs) u) free ∙ said (Ok t) core

-- what the body of `take_in` needs
pub ruleset takes = (length-take-le, needs_within, taken_err, taken_ok)
