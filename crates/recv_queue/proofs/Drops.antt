-- `drop_unfinished` as a call that loads, works and frees the stale records.
-- Assumes nothing.
use mathlib.Core.Path.{◌≡◌, sym, ◌∙◌, ap}
use Rattle.std.specs.Prelude.{Result, Ok, Err}
use Prim.Native.Nat.{ℕ}
use mathlib.Core.List.{List, ◌++◌, map}
use lib.ListN.{length, take, drop, take-append-drop}
use lib.Seq.{length-take-le}
use Rattle.base.specs.declared.refusal.Refusal.{Refusal}
use Rattle.base.specs.Refusals.{answer}
use Rattle.cells.specs.Cell.{Cell}
use Rattle.cells.specs.Ages.{is_stale}
use Rattle.cells.specs.Records.{change_cells}
use Rattle.rows.specs.declared.Row.{Row}
use Rattle.rows.specs.Rows.{cell_of, cells_in, stored_row}
use Rattle.row_slots.proofs.First.{stored-cells}
use Rattle.receiver.specs.declared.RecvQueue.{RecvQueue}
use Rattle.receiver.specs.Drop.{drop_unfinished_of}
use Rattle.recv_prefix.specs.Dropping.{beside_dropped}
use Rattle.recv_prefix.proofs.Enough.{drop-enough}
use Rattle.recv_drop.specs.Outcome.{drop_result, drop_rows_of, records_left}
use Rattle.recv_drop.proofs.First.{whole_drop}
use Rattle.recv_queue.specs.Records.{Converted, record_left_by}
use Rattle.recv_queue.proofs.Enough.{Enough, needs_within}

-- The call's promise, of what the calls in its body return and leave: the core gets the first k records as the rows ls, and answers r.
module _ (q : RecvQueue) (rs : List Cell) (st : List ℕ) (n : ℕ) (ls : List Row) (k : ℕ) (is : Enough rs st k)
    (loaded : Converted (λ c r. r ≡ stored_row c) (take k rs) ls) where
  load : ls ≡ map stored_row (take k rs)
  load = loaded stored_row (λ c r e. e)

  said : (r : Result ℕ Refusal) → answer r ≡ drop_rows_of q (length rs) ls st n
      → drop_result r (records_left (answer r) n (take k rs) ++ drop k rs) ≡ drop_unfinished_of q rs st n
  unfolding drop_result beside_dropped
  said r core =
      let cells : cells_in ls ≡ take k rs = unfold cells_in in ap (map cell_of) load ∙ stored-cells (take k rs) in
      ap (beside_dropped (drop k rs)) (rw cells at (whole_drop q (length rs) ls st n r core)) ∙ sym (drop-enough q rs st n k is)

  -- it refuses
  pub dropped_err : (r : Refusal) → answer (Err r) ≡ drop_rows_of q (length rs) ls st n
      → drop_result (Err r) rs ≡ drop_unfinished_of q rs st n
  dropped_err r core = ap (drop_result (Err r)) (sym (take-append-drop k rs)) ∙ said (Err r) core

  -- it gives a number
  pub dropped_ok : (freed : ℕ) (zs : List Cell) → answer (Ok freed) ≡ drop_rows_of q (length rs) ls st n
      → zs ≡ map (record_left_by (is_stale n)) (take k rs) → drop_result (Ok freed) (zs ++ drop k rs) ≡ drop_unfinished_of q rs st n
  unfolding change_cells record_left_by
  dropped_ok freed zs core free = ap (λ (cs : List Cell). drop_result (Ok freed) (cs ++ drop k rs)) free ∙ said (Ok freed) core

-- what the body of `drop_in` needs
pub ruleset drops = (length-take-le, needs_within, dropped_err, dropped_ok)
