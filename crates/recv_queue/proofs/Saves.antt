-- `save` as a call that loads all records and works.
-- Assumes nothing.
use mathlib.Core.Path.{◌≡◌, refl, sym, ◌∙◌, ap}
use mathlib.Core.Bool.{true, false}
use mathlib.Core.List.{List, map}
use Prim.Native.Nat.{ℕ, ◌≤◌}
use lib.Dec.{leb}
use lib.ListN.{length}
use borrow.Author.Tests.{leb-true}
use Rattle.std.specs.Prelude.{Err}
use Rattle.base.specs.declared.refusal.Refusal.TheVariants.{NotSound}
use Rattle.base.specs.Limits.{max_cells}
use Rattle.base.proofs.Choices.{and_left, and_right}
use Rattle.base.proofs.Ifs.{true-no}
use Rattle.cells.specs.Cell.{Cell}
use Rattle.cells.specs.Sound.{lengths}
use Rattle.rows.specs.declared.Row.{Row}
use Rattle.rows.specs.Rows.{cell_of, cells_in, stored_row}
use Rattle.row_slots.proofs.First.{stored-cells}
use Rattle.receiver.specs.declared.RecvQueue.{RecvQueue}
use Rattle.receiver.specs.Receive.{sound_call}
use Rattle.receiver.specs.Save.{Saved, save_of}
use Rattle.recv_save.specs.Outcome.{save_result}
use Rattle.recv_queue.specs.Records.{Converted}

-- where the lengths fit, there are no more records than a receiver may have
pub few_cells : (n m : ℕ) → true ≡ lengths n m → n ≤ max_cells
unfolding lengths
few_cells n m e = leb-true n max_cells (and_left (leb n max_cells) _ (and_right (leb 1 n) _ (sym e)))

module _ (q : RecvQueue) (rs : List Cell) (st out : List ℕ) where
  -- the lengths do not fit
  pub unfit_save : false ≡ lengths (length rs) (length st) → save_result (Err NotSound) out ≡ save_of q rs st out
  unfolding save_of sound_call
  unfit_save e = true-no _ _ _ _ (rw (sym e) refl) refl

  -- the core is lent all records as rows
  pub saved : (ls : List Row) → Converted (λ c r. r ≡ stored_row c) rs ls → (x : Saved) → x ≡ save_of q (cells_in ls) st out
      → x ≡ save_of q rs st out
  unfolding cells_in
  saved ls loaded x core =
      let cells : cells_in ls ≡ rs = ap (map cell_of) (loaded stored_row (λ c r e. e)) ∙ stored-cells rs in
      core ∙ ap (λ (cs : List Cell). save_of q cs st out) cells
