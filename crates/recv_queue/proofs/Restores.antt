-- `restore` as a call that works on blank rows and makes the records of them: the old records are not looked at.
-- Assumes nothing.
use mathlib.Core.Path.{◌≡◌, refl, sym, ◌∙◌, ap}
use mathlib.Core.Bool.{Bool, true, false}
use mathlib.Core.List.{List, map}
use Prim.Native.Nat.{ℕ}
use lib.ListN.{length, replicate}
use Rattle.std.specs.Prelude.{Result, Ok, Err}
use Rattle.std.proofs.lemmas.List.{length-replicate}
use Rattle.base.specs.Answer.{Answer, refused, gives}
use Rattle.base.specs.If.{if_true}
use Rattle.base.specs.declared.refusal.Refusal.{Refusal}
use Rattle.base.specs.declared.refusal.Refusal.TheVariants.{NotSound}
use Rattle.base.specs.Refusals.{answer}
use Rattle.base.proofs.Choices.{same-option}
use Rattle.base.proofs.Ifs.{true-no}
use Rattle.cells.specs.Cell.{Cell, empty_cell}
use Rattle.cells.specs.Sound.{lengths}
use Rattle.rows.specs.declared.Row.{Row}
use Rattle.rows.specs.Rows.{cell_of, stored_row}
use Rattle.row_slots.proofs.First.{stored-cells}
use Rattle.image.specs.Image.{read_image}
use Rattle.receiver.specs.declared.RecvQueue.{RecvQueue}
use Rattle.receiver.specs.Restore.{Restored, restore_of}
use Rattle.recv_restore.specs.Outcome.{restored_rows, rows_outcome, restore_rows_of, RowsRestored}
use Rattle.recv_queue.specs.Answers.{restore_result}

-- a restore's outcome over other records, of which a refusal leaves these
abbrev records_by : Answer (Unit {0}) → List Cell → List Cell → List Cell
records_by (refused number) old new = old
records_by (gives done) old new = new

abbrev over : List Cell → Restored → Restored
over rs x = record {
  answer = x.answer;
  left = record { queue = x.left.queue; records = records_by x.answer rs x.left.records; store = x.left.store };
}

same-true : {A : Type 0} (R : A → A → Type 0) (b : Bool) {x y x' y' : A} → R x x' → R y y' → R (if_true b x y) (if_true b x' y')
unfolding if_true
same-true R true f g = f
same-true R false f g = g

module _ (q : RecvQueue) (rs : List Cell) (st bytes : List ℕ) where
  abbrev Same : Restored → Restored → Type 0
  Same x y = over rs x ≡ y

  -- of as many records
  restore-over : (cs : List Cell) → length cs ≡ length rs → over rs (restore_of q cs st bytes) ≡ restore_of q rs st bytes
  unfolding restore_of
  restore-over cs n =
      rw n (same-true Same (lengths (length rs) (length st))
      (same-option Same (read_image bytes) (read_image bytes) refl (λ e. refl) (λ i e. same-true Same _ refl refl)) refl)

  -- the lengths do not fit
  pub unfit_restore : false ≡ lengths (length rs) (length st) → restore_result (Err NotSound) q rs st ≡ restore_of q rs st bytes
  unfolding restore_result restore_of
  unfit_restore e = true-no _ _ _ _ (sym e) refl

-- ---- the call's promise, of what the core returns and leaves: it gets the rows ls, answers r and leaves the receiver h, the rows ws and
-- the store s
module _ (q : RecvQueue) (rs : List Cell) (st bytes : List ℕ) (h : RecvQueue) (ls ws : List Row) (s : List ℕ)
    (all : length ls ≡ length rs) where
  abbrev core : Restored
  core = restore_of q (replicate (length ls) empty_cell) st bytes

  abbrev Says : Result (Unit {0}) Refusal → Type 0
  Says r = restored_rows r h ws s ≡ restore_rows_of q ls st bytes

  said : (r : Result (Unit {0}) Refusal) (zs : List Cell) → Says r → zs ≡ records_by (answer r) rs (map cell_of ws)
      → restore_result r h zs s ≡ restore_of q rs st bytes
  unfolding restore_result restored_rows restore_rows_of rows_outcome
  said r zs o e =
      let a : answer r ≡ core.answer = ap (λ (x : RowsRestored). x.answer) o in
      let rows : ws ≡ map stored_row core.left.records = ap (λ (x : RowsRestored). x.rows) o in
      let left : zs ≡ records_by core.answer rs core.left.records = rw (← stored-cells core.left.records, ← rows, ← a) e in
      rw (a, ap (λ (x : RowsRestored). x.queue) o, ap (λ (x : RowsRestored). x.store) o, left)
      (restore-over q rs st bytes (replicate (length ls) empty_cell) (length-replicate (length ls) empty_cell ∙ all))

  -- it refuses
  pub restored_err : (e : Refusal) → Says (Err e) → restore_result (Err e) h rs s ≡ restore_of q rs st bytes
  restored_err e o = said (Err e) rs o refl

  -- it restores
  pub restored_ok : (u : Unit {0}) (zs : List Cell) → Says (Ok u) → zs ≡ map cell_of ws → restore_result (Ok u) h zs s
      ≡ restore_of q rs st bytes
  restored_ok u zs o e = said (Ok u) zs o e
