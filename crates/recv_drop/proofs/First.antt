-- A drop over the first rows: the code's four ways; and what it leaves of the records.
-- Assumes nothing.
use Prim.Native.Nat.{ℕ, ◌*◌, ◌≤◌, ◌<◌}
use mathlib.Core.Path.{◌≡◌, refl, sym, ◌∙◌, ap}
use mathlib.Core.Bool.{Bool, true, false}
use mathlib.Core.List.{List}
use native.Mathlib.Omega.{arith}
use lib.Dec.{leb}
use lib.ListN.{length, take}
use borrow.Author.Tests.{leb-true}
use Rattle.std.specs.Prelude.{Result}
use Rattle.base.specs.Answer.{refused, gives}
use Rattle.base.specs.declared.refusal.Refusal.{Refusal}
use Rattle.base.specs.Refusals.{answer}
use Rattle.base.specs.Limits.{cell_bytes, max_cells}
use Rattle.base.specs.Lists.{count_of}
use Rattle.base.proofs.Choices.{and_left, and_right}
use Rattle.base.proofs.Counts.{count-length}
use Rattle.base.proofs.Ifs.{true-yes, true-no, le_yes, le-no}
use Rattle.cells.specs.Cell.{Cell}
use Rattle.cells.specs.Ages.{is_stale}
use Rattle.cells.specs.Sound.{lengths}
use Rattle.rows.specs.declared.Row.{Row}
use Rattle.rows.specs.Rows.{cells_in}
use Rattle.rows.proofs.Rows.{cells-length}
use Rattle.receiver.specs.declared.RecvQueue.{RecvQueue}
use Rattle.receiver.specs.Receive.{sound_call}
use Rattle.receiver.specs.Drop.{DropResult, drop_refuses, drop_unfinished_of}
use Rattle.receiver.proofs.AnswerCases.{by-true, by_le}
use Rattle.recv_prefix.specs.Dropping.{drop_first}
use Rattle.recv_drop.specs.Outcome.{drop_result, drop_rows_of, records_left}

-- ---- the code's four ways

module _ (q : RecvQueue) (cells : ℕ) (rows : List Row) (st : List ℕ) (n : ℕ) where
  abbrev cs : List Cell
  cs = cells_in rows

  pub unfit_drops : false ≡ lengths cells (length st) → refused 9 ≡ drop_rows_of q cells rows st n
  unfolding drop_rows_of drop_first
  unfit_drops e = ap (λ (x : DropResult). x.answer) (true-no _ (drop_refuses cs) _ _ (sym e) refl)

  module _ (fit : true ≡ lengths cells (length st)) where
    -- there are fewer cells than rows
    pub over_drops : cells < length rows → refused 9 ≡ drop_rows_of q cells rows st n
    unfolding drop_rows_of drop_first
    over_drops lt = ap (λ (x : DropResult). x.answer)
        (true-yes _ (drop_refuses cs) _ _ (sym fit) (le-no _ _ _ _ _ (rw cells-length lt) refl))

    module _ (le : length rows ≤ cells) (b : Bool) (test : b ≡ sound_call q cs (take (cell_bytes * length rows) st)) where
      part : (x : DropResult) → x ≡ drop_unfinished_of q cs (take (cell_bytes * length rows) st) n
          → x.answer ≡ drop_rows_of q cells rows st n
      unfolding drop_rows_of drop_first
      part x h = ap (λ (x : DropResult). x.answer)
          (true-yes _ x _ _ (sym fit) (le_yes _ _ _ _ _ (rw cells-length le) (rw cells-length h)))

      pub unsound_drops : b ≡ false → refused 9 ≡ drop_rows_of q cells rows st n
      unfolding drop_unfinished_of
      unsound_drops e = part (drop_refuses cs) (true-no _ _ _ _ (sym test ∙ e) refl)

      pub sound_drops : b ≡ true → (freed : ℕ) → freed ≡ count_of (is_stale n) cs → gives freed ≡ drop_rows_of q cells rows st n
      unfolding drop_unfinished_of
      sound_drops e freed is = rw is (part _ (true-yes _ _ _ _ (sym test ∙ e) refl))

    -- a count of rows has 32 bits
    pub few_stale : length rows ≤ cells → (freed : ℕ) → freed ≡ count_of (is_stale n) cs → freed ≤ 4294967295
    unfolding lengths
    few_stale le freed is =
        let few = leb-true cells max_cells (and_left (leb cells max_cells) _ (and_right (leb 1 cells) _ (sym fit))) in
        omega (arith, is, count-length (is_stale n) cs, cells-length rows)

pub ruleset ways = (unfit_drops, over_drops, unsound_drops, sound_drops, few_stale)

-- ---- the records

-- The records that a drop leaves, by its answer.
abbrev Leaves : ℕ → List Cell → DropResult → Type 0
Leaves n cs x = x.records ≡ records_left x.answer n cs

first-leaves : (q : RecvQueue) (cells : ℕ) (cs : List Cell) (st : List ℕ) (n : ℕ) → Leaves n cs (drop_first q cells cs st n)
unfolding drop_first drop_unfinished_of
first-leaves q cells cs st n =
    by-true (Leaves n cs) (lengths cells (length st))
    (λ e. by_le (Leaves n cs) (length cs) cells
    (λ l. by-true (Leaves n cs) (sound_call q cs (take (cell_bytes * length cs) st)) (λ s. refl) (λ s. refl)) (λ l. refl))
    (λ e. refl)

-- What a drop over rows says, with the records that it leaves, is the drop over their records.
pub whole_drop : (q : RecvQueue) (cells : ℕ) (rows : List Row) (st : List ℕ) (n : ℕ) (r : Result ℕ Refusal)
    → answer r ≡ drop_rows_of q cells rows st n
    → drop_result r (records_left (answer r) n (cells_in rows)) ≡ drop_first q cells (cells_in rows) st n
unfolding drop_result drop_rows_of
whole_drop q cells rows st n r e = rw e (λ i. record {
  answer = (drop_first q cells (cells_in rows) st n).answer;
  records = sym (first-leaves q cells (cells_in rows) st n) i;
})
