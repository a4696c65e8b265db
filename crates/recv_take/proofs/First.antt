-- A take over the first rows: the code's three ways; and what it leaves of the records.
-- Assumes nothing.
use Prim.Native.Nat.{ℕ, ◌*◌, ◌≤◌, ◌<◌}
use mathlib.Core.Path.{◌≡◌, refl, sym, ◌∙◌, ap}
use mathlib.Core.Bool.{true, false}
use mathlib.Core.List.{List}
use lib.Dec.{eqb}
use lib.ListN.{length, take}
use Rattle.std.specs.Prelude.{Result, Err}
use Rattle.base.specs.Answer.{Answer, refused, gives}
use Rattle.base.specs.declared.refusal.Refusal.{Refusal}
use Rattle.base.specs.declared.refusal.Refusal.TheVariants.{NotSound}
use Rattle.base.specs.Refusals.{answer_by}
use Rattle.base.specs.Limits.{cell_bytes}
use Rattle.base.proofs.Choices.{by_bool}
use Rattle.base.proofs.Ifs.{true-yes, true-no, le_yes, le-no}
use Rattle.bare.specs.Frame.{Message}
use Rattle.cells.specs.Cell.{Cell, ready_as, bears, empty_cell}
use Rattle.cells.specs.Records.{change_cells}
use Rattle.cells.specs.Sound.{lengths}
use Rattle.cells.specs.Store.{slots_of}
use Rattle.cells.proofs.Records.{cells-freed}
use Rattle.cells.proofs.Store.{cells-slots}
use Rattle.rows.specs.declared.Row.{Row}
use Rattle.rows.specs.Rows.{cells_in}
use Rattle.rows.proofs.Rows.{cells-length}
use Rattle.receiver.specs.declared.RecvQueue.{RecvQueue}
use Rattle.receiver.specs.Take.{Handed, TakeResult, handed, take_of}
use Rattle.receiver.proofs.AnswerCases.{by-true, by-lt, by_le, take-ways}
use Rattle.recv_prefix.specs.Taking.{take_first}
use Rattle.recv_take.specs.declared.TakenRows.{TakenRows}
use Rattle.recv_take.specs.Outcome.{handed_of, take_result, RowsTaken, without_turn, turn_given, taken_rows, turn_taken, outcome_at}
use Rattle.recv_take.specs.Outcome.{earliest_turn, take_rows_of, records_left}
use Rattle.recv_take.proofs.Calls.{slots-earliest}

-- ---- the code's three ways

module _ (q : RecvQueue) (n : ℕ) (rows : List Row) (st out : List ℕ) where
  pub unfit_takes : false ≡ lengths n (length st) → taken_rows (Err NotSound) out ≡ take_rows_of q n rows st out
  unfolding taken_rows take_rows_of take_first outcome_at
  unfit_takes e = ap (outcome_at (earliest_turn (cells_in rows))) (true-no _ _ _ _ (sym e) refl)

  module _ (fit : true ≡ lengths n (length st)) where
    -- there are fewer cells than rows
    pub over_takes : n < length rows → taken_rows (Err NotSound) out ≡ take_rows_of q n rows st out
    unfolding taken_rows take_rows_of take_first outcome_at
    over_takes lt = ap (outcome_at (earliest_turn (cells_in rows)))
        (true-yes _ _ _ _ (sym fit) (le-no _ _ _ _ _ (rw cells-length lt) refl))

    pub part_takes : length rows ≤ n → (x : RowsTaken)
        → x ≡ outcome_at (earliest_turn (cells_in rows)) (take_of q (cells_in rows) (take (cell_bytes * length rows) st) out)
        → x ≡ take_rows_of q n rows st out
    unfolding take_rows_of take_first
    part_takes le x h = h ∙ ap (outcome_at (earliest_turn (cells_in rows)))
        (true-yes _ _ _ _ (sym fit) (le_yes _ _ _ _ _ (rw cells-length le) (rw cells-length)))

pub ruleset ways = (unfit_takes, over_takes, part_takes)

-- ---- the records

-- The records that a take leaves, by its answer.
abbrev Leaves : List Cell → TakeResult → Type 0
Leaves cs x = x.records ≡ records_left x.answer (earliest_turn cs) cs

module _ (cs : List Cell) (st buffer : List ℕ) where
  handed-leaves : (t : ℕ) → earliest_turn cs ≡ t → (m : Message) (first : Cell) → Leaves cs (handed cs st buffer t m first)
  unfolding handed
  handed-leaves t e m first =
      let left = cells-freed (ready_as t) (slots_of cs st) ∙ ap (change_cells (bears (ready_as t)) (λ c. empty_cell)) (cells-slots cs st) in
      by_bool (Leaves cs) (eqb first.count 1)
      (λ b. rw e left)
      (λ b. by-lt (Leaves cs) (length buffer) (length m.body) (λ l. refl) (λ l. rw e left))

  take-leaves : (q : RecvQueue) → Leaves cs (take_of q cs st buffer)
  unfolding earliest_turn
  take-leaves q = take-ways q cs st buffer (Leaves cs) (λ number. refl)
      (λ f. handed-leaves f.turn (rw (sym (slots-earliest cs st) ∙ f.earliest-is)) f.message f.first)

first-leaves : (q : RecvQueue) (n : ℕ) (cs : List Cell) (st buffer : List ℕ) → Leaves cs (take_first q n cs st buffer)
unfolding take_first
first-leaves q n cs st buffer =
    by-true (Leaves cs) (lengths n (length st))
    (λ e. by_le (Leaves cs) (length cs) n (λ l. take-leaves cs (take (cell_bytes * length cs) st) buffer q) (λ l. refl))
    (λ e. refl)

-- What a take over rows says, with the records that it leaves, is the take over their records.
pub whole_take : (q : RecvQueue) (n : ℕ) (rows : List Row) (st buffer : List ℕ) (r : Result TakenRows Refusal) (out : List ℕ)
    → taken_rows r out ≡ take_rows_of q n rows st buffer
    → take_result (without_turn r) (records_left (answer_by handed_of (without_turn r)) (turn_given r) (cells_in rows)) out
    ≡ take_first q n (cells_in rows) st buffer
unfolding taken_rows take_rows_of take_result outcome_at
whole_take q n rows st buffer r out e =
    let x : TakeResult = take_first q n (cells_in rows) st buffer in
    let cs : List Cell = cells_in rows in
    let a : answer_by handed_of (without_turn r) ≡ x.answer = ap (λ (y : RowsTaken). y.answer) e in
    let t : turn_given r ≡ turn_taken x.answer (earliest_turn cs) = ap (λ (y : RowsTaken). y.turn) e in
    let o : out ≡ x.joined = ap (λ (y : RowsTaken). y.joined) e in
    rw (a, t, o) (ap (λ (l : List Cell). record { answer = x.answer; records = l; joined = x.joined })
    (left x.answer (earliest_turn cs) cs ∙ sym (first-leaves q n cs st buffer)))
  where
    left : (a : Answer Handed) (t : ℕ) (cs : List Cell) → records_left a (turn_taken a t) cs ≡ records_left a t cs
    left (refused number) t cs = refl
    left (gives h) t cs = refl
