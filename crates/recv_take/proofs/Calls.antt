-- A take over all rows: what soundness gives, and the code's three ways.
-- Assumes nothing.
use Prim.Native.Nat.{ℕ, ◌≤◌, ◌<◌}
use mathlib.Core.Path.{◌≡◌, refl, sym, ◌∙◌, ap, subst}
use mathlib.Core.Bool.{Bool, true, false}
use mathlib.Core.Option.{none, some}
use mathlib.Core.List.Memᴰ
use mathlib.Core.List.{List, [], Memᴰ}
use native.Mathlib.Omega.{arith}
use lib.Dec.{eqb}
use lib.ListN.{length, get_or}
use borrow.Author.Tests.{eq-eqb, ltb-true}
use Rattle.std.specs.Prelude.{Err}
use Rattle.base.specs.declared.refusal.Refusal.TheVariants.{NotSound, NoneReady}
use Rattle.base.specs.Limits.{cell_bytes, max_frags}
use Rattle.base.specs.Lists.{find, any}
use Rattle.base.proofs.Choices.{cases, case_option, and_left, and_right, and_both}
use Rattle.base.proofs.Ifs.{true-yes, true-no}
use Rattle.base.proofs.Lists.{find-some, any-all, below_at}
use Rattle.cells.specs.Cell.{Cell, Slot, ready_as, at, of, sits, is_free, is_ready, all_there, empty_cell}
use Rattle.cells.specs.Records.{before_cell, first_cell, index_of, earliest_cell}
use Rattle.cells.specs.Store.{cell_size, slots_of, cells_of}
use Rattle.cells.specs.Take.{earliest}
use Rattle.cells.proofs.Keys.{of-ready, key-used}
use Rattle.cells.proofs.Records.{any_cells, earliest-cells}
use Rattle.cells.proofs.SoundRest.{Rest}
use Rattle.cells.proofs.SoundTest.{sound-rest}
use Rattle.cells.proofs.Store.{cells-slots}
use Rattle.cells.proofs.Takes.{earliest-below}
use Rattle.cells.proofs.TurnOrder.{earliest-ready}
use Rattle.rows.specs.Rows.{cell_of, cells_in}
use Rattle.rows.proofs.Rows.{cells-length, row_here}
use Rattle.rows.specs.declared.Row.{Row}
use Rattle.row_scans.specs.Ready.{first_ready}
use Rattle.row_scans.proofs.Ready.{index-there, ready-is, ready-none}
use Rattle.receiver.specs.declared.RecvQueue.{RecvQueue}
use Rattle.receiver.specs.Queue.{next_of}
use Rattle.receiver.specs.Receive.{sound_call}
use Rattle.receiver.specs.Take.{take_refuses, take_of}
use Rattle.receiver.proofs.Receives.{store_is, cells-sound}
use Rattle.recv_take.specs.Outcome.{RowsTaken, taken_rows, outcome_at, earliest_turn}
use Rattle.recv_take.specs.Pieces.{piece_at, PieceFits, Takeable, take_turn}
use Rattle.recv_take.proofs.Turns.{ready-used, first_turn}

-- The least turn, over slots.
pub slots-earliest : (cs : List Cell) (st : List ℕ) → earliest (slots_of cs st) ≡ earliest_cell cs
slots-earliest cs st = earliest-cells (slots_of cs st) ∙ ap earliest_cell (cells-slots cs st)

module _ (cs : List Cell) (st : List ℕ) where
  none_of : (p : Cell → Bool) → ((x : Slot) → Memᴰ x (slots_of cs st) → p x.cell ≡ true → ⊥) → any p cs ≡ false
  none_of p h =
      ap (any p) (sym (cells-slots cs st)) ∙ (any_cells p (slots_of cs st)
      ∙ any-all (λ (x : Slot). p x.cell) (slots_of cs st) (λ x m. cases (p x.cell) (λ y. absurd (h x m y)) (λ y. y)))

  -- The earliest turn is at most that of each message's first piece.
  turn_below : (x : Slot) → Memᴰ x (slots_of cs st) → first_cell x.cell ≡ true → (t : ℕ) × (earliest_cell cs ≡ some t)
      × (t ≤ x.cell.turn)
  unfolding first_cell is_ready
  turn_below x m f = rw (← slots-earliest cs st) (earliest-below (slots_of cs st) x m (and_left (eqb x.cell.used 3) _ f))

  none_before : (t : ℕ) → earliest_cell cs ≡ some t → any (before_cell t) cs ≡ false
  unfolding before_cell first_cell
  none_before t e = none_of (before_cell t) (λ x m y.
      let r = turn_below x m (and_left (first_cell x.cell) _ y) in
      let l = ltb-true x.cell.turn t (and_right (first_cell x.cell) _ y) in
      let z : r.0 ≡ t = cc (e, r.1) in
      let w = r.2 in
      omega arith)

  none_first : earliest_cell cs ≡ none → any first_cell cs ≡ false
  none_first e = none_of first_cell (λ x m y.
      let r = turn_below x m y in
      let z : ◌≡◌ {A = ℕ} 0 1 = cc (e, r.1) in
      omega arith)

module _ (q : RecvQueue) (cs : List Cell) (st : List ℕ) (s : sound_call q cs st ≡ true) where
  rest : Rest (next_of q) (slots_of cs st)
  rest = sound-rest (next_of q) (slots_of cs st) (rw (cells-slots cs st) (cells-sound q cs st s))

  -- A used record is within the limits.
  used-within : (c : Cell) → Memᴰ c cs → eqb c.used 0 ≡ false → PieceFits c
  unfolding cells_of is_free
  used-within c m =
      let a = Memᴰ.of_map (λ (x : Slot). x.cell) (slots_of cs st) (rw (← cells-slots cs st) at m) in
      subst (λ (c : Cell). eqb c.used 0 ≡ false → PieceFits c) a.2 (λ e. let b = rest.core.bounds a.0 a.1 e in
      slot-within a.0 b.kind b.channel b.count b.length)
    where
      slot-within : (x : Slot) → x.cell.kind ≤ 7 → x.cell.channel < 32 → x.cell.count ≤ max_frags → x.cell.length ≤ cell_bytes
          → PieceFits x.cell
      slot-within x k h n l = record { kind = omega arith; channel = omega arith; count = n; length = l }

  empty-within : PieceFits empty_cell
  unfolding empty_cell
  empty-within = record { kind = omega arith; channel = omega arith; count = omega arith; length = omega arith }

  piece-within : (t i : ℕ) → PieceFits (piece_at t cs i)
  unfolding piece_at
  piece-within t i = case_option (find (at (ready_as t) i) cs)
      (λ e. rw e empty-within)
      (λ c e. let f = find-some (at (ready_as t) i) cs e in rw e (used-within c f.0 (ready-used t cs st i c f.1)))

  -- The earliest ready message has a first piece.
  first-there : (t : ℕ) → earliest_cell cs ≡ some t → any (at (ready_as t) 0) cs ≡ true
  unfolding sits all_there
  first-there t e =
      let a = earliest-ready (slots_of cs st) t (slots-earliest cs st ∙ e) in
      let o : of (ready_as t) a.0 ≡ true = of-ready t a.0 ∙ and_both _ _ a.2 (eq-eqb a.0.cell.turn t a.3) in
      let full = rest.core.full (ready_as t) (λ z. omega arith) a.0 a.1 o in
      let some-count = (rest.core.bounds a.0 a.1 (key-used (ready_as t) a.0 o)).some-count in
      let there = below_at a.0.cell.count (λ i. any (sits (ready_as t) i) (slots_of cs st)) full 0 (omega arith) in
      ap (any (at (ready_as t) 0)) (sym (cells-slots cs st)) ∙ (any_cells (at (ready_as t) 0) (slots_of cs st) ∙ there)

  -- So it may be taken.
  pub takeable : (t : ℕ) → earliest_cell cs ≡ some t → Takeable t cs st
  unfolding cell_size
  takeable t e = record { first = first-there t e; within = piece-within t; store = (let n = store_is q cs st s in omega arith) }

  -- The scan finds its first piece; where none is ready it is past the end.
  first-is : (t : ℕ) → earliest_cell cs ≡ some t → first_ready cs ≡ index_of (at (ready_as t) 0) cs
  first-is t e = ready-is cs t (none_before cs st t e) (first-there t e)

  first_past : earliest_cell cs ≡ none → first_ready cs ≡ length cs
  first_past e = ready-none cs (none_first cs st e)

-- ---- the code's three ways

module _ (q : RecvQueue) (rows : List Row) (st buffer : List ℕ) where
  abbrev cs : List Cell
  cs = cells_in rows

  pub took_9 : sound_call q cs st ≡ false → taken_rows (Err NotSound) buffer ≡ outcome_at (earliest_turn cs) (take_of q cs st buffer)
  unfolding taken_rows outcome_at take_of
  took_9 f = ap (outcome_at (earliest_turn cs)) (true-no _ _ _ _ f refl)

  module _ (sound : sound_call q cs st ≡ true) where
    pub took_20 : first_ready cs ≡ length rows → taken_rows (Err NoneReady) buffer ≡ outcome_at (earliest_turn cs) (take_of q cs st buffer)
    unfolding taken_rows outcome_at take_of
    took_20 past = ap (outcome_at (earliest_turn cs)) given
      where
        none-ready : earliest_cell cs ≡ none
        none-ready = case_option (earliest_cell cs) (λ e. e) (λ t e.
            let l = index-there (at (ready_as t) 0) cs (takeable q cs st sound t e).first in
            let h = first-is q cs st sound t e in
            let n = cells-length rows in
            absurd (omega arith))

        given : take_refuses cs buffer 20 ≡ take_of q cs st buffer
        given = rw (slots-earliest cs st, none-ready) (true-yes _ _ _ _ sound refl)

    -- The scan found row i.
    module _ (i : ℕ) (l : i < length rows) (found : i ≡ first_ready cs) (d : Row) where
      abbrev first : Cell
      first = cell_of (get_or rows i d)

      pub earliest_here : earliest_cell cs ≡ some first.turn
      earliest_here = case_option (earliest_cell cs)
          (λ e. let h = first_past q cs st sound e in let n = cells-length rows in absurd (omega arith))
          (λ t e. e ∙ ap some (sym (rw (row_here rows i d l, found ∙ first-is q cs st sound t e)
          (first_turn t rows st [] (takeable q cs st sound t e)))))

      pub first_here : i ≡ index_of (at (ready_as first.turn) 0) cs
      first_here = found ∙ first-is q cs st sound first.turn earliest_here

      pub took_turn : (x : RowsTaken) → x ≡ outcome_at first.turn (take_turn first.turn cs st buffer) → x ≡ outcome_at (earliest_turn cs)
          (take_of q cs st buffer)
      unfolding take_of take_turn earliest_turn
      took_turn x h =
          let given : take_turn first.turn cs st buffer ≡ take_of q cs st buffer = rw (slots-earliest cs st, earliest_here)
          (true-yes _ _ _ _ sound refl) in
          h ∙ rw earliest_here (ap (outcome_at first.turn) given)

pub ruleset ways = (took_9, took_20, first_here, took_turn)
