-- What a datagram's frames begin with is what the definition begins with.
-- Assumes nothing.
use Prim.Native.Nat.{ℕ, ◌≤◌}
use mathlib.Core.Path.{◌≡◌, refl, sym, ◌∙◌, ap}
use mathlib.Core.Bool.{Bool, true}
use mathlib.Core.List.Memᴰ
use mathlib.Core.List.{List, [], ◌∷◌, map, map-map, Memᴰ}
use native.Mathlib.Omega.{arith}
use lib.Dec.{eqb, leb}
use lib.ListN.{length, length-map}
use borrow.Author.Tests.{leb-true, eq-eqb, ne_eqb}
use Rattle.base.specs.Limits.{max_cells, max_ord_chans}
use Rattle.base.specs.Lists.{count_of}
use Rattle.base.proofs.Choices.{cases, and_left, and_right}
use Rattle.window.specs.declared.ReliableWindow.{ReliableWindow}
use Rattle.window.specs.Window.{accepted}
use Rattle.cells.specs.Cell.{Cell, is_ready}
use Rattle.cells.specs.Ages.{grown}
use Rattle.cells.specs.Datagram.{is_first, renumber, begin, grow, place}
use Rattle.cells.specs.Records.{first_cell, before_cell}
use Rattle.cells.specs.Sound.{lengths}
use Rattle.cells.specs.Store.{slots_of}
use Rattle.cells.proofs.Records.{count-cells}
use Rattle.cells.proofs.Store.{cells-slots}
use Rattle.cells.proofs.SoundCascade.{Sound}
use Rattle.cells.proofs.SoundRest.{begin-sound}
use Rattle.cells.proofs.Aging.{grown-sound}
use Rattle.cells.proofs.SoundTest.{sound-rest}
use Rattle.rows.specs.declared.Row.{Row}
use Rattle.rows.specs.Rows.{cell_of, cells_in, mark_row, older_row, change_row, change_rows}
use Rattle.row_tests.specs.Uses.{uses}
use Rattle.rows.proofs.Rows.{cells-length}
use Rattle.row_ranks.specs.Renumber.{renumbered}
use Rattle.row_ranks.proofs.Renumbering.{renumbered-is}
use Rattle.row_slots.specs.Slots.{slots_in, AllFit}
use Rattle.row_slots.proofs.Meaning.{slots-stored}
use Rattle.row_slots.proofs.Changes.{slots-renumbered, slots-grown}
use Rattle.row_slots.proofs.Fitting.{fit-stored, fit-renumbered, fit-grown, changed-length}
use Rattle.row_bodies.specs.Flush.{stored}
use Rattle.receiver.specs.declared.RecvQueue.{RecvQueue}
use Rattle.receiver.specs.declared.Nexts.{Nexts}
use Rattle.receiver.specs.Parts.{nexts_of, next_at}
use Rattle.receiver.specs.Queue.{next_of}
use Rattle.receiver.specs.Receive.{state_of, sound_call}
use Rattle.receiver.proofs.NextsSet.{next-of-nexts, newest-of-nexts}
use Rattle.receiver.proofs.Receives.{lengths-sound, cells-sound, bodies-short}
use Rattle.recv_steps.specs.Work.{work_of}
use Rattle.recv_steps.specs.Frames.{Begun, begun_tally}
use Rattle.recv_steps.specs.Receives.{Numbered, ranked_rows, begun_row, begun_rows}
use Rattle.recv_steps.proofs.Changing.{count_few}

-- ---- places cleared

stored_cells : (rs : List Row) → map cell_of (map stored rs) ≡ map cell_of rs
unfolding stored
stored_cells [] = refl
stored_cells (r ∷ rs) = ap (λ (cs : List Cell). cell_of r ∷ cs) (stored_cells rs)

stored-places : (rs : List Row) (r : Row) → Memᴰ r (map stored rs) → r.place ≡ 0
unfolding stored
stored-places rs r m = let a = Memᴰ.of_map stored rs m in sym (ap (λ (x : Row). x.place) a.2)

-- The numbering of turns looks at no place.
ranked-stored : (rs : List Row) → map stored (ranked_rows rs) ≡ ranked_rows (map stored rs)
unfolding ranked_rows change_rows change_row stored mark_row
ranked-stored rs = rw (stored_cells rs)
    (map-map stored ranked rs ∙ (λ i. map (λ (r : Row). one r i) rs) ∙ sym (map-map ranked stored rs))
  where
    ranked : Row → Row
    ranked = change_row (uses 3) (λ r. mark_row 3 (count_of (before_cell r.cell.turn) (map cell_of rs)) r)

    one : (r : Row) → stored (ranked r) ≡ ranked (stored r)
    one r = cases (eqb r.cell.used 3) (λ t. rw t) (λ t. rw t)

-- ---- what `begin` leaves

-- A row, as the code finds it: q is the row without its place, open or not.
module _ (r : Row) {q : Row} (e : q ≡ stored r) where
  same_use : q.cell.used ≡ r.cell.used
  unfolding stored
  same_use = ap (λ (x : Row). x.cell.used) e

  pub begun_open : q.cell.used ≡ 1 → {q' : Row} → q' ≡ older_row q → q' ≡ begun_row r
  unfolding begun_row change_row stored
  begun_open t z = let u = eq-eqb r.cell.used 1 (sym same_use ∙ t) in z ∙ ap older_row e ∙ rw u

  pub begun_other : (q.cell.used ≡ 1 → ⊥) → q ≡ begun_row r
  unfolding begun_row change_row stored
  begun_other t = let u = ne_eqb r.cell.used 1 (λ z. t (same_use ∙ z)) in e ∙ rw u

-- what `begin_row` needs
pub ruleset begins = (begun_open, begun_other)

-- As the code finds them: the turns are numbered, and then the rows begun.
pub begins_rows : (rs : List Row) {rs₁ rs₂ : List Row} → length rs ≤ max_cells → rs₁ ≡ renumbered rs → rs₂ ≡ map begun_row rs₁
    → rs₂ ≡ begun_rows rs
unfolding begun_rows ranked_rows cells_in
begins_rows rs h n e = e ∙ ap (map begun_row) (n ∙ renumbered-is rs h)

-- In the definition's order: the bodies stand in the store, the turns are numbered, the open rows grow older.
begun-is : (rs : List Row) → begun_rows rs ≡ change_rows (uses 1) older_row (ranked_rows (map stored rs))
unfolding begun_rows begun_row change_rows
begun-is rs = sym (map-map (change_row (uses 1) older_row) stored (ranked_rows rs))
    ∙ ap (map (change_row (uses 1) older_row)) (ranked-stored rs)

-- ---- the slots and the working state

module _ (rs : List Row) (st d : List ℕ) where
  ranked-slots : slots_in (ranked_rows (map stored rs)) st d ≡ renumber (slots_of (cells_in rs) st)
  unfolding ranked_rows cells_in
  ranked-slots =
      slots-renumbered (map stored rs) st d
      ∙ ap renumber (slots-stored (map stored rs) st d (stored-places rs) ∙ ap (λ (cs : List Cell). slots_of cs st) (stored_cells rs))

  begun-slots : slots_in (begun_rows rs) st d ≡ grown (renumber (slots_of (cells_in rs) st))
  begun-slots = ap (λ (l : List Row). slots_in l st d) (begun-is rs)
      ∙ slots-grown (ranked_rows (map stored rs)) st d ∙ ap grown ranked-slots

first-slots : (cs : List Cell) (st : List ℕ) → count_of first_cell cs ≡ count_of is_first (slots_of cs st)
first-slots cs st = ap (count_of first_cell) (sym (cells-slots cs st))
    ∙ (count-cells first_cell (slots_of cs st) ∙ (unfold is_first is_ready first_cell in refl))

module _ (q : RecvQueue) (rs : List Row) (st d : List ℕ) where
  -- The working state is the definition's at its begin, once the open ids grew older.
  pub begun-work : work_of (accepted q.reliables) (begun_tally (count_of first_cell (cells_in rs))) (nexts_of q) (begun_rows rs) st d
      ≡ grow (begin (state_of q (cells_in rs) st))
  unfolding work_of grow place begin state_of nexts_of
  begun-work = rw (begun-slots rs st d, first-slots (cells_in rs) st, next-of-nexts q, newest-of-nexts q)

  -- ---- what the frames require

  module _ {ascends : Bool} {number : ℕ} (n : Numbered q rs st d ascends number) where
    abbrev sound : sound_call q (cells_in rs) st ≡ true
    sound = n.sound

    pub few_rows : length rs ≤ max_cells
    few_rows = omega (arith, few, cells-length rs)
      where
        few : length (cells_in rs) ≤ max_cells
        few = unfold lengths in leb-true (length (cells_in rs)) max_cells
            (and_left _ _ (and_right (leb 1 (length (cells_in rs))) _ (lengths-sound q (cells_in rs) st sound)))

    begun-few : length (begun_rows rs) ≤ max_cells
    unfolding begun_rows ranked_rows
    begun-few = omega (
      arith,
      few_rows,
      length-map (ranked_rows rs) begun_row,
      changed-length (uses 3) (λ r. mark_row 3 (count_of (before_cell r.cell.turn) (map cell_of rs)) r) rs,
    )

    begun-sound : (store : List ℕ) → Sound (next_at (nexts_of q)) (slots_in (begun_rows rs) store d) (count_of first_cell (cells_in rs))
    begun-sound store =
        rw (begun-slots rs store d, first-slots (cells_in rs) store, next-of-nexts q)
        (grown-sound (renumber (slots_of (cells_in rs) store))
        (begin-sound (next_of q) (slots_of (cells_in rs) store)
        (sound-rest (next_of q) (slots_of (cells_in rs) store)
        (rw (cells-slots (cells_in rs) store) (cells-sound q (cells_in rs) st sound)))))

    begun-fits : AllFit d (begun_rows rs)
    unfolding ranked_rows cells_in
    begun-fits = rw (begun-is rs) (fit-grown d (uses 1) (ranked_rows (map stored rs))
        (fit-renumbered d _ (map stored rs) (fit-stored d (map stored rs) (stored-places rs)
        (rw (stored_cells rs) (bodies-short q (map cell_of rs) st sound)))))

    -- as the code finds them: it works on copies of the window and of the nexts
    pub may_begin : {w : ReliableWindow} {ns : Nexts} {turn : ℕ} {rs' : List Row} → length q.channels ≡ max_ord_chans → ns ≡ nexts_of q
        → turn ≡ count_of first_cell (cells_in rs) → rs' ≡ begun_rows rs → Begun w ns rs' turn d
    may_begin channels en et er = rw (et, er, en) (record {
      short = n.short;
      few = begun-few;
      nexts = unfold nexts_of in channels;
      sound = begun-sound;
      fits = begun-fits;
      first = count_few first_cell rs few_rows refl;
    })
