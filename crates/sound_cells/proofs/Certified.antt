-- What the tests of the entries tell: the cells are sound (`certified-sound`).
-- Assumes nothing.
use Prim.Native.Nat.{ℕ, ◌+◌, ◌-◌, ◌<◌, ◌≤◌}
use mathlib.Core.Path.{◌≡◌, sym, ◌∙◌, ap}
use mathlib.Core.Bool.{true, false, not, ◌&&◌}
use mathlib.Core.List.{List}
use mathlib.Core.Logic.{⊎_elim}
use native.Mathlib.Nat.{eq-or-lt_of_le}
use native.Mathlib.Omega.{arith}
use lib.Dec.{ltb, eqb}
use lib.ListN.{length, get_or}
use borrow.Author.Tests.{ltb-true, ltb-false, eqb-true, eqb-false, eq-eqb, not-true}
use Rattle.base.specs.Lists.{below}
use Rattle.base.proofs.Choices.{cases, neither, and_left, and_right}
use Rattle.base.proofs.Lists.{below_at}
use Rattle.cells.specs.Cell.{Cell}
use Rattle.cells.specs.Sound.{limits, alike, sound_cells}
use Rattle.rows.specs.declared.Row.{Row}
use Rattle.rows.specs.Rows.{cells_in}
use Rattle.sound_cells.specs.Counted.{mate, twin, ahead_of_next}
use Rattle.sound_cells.specs.declared.order.entries.Place.{Place}
use Rattle.sound_cells.specs.Sorted.{cell_at, place_of, key_part, upper_part, upper_at, key_at, row_number_at, rises}
use Rattle.sound_cells.specs.Sorted.{is_own, is_led, is_placed_entry}
use Rattle.sound_cells.specs.Sorted.{tallied, due_cell, is_due}
use Rattle.sound_cells.proofs.Alike.{alike-through}
use Rattle.sound_cells.proofs.Counting.{same_truth}
use Rattle.sound_cells.proofs.Numbered.{climb, count_below, count_same}
use Rattle.sound_cells.proofs.RowsSound.{mate-key, mate-used, twin-mate, twin-index, same-key-mate, Passing}
use Rattle.sound_cells.proofs.RowsSound.{rows-sound}
use Rattle.sound_cells.proofs.Tallies.{tallied-at}

mate-part : (c d : Cell) → mate c d ≡ true → key_part d ≡ key_part c
unfolding key_part
mate-part c d e = rw (mate-key c d e)

twin-part : (c d : Cell) → twin c d ≡ true → upper_part d ≡ upper_part c
unfolding upper_part
twin-part c d e = rw (mate-part c d (twin-mate c d e), twin-index c d e)

module _ (rows : List Row) (next : ℕ → ℕ) (es : List ℕ) (places : List Place) where
  -- the last place
  abbrev last : ℕ
  last = length es - 1

  -- What the tests say of the used cell of row i, with the places noted for it.
  record Placed (i : ℕ) : Type 0 where
    limit : limits (cell_at rows i) ≡ true
    over : ahead_of_next next (cell_at rows i) ≡ true
    low : (place_of places i).rank ≤ last
    own : upper_at es (place_of places i).rank ≡ upper_part (cell_at rows i)
    self : row_number_at es (place_of places i).rank ≡ i
    led : (place_of places i).lead < last
    begins : key_at es (place_of places i).lead ≡ key_at es ((place_of places i).lead + 1) → ⊥
    key : key_at es ((place_of places i).lead + 1) ≡ key_part (cell_at rows i)
    mated : mate (cell_at rows i) (cell_at rows (row_number_at es ((place_of places i).lead + 1))) ≡ true
    like : alike (cell_at rows i) (cell_at rows (row_number_at es ((place_of places i).lead + 1))) ≡ true

  placed : (i : ℕ) → eqb (cell_at rows i).used 0 ≡ false → is_placed_entry rows next es places i ≡ true → Placed i
  unfolding is_placed_entry is_own is_led
  placed i u e =
      let c = cell_at rows i in
      let p = (place_of places i).rank in
      let q = (place_of places i).lead in
      let d = cell_at rows (row_number_at es (q + 1)) in
      let a : ((limits c && ahead_of_next next c)
      && ((ltb p (length es) && (eqb (upper_at es p) (upper_part c) && eqb (row_number_at es p) i))
      && (ltb q last
      && (not (eqb (key_at es q) (key_at es (q + 1)))
      && (eqb (key_at es (q + 1)) (key_part c) && (mate c d && alike c d)))))) ≡ true = rw u at e in
      let alone = and_left (limits c && ahead_of_next next c) _ a in
      let there = and_right (limits c && ahead_of_next next c) _ a in
      let at_own = and_left (ltb p (length es) && (eqb (upper_at es p) (upper_part c) && eqb (row_number_at es p) i)) _ there in
      let at-lead = and_right (ltb p (length es) && (eqb (upper_at es p) (upper_part c) && eqb (row_number_at es p) i)) _ there in
      let own₁ = and_right (ltb p (length es)) _ at_own in
      let lead₁ = and_right (ltb q last) _ at-lead in
      let lead₂ = and_right (not (eqb (key_at es q) (key_at es (q + 1)))) _ lead₁ in
      let lead₃ = and_right (eqb (key_at es (q + 1)) (key_part c)) _ lead₂ in
      record {
        limit = and_left (limits c) _ alone;
        over = and_right (limits c) _ alone;
        low = let l : p < length es = ltb-true _ _ (and_left (ltb p (length es)) _ at_own) in omega arith;
        own = eqb-true _ _ (and_left (eqb (upper_at es p) (upper_part c)) _ own₁);
        self = eqb-true _ _ (and_right (eqb (upper_at es p) (upper_part c)) _ own₁);
        led = ltb-true q last (and_left (ltb q last) _ at-lead);
        begins = eqb-false _ _ (not-true _ (and_left (not (eqb (key_at es q) (key_at es (q + 1)))) _ lead₁));
        key = eqb-true _ _ (and_left (eqb (key_at es (q + 1)) (key_part c)) _ lead₂);
        mated = and_left (mate c d) _ lead₃;
        like = and_right (mate c d) _ lead₃;
      }

  module _ (up : below last (rises es) ≡ true) where
    rise : (s t : ℕ) → s < t → t ≤ last → upper_at es s < upper_at es t
    rise s t l h = climb (upper_at es) 0 last (λ i g. λ l. ltb-true _ _ (below_at last (rises es) up i l)) s t (omega arith) l h

    key-rise : (s t : ℕ) → s ≤ t → t ≤ last → key_at es s ≤ key_at es t
    key-rise s t l h = ⊎_elim (λ q. rw q (omega arith)) (λ lt. let r = rise s t lt h in omega arith) (eq-or-lt_of_le l)

    same_place : (s t : ℕ) → s ≤ last → t ≤ last → upper_at es s ≡ upper_at es t → s ≡ t
    same_place s t h g e = cases (ltb s t)
        (λ y. let r = rise s t (ltb-true s t y) g in absurd (omega arith))
        (λ y. cases (ltb t s)
        (λ z. let r = rise t s (ltb-true t s z) h in absurd (omega arith))
        (λ z. let a = ltb-false s t y in let b = ltb-false t s z in omega arith))

    -- The entries of one message begin at one place.
    no-later : (s t : ℕ) → s < t → t < last → key_at es (s + 1) ≡ key_at es (t + 1) → key_at es t ≡ key_at es (t + 1)
    no-later s t l h e = let a = key-rise (s + 1) t (omega arith) (omega arith) in let b = key-rise t (t + 1) (omega arith) (omega arith) in
        omega arith

    same-lead : (i j : ℕ) → Placed i → Placed j → key_part (cell_at rows i) ≡ key_part (cell_at rows j)
        → (place_of places i).lead ≡ (place_of places j).lead
    same-lead i j a b e =
        let q : key_at es ((place_of places i).lead + 1) ≡ key_at es ((place_of places j).lead + 1) = a.key ∙ e ∙ sym b.key in
        cases (ltb (place_of places i).lead (place_of places j).lead)
        (λ y. absurd (b.begins (no-later (place_of places i).lead (place_of places j).lead (ltb-true _ _ y) b.led q)))
        (λ y. cases (ltb (place_of places j).lead (place_of places i).lead)
        (λ z. absurd (a.begins (no-later (place_of places j).lead (place_of places i).lead (ltb-true _ _ z) a.led (sym q))))
        (λ z. let l : (place_of places j).lead ≤ (place_of places i).lead = ltb-false _ _ y in
        let g : (place_of places i).lead ≤ (place_of places j).lead = ltb-false _ _ z in
        omega arith))

    module _ (all : below (length rows) (is_placed_entry rows next es places) ≡ true) where
      used-placed : (i : ℕ) → i < length rows → eqb (cell_at rows i).used 0 ≡ false → Placed i
      used-placed i l u = placed i u (below_at (length rows) (is_placed_entry rows next es places) all i l)

      module _ (i : ℕ) (l : i < length rows) (u : eqb (cell_at rows i).used 0 ≡ false) where
        mine : Placed i
        mine = used-placed i l u

        other : (j : ℕ) → j < length rows → mate (cell_at rows i) (cell_at rows j) ≡ true
            → Placed j × ((place_of places j).lead ≡ (place_of places i).lead)
        other j h e =
            let b = used-placed j h (mate-used (cell_at rows i) (cell_at rows j) e) in
            (b, same-lead j i b mine (mate-part (cell_at rows i) (cell_at rows j) e))

        alone : (j : ℕ) → j < length rows → twin (cell_at rows i) (cell_at rows j) ≡ true → j ≡ i
        alone j h e =
            let b = (other j h (twin-mate (cell_at rows i) (cell_at rows j) e)).0 in
            let q = same_place (place_of places j).rank (place_of places i).rank b.low mine.low
            (b.own ∙ twin-part (cell_at rows i) (cell_at rows j) e
            ∙ sym mine.own) in
            sym b.self ∙ ap (row_number_at es) q ∙ mine.self

        like-other : (j : ℕ) → j < length rows → mate (cell_at rows i) (cell_at rows j) ≡ true
            → alike (cell_at rows i) (cell_at rows j) ≡ true
        like-other j h e =
            let b = other j h e in
            let like : alike (cell_at rows j) (cell_at rows (row_number_at es ((place_of places i).lead + 1))) ≡ true
            = rw b.1 at b.0.like in
            alike-through (cell_at rows i) (cell_at rows j) (cell_at rows (row_number_at es ((place_of places i).lead + 1))) mine.like like

        -- A used row's cell is of this message exactly when it is led from the same place.
        mate-lead : (j : ℕ) → j < length rows → mate (cell_at rows i) (cell_at rows j)
            ≡ (not (eqb (cell_at rows j).used 0) && eqb (place_of places j).lead (place_of places i).lead)
        mate-lead j h = same_truth (mate (cell_at rows i) (cell_at rows j)) (not (eqb (cell_at rows j).used 0)
            && eqb (place_of places j).lead (place_of places i).lead)
            (λ e. rw (mate-used (cell_at rows i) (cell_at rows j) e) (eq-eqb _ _ (other j h e).1))
            (λ e. cases (eqb (cell_at rows j).used 0)
            (λ y. neither (not (eqb (cell_at rows j).used 0)) (and_left (not (eqb (cell_at rows j).used 0)) _ e) (rw y))
            (λ y.
            let b = used-placed j h y in
            let q : (place_of places j).lead ≡ (place_of places i).lead
            = eqb-true _ _ (and_right (not (eqb (cell_at rows j).used 0)) _ e) in
            let m : mate (cell_at rows j) (cell_at rows (row_number_at es ((place_of places i).lead + 1))) ≡ true = rw q at b.mated in
            same-key-mate (cell_at rows i) (cell_at rows j) y b.limit
            (sym (mate-key (cell_at rows j) (cell_at rows (row_number_at es ((place_of places i).lead + 1))) m) ∙ mate-key (cell_at rows i)
            (cell_at rows (row_number_at es ((place_of places i).lead + 1))) mine.mated)))

        module _ (counts : List ℕ) (none : (g : ℕ) → get_or counts g 0 ≡ 0) (room : last ≤ length counts) where
          mates-counted : count_below (λ j. mate (cell_at rows i) (cell_at rows j)) (length rows)
              ≡ get_or (tallied rows places counts (length rows))
              (place_of places i).lead 0
          mates-counted =
              count_same (λ j. mate (cell_at rows i) (cell_at rows j)) (λ j. not (eqb (cell_at rows j).used 0)
              && eqb (place_of places j).lead (place_of places i).lead) (length rows) mate-lead
              ∙ sym (tallied-at rows places counts none (length rows) (place_of places i).lead (let h = mine.led in omega arith))

          passes : is_due rows places (tallied rows places counts (length rows)) i ≡ true → Passing rows next i
          unfolding is_due due_cell
          passes e = record {
            limit = mine.limit;
            over = mine.over;
            alone = alone;
            like = like-other;
            mates = _;
            counted = mates-counted;
            due = rw u at e;
          }

      -- Entries that rise, rows that are placed, and messages of as many cells as they must have: then the cells are sound.
      pub certified-sound : (counts : List ℕ) → ((g : ℕ) → get_or counts g 0 ≡ 0) → last ≤ length counts
          → below (length rows) (is_due rows places (tallied rows places counts (length rows))) ≡ true
          → sound_cells (cells_in rows) next ≡ true
      certified-sound counts none room due = rows-sound rows next
          (λ i l u. passes i l u counts none room
          (below_at (length rows) (is_due rows places (tallied rows places counts (length rows))) due i l))
