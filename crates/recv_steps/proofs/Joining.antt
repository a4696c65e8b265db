-- Pieces in steps 3 and 4: each way of the code, with the facts as it finds them.
-- Assumes nothing.
use Prim.Native.Nat.{ℕ, ◌+◌, ◌<◌}
use mathlib.Core.Path.{◌≡◌, refl, sym, ◌∙◌, ap}
use mathlib.Core.Bool.{Bool, true, false}
use mathlib.Core.List.{List, map}
use native.Mathlib.Omega.{arith}
use lib.Dec.{eqb}
use borrow.Author.Tests.{eq-eqb, ne_eqb}
use Rattle.base.specs.Limits.{max_ord_chans}
use Rattle.base.specs.Lists.{any, count_of}
use Rattle.frame.specs.declared.Placed.{Placed}
use Rattle.bare.specs.Bare.{memory_of}
use Rattle.cells.specs.Cell.{Cell, Slot, Key, open_as, bears, of, is_free, all_there, clash, put_slot, slot_of, turn_to}
use Rattle.cells.proofs.PutSlot.{count-put}
use Rattle.cells.proofs.Keys.{of-free}
use Rattle.cells.specs.Ages.{with_age, renewed}
use Rattle.cells.proofs.Aging.{renewed-clash, renewed-sound}
use Rattle.cells.specs.Records.{clashes}
use Rattle.cells.specs.Datagram.{drop_one, place, remember_in, fate_of, follows, joins, kept, put_piece, renew, piece}
use Rattle.rows.specs.declared.Row.{Row}
use Rattle.rows.specs.Rows.{cell_of, cells_in, mark_row, age_row, change_rows}
use Rattle.row_slots.specs.Slots.{slots_in}
use Rattle.row_slots.proofs.Tests.{piece-clash-rows, of-rows}
use Rattle.row_slots.proofs.Complete.{piece-counted}
use Rattle.receiver.specs.declared.Nexts.{Nexts}
use Rattle.receiver.specs.Receive.{frame_in}
use Rattle.recv_memory.specs.Remembered.{remembered}
use Rattle.recv_steps.specs.declared.Tally.{Tally}
use Rattle.recv_steps.specs.declared.Course.{Course}
use Rattle.recv_steps.specs.declared.Course.TheVariants.{Late, Early, Due, Newer, Free}
use Rattle.recv_steps.specs.Work.{work_of, fate_is}
use Rattle.recv_steps.specs.CountChanges.{dropped_one, filled_up, made_one, Rises}
use Rattle.recv_steps.specs.Placing.{row_for, Stands, ReadablePlaced, Limited}
use Rattle.recv_steps.specs.Moves.{Changes, Moves, Counted, Sane, Beside, by_fate, turn_ready}
use Rattle.recv_steps.proofs.Changing.{row-cell, turn-changes, aged-count, renew-changes}
use Rattle.recv_steps.proofs.Moving.{moves-then, moves-drop, moves-place, moves-made, moves-remember, moves-roomy}
use Rattle.recv_steps.proofs.Wholes.{put_full, found-by}

-- ---- a joined message

module _ (x : Tally) (ns : Nexts) (rs rs' : List Row) (p : Placed) (r : Course) (h : (x : Tally) (a : ℕ → Bool) (store d : List ℕ)
    → fate_is r ≡ fate_of (frame_in d p) (work_of a x ns rs store d)) {id : ℕ} (ei : id ≡ p.frame.meta.id) where
  placed : (u : ℕ) → 0 < u → rs' ≡ change_rows (bears (open_as id)) (mark_row u 0) rs → (d : List ℕ)
      → Moves d (λ w. place (turn_to (open_as (frame_in d p).id) u 0 w.state.slots) w) x ns rs x ns rs'
  unfolding frame_in work_of
  placed u pos e d = let ch = turn-changes d (open_as p.frame.meta.id) u 0 rs rs' pos (rw ei at e) in
      moves-place d x ns rs rs' (λ w. turn_to (open_as p.frame.meta.id) u 0 w.state.slots) (λ a. ch.is) ch.fits

  pub joins-late : r ≡ Late → rs' ≡ change_rows (bears (open_as id)) (mark_row 4 0) rs → (y : Tally) → y ≡ dropped_one x
      → (d : List ℕ) → Moves d (by_fate joins (frame_in d p)) x ns rs y ns rs'
  unfolding joins fate_is
  joins-late e q y ey d =
      found-by x ns rs p r h joins Late e y ns rs' d
      (rw ey (moves-then d (λ w. place (turn_to (open_as (frame_in d p).id) 4 0 w.state.slots) w) drop_one x x (dropped_one x) ns ns ns rs
      rs' rs' (placed 4 (omega arith) q d) (moves-drop d x ns rs')))

  pub joins-early : r ≡ Early → rs' ≡ change_rows (bears (open_as id)) (mark_row 2 0) rs → (d : List ℕ)
      → Moves d (by_fate joins (frame_in d p)) x ns rs x ns rs'
  unfolding joins fate_is
  joins-early e q d = found-by x ns rs p r h joins Early e x ns rs' d (placed 2 (omega arith) q d)

  module _ (y : Tally) (m₀ : (ns : Nexts) (d : List ℕ) → Moves d (turn_ready id) x ns rs y ns rs') where
    turned : (ns : Nexts) (d : List ℕ) → Moves d (turn_ready p.frame.meta.id) x ns rs y ns rs'
    turned = rw ei at m₀

    pub joins-free : r ≡ Free → (d : List ℕ) → Moves d (by_fate joins (frame_in d p)) x ns rs y ns rs'
    unfolding joins fate_is turn_ready frame_in
    joins-free e d = found-by x ns rs p r h joins Free e y ns rs' d (turned ns d)

    pub joins-newer : r ≡ Newer → {n : ℕ} → Rises n ns → ReadablePlaced p → p.frame.channel < max_ord_chans
        → (ns' : Nexts) → ns' ≡ remembered (memory_of ns.profile p.frame.kind p.frame.channel) p.frame.sequence ns → (d : List ℕ)
        → Moves d (by_fate joins (frame_in d p)) x ns rs y ns' rs'
    unfolding joins fate_is turn_ready frame_in remember_in
    joins-newer e rises fit lt ns' en d = found-by x ns rs p r h joins Newer e y ns' rs' d
        (moves-then d (remember_in (frame_in d p)) (turn_ready p.frame.meta.id) x x y ns ns' ns' rs rs rs'
        (rw en (moves-remember d x ns rs p rises.long lt fit.sequence)) (turned ns' d))

    pub joins-due : r ≡ Due → (z : Tally) (ns' : Nexts) (rs'' : List Row)
        → ((d : List ℕ) → Moves d (follows p.frame.channel) y ns rs' z ns' rs'') → (d : List ℕ) → Moves d (by_fate joins (frame_in d p)) x
        ns rs z ns' rs''
    unfolding joins fate_is turn_ready frame_in
    joins-due e z ns' rs'' f d = found-by x ns rs p r h joins Due e z ns' rs'' d
        (moves-then d (turn_ready p.frame.meta.id) (follows p.frame.channel) x y z ns ns ns' rs rs' rs'' (turned ns d) (f d))

-- An open message's slots become a ready one's.
pub ready_turned : (x y : Tally) (rs rs' : List Row) (id : ℕ) → rs' ≡ change_rows (bears (open_as id)) (mark_row 3 x.turn) rs → y
    ≡ made_one x → (ns : Nexts) (d : List ℕ) → Moves d (turn_ready id) x ns rs y ns rs'
unfolding turn_ready work_of
ready_turned x y rs rs' id e ey ns d = let ch = turn-changes d (open_as id) 3 x.turn rs rs' (omega arith) e in
    rw ey (moves-made d x ns rs rs' (λ w. turn_to (open_as id) 3 w.turn w.state.slots) (λ a. ch.is) ch.fits)

-- ---- a piece kept

module _ (x : Tally) (ns : Nexts) (rs : List Row) (p : Placed) (n : ℕ) (d : List ℕ) (c : Counted d p n rs) where
  there : (a : ℕ → Bool) (store : List ℕ) (b : Bool) → eqb n p.frame.meta.count ≡ b → all_there (open_as (frame_in d p).id)
      (work_of a x ns rs store d).state.slots (frame_in d p).count ≡ b
  unfolding frame_in work_of
  there a store b e = c store ∙ e

  pub kept-joins : n ≡ p.frame.meta.count → (y : Tally) (ns' : Nexts) (rs' : List Row)
      → ((d : List ℕ) → Moves d (by_fate joins (frame_in d p)) x ns rs y ns' rs') → Moves d (kept (frame_in d p)) x ns rs y
      ns' rs'
  unfolding kept by_fate
  kept-joins e y ns' rs' m = record {
    is = λ a store. (m d).is a store ∙ rw (there a store true (eq-eqb n p.frame.meta.count e));
    fits = (m d).fits;
    long = (m d).long;
    profile = (m d).profile;
  }

  pub kept-waits : (n ≡ p.frame.meta.count → ⊥) → Moves d (kept (frame_in d p)) x ns rs x ns rs
  unfolding kept
  kept-waits ne = record {
    is = λ a store. rw (there a store false (ne_eqb n p.frame.meta.count ne));
    fits = λ v. v;
    long = refl;
    profile = refl;
  }

-- ---- step 3

-- A piece put beside the open ones, where there is room.
module _ (x : Tally) (ns : Nexts) (rs rs' : List Row) (p : Placed) (room : Bool)
    (h : (store d : List ℕ) → room ≡ any is_free (slots_in rs store d))
    (ch : (d : List ℕ) → Stands d p → Changes d (put_slot (slot_of (frame_in d p) 1 0)) rs rs') where
  pub piece-full : room ≡ false → (y : Tally) → y ≡ filled_up x → (d : List ℕ) → Stands d p → Sane d x ns rs → Beside d p rs
      → Moves d (put_piece (frame_in d p)) x ns rs y ns rs'
  unfolding put_piece
  piece-full u y ey d s v c = put_full x rs rs' p 1 0 room h ch u
      (λ w. kept (frame_in d p) (place (put_slot (slot_of (frame_in d p) 1 0) w.state.slots) w)) y ey ns d s

  -- n: how many are open under its id
  pub piece-kept : room ≡ true → p.frame.piece ≡ true → Limited p → (n : ℕ) → n ≡ count_of (bears (open_as p.frame.meta.id)) (cells_in rs)
      → (y : Tally) (ns' : Nexts) (rs'' : List Row)
      → ((d : List ℕ) → Counted d p (n + 1) rs' → Moves d (kept (frame_in d p)) x ns rs' y ns' rs'')
      → (d : List ℕ) → Stands d p → Sane d x ns rs → Beside d p rs → Moves d (put_piece (frame_in d p)) x ns rs y ns' rs''
  unfolding put_piece cells_in
  piece-kept u e lim n en y ns' rs'' m d s v c =
      moves-roomy d x ns rs (λ w. kept (frame_in d p) (place (put_slot (slot_of (frame_in d p) 1 0) w.state.slots) w)) room h u y ns' rs''
      (moves-then d (λ w. place (put_slot (slot_of (frame_in d p) 1 0) w.state.slots) w) (kept (frame_in d p)) x x y ns ns ns' rs rs' rs''
      placed-there (m d counted))
    where
      key : Key
      key = open_as p.frame.meta.id

      placed-there : Moves d (λ w. place (put_slot (slot_of (frame_in d p) 1 0) w.state.slots) w) x ns rs x ns rs'
      placed-there = unfold work_of in moves-place d x ns rs rs' (λ w. put_slot (slot_of (frame_in d p) 1 0) w.state.slots)
          (λ a. (ch d s).is) (ch d s).fits

      own : of key (slot_of (frame_in d p) 1 0) ≡ true
      own = unfold of bears slot_of frame_in in eq-eqb p.frame.meta.id p.frame.meta.id refl

      one-more : (store : List ℕ) → count_of (of key) (put_slot (slot_of (frame_in d p) 1 0) (slots_in rs store d)) ≡ n + 1
      one-more store = rw (
        count-put (of key) (slot_of (frame_in d p) 1 0) (of-free key) (slots_in rs store d) (sym (h store d) ∙ u),
        own,
        of-rows rs store d key,
        ← en,
      ) (omega arith)

      counted : Counted d p (n + 1) rs'
      counted store = unfold frame_in in
          ap (λ (l : List Slot). all_there key l p.frame.meta.count) ((ch d s).is store)
          ∙ piece-counted (frame_in d p) (slots_in rs store d) (v store).core (lim d) e (c store) (sym (h store d) ∙ u)
          ∙ ap (λ (k : ℕ). eqb k p.frame.meta.count) (one-more store)

-- The test of step 3.
module _ (x : Tally) (ns : Nexts) (rs : List Row) (p : Placed) (e : p.frame.piece ≡ true) (row : Row) (er : row ≡ row_for p 1 0) (b : Bool)
    (eb : b ≡ any (clashes (cell_of row)) (cells_in rs)) where
  clashing : (d : List ℕ) → Stands d p → (store : List ℕ) → any (clash (frame_in d p)) (slots_in rs store d) ≡ b
  unfolding cells_in
  clashing d s store =
      piece-clash-rows rs store d (frame_in d p) (unfold frame_in in e)
      ∙ (ap (λ (c : Cell). any (clashes c) (map cell_of rs)) (sym (row-cell d p s 1 0) ∙ ap cell_of (sym er)) ∙ sym eb)

  pub piece-drops : b ≡ true → (y : Tally) → y ≡ dropped_one x → (d : List ℕ) → Stands d p → Sane d x ns rs
      → Moves d (piece (frame_in d p)) x ns rs y ns rs
  unfolding piece work_of
  piece-drops t y ey d s v = rw ey (record {
    is = λ a store. (moves-drop d x ns rs).is a store ∙ rw (clashing d s store ∙ t);
    fits = λ z. z;
    long = refl;
    profile = refl;
  })

  -- The id's pieces are made as old as this one, and it is put.
  module _ {id : ℕ} (ei : id ≡ p.frame.meta.id) (rs₁ : List Row) (er₁ : rs₁ ≡ change_rows (bears (open_as id)) (age_row 0) rs) where
    renews : (d : List ℕ) → Changes d (renewed p.frame.meta.id) rs rs₁
    renews d = renew-changes d p.frame.meta.id rs rs₁ (rw ei at er₁)

    -- as many are open under it as were
    pub renewed-counted : {n : ℕ} → n ≡ count_of (bears (open_as id)) (cells_in rs)
        → n ≡ count_of (bears (open_as p.frame.meta.id)) (cells_in rs₁)
    unfolding bears with_age
    renewed-counted en = rw (← ei, er₁) (en ∙ sym (aged-count (bears (open_as id)) (bears (open_as id)) 0 (λ c. refl) rs))

    pub piece-puts : b ≡ false → (y : Tally) (ns' : Nexts) (rs' : List Row)
        → ((d : List ℕ) → Stands d p → Sane d x ns rs₁ → Beside d p rs₁ → Moves d (put_piece (frame_in d p)) x ns rs₁ y ns' rs')
        → (d : List ℕ) → Stands d p → Sane d x ns rs → Moves d (piece (frame_in d p)) x ns rs y ns' rs'
    unfolding piece work_of
    piece-puts t y ns' rs' m d s v =
        let n = moves-then d (renew (frame_in d p)) (put_piece (frame_in d p)) x x y ns ns ns' rs rs₁ rs' renewing (m d s sane beside) in
        record { is = λ a store. n.is a store ∙ rw (clashing d s store ∙ t); fits = n.fits; long = n.long; profile = n.profile }
      where
        renewing : Moves d (renew (frame_in d p)) x ns rs x ns rs₁
        renewing = unfold work_of renew frame_in in moves-place d x ns rs rs₁ (λ w. renewed p.frame.meta.id w.state.slots)
            (λ a. (renews d).is) (renews d).fits

        sane : Sane d x ns rs₁
        sane store = rw ((renews d).is store) (renewed-sound p.frame.meta.id (slots_in rs store d) (v store))

        beside : Beside d p rs₁
        beside store = ap (any (clash (frame_in d p))) ((renews d).is store)
            ∙ renewed-clash (frame_in d p) p.frame.meta.id (slots_in rs store d) ∙ clashing d s store ∙ t
