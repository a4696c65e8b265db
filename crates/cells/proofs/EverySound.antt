-- Any sound cells are those of a bare receiver: its counts, its room and its drops hold of every sound state, not only of those that calls
-- reach.
-- Assumes nothing.
use Prim.Native.Nat.{ℕ, zero, suc, ◌+◌, ◌-◌, ◌<◌}
use mathlib.Core.Path.{◌≡◌, refl, sym, ◌∙◌, ap}
use mathlib.Core.Logic.{◌⊎◌, inl, inr}
use mathlib.Core.Bool.{Bool, true, false, cond, ◌&&◌}
use mathlib.Core.Option.{none, some}
use mathlib.Core.List.Memᴰ
use mathlib.Core.List.{List, [], ◌∷◌, map, Memᴰ}
use native.Mathlib.Omega.{arith}
use lib.Dec.{ltb, eqb}
use borrow.Author.Tests.{ltb-true, ltb-false, eq-eqb}
use Rattle.base.specs.Limits.{max_age}
use Rattle.base.specs.Lists.{option, find, any, count_of, without, only}
use Rattle.base.proofs.Choices.{cases, case_option, and_both, neither}
use Rattle.base.proofs.Lists.{find-some, any-true, any-mem, any-all}
use Rattle.base.proofs.Counts.{count-ext, count_none}
use Rattle.bare.specs.Frame.{Frame, Piece}
use Rattle.bare.specs.Bare.{is_at, is_piece_at, feed}
use Rattle.bare.specs.Unfinished as bare
use Rattle.bare.specs.Unfinished.{Dated, drop_stale, stale_pieces}
use Rattle.cells.specs.Cell.{Slot, Key, open_as, held_as, ready_as, bears, at, of, sits, is_open, is_ready, message_of, message_at}
use Rattle.cells.specs.Cell.{piece_in, empty_cell, empty_slot, change, map_if}
use Rattle.cells.specs.Ages.{is_stale, dropped}
use Rattle.cells.specs.Datagram.{is_first, is_before, rank, renumber, State, with_slots, place, begin, end, grow, datagram}
use Rattle.cells.specs.Take.{taking, drain}
use Rattle.cells.specs.Sound.{sound}
use Rattle.cells.specs.Store.{cells_of}
use Rattle.cells.specs.Room.{is_held_first, held_in, bare_of, exceeds}
use Rattle.cells.proofs.Keys.{use_of, key-used, of-ready, ready_of, sits-is, none-sits, carried-message, message-none, message-some}
use Rattle.cells.proofs.Pieces.{opens, piece_at, Pieces}
use Rattle.cells.proofs.Ready.{ready_line, has, has_some, Outs}
use Rattle.cells.proofs.Moves.{of-mark-ready, of-held}
use Rattle.cells.proofs.Placing.{there-first}
use Rattle.cells.proofs.Cascade.{Rel}
use Rattle.cells.proofs.Aging.{grow-rel}
use Rattle.cells.proofs.Frames.{frames-sim}
use Rattle.cells.proofs.TurnOrder.{retime, retime-yes, retime-other, earliest-ready, drain-by-order}
use Rattle.cells.proofs.Turns.{rank-suc, renumber-pieces}
use Rattle.cells.proofs.Takes.{empty-open, sweep-outs, earliest-none, earliest-below, drain-is}
use Rattle.cells.proofs.Room.{related-room}
use Rattle.cells.proofs.SoundCore.{Core}
use Rattle.cells.proofs.SoundCascade.{Sound}
use Rattle.cells.proofs.SoundRest.{Rest, before-in, before_of, rank-rising, begin-sound}
use Rattle.cells.proofs.SoundTest.{sound-rest, first_age, sound-aged}
use Rattle.cells.proofs.AgedAs.{AgedAs}
use Rattle.cells.proofs.SlotAges.{aged-ext}
use Rattle.cells.proofs.Dropping.{stale-is, dropped-join, dropped-drain}
use Rattle.cells.proofs.Dating.{age_at, stale-same}

open-counts : (p : Piece → Bool) (l : List Slot) → count_of p (map piece_in (only is_open l)) ≡ count_of (opens p) l
unfolding count_of only opens
open-counts p [] = refl
open-counts p (s ∷ l) = go (is_open s) (open-counts p l)
  where
    go : (t : Bool) → count_of p (map piece_in (only is_open l)) ≡ count_of (opens p) l
        → count_of p (map piece_in (cond t (s ∷ only is_open l) (only is_open l)))
        ≡ cond (t && p (piece_in s)) (suc (count_of (opens p) l)) (count_of (opens p) l)
    go true e = ap (λ (n : ℕ). cond (p (piece_in s)) (suc n) n) e
    go false e = e

open-finds : (id i : ℕ) (l : List Slot) → find (is_piece_at id i) (map piece_in (only is_open l))
    ≡ option (find (sits (open_as id) i) l) none
    (λ s. some (piece_in s))
unfolding find only sits at bears is_open is_piece_at piece_in
open-finds id i [] = refl
open-finds id i (s ∷ l) = go (eqb s.cell.used 1) (open-finds id i l)
  where
    found : (b : Bool) → find (is_piece_at id i) (map piece_in (only is_open l)) ≡ option (find (sits (open_as id) i) l) none
        (λ s. some (piece_in s))
        → cond b (some (piece_in s)) (find (is_piece_at id i) (map piece_in (only is_open l)))
        ≡ option (cond b (some s) (find (sits (open_as id) i) l)) none (λ s. some (piece_in s))
    found true e = refl
    found false e = e

    go : (t : Bool) → find (is_piece_at id i) (map piece_in (only is_open l)) ≡ option (find (sits (open_as id) i) l) none
        (λ s. some (piece_in s))
        → find (is_piece_at id i) (map piece_in (cond t (s ∷ only is_open l) (only is_open l)))
        ≡ option (cond ((t && eqb s.cell.id id) && eqb s.cell.index i) (some s) (find (sits (open_as id) i) l)) none
        (λ s. some (piece_in s))
    go true e = found (eqb s.cell.id id && eqb s.cell.index i) e
    go false e = e

pieces-open : (l : List Slot) → Pieces (map piece_in (only is_open l)) l
unfolding piece_at
pieces-open l = record { counts = λ p. open-counts p l; finds = λ id i. open-finds id i l }

held-find : (all : List Slot) (c o : ℕ) (l : List Slot) → find (is_at c o) (map (held_in all) (only is_held_first l))
    ≡ option (find (sits (held_as c o) 0) l) none (λ s. some (held_in all s))
unfolding find only sits at bears is_held_first is_at held_in message_of
held-find all c o [] = refl
held-find all c o (s ∷ l) = go (eqb s.cell.used 2) (eqb s.cell.index 0) (held-find all c o l)
  where
    found : (b : Bool) → find (is_at c o) (map (held_in all) (only is_held_first l)) ≡ option (find (sits (held_as c o) 0) l) none
        (λ s. some (held_in all s))
        → cond b (some (held_in all s)) (find (is_at c o) (map (held_in all) (only is_held_first l)))
        ≡ option (cond (b && true) (some s) (find (sits (held_as c o) 0) l)) none (λ s. some (held_in all s))
    found true e = refl
    found false e = e

    none_here : (b : Bool) → find (is_at c o) (map (held_in all) (only is_held_first l)) ≡ option (find (sits (held_as c o) 0) l) none
        (λ s. some (held_in all s))
        → find (is_at c o) (map (held_in all) (only is_held_first l))
        ≡ option (cond (b && false) (some s) (find (sits (held_as c o) 0) l)) none
        (λ s. some (held_in all s))
    none_here true e = e
    none_here false e = e

    go : (t d : Bool) → find (is_at c o) (map (held_in all) (only is_held_first l)) ≡ option (find (sits (held_as c o) 0) l) none
        (λ s. some (held_in all s))
        → find (is_at c o) (map (held_in all) (cond (t && d) (s ∷ only is_held_first l) (only is_held_first l)))
        ≡ option (cond ((t && (eqb s.cell.channel c && eqb s.cell.order o)) && d) (some s) (find (sits (held_as c o) 0) l)) none
        (λ s. some (held_in all s))
    go true true e = found (eqb s.cell.channel c && eqb s.cell.order o) e
    go true false e = none_here (eqb s.cell.channel c && eqb s.cell.order o) e
    go false true e = e
    go false false e = e

-- The held message under a key.
held-is : (l : List Slot) (c o : ℕ) → find (is_at c o) (map (held_in l) (only is_held_first l)) ≡ message_at (held_as c o) l
unfolding message_at held_in
held-is l c o = held-find l c o l ∙ case_option (find (sits (held_as c o) 0) l)
    (λ e. rw e)
    (λ s e. let p = of-held c o s (sits-is (held_as c o) 0 s (find-some _ _ e).1).0 in rw e (cc (p.0, p.1)))

pub present-has : (l : List Slot) → Core l → (k : Key) → (use_of k ≡ 1 → ⊥) → any (of k) l ≡ has (message_at k l)
present-has l v k ne = cases (any (of k) l)
    (λ y. let a = any-true (of k) l y in
    let m = message-some k l (there-first k l a.0.cell.count (v.bounds a.0 a.1 (key-used k a.0 a.2)).some-count
    (v.full k ne a.0 a.1 a.2)) in
    y ∙ sym (ap has m.1))
    (λ y. y ∙ sym (ap has (message-none k l (none-sits k 0 l y))))

unfoldable top : List Slot → ℕ
top [] = 0
top (s ∷ l) = suc s.cell.turn + top l

top_above : (l : List Slot) (s : Slot) → Memᴰ s l → s.cell.turn < top l
unfolding top
top_above [] s m = absurd (Memᴰ.not-nil m)
top_above (x ∷ l) s m = go (Memᴰ.cases_cons m) (λ i. top_above l s i)
  where
    go : (s ≡ x) ⊎ Memᴰ s l → (Memᴰ s l → s.cell.turn < top l) → s.cell.turn < suc x.cell.turn + top l
    go (inl q) k = let e : s.cell.turn ≡ x.cell.turn = cc in omega arith
    go (inr i) k = let p = k i in omega arith

ranked-there : (l : List Slot) (s : Slot) (t : ℕ) → Memᴰ s l → is_ready s ≡ true → rank l s.cell.turn ≡ t
    → any (of (ready_as t)) (renumber l) ≡ true
unfolding renumber map_if retime
ranked-there l s t m e q = any-mem (of (ready_as t)) _ (retime (rank l) s) (Memᴰ.map (retime (rank l)) m)
    (rw (retime-yes (rank l) s e) (of-mark-ready (rank l s.cell.turn) t s ∙ eq-eqb _ _ q))

-- Every number below the number of ready messages is one's rank.
module _ (l : List Slot) (v : Core l) where
  rank-reached : (T t : ℕ) → t < rank l T → (s : Slot) × Memᴰ s l × (is_ready s ≡ true) × (rank l s.cell.turn ≡ t)
  unfolding rank
  rank-reached zero t lt = let z = rank-zero in absurd (omega arith)
    where
      rank-zero : rank l 0 ≡ 0
      rank-zero = count_none (is_before 0) l (any-all (is_before 0) l
          (λ s m. cases (is_before 0 s) (λ y. let p = (before_of 0 s y).1 in absurd (omega arith)) (λ y. y)))
  rank-reached (suc T) t lt = cases (ltb t (rank l T))
      (λ y. rank-reached T t (ltb-true t (rank l T) y))
      (λ y. let a = ltb-false t (rank l T) y in
      let b = rank-suc l T (suc T) refl in
      let u = v.unique (ready_as T) 0 in
      cases (any (sits (ready_as T) 0) l)
      (λ z. let x = any-true (sits (ready_as T) 0) l z in
      let q = ready_of T x.0 (sits-is (ready_as T) 0 x.0 x.2).0 in
      let r : rank l T ≡ t = omega arith in
      (x.0, x.1, q.0, ap (rank l) q.1 ∙ r))
      (λ z. let n = count_none (sits (ready_as T) 0) l z in absurd (omega arith)))

  all-ranked : rank l (top l) ≡ count_of is_first l
  unfolding rank
  all-ranked = count-ext (is_before (top l)) is_first l (λ s m. cases (is_first s)
      (λ y. before-in (top l) s y (top_above l s m) ∙ sym y)
      (λ y. cases (is_before (top l) s) (λ z. neither (is_first s) (before_of (top l) s z).0 y) (λ z. z ∙ sym y)))

module _ (s : State) (v : Rest s.next s.slots) where
  ranked : Sound s.next (renumber s.slots) (count_of is_first s.slots)
  ranked = begin-sound s.next s.slots v

  -- What takes hand out, turns renumbered or not.
  drained : drain (renumber s.slots) ≡ drain s.slots
  unfolding renumber map_if retime
  drained = drain-by-order (rank s.slots) s.slots (rank-rising s.next s.slots v)

  begin-outs : Outs (record {
    profile = s.profile;
    next = s.next;
    newest = s.newest;
    held = (bare_of s).out.held;
    line = ready_line (renumber s.slots) 0 (count_of is_first s.slots);
  }) s.next (renumber s.slots) 0 (count_of is_first s.slots) []
  unfolding bare_of renumber map_if retime
  begin-outs = record {
    next-same = refl;
    held = λ c k. held-is s.slots c k ∙ sym (carried-message
        (retime-other (rank s.slots) s.slots (held_as c k) (λ q. omega arith)));
    first = λ c k. present-has (renumber s.slots) ranked.core (held_as c k) (λ q. omega arith);
    line = refl;
    within = λ t e. let p = ranked.below t e in (omega arith, omega arith);
    firsts = λ t a b. sym (present-has (renumber s.slots) ranked.core (ready_as t) (λ q. omega arith)) ∙ there t (omega arith);
    unique = ranked.core.unique;
  }
    where
      there : (t : ℕ) → t < count_of is_first s.slots → any (of (ready_as t)) (renumber s.slots) ≡ true
      there t lt =
          let e = all-ranked s.slots v.core in
          let r = rank-reached s.slots v.core (top s.slots) t (omega arith) in
          ranked-there s.slots r.0 t r.1 r.2 r.3

  stands : Rel (bare_of s) (begin s) []
  unfolding bare_of begin
  stands = record {
    accepted = refl;
    profile = refl;
    newest = refl;
    pieces = renumber-pieces _ s.slots (pieces-open s.slots);
    outs = rw (← drained, drain-is begin-outs) begin-outs;
  }

-- Every sound state, reached or not: a datagram gets 8 exactly when the cells in use before and the bodies not dropped as frames are more
-- than all cells.
pub sound-room : (s : State) (fs : List Frame) → sound (cells_of s.slots) s.next ≡ true → (datagram s fs).full
    ≡ exceeds (bare_of s) s.slots fs
sound-room s fs e = related-room (bare_of s) s [] fs (stands s (sound-rest s.next s.slots e))

-- In every sound state a take answers 20 exactly when no cell is ready.
pub sound-take : (s : State) → sound (cells_of s.slots) s.next ≡ true → any is_ready s.slots ≡ option (taking s.slots) false
    (λ t. true)
unfolding taking
sound-take s e =
    let v = sound-rest s.next s.slots e in
    cases (any is_ready s.slots)
    (λ y. let a = any-true is_ready s.slots y in
    let b = earliest-below s.slots a.0 a.1 a.2 in
    let c = earliest-ready s.slots b.0 b.1 in
    let k : of (ready_as b.0) c.0 ≡ true = of-ready b.0 c.0 ∙ and_both _ _ c.2 (eq-eqb _ _ c.3) in
    let m = has_some (message_at (ready_as b.0) s.slots) (sym (present-has s.slots v.core (ready_as b.0) (λ q. omega arith))
    ∙ any-mem (of (ready_as b.0)) s.slots c.0 c.1 k) in
    rw (y, b.1, m.1))
    (λ y. rw (y, earliest-none s.slots y))

-- Every sound state, reached or not: an accepted datagram's counts, and what takes hand out after it, are those of the bare receiver that
-- the state stands for.
pub sound-counts : (s : State) (fs : List Frame) → sound (cells_of s.slots) s.next ≡ true → (datagram s fs).full ≡ false
    → ((datagram s fs).counts.ready ≡ (feed (bare_of s) fs).ready) × ((datagram s fs).counts.dropped ≡ (feed (bare_of s) fs).dropped)
    × (drain (end (datagram s fs)).slots ≡ (feed (bare_of s) fs).after.out.line)
unfolding datagram begin grow place end
sound-counts s fs e full =
    let r = grow-rel (bare_of s) (begin s) [] (stands s (sound-rest s.next s.slots e)) in
    let v = frames-sim fs (bare_of s) (grow (begin s)) [] r full in
    let p = v.ready in
    let q = v.dropped in
    (omega arith, omega arith, drain-is (sweep-outs v.outs) ∙ sym (sweep-outs v.outs).line)

-- ---- a drop

-- The pieces left are those of the slots that stay open,
opens-open : (p : Piece → Bool) (s : Slot) → is_open s ≡ true → opens p s ≡ p (piece_in s)
unfolding opens
opens-open p s y = rw y

opens-closed : (p : Piece → Bool) (s : Slot) → is_open s ≡ false → opens p s ≡ false
unfolding opens
opens-closed p s y = rw y

left-open : (r : Piece → Bool) (q : Slot → Bool) (l : List Slot) → ((s : Slot) → Memᴰ s l → opens r s ≡ q s)
    → without r (map piece_in (only is_open l)) ≡ map piece_in (only is_open (map_if q (λ s. empty_slot) l))
unfolding without only map_if change
left-open r q [] told = refl
left-open r q (s ∷ l) told =
    let rest = left-open r q l (λ x m. told x (Memᴰ.tail m)) in
    let here = told s (Memᴰ.head refl) in
    cases (is_open s)
    (λ y. cases (q s)
    (λ z. rw (y, z, empty-open, sym (opens-open r s y) ∙ (here ∙ z)) rest)
    (λ z. rw (z, y, sym (opens-open r s y) ∙ (here ∙ z), rest)))
    (λ y. rw (sym here ∙ opens-closed r s y, y) rest)

-- and the held messages stay.
held-same : (n : ℕ) (l : List Slot) (s : Slot) → held_in (dropped n l) s ≡ held_in l s
unfolding held_in
held-same n l s = ap (message_of s) (dropped-join n l (held_as s.cell.channel s.cell.order) (λ q. omega arith) s.cell.count)

left-held : (n : ℕ) (all l : List Slot) → map (held_in (dropped n all)) (only is_held_first (dropped n l))
    ≡ map (held_in all) (only is_held_first l)
unfolding dropped map_if change only is_held_first empty_slot empty_cell
left-held n all [] = refl
left-held n all (s ∷ l) =
    let rest = left-held n all l in
    cases (is_stale n s.cell)
    (λ y. rw (y, (stale-is n s.cell y).0) rest)
    (λ y. rw y (cases (is_held_first s) (λ z. rw z (let same = held-same n all s in cc)) (λ z. rw z rest)))

-- The bare receiver that the state stands for, dated so that as many datagrams were accepted since an id's last kept piece as its age is.
unfoldable pub dated_of : State → Dated
dated_of s = record { bare = bare_of s; datagrams = max_age; last = λ id. max_age - first_age s.slots id }

ages-dated : (s : State) → AgedAs (first_age s.slots) s.slots → AgedAs (age_at (dated_of s).datagrams (dated_of s).last) s.slots
unfolding dated_of age_at
ages-dated s a = aged-ext (λ id. let le = a.small id in omega arith) a

-- Every sound state, reached or not: a drop frees as many cells as that receiver drops pieces, and what it leaves stands for what that
-- receiver is after its own drop.
pub sound-drop : (s : State) (n : ℕ) → sound (cells_of s.slots) s.next ≡ true → n < max_age
    → (count_of (λ x. is_stale n x.cell) s.slots ≡ stale_pieces n (dated_of s))
    × (bare_of (with_slots (dropped n s.slots) s) ≡ (drop_stale n (dated_of s)).bare)
unfolding dated_of bare_of stale_pieces drop_stale dropped
sound-drop s n e lt =
    let told = stale-same (dated_of s) (ages-dated s (sound-aged s.next s.slots e)) n lt in
    let pieces = left-open (bare.is_stale n (dated_of s)) (λ x. is_stale n x.cell) s.slots told in
    let held = left-held n s.slots s.slots in
    let line = dropped-drain n s.slots in
    (sym (count-ext _ _ s.slots told) ∙ sym (open-counts (bare.is_stale n (dated_of s)) s.slots), rw (pieces, held, line))
