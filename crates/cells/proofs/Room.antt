-- Room runs out exactly when the cells in use before and the bodies not dropped as frames are more than all cells.
-- Assumes nothing.
use Prim.Native.Nat.{ℕ, zero, suc, ◌+◌}
use mathlib.Core.Path.{◌≡◌, refl, sym, ◌∙◌, ap}
use mathlib.Core.Logic.{◌⊎◌, inl, inr}
use mathlib.Core.Bool.{Bool, true, false, cond, not, ◌||◌}
use mathlib.Core.List.{List, [], ◌∷◌}
use native.Mathlib.Omega.{arith}
use lib.ListN.{length}
use lib.Dec.{ltb, eqb}
use borrow.Author.Tests.{ltb-true, ltb-false, lt-ltb, le-ltb, eqb-true}
use Rattle.base.specs.Lists.{find, any, count_of}
use Rattle.base.proofs.Choices.{by_bool, cases, by_option}
use Rattle.base.proofs.Counts.{count_map, count_none, count-both}
use Rattle.reliability.specs.declared.Profile.{Profile}
use Rattle.bare.specs.Frame.{Frame, Message, ordered, sequenced, in_limits, piece_of, message}
use Rattle.bare.specs.Bare.{Out, Bare, Sent, is_at, emit, follow, quiet, queue, memory_of, older, ready, sequence, deliver, conflict}
use Rattle.bare.specs.Bare.{seen_before, accept_reliable, step}
use Rattle.cells.specs.Cell.{Slot, Key, open_as, held_as, of, is_free, is_ready, all_there, clash, mark, change, map_if, turn_to, put_slot}
use Rattle.cells.specs.Cell.{slot_of}
use Rattle.cells.specs.Datagram.{Work, drop_one, fill_up, place, made, rise, remember_in, accept_in, is_held, go_on, cascade, follows, Fate}
use Rattle.cells.specs.Datagram.{late, early, due, newer, free, fate, fate_of, roomy, readied, whole, joins, kept, put_piece, renew, piece}
use Rattle.cells.specs.Datagram.{keep_in, frame, frames, rank, renumber, State, begin, grow, datagram}
use Rattle.cells.specs.Room.{kept_as_frame, bodies, exceeds}
use Rattle.cells.proofs.PutSlot.{free-put}
use Rattle.cells.proofs.Keys.{key-used, used-free, mark-free}
use Rattle.cells.proofs.Pieces.{tests-clash}
use Rattle.cells.proofs.FrameSlot.{slot-free}
use Rattle.cells.proofs.Cascade.{Rel, is_held-is}
use Rattle.cells.proofs.Aging.{grown-free, grow-rel, renewed-free}
use Rattle.cells.proofs.Frames.{sim-rel, frame-sim, follows-full, kept_full, frames-full}

-- How a working state's unused slots change: one less for k = 1, unless there was none.
abbrev Spends : Work → Work → ℕ → Type 0
Spends w w' k = ((w'.full ≡ true) × (count_of is_free w.state.slots ≡ 0) × (k ≡ 1)) ⊎
    ((w'.full ≡ w.full) × (count_of is_free w.state.slots ≡ k + count_of is_free w'.state.slots))

free-turn : (k : Key) (u t : ℕ) (l : List Slot) → (u ≡ 0 → ⊥) → count_of is_free (turn_to k u t l) ≡ count_of is_free l
unfolding turn_to map_if change
free-turn k u t l ne = count_map is_free is_free (change (of k) (mark u t)) l
    (λ s m. cases (of k s) (λ y. rw (y, mark-free u t s ne, key-used k s y)) (λ y. rw y))

free-cascade : (n c : ℕ) (w : Work) → count_of is_free (cascade n c w).state.slots ≡ count_of is_free w.state.slots
unfolding cascade go_on rise made
free-cascade zero c w = refl
free-cascade (suc n) c w = by_bool (λ (x : Work). count_of is_free x.state.slots ≡ count_of is_free w.state.slots)
    (is_held c (w.state.next c) w.state.slots)
    (λ y. free-cascade n c (go_on c w) ∙ free-turn (held_as c (w.state.next c)) 3 w.turn w.state.slots (λ q. omega arith))
    (λ y. refl)

pub free-follows : (c : ℕ) (w : Work) → count_of is_free (follows c w).state.slots ≡ count_of is_free w.state.slots
unfolding follows rise
free-follows c w = free-cascade (length w.state.slots) c (rise c w)

free-joins : (x : Fate) (f : Frame) (w : Work) → count_of is_free (joins x f w).state.slots ≡ count_of is_free w.state.slots
unfolding joins remember_in drop_one place made
free-joins late f w = free-turn (open_as f.id) 4 0 w.state.slots (λ q. omega arith)
free-joins early f w = free-turn (open_as f.id) 2 0 w.state.slots (λ q. omega arith)
free-joins newer f w = free-turn (open_as f.id) 3 w.turn w.state.slots (λ q. omega arith)
free-joins free f w = free-turn (open_as f.id) 3 w.turn w.state.slots (λ q. omega arith)
free-joins due f w = free-follows f.channel (made (turn_to (open_as f.id) 3 w.turn w.state.slots) w) ∙ free-turn (open_as f.id)
    3 w.turn w.state.slots (λ q. omega arith)

pub free-kept : (f : Frame) (w : Work) → count_of is_free (kept f w).state.slots ≡ count_of is_free w.state.slots
unfolding kept
free-kept f w = by_bool (λ (x : Work). count_of is_free x.state.slots ≡ count_of is_free w.state.slots)
    (all_there (open_as f.id) w.state.slots f.count) (λ y. free-joins (fate_of f w) f w) (λ y. refl)

-- A slot is put, where there is room, and r has as many unused as that leaves.
roomy-spends : (x : Slot) (w r : Work) → is_free x ≡ false → r.full ≡ w.full → count_of is_free r.state.slots
    ≡ count_of is_free (put_slot x w.state.slots) → Spends w (roomy w r) 1
unfolding roomy fill_up
roomy-spends x w r e q c = by_bool (λ (z : Work). Spends w z 1) (any is_free w.state.slots)
    (λ t. inr (q, let p = free-put x w.state.slots t e in omega arith))
    (λ t. inl (refl, count_none is_free w.state.slots t, refl))

unfoldable cells_for : Fate → ℕ
cells_for late = 0
cells_for early = 1
cells_for newer = 1
cells_for free = 1
cells_for due = 1

whole-spends : (x : Fate) (f : Frame) (w : Work) → Spends w (whole x f w) (cells_for x)
unfolding whole readied remember_in cells_for drop_one place made
whole-spends late f w = inr (refl, omega arith)
whole-spends early f w = roomy-spends (slot_of f 2 0) w _ (slot-free f 2 0 (λ q. omega arith)) refl refl
whole-spends newer f w = roomy-spends (slot_of f 3 w.turn) (remember_in f w) _ (slot-free f 3 w.turn (λ q. omega arith)) refl refl
whole-spends free f w = roomy-spends (slot_of f 3 w.turn) w _ (slot-free f 3 w.turn (λ q. omega arith)) refl refl
whole-spends due f w = roomy-spends (slot_of f 3 w.turn) w _ (slot-free f 3 w.turn (λ q. omega arith)) (follows-full f.channel _)
    (free-follows f.channel _)

put-spends : (f : Frame) (w : Work) → Spends w (put_piece f w) 1
unfolding put_piece place
put-spends f w = roomy-spends (slot_of f 1 0) w _ (slot-free f 1 0 (λ q. omega arith))
    (kept_full f (place (put_slot (slot_of f 1 0) w.state.slots) w)) (free-kept f (place (put_slot (slot_of f 1 0) w.state.slots) w))

piece-spends : (f : Frame) (w : Work) → Spends w (piece f w) (cond (not (any (clash f) w.state.slots)) 1 0)
unfolding piece drop_one renew place
piece-spends f w = cases (any (clash f) w.state.slots)
    (λ t. rw t (inr (refl, omega arith)))
    (λ t. rw t (rw (renewed-free f.id w.state.slots) at (put-spends f (renew f w))))

follow-dropped : (n c : ℕ) (s : Sent) → (follow n c s).dropped ≡ s.dropped
unfolding follow emit
follow-dropped zero c s = refl
follow-dropped (suc n) c s = by_option (λ (t : Sent). t.dropped ≡ s.dropped) (find (is_at c (s.after.next c)) s.after.held)
    (λ e. refl) (λ m e. follow-dropped n c (emit m s))

-- Step 4 drops a message of an ordered kind whose number is below the channel's next or held, one of a sequenced kind that is no newer than
-- its memory, and no other.
deliver-dropped : (n : ℕ) (m : Message) (o : Out) → (deliver n m o).dropped
    ≡ cond (ordered m.kind) (cond (ltb m.order (o.next m.channel) || any (is_at m.channel m.order) o.held) 1 0)
    (cond (sequenced m.kind) (cond (older o.newest (memory_of o.profile m.kind m.channel) n) 1 0) 0)
unfolding deliver queue sequence ready quiet emit
deliver-dropped n m o = cases (ordered m.kind)
    (λ t. rw t (cases (ltb m.order (o.next m.channel) || any (is_at m.channel m.order) o.held)
    (λ u. rw u)
    (λ u. rw u (by_bool (λ (s : Sent). s.dropped ≡ 0) (eqb m.order (o.next m.channel))
    (λ z. follow-dropped (length o.held) m.channel (emit m (quiet o 0))) (λ z. refl)))))
    (λ t. rw t (cases (sequenced m.kind)
    (λ u. rw u (cases (older o.newest (memory_of o.profile m.kind m.channel) n) (λ z. rw z) (λ z. rw z)))
    (λ u. rw u)))

cells_for-is : (b : Bare) (w : Work) (h : List Message) (f : Frame) → Rel b w h → cells_for (fate_of f w)
    ≡ cond (eqb (deliver f.sequence (message f f.body) b.out).dropped 0) 1 0
unfolding fate_of fate cells_for message
cells_for-is b w h f v = rw (
  deliver-dropped f.sequence (message f f.body) b.out,
  nx,
  ← is_held-is v.outs f.channel f.order,
  ap (λ (p : Profile). memory_of p f.kind f.channel) v.profile,
  ap (λ (g : ℕ → ℕ). older g (memory_of w.state.profile f.kind f.channel) f.sequence) v.newest,
)
    (go (ordered f.kind) (sequenced f.kind)
    (ltb f.order (w.state.next f.channel) || is_held f.channel f.order w.state.slots)
    (eqb f.order (w.state.next f.channel))
    (older w.state.newest (memory_of w.state.profile f.kind f.channel) f.sequence))
  where
    nx : b.out.next f.channel ≡ w.state.next f.channel
    nx = ap (λ (g : ℕ → ℕ). g f.channel) v.outs.next-same

    go : (o s t u y : Bool) → cells_for (cond o (cond t late (cond u due early)) (cond s (cond y late newer) free))
        ≡ cond (eqb (cond o (cond t 1 0) (cond s (cond y 1 0) 0)) 0) 1 0
    go true s true u y = refl
    go true s false true y = refl
    go true s false false y = refl
    go false true t u true = refl
    go false true t u false = refl
    go false false t u y = refl

ltb-shift : (k x y z : ℕ) → x ≡ k + y → ltb y z ≡ ltb x (k + z)
ltb-shift k x y z e = cases (ltb y z)
    (λ t. let p = ltb-true y z t in t ∙ sym (lt-ltb x (k + z) (omega arith)))
    (λ t. let p = ltb-false y z t in t ∙ sym (le-ltb x (k + z) (omega arith)))

keep_in-spends : (b : Bare) (w : Work) (h : List Message) (f : Frame) → Rel b w h
    → Spends w (keep_in f w) (cond (cond f.piece (not (any (conflict (piece_of f)) b.pieces))
    (eqb (deliver f.sequence (message f f.body) b.out).dropped 0)) 1 0)
unfolding keep_in
keep_in-spends b w h f v = rw (tests-clash f b.pieces w.state.slots v.pieces) (go f.piece)
  where
    go : (t : Bool) → Spends w (cond t (piece f w) (whole (fate_of f w) f w))
        (cond (cond t (not (any (clash f) w.state.slots)) (eqb (deliver f.sequence (message f f.body) b.out).dropped 0)) 1 0)
    go true = piece-spends f w
    go false = rw (← cells_for-is b w h f v) (whole-spends (fate_of f w) f w)

frame-spends : (b : Bare) (w : Work) (h : List Message) (f : Frame) → Rel b w h → Spends w (frame w f) (cond (kept_as_frame b f) 1 0)
unfolding frame kept_as_frame drop_one accept_in
frame-spends b w h f v = rw (ap (seen_before f) v.accepted) (cases (seen_before f w.state.accepted)
    (λ t. rw t (inr (refl, omega arith)))
    (λ t. cases (in_limits f)
    (λ y. rw (t, y) (keep_in-spends (record { accepted = accept_reliable f w.state.accepted; pieces = b.pieces; out = b.out })
    (accept_in f w)
    h f (record { accepted = refl; profile = v.profile; newest = v.newest; pieces = v.pieces; outs = v.outs })))
    (λ y. rw (t, y) (inr (refl, omega arith)))))

frames-spends : (fs : List Frame) (b : Bare) (w : Work) (h : List Message) → Rel b w h → w.full ≡ false → (frames w fs).full
    ≡ ltb (count_of is_free w.state.slots) (bodies b fs)
unfolding frames bodies
frames-spends [] b w h v e = e ∙ sym (le-ltb (count_of is_free w.state.slots) 0 (omega arith))
frames-spends (f ∷ fs) b w h v e = go (cond (kept_as_frame b f) 1 0) (frame-spends b w h f v)
    (λ v' e'. frames-spends fs (step b f).after (frame w f) h v' e')
  where
    go : (k : ℕ) → Spends w (frame w f) k → (Rel (step b f).after (frame w f) h → (frame w f).full ≡ false → (frames (frame w f) fs).full
        ≡ ltb (count_of is_free (frame w f).state.slots) (bodies (step b f).after fs))
        → (frames (frame w f) fs).full ≡ ltb (count_of is_free w.state.slots) (k + bodies (step b f).after fs)
    go k (inl o) rest = frames-full fs (frame w f) o.0 ∙ sym (lt-ltb (count_of is_free w.state.slots) (k + bodies (step b f).after fs)
        (let p = o.1 in let q = o.2 in omega arith))
    go k (inr o) rest = let f' = o.0 ∙ e in rest (sim-rel (frame-sim b w h f v f')) f' ∙ ltb-shift k (count_of is_free w.state.slots)
        (count_of is_free (frame w f).state.slots) (bodies (step b f).after fs) o.1

free-renumber : (l : List Slot) → count_of is_free (renumber l) ≡ count_of is_free l
unfolding renumber map_if change is_ready
free-renumber l = count_map is_free is_free (change is_ready (λ s. mark 3 (rank l s.cell.turn) s)) l
    (λ s m. cases (is_ready s) (λ y. rw (
      y,
      mark-free 3 (rank l s.cell.turn) s (λ q. omega arith),
      used-free s 3 (eqb-true s.cell.used 3 y) (λ q. omega arith),
    )) (λ y. rw y))

-- A state that a datagram finds related to a bare receiver.
pub related-room : (b : Bare) (s : State) (h : List Message) (fs : List Frame) → Rel b (begin s) h → (datagram s fs).full
    ≡ exceeds b s.slots fs
unfolding datagram begin grow place exceeds
related-room b s h fs v =
    let u = count-both is_free s.slots in
    frames-spends fs b (grow (begin s)) h (grow-rel b (begin s) h v) refl
    ∙ (rw (grown-free (renumber s.slots), free-renumber s.slots) (ltb-shift (count_of (λ x. not (is_free x)) s.slots) (length s.slots)
    (count_of is_free s.slots) (bodies b fs) (omega arith)))
