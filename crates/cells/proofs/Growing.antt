-- How far one frame can raise turn and counts: so no number of the code wraps.
-- Assumes nothing.
use Prim.Native.Nat.{ℕ, zero, suc, ◌+◌, ◌≤◌}
use mathlib.Core.Path.{◌≡◌, refl, ◌∙◌}
use mathlib.Core.List.{List}
use native.Mathlib.Omega.{arith}
use lib.ListN.{length, length-map}
use Rattle.base.specs.Lists.{any}
use Rattle.base.proofs.Choices.{by_bool}
use Rattle.bare.specs.Frame.{Frame, in_limits}
use Rattle.bare.specs.Bare.{seen_before}
use Rattle.cells.specs.Cell.{Slot, Key, open_as, held_as, of, is_free, all_there, clash, mark, change, map_if, turn_to, put_slot, slot_of}
use Rattle.cells.specs.Datagram.{Work, drop_one, fill_up, place, made, rise, remember_in, accept_in, is_held, go_on, cascade, Fate, late}
use Rattle.cells.specs.Datagram.{early, due, newer, free, fate_of, follows, roomy, readied, whole, joins, kept, put_piece, renew, piece}
use Rattle.cells.specs.Datagram.{keep_in, frame}
use Rattle.cells.proofs.PutSlot.{put-length}
use Rattle.cells.proofs.Aging.{renewed-length}

-- x has as many slots as w, and a turn and counts at most n above those of w.
pub record Grows (n : ℕ) (w x : Work) : Type 0 where
  pub turn : x.turn ≤ w.turn + n
  pub ready : x.counts.ready ≤ w.counts.ready + n
  pub dropped : x.counts.dropped ≤ w.counts.dropped + n
  pub many : length x.state.slots ≡ length w.state.slots

grow-none : (w : Work) → Grows 0 w w
grow-none w = record { turn = omega arith; ready = omega arith; dropped = omega arith; many = refl }

grow-then : (n m : ℕ) (w x y : Work) → Grows n w x → Grows m x y → Grows (n + m) w y
grow-then n m w x y a b = record {
  turn = let p = a.turn in let q = b.turn in omega arith;
  ready = let p = a.ready in let q = b.ready in omega arith;
  dropped = let p = a.dropped in let q = b.dropped in omega arith;
  many = b.many ∙ a.many;
}

grow-more : (n m : ℕ) (w x : Work) → n ≤ m → Grows n w x → Grows m w x
grow-more n m w x le a = record {
  turn = let p = a.turn in omega arith;
  ready = let p = a.ready in omega arith;
  dropped = let p = a.dropped in omega arith;
  many = a.many;
}

grow-drop : (w : Work) → Grows 1 w (drop_one w)
unfolding drop_one
grow-drop w = record { turn = omega arith; ready = omega arith; dropped = omega arith; many = refl }

grow-full : (w : Work) → Grows 0 w (fill_up w)
unfolding fill_up
grow-full w = record { turn = omega arith; ready = omega arith; dropped = omega arith; many = refl }

grow-rise : (c : ℕ) (w : Work) → Grows 0 w (rise c w)
unfolding rise
grow-rise c w = record { turn = omega arith; ready = omega arith; dropped = omega arith; many = refl }

grow-remember : (f : Frame) (w : Work) → Grows 0 w (remember_in f w)
unfolding remember_in
grow-remember f w = record { turn = omega arith; ready = omega arith; dropped = omega arith; many = refl }

grow-accept : (f : Frame) (w : Work) → Grows 0 w (accept_in f w)
unfolding accept_in
grow-accept f w = record { turn = omega arith; ready = omega arith; dropped = omega arith; many = refl }

module _ (l : List Slot) (w : Work) (e : length l ≡ length w.state.slots) where
  grow-place : Grows 0 w (place l w)
  unfolding place
  grow-place = record { turn = omega arith; ready = omega arith; dropped = omega arith; many = e }

  grow-made : Grows 1 w (made l w)
  unfolding made
  grow-made = record { turn = omega arith; ready = omega arith; dropped = omega arith; many = e }

turn-length : (k : Key) (u t : ℕ) (l : List Slot) → length (turn_to k u t l) ≡ length l
unfolding turn_to map_if
turn-length k u t l = length-map l (change (of k) (mark u t))

grow-on : (c : ℕ) (w : Work) → Grows 1 w (go_on c w)
unfolding go_on
grow-on c w = grow-then 1 0 w _ _ (grow-made (turn_to (held_as c (w.state.next c)) 3 w.turn w.state.slots) w
    (turn-length (held_as c (w.state.next c)) 3 w.turn w.state.slots)) (grow-rise c _)

grow-cascade : (n c : ℕ) (w : Work) → Grows n w (cascade n c w)
unfolding cascade
grow-cascade zero c w = grow-none w
grow-cascade (suc n) c w = by_bool (Grows (suc n) w) (is_held c (w.state.next c) w.state.slots)
    (λ t. let e : 1 + n ≡ suc n = omega arith in rw (← e) (grow-then 1 n w (go_on c w) (cascade n c (go_on c w)) (grow-on c w)
    (grow-cascade n c (go_on c w))))
    (λ t. grow-more 0 (suc n) w w (omega arith) (grow-none w))

grow-follows : (n c : ℕ) (w : Work) → length w.state.slots ≤ n → Grows n w (follows c w)
unfolding follows
grow-follows n c w le = grow-more (0 + length w.state.slots) n w (cascade (length w.state.slots) c (rise c w)) (omega arith)
    (grow-then 0 (length w.state.slots) w (rise c w) (cascade (length w.state.slots) c (rise c w)) (grow-rise c w)
    (grow-cascade (length w.state.slots) c (rise c w)))

module _ (n : ℕ) where
  grow-roomy : (w r : Work) → Grows n w r → Grows n w (roomy w r)
  unfolding roomy
  grow-roomy w r g = by_bool (Grows n w) (any is_free w.state.slots) (λ t. g)
      (λ t. grow-more 0 n w (fill_up w) (omega arith) (grow-full w))

grow-readied : (f : Frame) (w : Work) → Grows 1 w (readied f w)
unfolding readied
grow-readied f w = grow-roomy 1 w _ (grow-made _ w (put-length (slot_of f 3 w.turn) w.state.slots))

-- Made ready, then the held ones that follow.
module _ (n c : ℕ) (l : List Slot) (w : Work) (e : length l ≡ length w.state.slots) (le : length w.state.slots ≤ n) where
  grow-due : Grows (1 + n) w (follows c (made l w))
  unfolding made
  grow-due = grow-then 1 n w (made l w) (follows c (made l w)) (grow-made l w e) (grow-follows n c (made l w) (rw e le))

module _ (n : ℕ) (f : Frame) (w : Work) (le : length w.state.slots ≤ n) where
  grow-whole : (x : Fate) → Grows (1 + n) w (whole x f w)
  unfolding whole
  grow-whole late = grow-more 1 (1 + n) w _ (omega arith) (grow-drop w)
  grow-whole early = grow-roomy (1 + n) w _ (grow-more 0 (1 + n) w _ (omega arith)
      (grow-place _ w (put-length (slot_of f 2 0) w.state.slots)))
  grow-whole newer = grow-more 1 (1 + n) w _ (omega arith) (grow-then 0 1 w _ _ (grow-remember f w) (grow-readied f (remember_in f w)))
  grow-whole free = grow-more 1 (1 + n) w _ (omega arith) (grow-readied f w)
  grow-whole due = grow-roomy (1 + n) w _ (grow-due n f.channel _ w (put-length (slot_of f 3 w.turn) w.state.slots) le)

  grow-joins : (x : Fate) → Grows (1 + n) w (joins x f w)
  unfolding joins remember_in
  grow-joins late = grow-more 1 (1 + n) w _ (omega arith) (grow-then 0 1 w _ _
      (grow-place _ w (turn-length (open_as f.id) 4 0 w.state.slots)) (grow-drop _))
  grow-joins early = grow-more 0 (1 + n) w _ (omega arith) (grow-place _ w (turn-length (open_as f.id) 2 0 w.state.slots))
  grow-joins newer = grow-more 1 (1 + n) w _ (omega arith) (grow-then 0 1 w _ _ (grow-remember f w)
      (grow-made _ (remember_in f w) (turn-length (open_as f.id) 3 w.turn w.state.slots)))
  grow-joins free = grow-more 1 (1 + n) w _ (omega arith) (grow-made _ w (turn-length (open_as f.id) 3 w.turn w.state.slots))
  grow-joins due = grow-due n f.channel _ w (turn-length (open_as f.id) 3 w.turn w.state.slots) le

  grow-kept : Grows (1 + n) w (kept f w)
  unfolding kept
  grow-kept = by_bool (Grows (1 + n) w) (all_there (open_as f.id) w.state.slots f.count) (λ t. grow-joins (fate_of f w))
      (λ t. grow-more 0 (1 + n) w w (omega arith) (grow-none w))

module _ (n : ℕ) (f : Frame) (w : Work) (le : length w.state.slots ≤ n) where
  grow-put : Grows (1 + n) w (put_piece f w)
  unfolding put_piece place
  grow-put = grow-roomy (1 + n) w _ (grow-more (0 + (1 + n)) (1 + n) w _ (omega arith)
      (grow-then 0 (1 + n) w (place (put_slot (slot_of f 1 0) w.state.slots) w) _
      (grow-place _ w (put-length (slot_of f 1 0) w.state.slots))
      (grow-kept n f _ (rw (put-length (slot_of f 1 0) w.state.slots) le))))

module _ (n : ℕ) (f : Frame) (w : Work) (le : length w.state.slots ≤ n) where
  grow-piece : Grows (1 + n) w (piece f w)
  unfolding piece renew place
  grow-piece =
      by_bool (Grows (1 + n) w) (any (clash f) w.state.slots) (λ t. grow-more 1 (1 + n) w _ (omega arith) (grow-drop w))
      (λ t. grow-more (0 + (1 + n)) (1 + n) w (put_piece f (renew f w)) (omega arith)
      (grow-then 0 (1 + n) w (renew f w) (put_piece f (renew f w)) (grow-place _ w (renewed-length f.id w.state.slots))
      (grow-put n f (renew f w) (rw (renewed-length f.id w.state.slots) le))))

  grow-keep : Grows (1 + n) w (keep_in f w)
  unfolding keep_in
  grow-keep = by_bool (Grows (1 + n) w) f.piece (λ t. grow-piece) (λ t. grow-whole n f w le (fate_of f w))

-- One frame raises each by at most one more than there are slots.
pub frame-grows : (n : ℕ) (f : Frame) (w : Work) → length w.state.slots ≤ n → Grows (1 + n) w (frame w f)
unfolding frame accept_in
frame-grows n f w le =
    by_bool (Grows (1 + n) w) (seen_before f w.state.accepted) (λ t. grow-more 1 (1 + n) w _ (omega arith) (grow-drop w))
    (λ t. by_bool (Grows (1 + n) w) (in_limits f)
    (λ u. grow-more (0 + (1 + n)) (1 + n) w (keep_in f (accept_in f w)) (omega arith)
    (grow-then 0 (1 + n) w (accept_in f w) (keep_in f (accept_in f w)) (grow-accept f w) (grow-keep n f (accept_in f w) le)))
    (λ u. grow-more 1 (1 + n) w (drop_one (accept_in f w)) (omega arith) (grow-then 0 1 w (accept_in f w) (drop_one (accept_in f w))
    (grow-accept f w) (grow-drop (accept_in f w)))))
