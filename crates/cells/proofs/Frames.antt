-- One frame, and a datagram's frames: the slots' four steps are the bare receiver's.
-- Assumes nothing.
use Prim.Native.Nat.{ℕ, zero, suc, ◌≤◌}
use mathlib.Core.Path.{◌≡◌, refl, sym, ◌∙◌, ap}
use mathlib.Core.Bool.{true, false, true≢false}
use mathlib.Core.List.{List, [], ◌∷◌, Memᴰ}
use native.Mathlib.Omega.{arith}
use lib.ListN.{length}
use Rattle.base.specs.Lists.{option, any, without}
use Rattle.base.proofs.Choices.{by_bool, cases, cond-test, neither}
use Rattle.bare.specs.Frame.{Frame, Message, in_limits, piece_of, message}
use Rattle.bare.specs.Bare.{Bare, Fed, memory_of, deliver, has_id, joined, waiting, complete, keep, assemble, seen_before, accept_reliable}
use Rattle.bare.specs.Bare.{drop_in, finish, step, feed}
use Rattle.bare.proofs.Tests.{piece-limits}
use Rattle.cells.specs.Cell.{Slot, open_as, held_as, ready_as, of, is_free, all_there, clash, turn_to, put_slot, slot_of}
use Rattle.cells.specs.Datagram.{Work, drop_one, fill_up, place, made, rise, remember_in, accept_in, is_held, go_on, cascade, follows, Fate}
use Rattle.cells.specs.Datagram.{late, early, due, newer, free, fate_of, roomy, readied, whole, joins, kept, put_piece, renew, piece}
use Rattle.cells.specs.Datagram.{keep_in, frame, frames}
use Rattle.cells.proofs.Pieces.{joined-join, tests-clash, pieces-put}
use Rattle.cells.proofs.Ready.{same-put, outs-keep}
use Rattle.cells.proofs.Moves.{put-unique}
use Rattle.cells.proofs.FrameSlot.{of-slot-other, fresh-piece, Agrees, agrees-put}
use Rattle.cells.proofs.Placing.{whole-placing, joined_of, joined-placing}
use Rattle.cells.proofs.Cascade.{Rel, Sim, answer}
use Rattle.cells.proofs.Aging.{renew-rel, renewed-clash}
use Rattle.cells.proofs.Step.{settle, early≢late, newer≢late, free≢late, due≢late, deliver-sim}

pub sim-rel : {x : Fed} {w : Work} {r d : ℕ} {h : List Message} → Sim x w r d h → Rel x.after w h
sim-rel v = record { accepted = v.accepted; profile = v.profile; newest = v.newest; pieces = v.pieces; outs = v.outs }

-- nothing counted
rel-sim : (b : Bare) (w : Work) (h : List Message) → Rel b w h → Sim (record { after = b; ready = 0; dropped = 0 }) w w.counts.ready
    w.counts.dropped h
rel-sim b w h v = record {
  accepted = v.accepted;
  profile = v.profile;
  newest = v.newest;
  pieces = v.pieces;
  outs = v.outs;
  ready = omega arith;
  dropped = omega arith;
}

drop-sim : (b : Bare) (w : Work) (h : List Message) → Rel b w h → Sim (drop_in b) (drop_one w) w.counts.ready w.counts.dropped h
unfolding drop_in drop_one
drop-sim b w h v = record {
  accepted = v.accepted;
  profile = v.profile;
  newest = v.newest;
  pieces = v.pieces;
  outs = v.outs;
  ready = omega arith;
  dropped = omega arith;
}

-- Where there is no room the working state says so.
roomy-room : (w r : Work) → (roomy w r).full ≡ false → any is_free w.state.slots ≡ true
unfolding roomy fill_up
roomy-room w r e = cases (any is_free w.state.slots) (λ t. t) (λ t. absurd (true≢false (rw t at e)))

roomy-is : (w r : Work) → any is_free w.state.slots ≡ true → roomy w r ≡ r
unfolding roomy
roomy-is w r e = rw e

whole-settle : (x : Fate) (f : Frame) (w : Work) → ((x ≡ late → ⊥) → any is_free w.state.slots ≡ true) → whole x f w
    ≡ settle x f.channel (memory_of w.state.profile f.kind f.channel) f.sequence w
    (put_slot (slot_of f 2 0) w.state.slots) (put_slot (slot_of f 3 w.turn) w.state.slots) w.state.slots
unfolding whole settle readied remember_in drop_one place
whole-settle late f w room = refl
whole-settle early f w room = roomy-is w _ (room early≢late)
whole-settle newer f w room = roomy-is (remember_in f w) _ (room newer≢late)
whole-settle free f w room = roomy-is w _ (room free≢late)
whole-settle due f w room = roomy-is w _ (room due≢late)

whole_room : (x : Fate) (f : Frame) (w : Work) → (whole x f w).full ≡ false → (x ≡ late → ⊥) → any is_free w.state.slots ≡ true
unfolding whole readied remember_in
whole_room late f w full ne = absurd (ne refl)
whole_room early f w full ne = roomy-room w _ full
whole_room newer f w full ne = roomy-room (remember_in f w) _ full
whole_room free f w full ne = roomy-room w _ full
whole_room due f w full ne = roomy-room w _ full

whole-sim : (b : Bare) (w : Work) (h : List Message) (f : Frame) → Rel b w h → f.piece ≡ false → (whole (fate_of f w) f w).full ≡ false
    → Sim (answer b.accepted b.pieces (deliver f.sequence (message f f.body) b.out)) (whole (fate_of f w) f w)
    w.counts.ready w.counts.dropped h
unfolding message fate_of
whole-sim b w h f v e full =
    let room = whole_room (fate_of f w) f w full in
    rw (whole-settle (fate_of f w) f w room)
    (deliver-sim (fate_of f w) b.accepted b.pieces h f.sequence (message f f.body) b.out w _ _ _
    (whole-placing (fate_of f w) f b.pieces w.turn w.state.slots e room v.outs.unique v.pieces) v.accepted v.profile
    v.newest v.outs refl)

joins-settle : (x : Fate) (f : Frame) (w : Work) → joins x f w
    ≡ settle x f.channel (memory_of w.state.profile f.kind f.channel) f.sequence w
    (turn_to (open_as f.id) 2 0 w.state.slots)
    (turn_to (open_as f.id) 3 w.turn w.state.slots) (turn_to (open_as f.id) 4 0 w.state.slots)
unfolding joins settle remember_in
joins-settle late f w = refl
joins-settle early f w = refl
joins-settle newer f w = refl
joins-settle free f w = refl
joins-settle due f w = refl

put-rel : (b : Bare) (w : Work) (h : List Message) (f : Frame) → Rel b w h → f.piece ≡ true → any (clash f) w.state.slots ≡ false
    → any is_free w.state.slots ≡ true
    → Rel (record { accepted = b.accepted; pieces = piece_of f ∷ b.pieces; out = b.out })
    (place (put_slot (slot_of f 1 0) w.state.slots) w) h
unfolding place
put-rel b w h f v e c room = record {
  accepted = v.accepted;
  profile = v.profile;
  newest = v.newest;
  pieces = pieces-put f b.pieces w.state.slots room e c v.pieces;
  outs = outs-keep (put_slot (slot_of f 1 0) w.state.slots) v.outs
      (λ c k. same-put (slot_of f 1 0) w.state.slots room (held_as c k) (of-slot-other f 1 0 (held_as c k) (λ q. omega arith)))
      (λ t. same-put (slot_of f 1 0) w.state.slots room (ready_as t) (of-slot-other f 1 0 (ready_as t) (λ q. omega arith)))
      (put-unique (slot_of f 1 0) w.state.slots room (fresh-piece f w.state.slots e c) v.outs.unique);
}

kept-sim : (b : Bare) (w : Work) (h : List Message) (f : Frame)
    → Rel (record { accepted = b.accepted; pieces = piece_of f ∷ b.pieces; out = b.out }) w h → 1 ≤ f.count
    → ((s : Slot) → Memᴰ s w.state.slots → of (open_as f.id) s ≡ true → Agrees f s)
    → Sim (finish f.sequence b.accepted b.pieces b.out (option (joined (piece_of f ∷ b.pieces) f.id f.count)
    (waiting (piece_of f ∷ b.pieces)) (λ body. complete (without (has_id f.id) b.pieces) (message f body)))) (kept f w)
    w.counts.ready w.counts.dropped h
unfolding finish kept message fate_of
kept-sim b w h f v le agree = rw (joined-join (piece_of f ∷ b.pieces) w.state.slots v.pieces f.id f.count)
    (cases (all_there (open_as f.id) w.state.slots f.count) (λ t. rw (t, joins-settle (fate_of f w) f w)
    (deliver-sim (fate_of f w) b.accepted (without (has_id f.id) b.pieces) h f.sequence (joined_of f w.state.slots) b.out
    w _ _ _ (joined-placing f b.pieces w.turn w.state.slots agree le t v.outs.unique v.pieces (fate_of f w)) v.accepted
    v.profile v.newest v.outs refl))
    (λ t. rw t (rel-sim (record { accepted = b.accepted; pieces = piece_of f ∷ b.pieces; out = b.out }) w h v)))

put-sim : (b : Bare) (w : Work) (h : List Message) (f : Frame) → Rel b w h → f.piece ≡ true → 1 ≤ f.count
    → any (clash f) w.state.slots ≡ false → (put_piece f w).full ≡ false
    → Sim (finish f.sequence b.accepted b.pieces b.out (option (joined (piece_of f ∷ b.pieces) f.id f.count)
    (waiting (piece_of f ∷ b.pieces)) (λ body. complete (without (has_id f.id) b.pieces) (message f body)))) (put_piece f w)
    w.counts.ready w.counts.dropped h
unfolding put_piece place
put-sim b w h f v e le c full =
    let room = roomy-room w _ full in
    rw (roomy-is w (kept f (place (put_slot (slot_of f 1 0) w.state.slots) w)) room)
    (kept-sim b (place (put_slot (slot_of f 1 0) w.state.slots) w) h f (put-rel b w h f v e c room) le
    (agrees-put f w.state.slots e c))

piece-sim : (b : Bare) (w : Work) (h : List Message) (f : Frame) → Rel b w h → f.piece ≡ true → 1 ≤ f.count → (piece f w).full ≡ false
    → Sim (finish f.sequence b.accepted b.pieces b.out (keep f b.pieces)) (piece f w) w.counts.ready
    w.counts.dropped h
unfolding piece keep finish renew place
piece-sim b w h f v e le full = rw (tests-clash f b.pieces w.state.slots v.pieces) (cases (any (clash f) w.state.slots)
    (λ t. rw t (drop-sim b w h v))
    (λ t. rw t (put-sim b (renew f w) h f (renew-rel b w h f v) e le (renewed-clash f f.id w.state.slots ∙ t) (rw t at full))))

keep_in-sim : (b : Bare) (w : Work) (h : List Message) (f : Frame) → Rel b w h → in_limits f ≡ true → (keep_in f w).full ≡ false
    → Sim (finish f.sequence b.accepted b.pieces b.out (assemble f b.pieces)) (keep_in f w) w.counts.ready
    w.counts.dropped h
unfolding keep_in assemble finish
keep_in-sim b w h f v lim full = cases f.piece
    (λ t. rw (
      cond-test f.piece true (keep f b.pieces) (complete b.pieces (message f f.body)) t,
      cond-test f.piece true
          (piece f w) (whole (fate_of f w) f w) t,
    )
    (piece-sim b w h f v t (piece-limits f lim t).0 (sym (ap (λ (x : Work). x.full)
    (cond-test f.piece true (piece f w) (whole (fate_of f w) f w) t)) ∙ full)))
    (λ t. rw (
      cond-test f.piece false (keep f b.pieces) (complete b.pieces (message f f.body)) t,
      cond-test f.piece false
          (piece f w) (whole (fate_of f w) f w) t,
    )
    (whole-sim b w h f v t (sym (ap (λ (x : Work). x.full) (cond-test f.piece false (piece f w) (whole (fate_of f w) f w) t)) ∙ full)))

-- One frame does to the slots what it does to the bare receiver.
pub frame-sim : (b : Bare) (w : Work) (h : List Message) (f : Frame) → Rel b w h → (frame w f).full ≡ false → Sim (step b f) (frame w f)
    w.counts.ready w.counts.dropped h
unfolding step frame accept_in accept_reliable
frame-sim b w h f v full = rw (ap (seen_before f) v.accepted) (cases (seen_before f w.state.accepted)
    (λ t. rw t (drop-sim b w h v))
    (λ t. cases (in_limits f)
    (λ y. rw (t, y) (keep_in-sim b' (accept_in f w) h f v' y (rw (t, y) at full)))
    (λ y. rw (t, y) (drop-sim b' (accept_in f w) h v'))))
  where
    b' : Bare
    b' = record { accepted = accept_reliable f b.accepted; pieces = b.pieces; out = b.out }

    v' : Rel (record { accepted = accept_reliable f b.accepted; pieces = b.pieces; out = b.out }) (accept_in f w) h
    v' = record {
      accepted = ap (accept_reliable f) v.accepted;
      profile = v.profile;
      newest = v.newest;
      pieces = v.pieces;
      outs = v.outs;
    }

-- Once room has run out, that stays said.
cascade-full : (n c : ℕ) (w : Work) → (cascade n c w).full ≡ w.full
unfolding cascade go_on rise made
cascade-full zero c w = refl
cascade-full (suc n) c w = cases (is_held c (w.state.next c) w.state.slots) (λ t. rw t (cascade-full n c (go_on c w))) (λ t. rw t)

pub follows-full : (c : ℕ) (w : Work) → (follows c w).full ≡ w.full
unfolding follows rise
follows-full c w = cascade-full (length w.state.slots) c (rise c w)

roomy-full : (w r : Work) → w.full ≡ true → r.full ≡ w.full → (roomy w r).full ≡ true
unfolding roomy fill_up
roomy-full w r e q = by_bool (λ (x : Work). x.full ≡ true) (any is_free w.state.slots) (λ t. q ∙ e) (λ t. refl)

whole-full : (x : Fate) (f : Frame) (w : Work) → w.full ≡ true → (whole x f w).full ≡ true
unfolding whole readied remember_in drop_one place made
whole-full late f w e = e
whole-full early f w e = roomy-full w _ e refl
whole-full newer f w e = roomy-full (remember_in f w) _ e refl
whole-full free f w e = roomy-full w _ e refl
whole-full due f w e = roomy-full w _ e (follows-full f.channel _)

joins-full : (x : Fate) (f : Frame) (w : Work) → (joins x f w).full ≡ w.full
unfolding joins remember_in drop_one place made
joins-full late f w = refl
joins-full early f w = refl
joins-full newer f w = refl
joins-full free f w = refl
joins-full due f w = follows-full f.channel _

pub kept_full : (f : Frame) (w : Work) → (kept f w).full ≡ w.full
unfolding kept
kept_full f w = by_bool (λ (x : Work). x.full ≡ w.full) (all_there (open_as f.id) w.state.slots f.count)
    (λ t. joins-full (fate_of f w) f w) (λ t. refl)

put-full : (f : Frame) (w : Work) → w.full ≡ true → (put_piece f w).full ≡ true
unfolding put_piece place
put-full f w e = roomy-full w _ e (kept_full f (place (put_slot (slot_of f 1 0) w.state.slots) w))

piece-full : (f : Frame) (w : Work) → w.full ≡ true → (piece f w).full ≡ true
unfolding piece drop_one renew place
piece-full f w e = by_bool (λ (x : Work). x.full ≡ true) (any (clash f) w.state.slots) (λ t. e) (λ t. put-full f (renew f w) e)

frame-full : (w : Work) (f : Frame) → w.full ≡ true → (frame w f).full ≡ true
unfolding frame drop_one accept_in keep_in
frame-full w f e = by_bool (λ (x : Work). x.full ≡ true) (seen_before f w.state.accepted) (λ t. e)
    (λ t. by_bool (λ (x : Work). x.full ≡ true) (in_limits f)
    (λ y. by_bool (λ (x : Work). x.full ≡ true) f.piece (λ z. piece-full f (accept_in f w) e)
    (λ z. whole-full (fate_of f (accept_in f w)) f (accept_in f w) e))
    (λ y. e))

pub frames-full : (fs : List Frame) (w : Work) → w.full ≡ true → (frames w fs).full ≡ true
unfolding frames
frames-full [] w e = e
frames-full (f ∷ fs) w e = frames-full fs (frame w f) (frame-full w f e)

pub not_full : (fs : List Frame) (w : Work) → (frames w fs).full ≡ false → w.full ≡ false
not_full fs w e = cases w.full (λ t. neither (frames w fs).full (frames-full fs w t) e) (λ t. t)

-- A datagram whose room did not run out does to the slots what its frames do to the bare receiver, with the same counts.
pub frames-sim : (fs : List Frame) (b : Bare) (w : Work) (h : List Message) → Rel b w h → (frames w fs).full ≡ false
    → Sim (feed b fs) (frames w fs) w.counts.ready w.counts.dropped h
unfolding feed frames
frames-sim [] b w h v full = rel-sim b w h v
frames-sim (f ∷ fs) b w h v full =
    let s = frame-sim b w h f v (not_full fs (frame w f) full) in
    let r = frames-sim fs (step b f).after (frame w f) h (sim-rel s) full in
    record {
      accepted = r.accepted;
      profile = r.profile;
      newest = r.newest;
      pieces = r.pieces;
      outs = r.outs;
      ready = let p = s.ready in let q = r.ready in
          omega arith;
      dropped = let p = s.dropped in let q = r.dropped in omega arith;
    }
