-- What one frame leaves alone in the receiver with cells: the reliable numbers accepted, but for its own, and the next numbers of other
-- channels.
-- Assumes nothing.
use Prim.Native.Nat.{ℕ, zero, suc, ◌≤◌, ◌<◌}
use mathlib.Core.Path.{◌≡◌, refl, ◌∙◌}
use mathlib.Core.Bool.{Bool, true, false, cond}
use mathlib.Core.List.{List, [], ◌∷◌}
use native.Mathlib.Omega.{arith}
use lib.ListN.{length}
use lib.Dec.{ltb}
use borrow.Author.Tests.{ltb-true}
use Rattle.base.specs.Limits.{max_ord_chans}
use Rattle.base.specs.Lists.{any}
use Rattle.base.proofs.Choices.{by_bool, and_left}
use Rattle.bare.specs.Frame.{Frame, in_limits}
use Rattle.bare.specs.Bare.{accept_reliable, seen_before}
use Rattle.cells.specs.Cell.{Slot, open_as, is_free, all_there, clash}
use Rattle.cells.specs.Datagram.{Work, drop_one, fill_up, place, made, rise, remember_in, accept_in, is_held, go_on, cascade, Fate, late}
use Rattle.cells.specs.Datagram.{early}
use Rattle.cells.specs.Datagram.{due, newer, free, fate_of, follows, roomy, readied, whole, joins, kept, put_piece, renew, piece, keep_in}
use Rattle.cells.specs.Datagram.{frame, frames}
use Rattle.bare.proofs.Tests.{bump-other}

-- x is w as far as the numbers accepted and the other channels' next go.
pub record Keeps (c : ℕ) (w x : Work) : Type 0 where
  pub accepted : x.state.accepted ≡ w.state.accepted
  pub next : (d : ℕ) → (d ≡ c → ⊥) → x.state.next d ≡ w.state.next d

same : (c : ℕ) (w : Work) → Keeps c w w
same c w = record { accepted = refl; next = λ d ne. refl }

then : {c : ℕ} {w x y : Work} → Keeps c w x → Keeps c x y → Keeps c w y
then a b = record { accepted = b.accepted ∙ a.accepted; next = λ d ne. b.next d ne ∙ a.next d ne }

keep-drop : (c : ℕ) (w : Work) → Keeps c w (drop_one w)
unfolding drop_one
keep-drop c w = record { accepted = refl; next = λ d ne. refl }

keep-full : (c : ℕ) (w : Work) → Keeps c w (fill_up w)
unfolding fill_up
keep-full c w = record { accepted = refl; next = λ d ne. refl }

keep-place : (c : ℕ) (l : List Slot) (w : Work) → Keeps c w (place l w)
unfolding place
keep-place c l w = record { accepted = refl; next = λ d ne. refl }

keep-made : (c : ℕ) (l : List Slot) (w : Work) → Keeps c w (made l w)
unfolding made
keep-made c l w = record { accepted = refl; next = λ d ne. refl }

keep-rise : (c : ℕ) (w : Work) → Keeps c w (rise c w)
unfolding rise
keep-rise c w = record { accepted = refl; next = λ d ne. bump-other c w.state.next d ne }

keep-remember : (f : Frame) (w : Work) → Keeps f.channel w (remember_in f w)
unfolding remember_in
keep-remember f w = record { accepted = refl; next = λ d ne. refl }

keep-on : (c : ℕ) (w : Work) → Keeps c w (go_on c w)
unfolding go_on
keep-on c w = then (keep-made c _ w) (keep-rise c _)

keep-cascade : (n c : ℕ) (w : Work) → Keeps c w (cascade n c w)
unfolding cascade
keep-cascade zero c w = same c w
keep-cascade (suc n) c w = by_bool (Keeps c w) (is_held c (w.state.next c) w.state.slots)
    (λ t. then (keep-on c w) (keep-cascade n c (go_on c w))) (λ t. same c w)

keep-follows : (c : ℕ) (w : Work) → Keeps c w (follows c w)
unfolding follows
keep-follows c w = then (keep-rise c w) (keep-cascade (length w.state.slots) c (rise c w))

keep-roomy : (c : ℕ) (w r : Work) → Keeps c w r → Keeps c w (roomy w r)
unfolding roomy
keep-roomy c w r k = by_bool (Keeps c w) (any is_free w.state.slots) (λ t. k) (λ t. keep-full c w)

keep-readied : (f : Frame) (w : Work) → Keeps f.channel w (readied f w)
unfolding readied
keep-readied f w = keep-roomy f.channel w _ (keep-made f.channel _ w)

keep-whole : (x : Fate) (f : Frame) (w : Work) → Keeps f.channel w (whole x f w)
unfolding whole
keep-whole late f w = keep-drop f.channel w
keep-whole early f w = keep-roomy f.channel w _ (keep-place f.channel _ w)
keep-whole newer f w = then (keep-remember f w) (keep-readied f (remember_in f w))
keep-whole free f w = keep-readied f w
keep-whole due f w = keep-roomy f.channel w _ (then (keep-made f.channel _ w) (keep-follows f.channel _))

keep-joins : (x : Fate) (f : Frame) (w : Work) → Keeps f.channel w (joins x f w)
unfolding joins
keep-joins late f w = then (keep-place f.channel _ w) (keep-drop f.channel _)
keep-joins early f w = keep-place f.channel _ w
keep-joins newer f w = then (keep-remember f w) (keep-made f.channel _ (remember_in f w))
keep-joins free f w = keep-made f.channel _ w
keep-joins due f w = then (keep-made f.channel _ w) (keep-follows f.channel _)

keep-kept : (f : Frame) (w : Work) → Keeps f.channel w (kept f w)
unfolding kept
keep-kept f w = by_bool (Keeps f.channel w) (all_there (open_as f.id) w.state.slots f.count) (λ t. keep-joins (fate_of f w) f w)
    (λ t. same f.channel w)

keep-piece : (f : Frame) (w : Work) → Keeps f.channel w (piece f w)
unfolding piece put_piece renew
keep-piece f w =
    by_bool (Keeps f.channel w) (any (clash f) w.state.slots) (λ t. keep-drop f.channel w)
    (λ t. then (keep-place f.channel _ w) (keep-roomy f.channel _ _ (then (keep-place f.channel _ _) (keep-kept f _))))

pub keep_in-keeps : (f : Frame) (w : Work) → Keeps f.channel w (keep_in f w)
unfolding keep_in
keep_in-keeps f w = by_bool (Keeps f.channel w) f.piece (λ t. keep-piece f w) (λ t. keep-whole (fate_of f w) f w)

-- A frame accepts its own reliable number, where it carries one that was not accepted before, and no other.
pub frame-accepted : (w : Work) (f : Frame) → (frame w f).state.accepted ≡ cond (seen_before f w.state.accepted) w.state.accepted
    (accept_reliable f w.state.accepted)
unfolding frame accept_in drop_one
frame-accepted w f = go (seen_before f w.state.accepted) (in_limits f)
  where
    go : (s l : Bool) → (cond s (drop_one w) (cond l (keep_in f (accept_in f w)) (drop_one (accept_in f w)))).state.accepted
        ≡ cond s w.state.accepted (accept_reliable f w.state.accepted)
    go true l = refl
    go false true = (keep_in-keeps f (accept_in f w)).accepted
    go false false = refl

-- A frame leaves the next number of every channel that is not its own, and of every one where its own is over the limit.
pub frame-next : (w : Work) (f : Frame) (d : ℕ) → (in_limits f ≡ true → d ≡ f.channel → ⊥) → (frame w f).state.next d ≡ w.state.next d
unfolding frame accept_in drop_one
frame-next w f d ne = go (seen_before f w.state.accepted) (in_limits f) refl
  where
    go : (s l : Bool) → in_limits f ≡ l → (cond s (drop_one w) (cond l (keep_in f (accept_in f w)) (drop_one (accept_in f w)))).state.next d
        ≡ w.state.next d
    go true l e = refl
    go false true e = (keep_in-keeps f (accept_in f w)).next d (ne e)
    go false false e = refl

-- Frames never touch a next number past the last channel.
pub frames-past : (fs : List Frame) (w : Work) (c : ℕ) → max_ord_chans ≤ c → (frames w fs).state.next c ≡ w.state.next c
unfolding frames in_limits
frames-past [] w c le = refl
frames-past (f ∷ fs) w c le =
    frames-past fs (frame w f) c le
    ∙ frame-next w f c (λ e q. let lt : f.channel < max_ord_chans =
    ltb-true f.channel max_ord_chans (and_left (ltb f.channel max_ord_chans) _ e) in omega arith)
