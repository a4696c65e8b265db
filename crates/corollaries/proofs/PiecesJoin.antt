-- Reading the frames written for a message's pieces makes the message ready: the theorem is `pieces-join-reached`, at the end.
-- Assumes nothing.
use Prim.Native.Nat.{ℕ, ◌<◌}
use mathlib.Core.Path.{◌≡◌, ◌∙◌, ap}
use mathlib.Core.Bool.{false}
use mathlib.Core.List.{List, map}
use native.Mathlib.Omega.{arith}
use lib.ListN.{length}
use borrow.Author.Tests.{lt-ltb}
use Rattle.std.specs.List.{flat_map}
use Rattle.base.specs.Limits.{numbers16, max_ord_chans}
use Rattle.base.specs.Lists.{any}
use Rattle.reliability.specs.declared.Profile.{Profile}
use Rattle.split.specs.Split.{Splits}
use Rattle.bare.specs.Bare.{Out, Bare, is_at, feed}
use Rattle.bare.specs.Unfinished.{Event}
use Rattle.receiver.specs.Receive.{frames_in}
use Rattle.corollaries.specs.Pieces.{Outgoing, pieces_of, message_sent, Datagrams, EachOnce, DueAndNew}
use Rattle.corollaries.specs.Pieces.{OneForEach, MadeReady, reached}
use Rattle.corollaries.proofs.PieceFrames.{line_frame, sent, datagrams-read, datagrams-written}
use Rattle.corollaries.proofs.PieceFeeds.{there-counted, pieces-queued}
use Rattle.corollaries.proofs.PieceFollows.{due-follows}
use Rattle.corollaries.proofs.HeldAbove.{due-not-held}

pieces-ready : (x : Outgoing) → Splits (length x.body) x.mtu → x.channel < max_ord_chans → OneForEach x → (b : Bare) → DueAndNew x b
    → any (is_at x.channel x.order) b.out.held ≡ false → (ks : List ℕ) → EachOnce (pieces_of x) ks
    → MadeReady x b (feed b (map (line_frame x) ks))
unfolding message_sent
pieces-ready x splits on one b d not_held ks each =
    let q = pieces-queued x splits on one b d.new_id d.new_numbers ks each in
    let f = due-follows (message_sent x) b.out d.due not_held in
    record {
      as_whole = q.out;
      followers = f.followers;
      line = ap (λ (o : Out). o.line) q.out ∙ f.line;
      held_before = f.held_before;
      later = f.later;
      ready = q.ready ∙ f.ready;
      none_dropped = q.dropped ∙ f.dropped;
      closed = q.pieces;
    }

-- The theorem below of every value of a bare receiver, whatever led to it: that it holds no message of the order number is then a premise.
pub pieces-join : (x : Outgoing) → x.id < numbers16 → 0 < pieces_of x → OneForEach x → (b : Bare) → DueAndNew x b
    → any (is_at x.channel x.order) b.out.held ≡ false
    → (ks : List ℕ) → EachOnce (pieces_of x) ks → (ds : List (List ℕ)) → Datagrams x ks ds
    → MadeReady x b (feed b (flat_map (frames_in b.out.profile) ds))
pieces-join x id some one b d not_held ks each ds carried =
    let counted = rw (lt-ltb 0 (pieces_of x) some) at (each 0) in
    let first = datagrams-written x ks ds carried 0 (there-counted 0 ks (omega arith)) in
    let s = sent x 0 first.0 first.1 in
    rw (datagrams-read x id b.out.profile ks ds carried) (pieces-ready x s.splits s.channel one b d not_held ks each)

-- Request 6, "Reading all frames written for a message and joining them yields its data": by every bare receiver that frames and drops led
-- to, for which the message is due and new, whatever else it holds and whatever its profile, in whatever order the frames come and however
-- they lie in datagrams. (It holds no message of its channel's next number: `due-not-held`.) An id is a u16 in the code, so always below
-- 2^16. There is to be a piece: of empty data, and at an mtu of no more than a frame's overhead, no call writes any. That the data is
-- split, and that its channel, order and reliable numbers are within their limits, is not asked: the calls that wrote the frames were not
-- refused.
pub pieces-join-reached : (x : Outgoing) → x.id < numbers16 → 0 < pieces_of x → OneForEach x → (p : Profile) (es : List Event)
    → DueAndNew x (reached p es)
    → (ks : List ℕ) → EachOnce (pieces_of x) ks → (ds : List (List ℕ)) → Datagrams x ks ds
    → MadeReady x (reached p es) (feed (reached p es) (flat_map (frames_in (reached p es).out.profile) ds))
pieces-join-reached x id some one p es d = pieces-join x id some one (reached p es) d (due-not-held p es x.channel x.order d.due)
