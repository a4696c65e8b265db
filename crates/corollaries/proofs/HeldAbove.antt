-- Whatever a new bare receiver was told, the messages that it holds are above their channel's next order number.
-- Assumes nothing.
use Prim.Native.Nat.{ℕ, ◌<◌}
use mathlib.Core.Path.{◌≡◌, refl, ap}
use mathlib.Core.Bool.{Bool, false}
use mathlib.Core.List.Memᴰ
use mathlib.Core.List.{List, [], ◌∷◌, Memᴰ}
use native.Mathlib.Omega.{arith}
use Rattle.base.specs.Lists.{any, only}
use Rattle.base.proofs.Choices.{by_bool, cases}
use Rattle.base.proofs.Lists.{any-all}
use Rattle.reliability.specs.declared.Profile.{Profile}
use Rattle.bare.specs.Frame.{Frame, Piece, Message, in_limits}
use Rattle.bare.specs.Bare.{Out, Bare, Fed, new, Kept, refused, waiting, complete, assemble, seen_before, accept_reliable, drop_in, finish}
use Rattle.bare.specs.Bare.{is_at, step, feed}
use Rattle.bare.specs.Unfinished.{Dated, new_dated, receive_dated, drop_stale, Event, datagram, drop_past, happens, after_events}
use Rattle.bare.proofs.Tests.{is_at-true}
use Rattle.bare.proofs.Channel.{Chan, deliver-delivers}
use Rattle.corollaries.specs.Pieces.{reached}

-- step 4's order, whatever the messages are
abbrev Ordered : Out → Type 0
Ordered o = Chan (λ c n m. Unit {0}) o

finish-ordered : (n : ℕ) (a : ℕ → Bool) (l : List Piece) (o : Out) → Ordered o → (k : Kept) → Ordered (finish n a l o k).after.out
unfolding finish drop_in
finish-ordered n a l o h refused = h
finish-ordered n a l o h (waiting k) = h
finish-ordered n a l o h (complete k m) = (deliver-delivers (λ c i m. Unit {0}) n m o h (λ e. tt)).chan

step-ordered : (b : Bare) (f : Frame) → Ordered b.out → Ordered (step b f).after.out
unfolding step drop_in
step-ordered b f h = by_bool (λ (a : Fed). Ordered a.after.out) (seen_before f b.accepted) (λ t. h)
    (λ t. by_bool (λ (a : Fed). Ordered a.after.out) (in_limits f)
    (λ u. finish-ordered f.sequence (accept_reliable f b.accepted) b.pieces b.out h (assemble f b.pieces))
    (λ u. h))

feed-ordered : (b : Bare) (fs : List Frame) → Ordered b.out → Ordered (feed b fs).after.out
unfolding feed
feed-ordered b [] h = h
feed-ordered b (f ∷ fs) h = feed-ordered (step b f).after fs (step-ordered b f h)

events-ordered : (d : Dated) (es : List Event) → Ordered d.bare.out → Ordered (after_events d es).bare.out
unfolding after_events happens receive_dated drop_stale
events-ordered d [] h = h
events-ordered d (datagram fs ∷ es) h = events-ordered (receive_dated fs d) es (feed-ordered d.bare fs h)
events-ordered d (drop_past n ∷ es) h = events-ordered (drop_stale n d) es h

pub held-above : (p : Profile) (es : List Event) (m : Message) → Memᴰ m (reached p es).out.held
    → (reached p es).out.next m.channel < m.order
unfolding new_dated new only
held-above p es = (events-ordered (new_dated p) es (record {
  ahead = λ m i. absurd (Memᴰ.not-nil i);
  held-ordered = λ m i. absurd (Memᴰ.not-nil i);
  held-good = λ m i. absurd (Memᴰ.not-nil i);
  line-good = λ c. refl;
})).ahead

-- So none is at its channel's next.
pub due-not-held : (p : Profile) (es : List Event) (c o : ℕ) → (reached p es).out.next c ≡ o
    → any (is_at c o) (reached p es).out.held ≡ false
due-not-held p es c o due = any-all (is_at c o) (reached p es).out.held
    (λ m i. cases (is_at c o m)
    (λ t. let a = is_at-true c o m t in
    let n = a.1 in
    let same = ap (reached p es).out.next a.0 in
    let above = held-above p es m i in
    absurd (omega arith))
    (λ t. t))
