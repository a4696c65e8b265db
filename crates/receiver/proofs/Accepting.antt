-- The reliable numbers that a datagram's frames accept: in the window, and in the receiver with cells. They are the same.
-- Assumes nothing.
use Prim.Native.Nat.{ℕ, ◌+◌, ◌≤◌, ◌<◌}
use mathlib.Core.Path.{◌≡◌, refl, sym, ◌∙◌, ap, subst}
use mathlib.Core.Bool.{Bool, true, false, cond, ◌||◌}
use mathlib.Core.Option.{none, some}
use mathlib.Core.List.{List, [], ◌∷◌, Memᴰ}
use native.Mathlib.Omega.{arith}
use lib.Dec.{ltb, eqb}
use borrow.Author.Tests.{ltb-false, eqb-true}
use Rattle.base.specs.Limits.{numbers24, window_places}
use Rattle.base.proofs.Choices.{cases}
use Rattle.window.specs.declared.ReliableWindow.{ReliableWindow}
use Rattle.window.specs.Window.{accepted, accept}
use Rattle.base.specs.Numbers.{distance}
use Rattle.window.specs.Proper.{Sized, Proper}
use Rattle.window.proofs.Accepted.{low-le}
use Rattle.window.proofs.Inserts.{accept-accepts, accept-sized}
use Rattle.window.proofs.Laws.{proper-accepted, accepted-proper}
use Rattle.bare.specs.Frame.{Frame, carries_reliable}
use Rattle.bare.specs.Bare as line
use Rattle.cells.specs.Datagram.{Work, frame, frames}
use Rattle.receiver.specs.Receive.{accept_all}
use Rattle.receiver.proofs.Keeps.{frame-accepted}

-- One frame: its reliable number, where it carries one, joins the accepted.
unfoldable pub join_accepted : (ℕ → Bool) → Frame → ℕ → Bool
join_accepted a f = cond (line.seen_before f a) a (line.accept_reliable f a)

unfoldable pub join_all : (ℕ → Bool) → List Frame → ℕ → Bool
join_all a [] = a
join_all a (f ∷ fs) = join_all (join_accepted a f) fs

-- A window that accepts n accepts what it did before, and n.
joined : (w : ReliableWindow) (f : Frame) → Sized w → carries_reliable f.kind ≡ true → accepted w f.reliable ≡ false
    → f.reliable ≤ w.low + window_places
    → accepted (accept w f.reliable) ≡ join_accepted (accepted w) f
unfolding join_accepted line.seen_before line.accept_reliable
joined w f z c e le = λ i m. (accept-accepts w f.reliable m z e le ∙ go m) i
  where
    go : (m : ℕ) → (eqb m f.reliable || accepted w m) ≡ join_accepted (accepted w) f m
    go m = rw (c, e) (rw c)

skipped : (w : ReliableWindow) (f : Frame) → carries_reliable f.kind ≡ false → accepted w ≡ join_accepted (accepted w) f
unfolding join_accepted line.seen_before line.accept_reliable
skipped w f c = λ i m. go m i
  where
    go : (m : ℕ) → accepted w m ≡ join_accepted (accepted w) f m
    go m = rw c (rw c)

seen : (w : ReliableWindow) (f : Frame) → carries_reliable f.kind ≡ true → accepted w f.reliable ≡ true → accepted w
    ≡ join_accepted (accepted w) f
unfolding join_accepted line.seen_before
seen w f c e = rw (c, e)

-- What `accept_all` gives: a proper window that accepts what it did, and the frames' numbers.
pub record All (w v : ReliableWindow) (fs : List Frame) : Type 0 where
  pub proper : Proper v
  pub accepts : accepted v ≡ join_all (accepted w) fs

pub accept-proper : (w : ReliableWindow) (n : ℕ) → Proper w → n < numbers24 → accepted w n ≡ false → n ≤ w.low + window_places
    → Proper (accept w n)
accept-proper w n p lt e le =
    accepted-proper (accept w n) (accept-sized w n p.sized)
    (λ m a. go m (sym (accept-accepts w n m p.sized e le) ∙ a))
  where
    go : (m : ℕ) → (eqb m n || accepted w m) ≡ true → m < numbers24
    go m t = cases (eqb m n) (λ y. rw (eqb-true m n y) lt) (λ y. proper-accepted w p m (rw y at t))

pub all-accepted : (fs : List Frame) (w v : ReliableWindow) → ((f : Frame) → Memᴰ f fs → f.reliable < numbers24) → Proper w
    → accept_all w fs ≡ some v → All w v fs
unfolding accept_all join_all
all-accepted [] w v small p e = let q : w ≡ v = cc in record { proper = subst Proper q p; accepts = ap accepted (sym q) }
all-accepted (f ∷ fs) w v small p e =
    go (λ x q s r. let a = all-accepted fs x v (λ g m. small g (Memᴰ.tail m)) q r in
    record { proper = a.proper; accepts = a.accepts ∙ ap (λ (b : ℕ → Bool). join_all b fs) s })
    (carries_reliable f.kind) refl (accepted w f.reliable) refl (ltb window_places (distance w.low f.reliable)) refl e
  where
    go : ((x : ReliableWindow) → Proper x → accepted x ≡ join_accepted (accepted w) f → accept_all x fs ≡ some v → All w v (f ∷ fs))
        → (c : Bool) → carries_reliable f.kind ≡ c → (s : Bool) → accepted w f.reliable ≡ s → (b : Bool)
        → ltb window_places (distance w.low f.reliable) ≡ b
        → cond c (cond s (accept_all w fs) (cond b none (accept_all (accept w f.reliable) fs))) (accept_all w fs) ≡ some v
        → All w v (f ∷ fs)
    go rest false c s t b u r = rest w p (skipped w f c) r
    go rest true c true t b u r = rest w p (seen w f c t) r
    go rest true c false t true u r = absurd (let z : ◌≡◌ {A = ℕ} 0 1 = cc in omega arith)
    go rest true c false t false u r =
        let le : distance w.low f.reliable ≤ window_places = ltb-false window_places (distance w.low f.reliable) u in
        let ge : w.low ≤ f.reliable = low-le w f.reliable t in
        let near : f.reliable ≤ w.low + window_places = omega arith in
        rest (accept w f.reliable) (accept-proper w f.reliable p (small f (Memᴰ.head refl)) t near)
        (joined w f p.sized c t near) r

-- The receiver with cells accepts the same.
pub frames-accepted : (fs : List Frame) (w : Work) → (frames w fs).state.accepted ≡ join_all w.state.accepted fs
unfolding frames join_all join_accepted
frames-accepted [] w = refl
frames-accepted (f ∷ fs) w = frames-accepted fs (frame w f) ∙ ap (λ (b : ℕ → Bool). join_all b fs) (frame-accepted w f)
