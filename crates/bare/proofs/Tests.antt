-- What the tests of the four steps say of a frame, a piece or a message.
-- Assumes nothing.
use Prim.Native.Nat.{ℕ, suc, ◌≤◌, ◌<◌}
use mathlib.Core.Path.{◌≡◌, refl, ap}
use mathlib.Core.Bool.{true, false, ◌&&◌}
use mathlib.Core.List.{Memᴰ}
use native.Mathlib.Omega.{arith}
use lib.ListN.{length}
use native.Mathlib.Numerals.{add-one}
use lib.Dec.{ltb, leb, eqb}
use borrow.Author.Tests.{ltb-true, leb-true, eqb-true, eqb-false, eq-eqb, ne_eqb}
use Rattle.base.specs.Limits.{max_ord_chans, max_frags}
use Rattle.base.proofs.Choices.{cases, and_left, and_right, and_both, neither}
use Rattle.base.proofs.Lists.{length-without-le, length-without-lt}
use Rattle.bare.specs.Frame.{Frame, Piece, Message, ordered, in_limits, piece_of}
use Rattle.bare.specs.Bare.{Sent, is_at, bump, emit, conflict, is_piece_at, has_id}
use Rattle.bare.specs.Order.{on_channel}

-- ---- step 2

-- A piece within its limits: 1 to 1,024 of them, and the index below their count.
pub piece-limits : (f : Frame) → in_limits f ≡ true → f.piece ≡ true → (1 ≤ f.count) × (f.count ≤ max_frags) × (f.index < f.count)
unfolding in_limits
piece-limits f e p =
    let t = rw p at (and_right (ltb f.channel max_ord_chans) _ e) in
    let u = and_left (leb 1 f.count && leb f.count max_frags) _ t in (
      leb-true _ _ (and_left (leb 1 f.count) _ u),
      leb-true _ _ (and_right (leb 1 f.count) _ u),
      ltb-true _ _ (and_right (leb 1 f.count && leb f.count max_frags) _ t),
    )

-- ---- step 3

pub is_piece-true : (id i : ℕ) (g : Piece) → is_piece_at id i g ≡ true → (g.id ≡ id) × (g.index ≡ i)
unfolding is_piece_at
is_piece-true id i g e = (eqb-true _ _ (and_left (eqb g.id id) _ e), eqb-true _ _ (and_right (eqb g.id id) _ e))

pub is_piece-there : (id i : ℕ) (g : Piece) → g.id ≡ id → g.index ≡ i → is_piece_at id i g ≡ true
unfolding is_piece_at
is_piece-there id i g p q = and_both _ _ (eq-eqb _ _ p) (eq-eqb _ _ q)

pub is_piece-other : (id i : ℕ) (g : Piece) → (g.id ≡ id → ⊥) → is_piece_at id i g ≡ false
unfolding is_piece_at
is_piece-other id i g h = rw (ne_eqb g.id id h)

pub has_id-true : (id : ℕ) (g : Piece) → has_id id g ≡ true → g.id ≡ id
unfolding has_id
has_id-true id g e = eqb-true _ _ e

pub has_id-false : (id : ℕ) (g : Piece) → has_id id g ≡ false → g.id ≡ id → ⊥
unfolding has_id
has_id-false id g e = eqb-false _ _ e

-- Two frames that conflict have one id; where they agree in all else, they have one index.
pub conflict-id : (f g : Piece) → conflict f g ≡ true → g.id ≡ f.id
unfolding conflict
conflict-id f g e = eqb-true _ _ (and_left (eqb g.id f.id) _ e)

pub conflict-index : (f g : Piece) → conflict f g ≡ true → g.count ≡ f.count → g.kind ≡ f.kind → g.sequence ≡ f.sequence → g.order
    ≡ f.order → g.channel ≡ f.channel → g.index ≡ f.index
unfolding conflict
conflict-index f g e a b c d h = eqb-true _ _ (rw (
  eq-eqb g.count f.count a,
  eq-eqb g.kind f.kind b,
  eq-eqb g.sequence
      f.sequence c,
  eq-eqb g.order f.order d,
  eq-eqb g.channel f.channel h,
) at (and_right (eqb g.id f.id) _ e))

-- A piece's fields are its frame's.
pub id-of : (f : Frame) (g : Piece) → piece_of f ≡ g → f.id ≡ g.id
unfolding piece_of
id-of f g e = ap (λ (p : Piece). p.id) e

pub index_of : (f : Frame) (g : Piece) → piece_of f ≡ g → f.index ≡ g.index
unfolding piece_of
index_of f g e = ap (λ (p : Piece). p.index) e

pub body_of : (f : Frame) (g : Piece) → piece_of f ≡ g → f.body ≡ g.body
unfolding piece_of
body_of f g e = ap (λ (p : Piece). p.body) e

-- ---- step 4

pub bump-same : (c : ℕ) (next : ℕ → ℕ) (d : ℕ) → d ≡ c → bump c next d ≡ suc (next d)
unfolding bump
bump-same c next d e = rw (eq-eqb d c e) (add-one (next d))

pub bump-other : (c : ℕ) (next : ℕ → ℕ) (d : ℕ) → (d ≡ c → ⊥) → bump c next d ≡ next d
unfolding bump
bump-other c next d h = rw (ne_eqb d c h)

pub is_at-true : (c o : ℕ) (m : Message) → is_at c o m ≡ true → (m.channel ≡ c) × (m.order ≡ o)
unfolding is_at
is_at-true c o m e = (eqb-true _ _ (and_left (eqb m.channel c) _ e), eqb-true _ _ (and_right (eqb m.channel c) _ e))

pub is_at-false : (c o : ℕ) (m : Message) → is_at c o m ≡ false → m.channel ≡ c → m.order ≡ o → ⊥
unfolding is_at
is_at-false c o m e p q = neither (is_at c o m) (and_both _ _ (eq-eqb _ _ p) (eq-eqb _ _ q)) e

pub is_at-there : (c o : ℕ) (m : Message) → m.channel ≡ c → m.order ≡ o → is_at c o m ≡ true
unfolding is_at
is_at-there c o m p q = and_both _ _ (eq-eqb _ _ p) (eq-eqb _ _ q)

is_at-self : (m : Message) → is_at m.channel m.order m ≡ true
is_at-self m = is_at-there m.channel m.order m refl refl

pub on_channel-true : (c : ℕ) (m : Message) → ordered m.kind ≡ true → m.channel ≡ c → on_channel c m ≡ true
unfolding on_channel
on_channel-true c m e p = and_both _ _ e (eq-eqb _ _ p)

pub on_channel-other : (c : ℕ) (m : Message) → (m.channel ≡ c → ⊥) → on_channel c m ≡ false
unfolding on_channel
on_channel-other c m h = cases (on_channel c m) (λ e. absurd (h (eqb-true _ _ (and_right (ordered m.kind) _ e)))) (λ e. e)

pub on_channel-unordered : (c : ℕ) (m : Message) → ordered m.kind ≡ false → on_channel c m ≡ false
unfolding on_channel
on_channel-unordered c m e = rw e

-- A message made ready is held no more.
pub emit-not-longer : (m : Message) (s : Sent) → length (emit m s).after.held ≤ length s.after.held
unfolding emit
emit-not-longer m s = length-without-le _ s.after.held

pub emit-shorter : (m : Message) (s : Sent) (n : ℕ) → Memᴰ m s.after.held → length s.after.held ≤ suc n
    → length (emit m s).after.held ≤ n
unfolding emit
emit-shorter m s n i le = let lt = length-without-lt (is_at m.channel m.order) s.after.held m i (is_at-self m) in omega arith
