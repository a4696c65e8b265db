-- A test that a list of frames is a sender's book.
-- Assumes nothing.
use Prim.Native.Nat.{ℕ}
use mathlib.Core.Path.{◌≡◌, refl, sym, ◌∙◌}
use mathlib.Core.Logic.{◌⊎◌, inl, inr}
use mathlib.Core.Bool.{Bool, true, false, not, ◌&&◌, ◌||◌}
use mathlib.Core.List.{List, Memᴰ}
use lib.Dec.{eqb}
use borrow.Author.Tests.{eqb-true, eq-eqb, not-true}
use Rattle.base.specs.Lists.{any, every, pairs, below}
use Rattle.base.proofs.Choices.{and_left, and_right, and_both, neither, or-implied}
use Rattle.base.proofs.Lists.{any-true, every-mem, pairs-mem, below_at}
use Rattle.bare.specs.Frame.{Frame, carries_reliable, ordered, in_limits}
use Rattle.bare.specs.Book.{Of, Agree, Book}

unfoldable pub implies : Bool → Bool → Bool
implies a b = not a || b

implied : (a b : Bool) → implies a b ≡ true → a ≡ true → b ≡ true
unfolding implies
implied a b e f = or-implied a b e f

-- Two frames of one ordered message; two pieces of it; two pieces of one id.
unfoldable pub same_message : Frame → Frame → Bool
same_message f g = ordered f.kind && ordered g.kind && eqb g.channel f.channel && eqb g.order f.order

unfoldable pub two_pieces : Frame → Frame → Bool
two_pieces f g = f.piece && g.piece && eqb f.id g.id && eqb f.count g.count && eqb f.kind g.kind
    && eqb f.sequence g.sequence && not (eqb f.index g.index)

unfoldable pub two_of_id : Frame → Frame → Bool
two_of_id f g = ordered f.kind && f.piece && g.piece && eqb f.id g.id

unfoldable pub two_reliable : Frame → Frame → Bool
two_reliable f g = carries_reliable f.kind && carries_reliable g.kind && eqb f.reliable g.reliable

unfoldable pub fit : Frame → Frame → Bool
fit f g = not (two_reliable f g) && implies (same_message f g) (two_pieces f g) && implies (two_of_id f g) (same_message f g)

unfoldable pub index_there : Frame → ℕ → Frame → Bool
index_there f i g = same_message f g && g.piece && eqb g.index i

unfoldable pub stands : List Frame → Frame → Bool
stands l f = implies (ordered f.kind) (in_limits f) && implies (ordered f.kind && f.piece)
    (below f.count (λ i. any (index_there f i) l))

unfoldable pub is_book : List Frame → Bool
is_book l = pairs fit l && every (stands l) l

ruleset parts = (and_left, and_right)

module _ (c o : ℕ) (f g : Frame) where
  same_message-of : Of c o f → Of c o g → same_message f g ≡ true
  unfolding same_message
  same_message-of p q = rw (
    p.ordered_kind,
    q.ordered_kind,
    eq-eqb g.channel f.channel (q.on ∙ sym p.on),
    eq-eqb g.order
        f.order (q.numbered ∙ sym p.numbered),
  )

  of-same_message : Of c o f → same_message f g ≡ true → Of c o g
  unfolding same_message
  of-same_message p e = record {
    ordered_kind = search parts;
    on = eqb-true g.channel f.channel (search parts) ∙ p.on;
    numbered = eqb-true g.order f.order (search parts) ∙ p.numbered;
  }

-- A list that passes is a book.
module _ (l : List Frame) (e : is_book l ≡ true) where
  two : (f g : Frame) → Memᴰ f l → Memᴰ g l → (f ≡ g) ⊎ (fit f g ≡ true)
  unfolding is_book
  two f g i j = pairs-mem fit l (and_left (pairs fit l) _ e) f g i j

  one : (f : Frame) → Memᴰ f l → stands l f ≡ true
  unfolding is_book
  one f i = every-mem (stands l) l (and_right (pairs fit l) _ e) f i

  -- Two frames of one message are one, or fit as pieces.
  pieces-fit : (c o : ℕ) (f g : Frame) → Memᴰ f l → Memᴰ g l → Of c o f → Of c o g → (f ≡ g) ⊎ (two_pieces f g ≡ true)
  unfolding fit
  pieces-fit c o f g i j p q = go (two f g i j)
    where
      go : (f ≡ g) ⊎ (fit f g ≡ true) → (f ≡ g) ⊎ (two_pieces f g ≡ true)
      go (inl r) = inl r
      go (inr t) = inr (implied (same_message f g) (two_pieces f g) (search parts) (same_message-of c o f g p q))

  pub is_book-sound : Book (λ f. Memᴰ f l)
  unfolding two_pieces fit two_of_id two_reliable stands index_there
  is_book-sound = record {
    reliable_once = λ f g i j a b r. once f g a b r (two f g i j);
    whole_alone = λ c o f g i j p q w. whole f g w (pieces-fit c o f g i j p q);
    agree = λ c o f g i j p q u v. agreed f g (pieces-fit c o f g i j p q);
    index_once = λ c o f g i j p q u v r. indices f g r (pieces-fit c o f g i j p q);
    index-there = λ c o f i p u n lt. there c o f p (any-true (index_there f n) l
        (below_at f.count _ (implied (ordered f.kind && f.piece) (below f.count (λ i. any (index_there f i) l))
        (search (parts, one f i)) (and_both _ _ p.ordered_kind u)) n lt));
    id_alone = λ c o f g i j p u v r. alone c o f g p u v r (two f g i j);
    within = λ f i p. implied (ordered f.kind) (in_limits f) (search (parts, one f i)) p;
  }
    where
      once : (f g : Frame) → carries_reliable f.kind ≡ true → carries_reliable g.kind ≡ true → f.reliable ≡ g.reliable
          → (f ≡ g) ⊎ (fit f g ≡ true) → f ≡ g
      once f g a b r (inl q) = q
      once f g a b r (inr t) = neither (two_reliable f g) (and_both _ _ (and_both _ _ a b) (eq-eqb f.reliable g.reliable r))
          (not-true (two_reliable f g) (search parts))

      whole : (f g : Frame) → f.piece ≡ false → (f ≡ g) ⊎ (two_pieces f g ≡ true) → f ≡ g
      whole f g w (inl q) = q
      whole f g w (inr t) = neither f.piece (search parts depth 8) w

      agreed : (f g : Frame) → (f ≡ g) ⊎ (two_pieces f g ≡ true) → Agree f g
      agreed f g (inl q) = rw q (record { same_id = refl; same_count = refl; same_kind = refl; same_sequence = refl })
      agreed f g (inr t) = record {
        same_id = eqb-true f.id g.id (search parts depth 8);
        same_count = eqb-true f.count g.count (search parts depth 8);
        same_kind = eqb-true f.kind g.kind (search parts depth 8);
        same_sequence = eqb-true f.sequence g.sequence (search parts depth 8);
      }

      indices : (f g : Frame) → f.index ≡ g.index → (f ≡ g) ⊎ (two_pieces f g ≡ true) → f ≡ g
      indices f g r (inl q) = q
      indices f g r (inr t) = neither (eqb f.index g.index) (eq-eqb _ _ r) (not-true (eqb f.index g.index) (search parts))

      alone : (c o : ℕ) (f g : Frame) → Of c o f → f.piece ≡ true → g.piece ≡ true → f.id ≡ g.id → (f ≡ g) ⊎ (fit f g ≡ true) → Of c o g
      alone c o f g p u v r (inl q) = rw (← q) p
      alone c o f g p u v r (inr t) = of-same_message c o f g p
          (implied (two_of_id f g) (same_message f g) (search parts) (and_both _ _ (and_both _ _ (and_both _ _ p.ordered_kind u) v)
          (eq-eqb f.id g.id r)))

      there : (c o : ℕ) (f : Frame) {n : ℕ} → Of c o f → (g : Frame) × Memᴰ g l × (index_there f n g ≡ true) → (g : Frame)
          × Memᴰ g l × Of c o g × (g.piece ≡ true) × (g.index ≡ n)
      there c o f {n} p t = let h = t.2 in (
        t.0,
        t.1,
        of-same_message c o f t.0 p (search (parts, h)),
        (search (parts, h)),
        eqb-true t.0.index n (search (parts, h)),
      )
