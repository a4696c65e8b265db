-- The invariant over a list of events: kept by every datagram of a sender's book, and by every call of request 4.
-- Assumes nothing.
use Prim.Native.Nat.{ℕ}
use mathlib.Core.Path.{◌≡◌}
use mathlib.Core.Logic.{◌⊎◌, inl, inr}
use mathlib.Core.Bool.{Bool, true}
use mathlib.Core.List.Memᴰ
use mathlib.Core.List.{List, [], ◌∷◌, ◌++◌, Memᴰ}
use Rattle.base.specs.Lists.{without}
use Rattle.base.proofs.Choices.{cases, neither}
use Rattle.base.proofs.Lists.{without-mem, mem-without}
use Rattle.reliability.specs.declared.Profile.{Profile}
use Rattle.bare.specs.Frame.{Frame, Piece, carries_reliable, ordered, piece_of}
use Rattle.bare.specs.Bare.{feed}
use Rattle.bare.specs.Unfinished.{Dated, new_dated, receive_dated, is_stale, drop_stale, Event, datagram, drop_past, happens, after_events}
use Rattle.bare.specs.Unfinished.{frames_of}
use Rattle.bare.specs.Book.{Book}
use Rattle.bare.proofs.OrderedKinds.{ordered-carries}
use Rattle.bare.proofs.Join.{joined-fewer}
use Rattle.bare.proofs.Unfinished.{stale-means}
use Rattle.bare.proofs.Invariant.{Open, Inv, Inv-same, feed-inv, new-inv}

-- Pieces that are of no ordered message may go.
fewer-open : {R : Frame → Type 0} {Done : ℕ → ℕ → Type 0} (p : Piece → Bool) (l : List Piece)
    → ((g : Piece) → p g ≡ true → ordered g.kind ≡ true → ⊥) → Open R Done l → Open R Done (without p l)
unfolding piece_of
fewer-open {R} {Done} p l away v = record {
  kept = λ g i. v.kept g (without-mem p l g i).0;
  seen = λ f r o. still f o (v.seen f r o);
  lacking = λ f r o fp i. joined-fewer p l f.id f.count (v.lacking f r o fp (without-mem p l (piece_of f) i).0);
}
  where
    still : (f : Frame) → ordered f.kind ≡ true → Done f.channel f.order ⊎ ((f.piece ≡ true) × Memᴰ (piece_of f) l)
        → Done f.channel f.order ⊎ ((f.piece ≡ true) × Memᴰ (piece_of f) (without p l))
    still f o (inl d) = inl d
    still f o (inr i) = inr (i.0, mem-without p l (piece_of f) i.1 (cases (p (piece_of f)) (λ t. absurd (away (piece_of f) t o)) (λ t. t)))

module _ (B : Frame → Type 0) (book : Book B) where
  -- A call of request 4 drops only such: the ordered kinds carry a reliable number.
  drop-inv : (R : Frame → Type 0) (n : ℕ) (d : Dated) → Inv B book R d.bare → Inv B book R (drop_stale n d).bare
  unfolding drop_stale
  drop-inv R n d v = record {
    sub = v.sub;
    numbers = v.numbers;
    pieces = fewer-open (is_stale n d) d.bare.pieces
        (λ g t o. neither (carries_reliable g.kind) (ordered-carries g.kind o) (stale-means n d g t).0) v.pieces;
    chan = v.chan;
  }

  -- All datagrams, and the calls of request 4 among them.
  events-inv : (R : Frame → Type 0) (d : Dated) → Inv B book R d.bare → (es : List Event) → ((f : Frame) → Memᴰ f (frames_of es) → B f)
      → Inv B book (λ f. R f ⊎ Memᴰ f (frames_of es)) (after_events d es).bare
  unfolding after_events happens receive_dated frames_of feed
  events-inv R d v [] h = feed-inv B book R d.bare v [] h
  events-inv R d v (datagram fs ∷ es) h =
      let w = feed-inv B book R d.bare v fs (λ f i. h f (Memᴰ.append_left (frames_of es) i)) in
      Inv-same B book _ there back (events-inv (λ f. R f ⊎ Memᴰ f fs) (receive_dated fs d) w es (λ f i. h f (Memᴰ.append_right fs i)))
    where
      there : (f : Frame) → (R f ⊎ Memᴰ f fs) ⊎ Memᴰ f (frames_of es) → R f ⊎ Memᴰ f (fs ++ frames_of es)
      there f (inl (inl r)) = inl r
      there f (inl (inr i)) = inr (Memᴰ.append_left (frames_of es) i)
      there f (inr i) = inr (Memᴰ.append_right fs i)

      back' : (f : Frame) → Memᴰ f fs ⊎ Memᴰ f (frames_of es) → (R f ⊎ Memᴰ f fs) ⊎ Memᴰ f (frames_of es)
      back' f (inl i) = inl (inr i)
      back' f (inr i) = inr i

      back : (f : Frame) → R f ⊎ Memᴰ f (fs ++ frames_of es) → (R f ⊎ Memᴰ f fs) ⊎ Memᴰ f (frames_of es)
      back f (inl r) = inl (inl r)
      back f (inr i) = back' f (Memᴰ.append_cases fs i)
  events-inv R d v (drop_past n ∷ es) h = events-inv R (drop_stale n d) (drop-inv R n d v) es h

  pub all-inv : (p : Profile) (es : List Event) → ((f : Frame) → Memᴰ f (frames_of es) → B f)
      → Inv B book (λ f. Memᴰ f (frames_of es)) (after_events (new_dated p) es).bare
  unfolding new_dated
  all-inv p es h = Inv-same B book _ there (λ f i. inr i) (events-inv (λ f. ⊥) (new_dated p) (new-inv B book p) es h)
    where
      there : (f : Frame) → ⊥ ⊎ Memᴰ f (frames_of es) → Memᴰ f (frames_of es)
      there f (inl r) = absurd r
      there f (inr i) = i
