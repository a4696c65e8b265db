-- What the bare receiver holds, in terms of the frames read: kept by every frame of a sender's book.
-- Assumes nothing.
use Prim.Native.Nat.{ℕ, ◌<◌}
use mathlib.Core.Path.{◌≡◌, refl, sym, ◌∙◌, ap, subst}
use mathlib.Core.Logic.{◌⊎◌, inl, inr}
use mathlib.Core.Bool.{Bool, true, false, ◌&&◌, ◌||◌, false≢true, or-true}
use mathlib.Core.Option.{none, some}
use mathlib.Core.List.Memᴰ
use mathlib.Core.List.{List, [], ◌∷◌, Memᴰ}
use lib.Dec.{eqb}
use borrow.Author.Tests.{eqb-true, eqb-false, eq-eqb}
use Rattle.base.specs.Lists.{any, without, only}
use Rattle.base.proofs.Choices.{by_bool, cases, by_option, and_left, and_right, neither}
use Rattle.base.proofs.Lists.{any-true, without-mem, mem-without}
use Rattle.base.proofs.EachAt.{EachAt-map}
use Rattle.reliability.specs.declared.Profile.{Profile}
use Rattle.bare.specs.Frame.{Frame, Piece, Message, carries_reliable, ordered, in_limits, piece_of, message}
use Rattle.bare.specs.Bare.{Out, Bare, Fed, new, conflict, has_id, joined, Kept, refused, waiting, complete, keep, assemble}
use Rattle.bare.specs.Bare.{seen_before, accept_reliable, drop_in, finish, step, feed}
use Rattle.bare.specs.Book.{Of, Book, Written, Arrived}
use Rattle.bare.specs.Order.{on_channel}
use Rattle.bare.proofs.OrderedKinds.{ordered-carries}
use Rattle.bare.proofs.Tests.{piece-limits, has_id-true, has_id-false, conflict-id, conflict-index, id-of, index_of}
use Rattle.bare.proofs.Channel.{Passed, Chan, Delivered, deliver-delivers}
use Rattle.bare.proofs.Join.{joined-skip, joined-without, joined-piece, joined-joins}

-- The reliable numbers accepted are those of the frames read.
pub record Numbers (R : Frame → Type 0) (accepted : ℕ → Bool) : Type 0 where
  pub known : (f : Frame) → R f → carries_reliable f.kind ≡ true → accepted f.reliable ≡ true
  pub named : (n : ℕ) → accepted n ≡ true → (f : Frame) × R f × (carries_reliable f.kind ≡ true) × (f.reliable ≡ n)

-- The open pieces are of frames read; an ordered frame read has its piece among them, or its message is done; an ordered message with an
-- open piece lacks one.
pub record Open (R : Frame → Type 0) (Done : ℕ → ℕ → Type 0) (pieces : List Piece) : Type 0 where
  pub kept : (g : Piece) → Memᴰ g pieces → (f : Frame) × R f × (f.piece ≡ true) × (piece_of f ≡ g)
  pub seen : (f : Frame) → R f → ordered f.kind ≡ true → Done f.channel f.order ⊎
      ((f.piece ≡ true) × Memᴰ (piece_of f) pieces)
  pub lacking : (f : Frame) → R f → ordered f.kind ≡ true → f.piece ≡ true → Memᴰ (piece_of f) pieces
      → joined pieces f.id f.count ≡ none

-- One frame more.
abbrev And : (Frame → Type 0) → Frame → Frame → Type 0
And R x f = R f ⊎ (f ≡ x)

own : (f : Frame) → ordered f.kind ≡ true → Of f.channel f.order f
own f e = record { ordered_kind = e; on = refl; numbered = refl }

module _ (B : Frame → Type 0) (book : Book B) where
  -- The book's message, all of whose frames were read.
  pub record Good (R : Frame → Type 0) (c o : ℕ) (m : Message) : Type 0 where
    pub written : Written B c o m
    pub arrived : Arrived B R c o

  pub record Inv (R : Frame → Type 0) (b : Bare) : Type 0 where
    pub sub : (f : Frame) → R f → B f
    pub numbers : Numbers R b.accepted
    pub pieces : Open R (Passed b.out) b.pieces
    pub chan : Chan (Good R) b.out

  Good-more : {R S : Frame → Type 0} → ((f : Frame) → R f → S f) → (c o : ℕ) (m : Message) → Good R c o m → Good S c o m
  Good-more h c o m g = record {
    written = g.written;
    arrived = record {
      some_frame = g.arrived.some_frame;
      all_read = λ f b of. h f (g.arrived.all_read f b of);
    };
  }

  Chan-more : {R S : Frame → Type 0} → ((f : Frame) → R f → S f) → (o : Out) → Chan (Good R) o → Chan (Good S) o
  Chan-more h o ch = record {
    ahead = ch.ahead;
    held-ordered = ch.held-ordered;
    held-good = λ m i. Good-more h _ _ m (ch.held-good m i);
    line-good = λ c. EachAt-map (Good-more h c) (o.next c) (only (on_channel c) o.line) (ch.line-good c);
  }

  -- The invariant is one about which frames were read, however that is said.
  pub Inv-same : {R S : Frame → Type 0} (b : Bare) → ((f : Frame) → R f → S f) → ((f : Frame) → S f → R f) → Inv R b → Inv S b
  Inv-same b h k v = record {
    sub = λ f s. v.sub f (k f s);
    numbers = record {
      known = λ f s. v.numbers.known f (k f s);
      named = λ n i. let t = v.numbers.named n i in (t.0, h t.0 t.1, t.2, t.3);
    };
    pieces = record {
      kept = λ g i. let t = v.pieces.kept g i in (t.0, h t.0 t.1, t.2, t.3);
      seen = λ f s. v.pieces.seen f (k f s);
      lacking = λ f s. v.pieces.lacking f (k f s);
    };
    chan = Chan-more h b.out v.chan;
  }

  -- A frame's reliable number was accepted before: the frame was read before.
  seen-before : {R : Frame → Type 0} (b : Bare) → Inv R b → (x : Frame) → B x → seen_before x b.accepted ≡ true → R x
  unfolding seen_before
  seen-before {R} b v x bx e =
      let c = and_left (carries_reliable x.kind) _ e in
      let t = v.numbers.named x.reliable (and_right (carries_reliable x.kind) _ e) in
      subst R (book.reliable_once t.0 x (v.sub _ t.1) bx t.2 c t.3) t.1

  fresh : {R : Frame → Type 0} (b : Bare) → Inv R b → (x : Frame) → seen_before x b.accepted ≡ false → ordered x.kind ≡ true → R x → ⊥
  unfolding seen_before
  fresh b v x e o r =
      let c = ordered-carries x.kind o in
      neither (b.accepted x.reliable) (v.numbers.known x r c) (rw c at e)

  module _ (R : Frame → Type 0) (sub : (f : Frame) → R f → B f) (x : Frame) (bx : B x) where
    sub_more : (f : Frame) → And R x f → B f
    sub_more f (inl r) = sub f r
    sub_more f (inr e) = subst B (sym e) bx

    accept-numbers : (a : ℕ → Bool) → Numbers R a → Numbers (And R x) (accept_reliable x a)
    unfolding accept_reliable
    accept-numbers a n = record {
      known = known';
      named = λ k e. cases (carries_reliable x.kind && eqb k x.reliable)
          (λ t. (
            x,
            inr refl,
            and_left (carries_reliable x.kind) _ t,
            sym (eqb-true k x.reliable (and_right (carries_reliable x.kind) _ t)),
          )) (λ t. let w = n.named k (rw t at e) in
          (w.0, inl w.1, w.2, w.3));
    }
      where
        known' : (f : Frame) → And R x f → carries_reliable f.kind ≡ true
            → ((carries_reliable x.kind && eqb f.reliable x.reliable) || a f.reliable) ≡ true
        known' f (inl r) c = rw (n.known f r c) (or-true (carries_reliable x.kind && eqb f.reliable x.reliable))
        known' f (inr e) c = rw (e, eq-eqb x.reliable x.reliable refl, (rw e at c))

    -- A frame that leaves the open pieces as they are: a whole one, or one dropped.
    leave : {Done More : ℕ → ℕ → Type 0} (l : List Piece) → Open R Done l → ((c o : ℕ) → Done c o → More c o)
        → (ordered x.kind ≡ true → More x.channel x.order) → (ordered x.kind ≡ true → x.piece ≡ true → ⊥)
        → Open (And R x) More l
    leave {Done} {More} l p up self away = record {
      kept = λ g i. let t = p.kept g i in (t.0, inl t.1, t.2, t.3);
      seen = there;
      lacking = lacks;
    }
      where
        raise : (f : Frame) → Done f.channel f.order ⊎ ((f.piece ≡ true) × Memᴰ (piece_of f) l) → More f.channel f.order ⊎
            ((f.piece ≡ true) × Memᴰ (piece_of f) l)
        raise f (inl d) = inl (up _ _ d)
        raise f (inr i) = inr i

        there : (f : Frame) → And R x f → ordered f.kind ≡ true → More f.channel f.order ⊎
            ((f.piece ≡ true) × Memᴰ (piece_of f) l)
        there f (inl r) o = raise f (p.seen f r o)
        there f (inr e) o = inl (subst (λ (g : Frame). ordered g.kind ≡ true → More g.channel g.order) (sym e) self o)

        lacks : (f : Frame) → And R x f → ordered f.kind ≡ true → f.piece ≡ true → Memᴰ (piece_of f) l → joined l f.id f.count
            ≡ none
        lacks f (inl r) o fp i = p.lacking f r o fp i
        lacks f (inr e) o fp i = absurd (away (rw e at o) (rw e at fp))

    whole-good : x.piece ≡ false → ordered x.kind ≡ true → Good (And R x) x.channel x.order (message x x.body)
    unfolding message
    whole-good w o = record {
      written = record {
        frame = x;
        listed = bx;
        of = own x o;
        kind_is = refl;
        channel_is = refl;
        order_is = refl;
        body_is = inl (w, refl);
      };
      arrived = record { some_frame = (x, bx, own x o); all_read = λ f b of. inr (sym (book.whole_alone _ _ x f bx b (own x o) of w)) };
    }

    module _ (xp : x.piece ≡ true) where
      -- Step 3 does not drop an ordered piece that is read for the first time.
      no-conflict : {Done : ℕ → ℕ → Type 0} (l : List Piece) → Open R Done l → (R x → ⊥) → ordered x.kind ≡ true
          → any (conflict (piece_of x)) l ≡ true → ⊥
      unfolding piece_of
      no-conflict l p new-frame o e =
          let a = any-true _ _ e in
          let t = p.kept a.0 a.1 in
          let f = t.0 in
          let fb = sub f t.1 in
          let c : conflict (piece_of x) (piece_of f) ≡ true = rw t.3 a.2 in
          let of = book.id_alone _ _ x f bx fb (own x o) xp t.2 (sym (conflict-id (piece_of x) (piece_of f) c)) in
          let ag = book.agree _ _ f x fb bx of (own x o) t.2 xp in
          let same_index = conflict-index (piece_of x) (piece_of f) c ag.same_count ag.same_kind ag.same_sequence of.numbered
          of.on in
          new-frame (subst R (book.index_once _ _ f x fb bx of (own x o) t.2 xp same_index) t.1)

      -- The pieces with x's are of frames read.
      kept_more : {Done : ℕ → ℕ → Type 0} (l : List Piece) → Open R Done l → (g : Piece) → Memᴰ g (piece_of x ∷ l) → (f : Frame)
          × And R x f × (f.piece ≡ true) × (piece_of f ≡ g)
      kept_more l p g (Memᴰ.head e) = (x, inr refl, xp, sym e)
      kept_more l p g (Memᴰ.tail i) = let t = p.kept g i in (t.0, inl t.1, t.2, t.3)

      -- Those of another id were there before.
      read-old : (f : Frame) → And R x f → (x.id ≡ f.id → ⊥) → R f
      read-old f (inl r) h = r
      read-old f (inr e) h = absurd (h (ap (λ (g : Frame). g.id) (sym e)))

      mem_old : (l : List Piece) (f : Frame) → Memᴰ (piece_of f) (piece_of x ∷ l) → (x.id ≡ f.id → ⊥) → Memᴰ (piece_of f) l
      unfolding piece_of
      mem_old l f (Memᴰ.head e) h = absurd (h (sym (id-of f (piece_of x) e)))
      mem_old l f (Memᴰ.tail i) h = i

      wait-open : {Done : ℕ → ℕ → Type 0} (l : List Piece) → Open R Done l → joined (piece_of x ∷ l) x.id x.count ≡ none
          → Open (And R x) Done (piece_of x ∷ l)
      unfolding piece_of
      wait-open {Done} l p none_yet = record { kept = kept_more l p; seen = there; lacking = lacks }
        where
          old : (f : Frame) → Done f.channel f.order ⊎ ((f.piece ≡ true) × Memᴰ (piece_of f) l) → Done f.channel f.order ⊎
              ((f.piece ≡ true) × Memᴰ (piece_of f) (piece_of x ∷ l))
          old f (inl d) = inl d
          old f (inr i) = inr (i.0, Memᴰ.tail i.1)

          there : (f : Frame) → And R x f → ordered f.kind ≡ true → Done f.channel f.order ⊎
              ((f.piece ≡ true) × Memᴰ (piece_of f) (piece_of x ∷ l))
          there f (inl r) o = old f (p.seen f r o)
          there f (inr e) o = inr (ap (λ (g : Frame). g.piece) e ∙ xp, Memᴰ.head (ap piece_of e))

          lacks : (f : Frame) → And R x f → ordered f.kind ≡ true → f.piece ≡ true → Memᴰ (piece_of f) (piece_of x ∷ l)
              → joined (piece_of x ∷ l) f.id f.count ≡ none
          lacks f r o fp i = cases (eqb x.id f.id)
              (λ t. let q : x.id ≡ f.id = eqb-true _ _ t in
              let ox = book.id_alone _ _ f x (sub_more f r) bx (own f o) fp xp (sym q) in
              let ag = book.agree _ _ x f bx (sub_more f r) ox (own f o) xp fp in
              rw (← q, ← ag.same_count) none_yet)
              (λ t. let h = eqb-false x.id f.id t in
              joined-skip (piece_of x) l f.id f.count h ∙ p.lacking f (read-old f r h) o fp (mem_old l f i h))

      done-open : {Done More : ℕ → ℕ → Type 0} (l : List Piece) → Open R Done l → ((c o : ℕ) → Done c o → More c o)
          → (ordered x.kind ≡ true → More x.channel x.order) → Open (And R x) More (without (has_id x.id) l)
      unfolding piece_of
      done-open {Done} {More} l p up self = record {
        kept = λ g i. let t = p.kept g (without-mem _ l g i).0 in (t.0, inl t.1, t.2, t.3);
        seen = there;
        lacking = λ f r o fp i. lacks f r o fp (without-mem _ l (piece_of f) i);
      }
        where
          old : (f : Frame) → R f → ordered f.kind ≡ true → Done f.channel f.order ⊎ ((f.piece ≡ true) × Memᴰ (piece_of f) l)
              → More f.channel f.order ⊎ ((f.piece ≡ true) × Memᴰ (piece_of f) (without (has_id x.id) l))
          old f r o (inl d) = inl (up _ _ d)
          old f r o (inr i) = cases (has_id x.id (piece_of f))
              (λ t. let ox = book.id_alone _ _ f x (sub f r) bx (own f o) i.0 xp (has_id-true x.id (piece_of f) t) in
              inl (rw (← ox.on, ← ox.numbered) (self ox.ordered_kind)))
              (λ t. inr (i.0, mem-without _ l (piece_of f) i.1 t))

          there : (f : Frame) → And R x f → ordered f.kind ≡ true → More f.channel f.order ⊎
              ((f.piece ≡ true) × Memᴰ (piece_of f) (without (has_id x.id) l))
          there f (inl r) o = old f r o (p.seen f r o)
          there f (inr e) o = inl (subst (λ (g : Frame). ordered g.kind ≡ true → More g.channel g.order) (sym e) self o)

          lacks : (f : Frame) → And R x f → ordered f.kind ≡ true → f.piece ≡ true → Memᴰ (piece_of f) l
              × (has_id x.id (piece_of f) ≡ false) → joined (without (has_id x.id) l) f.id f.count ≡ none
          lacks f r o fp i =
              let h = has_id-false x.id (piece_of f) i.1 in
              joined-without x.id l f.id f.count h ∙ p.lacking f (read-old f r (λ q. h (sym q))) o fp i.0

      done-good : {Done : ℕ → ℕ → Type 0} (l : List Piece) → Open R Done l → (body : List ℕ) → joined (piece_of x ∷ l) x.id x.count
          ≡ some body → ordered x.kind ≡ true → Good (And R x) x.channel x.order (message x body)
      unfolding message
      done-good l p body e o = record {
        written = record {
          frame = x;
          listed = bx;
          of = own x o;
          kind_is = refl;
          channel_is = refl;
          order_is = refl;
          body_is = inr (xp, joined-joins B x.channel x.order (piece_of x ∷ l) x.id mine x.count body e);
        };
        arrived = record { some_frame = (x, bx, own x o); all_read = all };
      }
        where
          mine : (g : Piece) → Memᴰ g (piece_of x ∷ l) → g.id ≡ x.id → (f : Frame) × B f × Of x.channel x.order f
              × (f.piece ≡ true) × (piece_of f ≡ g)
          mine g i q = let t = kept_more l p g i in (
            t.0,
            sub_more t.0 t.1,
            book.id_alone _ _ x t.0 bx (sub_more t.0 t.1)
                (own x o) xp t.2 (sym (id-of t.0 g t.3 ∙ q)),
            t.2,
            t.3,
          )

          is-piece : (f : Frame) → B f → Of x.channel x.order f → f.piece ≡ true
          is-piece f b of = cases f.piece (λ t. t) (λ t. neither x.piece xp
              (ap (λ (g : Frame). g.piece) (sym (book.whole_alone _ _ f x b bx of (own x o) t)) ∙ t))

          all : (f : Frame) → B f → Of x.channel x.order f → And R x f
          all f b of =
              let fp = is-piece f b of in
              let ag = book.agree _ _ x f bx b (own x o) of xp fp in
              let lt : f.index < x.count = rw ag.same_count (piece-limits f (book.within f b of.ordered_kind) fp).2 in
              let k = joined-piece (piece_of x ∷ l) x.id x.count body e f.index lt in
              let t = kept_more l p k.0 k.1 in
              let m = mine k.0 k.1 k.2 in
              subst (And R x) (book.index_once _ _ t.0 f m.1 b m.2 of t.2 fp (index_of t.0 k.0 t.3 ∙ k.3)) t.1

  -- One frame.
  module _ (R : Frame → Type 0) (b : Bare) (v : Inv R b) (x : Frame) (bx : B x) (first : seen_before x b.accepted ≡ false) where
    -- What step 3 is to have done.
    abbrev After : Kept → Type 0
    After refused = ordered x.kind ≡ true → ⊥
    After (waiting l) = Open (And R x) (Passed b.out) l
    After (complete l m) = ((o : Out) → Delivered (Good (And R x)) m b.out o → Open (And R x) (Passed o) l)
        × (ordered m.kind ≡ true → Good (And R x) m.channel m.order m)

    assemble-after : After (assemble x b.pieces)
    unfolding assemble keep message
    assemble-after = by_bool After x.piece
        (λ t. by_bool After (any (conflict (piece_of x)) b.pieces)
        (λ u o. no-conflict R v.sub x bx t b.pieces v.pieces (fresh b v x first o) o u)
        (λ u. by_option After (joined (piece_of x ∷ b.pieces) x.id x.count)
        (λ e. wait-open R v.sub x bx t b.pieces v.pieces e)
        (λ body e. (
          λ o d. done-open R v.sub x bx t b.pieces v.pieces d.passed d.self,
          done-good R v.sub x bx t
              b.pieces v.pieces body e,
        ))))
        (λ t. (
          λ o d. leave R v.sub x bx b.pieces v.pieces d.passed d.self (λ _ u. neither x.piece u t),
          whole-good R v.sub x bx t,
        ))

    finish-inv : (k : Kept) → After k → Inv (And R x) (finish x.sequence (accept_reliable x b.accepted) b.pieces b.out k).after
    unfolding finish drop_in
    finish-inv refused h = record {
      sub = sub_more R v.sub x bx;
      numbers = accept-numbers R v.sub x bx _ v.numbers;
      pieces = leave R v.sub x bx b.pieces v.pieces (λ c o p. p) (λ o. absurd (h o)) (λ o _. h o);
      chan = Chan-more (λ f r. inl r) b.out v.chan;
    }
    finish-inv (waiting l) h = record {
      sub = sub_more R v.sub x bx;
      numbers = accept-numbers R v.sub x bx _ v.numbers;
      pieces = h;
      chan = Chan-more (λ f r. inl r) b.out v.chan;
    }
    finish-inv (complete l m) h =
        let d = deliver-delivers (Good (And R x)) x.sequence m b.out (Chan-more (λ f r. inl r) b.out v.chan) h.1 in
        record {
          sub = sub_more R v.sub x bx;
          numbers = accept-numbers R v.sub x bx _ v.numbers;
          pieces = h.0 _ d;
          chan = d.chan;
        }

  step-inv : (R : Frame → Type 0) (b : Bare) → Inv R b → (x : Frame) → B x → Inv (And R x) (step b x).after
  unfolding step drop_in finish
  step-inv R b v x bx = by_bool (λ (a : Fed). Inv (And R x) a.after) (seen_before x b.accepted)
      (λ t. Inv-same b (λ f r. inl r) (old (seen-before b v x bx t)) v)
      (λ t. by_bool (λ (a : Fed). Inv (And R x) a.after) (in_limits x)
      (λ u. finish-inv R b v x bx t (assemble x b.pieces) (assemble-after R b v x bx t))
      (λ u. finish-inv R b v x bx t refused (λ o. neither (in_limits x) (book.within x bx o) u)))
    where
      old : R x → (f : Frame) → And R x f → R f
      old r f (inl q) = q
      old r f (inr e) = subst R (sym e) r

  -- A datagram's frames.
  pub feed-inv : (R : Frame → Type 0) (b : Bare) → Inv R b → (fs : List Frame) → ((f : Frame) → Memᴰ f fs → B f)
      → Inv (λ f. R f ⊎ Memᴰ f fs) (feed b fs).after
  unfolding feed
  feed-inv R b v [] h = Inv-same b (λ f r. inl r) old v
    where
      old : (f : Frame) → R f ⊎ Memᴰ f [] → R f
      old f (inl r) = r
      old f (inr i) = absurd (Memᴰ.not-nil i)
  feed-inv R b v (x ∷ xs) h = Inv-same _ there back (feed-inv (And R x) (step b x).after (step-inv R b v x (h x (Memᴰ.head refl))) xs
      (λ f i. h f (Memᴰ.tail i)))
    where
      there : (f : Frame) → And R x f ⊎ Memᴰ f xs → R f ⊎ Memᴰ f (x ∷ xs)
      there f (inl (inl r)) = inl r
      there f (inl (inr e)) = inr (Memᴰ.head e)
      there f (inr i) = inr (Memᴰ.tail i)

      back' : (f : Frame) → (f ≡ x) ⊎ Memᴰ f xs → And R x f ⊎ Memᴰ f xs
      back' f (inl e) = inl (inr e)
      back' f (inr i) = inr i

      back : (f : Frame) → R f ⊎ Memᴰ f (x ∷ xs) → And R x f ⊎ Memᴰ f xs
      back f (inl r) = inl (inl r)
      back f (inr i) = back' f (Memᴰ.cases_cons i)

  pub new-inv : (p : Profile) → Inv (λ f. ⊥) (new p)
  unfolding new only
  new-inv p = record {
    sub = λ f r. absurd r;
    numbers = record { known = λ f r. absurd r; named = λ n e. absurd (false≢true e) };
    pieces = record { kept = λ g i. absurd (Memᴰ.not-nil i); seen = λ f r. absurd r; lacking = λ f r. absurd r };
    chan = record {
      ahead = λ m i. absurd (Memᴰ.not-nil i);
      held-ordered = λ m i. absurd (Memᴰ.not-nil i);
      held-good = λ m i. absurd (Memᴰ.not-nil i);
      line-good = λ c. refl;
    };
  }
