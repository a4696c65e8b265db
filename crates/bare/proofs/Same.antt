-- Two bare receivers that hold the same, in whatever order they keep it, answer the same.
-- Assumes nothing.
use Prim.Native.Nat.{ℕ, zero, suc, ◌≤◌}
use mathlib.Core.Path.{◌≡◌, refl, sym, ◌∙◌, ap, subst}
use mathlib.Core.Bool.{Bool, true, false, not, ◌&&◌, ◌||◌, or-true}
use mathlib.Core.List.Memᴰ
use mathlib.Core.List.{List, [], ◌∷◌, ◌++◌, append_assoc, Memᴰ}
use native.Mathlib.Omega.{arith}
use lib.ListN.{length}
use lib.Dec.{ltb, eqb}
use borrow.Author.Tests.{eq-eqb}
use Rattle.base.specs.Lists.{find, any, without}
use Rattle.base.proofs.Choices.{by_bool, by_option, same_cond, same-option, and_both, or_right, neither}
use Rattle.base.proofs.Lists.{find-some, any_false, without-mem}
use Rattle.base.proofs.Alike.{Alike, any-alike, without-alike, cons-alike, find-alike}
use Rattle.reliability.specs.declared.Profile.{Profile}
use Rattle.bare.specs.Frame.{Frame, Piece, Message, ordered, sequenced, in_limits, piece_of}
use Rattle.bare.specs.Bare.{Out, Bare, Sent, Fed, new, is_at, bump, emit, follow, quiet, hold, append, queue, memory_of, older, noted}
use Rattle.bare.specs.Bare.{remember, ready, sequence, deliver, conflict}
use Rattle.bare.specs.Bare.{is_piece_at, joined, Kept, refused, waiting, complete, keep, assemble, seen_before, accept_reliable, drop_in}
use Rattle.bare.specs.Bare.{finish, step, feed}
use Rattle.bare.proofs.Tests.{is_piece-true, is_at-true, is_at-false, emit-not-longer, emit-shorter}
use Rattle.bare.proofs.Join.{joined_same}

-- No two held messages of one channel and order number.
abbrev pub HeldOnce : List Message → Type 0
HeldOnce l = (m n : Message) → Memᴰ m l → Memᴰ n l → m.channel ≡ n.channel → m.order ≡ n.order → m ≡ n

without-once : (p : Message → Bool) (l : List Message) → HeldOnce l → HeldOnce (without p l)
without-once p l h m n i j = h m n (without-mem p l m i).0 (without-mem p l n j).0

emit-once : (m : Message) (s : Sent) → HeldOnce s.after.held → HeldOnce (emit m s).after.held
unfolding emit
emit-once m s h = without-once _ _ h

no_member : {x : Message} (l : List Message) → length l ≤ zero → Memᴰ x l → ⊥
no_member [] le i = Memᴰ.not-nil i
no_member (y ∷ ys) le i = omega arith

follow-once : (n c : ℕ) (s : Sent) → HeldOnce s.after.held → HeldOnce (follow n c s).after.held
unfolding follow
follow-once zero c s h = h
follow-once (suc n) c s h = by_option (λ (t : Sent). HeldOnce t.after.held) (find (is_at c (s.after.next c)) s.after.held) (λ e. h)
    (λ m e. follow-once n c (emit m s) (emit-once m s h))

queue-once : (m : Message) (o : Out) → HeldOnce o.held → HeldOnce (queue m o).after.held
unfolding queue quiet hold
queue-once m o h = by_bool (λ (s : Sent). HeldOnce s.after.held) (ltb m.order (o.next m.channel)
    || any (is_at m.channel m.order) o.held)
    (λ t. h)
    (λ t. by_bool (λ (s : Sent). HeldOnce s.after.held) (eqb m.order (o.next m.channel))
    (λ u. follow-once _ m.channel (emit m (quiet o 0)) (emit-once m (quiet o 0) h))
    (λ u. more (any_false _ _ (or_right (ltb m.order (o.next m.channel)) _ t))))
  where
    more : ((x : Message) → Memᴰ x o.held → is_at m.channel m.order x ≡ false) → HeldOnce (m ∷ o.held)
    more none-at x y (Memᴰ.head e) (Memᴰ.head e') c q = e ∙ sym e'
    more none-at x y (Memᴰ.head e) (Memᴰ.tail j) c q =
        absurd (is_at-false m.channel m.order y (none-at y j) (sym c ∙ ap (λ (k : Message). k.channel) e)
        (sym q ∙ ap (λ (k : Message). k.order) e))
    more none-at x y (Memᴰ.tail i) (Memᴰ.head e') c q =
        absurd (is_at-false m.channel m.order x (none-at x i) (c ∙ ap (λ (k : Message). k.channel) e')
        (q ∙ ap (λ (k : Message). k.order) e'))
    more none-at x y (Memᴰ.tail i) (Memᴰ.tail j) c q = h x y i j c q

deliver-once : (n : ℕ) (m : Message) (o : Out) → HeldOnce o.held → HeldOnce (deliver n m o).after.held
unfolding deliver sequence remember quiet ready append
deliver-once n m o h = by_bool (λ (s : Sent). HeldOnce s.after.held) (ordered m.kind) (λ t. queue-once m o h)
    (λ t. by_bool (λ (s : Sent). HeldOnce s.after.held) (sequenced m.kind)
    (λ u. by_bool (λ (s : Sent). HeldOnce s.after.held) (older o.newest (memory_of o.profile m.kind m.channel) n) (λ v. h)
    (λ v. h))
    (λ u. h))

-- Step 3.

-- No two open pieces of one id and index.
abbrev pub PieceOnce : List Piece → Type 0
PieceOnce l = (f g : Piece) → Memᴰ f l → Memᴰ g l → f.id ≡ g.id → f.index ≡ g.index → f ≡ g

abbrev SameKept : Kept → Kept → Type 0
SameKept refused refused = Unit {0}
SameKept refused (waiting l) = ⊥
SameKept refused (complete l m) = ⊥
SameKept (waiting l) refused = ⊥
SameKept (waiting l) (waiting l') = Alike l l'
SameKept (waiting l) (complete l' m) = ⊥
SameKept (complete l m) refused = ⊥
SameKept (complete l m) (waiting l') = ⊥
SameKept (complete l m) (complete l' m') = Alike l l' × (m ≡ m')

abbrev KeptOnce : Kept → Type 0
KeptOnce refused = Unit {0}
KeptOnce (waiting l) = PieceOnce l
KeptOnce (complete l m) = PieceOnce l

conflict-of : (f g : Piece) → g.id ≡ f.id → g.index ≡ f.index → conflict f g ≡ true
unfolding conflict
conflict-of f g e q = and_both _ _ (eq-eqb g.id f.id e)
    (rw (eq-eqb g.index f.index q) (or-true (not (eqb g.count f.count && eqb g.kind f.kind
    && eqb g.sequence f.sequence && eqb g.order f.order && eqb g.channel f.channel))))

cons-once : (f : Piece) (l : List Piece) → PieceOnce l → any (conflict f) l ≡ false → PieceOnce (f ∷ l)
cons-once f l h e = more (any_false _ _ e)
  where
    more : ((x : Piece) → Memᴰ x l → conflict f x ≡ false) → PieceOnce (f ∷ l)
    more none-at x y (Memᴰ.head e) (Memᴰ.head e') c q = e ∙ sym e'
    more none-at x y (Memᴰ.head e) (Memᴰ.tail j) c q =
        neither (conflict f y) (conflict-of f y (sym c ∙ ap (λ (k : Piece). k.id) e) (sym q ∙ ap (λ (k : Piece). k.index) e))
        (none-at y j)
    more none-at x y (Memᴰ.tail i) (Memᴰ.head e') c q =
        neither (conflict f x) (conflict-of f x (c ∙ ap (λ (k : Piece). k.id) e') (q ∙ ap (λ (k : Piece). k.index) e')) (none-at x i)
    more none-at x y (Memᴰ.tail i) (Memᴰ.tail j) c q = h x y i j c q

joined-alike : (l l' : List Piece) (id n : ℕ) → Alike l l' → PieceOnce l → joined l id n ≡ joined l' id n
joined-alike l l' id n s h =
    joined_same l l' id n (λ i. find-alike (is_piece_at id i) l l' s (λ x y m k p q. let a = is_piece-true id i x p in
    let b = is_piece-true id i y q in h x y m k (a.0 ∙ sym b.0) (a.1 ∙ sym b.1)))

keep_same : (f : Frame) (l l' : List Piece) → Alike l l' → PieceOnce l → SameKept (keep f l) (keep f l')
unfolding keep
keep_same f l l' s h = same_cond SameKept (any (conflict (piece_of f)) l) (any (conflict (piece_of f)) l') (any-alike _ l l' s)
    (λ t. tt)
    (λ t. let s' = cons-alike (piece_of f) l l' s in
    same-option SameKept (joined (piece_of f ∷ l) f.id f.count) (joined (piece_of f ∷ l') f.id f.count)
    (joined-alike _ _ _ _ s' (cons-once (piece_of f) l h t))
    (λ e. s')
    (λ body e. (without-alike _ l l' s, refl)))

keep-once : (f : Frame) (l : List Piece) → PieceOnce l → KeptOnce (keep f l)
unfolding keep
keep-once f l h = by_bool KeptOnce (any (conflict (piece_of f)) l)
    (λ t. tt)
    (λ t. by_option KeptOnce (joined (piece_of f ∷ l) f.id f.count) (λ e. cons-once (piece_of f) l h t)
    (λ body e x y i j. h x y (without-mem _ l x i).0 (without-mem _ l y j).0))

assemble-same : (f : Frame) (l l' : List Piece) → Alike l l' → PieceOnce l → SameKept (assemble f l) (assemble f l')
unfolding assemble
assemble-same f l l' s h = same_cond SameKept f.piece f.piece refl (λ t. keep_same f l l' s h) (λ t. (s, refl))

assemble-once : (f : Frame) (l : List Piece) → PieceOnce l → KeptOnce (assemble f l)
unfolding assemble
assemble-once f l h = by_bool KeptOnce f.piece (λ t. keep-once f l h) (λ t. h)

pub record Once (b : Bare) : Type 0 where
  pub pieces : PieceOnce b.pieces
  pub held : HeldOnce b.out.held

finish-once : (n : ℕ) (a : ℕ → Bool) (l : List Piece) (o : Out) → PieceOnce l → HeldOnce o.held → (k : Kept) → KeptOnce k
    → Once (finish n a l o k).after
unfolding finish drop_in
finish-once n a l o p h refused u = record { pieces = p; held = h }
finish-once n a l o p h (waiting k) u = record { pieces = u; held = h }
finish-once n a l o p h (complete k m) u = record { pieces = u; held = deliver-once n m o h }

step-once : (b : Bare) (f : Frame) → Once b → Once (step b f).after
unfolding step drop_in
step-once b f h = by_bool (λ (a : Fed). Once a.after) (seen_before f b.accepted) (λ t. h)
    (λ t. by_bool (λ (a : Fed). Once a.after) (in_limits f)
    (λ u. finish-once f.sequence _ b.pieces b.out h.pieces h.held (assemble f b.pieces)
    (assemble-once f b.pieces h.pieces))
    (λ u. record { pieces = h.pieces; held = h.held }))

feed-once : (b : Bare) (fs : List Frame) → Once b → Once (feed b fs).after
unfolding feed
feed-once b [] h = h
feed-once b (f ∷ fs) h = feed-once (step b f).after fs (step-once b f h)

-- Whatever a new receiver was fed, it holds each piece and each held message once.
pub fed-once : (p : Profile) (fs : List Frame) → Once (feed (new p) fs).after
unfolding new
fed-once p fs = feed-once (new p) fs (record {
  pieces = λ f g i. absurd (Memᴰ.not-nil i);
  held = λ m n i. absurd (Memᴰ.not-nil i);
})

-- The messages that were taken from the front of the second receiver's line.
module _ (taken : List Message) where
  -- Step 4.
  pub record SameOut (o o' : Out) : Type 0 where
    pub profile : o.profile ≡ o'.profile
    pub next : (c : ℕ) → o.next c ≡ o'.next c
    pub newest : (c : ℕ) → o.newest c ≡ o'.newest c
    pub held : Alike o.held o'.held
    pub line : o.line ≡ taken ++ o'.line

  pub record SameSent (s s' : Sent) : Type 0 where
    pub after : SameOut s.after s'.after
    pub ready : s.ready ≡ s'.ready
    pub dropped : s.dropped ≡ s'.dropped

  emit-same : (m : Message) (s s' : Sent) → SameSent s s' → SameSent (emit m s) (emit m s')
  unfolding emit bump
  emit-same m s s' r = record {
    after = record {
      profile = r.after.profile;
      next = λ c. rw (r.after.next c);
      newest = r.after.newest;
      held = without-alike _ _ _ r.after.held;
      line = rw r.after.line (append_assoc taken s'.after.line (m ∷ []));
    };
    ready = ap suc r.ready;
    dropped = r.dropped;
  }

  follow-same : (n n' c : ℕ) (s s' : Sent) → SameSent s s' → HeldOnce s.after.held → length s.after.held ≤ n
      → length s'.after.held ≤ n' → SameSent (follow n c s) (follow n' c s')
  unfolding follow
  follow-same zero zero c s s' r h le le' = r
  follow-same zero (suc n') c s s' r h le le' = by_option (SameSent s) (find (is_at c (s'.after.next c)) s'.after.held) (λ e. r)
      (λ m e. absurd (no_member s.after.held le (r.after.held.back m (find-some _ _ e).0)))
  follow-same (suc n) zero c s s' r h le le' = by_option (λ (t : Sent). SameSent t s') (find (is_at c (s.after.next c)) s.after.held)
      (λ e. r) (λ m e. absurd (no_member s'.after.held le' (r.after.held.there m (find-some _ _ e).0)))
  follow-same (suc n) (suc n') c s s' r h le le' = same-option SameSent (find (is_at c (s.after.next c)) s.after.held)
      (find (is_at c (s'.after.next c)) s'.after.held) found (λ e. r)
      (λ m e. let i = (find-some _ _ e).0 in follow-same n n' c (emit m s) (emit m s') (emit-same m s s' r) (emit-once m s h)
      (emit-shorter m s n i le) (emit-shorter m s' n' (r.after.held.there m i) le'))
    where
      found : find (is_at c (s.after.next c)) s.after.held ≡ find (is_at c (s'.after.next c)) s'.after.held
      found = rw (← (r.after.next c)) (find-alike (is_at c (s.after.next c)) _ _ r.after.held (λ x y i j p q. let a =
          is_at-true _ _ x p in let b = is_at-true _ _ y q in h x y i j (a.0 ∙ sym b.0) (a.1 ∙ sym b.1)))

  queue-same : (m : Message) (o o' : Out) → SameOut o o' → HeldOnce o.held → SameSent (queue m o) (queue m o')
  unfolding queue quiet hold
  queue-same m o o' r h = same_cond SameSent _ _ test
      (λ t. record { after = r; ready = refl; dropped = refl })
      (λ t. same_cond SameSent (eqb m.order (o.next m.channel)) (eqb m.order (o'.next m.channel)) (rw (r.next m.channel))
      (λ u. follow-same _ _ m.channel (emit m (quiet o 0)) (emit m (quiet o' 0))
      (emit-same m (quiet o 0) (quiet o' 0) (record { after = r; ready = refl; dropped = refl })) (emit-once m (quiet o 0) h)
      (emit-not-longer m (quiet o 0)) (emit-not-longer m (quiet o' 0)))
      (λ u. record {
        after = record { profile = r.profile; next = r.next; newest = r.newest; held = cons-alike m _ _ r.held; line = r.line };
        ready = refl;
        dropped = refl;
      }))
    where
      test : (ltb m.order (o.next m.channel) || any (is_at m.channel m.order) o.held)
          ≡ (ltb m.order (o'.next m.channel) || any (is_at m.channel m.order) o'.held)
      test = rw (r.next m.channel, any-alike (is_at m.channel m.order) o.held o'.held r.held)

  ready-same : (m : Message) (o o' : Out) → SameOut o o' → SameSent (ready m o) (ready m o')
  unfolding ready append
  ready-same m o o' r = record {
    after = record {
      profile = r.profile;
      next = r.next;
      newest = r.newest;
      held = r.held;
      line = rw r.line (append_assoc taken o'.line (m ∷ []));
    };
    ready = refl;
    dropped = refl;
  }

  sequence-same : (n : ℕ) (m : Message) (o o' : Out) → SameOut o o' → SameSent (sequence n m o) (sequence n m o')
  unfolding sequence older remember noted quiet
  sequence-same n m o o' r = same_cond SameSent _ _ test
      (λ t. record { after = r; ready = refl; dropped = refl })
      (λ t. ready-same m _ _ (record {
        profile = r.profile;
        next = r.next;
        newest = noted-same;
        held = r.held;
        line = r.line;
      }))
    where
      i : ℕ
      i = memory_of o.profile m.kind m.channel

      i' : ℕ
      i' = memory_of o'.profile m.kind m.channel

      one-memory : i ≡ i'
      one-memory = ap (λ (p : Profile). memory_of p m.kind m.channel) r.profile

      test : older o.newest i n ≡ older o'.newest i' n
      test = rw (one-memory, r.newest i')

      noted-same : (d : ℕ) → noted i n o.newest d ≡ noted i' n o'.newest d
      noted-same d = rw (one-memory, r.newest d)

  deliver-same : (n : ℕ) (m : Message) (o o' : Out) → SameOut o o' → HeldOnce o.held → SameSent (deliver n m o) (deliver n m o')
  unfolding deliver
  deliver-same n m o o' r h = same_cond SameSent (ordered m.kind) (ordered m.kind) refl
      (λ t. queue-same m o o' r h)
      (λ t. same_cond SameSent (sequenced m.kind) (sequenced m.kind) refl (λ u. sequence-same n m o o' r) (λ u. ready-same m o o' r))

  -- All four steps.
  pub record Same (b b' : Bare) : Type 0 where
    pub accepted : (n : ℕ) → b.accepted n ≡ b'.accepted n
    pub pieces : Alike b.pieces b'.pieces
    pub out : SameOut b.out b'.out

  pub record SameAnswer (a a' : Fed) : Type 0 where
    pub after : Same a.after a'.after
    pub ready : a.ready ≡ a'.ready
    pub dropped : a.dropped ≡ a'.dropped

  finish-same : (n : ℕ) (a a' : ℕ → Bool) (l l' : List Piece) (o o' : Out) → ((i : ℕ) → a i ≡ a' i) → Alike l l' → SameOut o o'
      → HeldOnce o.held → (k k' : Kept) → SameKept k k' → SameAnswer (finish n a l o k) (finish n a' l' o' k')
  unfolding finish drop_in
  finish-same n a a' l l' o o' e s r h refused refused u = record {
    after = record { accepted = e; pieces = s; out = r };
    ready = refl;
    dropped = refl;
  }
  finish-same n a a' l l' o o' e s r h refused (waiting k) u = absurd u
  finish-same n a a' l l' o o' e s r h refused (complete k m) u = absurd u
  finish-same n a a' l l' o o' e s r h (waiting k) refused u = absurd u
  finish-same n a a' l l' o o' e s r h (waiting k) (waiting k') u =
      record { after = record { accepted = e; pieces = u; out = r }; ready = refl; dropped = refl }
  finish-same n a a' l l' o o' e s r h (waiting k) (complete k' m) u = absurd u
  finish-same n a a' l l' o o' e s r h (complete k m) refused u = absurd u
  finish-same n a a' l l' o o' e s r h (complete k m) (waiting k') u = absurd u
  finish-same n a a' l l' o o' e s r h (complete k m) (complete k' m') u =
      let d = subst (λ (x : Message). SameSent (deliver n m o) (deliver n x o')) u.1 (deliver-same n m o o' r h) in
      record { after = record { accepted = e; pieces = u.0; out = d.after }; ready = d.ready; dropped = d.dropped }

  step_same : (b b' : Bare) (f : Frame) → Same b b' → Once b → SameAnswer (step b f) (step b' f)
  unfolding step drop_in accept_reliable seen_before
  step_same b b' f s h = same_cond SameAnswer (seen_before f b.accepted) (seen_before f b'.accepted) (rw (s.accepted f.reliable))
      (λ t. record { after = s; ready = refl; dropped = refl })
      (λ t. same_cond SameAnswer (in_limits f) (in_limits f) refl
      (λ u. finish-same f.sequence _ _ _ _ b.out b'.out numbers s.pieces s.out h.held (assemble f b.pieces)
      (assemble f b'.pieces)
      (assemble-same f _ _ s.pieces h.pieces))
      (λ u. record { after = record { accepted = numbers; pieces = s.pieces; out = s.out }; ready = refl; dropped = refl }))
    where
      numbers : (n : ℕ) → accept_reliable f b.accepted n ≡ accept_reliable f b'.accepted n
      numbers n = rw (s.accepted n)

  -- Two receivers that hold the same, in whatever order, answer the same frames alike and hold the same afterwards.
  pub feed-same : (b b' : Bare) (fs : List Frame) → Same b b' → Once b → SameAnswer (feed b fs) (feed b' fs)
  unfolding feed
  feed-same b b' [] s h = record { after = s; ready = refl; dropped = refl }
  feed-same b b' (f ∷ fs) s h =
      let d = step_same b b' f s h in
      let r = feed-same (step b f).after (step b' f).after fs d.after (step-once b f h) in
      record { after = r.after; ready = cc (d.ready, r.ready); dropped = cc (d.dropped, r.dropped) }
