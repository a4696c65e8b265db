-- Late sequenced messages are discarded: the sequence numbers in the line rise.
-- Assumes nothing.
use Prim.Native.Nat.{ℕ, zero, suc, ◌≤◌}
use mathlib.Core.Path.{◌≡◌, refl, sym, ◌∙◌, ap, subst}
use mathlib.Core.Bool.{Bool, true, false, ◌||◌, false≢true}
use mathlib.Core.List.Memᴰ
use mathlib.Core.List.{List, [], ◌∷◌, ◌++◌, map, map-append, append_assoc, append-nil, Memᴰ}
use native.Mathlib.Omega.{arith}
use native.Mathlib.Numerals.{add-one}
use lib.ListN.{length}
use lib.Seq.{drop-append_seam}
use lib.Dec.{ltb, eqb}
use borrow.Author.Tests.{ltb-false, eqb-true, eqb-false}
use Rattle.base.specs.Limits.{max_ord_chans}
use Rattle.base.specs.Lists.{find, any, only}
use Rattle.base.proofs.Choices.{by_bool, cases, by_option, and_left, and_right, neither}
use Rattle.base.proofs.Lists.{find-some, without-mem, only-fail}
use Rattle.reliability.specs.declared.Profile.{Profile}
use Rattle.reliability.specs.declared.Profile.TheVariants.{Console, Cpp}
use Rattle.bare.specs.Frame.{Frame, Piece, Message, ordered, sequenced, in_limits}
use Rattle.bare.specs.Bare.{Out, Bare, Sent, Fed, new, is_at, emit, follow, quiet, hold, append, queue, memory_of, older, noted}
use Rattle.bare.specs.Bare.{remember, ready, sequence, deliver, Kept, refused, waiting, complete, assemble, seen_before}
use Rattle.bare.specs.Bare.{drop_in, finish, step, feed}
use Rattle.bare.specs.Order.{line_for}
use Rattle.bare.specs.Sequenced.{NumberedMessage, numbered_as, put_by, numbered_by, numbered_from, numbered_line, sequences_of, kind1_on}
use Rattle.bare.specs.Sequenced.{kind4, sequenced_on, RisesFrom}
use Rattle.bare.specs.Unfinished.{Dated, new_dated, receive_dated, drop_stale, Event, datagram, drop_past, happens, after_events}
use Rattle.bare.proofs.Profile.{step-profile, feed-profile}

-- No kind is both ordered and sequenced.
pub ordered-unsequenced : (k : ℕ) → ordered k ≡ true → sequenced k ≡ false
unfolding ordered sequenced
ordered-unsequenced k e = cases (eqb k 3) (λ t. rw (eqb-true k 3 t)) (λ t. rw (eqb-true k 7 (rw t at e)))

rises-lower : (k j : ℕ) (l : List ℕ) → j ≤ k → RisesFrom k l → RisesFrom j l
rises-lower k j [] le r = tt
rises-lower k j (n ∷ ns) le r = let a : k ≤ n = r.0 in (omega arith, r.1)

abbrev AllOrdered : List Message → Type 0
AllOrdered l = (m : Message) → Memᴰ m l → ordered m.kind ≡ true

-- p says which messages are meant: those of one memory, i, in the profile.
module _ (profile : Profile) (p : Message → Bool) (i : ℕ) (own : (m : Message) → p m ≡ true → (sequenced m.kind ≡ true)
    × (memory_of profile m.kind m.channel ≡ i)) where
  p-ordered : (m : Message) → ordered m.kind ≡ true → p m ≡ false
  p-ordered m e = cases (p m) (λ t. neither (sequenced m.kind) (own m t).0 (ordered-unsequenced m.kind e)) (λ t. t)

  p-unsequenced : (m : Message) → sequenced m.kind ≡ false → p m ≡ false
  p-unsequenced m e = cases (p m) (λ t. neither (sequenced m.kind) (own m t).0 e) (λ t. t)

  -- Step 4 put messages at the end of the line, n being the number of the frame: those of the memory rise from what it was.
  record Puts (n : ℕ) (o o' : Out) : Type 0 where
    pub put : List Message
    pub line : o'.line ≡ o.line ++ put
    pub held : AllOrdered o'.held
    pub rises : (l : List ℕ) → RisesFrom (o'.newest i) l → RisesFrom (o.newest i) (map (λ (m : Message). n) (only p put) ++ l)

  -- none of the memory's, which stays
  record Others (o o' : Out) : Type 0 where
    pub put : List Message
    pub line : o'.line ≡ o.line ++ put
    pub held : AllOrdered o'.held
    pub none-put : only p put ≡ []
    pub newest : o'.newest ≡ o.newest

  others_put : (n : ℕ) (o o' : Out) → Others o o' → Puts n o o'
  others_put n o o' v = record {
    put = v.put;
    line = v.line;
    held = v.held;
    rises = λ l r. rw (v.none-put, ← v.newest) r;
  }

  others_same : (o : Out) → AllOrdered o.held → Others o o
  unfolding only
  others_same o h = record { put = []; line = sym (append-nil o.line); held = h; none-put = refl; newest = refl }

  emit-others : (o : Out) (m : Message) (s : Sent) → ordered m.kind ≡ true → Others o s.after → Others o (emit m s).after
  unfolding emit
  emit-others o m s e v = record {
    put = v.put ++ (m ∷ []);
    line = rw v.line (append_assoc o.line v.put (m ∷ []));
    held = λ x j. v.held x (without-mem _ _ x j).0;
    none-put = rw (only-fail p v.put m (p-ordered m e)) v.none-put;
    newest = v.newest;
  }

  follow-others : (o : Out) (n c : ℕ) (s : Sent) → Others o s.after → Others o (follow n c s).after
  unfolding follow
  follow-others o zero c s v = v
  follow-others o (suc n) c s v = by_option (λ (t : Sent). Others o t.after) (find (is_at c (s.after.next c)) s.after.held) (λ e. v)
      (λ m e. follow-others o n c (emit m s) (emit-others o m s (v.held m (find-some _ _ e).0) v))

  queue-others : (m : Message) (o : Out) → ordered m.kind ≡ true → AllOrdered o.held → Others o (queue m o).after
  unfolding queue quiet hold only
  queue-others m o e h =
      by_bool (λ (s : Sent). Others o s.after) (ltb m.order (o.next m.channel) || any (is_at m.channel m.order) o.held)
      (λ t. others_same o h)
      (λ t. by_bool (λ (s : Sent). Others o s.after) (eqb m.order (o.next m.channel))
      (λ u. follow-others o (length o.held) m.channel (emit m (quiet o 0)) (emit-others o m (quiet o 0) e (others_same o h)))
      (λ u. record { put = []; line = sym (append-nil o.line); held = more; none-put = refl; newest = refl }))
    where
      more : AllOrdered (m ∷ o.held)
      more x (Memᴰ.head q) = rw q e
      more x (Memᴰ.tail j) = h x j

  ready-puts : (n : ℕ) (m : Message) (o o' : Out) → o'.line ≡ o.line → AllOrdered o'.held
      → ((l : List ℕ) → RisesFrom (o'.newest i) l → RisesFrom (o.newest i) (map (λ (x : Message). n) (only p (m ∷ [])) ++ l))
      → Puts n o (ready m o').after
  unfolding ready append
  ready-puts n m o o' line h r = record { put = m ∷ []; line = rw line; held = h; rises = r }

  sequence-puts : (n : ℕ) (m : Message) (o : Out) → o.profile ≡ profile → AllOrdered o.held → Puts n o (sequence n m o).after
  unfolding sequence older quiet remember noted only
  sequence-puts n m o q h = by_bool (λ (s : Sent). Puts n o s.after) (ltb n (o.newest j))
      (λ t. others_put n o o (others_same o h))
      (λ t. ready-puts n m o (remember j n o) refl h (rise (ltb-false _ _ t)))
    where
      j : ℕ
      j = memory_of o.profile m.kind m.channel

      own-memory : p m ≡ true → i ≡ j
      own-memory t = sym (own m t).1 ∙ ap (λ (x : Profile). memory_of x m.kind m.channel) (sym q)

      rise : o.newest j ≤ n → (l : List ℕ) → RisesFrom (noted j n o.newest i) l
          → RisesFrom (o.newest i) (map (λ (x : Message). n) (only p (m ∷ [])) ++ l)
      rise le l r = cases (eqb i j)
          (λ t. let e : i ≡ j = eqb-true i j t in
          let low : o.newest i ≤ n = rw e le in
          let up : RisesFrom (suc n) l = rw (t, add-one n) at r in
          cases (p m) (λ u. rw u (low, up)) (λ u. rw u (rises-lower (suc n) (o.newest i) l (omega arith) up)))
          (λ t. let up : RisesFrom (o.newest i) l = rw t at r in
          cases (p m) (λ u. absurd (eqb-false i j t (own-memory u))) (λ u. rw u up))

  deliver-puts : (n : ℕ) (m : Message) (o : Out) → o.profile ≡ profile → AllOrdered o.held → Puts n o (deliver n m o).after
  unfolding deliver
  deliver-puts n m o q h = by_bool (λ (s : Sent). Puts n o s.after) (ordered m.kind)
      (λ t. others_put n o _ (queue-others m o t h))
      (λ t. by_bool (λ (s : Sent). Puts n o s.after) (sequenced m.kind)
      (λ u. sequence-puts n m o q h)
      (λ u. ready-puts n m o o refl h (λ l r. unfold only in rw (p-unsequenced m u) r)))

  finish-puts : (n : ℕ) (a : ℕ → Bool) (l : List Piece) (o : Out) (k : Kept) → o.profile ≡ profile → AllOrdered o.held
      → Puts n o (finish n a l o k).after.out
  unfolding finish drop_in
  finish-puts n a l o refused q h = others_put n o o (others_same o h)
  finish-puts n a l o (waiting l') q h = others_put n o o (others_same o h)
  finish-puts n a l o (complete l' m) q h = deliver-puts n m o q h

  step-puts : (b : Bare) (f : Frame) → b.out.profile ≡ profile → AllOrdered b.out.held
      → Puts f.sequence b.out (step b f).after.out
  unfolding step drop_in
  step-puts b f q h = by_bool (λ (a : Fed). Puts f.sequence b.out a.after.out) (seen_before f b.accepted)
      (λ t. same)
      (λ t. by_bool (λ (a : Fed). Puts f.sequence b.out a.after.out) (in_limits f)
      (λ u. finish-puts f.sequence _ b.pieces b.out (assemble f b.pieces) q h)
      (λ u. same))
    where
      same : Puts f.sequence b.out b.out
      same = others_put f.sequence b.out b.out (others_same b.out h)

  -- The messages of l were put at the end of the line: the numbers of the memory's rise from what it was, before any that follow.
  record Numbers (o o' : Out) (l : List NumberedMessage) : Type 0 where
    pub line : o.line ++ map (λ (x : NumberedMessage). x.message) l ≡ o'.line
    pub held : AllOrdered o'.held
    pub rises : (rest : List NumberedMessage) → RisesFrom (o'.newest i) (sequences_of p rest)
        → RisesFrom (o.newest i) (sequences_of p (l ++ rest))

  no-numbers : (o : Out) → AllOrdered o.held → Numbers o o []
  no-numbers o h = record { line = append-nil o.line; held = h; rises = λ rest r. r }

  numbers-then : (o o' o'' : Out) (l l' : List NumberedMessage) → Numbers o o' l → Numbers o' o'' l' → Numbers o o'' (l ++ l')
  numbers-then o o' o'' l l' v w = record {
    line = rw (
      map-append (λ (x : NumberedMessage). x.message) l l',
      ← append_assoc o.line (map (λ (x : NumberedMessage). x.message) l) (map (λ (x : NumberedMessage). x.message) l'),
      v.line,
    )
        w.line;
    held = w.held;
    rises = λ rest r. rw (append_assoc l l' rest) (v.rises (l' ++ rest) (w.rises rest r));
  }

  -- The messages that a frame put have its number.
  numbers-cons : (n : ℕ) (l : List Message) (rest : List NumberedMessage) → sequences_of p (map (numbered_as n) l ++ rest)
      ≡ map (λ (m : Message). n) (only p l) ++ sequences_of p rest
  unfolding sequences_of only numbered_as
  numbers-cons n [] rest = refl
  numbers-cons n (m ∷ l) rest = cases (p m) (λ t. rw t (ap (λ (x : List ℕ). n ∷ x) (numbers-cons n l rest)))
      (λ t. rw t (numbers-cons n l rest))

  messages : (n : ℕ) (l : List Message) → map (λ (x : NumberedMessage). x.message) (map (numbered_as n) l) ≡ l
  unfolding numbered_as
  messages n [] = refl
  messages n (m ∷ l) = ap (λ (x : List Message). m ∷ x) (messages n l)

  step-numbers : (b : Bare) (f : Frame) → b.out.profile ≡ profile → AllOrdered b.out.held
      → Numbers b.out (step b f).after.out (map (numbered_as f.sequence) (put_by b f))
  unfolding put_by
  step-numbers b f q h =
      let v = step-puts b f q h in
      rw (v.line, drop-append_seam b.out.line v.put) (record {
        line = rw (messages f.sequence v.put) (sym v.line);
        held = v.held;
        rises = λ rest r. rw (numbers-cons f.sequence v.put rest) (v.rises _ r);
      })

  by-numbers : (b : Bare) (fs : List Frame) → b.out.profile ≡ profile → AllOrdered b.out.held
      → Numbers b.out (feed b fs).after.out (numbered_by b fs)
  unfolding numbered_by feed
  by-numbers b [] q h = no-numbers b.out h
  by-numbers b (f ∷ fs) q h =
      let v = step-numbers b f q h in
      numbers-then _ _ _ _ _ v (by-numbers (step b f).after fs (step-profile b f ∙ q) v.held)

  from-numbers : (d : Dated) (es : List Event) → d.bare.out.profile ≡ profile → AllOrdered d.bare.out.held
      → Numbers d.bare.out (after_events d es).bare.out (numbered_from d es)
  unfolding numbered_from after_events happens receive_dated drop_stale
  from-numbers d [] q h = no-numbers d.bare.out h
  from-numbers d (datagram fs ∷ es) q h =
      let v = by-numbers d.bare fs q h in
      numbers-then _ _ _ _ _ v (from-numbers (receive_dated fs d) es (feed-profile d.bare fs ∙ q) v.held)
  from-numbers d (drop_past n ∷ es) q h = from-numbers (drop_stale n d) es q h

  pub memory-rises : (es : List Event) → RisesFrom 0 (sequences_of p (numbered_line profile es))
  unfolding numbered_line new_dated new
  memory-rises es = subst (λ (l : List NumberedMessage). RisesFrom 0 (sequences_of p l)) (append-nil (numbered_line profile es))
      ((from-numbers (new_dated profile) es refl (λ m j. absurd (Memᴰ.not-nil j))).rises [] (unfold sequences_of only in tt))

-- The messages of the numbered line are the line's, in its order.
pub line-numbered : (p : Profile) (es : List Event) → map (λ (x : NumberedMessage). x.message) (numbered_line p es) ≡ line_for p es
unfolding numbered_line line_for new_dated new
line-numbered p es = (from-numbers p (λ m. false) 0 (λ m e. absurd (false≢true e)) (new_dated p) es refl
    (λ m j. absurd (Memᴰ.not-nil j))).line

-- Kind 1 uses its channel's memory in either profile.
kind-1-memory : (p : Profile) (kind channel : ℕ) → kind ≡ 1 → memory_of p kind channel ≡ channel
unfolding memory_of
kind-1-memory Console kind channel k = rw k
kind-1-memory Cpp kind channel k = refl

-- On one channel the sequence numbers of the kind 1 messages in the line rise strictly: none comes late, none twice.
pub kind-1-rises : (p : Profile) (es : List Event) (c : ℕ) → RisesFrom 0 (sequences_of (kind1_on c) (numbered_line p es))
unfolding kind1_on sequenced
kind-1-rises p es c = memory-rises p (kind1_on c) c (λ m e. let k : m.kind ≡ 1 = eqb-true m.kind 1 (and_left (eqb m.kind 1) _ e) in
    (rw k, kind-1-memory p m.kind m.channel k ∙ eqb-true m.channel c (and_right (eqb m.kind 1) _ e))) es

-- In the console profile those of the kind 4 messages rise strictly in the whole line;
pub kind-4-rises : (es : List Event) → RisesFrom 0 (sequences_of kind4 (numbered_line Console es))
unfolding kind4 sequenced memory_of
kind-4-rises es = memory-rises Console kind4 max_ord_chans (λ m e. let k : m.kind ≡ 4 = eqb-true m.kind 4 e in (rw k, rw k)) es

-- in the C++ profile, on one channel, those of kinds 1 and 4 together.
pub kinds-1-and-4-rise : (es : List Event) (c : ℕ) → RisesFrom 0 (sequences_of (sequenced_on c) (numbered_line Cpp es))
unfolding sequenced_on memory_of
kinds-1-and-4-rise es c = memory-rises Cpp (sequenced_on c) c
    (λ m e. (and_left (sequenced m.kind) _ e, eqb-true m.channel c (and_right (sequenced m.kind) _ e))) es
