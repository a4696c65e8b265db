-- Step 4 keeps a channel's order: the line has each channel's messages from 0 up to its next, and all held ones are above it.
-- Assumes nothing.
use Prim.Native.Nat.{ℕ, zero, suc, ◌≤◌, ◌<◌}
use mathlib.Core.Path.{◌≡◌, refl, sym, subst}
use mathlib.Core.Logic.{◌⊎◌, inl, inr}
use mathlib.Core.Bool.{Bool, true, false, ◌||◌}
use mathlib.Core.List.{[], ◌∷◌, ◌++◌, Memᴰ}
use native.Mathlib.Omega.{arith}
use lib.ListN.{length}
use lib.Dec.{ltb, eqb}
use borrow.Author.Tests.{ltb-true, ltb-false, eqb-true, eqb-false}
use Rattle.base.specs.Lists.{find, any, only}
use Rattle.base.proofs.Choices.{by_bool, cases, by_option, or_left, neither}
use Rattle.base.proofs.Lists.{find-some, find_none, any-true, without-mem, mem-without, only-pass, only-fail, length-positive}
use Rattle.base.proofs.EachAt.{EachAt}
use Rattle.bare.specs.Frame.{Message, ordered, sequenced}
use Rattle.bare.specs.Bare.{Out, Sent, is_at, bump, emit, follow, quiet, hold, append, queue, memory_of, older, remember}
use Rattle.bare.specs.Bare.{ready, sequence, deliver}
use Rattle.bare.specs.Order.{on_channel}
use Rattle.bare.proofs.Tests.{bump-same, bump-other, is_at-true, is_at-false, on_channel-true, on_channel-other, on_channel-unordered}
use Rattle.bare.proofs.Tests.{emit-not-longer, emit-shorter}

-- The order number is below the channel's next, or held.
abbrev pub Passed : Out → ℕ → ℕ → Type 0
Passed o c n = (n < o.next c) ⊎ ((m : Message) × Memᴰ m o.held × (m.channel ≡ c) × (m.order ≡ n))

-- G c n m: m may be made ready as channel c's message n.
module _ (G : ℕ → ℕ → Message → Type 0) where
  pub record Chan (o : Out) : Type 0 where
    pub ahead : (m : Message) → Memᴰ m o.held → o.next m.channel < m.order
    pub held-ordered : (m : Message) → Memᴰ m o.held → ordered m.kind ≡ true
    pub held-good : (m : Message) → Memᴰ m o.held → G m.channel m.order m
    pub line-good : (c : ℕ) → EachAt (G c) (o.next c) (only (on_channel c) o.line)

  -- The same while channel c's held messages are being made ready: one may be at its next.
  record Pre (c : ℕ) (o : Out) : Type 0 where
    pub not-below : (m : Message) → Memᴰ m o.held → o.next m.channel ≤ m.order
    pub ahead : (m : Message) → Memᴰ m o.held → (m.channel ≡ c → ⊥) → o.next m.channel < m.order
    pub held-ordered : (m : Message) → Memᴰ m o.held → ordered m.kind ≡ true
    pub held-good : (m : Message) → Memᴰ m o.held → G m.channel m.order m
    pub line-good : (c : ℕ) → EachAt (G c) (o.next c) (only (on_channel c) o.line)

  emit-pre : (m : Message) (s : Sent) → Pre m.channel s.after → ordered m.kind ≡ true → m.order ≡ s.after.next m.channel
      → G m.channel m.order m
      → Pre m.channel (emit m s).after
  unfolding emit
  emit-pre m s pre om e g = record {
    not-below = λ x i. below x (without-mem _ _ x i);
    ahead = λ x i h. rw (bump-other m.channel s.after.next x.channel h) (pre.ahead x (without-mem _ _ x i).0 h);
    held-ordered = λ x i. pre.held-ordered x (without-mem _ _ x i).0;
    held-good = λ x i. pre.held-good x (without-mem _ _ x i).0;
    line-good = run;
  }
    where
      below : (x : Message) → Memᴰ x s.after.held × (is_at m.channel m.order x ≡ false) → bump m.channel s.after.next
          x.channel ≤ x.order
      below x i = cases (eqb x.channel m.channel)
          (λ t. let q : x.channel ≡ m.channel = eqb-true _ _ t in
          let ne : x.order ≡ m.order → ⊥ = is_at-false _ _ x i.1 q in
          let le : s.after.next x.channel ≤ x.order = pre.not-below x i.0 in
          let e' : s.after.next x.channel ≡ m.order = cc in
          rw (bump-same _ s.after.next x.channel q) (omega arith))
          (λ t. rw (bump-other m.channel s.after.next x.channel (eqb-false _ _ t)) (pre.not-below x i.0))

      run : (d : ℕ) → EachAt (G d) (bump m.channel s.after.next d) (only (on_channel d) (s.after.line ++ (m ∷ [])))
      run d = cases (eqb d m.channel)
          (λ t. let q : d ≡ m.channel = eqb-true _ _ t in
          let n : m.order ≡ s.after.next d = cc in
          rw (bump-same m.channel s.after.next d q, only-pass (on_channel d) s.after.line m (on_channel-true d m om (sym q)))
          (only (on_channel d) s.after.line, m, pre.line-good d, rw (q, ← e) g, refl))
          (λ t. rw (
            bump-other m.channel s.after.next d (eqb-false _ _ t),
            only-fail (on_channel d) s.after.line m
                (on_channel-other d m (λ q. eqb-false _ _ t (sym q))),
          ) (pre.line-good d))

  emit-passed : (m : Message) (s : Sent) → m.order ≡ s.after.next m.channel → (c n : ℕ) → Passed s.after c n
      → Passed (emit m s).after c n
  unfolding emit
  emit-passed m s e c n (inl lt) = inl (cases (eqb c m.channel) (λ t. rw (bump-same _ s.after.next c (eqb-true _ _ t)) (omega arith))
      (λ t. rw (bump-other m.channel s.after.next c (eqb-false _ _ t)) lt))
  emit-passed m s e c n (inr h) = cases (is_at m.channel m.order h.0)
      (λ t. let a = is_at-true _ _ h.0 t in
      let q : c ≡ m.channel = cc in
      let r : n ≡ s.after.next c = cc in
      inl (rw (bump-same _ s.after.next c q) (omega arith)))
      (λ t. inr (h.0, mem-without _ _ _ h.1 t, h.2, h.3))

  emit-self : (m : Message) (s : Sent) → m.order ≡ s.after.next m.channel → Passed (emit m s).after m.channel m.order
  unfolding emit
  emit-self m s e = inl (rw (bump-same _ s.after.next m.channel refl) (omega arith))

  -- What a change of step 4's state keeps.
  record Kept (o o' : Out) : Type 0 where
    pub chan : Chan o'
    pub passed : (c n : ℕ) → Passed o c n → Passed o' c n

  tight : (c : ℕ) (o : Out) → Pre c o → ((m : Message) → Memᴰ m o.held → m.channel ≡ c → m.order ≡ o.next c → ⊥) → Chan o
  tight c o pre none-at = record {
    ahead = λ m i. cases (eqb m.channel c)
        (λ t. let q : m.channel ≡ c = eqb-true _ _ t in
        let le : o.next m.channel ≤ m.order = pre.not-below m i in
        let ne : m.order ≡ o.next c → ⊥ = none-at m i q in
        let w : o.next m.channel ≡ o.next c = cc in
        omega arith)
        (λ t. pre.ahead m i (eqb-false _ _ t));
    held-ordered = pre.held-ordered;
    held-good = pre.held-good;
    line-good = pre.line-good;
  }

  follow-keeps : (n c : ℕ) (s : Sent) → Pre c s.after → length s.after.held ≤ n → Kept s.after (follow n c s).after
  unfolding follow
  follow-keeps zero c s pre le = record {
    chan = tight c s.after pre (λ m i q r. let p : 0 < length s.after.held =
        length-positive _ i in omega arith);
    passed = λ d k p. p;
  }
  follow-keeps (suc n) c s pre le = by_option (λ (t : Sent). Kept s.after t.after) (find (is_at c (s.after.next c)) s.after.held)
      (λ e. record { chan = tight c s.after pre (λ m i q r. is_at-false _ _ m (find_none _ _ e m i) q r); passed = λ d k p. p })
      (λ m e. found m (find-some _ _ e) (λ (p : Pre c (emit m s).after) (l : length (emit m s).after.held ≤ n). follow-keeps n c
      (emit m s) p l))
    where
      found : (m : Message) → Memᴰ m s.after.held × (is_at c (s.after.next c) m ≡ true)
          → (Pre c (emit m s).after → length (emit m s).after.held ≤ n → Kept (emit m s).after (follow n c (emit m s)).after)
          → Kept s.after (follow n c (emit m s)).after
      found m i rest =
          let a = is_at-true _ _ m i.1 in
          let e : m.order ≡ s.after.next m.channel = cc in
          let k = rest (subst (λ (d : ℕ). Pre d (emit m s).after) a.0
          (emit-pre m s (subst (λ (d : ℕ). Pre d s.after) (sym a.0) pre) (pre.held-ordered m i.0) e
          (pre.held-good m i.0))) (emit-shorter m s n i.0 le) in
          record { chan = k.chan; passed = λ d j p. k.passed d j (emit-passed m s e d j p) }

  -- What step 4 does with a message that may be made ready.
  pub record Delivered (m : Message) (o o' : Out) : Type 0 where
    pub chan : Chan o'
    pub passed : (c n : ℕ) → Passed o c n → Passed o' c n
    pub self : ordered m.kind ≡ true → Passed o' m.channel m.order

  queue-delivers : (m : Message) (o : Out) → Chan o → ordered m.kind ≡ true → G m.channel m.order m
      → Delivered m o (queue m o).after
  unfolding queue quiet hold
  queue-delivers m o ch om g =
      by_bool (λ (s : Sent). Delivered m o s.after) (ltb m.order (o.next m.channel) || any (is_at m.channel m.order)
      o.held)
      (λ t. record { chan = ch; passed = λ c n p. p; self = λ _. again (ltb m.order (o.next m.channel)) refl t })
      (λ t. by_bool (λ (s : Sent). Delivered m o s.after) (eqb m.order (o.next m.channel))
      (λ u. let e : m.order ≡ o.next m.channel = eqb-true _ _ u in
      let k = follow-keeps (length o.held) m.channel (emit m (quiet o 0)) (emit-pre m (quiet o 0) (loose ch) om e g)
      (emit-not-longer m (quiet o 0)) in
      record {
        chan = k.chan;
        passed = λ c n p. k.passed c n (emit-passed m (quiet o 0) e c n p);
        self = λ _. k.passed _ _ (emit-self m (quiet o 0) e);
      })
      (λ u. let ne : m.order ≡ o.next m.channel → ⊥ = eqb-false _ _ u in
      let ge : o.next m.channel ≤ m.order = ltb-false _ _ (or_left (ltb m.order (o.next m.channel)) _ t) in
      let lt : o.next m.channel < m.order = omega arith in record {
        chan = record {
          ahead = λ x i. pick (λ (y : Message). o.next y.channel < y.order) lt ch.ahead x i;
          held-ordered = λ x i. pick (λ (y : Message). ordered y.kind ≡ true) om ch.held-ordered x i;
          held-good = λ x i. pick (λ (y : Message). G y.channel y.order y) g ch.held-good x i;
          line-good = ch.line-good;
        };
        passed = λ c n p. more c n p;
        self = λ _. inr (m, Memᴰ.head refl, refl, refl);
      }))
    where
      again : (b : Bool) → ltb m.order (o.next m.channel) ≡ b → (b || any (is_at m.channel m.order) o.held) ≡ true
          → Passed o m.channel m.order
      again true e t = inl (ltb-true _ _ e)
      again false e t = let h = any-true _ _ t in let a = is_at-true _ _ h.0 h.2 in inr (h.0, h.1, a.0, a.1)

      pick : (P : Message → Type 0) → P m → ((x : Message) → Memᴰ x o.held → P x) → (x : Message) → Memᴰ x (m ∷ o.held) → P x
      pick P pm rest x (Memᴰ.head e) = subst P (sym e) pm
      pick P pm rest x (Memᴰ.tail i) = rest x i

      more : (c n : ℕ) → Passed o c n → Passed (hold m o) c n
      more c n (inl lt) = inl lt
      more c n (inr h) = inr (h.0, Memᴰ.tail h.1, h.2, h.3)

      loose : Chan o → Pre m.channel o
      loose ch = record {
        not-below = λ x i. let lt : o.next x.channel < x.order = ch.ahead x i in omega arith;
        ahead = λ x i h. ch.ahead x i;
        held-ordered = ch.held-ordered;
        held-good = ch.held-good;
        line-good = ch.line-good;
      }

  -- A message without order number made ready, or dropped: no channel is touched.
  unordered : (m : Message) (o o' : Out) → ordered m.kind ≡ false → o'.next ≡ o.next → o'.held ≡ o.held
      → ((c : ℕ) → only (on_channel c) o'.line ≡ only (on_channel c) o.line) → Chan o → Delivered m o o'
  unordered m o o' t next held line ch = record {
    chan = record {
      ahead = rw (next, held) ch.ahead;
      held-ordered = rw held ch.held-ordered;
      held-good = rw held ch.held-good;
      line-good = λ c. rw (next, line c) (ch.line-good c);
    };
    passed = λ c n p. rw (next, held) p;
    self = λ u. neither (ordered m.kind) u t;
  }

  ready-delivers : (m : Message) (o o' : Out) → ordered m.kind ≡ false → o'.next ≡ o.next → o'.held ≡ o.held → o'.line ≡ o.line
      → Chan o → Delivered m o (ready m o').after
  unfolding ready append
  ready-delivers m o o' t next held line ch = unordered m o (append m o') t next held
      (λ c. rw line (only-fail (on_channel c) o.line m (on_channel-unordered c m t))) ch

  -- Step 4 keeps the channels' order: what may be made ready is put in its place, held, or was there before.
  pub deliver-delivers : (n : ℕ) (m : Message) (o : Out) → Chan o → (ordered m.kind ≡ true → G m.channel m.order m)
      → Delivered m o (deliver n m o).after
  unfolding deliver sequence remember quiet
  deliver-delivers n m o ch g = by_bool (λ (s : Sent). Delivered m o s.after) (ordered m.kind)
      (λ t. queue-delivers m o ch t (g t))
      (λ t. by_bool (λ (s : Sent). Delivered m o s.after) (sequenced m.kind)
      (λ u. by_bool (λ (s : Sent). Delivered m o s.after) (older o.newest (memory_of o.profile m.kind m.channel) n)
      (λ v. unordered m o o t refl refl (λ c. refl) ch)
      (λ v. ready-delivers m o (remember (memory_of o.profile m.kind m.channel) n o) t refl refl refl ch))
      (λ u. ready-delivers m o o t refl refl refl ch))
