-- Step 4 with a message of its channel's next order number: the line goes on with it, then with held messages of its channel above it.
-- Assumes nothing.
use Prim.Native.Nat.{ℕ, zero, suc, ◌+◌, ◌≤◌, ◌<◌}
use mathlib.Core.Path.{◌≡◌, refl, sym, ◌∙◌}
use mathlib.Core.Logic.{◌⊎◌, inl, inr}
use mathlib.Core.Bool.{false}
use mathlib.Core.List.Memᴰ
use mathlib.Core.List.{List, [], ◌∷◌, ◌++◌, append-nil, append_assoc, Memᴰ}
use native.Mathlib.Omega.{arith}
use lib.ListN.{length}
use lib.Dec.{ltb, eqb}
use borrow.Author.Tests.{ltb-true, eqb-true, eqb-false, eq-eqb}
use Rattle.base.specs.Lists.{find, any}
use Rattle.base.proofs.Choices.{cases, by_option}
use Rattle.base.proofs.Lists.{find-some, without-mem}
use Rattle.bare.specs.Frame.{Message}
use Rattle.bare.specs.Bare.{Out, Sent, is_at, bump, emit, follow, quiet, queue}
use Rattle.bare.proofs.Tests.{bump-same, bump-other, is_at-true}

-- What `follow` adds: messages that were held, of channel c, from its next order number on.
record FollowAdds (c : ℕ) (s s' : Sent) : Type 0 where
  pub followers : List Message
  pub line : s'.after.line ≡ s.after.line ++ followers
  pub held_before : (m : Message) → Memᴰ m followers → Memᴰ m s.after.held
  pub later : (m : Message) → Memᴰ m followers → (m.channel ≡ c) × (s.after.next c ≤ m.order)
  pub ready : s'.ready ≡ s.ready + length followers
  pub dropped : s'.dropped ≡ s.dropped

none-follow : (c : ℕ) (s : Sent) → FollowAdds c s s
none-follow c s = record {
  followers = [];
  line = sym (append-nil s.after.line);
  held_before = λ m i. absurd (Memᴰ.not-nil i);
  later = λ m i. absurd (Memᴰ.not-nil i);
  ready = omega arith;
  dropped = refl;
}

bump-rises : (d : ℕ) (next : ℕ → ℕ) (c : ℕ) → next c ≤ bump d next c
bump-rises d next c = cases (eqb c d)
    (λ t. rw (bump-same d next c (eqb-true c d t)) (omega arith))
    (λ t. rw (bump-other d next c (eqb-false c d t)) (omega arith))

one-follows : (c : ℕ) (m : Message) (s s' : Sent) → Memᴰ m s.after.held → m.channel ≡ c → m.order ≡ s.after.next c
    → FollowAdds c (emit m s) s' → FollowAdds c s s'
unfolding emit
one-follows c m s s' i on at f = record {
  followers = m ∷ f.followers;
  line = f.line ∙ append_assoc s.after.line (m ∷ []) f.followers;
  held_before = λ x j. before x (Memᴰ.cases_cons j);
  later = λ x j. after x (Memᴰ.cases_cons j);
  ready = let r = f.ready in omega arith;
  dropped = f.dropped;
}
  where
    before : (x : Message) → (x ≡ m) ⊎ Memᴰ x f.followers → Memᴰ x s.after.held
    before x (inl e) = rw e i
    before x (inr j) = (without-mem _ s.after.held x (f.held_before x j)).0

    after : (x : Message) → (x ≡ m) ⊎ Memᴰ x f.followers → (x.channel ≡ c) × (s.after.next c ≤ x.order)
    after x (inl e) = rw e (on, omega arith)
    after x (inr j) =
        let l = f.later x j in
        let a = l.1 in
        let r = bump-rises m.channel s.after.next c in
        (l.0, omega arith)

follows : (n c : ℕ) (s : Sent) → FollowAdds c s (follow n c s)
unfolding follow
follows zero c s = none-follow c s
follows (suc n) c s = by_option (λ (t : Sent). FollowAdds c s t) (find (is_at c (s.after.next c)) s.after.held)
    (λ e. none-follow c s)
    (λ m e. let f = find-some _ _ e in
    let a = is_at-true c (s.after.next c) m f.1 in
    one-follows c m s (follow n c (emit m s)) f.0 a.0 a.1 (follows n c (emit m s)))

-- What step 4 answers to a message that is its channel's next and not held.
pub record Follows (m : Message) (o : Out) (s : Sent) : Type 0 where
  pub followers : List Message
  pub line : s.after.line ≡ o.line ++ (m ∷ followers)
  pub held_before : (x : Message) → Memᴰ x followers → Memᴰ x o.held
  pub later : (x : Message) → Memᴰ x followers → (x.channel ≡ m.channel) × (m.order < x.order)
  pub ready : s.ready ≡ suc (length followers)
  pub dropped : s.dropped ≡ 0

pub due-follows : (m : Message) (o : Out) → o.next m.channel ≡ m.order → any (is_at m.channel m.order) o.held ≡ false
    → Follows m o (queue m o)
unfolding queue quiet emit
due-follows m o due not_held =
    rw (not-behind, not_held, eq-eqb m.order (o.next m.channel) (sym due))
    (go (follows (length o.held) m.channel (emit m (quiet o 0))))
  where
    not-behind : ltb m.order (o.next m.channel) ≡ false
    not-behind = cases (ltb m.order (o.next m.channel))
        (λ t. let lt = ltb-true m.order (o.next m.channel) t in absurd (omega arith))
        (λ t. t)

    go : {s : Sent} → FollowAdds m.channel (emit m (quiet o 0)) s → Follows m o s
    go f = record {
      followers = f.followers;
      line = f.line ∙ append_assoc o.line (m ∷ []) f.followers;
      held_before = λ x i. (without-mem _ o.held x (f.held_before x i)).0;
      later = λ x i. let l = f.later x i in
          let a = l.1 in
          let r = bump-same m.channel o.next m.channel refl in
          (l.0, omega arith);
      ready = let r = f.ready in omega arith;
      dropped = f.dropped;
    }
