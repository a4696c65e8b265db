-- Soundness while a datagram is worked on, and that step 4's cascade keeps it.
-- Assumes nothing.
use Prim.Native.Nat.{ℕ, zero, suc, ◌≤◌, ◌<◌}
use mathlib.Core.Path.{◌≡◌, sym, ◌∙◌, subst}
use mathlib.Core.Logic.{◌⊎◌, inl, inr}
use mathlib.Core.Bool.{true, false}
use mathlib.Core.List.{List, Memᴰ}
use native.Mathlib.Omega.{arith}
use lib.ListN.{length}
use lib.Dec.{eqb}
use borrow.Author.Tests.{eqb-true, eqb-false}
use Rattle.base.specs.Limits.{numbers24, max_ord_chans}
use Rattle.base.specs.Lists.{any}
use Rattle.base.proofs.Choices.{cases, neither}
use Rattle.base.proofs.Lists.{any-true}
use Rattle.base.proofs.Counts.{count-length}
use Rattle.bare.specs.Bare.{bump}
use Rattle.bare.proofs.Tests.{bump-same, bump-other}
use Rattle.cells.specs.Cell.{Slot, Key, open_as, held_as, ready_as, of, all_there, turn_to}
use Rattle.cells.specs.Datagram.{Work, made, rise, is_held, go_on, cascade, follows}
use Rattle.cells.proofs.Keys.{use_of, key-used}
use Rattle.cells.proofs.Moves.{of-mark, of-mark-ready, of-held, ready-others, ready-gone, ready_held}
use Rattle.cells.proofs.Cascade.{cascade-stops}
use Rattle.cells.proofs.SoundCore.{Core, Lack, same-or-apart, Target, core-turn, lack-turn}

-- Sound, while a datagram is worked on: all turns are below the next one.
pub record Sound (next : ℕ → ℕ) (l : List Slot) (T : ℕ) : Type 0 where
  pub core : Core l
  pub lack : Lack l
  pub ahead : (c o : ℕ) → any (of (held_as c o)) l ≡ true → next c < o
  pub below : (t : ℕ) → any (of (ready_as t)) l ≡ true → t < T
  pub nexts : (c : ℕ) → c < max_ord_chans → next c ≤ numbers24

-- While channel c's held messages are being made ready, one may be at its next.
record Pre (c : ℕ) (next : ℕ → ℕ) (l : List Slot) (T : ℕ) : Type 0 where
  pub core : Core l
  pub lack : Lack l
  pub ahead : (d o : ℕ) → any (of (held_as d o)) l ≡ true → (next d ≤ o) × ((d ≡ c → ⊥) → next d < o)
  pub below : (t : ℕ) → any (of (ready_as t)) l ≡ true → t < T
  pub nexts : (d : ℕ) → d < max_ord_chans → next d ≤ numbers24

pub fresh : (l : List Slot) (T : ℕ) → ((t : ℕ) → any (of (ready_as t)) l ≡ true → t < T) → any (of (ready_as T)) l ≡ false
fresh l T b = cases (any (of (ready_as T)) l) (λ y. let p = b T y in absurd (omega arith)) (λ y. y)

-- The cells of an open or held message, all of whose indices are there, become ready.
module _ (k₀ : Key) (T : ℕ) (l : List Slot) (v : Core l) (b : (t : ℕ) → any (of (ready_as t)) l ≡ true → t < T) (ne : use_of k₀ ≡ 3 → ⊥)
    (all : (s : Slot) → Memᴰ s l → of k₀ s ≡ true → all_there k₀ l s.cell.count ≡ true) where
  pub ready-core : Core (turn_to k₀ 3 T l)
  ready-core = core-turn k₀ 3 T l v (λ s. of-mark k₀ 3 T s (λ q. ne (sym q))) (omega arith) target
    where
      target : (k : Key) → Target k₀ 3 T l k
      target (open_as id) = inl (λ s m y. of-mark (open_as id) 3 T s (λ q. omega arith))
      target (held_as c o) = inl (λ s m y. of-mark (held_as c o) 3 T s (λ q. omega arith))
      target (ready_as t) = cases (eqb T t)
          (λ z. inr (λ s m y. of-mark-ready T t s ∙ z, rw (← eqb-true T t z) (fresh l T b), all))
          (λ z. inl (λ s m y. of-mark-ready T t s ∙ z))

  pub ready-below : (t : ℕ) → any (of (ready_as t)) (turn_to k₀ 3 T l) ≡ true → t < suc T
  ready-below t e = cases (eqb t T) (λ y. let q = eqb-true t T y in omega arith)
      (λ y. let p = b t (sym (ready-others k₀ T l ne (fresh l T b) t (eqb-false t T y)).present ∙ e) in omega arith)

go_on-pre : (c : ℕ) (w : Work) → is_held c (w.state.next c) w.state.slots ≡ true → Pre c w.state.next w.state.slots w.turn
    → Pre c (go_on c w).state.next (go_on c w).state.slots (go_on c w).turn
unfolding go_on rise made is_held
go_on-pre c w e v = record {
  core = ready-core key w.turn w.state.slots v.core v.below (λ q. omega arith)
      (λ s m y. v.core.full key (λ q. omega arith) s m y);
  lack = lack-turn key 3 w.turn w.state.slots v.core (λ s. of-mark key 3 w.turn s (λ q. omega arith)) (omega arith)
      (λ q. omega arith) (λ id s m y z. v.lack id s m y);
  ahead = λ d o y. moved d o y (same-or-apart key (held_as d o));
  below = ready-below key w.turn w.state.slots v.core v.below (λ q. omega arith)
      (λ s m y. v.core.full key (λ q. omega arith) s m y);
  nexts = λ d le. cases (eqb d c)
      (λ y. rw (bump-same c w.state.next d (eqb-true d c y), eqb-true d c y) small)
      (λ y. rw (bump-other c w.state.next d (eqb-false d c y)) (v.nexts d le));
}
  where
    key : Key
    key = held_as c (w.state.next c)

    free-turn : any (of (ready_as w.turn)) w.state.slots ≡ false
    free-turn = fresh w.state.slots w.turn v.below

    small : w.state.next c < numbers24
    small =
        let a = any-true (of key) w.state.slots e in
        let p = of-held c (w.state.next c) a.0 a.2 in
        let q = (v.core.bounds a.0 a.1 (key-used key a.0 a.2)).order in
        let r = p.1 in
        omega arith

    moved : (d o : ℕ) → any (of (held_as d o)) (turn_to key 3 w.turn w.state.slots) ≡ true
        → (held_as d o ≡ key) ⊎ ((s : Slot) → of key s ≡ true → of (held_as d o) s ≡ false) → (bump c w.state.next d ≤ o)
        × ((d ≡ c → ⊥) → bump c w.state.next d < o)
    moved d o y (inl q) = neither (any (of (held_as d o)) (turn_to key 3 w.turn w.state.slots)) y
        (rw q (ready-gone key w.turn w.state.slots (λ q. omega arith) free-turn))
    moved d o y (inr a) =
        let z = sym (ready_held key w.turn w.state.slots (λ q. omega arith) free-turn d o a).present ∙ y in
        let p = v.ahead d o z in
        cases (eqb d c)
        (λ t. let q = eqb-true d c t in
        let ne : o ≡ w.state.next d → ⊥ = λ r. (let b = any-true (of (held_as d o)) w.state.slots z in
        neither (of (held_as d o) b.0) b.2 (a b.0 (subst (λ (k : Key). of k b.0 ≡ true) (same_key d o q r) b.2))) in
        let le = p.0 in
        (rw (bump-same c w.state.next d q) (omega arith), λ n. absurd (n q)))
        (λ t. let n : d ≡ c → ⊥ = eqb-false d c t in (
          rw (bump-other c w.state.next d n) p.0,
          λ m. rw (bump-other c w.state.next d n)
              (p.1 n),
        ))
      where
        same_key : (d o : ℕ) → d ≡ c → o ≡ w.state.next d → held_as d o ≡ held_as c (w.state.next c)
        same_key d o q r = cc

cascade-pre : (n c : ℕ) (w : Work) → Pre c w.state.next w.state.slots w.turn → Pre c (cascade n c w).state.next
    (cascade n c w).state.slots (cascade n c w).turn
unfolding cascade
cascade-pre zero c w v = v
cascade-pre (suc n) c w v = cases (is_held c (w.state.next c) w.state.slots)
    (λ y. rw y (cascade-pre n c (go_on c w) (go_on-pre c w y v)))
    (λ y. rw y v)

pre-sound : (c : ℕ) (next : ℕ → ℕ) (l : List Slot) (T : ℕ) → is_held c (next c) l ≡ false → Pre c next l T → Sound next l T
unfolding is_held
pre-sound c next l T e v = record {
  core = v.core;
  lack = v.lack;
  ahead = λ d o y. cases (eqb d c)
      (λ t. let q = eqb-true d c t in
      let p = (v.ahead d o y).0 in
      let ne : o ≡ next d → ⊥ = λ r. neither (any (of (held_as d o)) l) y (rw (r, q) e) in
      omega arith)
      (λ t. (v.ahead d o y).1 (eqb-false d c t));
  below = v.below;
  nexts = v.nexts;
}

pub follows-sound : (c : ℕ) (w : Work) → w.state.next c < numbers24 → Sound w.state.next w.state.slots w.turn
    → Sound (follows c w).state.next (follows c w).state.slots (follows c w).turn
unfolding follows rise
follows-sound c w lt v = pre-sound c _ _ _ (cascade-stops (length w.state.slots) c (rise c w) (count-length _ w.state.slots))
    (cascade-pre (length w.state.slots) c (rise c w) start)
  where
    start : Pre c (bump c w.state.next) w.state.slots w.turn
    start = record {
      core = v.core;
      lack = v.lack;
      ahead = λ d o y. let p = v.ahead d o y in cases (eqb d c)
          (λ t. (rw (bump-same c w.state.next d (eqb-true d c t)) p, λ n. absurd (n (eqb-true d c t))))
          (λ t. let n : d ≡ c → ⊥ = eqb-false d c t in (
            rw (bump-other c w.state.next d n) (omega arith),
            λ m. rw (bump-other c w.state.next d n)
                p,
          ));
      below = v.below;
      nexts = λ d le. cases (eqb d c)
          (λ y. rw (bump-same c w.state.next d (eqb-true d c y), eqb-true d c y) lt)
          (λ y. rw (bump-other c w.state.next d (eqb-false d c y)) (v.nexts d le));
    }
