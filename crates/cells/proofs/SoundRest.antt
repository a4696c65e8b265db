-- Soundness between calls: what an accepted datagram and a take leave is sound.
-- Assumes nothing.
use Prim.Native.Nat.{ℕ, ◌≤◌, ◌<◌}
use mathlib.Core.Path.{◌≡◌, refl, sym, ◌∙◌, ap, subst}
use mathlib.Core.Logic.{◌⊎◌, inl, inr}
use mathlib.Core.Bool.{Bool, true, false}
use mathlib.Core.Option.{some}
use mathlib.Core.List.Memᴰ
use mathlib.Core.List.{List, map, Memᴰ}
use native.Mathlib.Omega.{arith}
use lib.Dec.{eqb}
use borrow.Author.Tests.{ltb-true, lt-ltb, eqb-true, eqb-false, eq-eqb}
use Rattle.base.specs.Limits.{numbers24, max_ord_chans}
use Rattle.base.specs.Lists.{any, count_of}
use Rattle.base.proofs.Choices.{by_bool, cases, and_left, and_right, and_both, neither}
use Rattle.base.proofs.Lists.{any-true, any_false, any-all, any-map}
use Rattle.base.proofs.Counts.{count-lt}
use Rattle.bare.specs.Frame.{Frame}
use Rattle.cells.specs.Cell.{Slot, Key, open_as, held_as, ready_as, of, sits, is_free, is_ready, all_there, empty_cell, empty_slot, change}
use Rattle.cells.specs.Cell.{map_if, freed}
use Rattle.cells.specs.Datagram.{Work, is_first, is_before, rank, renumber, sweep, State, begin, end, grow, place, datagram}
use Rattle.cells.specs.Take.{Taken, taking}
use Rattle.cells.specs.Sound.{Readable}
use Rattle.cells.proofs.Keys.{of_other, key-used, empty-free, empty_of, no-key-of-4, of-ready, ready_of, sits-is, Carried}
use Rattle.cells.proofs.Keys.{carried-any, carried_other}
use Rattle.cells.proofs.Moves.{of-mark-ready}
use Rattle.cells.proofs.Placing.{there-first}
use Rattle.cells.proofs.TurnOrder.{retime, Rising, retime-yes, retime-no, retime-other, retime-carried}
use Rattle.cells.proofs.Takes.{taken-freed}
use Rattle.cells.proofs.SoundCore.{Bounds, Core, Source, gone, from, core-map, from-same, Lack, lack-map, same-or-apart, bounds-mark}
use Rattle.cells.proofs.SoundCascade.{Sound}
use Rattle.cells.proofs.Aging.{grown-sound}
use Rattle.cells.proofs.SoundFrames.{frames-sound}

-- Sound cells, and each channel's next.
pub record Rest (next : ℕ → ℕ) (l : List Slot) : Type 0 where
  pub core : Core l
  pub uses : (s : Slot) → Memᴰ s l → s.cell.used ≤ 3
  pub lack : Lack l
  pub ahead : (c o : ℕ) → any (of (held_as c o)) l ≡ true → next c < o
  pub nexts : (c : ℕ) → c < max_ord_chans → next c ≤ numbers24

empty-used : empty_cell.used ≤ 3
unfolding empty_slot empty_cell
empty-used = omega arith

-- Slots become unused: each message keeps all its cells, or loses them all.
module _ (q : Slot → Bool) (l : List Slot) (v : Core l) (g : (k : Key) → ((s : Slot) → Memᴰ s l → q s ≡ true → of k s ≡ false) ⊎
    (any (of k) (map (change q (λ s. empty_slot)) l) ≡ false)) where
  emptied-carried : (k : Key) → ((s : Slot) → Memᴰ s l → q s ≡ true → of k s ≡ false) → Carried k k (change q (λ s. empty_slot)) l
  emptied-carried k e = carried_other k q (λ s. empty_slot) l (λ s m y. (e s m y, empty_of k))

  emptied-source : (k : Key) → ((s : Slot) → Memᴰ s l → q s ≡ true → of k s ≡ false) ⊎ (any (of k) (map (change q (λ s. empty_slot)) l)
      ≡ false) → Source (change q (λ s. empty_slot)) l k
  emptied-source k (inl e) = from-same _ l v k (emptied-carried k e)
  emptied-source k (inr e) = gone e

  emptied-core : Core (map_if q (λ s. empty_slot) l)
  unfolding map_if change
  emptied-core = core-map (change q (λ s. empty_slot)) l v (λ s m. cases (q s) (λ y. rw y (λ e. neither (is_free empty_slot) empty-free e))
      (λ y. rw y (λ e. v.bounds s m e))) (λ k. emptied-source k (g k))

  emptied-lack : Lack l → Lack (map_if q (λ s. empty_slot) l)
  unfolding map_if
  emptied-lack w id s m o = go (g (open_as id))
    where
      go : ((s : Slot) → Memᴰ s l → q s ≡ true → of (open_as id) s ≡ false) ⊎ (any (of (open_as id)) (map (change q (λ s. empty_slot)) l)
          ≡ false) → all_there (open_as id) (map (change q (λ s. empty_slot)) l) s.cell.count ≡ false
      go (inl e) = lack-map (change q (λ s. empty_slot)) l id (w id) (emptied-carried (open_as id) e) s m o
      go (inr e) = neither (of (open_as id) s) o (any_false (of (open_as id)) (map (change q (λ s. empty_slot)) l) e s m)

  emptied-ahead : (next : ℕ → ℕ) → ((c o : ℕ) → any (of (held_as c o)) l ≡ true → next c < o) → (c o : ℕ)
      → any (of (held_as c o)) (map_if q (λ s. empty_slot) l) ≡ true → next c < o
  unfolding map_if
  emptied-ahead next w c o y = go (g (held_as c o))
    where
      go : ((s : Slot) → Memᴰ s l → q s ≡ true → of (held_as c o) s ≡ false) ⊎
          (any (of (held_as c o)) (map (change q (λ s. empty_slot)) l) ≡ false) → next c < o
      go (inl e) = w c o (sym (carried-any (emptied-carried (held_as c o) e)) ∙ y)
      go (inr e) = neither (any (of (held_as c o)) (map (change q (λ s. empty_slot)) l)) y e

emptied-uses : (q : Slot → Bool) (l : List Slot) → ((s : Slot) → Memᴰ s l → q s ≡ false → s.cell.used ≤ 3) → (s : Slot)
    → Memᴰ s (map_if q (λ s. empty_slot) l) → s.cell.used ≤ 3
unfolding map_if change empty_slot
emptied-uses q l e s m =
    let a = Memᴰ.of_map (change q (λ s. empty_slot)) l m in
    subst (λ (z : Slot). z.cell.used ≤ 3) a.2 (by_bool (λ (z : Slot). z.cell.used ≤ 3) (q a.0) (λ y. empty-used)
    (λ y. e a.0 a.1 y))

pub free-used : (s : Slot) → is_free s ≡ true → s.cell.used ≡ 0
unfolding is_free
free-used s e = eqb-true s.cell.used 0 e

-- After a datagram.
end_rest : (w : Work) → Sound w.state.next w.state.slots w.turn → Rest (end w).next (end w).slots
unfolding end sweep
end_rest w v = record {
  core = emptied-core is_four w.state.slots v.core keep;
  uses = emptied-uses is_four w.state.slots small;
  lack = emptied-lack is_four w.state.slots v.core keep v.lack;
  ahead = emptied-ahead is_four w.state.slots v.core keep w.state.next v.ahead;
  nexts = v.nexts;
}
  where
    is_four : Slot → Bool
    is_four s = eqb s.cell.used 4

    small : (s : Slot) → Memᴰ s w.state.slots → is_four s ≡ false → s.cell.used ≤ 3
    small s m y = let ne : s.cell.used ≡ 4 → ⊥ = eqb-false s.cell.used 4 y in cases (is_free s)
        (λ z. let p = free-used s z in omega arith)
        (λ z. let p = (v.core.bounds s m z).used in omega arith)

    keep : (k : Key) → ((s : Slot) → Memᴰ s w.state.slots → is_four s ≡ true → of k s ≡ false) ⊎
        (any (of k) (map (change is_four (λ s. empty_slot)) w.state.slots) ≡ false)
    keep k = inl (λ s m y. of_other k s (λ q. no-key-of-4 k (sym (eqb-true s.cell.used 4 y) ∙ q)))

lost : (k : Key) (l : List Slot) → any (of k) (map (change (of k) (λ s. empty_slot)) l) ≡ false
unfolding change
lost k l = any-map (of k) (λ s. false) (change (of k) (λ s. empty_slot)) l (λ s m. cases (of k s) (λ y. rw y (empty_of k)) (λ y. rw y y))
    ∙ any-all (λ s. false) l (λ s m. refl)

-- Each message keeps all its cells or loses them all.
pub emptied-rest : (next : ℕ → ℕ) (q : Slot → Bool) (l : List Slot) → ((k : Key) → ((s : Slot) → Memᴰ s l → q s ≡ true → of k s ≡ false) ⊎
    (any (of k) (map (change q (λ s. empty_slot)) l) ≡ false)) → Rest next l → Rest next (map_if q (λ s. empty_slot) l)
emptied-rest next q l keep v = record {
  core = emptied-core q l v.core keep;
  uses = emptied-uses q l (λ s m y. v.uses s m);
  lack = emptied-lack q l v.core keep v.lack;
  ahead = emptied-ahead q l v.core keep next v.ahead;
  nexts = v.nexts;
}

-- A taken message's cells.
freed-rest : (next : ℕ → ℕ) (l : List Slot) (k : Key) → Rest next l → Rest next (freed k l)
unfolding freed
freed-rest next l k v = emptied-rest next (of k) l keep v
  where
    keep : (j : Key) → ((s : Slot) → Memᴰ s l → of k s ≡ true → of j s ≡ false) ⊎ (any (of j) (map (change (of k) (λ s. empty_slot)) l)
        ≡ false)
    keep j = go (same-or-apart k j)
      where
        go : (j ≡ k) ⊎ ((s : Slot) → of k s ≡ true → of j s ≡ false) → ((s : Slot) → Memᴰ s l → of k s ≡ true → of j s ≡ false) ⊎
            (any (of j) (map (change (of k) (λ s. empty_slot)) l) ≡ false)
        go (inl q) = inr (rw q (lost k l))
        go (inr a) = inl (λ s m y. a s y)

-- A take leaves sound cells.
pub take_rest : (next : ℕ → ℕ) (l : List Slot) (t : Taken) → Rest next l → taking l ≡ some t → Rest next t.slots
take_rest next l t v e = let f = taken-freed l t e in subst (Rest next) (sym f.1) (freed-rest next l (ready_as f.0) v)

-- Before a datagram: turns become ranks.
pub before-in : (t : ℕ) (x : Slot) → is_first x ≡ true → x.cell.turn < t → is_before t x ≡ true
unfolding is_before
before-in t x f lt = and_both _ _ f (lt-ltb _ t lt)

before-out : (t : ℕ) (x : Slot) → t ≤ x.cell.turn → is_before t x ≡ false
unfolding is_before
before-out t x le = cases (is_before t x) (λ y. let p : x.cell.turn < t = ltb-true _ _ (and_right (is_first x) _ y) in absurd (omega arith))
    (λ y. y)

pub before_of : (t : ℕ) (x : Slot) → is_before t x ≡ true → (is_first x ≡ true) × (x.cell.turn < t)
unfolding is_before
before_of t x e = (and_left (is_first x) _ e, ltb-true _ _ (and_right (is_first x) _ e))

module _ (next : ℕ → ℕ) (l : List Slot) (v : Rest next l) where
  ready-key : (s : Slot) → is_ready s ≡ true → of (ready_as s.cell.turn) s ≡ true
  ready-key s e = of-ready s.cell.turn s ∙ and_both _ _ e (eq-eqb s.cell.turn _ refl)

  first_of : (s : Slot) → Memᴰ s l → is_ready s ≡ true → (x : Slot) × Memᴰ x l × (is_first x ≡ true)
      × (x.cell.turn ≡ s.cell.turn)
  unfolding is_first
  first_of s m e =
      let k = ready-key s e in
      let b = (v.core.bounds s m (key-used (ready_as s.cell.turn) s k)).some-count in
      let a = any-true (sits (ready_as s.cell.turn) 0) l (there-first (ready_as s.cell.turn) l s.cell.count b
      (v.core.full (ready_as s.cell.turn) (λ q. omega arith) s m k)) in
      let p = sits-is (ready_as s.cell.turn) 0 a.0 a.2 in
      let q = sym (of-ready s.cell.turn a.0) ∙ p.0 in
      (a.0, a.1, and_both _ _ (and_left (is_ready a.0) _ q) (eq-eqb _ _ p.1), eqb-true _ _ (and_right (is_ready a.0) _ q))

  rank_less : (s : Slot) → Memᴰ s l → is_ready s ≡ true → (t : ℕ) → s.cell.turn < t → rank l s.cell.turn < rank l t
  unfolding rank is_before
  rank_less s m e t lt = let x = first_of s m e in
      let q = x.3 in
      count-lt (is_before s.cell.turn) (is_before t) l (λ y i z. let p = before_of s.cell.turn y z in let r = p.1 in
      before-in t y p.0 (omega arith)) x.0 x.1 (before-in t x.0 x.2 (omega arith))
      (before-out s.cell.turn x.0 (omega arith))

  rank-all : (s : Slot) → Memᴰ s l → is_ready s ≡ true → rank l s.cell.turn < count_of is_first l
  unfolding rank is_before
  rank-all s m e = let x = first_of s m e in
      count-lt (is_before s.cell.turn) is_first l (λ y i z. and_left (is_first y) _ z) x.0 x.1 x.2
      (let q = x.3 in before-out s.cell.turn x.0 (omega arith))

  pub rank-rising : Rising (rank l) l
  rank-rising s x m i e f lt = rank_less s m e x.cell.turn lt

  -- A turn after the renumbering is a ready slot's rank.
  turn-from : (t : ℕ) (s : Slot) → of (ready_as t) (retime (rank l) s) ≡ true → (is_ready s ≡ true) × (rank l s.cell.turn ≡ t)
  turn-from t s = cases (is_ready s)
      (λ y. rw (retime-yes (rank l) s y) (λ e. (y, eqb-true _ _ (sym (of-mark-ready (rank l s.cell.turn) t s) ∙ e))))
      (λ y. rw (retime-no (rank l) s y) (λ e. neither (is_ready s) (ready_of t s e).0 y))

  ranked-from : (t : ℕ) → any (of (ready_as t)) (map (retime (rank l)) l) ≡ true → (s : Slot) × Memᴰ s l × (is_ready s ≡ true)
      × (rank l s.cell.turn ≡ t)
  ranked-from t y =
      let a = any-true (of (ready_as t)) (map (retime (rank l)) l) y in
      let b = Memᴰ.of_map (retime (rank l)) l a.1 in
      let c = turn-from t b.0 (ap (of (ready_as t)) b.2 ∙ a.2) in
      (b.0, b.1, c.0, c.1)

  ranked-source : (k : Key) → Source (retime (rank l)) l k
  ranked-source (open_as id) = from-same _ l v.core (open_as id) (retime-other (rank l) l (open_as id) (λ q. omega arith))
  ranked-source (held_as c o) = from-same _ l v.core (held_as c o) (retime-other (rank l) l (held_as c o) (λ q. omega arith))
  ranked-source (ready_as t) = cases (any (of (ready_as t)) (map (retime (rank l)) l))
      (λ y. let a = ranked-from t y in
      subst (Source (retime (rank l)) l) (ap ready_as a.3)
      (from (ready_as a.0.cell.turn) (retime-carried (rank l) l rank-rising a.0 a.1 a.2)
      (v.core.full (ready_as a.0.cell.turn))))
      (λ y. gone y)

  pub begin-sound : Sound next (renumber l) (count_of is_first l)
  unfolding renumber map_if retime
  begin-sound = record {
    core = core-map (retime (rank l)) l v.core bounded ranked-source;
    lack = λ id. lack-map (retime (rank l)) l id (v.lack id) (retime-other (rank l) l (open_as id) (λ q. omega arith));
    ahead = λ c o y. v.ahead c o (sym (carried-any (retime-other (rank l) l (held_as c o) (λ q. omega arith))) ∙ y);
    below = λ t y. let a = ranked-from t y in let q = a.3 in let p = rank-all a.0 a.1 a.2 in omega arith;
    nexts = v.nexts;
  }
    where
      bounded : (s : Slot) → Memᴰ s l → is_free (retime (rank l) s) ≡ false → Bounds (retime (rank l) s)
      bounded s m = cases (is_ready s)
          (λ y. rw (retime-yes (rank l) s y) (λ e. bounds-mark 3 (rank l s.cell.turn) s (omega arith)
          (v.core.bounds s m (key-used (ready_as s.cell.turn) s (ready-key s y)))))
          (λ y. rw (retime-no (rank l) s y) (λ e. v.core.bounds s m e))

-- A datagram leaves sound cells.
pub datagram-rest : (s : State) (fs : List Frame) → ((f : Frame) → Memᴰ f fs → Readable f) → Rest s.next s.slots
    → Rest (end (datagram s fs)).next (end (datagram s fs)).slots
unfolding datagram begin grow place
datagram-rest s fs ok v = end_rest (datagram s fs) (frames-sound fs (grow (begin s)) ok
    (grown-sound (renumber s.slots) (begin-sound s.next s.slots v)))
