-- What soundness says of the slots alone, after a slot was put or slots were changed.
-- Assumes nothing.
use Prim.Native.Nat.{ℕ, zero, suc, ◌≤◌, ◌<◌}
use mathlib.Core.Path.{◌≡◌, refl, sym, ◌∙◌, ap, subst}
use mathlib.Core.Logic.{◌⊎◌, inl, inr}
use mathlib.Core.Bool.{true, false, ◌&&◌}
use mathlib.Core.List.Memᴰ
use mathlib.Core.List.{List, map, Memᴰ}
use native.Mathlib.Omega.{arith}
use lib.Dec.{eqb}
use borrow.Author.Tests.{eqb-true, eqb-false, eq-eqb}
use Rattle.base.specs.Limits.{numbers16, numbers24, max_ord_chans, max_frags, cell_bytes}
use Rattle.base.specs.Lists.{any, count_of, below}
use Rattle.base.proofs.Choices.{cases, and_left, and_right, and_both, neither}
use Rattle.base.proofs.Lists.{any_false, any-all, any-map}
use Rattle.base.proofs.Counts.{count_none}
use Rattle.cells.specs.Cell.{Slot, Key, open_as, held_as, ready_as, bears, of, sits, is_free, all_there, mark_cell, mark, change, map_if}
use Rattle.cells.specs.Cell.{turn_to, put_slot}
use Rattle.cells.proofs.PutSlot.{mem-put}
use Rattle.cells.proofs.Keys.{use_of, key-used, sits-of, sits-not, none-sits, shown, Carried, carried-count, carried-there}
use Rattle.cells.proofs.Keys.{carried_other, carried-moved, put-any-sits}
use Rattle.cells.proofs.Ready.{Unique}
use Rattle.cells.proofs.Moves.{of-apart, of-mark, of-held}

-- "values and body lengths obey the limits"; use 4 only while a datagram is worked on.
pub record Bounds (s : Slot) : Type 0 where
  pub used : s.cell.used ≤ 4
  pub kind : s.cell.kind ≤ 7
  pub channel : s.cell.channel < max_ord_chans
  pub sequence : s.cell.sequence < numbers24
  pub order : s.cell.order < numbers24
  pub some-count : 1 ≤ s.cell.count
  pub count : s.cell.count ≤ max_frags
  pub index : s.cell.index < s.cell.count
  pub length : s.cell.length ≤ cell_bytes
  pub id : s.cell.id < numbers16

-- Two cells of a message "agree as in step 3".
pub record Agreeing (s s' : Slot) : Type 0 where
  pub count : s.cell.count ≡ s'.cell.count
  pub kind : s.cell.kind ≡ s'.cell.kind
  pub sequence : s.cell.sequence ≡ s'.cell.sequence
  pub order : s.cell.order ≡ s'.cell.order
  pub channel : s.cell.channel ≡ s'.cell.channel

agreeing-refl : (s : Slot) → Agreeing s s
agreeing-refl s = record { count = refl; kind = refl; sequence = refl; order = refl; channel = refl }

agreeing-sym : {s s' : Slot} → Agreeing s s' → Agreeing s' s
agreeing-sym a = record {
  count = sym a.count;
  kind = sym a.kind;
  sequence = sym a.sequence;
  order = sym a.order;
  channel = sym a.channel;
}

-- What holds of sound slots at any time: limits, one cell an index, agreeing pieces, and held and ready messages lack no index.
pub record Core (l : List Slot) : Type 0 where
  pub bounds : (s : Slot) → Memᴰ s l → is_free s ≡ false → Bounds s
  pub unique : Unique l
  pub alike : (k : Key) (s s' : Slot) → Memᴰ s l → Memᴰ s' l → of k s ≡ true → of k s' ≡ true → Agreeing s s'
  pub full : (k : Key) → (use_of k ≡ 1 → ⊥) → (s : Slot) → Memᴰ s l → of k s ≡ true → all_there k l s.cell.count ≡ true

-- Where the cells of a key come from: none, or all cells of another.
pub data Source (h : Slot → Slot) (l : List Slot) (k' : Key) : Type 0 where
  gone : any (of k') (map h l) ≡ false → Source h l k'
  from : (k : Key) → Carried k k' h l → ((use_of k' ≡ 1 → ⊥) → (s : Slot) → Memᴰ s l → of k s ≡ true → all_there k l s.cell.count
      ≡ true) → Source h l k'

shown-agreeing : (x y s t : Slot) → shown x ≡ shown s → shown y ≡ shown t → Agreeing s t → Agreeing x y
unfolding shown mark mark_cell
shown-agreeing x y s t p q a = record {
  count = ap (λ (z : Slot). z.cell.count) p ∙ (a.count ∙ sym (ap (λ (z : Slot). z.cell.count) q));
  kind = ap (λ (z : Slot). z.cell.kind) p ∙ (a.kind ∙ sym (ap (λ (z : Slot). z.cell.kind) q));
  sequence = ap (λ (z : Slot). z.cell.sequence) p ∙ (a.sequence ∙ sym (ap (λ (z : Slot). z.cell.sequence) q));
  order = ap (λ (z : Slot). z.cell.order) p ∙ (a.order ∙ sym (ap (λ (z : Slot). z.cell.order) q));
  channel = ap (λ (z : Slot). z.cell.channel) p ∙ (a.channel ∙ sym (ap (λ (z : Slot). z.cell.channel) q));
}

shown-count : (x s : Slot) → shown x ≡ shown s → x.cell.count ≡ s.cell.count
unfolding shown mark mark_cell
shown-count x s p = ap (λ (z : Slot). z.cell.count) p

module _ (h : Slot → Slot) (l : List Slot) (v : Core l) (b : (s : Slot) → Memᴰ s l → is_free (h s) ≡ false → Bounds (h s))
    (src : (k : Key) → Source h l k) where
  map-unique : (k : Key) (i : ℕ) → Source h l k → count_of (sits k i) (map h l) ≤ 1
  map-unique k i (gone e) = rw (count_none (sits k i) (map h l) (none-sits k i (map h l) e)) (omega arith)
  map-unique k i (from k₀ c f) = rw (carried-count c i) (v.unique k₀ i)

  map-agreeing : (k : Key) → Source h l k → (s s' : Slot) → Memᴰ s (map h l) → Memᴰ s' (map h l) → of k s ≡ true → of k s' ≡ true
      → Agreeing s s'
  map-agreeing k (gone e) s s' m m' o o' = neither (of k s) o (any_false (of k) (map h l) e s m)
  map-agreeing k (from k₀ c f) s s' m m' o o' =
      let a = Memᴰ.of_map h l m in
      let a' = Memᴰ.of_map h l m' in
      let p = sym (c.moved a.0 a.1) ∙ (ap (of k) a.2 ∙ o) in
      let p' = sym (c.moved a'.0 a'.1) ∙ (ap (of k) a'.2 ∙ o') in
      shown-agreeing s s' a.0 a'.0 (ap shown (sym a.2) ∙ c.same a.0 a.1 p)
      (ap shown (sym a'.2) ∙ c.same a'.0 a'.1 p') (v.alike k₀ a.0 a'.0 a.1 a'.1 p p')

  map-full : (k : Key) → Source h l k → (use_of k ≡ 1 → ⊥) → (s : Slot) → Memᴰ s (map h l) → of k s ≡ true
      → all_there k (map h l) s.cell.count ≡ true
  map-full k (gone e) ne s m o = neither (of k s) o (any_false (of k) (map h l) e s m)
  map-full k (from k₀ c f) ne s m o =
      let a = Memᴰ.of_map h l m in
      let p = sym (c.moved a.0 a.1) ∙ (ap (of k) a.2 ∙ o) in
      let n = shown-count s a.0 (ap shown (sym a.2) ∙ c.same a.0 a.1 p) in
      carried-there c s.cell.count ∙ (ap (all_there k₀ l) n ∙ f ne a.0 a.1 p)

  pub core-map : Core (map h l)
  core-map = record {
    bounds = λ s m e. let a = Memᴰ.of_map h l m in subst Bounds a.2 (b a.0 a.1 (ap is_free a.2 ∙ e));
    unique = λ k i. map-unique k i (src k);
    alike = λ k. map-agreeing k (src k);
    full = λ k. map-full k (src k);
  }

-- A key that keeps its cells.
pub from-same : (h : Slot → Slot) (l : List Slot) → Core l → (k : Key) → Carried k k h l → Source h l k
from-same h l v k c = from k c (v.full k)

-- Every open message lacks an index.
abbrev pub Lack : List Slot → Type 0
Lack l = (id : ℕ) (s : Slot) → Memᴰ s l → of (open_as id) s ≡ true → all_there (open_as id) l s.cell.count ≡ false

pub lack-map : (h : Slot → Slot) (l : List Slot) (id : ℕ) → ((s : Slot) → Memᴰ s l → of (open_as id) s ≡ true → all_there (open_as id) l
    s.cell.count ≡ false) → Carried (open_as id) (open_as id) h l
    → (s : Slot) → Memᴰ s (map h l) → of (open_as id) s ≡ true → all_there (open_as id) (map h l) s.cell.count ≡ false
lack-map h l id v c s m o =
    let a = Memᴰ.of_map h l m in
    let p = sym (c.moved a.0 a.1) ∙ (ap (of (open_as id)) a.2 ∙ o) in
    let n = shown-count s a.0 (ap shown (sym a.2) ∙ c.same a.0 a.1 p) in
    carried-there c s.cell.count ∙ (ap (all_there (open_as id) l) n ∙ v a.0 a.1 p)

-- A new slot.
pub there-put : (x : Slot) (l : List Slot) → any is_free l ≡ true → (k : Key) → of k x ≡ false → (n : ℕ) → all_there k (put_slot x l) n
    ≡ all_there k l n
unfolding all_there below
there-put x l room k e zero = refl
there-put x l room k e (suc n) = rw (there-put x l room k e n, put-any-sits x l room k n, sits-not k n x e)

module _ (x : Slot) (l : List Slot) (room : any is_free l ≡ true) (v : Core l) (b : Bounds x) (u : Unique (put_slot x l))
    (a : (k : Key) → of k x ≡ true → (s : Slot) → Memᴰ s l → of k s ≡ true → Agreeing s x)
    (w : (k : Key) → of k x ≡ true → (use_of k ≡ 1 → ⊥) → (any (of k) l ≡ false) × (x.cell.index ≡ 0) × (x.cell.count ≡ 1)) where
  put_full : (k : Key) → (use_of k ≡ 1 → ⊥) → (s : Slot) → Memᴰ s (put_slot x l) → of k s ≡ true → all_there k (put_slot x l)
      s.cell.count ≡ true
  unfolding all_there below
  put_full k ne s m o = go (mem-put x l s m)
    where
      there : of k x ≡ true → (n : ℕ) → n ≡ 1 → all_there k (put_slot x l) n ≡ true
      there y n e = rw e (put-any-sits x l room k 0 ∙ rw (sits-of k 0 x, y, eq-eqb x.cell.index 0 (w k y ne).1))

      go : (s ≡ x) ⊎ Memᴰ s l → all_there k (put_slot x l) s.cell.count ≡ true
      go (inl q) = let y = ap (of k) (sym q) ∙ o in there y s.cell.count (ap (λ (z : Slot). z.cell.count) q ∙ (w k y ne).2)
      go (inr i) = cases (of k x)
          (λ y. neither (of k s) o (any_false (of k) l (w k y ne).0 s i))
          (λ y. there-put x l room k y s.cell.count ∙ v.full k ne s i o)

  pub core-put : Core (put_slot x l)
  core-put = record {
    bounds = λ s m e. bound s e (mem-put x l s m);
    unique = u;
    alike = λ k s s' m m' o o'. like k s s' o o' (mem-put x l s m) (mem-put x l s' m');
    full = put_full;
  }
    where
      bound : (s : Slot) → is_free s ≡ false → (s ≡ x) ⊎ Memᴰ s l → Bounds s
      bound s e (inl q) = subst Bounds (sym q) b
      bound s e (inr i) = v.bounds s i e

      like : (k : Key) (s s' : Slot) → of k s ≡ true → of k s' ≡ true → (s ≡ x) ⊎ Memᴰ s l → (s' ≡ x) ⊎ Memᴰ s' l → Agreeing s s'
      like k s s' o o' (inl q) (inl q') = subst (Agreeing s) (q ∙ sym q') (agreeing-refl s)
      like k s s' o o' (inl q) (inr i') = subst (λ (z : Slot). Agreeing z s') (sym q) (agreeing-sym (a k (ap (of k) (sym q) ∙ o) s' i' o'))
      like k s s' o o' (inr i) (inl q') = subst (Agreeing s) (sym q') (a k (ap (of k) (sym q') ∙ o') s i o)
      like k s s' o o' (inr i) (inr i') = v.alike k s s' i i' o o'

-- Two keys are one, or no cell bears both.
pub same-or-apart : (k k' : Key) → (k' ≡ k) ⊎ ((s : Slot) → of k s ≡ true → of k' s ≡ false)
unfolding of bears
same-or-apart (open_as a) (open_as b) = cases (eqb a b) (λ y. inl (ap open_as (sym (eqb-true a b y))))
    (λ y. inr (λ s e. cases (of (open_as b) s)
    (λ z. absurd (eqb-false a b y (sym (eqb-true s.cell.id a (and_right (eqb s.cell.used 1) _ e)) ∙ eqb-true s.cell.id b
    (and_right (eqb s.cell.used 1) _ z)))) (λ z. z)))
same-or-apart (open_as a) (held_as c o) = inr (λ s e. of-apart (open_as a) (held_as c o) s (λ q. omega arith) e)
same-or-apart (open_as a) (ready_as t) = inr (λ s e. of-apart (open_as a) (ready_as t) s (λ q. omega arith) e)
same-or-apart (held_as c o) (open_as b) = inr (λ s e. of-apart (held_as c o) (open_as b) s (λ q. omega arith) e)
same-or-apart (held_as c o) (held_as c' o') = cases (eqb c' c && eqb o' o)
    (λ y. inl (let p = eqb-true c' c (and_left (eqb c' c) _ y) in let q = eqb-true o' o (and_right (eqb c' c) _ y) in cc))
    (λ y. inr (λ s e. cases (of (held_as c' o') s)
    (λ z. let p = of-held c o s e in let q = of-held c' o' s z in
    neither (eqb c' c && eqb o' o) (and_both _ _ (eq-eqb c' c (sym q.0 ∙ p.0)) (eq-eqb o' o (sym q.1 ∙ p.1))) y)
    (λ z. z)))
same-or-apart (held_as c o) (ready_as t) = inr (λ s e. of-apart (held_as c o) (ready_as t) s (λ q. omega arith) e)
same-or-apart (ready_as t) (open_as b) = inr (λ s e. of-apart (ready_as t) (open_as b) s (λ q. omega arith) e)
same-or-apart (ready_as t) (held_as c o) = inr (λ s e. of-apart (ready_as t) (held_as c o) s (λ q. omega arith) e)
same-or-apart (ready_as t) (ready_as u) = cases (eqb t u) (λ y. inl (ap ready_as (sym (eqb-true t u y))))
    (λ y. inr (λ s e. cases (of (ready_as u) s)
    (λ z. absurd (eqb-false t u y (sym (eqb-true s.cell.turn t (and_right (eqb s.cell.used 3) _ e)) ∙ eqb-true s.cell.turn u
    (and_right (eqb s.cell.used 3) _ z)))) (λ z. z)))

pub bounds-mark : (u t : ℕ) (s : Slot) → u ≤ 4 → Bounds s → Bounds (mark u t s)
unfolding mark mark_cell
bounds-mark u t s le b = record {
  used = le;
  kind = b.kind;
  channel = b.channel;
  sequence = b.sequence;
  order = b.order;
  some-count = b.some-count;
  count = b.count;
  index = b.index;
  length = b.length;
  id = b.id;
}

-- Slots of a key that get another use do not become a key's cells; or they do, where it had none and they lack no index.
abbrev pub Target : Key → ℕ → ℕ → List Slot → Key → Type 0
Target k₀ u t l k = ((s : Slot) → Memᴰ s l → of k₀ s ≡ true → of k (mark u t s) ≡ false)
    ⊎ (((s : Slot) → Memᴰ s l → of k₀ s ≡ true → of k (mark u t s) ≡ true) × (any (of k) l ≡ false)
    × ((s : Slot) → Memᴰ s l → of k₀ s ≡ true → all_there k₀ l s.cell.count ≡ true))

-- All slots of a key get another use.
module _ (k₀ : Key) (u t : ℕ) (l : List Slot) (v : Core l) (away : (s : Slot) → of k₀ (mark u t s) ≡ false) (le : u ≤ 4) where
  turned-gone : any (of k₀) (map (change (of k₀) (mark u t)) l) ≡ false
  unfolding change
  turned-gone = any-map (of k₀) (λ s. false) (change (of k₀) (mark u t)) l (λ s m. cases (of k₀ s) (λ y. rw y (away s)) (λ y. rw y y))
      ∙ any-all (λ s. false) l (λ s m. refl)

  turned-source : (k : Key) → (k ≡ k₀) ⊎ ((s : Slot) → of k₀ s ≡ true → of k s ≡ false) → Target k₀ u t l k
      → Source (change (of k₀) (mark u t)) l k
  turned-source k (inl q) g = gone (rw q turned-gone)
  turned-source k (inr a) (inl g) = from-same _ l v k (carried_other k (of k₀) (mark u t) l (λ s m y. (a s y, g s m y)))
  turned-source k (inr a) (inr g) = from k₀ (carried-moved k₀ k u t l g.0 g.1) (λ ne. g.2)

  turned-bounds : (s : Slot) → Memᴰ s l → is_free (change (of k₀) (mark u t) s) ≡ false → Bounds (change (of k₀) (mark u t) s)
  unfolding change
  turned-bounds s m = cases (of k₀ s) (λ y. rw y (λ e. bounds-mark u t s le (v.bounds s m (key-used k₀ s y))))
      (λ y. rw y (λ e. v.bounds s m e))

  pub core-turn : ((k : Key) → Target k₀ u t l k) → Core (turn_to k₀ u t l)
  unfolding turn_to map_if
  core-turn g = core-map (change (of k₀) (mark u t)) l v turned-bounds (λ k. turned-source k (same-or-apart k₀ k) (g k))

  pub lack-turn : (u ≡ 1 → ⊥) → ((id : ℕ) (s : Slot) → Memᴰ s l → of (open_as id) s ≡ true → of k₀ s ≡ false → all_there (open_as id) l
      s.cell.count ≡ false) → Lack (turn_to k₀ u t l)
  unfolding turn_to map_if
  lack-turn ne w id s m o = go (same-or-apart k₀ (open_as id))
    where
      go : (open_as id ≡ k₀) ⊎ ((s : Slot) → of k₀ s ≡ true → of (open_as id) s ≡ false)
          → all_there (open_as id) (map (change (of k₀) (mark u t)) l) s.cell.count ≡ false
      go (inl q) = neither (of (open_as id) s) o (any_false (of (open_as id)) (map (change (of k₀) (mark u t)) l) (rw q turned-gone) s m)
      go (inr a) = lack-map (change (of k₀) (mark u t)) l id
          (λ x i y. w id x i y (cases (of k₀ x) (λ z. neither (of (open_as id) x) y (a x z)) (λ z. z)))
          (carried_other (open_as id) (of k₀) (mark u t) l (λ x i y. (a x y, of-mark (open_as id) u t x ne))) s m o
