-- What a change of a message's use does to every key.
-- Assumes nothing.
use Prim.Native.Nat.{ℕ, ◌≤◌}
use mathlib.Core.Path.{◌≡◌, refl, sym, ◌∙◌}
use mathlib.Core.Bool.{Bool, true, false, ◌&&◌}
use mathlib.Core.List.{List, Memᴰ}
use native.Mathlib.Omega.{arith}
use lib.Dec.{eqb}
use borrow.Author.Tests.{eqb-true, eqb-false, eq-eqb, ne_eqb}
use Rattle.base.specs.Lists.{any, count_of}
use Rattle.base.proofs.Choices.{cases, and_left, and_right, and_both, neither}
use Rattle.base.proofs.Lists.{any-all, any-map}
use Rattle.base.proofs.Counts.{count-le-map, count_none}
use Rattle.cells.specs.Cell.{Slot, Key, open_as, held_as, ready_as, bears, of, sits, is_free, mark_cell, mark, change, map_if, turn_to}
use Rattle.cells.specs.Cell.{put_slot}
use Rattle.cells.proofs.Keys.{use_of, of-used, of_other, no-key-of-4, sits-not, carried-count, carried_other, carried-moved}
use Rattle.cells.proofs.Keys.{put_count}
use Rattle.cells.proofs.Ready.{SameUnder, same-carried, Unique}

pub of-apart : (k k' : Key) (s : Slot) → (use_of k ≡ use_of k' → ⊥) → of k s ≡ true → of k' s ≡ false
of-apart k k' s ne e = of_other k' s (λ u. ne (sym (of-used k s e) ∙ u))

pub of-mark : (k : Key) (u t : ℕ) (s : Slot) → (u ≡ use_of k → ⊥) → of k (mark u t s) ≡ false
unfolding mark mark_cell
of-mark k u t s ne = of_other k (mark u t s) ne

pub of-mark-ready : (T t : ℕ) (s : Slot) → of (ready_as t) (mark 3 T s) ≡ eqb T t
unfolding of bears mark mark_cell
of-mark-ready T t s = refl

pub of-mark-held : (c k t : ℕ) (s : Slot) → of (held_as c k) (mark 2 t s) ≡ (eqb s.cell.channel c && eqb s.cell.order k)
unfolding of bears mark mark_cell
of-mark-held c k t s = refl

pub of-held : (c k : ℕ) (s : Slot) → of (held_as c k) s ≡ true → (s.cell.channel ≡ c) × (s.cell.order ≡ k)
unfolding of bears
of-held c k s e = let r = and_right (eqb s.cell.used 2) _ e in
    (eqb-true _ _ (and_left (eqb s.cell.channel c) _ r), eqb-true _ _ (and_right (eqb s.cell.channel c) _ r))

-- A key that no changed slot bears afterwards: its cells are no more than before.
count_left : (q : Slot → Bool) (g : Slot → Slot) (l : List Slot) (k : Key) (i : ℕ)
    → ((s : Slot) → Memᴰ s l → q s ≡ true → of k (g s) ≡ false) → count_of (sits k i) (map_if q g l) ≤ count_of (sits k i) l
unfolding map_if change
count_left q g l k i e = count-le-map (sits k i) (sits k i) (change q g) l (λ s m. cases (q s)
    (λ t. rw t (λ y. neither (sits k i (g s)) y (sits-not k i (g s) (e s m t))))
    (λ t. rw t (λ y. y)))

pub unique-left : (q : Slot → Bool) (g : Slot → Slot) (l : List Slot) → ((k : Key) (s : Slot) → Memᴰ s l → q s ≡ true → of k (g s)
    ≡ false) → Unique l → Unique (map_if q g l)
unique-left q g l e u k i = let a = count_left q g l k i (e k) in let b = u k i in omega arith

module _ (k₀ : Key) (u t : ℕ) (l : List Slot) where
  turn-other : (k : Key) → ((s : Slot) → Memᴰ s l → of k₀ s ≡ true → (of k s ≡ false) × (of k (mark u t s) ≡ false))
      → SameUnder k l k (turn_to k₀ u t l)
  unfolding turn_to map_if
  turn-other k e = same-carried (carried_other k (of k₀) (mark u t) l e)

  turn_moved : (k : Key) → ((s : Slot) → Memᴰ s l → of k₀ s ≡ true → of k (mark u t s) ≡ true) → any (of k) l ≡ false
      → SameUnder k₀ l k (turn_to k₀ u t l)
  unfolding turn_to map_if
  turn_moved k e f = same-carried (carried-moved k₀ k u t l e f)

  turn-moved-count : (k : Key) (i : ℕ) → ((s : Slot) → Memᴰ s l → of k₀ s ≡ true → of k (mark u t s) ≡ true) → any (of k) l ≡ false
      → count_of (sits k i) (turn_to k₀ u t l) ≡ count_of (sits k₀ i) l
  unfolding turn_to map_if
  turn-moved-count k i e f = carried-count (carried-moved k₀ k u t l e f) i

  turn-left : (k : Key) (i : ℕ) → ((s : Slot) → Memᴰ s l → of k₀ s ≡ true → of k (mark u t s) ≡ false)
      → count_of (sits k i) (turn_to k₀ u t l) ≤ count_of (sits k i) l
  unfolding turn_to
  turn-left k i e = count_left (of k₀) (mark u t) l k i e

  turn-gone : ((s : Slot) → of k₀ (mark u t s) ≡ false) → any (of k₀) (turn_to k₀ u t l) ≡ false
  unfolding turn_to map_if change
  turn-gone e = any-map (of k₀) (λ s. false) (change (of k₀) (mark u t)) l (λ s m. cases (of k₀ s) (λ y. rw y (e s)) (λ y. rw y y))
      ∙ any-all (λ s. false) l (λ s m. refl)

-- An open or a held message becomes ready.
module _ (k₀ : Key) (T : ℕ) (l : List Slot) (not-ready : use_of k₀ ≡ 3 → ⊥) (fresh : any (of (ready_as T)) l ≡ false) where
  pub ready_moved : SameUnder k₀ l (ready_as T) (turn_to k₀ 3 T l)
  ready_moved = turn_moved k₀ 3 T l (ready_as T) (λ s m e. of-mark-ready T T s ∙ eq-eqb T T refl) fresh

  pub ready-others : (t : ℕ) → (t ≡ T → ⊥) → SameUnder (ready_as t) l (ready_as t) (turn_to k₀ 3 T l)
  ready-others t ne = turn-other k₀ 3 T l (ready_as t) (λ s m e. (
    of-apart k₀ (ready_as t) s not-ready e,
    of-mark-ready T t s
        ∙ ne_eqb T t (λ q. ne (sym q)),
  ))

  pub ready-unique : Unique l → Unique (turn_to k₀ 3 T l)
  ready-unique u (open_as id) i = let a = turn-left k₀ 3 T l (open_as id) i (λ s m e. of-mark (open_as id) 3 T s (λ q. omega arith)) in
      let b =
      u (open_as id) i in omega arith
  ready-unique u (held_as c o) i = let a = turn-left k₀ 3 T l (held_as c o) i (λ s m e. of-mark (held_as c o) 3 T s (λ q. omega arith)) in
      let b = u (held_as c o) i in omega arith
  ready-unique u (ready_as t) i = cases (eqb t T)
      (λ y. rw (eqb-true t T y, turn-moved-count k₀ 3 T l (ready_as T) i (λ s m e. of-mark-ready T T s ∙ eq-eqb T T refl) fresh) (u k₀ i))
      (λ y. let a = turn-left k₀ 3 T l (ready_as t) i (λ s m e. of-mark-ready T t s ∙ ne_eqb T t (λ q. eqb-false t T y (sym q))) in let b =
      u (ready_as t) i in omega arith)

  pub ready-gone : any (of k₀) (turn_to k₀ 3 T l) ≡ false
  ready-gone = turn-gone k₀ 3 T l (λ s. of-mark k₀ 3 T s (λ q. not-ready (sym q)))

  pub ready_held : (c o : ℕ) → ((s : Slot) → of k₀ s ≡ true → of (held_as c o) s ≡ false) → SameUnder (held_as c o) l (held_as c o)
      (turn_to k₀ 3 T l)
  ready_held c o h = turn-other k₀ 3 T l (held_as c o) (λ s m e. (h s e, of-mark (held_as c o) 3 T s (λ q. omega arith)))

-- An open message, all of one channel and order number, becomes held.
module _ (id c o : ℕ) (l : List Slot) (agree : (s : Slot) → Memᴰ s l → of (open_as id) s ≡ true → (s.cell.channel ≡ c)
    × (s.cell.order ≡ o)) (fresh : any (of (held_as c o)) l ≡ false) where
  becomes : (s : Slot) → Memᴰ s l → of (open_as id) s ≡ true → of (held_as c o) (mark 2 0 s) ≡ true
  becomes s m e = let r = agree s m e in of-mark-held c o 0 s ∙ and_both _ _ (eq-eqb _ _ r.0) (eq-eqb _ _ r.1)

  apart : (c' o' : ℕ) → (c' ≡ c → o' ≡ o → ⊥) → (s : Slot) → Memᴰ s l → of (open_as id) s ≡ true → of (held_as c' o') (mark 2 0 s)
      ≡ false
  apart c' o' ne s m e = cases (of (held_as c' o') (mark 2 0 s))
      (λ y. let r = agree s m e in
      let z = sym (of-mark-held c' o' 0 s) ∙ y in
      let a : s.cell.channel ≡ c' = eqb-true _ _ (and_left (eqb s.cell.channel c') _ z) in
      let b : s.cell.order ≡ o' = eqb-true _ _ (and_right (eqb s.cell.channel c') _ z) in
      absurd (ne (sym a ∙ r.0) (sym b ∙ r.1)))
      (λ y. y)

  pub held_moved : SameUnder (open_as id) l (held_as c o) (turn_to (open_as id) 2 0 l)
  held_moved = turn_moved (open_as id) 2 0 l (held_as c o) becomes fresh

  pub held-others : (c' o' : ℕ) → (c' ≡ c → o' ≡ o → ⊥) → SameUnder (held_as c' o') l (held_as c' o') (turn_to (open_as id) 2 0 l)
  held-others c' o' ne = turn-other (open_as id) 2 0 l (held_as c' o')
      (λ s m e. (of-apart (open_as id) (held_as c' o') s (λ q. omega arith) e, apart c' o' ne s m e))

  pub held-ready : (t : ℕ) → SameUnder (ready_as t) l (ready_as t) (turn_to (open_as id) 2 0 l)
  held-ready t = turn-other (open_as id) 2 0 l (ready_as t) (λ s m e. (
    of-apart (open_as id) (ready_as t) s (λ q. omega arith) e,
    of-mark (ready_as t) 2 0 s (λ q. omega arith),
  ))

  pub held-unique : Unique l → Unique (turn_to (open_as id) 2 0 l)
  held-unique u (open_as j) i = let a =
      turn-left (open_as id) 2 0 l (open_as j) i (λ s m e. of-mark (open_as j) 2 0 s (λ q. omega arith)) in
      let b = u (open_as j) i in omega arith
  held-unique u (ready_as t) i = let a =
      turn-left (open_as id) 2 0 l (ready_as t) i (λ s m e. of-mark (ready_as t) 2 0 s (λ q. omega arith)) in
      let b = u (ready_as t) i in omega arith
  held-unique u (held_as c' o') i = cases (eqb c' c && eqb o' o)
      (λ y. rw (
        eqb-true c' c (and_left (eqb c' c) _ y),
        eqb-true o' o (and_right (eqb c' c) _ y),
        turn-moved-count (open_as id) 2 0 l
            (held_as c o) i becomes fresh,
      ) (u (open_as id) i))
      (λ y. let a = turn-left (open_as id) 2 0 l (held_as c' o') i
      (apart c' o' (λ p q. neither (eqb c' c && eqb o' o) (and_both _ _ (eq-eqb c' c p) (eq-eqb o' o q)) y)) in let b =
      u (held_as c' o') i in omega arith)

-- A joined message is dropped.
module _ (k₀ : Key) (l : List Slot) where
  pub drop-other : (k : Key) → (use_of k₀ ≡ use_of k → ⊥) → SameUnder k l k (turn_to k₀ 4 0 l)
  drop-other k ne = turn-other k₀ 4 0 l k (λ s m e. (of-apart k₀ k s ne e, of-mark k 4 0 s (no-key-of-4 k)))

  pub drop-unique : Unique l → Unique (turn_to k₀ 4 0 l)
  drop-unique u k i = let a = turn-left k₀ 4 0 l k i (λ s m e. of-mark k 4 0 s (no-key-of-4 k)) in let b = u k i in omega arith

-- A new slot.
pub put-unique : (x : Slot) (l : List Slot) → any is_free l ≡ true → ((k : Key) (i : ℕ) → sits k i x ≡ true → any (sits k i) l ≡ false)
    → Unique l → Unique (put_slot x l)
put-unique x l room h u k i = rw (put_count x l room k i) (cases (sits k i x)
    (λ y. let z = count_none (sits k i) l (h k i y) in rw y (omega arith))
    (λ y. let b = u k i in rw y (omega arith)))
