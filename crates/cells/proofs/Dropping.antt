-- What a drop does to the slots (request 4): a message loses all its cells or none; takes hand out the same; the cells that it frees, and
-- how many.
-- Assumes nothing.
use Prim.Native.Nat.{ℕ, zero, suc, ◌+◌, ◌≤◌, ◌<◌}
use mathlib.Core.Path.{◌≡◌, refl, sym, ◌∙◌, ap}
use mathlib.Core.Logic.{inl, inr}
use mathlib.Core.Bool.{Bool, true, false, cond, not, ◌&&◌, ◌||◌, and-false, or-true, or-false}
use mathlib.Core.List.{List, [], ◌∷◌, map, Memᴰ}
use native.Mathlib.Omega.{arith}
use lib.ListN.{length, length-map, get_or, get_or-map}
use lib.Dec.{eqb}
use borrow.Author.Tests.{ltb-true, lt-ltb, eqb-true, eq-eqb, not-true}
use Rattle.base.specs.Limits.{max_age}
use Rattle.base.specs.Lists.{any, count_of}
use Rattle.base.proofs.Choices.{cases, case_option, and_left, and_right, and_both, neither}
use Rattle.base.proofs.Lists.{any-true, any_false, any-all, any-map, map-map}
use Rattle.base.proofs.Counts.{count_map, count-split, count_none}
use Rattle.bare.specs.Frame.{carries_reliable}
use Rattle.cells.specs.Cell.{Cell, Slot, Key, open_as, held_as, ready_as, of, is_free, is_open, is_ready, join, message_at, empty_cell}
use Rattle.cells.specs.Cell.{empty_slot, change, map_if, freed}
use Rattle.cells.specs.Ages.{is_stale, dropped}
use Rattle.cells.specs.Take.{earliest, taking, drain_in, drain}
use Rattle.cells.proofs.Keys.{use_of, of_other, used-free, empty_of, empty-free, carried-join, carried_other}
use Rattle.cells.proofs.Pieces.{open_of, AllOrNone}
use Rattle.cells.proofs.Ready.{SameUnder, same-carried}
use Rattle.cells.proofs.TurnOrder.{empty-ready}
use Rattle.cells.proofs.SoundCore.{Core}
use Rattle.cells.proofs.AgedAs.{AgedAs}

-- Only open slots are stale, of kinds without a reliable number, and of ages above n.
pub stale-is : (n : ℕ) (c : Cell) → is_stale n c ≡ true → (c.used ≡ 1) × (carries_reliable c.kind ≡ false) × (n < c.age)
unfolding is_stale
stale-is n c e =
    let r = and_right (eqb c.used 1) _ e in (
      eqb-true c.used 1 (and_left (eqb c.used 1) _ e),
      not-true (carries_reliable c.kind) (and_left (not (carries_reliable c.kind)) _ r),
      ltb-true n c.age (and_right (not (carries_reliable c.kind)) _ r),
    )

pub is-stale : (n : ℕ) (c : Cell) → c.used ≡ 1 → carries_reliable c.kind ≡ false → n < c.age → is_stale n c ≡ true
unfolding is_stale
is-stale n c u k lt = and_both _ _ (eq-eqb c.used 1 u) (rw k (lt-ltb n c.age lt))

-- So a drop leaves held and ready slots as they are, those of kinds that carry a reliable number, and ages up to n.
pub closed-stays : (n : ℕ) (c : Cell) → (c.used ≡ 1 → ⊥) → is_stale n c ≡ false
closed-stays n c ne = cases (is_stale n c) (λ y. absurd (ne (stale-is n c y).0)) (λ y. y)

pub reliable-stays : (n : ℕ) (c : Cell) → carries_reliable c.kind ≡ true → is_stale n c ≡ false
reliable-stays n c e = cases (is_stale n c) (λ y. neither (carries_reliable c.kind) e (stale-is n c y).1) (λ y. y)

pub younger-stays : (n : ℕ) (c : Cell) → c.age ≤ n → is_stale n c ≡ false
younger-stays n c le = cases (is_stale n c) (λ y. let lt = (stale-is n c y).2 in absurd (omega arith)) (λ y. y)

stale-empty : (n : ℕ) → is_stale n empty_slot.cell ≡ false
unfolding is_stale empty_slot empty_cell
stale-empty n = refl

-- Each place is emptied, or left as it is; past the end stands an unused slot.
pub dropped-at : (n : ℕ) (l : List Slot) (i : ℕ) → get_or (dropped n l) i empty_slot
    ≡ cond (is_stale n (get_or l i empty_slot).cell) empty_slot (get_or l i empty_slot)
unfolding dropped map_if change
dropped-at n l i = ap (λ (d : Slot). get_or (map go l) i d) (sym unused) ∙ get_or-map go l i empty_slot
  where
    go : Slot → Slot
    go s = cond (is_stale n s.cell) empty_slot s

    unused : cond (is_stale n empty_slot.cell) empty_slot empty_slot ≡ empty_slot
    unused = rw (stale-empty n)

pub stale-open : (n : ℕ) (s : Slot) → is_stale n s.cell ≡ true → is_open s ≡ true
unfolding is_open
stale-open n s e = eq-eqb s.cell.used 1 (stale-is n s.cell e).0

stale-other : (n : ℕ) (k : Key) (s : Slot) → (use_of k ≡ 1 → ⊥) → is_stale n s.cell ≡ true → of k s ≡ false
stale-other n k s ne e = of_other k s (λ q. ne (sym q ∙ (stale-is n s.cell e).0))

module _ {F : ℕ → ℕ} (n : ℕ) (l : List Slot) (v : Core l) (a : AgedAs F l) where
  -- The open slots of an id are stale, all or none.
  stale-alike : (id : ℕ) (s s' : Slot) → Memᴰ s l → Memᴰ s' l → of (open_as id) s ≡ true → of (open_as id) s' ≡ true
      → is_stale n s.cell ≡ true → is_stale n s'.cell ≡ true
  unfolding is_stale is_open
  stale-alike id s s' m m' y y' e =
      let o = open_of id s y in
      let o' = open_of id s' y' in
      let k = (v.alike (open_as id) s s' m m' y y').kind in
      let g : s.cell.age ≡ s'.cell.age = a.is s m o.0 ∙ (ap F (o.1 ∙ sym o'.1) ∙ sym (a.is s' m' o'.0)) in
      and_both _ _ o'.0 (rw (← k, ← g) (and_right (eqb s.cell.used 1) _ e))

  -- So a message loses all its cells, or none.
  pub dropped-whole : (k : Key) → AllOrNone (λ s. is_stale n s.cell) l k
  dropped-whole (held_as c o) = inl (λ s m e. stale-other n (held_as c o) s (λ q. omega arith) e)
  dropped-whole (ready_as t) = inl (λ s m e. stale-other n (ready_as t) s (λ q. omega arith) e)
  dropped-whole (open_as id) = cases (any (λ s. of (open_as id) s && is_stale n s.cell) l)
      (λ t. let b = any-true (λ s. of (open_as id) s && is_stale n s.cell) l t in
      inr (λ s m y. stale-alike id b.0 s b.1 m (and_left (of (open_as id) b.0) _ b.2) y (and_right (of (open_as id) b.0) _ b.2)))
      (λ t. inl (λ s m e. cases (of (open_as id) s)
      (λ y. neither (of (open_as id) s && is_stale n s.cell) (and_both _ _ y e) (any_false _ l t s m)) (λ y. y)))

-- A message of which no cell is stale is left as it is: so are all held and ready ones.
pub dropped-same : (n : ℕ) (l : List Slot) (k : Key) → ((s : Slot) → Memᴰ s l → is_stale n s.cell ≡ true → of k s ≡ false)
    → SameUnder k l k (dropped n l)
unfolding dropped map_if
dropped-same n l k e = same-carried (carried_other k (λ s. is_stale n s.cell) (λ s. empty_slot) l (λ s m y. (e s m y, empty_of k)))

pub dropped-closed : (n : ℕ) (l : List Slot) (k : Key) → (use_of k ≡ 1 → ⊥) → SameUnder k l k (dropped n l)
dropped-closed n l k ne = dropped-same n l k (λ s m e. stale-other n k s ne e)

pub dropped-join : (n : ℕ) (l : List Slot) (k : Key) → (use_of k ≡ 1 → ⊥) → (m : ℕ) → join k (dropped n l) m ≡ join k l m
unfolding dropped map_if
dropped-join n l k ne = carried-join (carried_other k (λ s. is_stale n s.cell) (λ s. empty_slot) l
    (λ s m y. (stale-other n k s ne y, empty_of k)))

-- One all of whose cells are is gone.
pub dropped-gone : (n : ℕ) (l : List Slot) (k : Key) → ((s : Slot) → Memᴰ s l → of k s ≡ true → is_stale n s.cell ≡ true)
    → any (of k) (dropped n l) ≡ false
unfolding dropped map_if change
dropped-gone n l k e = any-map (of k) (λ s. false) (change (λ s. is_stale n s.cell) (λ s. empty_slot)) l
    (λ s m. cases (is_stale n s.cell) (λ y. rw y (empty_of k))
    (λ y. rw y (cases (of k s) (λ z. neither (is_stale n s.cell) (e s m z) y) (λ z. z))))
    ∙ any-all (λ s. false) l (λ s m. refl)

-- So takes hand out the same after a drop.
dropped-earliest : (n : ℕ) (l : List Slot) → earliest (dropped n l) ≡ earliest l
unfolding dropped map_if change earliest is_ready
dropped-earliest n [] = refl
dropped-earliest n (s ∷ l) = cases (is_stale n s.cell)
    (λ y. rw (y, empty-ready, (stale-is n s.cell y).0) (dropped-earliest n l))
    (λ y. rw (y, dropped-earliest n l))

freed-one : (n : ℕ) (k : Key) (s : Slot) → (use_of k ≡ 1 → ⊥) → change (of k) (λ s. empty_slot) (change (λ s. is_stale n s.cell)
    (λ s. empty_slot) s) ≡ change (λ s. is_stale n s.cell) (λ s. empty_slot) (change (of k) (λ s. empty_slot) s)
unfolding change
freed-one n k s ne = cases (is_stale n s.cell)
    (λ y. rw (y, empty_of k, stale-other n k s ne y, y))
    (λ y. rw y (cases (of k s) (λ z. rw (z, stale-empty n)) (λ z. rw (z, y))))

dropped-freed : (n t : ℕ) (l : List Slot) → freed (ready_as t) (dropped n l) ≡ dropped n (freed (ready_as t) l)
unfolding freed dropped map_if
dropped-freed n t l = map-map _ _ _ _ l (λ s m. freed-one n (ready_as t) s (λ q. omega arith))

drains-same : (m n : ℕ) (l : List Slot) → drain_in m (dropped n l) ≡ drain_in m l
unfolding drain_in taking
drains-same zero n l = refl
drains-same (suc m) n l = rw (dropped-earliest n l) (case_option (earliest l)
    (λ e. rw e)
    (λ t e. rw (e, (dropped-closed n l (ready_as t) (λ q. omega arith)).message) (case_option (message_at (ready_as t) l)
    (λ z. rw z)
    (λ x z. rw (z, dropped-freed n t l, drains-same m n (freed (ready_as t) l))))))

length-dropped : (n : ℕ) (l : List Slot) → length (dropped n l) ≡ length l
unfolding dropped map_if
length-dropped n l = length-map l _

pub dropped-drain : (n : ℕ) (l : List Slot) → drain (dropped n l) ≡ drain l
unfolding drain
dropped-drain n l = rw (length-dropped n l) (drains-same (length l) n l)

-- What is stale past m is stale past each n below it; past the greatest n are only ages that have stopped.
pub stale-less : (n m : ℕ) (c : Cell) → n ≤ m → is_stale m c ≡ true → is_stale n c ≡ true
stale-less n m c le e = let p = stale-is m c e in let lt = p.2 in is-stale n c p.0 p.1 (omega arith)

pub stale-last : (n : ℕ) (c : Cell) → suc n ≡ max_age → c.age ≤ max_age → is_stale n c ≡ true → c.age ≡ max_age
stale-last n c e le s = let p = (stale-is n c s).2 in omega arith

-- A drop past a greater n frees no more cells.
pub dropped-fewer : (n m : ℕ) (l : List Slot) → n ≤ m → count_of (λ s. is_stale m s.cell) l ≤ count_of (λ s. is_stale n s.cell) l
dropped-fewer n m l le =
    let e = count-split (λ s. is_stale n s.cell) (λ s. is_stale m s.cell) (λ s. not (is_stale m s.cell) && is_stale n s.cell) l
    (λ s. cases (is_stale m s.cell) (λ y. rw (y, stale-less n m s.cell le y) (refl, refl)) (λ y. rw y (refl, refl))) in
    omega arith

-- The cells unused after a drop are those unused before it and those that it freed.
pub dropped-free : (n : ℕ) (l : List Slot) → count_of is_free (dropped n l)
    ≡ count_of is_free l + count_of (λ s. is_stale n s.cell) l
unfolding dropped map_if change
dropped-free n l = count_map is_free (λ s. is_free s || is_stale n s.cell) (change (λ s. is_stale n s.cell) (λ s. empty_slot)) l
    (λ s m. cases (is_stale n s.cell) (λ y. rw (y, empty-free, or-true)) (λ y. rw (y, or-false)))
    ∙ count-split (λ s. is_free s || is_stale n s.cell) is_free (λ s. is_stale n s.cell) l (λ s. (refl, apart s))
  where
    apart : (s : Slot) → (is_free s && is_stale n s.cell) ≡ false
    apart s = cases (is_stale n s.cell) (λ y. rw (y, used-free s 1 (stale-is n s.cell y).0 (λ q. omega arith)))
        (λ y. rw (y, and-false))

-- After a drop past n, one past n or more frees nothing and changes nothing.
none_left : (n m : ℕ) (s : Slot) → n ≤ m → is_stale m (change (λ s. is_stale n s.cell) (λ s. empty_slot) s).cell ≡ false
unfolding change is_stale empty_slot empty_cell
none_left n m s le = cases (is_stale n s.cell) (λ y. rw y refl)
    (λ y. rw y (cases (is_stale m s.cell) (λ z. neither (is_stale n s.cell) (stale-less n m s.cell le z) y) (λ z. z)))

pub dropped-none-stale : (n m : ℕ) (l : List Slot) → n ≤ m → count_of (λ s. is_stale m s.cell) (dropped n l) ≡ 0
unfolding dropped map_if
dropped-none-stale n m l le = count_map (λ s. is_stale m s.cell) (λ s. false) (change (λ s. is_stale n s.cell) (λ s. empty_slot)) l
    (λ s i. none_left n m s le) ∙ count_none (λ s. false) l (any-all (λ s. false) l (λ s i. refl))

-- a slot that fails
left-alone : (p : Slot → Bool) (g : Slot → Slot) (s : Slot) → p s ≡ false → change p g s ≡ s
unfolding change
left-alone p g s e = rw e

pub dropped-again : (n m : ℕ) (l : List Slot) → n ≤ m → dropped m (dropped n l) ≡ dropped n l
unfolding dropped map_if
dropped-again n m [] le = refl
dropped-again n m (s ∷ l) le =
    let x = change (λ s. is_stale n s.cell) (λ s. empty_slot) s in
    let a = left-alone (λ s. is_stale m s.cell) (λ s. empty_slot) x (none_left n m s le) in
    let b = dropped-again n m l le in
    cc (a, b)
