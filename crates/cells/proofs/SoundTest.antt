-- The test `sound` says what the proofs of soundness say.
-- Assumes nothing.
use Prim.Native.Nat.{ℕ, ◌≤◌, ◌<◌}
use mathlib.Core.Path.{◌≡◌, refl, sym, ◌∙◌, ap, subst}
use mathlib.Core.Bool.{true, false, cond, not, ◌||◌}
use mathlib.Core.List.Memᴰ
use mathlib.Core.List.{List, Memᴰ}
use native.Mathlib.Omega.{arith}
use lib.Dec.{ltb, leb, eqb}
use borrow.Author.Tests.{ltb-true, lt-ltb, leb-true, le-leb, eqb-true, eqb-false, eq-eqb, ne_eqb, not-true}
use Rattle.base.specs.Limits.{numbers16, numbers24, max_ord_chans, max_frags, cell_bytes, max_age}
use Rattle.base.specs.Lists.{option, find, any, every, count_of}
use Rattle.base.proofs.Choices.{cases, case_option, and_left, and_right, and_both, or-implied, implied-or, neither}
use Rattle.base.proofs.Lists.{find-some, find_none, any-true, any-mem, every-mem, every-all, below_at, below_all}
use Rattle.base.proofs.Counts.{count_none, count-some}
use Rattle.cells.specs.Cell.{Cell, Slot, Key, open_as, held_as, ready_as, bears, at, of, sits, is_free, is_open, all_there}
use Rattle.cells.specs.Sound.{key_of, age_of, limits, agree, alike, lacks_none, sound_cell, sound}
use Rattle.cells.specs.Store.{cells_of}
use Rattle.cells.proofs.Keys.{use_of, of-used, key-used, sits-of, sits-is}
use Rattle.cells.proofs.Pieces.{open_of}
use Rattle.cells.proofs.Moves.{of-held}
use Rattle.cells.proofs.Cascade.{is_open-used}
use Rattle.cells.proofs.AgedAs.{AgedAs}
use Rattle.cells.proofs.SoundCore.{Bounds, Agreeing}
use Rattle.cells.proofs.SoundRest.{Rest}
use Rattle.cells.proofs.Records.{count-cells, there-cells}

count-sits : (k : Key) (i : ℕ) (l : List Slot) → count_of (at k i) (cells_of l) ≡ count_of (sits k i) l
unfolding sits
count-sits k i l = count-cells (at k i) l

mem-cells : (l : List Slot) (s : Slot) → Memᴰ s l → Memᴰ s.cell (cells_of l)
unfolding cells_of
mem-cells l s m = Memᴰ.map (λ (s : Slot). s.cell) m

-- The key of a used cell.
key-of : (k : Key) (s : Slot) → of k s ≡ true → key_of s.cell ≡ k
unfolding key_of of bears
key-of (open_as id) s e = rw (and_left (eqb s.cell.used 1) _ e) (ap open_as (eqb-true _ _ (and_right (eqb s.cell.used 1) _ e)))
key-of (held_as c o) s e = let u = of-used (held_as c o) s e in let p = of-held c o s e in
    rw (ne_eqb s.cell.used 1 (λ q. omega arith), eq-eqb s.cell.used 2 u) (cc (p.0, p.1))
key-of (ready_as t) s e = let u = of-used (ready_as t) s e in rw (
  ne_eqb s.cell.used 1 (λ q. omega arith),
  ne_eqb s.cell.used 2
      (λ q. omega arith),
) (ap ready_as (eqb-true _ _ (and_right (eqb s.cell.used 3) _ e)))

of-key : (s : Slot) → is_free s ≡ false → s.cell.used ≤ 3 → of (key_of s.cell) s ≡ true
unfolding key_of of bears is_free
of-key s e le = cases (eqb s.cell.used 1)
    (λ y. rw y (and_both _ _ y (eq-eqb s.cell.id _ refl)))
    (λ y. cases (eqb s.cell.used 2)
    (λ z. rw (y, z) (and_both _ _ z (and_both _ _ (eq-eqb s.cell.channel _ refl) (eq-eqb s.cell.order _ refl))))
    (λ z. rw (y, z) (let a : s.cell.used ≡ 1 → ⊥ = eqb-false _ _ y in let b : s.cell.used ≡ 2 → ⊥ = eqb-false _ _ z in
    let c : s.cell.used ≡ 0 → ⊥ = eqb-false _ _ e in
    and_both _ _ (eq-eqb s.cell.used 3 (omega arith)) (eq-eqb s.cell.turn _ refl))))

-- What the test says of a used cell.
record Used (cs : List Cell) (next : ℕ → ℕ) (c : Cell) : Type 0 where
  pub limit : limits c ≡ true
  pub once : count_of (at (key_of c) c.index) cs ≡ 1
  pub like : (d : Cell) → Memᴰ d cs → bears (key_of c) d ≡ true → alike c d ≡ true
  pub parts : cond (eqb c.used 1) (not (lacks_none (key_of c) cs c.count)) (lacks_none (key_of c) cs c.count) ≡ true
  pub over : eqb c.used 2 ≡ true → next c.channel < c.order

used-is : (cs : List Cell) (next : ℕ → ℕ) (c : Cell) → eqb c.used 0 ≡ false → sound_cell cs next c ≡ true → Used cs next c
unfolding sound_cell
used-is cs next c f s =
    let e = rw f at s in
    let e₁ = and_right (limits c) _ e in
    let e₂ = and_right (eqb (count_of (at (key_of c) c.index) cs) 1) _ e₁ in
    let e₃ = and_right (every (λ d. not (bears (key_of c) d) || alike c d) cs) _ e₂ in
    let e₄ = and_right (cond (eqb c.used 1) (not (lacks_none (key_of c) cs c.count)) (lacks_none (key_of c) cs c.count)) _ e₃ in
    record {
      limit = and_left (limits c) _ e;
      once = eqb-true _ _ (and_left (eqb (count_of (at (key_of c) c.index) cs) 1) _ e₁);
      like = λ d m y. or-implied (bears (key_of c) d) (alike c d) (every-mem (λ d. not (bears (key_of c) d) || alike c d) cs
          (and_left (every (λ d. not (bears (key_of c) d) || alike c d) cs) _ e₂) d m) y;
      parts = and_left (cond (eqb c.used 1) (not (lacks_none (key_of c) cs c.count)) (lacks_none (key_of c) cs c.count)) _ e₃;
      over = λ y. ltb-true _ _ (or-implied (eqb c.used 2) (ltb (next c.channel) c.order) e₄ y);
    }

is-used : (cs : List Cell) (next : ℕ → ℕ) (c : Cell) → eqb c.used 0 ≡ false → Used cs next c → sound_cell cs next c ≡ true
unfolding sound_cell
is-used cs next c f u = rw f (
    and_both _ _ u.limit (and_both _ _ (eq-eqb _ _ u.once)
    (and_both _ _ (every-all (λ d. not (bears (key_of c) d) || alike c d) cs
    (λ d m. implied-or (bears (key_of c) d) (alike c d) (u.like d m)))
    (and_both _ _ u.parts (implied-or (eqb c.used 2) (ltb (next c.channel) c.order) (λ y. lt-ltb _ _ (u.over y)))))))

limits-bounds : (s : Slot) → limits s.cell ≡ true → Bounds s × (s.cell.used ≤ 3) × (age_of s.cell ≤ max_age)
unfolding limits
limits-bounds s e₀ =
    let e₁ = and_right (leb s.cell.used 3) _ e₀ in
    let e₂ = and_right (leb s.cell.kind 7) _ e₁ in
    let e₃ = and_right (ltb s.cell.channel max_ord_chans) _ e₂ in
    let e₄ = and_right (ltb s.cell.sequence numbers24) _ e₃ in
    let e₅ = and_right (ltb s.cell.order numbers24) _ e₄ in
    let e₆ = and_right (leb 1 s.cell.count) _ e₅ in
    let e₇ = and_right (leb s.cell.count max_frags) _ e₆ in
    let e₈ = and_right (ltb s.cell.index s.cell.count) _ e₇ in
    let e₉ = and_right (leb s.cell.length cell_bytes) _ e₈ in
    let u = leb-true s.cell.used 3 (and_left (leb s.cell.used 3) _ e₀) in (
      record {
        used = omega arith;
        kind = leb-true _ _ (and_left (leb s.cell.kind 7) _ e₁);
        channel = ltb-true _ _ (and_left (ltb s.cell.channel max_ord_chans) _ e₂);
        sequence = ltb-true _ _ (and_left (ltb s.cell.sequence numbers24) _ e₃);
        order = ltb-true _ _ (and_left (ltb s.cell.order numbers24) _ e₄);
        some-count = leb-true _ _ (and_left (leb 1 s.cell.count) _ e₅);
        count = leb-true _ _ (and_left (leb s.cell.count max_frags) _ e₆);
        index = ltb-true _ _ (and_left (ltb s.cell.index s.cell.count) _ e₇);
        length = leb-true _ _ (and_left (leb s.cell.length cell_bytes) _ e₈);
        id = ltb-true _ _ (and_left (ltb s.cell.id numbers16) _ e₉);
      },
      u,
      leb-true _ _ (and_right (ltb s.cell.id numbers16) _ e₉),
    )

bounds-limits : (s : Slot) → Bounds s → s.cell.used ≤ 3 → age_of s.cell ≤ max_age → limits s.cell ≡ true
unfolding limits
bounds-limits s b u a = and_both _ _ (le-leb _ _ u) (and_both _ _ (le-leb _ _ b.kind)
    (and_both _ _ (lt-ltb _ _ b.channel) (and_both _ _ (lt-ltb _ _ b.sequence)
    (and_both _ _ (lt-ltb _ _ b.order) (and_both _ _ (le-leb _ _ b.some-count)
    (and_both _ _ (le-leb _ _ b.count) (and_both _ _ (lt-ltb _ _ b.index)
    (and_both _ _ (le-leb _ _ b.length) (and_both _ _ (lt-ltb _ _ b.id) (le-leb _ _ a))))))))))

agree-says : (s s' : Slot) → agree s.cell s'.cell ≡ true → Agreeing s s'
unfolding agree
agree-says s s' e₀ =
    let e₁ = and_right (eqb s.cell.count s'.cell.count) _ e₀ in
    let e₂ = and_right (eqb s.cell.kind s'.cell.kind) _ e₁ in
    let e₃ = and_right (eqb s.cell.sequence s'.cell.sequence) _ e₂ in
    record {
      count = eqb-true _ _ (and_left (eqb s.cell.count s'.cell.count) _ e₀);
      kind = eqb-true _ _ (and_left (eqb s.cell.kind s'.cell.kind) _ e₁);
      sequence = eqb-true _ _ (and_left (eqb s.cell.sequence s'.cell.sequence) _ e₂);
      order = eqb-true _ _ (and_left (eqb s.cell.order s'.cell.order) _ e₃);
      channel = eqb-true _ _ (and_right (eqb s.cell.order s'.cell.order) _ e₃);
    }

agree-holds : (s s' : Slot) → Agreeing s s' → agree s.cell s'.cell ≡ true
unfolding agree
agree-holds s s' a = and_both _ _ (eq-eqb _ _ a.count) (and_both _ _ (eq-eqb _ _ a.kind)
    (and_both _ _ (eq-eqb _ _ a.sequence) (and_both _ _ (eq-eqb _ _ a.order) (eq-eqb _ _ a.channel))))

-- A record's age, as soundness looks at it.
age-open : (s : Slot) → is_open s ≡ true → age_of s.cell ≡ s.cell.age
unfolding is_open age_of
age-open s y = rw y

age-closed : (s : Slot) → is_open s ≡ false → age_of s.cell ≡ 0
unfolding is_open age_of
age-closed s y = rw y

open-own : (s : Slot) → is_open s ≡ true → of (open_as s.cell.id) s ≡ true
unfolding is_open of bears
open-own s y = and_both _ _ y (eq-eqb s.cell.id _ refl)

-- The age of an id: that of its first open slot.
unfoldable pub first_age : List Slot → ℕ → ℕ
first_age l id = option (find (of (open_as id)) l) 0 (λ s. s.cell.age)

module _ (next : ℕ → ℕ) (l : List Slot) where
  module _ (e : sound (cells_of l) next ≡ true) where
    used : (s : Slot) → Memᴰ s l → is_free s ≡ false → Used (cells_of l) next s.cell
    unfolding sound is_free
    used s m f = used-is (cells_of l) next s.cell f (every-mem (sound_cell (cells_of l) next) (cells_of l)
        (and_left (every (sound_cell (cells_of l) next) (cells_of l)) _ e) s.cell (mem-cells l s m))

    of-bears : (k : Key) (s : Slot) → of k s ≡ bears k s.cell
    unfolding of
    of-bears k s = refl

    keyed : (k : Key) (s : Slot) → Memᴰ s l → of k s ≡ true → Used (cells_of l) next s.cell × (key_of s.cell ≡ k)
    keyed k s m y = (used s m (key-used k s y), key-of k s y)

    once_is : (k : Key) (i : ℕ) (s : Slot) → Used (cells_of l) next s.cell → key_of s.cell ≡ k → s.cell.index ≡ i
        → count_of (sits k i) l ≡ 1
    once_is k i s u p q = sym (count-sits k i l) ∙ rw (← p, ← q) u.once

    parts-full : (k : Key) (s : Slot) → Used (cells_of l) next s.cell → key_of s.cell ≡ k → eqb s.cell.used 1 ≡ false
        → all_there k l s.cell.count ≡ true
    parts-full k s u p y = sym (there-cells k l s.cell.count) ∙ rw (← p) (rw y at u.parts)

    parts-lack : (k : Key) (s : Slot) → Used (cells_of l) next s.cell → key_of s.cell ≡ k → eqb s.cell.used 1 ≡ true
        → all_there k l s.cell.count ≡ false
    parts-lack k s u p y = sym (there-cells k l s.cell.count) ∙ rw (← p) (not-true _ (rw y at u.parts))

    over-is : (c o : ℕ) (s : Slot) → Used (cells_of l) next s.cell → of (held_as c o) s ≡ true → next c < o
    over-is c o s u y = let p = of-held c o s y in rw (← p.0, ← p.1) (u.over (eq-eqb s.cell.used 2 (of-used (held_as c o) s y)))

    free-least : (s : Slot) → is_free s ≡ true → s.cell.used ≤ 3
    unfolding is_free
    free-least s y = let p = eqb-true s.cell.used 0 y in omega arith

    -- What the test `sound` passes is sound.
    pub sound-rest : Rest next l
    unfolding sound alike
    sound-rest = record {
      core = record {
        bounds = λ s m f. (limits-bounds s (used s m f).limit).0;
        unique = ones;
        alike = λ k s s' m m' y y'. let u = keyed k s m y in
            agree-says s s' (and_left (agree s.cell s'.cell) _
            (u.0.like s'.cell (mem-cells l s' m') (rw u.1 (sym (of-bears k s') ∙ y'))));
        full = λ k ne s m y. let u = keyed k s m y in parts-full k s u.0 u.1
            (ne_eqb s.cell.used 1 (λ q. ne (sym (of-used k s y) ∙ q)));
      };
      uses = λ s m. cases (is_free s) (λ y. free-least s y) (λ y. (limits-bounds s (used s m y).limit).1);
      lack = λ id s m y. let u = keyed (open_as id) s m y in parts-lack (open_as id) s u.0 u.1
          (eq-eqb s.cell.used 1 (of-used (open_as id) s y));
      ahead = λ c o y.
          let a = any-true (of (held_as c o)) l y in
          over-is c o a.0 (keyed (held_as c o) a.0 a.1 a.2).0 a.2;
      nexts = λ c le. leb-true (next c) numbers24 (below_at max_ord_chans (λ d. leb (next d) numbers24)
          (and_right (every (sound_cell (cells_of l) next) (cells_of l)) _ e) c (omega arith));
    }
      where
        ones : (k : Key) (i : ℕ) → count_of (sits k i) l ≤ 1
        ones k i = cases (any (sits k i) l)
            (λ y. let a = any-true (sits k i) l y in
            let p = sits-is k i a.0 a.2 in
            let u = keyed k a.0 a.1 p.0 in
            let q = once_is k i a.0 u.0 u.1 p.1 in
            omega arith)
            (λ y. rw (count_none (sits k i) l y) (omega arith))

    -- The open slots of an id have the age of the first.
    pub sound-aged : AgedAs (first_age l) l
    unfolding first_age alike
    sound-aged = record {
      is = one;
      small = λ id. case_option (find (of (open_as id)) l)
          (λ y. rw y (omega arith))
          (λ x y. let i = find-some (of (open_as id)) l y in rw (y, ← age-open x (open_of id x i.1).0)
          (limits-bounds x (used x i.0 (key-used (open_as id) x i.1)).limit).2);
    }
      where
        one : (s : Slot) → Memᴰ s l → is_open s ≡ true → s.cell.age ≡ first_age l s.cell.id
        one s m o = case_option (find (of (open_as s.cell.id)) l)
            (λ y. neither (of (open_as s.cell.id) s) (open-own s o) (find_none (of (open_as s.cell.id)) l y s m))
            (λ x y. let i = find-some (of (open_as s.cell.id)) l y in
            let u = keyed (open_as s.cell.id) s m (open-own s o) in
            let a = u.0.like x.cell (mem-cells l x i.0) (rw u.1 (sym (of-bears (open_as s.cell.id) x) ∙ i.1)) in
            rw y (sym (age-open s o) ∙ (eqb-true _ _ (and_right (agree s.cell x.cell) _ a) ∙ age-open x (open_of s.cell.id x i.1).0)))

  module _ (v : Rest next l) {F : ℕ → ℕ} (w : AgedAs F l) where
    age-small : (s : Slot) → Memᴰ s l → age_of s.cell ≤ max_age
    age-small s m = cases (is_open s)
        (λ y. rw (age-open s y, w.is s m y) (w.small s.cell.id))
        (λ y. rw (age-closed s y) (omega arith))

    one-age : (k : Key) (s s' : Slot) → Memᴰ s l → Memᴰ s' l → of k s ≡ true → of k s' ≡ true → age_of s.cell ≡ age_of s'.cell
    one-age k s s' m m' y y' = go k y y'
      where
        closed : (k : Key) (x : Slot) → of k x ≡ true → (use_of k ≡ 1 → ⊥) → age_of x.cell ≡ 0
        closed k x z ne = age-closed x (is_open-used x (use_of k) (of-used k x z) ne)

        aged : (id : ℕ) (x : Slot) → Memᴰ x l → of (open_as id) x ≡ true → age_of x.cell ≡ F id
        aged id x i z = let o = open_of id x z in age-open x o.0 ∙ (w.is x i o.0 ∙ ap F o.1)

        go : (k : Key) → of k s ≡ true → of k s' ≡ true → age_of s.cell ≡ age_of s'.cell
        go (open_as id) y y' = aged id s m y ∙ sym (aged id s' m' y')
        go (held_as c o) y y' = closed (held_as c o) s y (λ q. omega arith) ∙ sym (closed (held_as c o) s' y' (λ q. omega arith))
        go (ready_as t) y y' = closed (ready_as t) s y (λ q. omega arith) ∙ sym (closed (ready_as t) s' y' (λ q. omega arith))

    alone : (k : Key) (s : Slot) → Memᴰ s l → of k s ≡ true → count_of (at k s.cell.index) (cells_of l) ≡ 1
    alone k s m y =
        let a = v.core.unique k s.cell.index in
        let b = count-some (sits k s.cell.index) l (any-mem (sits k s.cell.index) l s m
        (sits-of k s.cell.index s ∙ and_both _ _ y (eq-eqb s.cell.index _ refl))) in
        let c = count-sits k s.cell.index l in
        omega arith

    likes : (k : Key) (s : Slot) → Memᴰ s l → of k s ≡ true → (d : Cell) → Memᴰ d (cells_of l) → bears k d ≡ true
        → alike s.cell d ≡ true
    unfolding cells_of of alike
    likes k s m y d i z =
        let a = Memᴰ.of_map (λ (s : Slot). s.cell) l i in
        let y' = ap (bears k) a.2 ∙ z in
        subst (λ (d : Cell). alike s.cell d ≡ true) a.2 (and_both _ _ (agree-holds s a.0 (v.core.alike k s a.0 m a.1 y y'))
        (eq-eqb _ _ (one-age k s a.0 m a.1 y y')))

    open-key : (s : Slot) → eqb s.cell.used 1 ≡ true → key_of s.cell ≡ open_as s.cell.id
    unfolding key_of
    open-key s y = rw y

    part : (s : Slot) → Memᴰ s l → of (key_of s.cell) s ≡ true → cond (eqb s.cell.used 1)
        (not (lacks_none (key_of s.cell) (cells_of l) s.cell.count)) (lacks_none (key_of s.cell) (cells_of l) s.cell.count) ≡ true
    part s m k = cases (eqb s.cell.used 1)
        (λ y. rw (y, there-cells (key_of s.cell) l s.cell.count, open-key s y, v.lack s.cell.id s m (rw (open-key s y) at k)))
        (λ y. rw (y, there-cells (key_of s.cell) l s.cell.count)
        (v.core.full (key_of s.cell) (λ q. eqb-false s.cell.used 1 y (of-used (key_of s.cell) s k ∙ q)) s m k))

    held-key : (s : Slot) → eqb s.cell.used 2 ≡ true → of (held_as s.cell.channel s.cell.order) s ≡ true
    unfolding of bears
    held-key s y = and_both _ _ y (and_both _ _ (eq-eqb s.cell.channel _ refl) (eq-eqb s.cell.order _ refl))

    rest-used : (s : Slot) → Memᴰ s l → is_free s ≡ false → Used (cells_of l) next s.cell
    rest-used s m f = let k = of-key s f (v.uses s m) in record {
      limit = bounds-limits s (v.core.bounds s m f) (v.uses s m) (age-small s m);
      once = alone (key_of s.cell) s m k;
      like = likes (key_of s.cell) s m k;
      parts = part s m k;
      over = λ y. v.ahead s.cell.channel s.cell.order (any-mem (of (held_as s.cell.channel s.cell.order)) l s m
          (held-key s y));
    }

    sound-slot : (s : Slot) → Memᴰ s l → sound_cell (cells_of l) next s.cell ≡ true
    unfolding sound_cell is_free
    sound-slot s m = cases (is_free s)
        (λ y. rw y)
        (λ y. is-used (cells_of l) next s.cell y (rest-used s m y))

    -- What is sound passes the test.
    pub rest-sound : sound (cells_of l) next ≡ true
    unfolding sound cells_of
    rest-sound = and_both _ _ (every-all (sound_cell (cells_of l) next) (cells_of l)
        (λ c m. one c (Memᴰ.of_map (λ (s : Slot). s.cell) l m)))
        (below_all max_ord_chans (λ c. leb (next c) numbers24) (λ c lt. le-leb _ _ (v.nexts c (omega arith))))
      where
        one : (c : Cell) → (s : Slot) × Memᴰ s l × (s.cell ≡ c) → sound_cell (cells_of l) next c ≡ true
        one c a = subst (λ (d : Cell). sound_cell (cells_of l) next d ≡ true) a.2 (sound-slot a.0 a.1)
