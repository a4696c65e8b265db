-- Counting answers all that soundness asks about cells: `counted-sound`.
-- Assumes nothing.
use Prim.Native.Nat.{ℕ, suc, ◌≤◌, ◌<◌}
use mathlib.Core.Path.{◌≡◌, refl, sym, ◌∙◌, ap}
use mathlib.Core.Bool.{Bool, true, false, cond, not, ◌&&◌, ◌||◌}
use mathlib.Core.List.{List, [], ◌∷◌, Memᴰ}
use native.Mathlib.Omega.{arith}
use lib.Dec.{ltb, leb, eqb}
use borrow.Author.Tests.{ltb-true, eqb-true, eq-eqb, ne_eqb}
use Rattle.base.specs.Limits.{numbers24, max_ord_chans, max_frags}
use Rattle.base.specs.Lists.{any, every, count_of}
use Rattle.base.proofs.Choices.{cases, and_left, and_right, or-implied}
use Rattle.base.proofs.Lists.{any-true, every-mem, every-all}
use Rattle.base.proofs.Counts.{count_none}
use Rattle.base.proofs.Indices.{indices-all}
use Rattle.cells.specs.Cell.{Cell, Key, open_as, held_as, ready_as, bears, at}
use Rattle.cells.specs.Sound.{key_of, limits, alike, lacks_none, sound_cell, sound_cells}
use Rattle.sound_cells.specs.Counted.{mate, twin, unlike, all_mates, ahead_of_next, counted_cell}
use Rattle.sound_cells.proofs.Alike.{alike-told}

-- Two tests that are true alike are equal.
pub same_truth : (a b : Bool) → (a ≡ true → b ≡ true) → (b ≡ true → a ≡ true) → a ≡ b
same_truth true b f g = sym (f refl)
same_truth false true f g = g refl
same_truth false false f g = refl

-- No element passes p and fails q exactly when every one that passes p passes q.
none-fail : {A : Type 0} (p q : A → Bool) (l : List A) → eqb (count_of (λ x. p x && not (q x)) l) 0 ≡ every (λ x. not (p x) || q x) l
unfolding count_of every
none-fail p q [] = eq-eqb 0 0 refl
none-fail p q (x ∷ l) = one (p x) (q x) (none-fail p q l)
  where
    one : (s t : Bool) → eqb (count_of (λ x. p x && not (q x)) l) 0 ≡ every (λ x. not (p x) || q x) l
        → eqb (cond (s && not t) (suc (count_of (λ x. p x && not (q x)) l)) (count_of (λ x. p x && not (q x)) l)) 0
        ≡ ((not s || t) && every (λ x. not (p x) || q x) l)
    one true true e = e
    one true false e = ne_eqb (suc (count_of (λ x. p x && not (q x)) l)) 0 (λ z. omega arith)
    one false t e = e

-- A cell under a key is used, and the key is its own.
pub bears-used : (k : Key) (d : Cell) → bears k d ≡ true → eqb d.used 0 ≡ false
unfolding bears
bears-used (open_as id) d e = let u = eqb-true d.used 1 (and_left (eqb d.used 1) _ e) in ne_eqb d.used 0 (λ z. omega arith)
bears-used (held_as ch o) d e = let u = eqb-true d.used 2 (and_left (eqb d.used 2) _ e) in ne_eqb d.used 0 (λ z. omega arith)
bears-used (ready_as t) d e = let u = eqb-true d.used 3 (and_left (eqb d.used 3) _ e) in ne_eqb d.used 0 (λ z. omega arith)

pub bears-key : (k : Key) (d : Cell) → bears k d ≡ true → key_of d ≡ k
unfolding key_of bears
bears-key (open_as id) d e = rw (and_left (eqb d.used 1) _ e) (ap open_as (eqb-true d.id id (and_right (eqb d.used 1) _ e)))
bears-key (held_as ch o) d e =
    let u = eqb-true d.used 2 (and_left (eqb d.used 2) _ e) in
    let p = and_right (eqb d.used 2) (eqb d.channel ch && eqb d.order o) e in
    let q : d.channel ≡ ch = eqb-true _ _ (and_left (eqb d.channel ch) _ p) in
    let r : d.order ≡ o = eqb-true _ _ (and_right (eqb d.channel ch) _ p) in
    rw (ne_eqb d.used 1 (λ z. omega arith), eq-eqb d.used 2 u) (cc)
bears-key (ready_as t) d e =
    let u = eqb-true d.used 3 (and_left (eqb d.used 3) _ e) in
    rw (ne_eqb d.used 1 (λ z. omega arith), ne_eqb d.used 2 (λ z. omega arith))
    (ap ready_as (eqb-true d.turn t (and_right (eqb d.used 3) _ e)))

index_below : (c : Cell) → limits c ≡ true → c.index < c.count
unfolding limits
index_below c e =
    let e₁ = and_right (leb c.used 3) _ e in
    let e₂ = and_right (leb c.kind 7) _ e₁ in
    let e₃ = and_right (ltb c.channel max_ord_chans) _ e₂ in
    let e₄ = and_right (ltb c.sequence numbers24) _ e₃ in
    let e₅ = and_right (ltb c.order numbers24) _ e₄ in
    let e₆ = and_right (leb 1 c.count) _ e₅ in
    let e₇ = and_right (leb c.count max_frags) _ e₆ in
    ltb-true _ _ (and_left (ltb c.index c.count) _ e₇)

module _ (cs : List Cell) where
  -- What both tests say of a cell; rest is what they say differently.
  ruled : Cell → Bool → Bool
  ruled c rest = eqb c.used 0 || (limits c && (eqb (count_of (at (key_of c) c.index) cs) 1
      && (every (λ d. not (bears (key_of c) d) || alike c d) cs && rest)))

  record Apart (c : Cell) : Type 0 where
    limit : limits c ≡ true
    once : count_of (at (key_of c) c.index) cs ≡ 1
    like : (d : Cell) → Memᴰ d cs → bears (key_of c) d ≡ true → alike c d ≡ true

  apart : (c : Cell) (rest : Bool) → eqb c.used 0 ≡ false → ruled c rest ≡ true → Apart c
  unfolding ruled
  apart c rest u r =
      let e = rw u at r in
      let e₁ = and_right (limits c) _ e in
      let e₂ = and_right (eqb (count_of (at (key_of c) c.index) cs) 1) _ e₁ in
      record {
        limit = and_left (limits c) _ e;
        once = eqb-true _ _ (and_left (eqb (count_of (at (key_of c) c.index) cs) 1) _ e₁);
        like = λ d m y. or-implied (bears (key_of c) d) (alike c d) (every-mem (λ d. not (bears (key_of c) d) || alike c d) cs
            (and_left (every (λ d. not (bears (key_of c) d) || alike c d) cs) _ e₂) d m) y;
      }

  -- The cells under a key, where all cells are apart.
  module _ (all : (c : Cell) → Memᴰ c cs → eqb c.used 0 ≡ false → Apart c) where
    once-at : (k : Key) (i : ℕ) → count_of (λ (c : Cell). bears k c && eqb c.index i) cs ≤ 1
    unfolding at
    once-at k i = cases (any (λ (c : Cell). bears k c && eqb c.index i) cs)
        (λ y. let a = any-true (λ (c : Cell). bears k c && eqb c.index i) cs y in
        let b = and_left (bears k a.0) _ a.2 in
        let q = eqb-true a.0.index i (and_right (bears k a.0) _ a.2) in
        let one = rw (bears-key k a.0 b, q) at (all a.0 a.1 (bears-used k a.0 b)).once in
        omega arith)
        (λ y. rw (count_none (λ (c : Cell). bears k c && eqb c.index i) cs y) (omega arith))

    lacks-none-counted : (c : Cell) → Memᴰ c cs → eqb c.used 0 ≡ false → lacks_none (key_of c) cs c.count ≡ all_mates cs c
    unfolding lacks_none all_mates mate at
    lacks-none-counted c m u = indices-all (bears (key_of c)) (λ (d : Cell). d.index) cs (once-at (key_of c)) c.count (λ d i y.
        let l = index_below d (all d i (bears-used (key_of c) d y)).limit in
        let a = (alike-told c d ((all c m u).like d i y)).count in
        omega arith)

  module _ (next : ℕ → ℕ) where
    rest_sound : Cell → Bool
    rest_sound c = cond (eqb c.used 1) (not (lacks_none (key_of c) cs c.count)) (lacks_none (key_of c) cs c.count) && ahead_of_next next c

    rest_counted : Cell → Bool
    rest_counted c = cond (eqb c.used 1) (not (all_mates cs c)) (all_mates cs c) && ahead_of_next next c

    sound-ruled : (c : Cell) → sound_cell cs next c ≡ ruled c (rest_sound c)
    unfolding sound_cell ahead_of_next rest_sound ruled
    sound-ruled c = refl

    counted-ruled : (c : Cell) → counted_cell cs next c ≡ ruled c (rest_counted c)
    unfolding counted_cell twin unlike rest_counted ruled
    counted-ruled c = rw (none-fail (bears (key_of c)) (alike c) cs)

    rest-same : ((c : Cell) → Memᴰ c cs → eqb c.used 0 ≡ false → Apart c) → (c : Cell) → Memᴰ c cs → ruled c (rest_counted c)
        ≡ ruled c (rest_sound c)
    unfolding ruled rest_sound rest_counted
    rest-same all c m = cases (eqb c.used 0)
        (λ y. rw y)
        (λ y. rw (lacks-none-counted all c m y))

    -- The cells are sound exactly when each one passes the test by counts.
    pub counted-sound : every (counted_cell cs next) cs ≡ sound_cells cs next
    counted-sound = same_truth (every (counted_cell cs next) cs) (sound_cells cs next)
        (λ e. let r : (c : Cell) → Memᴰ c cs → ruled c (rest_counted c) ≡ true = λ c m. sym (counted-ruled c)
        ∙ every-mem (counted_cell cs next) cs e c m in
        every-all (sound_cell cs next) cs (λ c m. sound-ruled c
        ∙ sym (rest-same (λ d i u. apart d (rest_counted d) u (r d i)) c m) ∙ r c m))
        (λ e. let r : (c : Cell) → Memᴰ c cs → ruled c (rest_sound c) ≡ true = λ c m. sym (sound-ruled c)
        ∙ every-mem (sound_cell cs next) cs e c m in
        every-all (counted_cell cs next) cs (λ c m. counted-ruled c ∙ rest-same (λ d i u. apart d (rest_sound d) u (r d i)) c m ∙ r c m))
