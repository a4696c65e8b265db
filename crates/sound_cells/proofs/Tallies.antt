-- What counting at noted places gives.
-- Assumes nothing.
use Prim.Native.Nat.{ℕ, zero, suc, ◌+◌, ◌<◌, ◌≤◌}
use mathlib.Core.Path.{◌≡◌, refl, sym, ◌∙◌, ap}
use mathlib.Core.Bool.{cond, not, ◌&&◌}
use mathlib.Core.List.{List}
use native.Mathlib.Omega.{arith}
use lib.Dec.{ltb, eqb}
use lib.ListN.{length, get_or, length-set, get_or-eq_default}
use lib.Seq.{get_or-set_same, get_or-set_other}
use borrow.Author.Tests.{ltb-true, ltb-false, eqb-true, eqb-false}
use Rattle.base.proofs.Choices.{cases}
use Rattle.cells.specs.Cell.{Cell}
use Rattle.rows.specs.declared.Row.{Row}
use Rattle.sound_cells.specs.declared.order.entries.Place.{Place}
use Rattle.sound_cells.specs.Sorted.{cell_at, place_of, counted, tallied}
use Rattle.sound_cells.proofs.Numbered.{count_below, count-within}

module _ (counts : List ℕ) (c : Cell) (q : ℕ) where
  counted-length : length (counted counts c q) ≡ length counts
  unfolding counted
  counted-length = cases (eqb c.used 0)
      (λ u. rw u)
      (λ u. rw u (length-set counts q (get_or counts q 0 + 1)))

  counted-at : (g : ℕ) → g < length counts
      → get_or (counted counts c q) g 0 ≡ cond (not (eqb c.used 0) && eqb q g) (suc (get_or counts g 0))
      (get_or counts g 0)
  unfolding counted
  counted-at g l = cases (eqb c.used 0)
      (λ u. rw u)
      (λ u. cases (eqb q g)
      (λ t. let e : q ≡ g = eqb-true q g t in rw (u, t, e, get_or-set_same counts g (get_or counts g 0 + 1) 0 l) (omega arith))
      (λ t. let ne : q ≡ g → ⊥ = eqb-false q g t in rw (u, t, get_or-set_other counts q g (get_or counts q 0 + 1) 0 (λ e. ne (sym e)))))

module _ (rows : List Row) (places : List Place) (counts : List ℕ) where
  pub tallied-length : (i : ℕ) → length (tallied rows places counts i) ≡ length counts
  unfolding tallied
  tallied-length zero = refl
  tallied-length (suc i) = counted-length (tallied rows places counts i) (cell_at rows i) (place_of places i).lead ∙ tallied-length i

  module _ (none : (g : ℕ) → get_or counts g 0 ≡ 0) where
    -- At a place stands how many used rows it is noted for.
    pub tallied-at : (i g : ℕ) → g < length counts → get_or (tallied rows places counts i) g 0
        ≡ count_below (λ j. not (eqb (cell_at rows j).used 0) && eqb (place_of places j).lead g) i
    unfolding tallied count_below
    tallied-at zero g l = none g
    tallied-at (suc i) g l =
        counted-at (tallied rows places counts i) (cell_at rows i) (place_of places i).lead g (let e = tallied-length i in omega arith)
        ∙ ap (λ (m : ℕ). cond (not (eqb (cell_at rows i).used 0) && eqb (place_of places i).lead g) (suc m) m) (tallied-at i g l)

    -- So no more than the rows counted.
    pub tallied-within : (i g : ℕ) → get_or (tallied rows places counts i) g 0 ≤ i
    tallied-within i g = cases (ltb g (length counts))
        (λ t. rw (tallied-at i g (ltb-true g (length counts) t)) (count-within _ i))
        (λ t. let l : length counts ≤ g = ltb-false g (length counts) t in
        let past : length (tallied rows places counts i) ≤ g = omega (arith, tallied-length i) in
        rw (get_or-eq_default (tallied rows places counts i) 0 past) (omega arith))
