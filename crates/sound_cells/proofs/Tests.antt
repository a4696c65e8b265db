-- What the code's tests of two cells say.
-- Assumes nothing.
use Prim.Native.Nat.{ℕ}
use mathlib.Core.Path.{◌≡◌, refl, sym, ◌∙◌}
use mathlib.Core.Bool.{Bool, true, false, cond, not, ◌&&◌}
use mathlib.Core.List.{List}
use lib.Dec.{eqb}
use borrow.Author.Tests.{eq-eqb, ne_eqb}
use Rattle.base.specs.Lists.{count_of}
use Rattle.base.proofs.Choices.{and_left, and_right}
use Rattle.cells.specs.Cell.{Cell, at}
use Rattle.cells.specs.Sound.{limits, alike}
use Rattle.sound_cells.specs.declared.Tally.{Tally}
use Rattle.sound_cells.specs.Counted.{mate, twin, unlike, mates_of, all_mates, ahead_of_next, counted_cell}

module _ (a d : Cell) where
  pub twin-is : {m : Bool} → m ≡ mate a d → (m && eqb d.index a.index) ≡ twin a d
  unfolding twin mate at
  twin-is e = rw e

  pub unlike-is : {m l : Bool} → m ≡ mate a d → l ≡ alike a d → (m && not l)
      ≡ unlike a d
  unfolding unlike mate
  unlike-is e f = rw (e, f)

-- The test by counts, in the code's three ways.
module _ (cs : List Cell) (next : ℕ → ℕ) (c : Cell) where
  pub unused-passes : c.used ≡ 0 → true ≡ counted_cell cs next c
  unfolding counted_cell
  unused-passes u = rw (eq-eqb c.used 0 u)

  pub beyond-fails : {b : Bool} → (c.used ≡ 0 → ⊥) → b ≡ (limits c && ahead_of_next next c) → b ≡ false → false
      ≡ counted_cell cs next c
  unfolding counted_cell
  beyond-fails u e f = sym (rw (ne_eqb c.used 0 u) (last-false (limits c) (eqb (count_of (twin c) cs) 1)
      (eqb (count_of (unlike c) cs) 0) (cond (eqb c.used 1) (not (all_mates cs c)) (all_mates cs c))
      (ahead_of_next next c) (sym e ∙ f)))
    where
      last-false : (a b c d e : Bool) → (a && e) ≡ false → (a && (b && (c && (d && e)))) ≡ false
      last-false false b c d e z = refl
      last-false true false c d e z = refl
      last-false true true false d e z = refl
      last-false true true true false e z = refl
      last-false true true true true e z = z

  pub used-tested : {b due : Bool} {t : Tally} → (c.used ≡ 0 → ⊥) → b ≡ (limits c && ahead_of_next next c)
      → b ≡ true → t
      ≡ mates_of cs c
      → due ≡ cond (eqb c.used 1) (not (eqb t.mates c.count)) (eqb t.mates c.count)
      → (eqb t.twins 1 && (eqb t.unlike 0 && due)) ≡ counted_cell cs next c
  unfolding counted_cell mates_of all_mates
  used-tested u e f g h =
      let both = sym e ∙ f in
      rw (ne_eqb c.used 0 u, and_left (limits c) _ both, and_right (limits c) _ both, h, g)
      (true-last (eqb (count_of (twin c) cs) 1) (eqb (count_of (unlike c) cs) 0) _)
    where
      true-last : (a b c : Bool) → (a && (b && c)) ≡ (a && (b && (c && true)))
      true-last false b c = refl
      true-last true false c = refl
      true-last true true false = refl
      true-last true true true = refl

pub ruleset by_counts = (unused-passes, used-tested, beyond-fails)
