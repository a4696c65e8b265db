-- A sweep: row after row that passes is changed.
-- Assumes nothing.
use Prim.Native.Nat.{ℕ, zero, suc, ◌+◌, ◌<◌, ◌≤◌}
use mathlib.Core.Path.{◌≡◌, refl, sym, ap, ◌∙◌}
use mathlib.Core.Bool.{Bool, true, false, cond, not}
use mathlib.Core.List.{List, [], ◌∷◌, ◌++◌, map, append-nil}
use mir.Val.{bool_byte}
use native.Mathlib.Omega.{arith}
use lib.Dec.{eqb}
use lib.ListN.{length, get_or, take, drop, set}
use lib.Seq.{take_all}
use Rattle.std.proofs.lemmas.List.{get_or-drop, drop-drop, drop-set-lt, drop_all}
use Rattle.std.proofs.lemmas.List.Edits.{map_over_more}
use borrow.Author.Tests.{ne_eqb}
use Rattle.base.specs.Lists.{any, count_of}
use Rattle.base.proofs.Choices.{cases}
use Rattle.base.proofs.Counts.{count_none, count-some}
use Rattle.cells.specs.Cell.{Cell}
use Rattle.rows.specs.declared.Row.{Row}
use Rattle.rows.specs.Rows.{cell_of, cells_in, change_row, change_rows}
use Rattle.rows.proofs.Tests.{count-step}

-- The rows below i are changed, and the others are as they were.
abbrev pub swept : (Cell → Bool) → (Row → Row) → ℕ → List Row → List Row
swept p g i rows = map (change_row p g) (take i rows) ++ drop i rows

get_own : {A : Type 0} (l : List A) (i : ℕ) (d : A) → get_or l i d ≡ get_or l i (get_or l i d)
get_own [] i d = refl
get_own (x ∷ l) zero d = refl
get_own (x ∷ l) (suc i) d = get_own l i d

-- Row i is as it was, and so are all after it. It is put, changed or as it was.
module _ (old now : List Row) (i : ℕ) (kept : drop i now ≡ drop i old) where
  left : drop (i + 1) now ≡ drop (i + 1) old
  left = sym (drop-drop 1 i now) ∙ ap (drop 1) kept ∙ drop-drop 1 i old

  pub kept_set : (q : Row) {new : List Row} → new ≡ set now i q → drop (i + 1) new ≡ drop (i + 1) old
  kept_set q e = ap (drop (i + 1)) e ∙ drop-set-lt (i + 1) now i q (omega arith) ∙ left

  -- b is what the test gave of row i. (x stands for it where there is no row i.)
  module _ (x : Row) (l : i < length old) (p : Cell → Bool) {b : Bool} (t : b ≡ p (cell_of (get_or now i x))) where
    here : get_or now i x ≡ get_or old i x
    here = let e : i + 0 ≡ i = omega arith in
        ap (λ (k : ℕ). get_or now k x) (sym e) ∙ sym (get_or-drop i now 0 x)
        ∙ ap (λ (r : List Row). get_or r 0 x) kept ∙ get_or-drop i old 0 x
        ∙ ap (λ (k : ℕ). get_or old k x) e

    tested : p (cell_of (get_or old i x)) ≡ b
    tested = ap (λ (r : Row). p (cell_of r)) (sym here) ∙ sym t

    pub counted-more : {n k : ℕ} → k ≡ bool_byte b → n ≡ count_of p (cells_in (take i old))
        → n + k ≡ count_of p (cells_in (take (i + 1) old))
    counted-more f e = count-step p old i x l (sym tested) f e

    module _ (g : Row → Row) (e : now ≡ swept p g i old) where
      more : set now i (change_row p g (get_or now i x)) ≡ swept p g (i + 1) old
      more = map_over_more (change_row p g) old now i (get_or now i x) l e (get_own now i x)

      chosen : {v : Bool} → b ≡ v → change_row p g (get_or now i x) ≡ cond v (g (get_or now i x)) (get_or now i x)
      unfolding change_row
      chosen y = ap (λ (u : Bool). cond u (g (get_or now i x)) (get_or now i x)) (sym t ∙ y)

      pub swept-here : {q : Row} {new : List Row} → b ≡ true → q ≡ g (get_or now i x) → new ≡ set now i q → new ≡ swept p g (i + 1) old
      swept-here y z w = w ∙ ap (set now i) (z ∙ sym (chosen y)) ∙ more

      pub swept-left : {new : List Row} → b ≡ false → new ≡ set now i (get_or now i x) → new ≡ swept p g (i + 1) old
      swept-left y w = w ∙ ap (set now i) (sym (chosen y)) ∙ more

-- All rows.
pub swept-all : (p : Cell → Bool) (g : Row → Row) (i : ℕ) (old : List Row) → length old ≤ i → swept p g i old ≡ change_rows p g old
unfolding change_rows
swept-all p g i old l = rw (take_all i old l, drop_all i old l) (append-nil (map (change_row p g) old))

-- There is one that passes where they are not 0.
pub any_counted : (p : Cell → Bool) (cs : List Cell) (n : ℕ) → n ≡ count_of p cs → not (eqb n 0) ≡ any p cs
any_counted p cs n e = cases (any p cs)
    (λ y. let q = count-some p cs y in rw (y, ne_eqb n 0 (λ z. omega arith)))
    (λ y. rw (y, e, count_none p cs y))
