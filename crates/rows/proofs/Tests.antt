-- Tests of the rows' records: one row more, as a loop finds it.
-- Assumes nothing.
use Prim.Native.Nat.{ℕ, suc, ◌+◌, ◌<◌, ◌≤◌}
use mathlib.Core.Path.{◌≡◌, refl, ◌∙◌}
use mathlib.Core.Bool.{Bool, true, false, cond}
use mathlib.Core.List.{List, [], ◌∷◌}
use mir.Val.{bool_byte}
use native.Mathlib.Omega.{arith}
use lib.ListN.{length, take, drop, get_or}
use Rattle.base.specs.Lists.{any, count_of}
use Rattle.cells.specs.Cell.{Cell}
use Rattle.rows.specs.declared.Row.{Row}
use Rattle.rows.specs.Rows.{cell_of, cells_in}
use Rattle.rows.proofs.ListMaps.{any_append, count-append}
use Rattle.rows.proofs.Rows.{cells-more, cells-split}

-- A test as a number.
pub byte_is : (b : Bool) → bool_byte b ≡ cond b 1 0
byte_is true = refl
byte_is false = refl

pub byte-le : (b : Bool) → bool_byte b ≤ 1
byte-le true = omega arith
byte-le false = omega arith

module _ (p : Cell → Bool) where
  pub any_none : false ≡ any p (cells_in [])
  unfolding any cells_in
  any_none = refl

  pub count_none : 0 ≡ count_of p (cells_in [])
  unfolding count_of cells_in
  count_none = refl

  -- Row i passes or does not.
  module _ (rows : List Row) (i : ℕ) (x : Row) (l : i < length rows) where
    count_more : count_of p (cells_in (take (i + 1) rows)) ≡ count_of p (cells_in (take i rows)) + cond (p (cell_of (get_or rows i x))) 1 0
    unfolding count_of
    count_more = rw (cells-more rows i x l, count-append p (cells_in (take i rows)) (cell_of (get_or rows i x) ∷ []))

    -- b is what the test gave of it.
    pub count-step : {n k : ℕ} {b : Bool} → b ≡ p (cell_of (get_or rows i x)) → k ≡ bool_byte b → n ≡ count_of p (cells_in (take i rows))
        → n + k ≡ count_of p (cells_in (take (i + 1) rows))
    count-step {n} {k} {b} t e s = omega (arith, rw t at (e ∙ byte_is b), count_more)

    pub any-miss : p (cell_of (get_or rows i x)) ≡ false → false ≡ any p (cells_in (take i rows))
        → false ≡ any p (cells_in (take (i + 1) rows))
    unfolding any
    any-miss y e = rw (cells-more rows i x l, any_append p (cells_in (take i rows)) (cell_of (get_or rows i x) ∷ []), ← e, y)

    pub any-hit : p (cell_of (get_or rows i x)) ≡ true → false ≡ any p (cells_in (take i rows)) → true ≡ any p (cells_in rows)
    unfolding any
    any-hit y e =
        rw (
          cells-split rows i x l,
          any_append p (cells_in (take i rows))
              (cell_of (get_or rows i x) ∷ cells_in (drop (suc i) rows)),
          ← e,
          y,
        )
