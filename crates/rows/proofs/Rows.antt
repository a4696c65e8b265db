-- The rows' records, as far as a loop has come: one more row, and all.
-- Assumes nothing.
use Prim.Native.Nat.{ℕ, suc, ◌+◌, ◌<◌, ◌≤◌}
use mathlib.Core.Path.{◌≡◌, sym, ap, ◌∙◌}
use mathlib.Core.List.{List, [], ◌∷◌, ◌++◌, map, map-append}
use lib.ListN.{length, take, drop, get_or, length-map, take-append-drop}
use lib.Seq.{drop-cons, length-take-le}
use Rattle.std.proofs.lemmas.List.{map_more, get_or_default}
use Rattle.rows.specs.declared.Row.{Row}
use Rattle.rows.specs.Rows.{cell_of, cells_in, blank_row, whole_row}

module _ (rows : List Row) where
  -- There are as many records as rows.
  pub cells-length : length (cells_in rows) ≡ length rows
  unfolding cells_in
  cells-length = length-map rows cell_of

  module _ (i : ℕ) (d : Row) (l : i < length rows) where
    -- Row i after those before it, and before those after it.
    pub cells-more : cells_in (take (i + 1) rows) ≡ cells_in (take i rows) ++ (cell_of (get_or rows i d) ∷ [])
    unfolding cells_in
    cells-more = map_more cell_of rows i d l

    pub cells-split : cells_in rows ≡ cells_in (take i rows) ++ (cell_of (get_or rows i d) ∷ cells_in (drop (suc i) rows))
    unfolding cells_in
    cells-split = ap (map cell_of) (sym (take-append-drop i rows) ∙ ap (λ (x : List Row). take i rows ++ x) (drop-cons rows i d l))
        ∙ map-append cell_of (take i rows) (get_or rows i d ∷ drop (suc i) rows)

-- A row that is there, whatever stands for one that is not.
pub row_here : (rows : List Row) (i : ℕ) (d : Row) → i < length rows → get_or rows i d ≡ whole_row rows i
row_here rows i d l = get_or_default rows i d blank_row l

pub below-length : (rows : List Row) (i : ℕ) → i ≤ length rows → length (cells_in (take i rows)) ≡ i
below-length rows i l = cells-length (take i rows) ∙ length-take-le i rows l
