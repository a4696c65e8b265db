-- Records' rows stand for those records.
-- Assumes nothing.
use mathlib.Core.Path.{◌≡◌, refl, ap}
use mathlib.Core.List.{List, [], ◌∷◌, map}
use Rattle.cells.specs.Cell.{Cell}
use Rattle.rows.specs.Rows.{cell_of, stored_row}

pub stored-cells : (cs : List Cell) → map cell_of (map stored_row cs) ≡ cs
stored-cells [] = refl
stored-cells (c ∷ cs) = ap (λ (l : List Cell). c ∷ l) (stored-cells cs)
