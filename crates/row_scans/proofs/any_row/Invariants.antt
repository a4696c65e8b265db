use mathlib.Core.Path.{◌≡◌}
use mathlib.Core.Bool.{Bool, false}
use lib.ListN.{take}
use Rattle.std.specs.Fn.{FnReturnsAt}
use Rattle.base.specs.Lists.{any}
use Rattle.cells.specs.Cell.{Cell}
use Rattle.rows.specs.declared.Row.{Row}
use Rattle.rows.specs.Rows.{cell_of, cells_in}
use Rattle.row_scans.proofs.any_row.Given as goal

abbrev pub invariant-loop-r : goal.invariant-loop-r
invariant-loop-r g l = (p : Cell → Bool) → ((r : Row) (b : Bool) → FnReturnsAt g.F.Fn l.test r b → b ≡ p (cell_of r))
    → false ≡ any p (cells_in (take l.r-index l.rows))
