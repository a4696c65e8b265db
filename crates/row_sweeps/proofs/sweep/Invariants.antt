use Prim.Native.Nat.{◌≤◌}
use mathlib.Core.Path.{◌≡◌}
use mathlib.Core.Bool.{Bool}
use lib.ListN.{take, drop}
use Rattle.std.specs.Fn.{FnReturnsAt}
use Rattle.base.specs.Lists.{count_of}
use Rattle.cells.specs.Cell.{Cell}
use Rattle.rows.specs.declared.Row.{Row}
use Rattle.rows.specs.Rows.{cell_of, cells_in}
use Rattle.row_sweeps.proofs.Sweeps.{swept}
use Rattle.row_sweeps.proofs.sweep.Given as goal

abbrev pub invariant-loop-r : goal.invariant-loop-r
invariant-loop-r g l = record {
  kept : drop l.r-index l.rows ≡ drop l.r-index l.initial.rows;
  few : l.n ≤ l.r-index;
  many : (p : Cell → Bool) → ((r : Row) (b : Bool) → FnReturnsAt g.P.Fn l.test r b → b ≡ p (cell_of r))
      → l.n ≡ count_of p (cells_in (take l.r-index l.initial.rows));
  is : (p : Cell → Bool) (h : Row → Row) → ((r : Row) (b : Bool) → FnReturnsAt g.P.Fn l.test r b → b ≡ p (cell_of r))
      → ((r q : Row) → g.G.Fn.post l.change (r, tt) q → q ≡ h r)
      → l.rows ≡ swept p h l.r-index l.initial.rows;
}
