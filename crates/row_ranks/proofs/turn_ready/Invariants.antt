use Prim.Native.Nat.{ℕ}
use mathlib.Core.Path.{◌≡◌}
use lib.ListN.{drop}
use Rattle.cells.specs.Cell.{ready_use}
use Rattle.rows.specs.declared.Row.{Row}
use Rattle.rows.specs.Rows.{mark_row}
use Rattle.row_tests.specs.Uses.{uses}
use Rattle.row_sweeps.proofs.Sweeps.{swept}
use Rattle.row_ranks.proofs.turn_ready.Given as goal

abbrev pub invariant-loop-r : goal.invariant-loop-r
invariant-loop-r g l = record {
  kept : drop l.r-index l.rows ≡ drop l.r-index l.initial.rows;
  is : (h : Row → Row) → ((r : Row) (turn : ℕ) → g.F.Fn.post l.turn_of (r.cell.turn, tt) turn → mark_row ready_use turn r ≡ h r)
      → l.rows ≡ swept (uses ready_use) h l.r-index l.initial.rows;
}
