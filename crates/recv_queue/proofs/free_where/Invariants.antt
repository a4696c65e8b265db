use Rattle.std.proofs.Common.{◌≡◌, ◌++◌, map, take, drop}
use mathlib.Core.Bool.{Bool}
use Rattle.std.specs.Fn.{FnReturnsAt}
use Rattle.cells.specs.Cell.{Cell}
use Rattle.recv_queue.specs.Records.{record_left_by}
use Rattle.recv_queue.proofs.free_where.Given as goal

abbrev pub invariant-loop-r : goal.invariant-loop-r
invariant-loop-r g l = (p : Cell → Bool) → ((c : Cell) (b : Bool) → FnReturnsAt g.F.Fn l.test c b → b ≡ p c)
    → l.records ≡ map (record_left_by p) (take l.r-index l.fn.records) ++ drop l.r-index l.fn.records
