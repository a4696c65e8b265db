use mathlib.Core.List.{◌++◌, map}
use mathlib.Core.Path.{◌≡◌}
use lib.ListN.{take, drop}
use Rattle.recv_steps.specs.Receives.{begun_row}
use Rattle.recv_steps.proofs.steps.datagram.begin_each.Given as goal

abbrev pub invariant-loop-r : goal.invariant-loop-r
invariant-loop-r l = l.rows ≡ map begun_row (take l.r-index l.initial.rows) ++ drop l.r-index l.initial.rows
