use mathlib.Core.Path.{◌≡◌}
use lib.ListN.{length}
use Rattle.recv_prefix.specs.Needs.{last_used}
use Rattle.recv_queue.proofs.up_to_used.Given as goal

abbrev pub invariant-loop-rest : goal.invariant-loop-rest
invariant-loop-rest g l = last_used l.left ≡ last_used l.records

abbrev pub decreases-loop-rest : goal.decreases-loop-rest
decreases-loop-rest g l = length l.left
