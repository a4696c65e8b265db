use Prim.Native.Nat.{◌-◌}
use lib.ListN.{length}
use Rattle.recv_steps.proofs.Passing.{Going}
use Rattle.recv_steps.proofs.steps.datagram.frames.Given as goal

abbrev pub invariant-loop-placed : goal.invariant-loop-placed
invariant-loop-placed l = Going l.profile l.initial.reliables l.initial.nexts l.initial.rows l.turn l.datagram l.reliables l.nexts l.rows
    l.counts l.at

abbrev pub decreases-loop-placed : goal.decreases-loop-placed
decreases-loop-placed l = length l.datagram - l.at
