use Prim.Native.Nat.{◌-◌}
use lib.ListN.{length}
use Rattle.recv_steps.proofs.Following.{Following}
use Rattle.recv_steps.proofs.steps.follows.Given as goal

abbrev pub invariant-loop : goal.invariant-loop
invariant-loop l = Following l.kept.placed.frame.channel (length l.initial.rows) l.initial.t l.initial.nexts l.initial.rows
    (length l.initial.rows - l.counter) l.t l.nexts l.rows
