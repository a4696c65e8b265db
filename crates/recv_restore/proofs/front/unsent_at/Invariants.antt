use Rattle.recv_restore.proofs.Values.{Reading}
use Rattle.recv_restore.proofs.front.unsent_at.Given as goal

abbrev pub invariant-loop-i : goal.invariant-loop-i
invariant-loop-i l = Reading l.s l.n l.i l.least l.unsent
