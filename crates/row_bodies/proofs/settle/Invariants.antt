use Rattle.row_bodies.proofs.Flushing.{Settling}
use Rattle.row_bodies.proofs.settle.Given as goal

abbrev pub invariant-loop-i : goal.invariant-loop-i
invariant-loop-i l = Settling l.initial.rows l.initial.store l.bytes l.rows l.store l.i
