use Rattle.image.specs.Format.{body}
use Rattle.image_read.proofs.Ending.{Going}
use Rattle.image_read.proofs.skip_bodies.Given as goal

abbrev pub invariant-loop : goal.invariant-loop
invariant-loop l = Going body l.n l.s l.p l.counter l.at
