use Rattle.image.specs.Image.{message_format}
use Rattle.image_read.proofs.Ending.{Going}
use Rattle.image_read.proofs.skip_messages.Given as goal

abbrev pub invariant-loop : goal.invariant-loop
invariant-loop l = Going message_format l.n l.s l.p l.counter l.at
