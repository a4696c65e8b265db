use Rattle.image.specs.Image.{piece_format}
use Rattle.image_read.proofs.Ending.{Going}
use Rattle.image_read.proofs.skip_pieces.Given as goal

abbrev pub invariant-loop : goal.invariant-loop
invariant-loop l = Going piece_format l.n l.s l.p l.counter l.at
