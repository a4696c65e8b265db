use Rattle.image_read.proofs.Ending.{piece_on}
use Rattle.image_read.proofs.skip_piece.Goals as goal

pub returns : goal.returns
returns c = piece_on _ _ _ _ c.in_ok-q.ensures c.skip_body.ensures
