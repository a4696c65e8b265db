use Rattle.recv_restore.proofs.Pieces.{wide-piece, narrow-piece}
use Rattle.recv_restore.proofs.filling.piece_fits.Goals as goal

pub returns-then-are_narrow : goal.returns-then-are_narrow
returns-then-are_narrow c = narrow-piece _ _ c.requires.within _ c.are_narrow.ensures c.if-are_narrow.true _ c.be64_at.ensures

pub returns-else-are_narrow : goal.returns-else-are_narrow
returns-else-are_narrow c = wide-piece _ _ c.requires.within _ c.are_narrow.ensures c.if-are_narrow.false
