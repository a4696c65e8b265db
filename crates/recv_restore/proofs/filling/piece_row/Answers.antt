use native.Mathlib.Omega.{arith}
use Rattle.recv_restore.proofs.Pieces.{piece-row-is}
use Rattle.recv_restore.proofs.filling.piece_row.Goals as goal

pub returns : goal.returns
returns c f = piece-row-is _ _ c.requires.within f _ _ _ _ _ _ _ _ _ _ c.low.ensures c.low-2.ensures c.low-3.ensures
    c.low-4.ensures c.low-5.ensures
    c.low-6.ensures c.low-7.ensures c.low-8.ensures c.be64_at.ensures (omega arith)
