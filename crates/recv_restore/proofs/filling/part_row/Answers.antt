use native.Mathlib.Omega.{arith}
use Rattle.recv_restore.proofs.Messages.{part-row-is}
use Rattle.recv_restore.proofs.filling.part_row.Goals as goal

pub returns : goal.returns
returns c can = part-row-is _ _ _ _ _ _ c.requires.head c.requires.within can _ _ _ _ _ _ c.low.ensures c.low-2.ensures c.low-3.ensures
    c.low-4.ensures
    c.low-5.ensures (omega arith)
