use Rattle.recv_restore.proofs.Messages.{head-tested}
use Rattle.recv_restore.proofs.filling.head_fits.Goals as goal

pub returns : goal.returns
returns c = head-tested _ _ _ c.be64_at-n.ensures _ c.are_narrow.ensures _ c.from.ensures
