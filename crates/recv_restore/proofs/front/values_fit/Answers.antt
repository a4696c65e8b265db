use Rattle.recv_restore.proofs.Fronts.{values-tested}
use Rattle.recv_restore.proofs.front.values_fit.Goals as goal

pub returns : goal.returns
returns c = values-tested _ _ _ _ _ _ c.is_narrow.ensures c.is_narrow-2.ensures c.is_narrow-3.ensures c.are_narrow.ensures c.be64_at.ensures
