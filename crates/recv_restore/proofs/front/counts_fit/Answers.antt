use Rattle.recv_restore.proofs.Fronts.{counts-tested}
use Rattle.recv_restore.proofs.front.counts_fit.Goals as goal

pub returns : goal.returns
returns c = counts-tested _ _ _ _ _ c.be32_at.ensures c.be32_at-2.ensures c.be32_at-3.ensures c.be32_at-4.ensures
