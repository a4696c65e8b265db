use Rattle.recv_restore.proofs.Numbers.{low_half}
use Rattle.recv_restore.proofs.low.Goals as goal

pub returns : goal.returns
returns c = low_half _ _ _ c.be32_at.ensures
