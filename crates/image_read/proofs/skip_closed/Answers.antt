use Rattle.image_read.proofs.Ending.{list_on}
use Rattle.image_read.proofs.skip_closed.Goals as goal

pub returns : goal.returns
returns c = list_on _ _ _ _ _ c.in_ok-q.ensures _ c.be32_at.ensures c.skip_messages.ensures
