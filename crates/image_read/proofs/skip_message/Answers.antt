use Rattle.image_read.proofs.Ending.{message_on}
use Rattle.image_read.proofs.skip_message.Goals as goal

pub returns : goal.returns
returns c = message_on _ _ _ c.in_ok-q.ensures _ _ c.in_ok-r.ensures _ c.be64_at.ensures c.skip_bodies.ensures
