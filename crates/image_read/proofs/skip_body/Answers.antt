use Rattle.image_read.proofs.Ending.{body_on}
use Rattle.image_read.proofs.skip_body.Goals as goal

pub returns : goal.returns
returns c = body_on _ _ _ _ c.in_ok-q.ensures _ c.be64_at.ensures c.skip-2.ensures
