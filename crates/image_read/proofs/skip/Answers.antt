use Rattle.image_read.proofs.Ending.{skipped, skip_cut}
use Rattle.image_read.proofs.skip.Goals as goal

pub returns-then-n-room : goal.returns-then-n-room
returns-then-n-room c = skipped _ _ _ _ c.saturating_sub-room.ensures c.if-n-room.true

pub returns : goal.returns
returns c = skip_cut _ _ _ _ c.saturating_sub-room.ensures c.if-n-room.false
