use Rattle.recv_restore.proofs.Rows.{unfit}
use Rattle.recv_restore.proofs.Messages.{low-held, held-put}
use Rattle.recv_restore.proofs.filling.fill_one_held.Goals as goal

pub returns-then-rank-least : goal.returns-then-rank-least
returns-then-rank-least c = unfit _ _ _ _ _ _ _ _ (low-held _ _ _ _ c.rank.ensures.is c.if-rank-least.true)

pub returns : goal.returns
returns c = held-put _ _ _ _ _ _ _ _ c.rank.ensures.is c.if-rank-least.false _ c.fill_message.ensures
