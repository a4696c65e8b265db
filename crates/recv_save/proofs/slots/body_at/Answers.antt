use Rattle.recv_save.proofs.PutCases.{body-is}
use Rattle.recv_save.proofs.slots.body_at.Goals as goal

pub returns-clause-is : goal.returns-clause-is
returns-clause-is c = body-is _ _ _ _ _ _ c.min-start.ensures c.min.ensures c.min-len.ensures
