use Rattle.recv_save.proofs.PutCases.{entry-len}
use Rattle.recv_save.proofs.slots.entry_len.Goals as goal

pub returns-clause-is : goal.returns-clause-is
returns-clause-is c = entry-len _ _ _ _ _ _ _ _ c.row_number-i.ensures c.whole_row.ensures c.body_at.ensures.is c.slot_len.ensures.is
