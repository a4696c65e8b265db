use Rattle.recv_save.proofs.PutCases.{entry-run}
use Rattle.recv_save.proofs.slots.put_entry.Goals as goal

pub returns : goal.returns
returns c = entry-run _ _ _ _ _ _ _ _ _ _ _ c.row_number-i.ensures c.whole_row.ensures c.body_at.ensures.is c.put_slot.ensures
