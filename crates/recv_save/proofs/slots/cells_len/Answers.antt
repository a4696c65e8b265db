use Rattle.recv_save.proofs.PutCases.{cells-length}
use Rattle.recv_save.proofs.slots.cells_len.Goals as goal

pub returns-clause-is : goal.returns-clause-is
returns-clause-is c = cells-length _ _ _ _ _ _ c.entries_len.ensures.is c.entries_len-2.ensures.is c.entries_len-3.ensures.is
