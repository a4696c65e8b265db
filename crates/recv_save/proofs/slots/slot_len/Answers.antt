use Rattle.recv_save.proofs.PutCases.{len-none, len-piece, len-part, len-first}
use Rattle.recv_save.proofs.slots.slot_len.Goals as goal

pub returns-then-c-used-clause-is : goal.returns-then-c-used-clause-is
returns-then-c-used-clause-is c = len-none _ _ _ c.if-c-used.true

pub returns-then-used-eq-OPEN-clause-is : goal.returns-then-used-eq-OPEN-clause-is
returns-then-used-eq-OPEN-clause-is c = len-piece _ _ _ c.if-c-used.false c.if-used-eq-OPEN.true

pub returns-then-c-ne0-clause-is : goal.returns-then-c-ne0-clause-is
returns-then-c-ne0-clause-is c = len-part _ _ _ c.if-c-used.false c.if-used-eq-OPEN.false c.if-c-ne0.true

pub returns-clause-is : goal.returns-clause-is
returns-clause-is c = len-first _ _ _ c.if-c-used.false c.if-used-eq-OPEN.false c.if-c-ne0.false
