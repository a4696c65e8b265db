use Rattle.base.proofs.Runs.{runs}
use borrow.Author.Rules.{rules}
use Rattle.recv_save.specs.Slots.{slot_bytes}
use Rattle.recv_save.proofs.slots.put_slot.Goals as goal

pub returns-then-c-used : goal.returns-then-c-used
unfolding slot_bytes
returns-then-c-used c = search (rules, runs)

pub returns-then-used-eq-OPEN : goal.returns-then-used-eq-OPEN
unfolding slot_bytes
returns-then-used-eq-OPEN c = search (rules, runs)

pub returns : goal.returns
unfolding slot_bytes
returns c = search (rules, runs)
