use Rattle.base.proofs.Runs.{runs}
use borrow.Author.Rules.{rules}
use Rattle.recv_save.specs.Slots.{own_entry}
use Rattle.recv_save.proofs.PutCases.{own-run}
use Rattle.recv_save.proofs.slots.put_own.Goals as goal

pub returns-then-c-eq-UNUSED : goal.returns-then-c-eq-UNUSED
unfolding own_entry
returns-then-c-eq-UNUSED c = search (rules, runs)

pub returns : goal.returns
returns c = own-run _ _ _ _ _ _ _ c.if-c-eq-UNUSED.false c.entry_of.ensures c.put.ensures
