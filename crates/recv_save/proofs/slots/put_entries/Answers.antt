use Rattle.recv_save.proofs.Each.{each-start, each-next, each-end}
use Rattle.recv_save.proofs.slots.put_entries.Goals as goal

pub loop-entry-init : goal.loop-entry-init
loop-entry-init c = each-start _ _ _ _

pub loop-entry-preserved : goal.loop-entry-preserved
loop-entry-preserved c = each-next _ _ _ _ _ _ _ _ _ _ c.loop-entry-test.true c.loop-entry.invariant c.put_entry-p.ensures

pub returns : goal.returns
returns c = each-end _ _ _ _ _ _ _ c.loop-entry-test.false c.loop-entry.invariant
