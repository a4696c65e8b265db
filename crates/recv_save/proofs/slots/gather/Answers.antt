use mathlib.Core.Path.{refl}
use Rattle.recv_save.proofs.PutCases.{entries-next, entries-end}
use Rattle.recv_save.proofs.slots.gather.Goals as goal

pub loop-i-init : goal.loop-i-init
loop-i-init c = record { next = refl; is = refl }

pub loop-i-preserved : goal.loop-i-preserved
loop-i-preserved c = entries-next _ _ _ _ _ _ _ _ _ c.loop-i-test.true c.loop-i.invariant c.put_own-k.ensures

pub returns : goal.returns
returns c = entries-end _ _ _ _ _ _ c.loop-i-test.false c.loop-i.invariant
