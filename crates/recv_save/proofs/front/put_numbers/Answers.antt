use Rattle.recv_save.proofs.Each.{each-start, each-next, each-end}
use Rattle.recv_save.proofs.front.put_numbers.Goals as goal

pub loop-n-init : goal.loop-n-init
loop-n-init c = each-start _ _ _ _

pub loop-n-preserved : goal.loop-n-preserved
loop-n-preserved c = each-next _ _ _ _ _ _ _ _ _ _ c.loop-n-test.true c.loop-n.invariant c.put_number-p.ensures

pub returns : goal.returns
returns c = each-end _ _ _ _ _ _ _ c.loop-n-test.false c.loop-n.invariant
