use Rattle.recv_save.specs.Front.{channel_bytes}
use Rattle.recv_save.proofs.Each.{each-start, each-next, each-end}
use Rattle.recv_save.proofs.front.put_channels.Goals as goal

pub loop-c-init : goal.loop-c-init
loop-c-init c = each-start _ _ _ _

pub loop-c-preserved : goal.loop-c-preserved
unfolding channel_bytes
loop-c-preserved c = each-next _ _ _ _ _ _ _ _ _ _ c.loop-c-test.true c.loop-c.invariant c.put_pair-p.ensures

pub returns : goal.returns
returns c = each-end _ _ _ _ _ _ _ c.loop-c-test.false c.loop-c.invariant
