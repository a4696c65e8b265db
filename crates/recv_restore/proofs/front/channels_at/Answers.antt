use native.Mathlib.Omega.{arith}
use Rattle.recv_restore.proofs.Values.{channels-begin, channels-more, channels-end}
use Rattle.recv_restore.proofs.front.channels_at.Goals as goal

pub loop-c-init : goal.loop-c-init
loop-c-init c = channels-begin _

pub loop-c-preserved : goal.loop-c-preserved
loop-c-preserved c = channels-more _ c.requires _ _ c.loop-c.invariant (omega arith) _ _ c.low.ensures c.low-in-loop-c.ensures

pub returns : goal.returns
returns c = channels-end _ _ _ c.loop-c.invariant (omega arith) (omega arith)
