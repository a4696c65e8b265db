use native.Mathlib.Omega.{arith}
use mathlib.Core.Path.{refl}
use Rattle.recv_restore.proofs.Values.{bits-begin, bits-more, window-is}
use Rattle.recv_restore.proofs.front.window_at.Goals as goal

pub loop-k-init : goal.loop-k-init
loop-k-init c = bits-begin _ _

pub loop-k-preserved : goal.loop-k-preserved
loop-k-preserved c = bits-more _ _ _ _ c.loop-k.invariant (omega arith) _ c.byte.ensures

pub returns : goal.returns
returns c = window-is _ _ _ _ _ _ (c.low-low.ensures c.requires.narrow) refl _ (omega arith) c.loop-k.invariant (omega arith) (omega arith)
