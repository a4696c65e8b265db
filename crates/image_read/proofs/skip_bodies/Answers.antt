use native.Mathlib.Omega.{arith}
use Rattle.image_read.proofs.Ending.{going-begins, going-on, going-cut}
use Rattle.image_read.proofs.skip_bodies.Goals as goal

pub loop-init : goal.loop-init
loop-init c = going-begins _ _ _ _

pub returns-in_err-at : goal.returns-in_err-at
returns-in_err-at c = rw c.from_residual.ensures (going-cut _ _ _ _ _ _ c.loop.invariant (omega arith) c.in_err-at.ensures)

pub loop-preserved : goal.loop-preserved
loop-preserved c = going-on _ _ _ _ _ _ c.loop.invariant (omega arith) _ c.in_ok-at.ensures
