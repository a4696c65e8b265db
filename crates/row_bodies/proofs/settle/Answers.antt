use native.Mathlib.Omega.{arith}
use Rattle.row_bodies.proofs.Flushing.{settling-begins, settling-goes, settling-ends}
use Rattle.row_bodies.proofs.settle.Goals as goal

pub loop-i-init : goal.loop-i-init
loop-i-init c = settling-begins _ _ _

pub loop-i-preserved : goal.loop-i-preserved
loop-i-preserved c = settling-goes _ _ _ _ _ _ c.loop-i.invariant (omega arith) _ _ _ c.settle_row.ensures c.flush_row.ensures

pub returns : goal.returns
returns c = let p = settling-ends _ _ _ _ _ _ c.loop-i.invariant (omega arith) in record { rows = p.0; store = p.1 }
