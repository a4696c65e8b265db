use mathlib.Core.Path.{sym, ◌∙◌}
use native.Mathlib.Omega.{arith}
use Rattle.recv_restore.proofs.Numbers.{none-tested, more-tested, one-fails}
use Rattle.recv_restore.proofs.are_narrow.Goals as goal

pub loop-i-init : goal.loop-i-init
loop-i-init c = none-tested _

pub returns-then-not-is_narrow : goal.returns-then-not-is_narrow
returns-then-not-is_narrow c = one-fails _ _ _ (omega arith) (sym c.is_narrow.ensures ∙ c.if-not-is_narrow.true)

pub loop-i-preserved : goal.loop-i-preserved
loop-i-preserved c = more-tested _ _ c.loop-i.invariant (sym c.is_narrow.ensures ∙ c.if-not-is_narrow.false)
