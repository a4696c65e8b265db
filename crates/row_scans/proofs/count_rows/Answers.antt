use mathlib.Core.Path.{refl}
use native.Mathlib.Omega.{arith}
use Rattle.std.proofs.lemmas.Fn.{says_at}
use Rattle.rows.proofs.Tests.{byte-le, count_none, count-step}
use Rattle.row_scans.proofs.count_rows.Goals as goal

pub loop-r-init : goal.loop-r-init
loop-r-init g c = (omega arith, λ p h. count_none p)

pub loop-r-preserved : goal.loop-r-preserved
loop-r-preserved g c = (
  omega (arith, c.from-n.ensures, byte-le c.test.result),
  λ p h. count-step p _ _ _ c.loop-r-test.true (h _ _ (says_at g.F.Fn c.test.ensures refl))
      c.from-n.ensures (c.loop-r.invariant.1 p h),
)
