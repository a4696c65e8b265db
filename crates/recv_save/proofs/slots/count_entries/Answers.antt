use native.Mathlib.Omega.{arith}
use Rattle.rows.proofs.Tests.{byte-le, count_none, count-step}
use Rattle.recv_save.specs.Slots.{begins}
use Rattle.recv_save.proofs.slots.count_entries.Goals as goal

pub loop-r-init : goal.loop-r-init
loop-r-init c = (omega arith, count_none (begins c.args.used))

pub loop-r-preserved : goal.loop-r-preserved
loop-r-preserved c = (
  omega (arith, c.from-n.ensures, byte-le c.begins.result),
  count-step (begins c.args.used) _ _ _ c.loop-r-test.true c.begins.ensures c.from-n.ensures c.loop-r.invariant.1,
)
