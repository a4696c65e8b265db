use mathlib.Core.Path.{◌∙◌}
use native.Mathlib.Omega.{arith}
use lib.Seq.{length-take-le}
use Rattle.recv_steps.proofs.ByParts.{parts_fit}
use Rattle.recv_steps.proofs.steps.datagram.parts.receive_rows.Goals as goal

pub returns : goal.returns
returns c =
    let long = c.receive_made.auto.rows ∙ length-take-le _ _ (omega (arith, c.min-m.ensures)) in
    parts_fit c.args.h c.args.dbits.now c.args.rbits.now c.args.nexts.now c.args.unsent.now c.args.k c.args.cells c.args.rows.now
    c.args.store.now c.args.datagram.now c.arrays_fit.ensures c.if-not-arrays_fit.false c.queue_of-queue.ensures _ c.min-m.ensures _ long
    c.receive_made.result _ _ _ c.receive_made.ensures
