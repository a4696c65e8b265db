use mathlib.Core.Path.{refl, sym, ◌∙◌}
use native.Mathlib.Omega.{arith}
use lib.Seq.{length-take-le}
use Rattle.recv_steps.proofs.ReceivingRows.{store-room, store-fit, part-fit, lengths_not, no_row, too_many, received}
use Rattle.recv_steps.proofs.steps.datagram.receive.receive_over.Goals.{then-n-eq0-via-then-n-eq0, then-n-eq0-via-else-n-eq0+then-cells-n}
use Rattle.recv_steps.proofs.steps.datagram.receive.receive_over.Goals as goal

pub returns-then-not-lengths_fit : goal.returns-then-not-lengths_fit
returns-then-not-lengths_fit c = lengths_not _ _ _ _ _ c.lengths_fit.ensures c.if-not-lengths_fit.true

pub returns-then-n-eq0 : goal.returns-then-n-eq0
returns-then-n-eq0 c =
    let fit = c.lengths_fit.ensures in
    let told = c.if-not-lengths_fit.false in
    elim c.then-n-eq0.branch [
      | then-n-eq0-via-then-n-eq0 w ↦ no_row _ _ _ _ _ fit told w.if-n-eq0.true
      | then-n-eq0-via-else-n-eq0+then-cells-n w ↦ too_many _ _ _ _ _ fit told w.if-cells-n.true
    ]

pub overflow_mul-n : goal.overflow_mul-n
overflow_mul-n c = store-fit _ _ (sym c.lengths_fit.ensures ∙ c.if-not-lengths_fit.false) _ (omega arith) (omega arith)

pub slice_bounds-receive_first-end : goal.slice_bounds-receive_first-end
slice_bounds-receive_first-end c = store-room _ _ (sym c.lengths_fit.ensures ∙ c.if-not-lengths_fit.false) _ (omega arith) (omega arith)

pub slice_bounds-receive_first-end-2 : goal.slice_bounds-receive_first-end-2
slice_bounds-receive_first-end-2 c =
    sym (length-take-le _ _ (store-room _ _ (sym c.lengths_fit.ensures ∙ c.if-not-lengths_fit.false) _ (omega arith) (omega arith)))

pub receive_first-requires : goal.receive_first-requires
receive_first-requires c = part-fit _ _ (sym c.lengths_fit.ensures ∙ c.if-not-lengths_fit.false) _ (omega arith) (omega arith)
    c.args.rows.now c.args.store.now refl refl

pub returns : goal.returns
returns c = received _ _ _ _ _ c.lengths_fit.ensures c.if-not-lengths_fit.false (omega arith) c.receive_first.ensures
