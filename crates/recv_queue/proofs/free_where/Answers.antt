use mathlib.Core.Path.{refl, ◌∙◌}
use Rattle.std.proofs.lemmas.Fn.{says_at}
use Rattle.recv_queue.proofs.Freed.{freed_here, freed_left}
use Rattle.recv_queue.proofs.free_where.Goals as goal
use Rattle.recv_queue.proofs.free_where.Goals.{then-test, else-test}

pub loop-r-preserved : goal.loop-r-preserved
loop-r-preserved g c = λ p h.
    let so = c.loop-r.invariant p h in
    let tested = h _ _ (says_at g.F.Fn c.test.ensures refl) in
    let l = c.loop-r-test.true in
    let m = c.loop-r.auto.records in
    elim c.if-test.branch [
      | then-test w ↦ w.records-is ∙ freed_here p _ _ _ so _ tested l m _ w.unused.ensures w.if-test.true
      | else-test w ↦ w.records-is ∙ freed_left p _ _ _ so _ tested l m w.if-test.false
    ]
