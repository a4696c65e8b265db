use Rattle.row_ranks.proofs.Renumbering.{copy-starts, copy-yes, copy-no, copy-ends}
use Rattle.row_ranks.proofs.copy_firsts.Goals as goal
use Rattle.row_ranks.proofs.copy_firsts.Goals.{then-is_first, else-is_first}

pub loop-r-init : goal.loop-r-init
loop-r-init c = copy-starts _ _

pub loop-r-preserved : goal.loop-r-preserved
loop-r-preserved c = elim c.if-is_first.branch [
  | then-is_first w ↦ rw (w.turns-is, w.m-is)
      (copy-yes _ _ c.loop-r.invariant _ c.loop-r-test.true c.is_first.ensures w.if-is_first.true c.requires)
  | else-is_first w ↦ rw (w.turns-is, w.m-is) (copy-no _ _ c.loop-r.invariant _ c.loop-r-test.true c.is_first.ensures w.if-is_first.false)
]

pub returns : goal.returns
returns c = let e = copy-ends _ _ c.loop-r.invariant c.loop-r-test.false c.loop-r.auto.r-index-end in
    record { count = e.0; few = e.1.0; front = e.1.1 }
