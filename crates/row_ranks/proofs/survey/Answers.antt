use mathlib.Core.Path.{refl, ◌∙◌}
use native.Mathlib.Omega.{arith}
use Rattle.row_ranks.proofs.Surveys.{survey-starts, survey-other, survey-ready, survey-ends, few-firsts}
use Rattle.row_ranks.proofs.survey.Goals as goal
use Rattle.row_ranks.proofs.survey.Goals.{then-is_used_as+then-new-r, else-is_used_as}

pub loop-r-init : goal.loop-r-init
loop-r-init c = survey-starts _ _ refl

pub with_turn-t-requires : goal.with_turn-t-requires
with_turn-t-requires c = omega (arith, few-firsts _ c.loop-r.invariant c.loop-r.auto.r-index-end, c.requires.1)

pub loop-r-preserved : goal.loop-r-preserved
loop-r-preserved c = elim c.if-is_used_as.branch [
  | then-is_used_as+then-new-r w ↦ survey-ready _ c.loop-r.invariant _ c.loop-r-test.true c.is_used_as.ensures c.requires.0
      w.if-is_used_as.true w.is_new-new.ensures.is w.if-new-r.true (w.marks-is ∙ w.is_new-new.ensures.marks)
      (w.t-is ∙ w.with_turn-t.ensures)
  | else-is_used_as w ↦ rw (w.marks-is, w.t-is)
      (survey-other _ c.loop-r.invariant _ c.loop-r-test.true c.is_used_as.ensures w.if-is_used_as.false)
]

pub returns : goal.returns
returns c = survey-ends _ c.loop-r.invariant c.loop-r-test.false
