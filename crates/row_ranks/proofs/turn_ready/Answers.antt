use mathlib.Core.Path.{refl, ◌∙◌}
use Rattle.cells.specs.Cell.{ready_use}
use Rattle.row_tests.specs.Uses.{uses}
use Rattle.row_sweeps.proofs.Sweeps.{kept_set, swept-here, swept-left, swept-all}
use Rattle.row_ranks.proofs.turn_ready.Goals as goal
use Rattle.row_ranks.proofs.turn_ready.Goals.{then-is_used_as, else-is_used_as}

pub loop-r-init : goal.loop-r-init
loop-r-init g c = record { kept = refl; is = λ h k. refl }

pub loop-r-preserved : goal.loop-r-preserved
loop-r-preserved g c =
    let l = c.loop-r-test.true in
    let so = c.loop-r.invariant in
    elim c.if-is_used_as.branch [
      | then-is_used_as w ↦ record {
        kept = kept_set _ _ _ so.kept _ w.rows-is;
        is = λ h k. swept-here _ _ _ so.kept _ l (uses ready_use) c.is_used_as.ensures h (so.is h k)
            w.if-is_used_as.true (w.mark_row.ensures ∙ k _ _ w.turn_of.ensures) w.rows-is;
      }
      | else-is_used_as w ↦ record {
        kept = kept_set _ _ _ so.kept _ w.rows-is;
        is = λ h k. swept-left _ _ _ so.kept _ l (uses ready_use) c.is_used_as.ensures h (so.is h k)
            w.if-is_used_as.false w.rows-is;
      }
    ]

pub returns : goal.returns
returns g c = λ h k. c.loop-r.invariant.is h k ∙ swept-all (uses ready_use) h _ _ c.loop-r-test.false
