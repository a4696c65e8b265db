use mathlib.Core.Path.{refl, ◌∙◌}
use native.Mathlib.Omega.{arith}
use Rattle.std.proofs.lemmas.Fn.{says_at}
use Rattle.rows.proofs.Tests.{byte-le, count_none}
use Rattle.row_sweeps.proofs.Sweeps.{kept_set, counted-more, swept-here, swept-left, swept-all}
use Rattle.row_sweeps.proofs.sweep.Goals as goal
use Rattle.row_sweeps.proofs.sweep.Goals.{then-passes, else-passes}

pub loop-r-init : goal.loop-r-init
loop-r-init g c = record { kept = refl; few = omega arith; many = λ p t. count_none p; is = λ p h t k. refl }

pub loop-r-preserved : goal.loop-r-preserved
loop-r-preserved g c =
    let l = c.loop-r-test.true in
    let so = c.loop-r.invariant in
    let said = says_at g.P.Fn c.test-passes.ensures refl in
    elim c.if-passes.branch [
      | then-passes w ↦ record {
        kept = kept_set _ _ _ so.kept _ w.rows-is;
        few = omega (arith, so.few, c.from-n.ensures, byte-le c.test-passes.result);
        many = λ p t. counted-more _ _ _ so.kept _ l p (t _ _ said) c.from-n.ensures (so.many p t);
        is = λ p h t k. swept-here _ _ _ so.kept _ l p (t _ _ said) h (so.is p h t k) w.if-passes.true (k _ _ w.change.ensures) w.rows-is;
      }
      | else-passes w ↦ record {
        kept = kept_set _ _ _ so.kept _ w.rows-is;
        few = omega (arith, so.few, c.from-n.ensures, byte-le c.test-passes.result);
        many = λ p t. counted-more _ _ _ so.kept _ l p (t _ _ said) c.from-n.ensures (so.many p t);
        is = λ p h t k. swept-left _ _ _ so.kept _ l p (t _ _ said) h (so.is p h t k) w.if-passes.false w.rows-is;
      }
    ]

pub returns-clause-is : goal.returns-clause-is
returns-clause-is g c = λ p h t k. c.loop-r.invariant.is p h t k ∙ swept-all p h _ _ c.loop-r-test.false
