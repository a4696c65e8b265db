use Rattle.std.proofs.lemmas.Fn.{says_at}
use mathlib.Core.Path.{sym}
use Rattle.rows.proofs.Tests.{any_none, any-miss, any-hit}
use Rattle.row_scans.proofs.any_row.Goals as goal

pub loop-r-init : goal.loop-r-init
loop-r-init g c = λ p h. any_none p

pub returns-then-test : goal.returns-then-test
returns-then-test g c = λ p h. any-hit p _ _ _ c.loop-r-test.true (sym (h _ _ (says_at g.F.Fn c.test.ensures c.if-test.true)))
    (c.loop-r.invariant p h)

pub loop-r-preserved : goal.loop-r-preserved
loop-r-preserved g c = λ p h. any-miss p _ _ _ c.loop-r-test.true (sym (h _ _ (says_at g.F.Fn c.test.ensures c.if-test.false)))
    (c.loop-r.invariant p h)
