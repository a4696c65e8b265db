use mathlib.Core.Path.{sym, ◌∙◌}
use native.Mathlib.Omega.{arith}
use borrow.Author.Tests.{ltb-true, ltb-false}
use Rattle.recv_restore.specs.Front.{Unsent}
use Rattle.recv_restore.proofs.Values.{reading-begins, reading-stops, reading-on, reading-ends}
use Rattle.recv_restore.proofs.front.unsent_at.Goals as goal

pub loop-i-init : goal.loop-i-init
loop-i-init c = reading-begins _ _

pub returns-then-number-least : goal.returns-then-number-least
unfolding Unsent
returns-then-number-least c = reading-stops _ _ _ _ _ c.loop-i.invariant (omega arith)
    (λ can. let e = c.be64_at-number.ensures in let le = can.1 in omega arith)

pub returns-then-not-is_narrow : goal.returns-then-not-is_narrow
unfolding Unsent
returns-then-not-is_narrow c = reading-stops _ _ _ _ _ c.loop-i.invariant (omega arith)
    (λ can. let e = ltb-false _ _ (sym c.is_narrow.ensures ∙ c.if-not-is_narrow.true) in let lt = can.0 in omega arith)

pub loop-i-preserved : goal.loop-i-preserved
loop-i-preserved c = let e = c.be64_at-number.ensures in
    reading-on _ _ _ _ _ c.loop-i.invariant (omega arith) (let few = c.requires in omega arith)
    (ltb-true _ _ (sym c.is_narrow.ensures ∙ c.if-not-is_narrow.false)) (omega arith) _ c.low.ensures _ (omega arith)

pub returns : goal.returns
returns c = reading-ends _ _ _ _ _ c.loop-i.invariant (omega arith) (omega arith)
