use mathlib.Core.Path.{◌∙◌, sym}
use borrow.Author.Rules.{rules}
use Rattle.window.proofs.Steps.{advance-none, advance-clear, advance-set}
use Rattle.window.proofs.advanced.Goals as goal

pub returns-then-not-place_set : goal.returns-then-not-place_set
returns-then-not-place_set c = search (rules, advance-clear)

pub loop-n-preserved : goal.loop-n-preserved
loop-n-preserved c =
    advance-set _ _ _ _ c.loop-n.invariant c.loop-n-test.true _ c.place_set.ensures _ c.if-not-place_set.false
    (c.turn_place.ensures.clears (sym c.place_set.ensures ∙ c.if-not-place_set.false))

pub returns : goal.returns
returns c = search (rules, advance-none)
