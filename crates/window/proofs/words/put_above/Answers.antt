use borrow.Author.Rules.{rules}
use native.Mathlib.Omega.{arith}
use Rattle.window.proofs.ByWords.{above-none, above-more}
use Rattle.window.proofs.words.put_above.Goals as goal

pub loop-j-init : goal.loop-j-init
loop-j-init c = search (rules, above-none)

pub loop-j-preserved : goal.loop-j-preserved
loop-j-preserved c =
    above-more _ _ _ _ _ _ _ _ _ _ _ _ (omega arith) (omega arith) (omega arith) c.between.ensures c.word.ensures c.loop-j.invariant
    c.put_ones-q.ensures
