use Rattle.base.proofs.Runs.{Left}
use Rattle.window.specs.Words.{word_places, ones_from}
use Rattle.window.proofs.words.put_ones.Given as goal

abbrev pub invariant-loop-x : goal.invariant-loop-x
invariant-loop-x l =
    Left l.p (ones_from l.n word_places l.ones) l.initial.list l.q (ones_from l.n word_places l.x) l.list

abbrev pub decreases-loop-x : goal.decreases-loop-x
decreases-loop-x l = l.x
