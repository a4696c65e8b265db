use borrow.Author.Rules.{rules}
use Rattle.missing_plain.proofs.Steps.{scan-set, scan-clear, scan-done}
use Rattle.missing_plain.proofs.highest.Goals as goal

pub returns-then-place_set : goal.returns-then-place_set
returns-then-place_set c = search (rules, scan-set)

pub loop-k-preserved : goal.loop-k-preserved
loop-k-preserved c = search (rules, scan-clear)

pub returns : goal.returns
returns c = search (rules, scan-done)
