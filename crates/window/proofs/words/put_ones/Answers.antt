use borrow.Author.Rules.{rules}
use Rattle.window.proofs.ByWords.{lowest-put, all-put}
use Rattle.window.proofs.words.put_ones.Goals as goal

pub loop-x-preserved : goal.loop-x-preserved
loop-x-preserved c = search (rules, lowest-put)

pub returns : goal.returns
returns c = search (rules, all-put)
