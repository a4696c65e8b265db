use Rattle.base.proofs.Runs.{runs}
use Rattle.frame_write.specs.Write.{meta_bytes}
use borrow.Author.Rules.{rules}
use Rattle.frame_write.proofs.write.put_meta.Goals as goal

pub returns-then-not-piece : goal.returns-then-not-piece
unfolding meta_bytes
returns-then-not-piece c = search (rules, runs)

pub returns : goal.returns
unfolding meta_bytes
returns c = let id = rw c.from.ensures at c.put16-b.ensures in search (rules, runs)
