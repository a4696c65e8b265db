use Rattle.frame_write.proofs.WriteCases.{start_is}
use borrow.Author.Rules.{rules}
use Rattle.frame_write.proofs.write.put_start.Goals as goal

pub returns : goal.returns
returns c = search (rules, start_is)
