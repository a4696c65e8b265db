use Rattle.ack.proofs.WriteCases.{put_all}
use borrow.Author.Rules.{rules}
use Rattle.ack.proofs.put_list.Goals as goal

pub returns : goal.returns
returns c = search (rules, put_all)
