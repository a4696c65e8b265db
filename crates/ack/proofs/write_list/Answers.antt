use Rattle.ack.proofs.WriteCases.{few-records, written_is}
use borrow.Author.Rules.{rules}
use Rattle.ack.proofs.write_list.Goals as goal

pub put_list-requires : goal.put_list-requires
put_list-requires c = search (rules, few-records)

pub returns-clause-out_after : goal.returns-clause-out_after
returns-clause-out_after c = search written_is
