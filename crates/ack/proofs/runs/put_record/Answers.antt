use Rattle.ack.proofs.PassCases.{put-single, put-range}
use borrow.Author.Rules.{rules}
use Rattle.ack.proofs.runs.put_record.Goals as goal

pub returns-in-len1 : goal.returns-in-len1
returns-in-len1 c = search (rules, put-single)

pub returns-in-len2-up : goal.returns-in-len2-up
returns-in-len2-up c = search (rules, put-range)
