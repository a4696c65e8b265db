use Rattle.frame_write.proofs.HeadCases.{answer-large, answer-short, answer-written, output-large, output-short, output-written}
use borrow.Author.Rules.{rules}
use Rattle.frame_write.proofs.head.write_head.Goals as goal

pub returns-then-number-ge-NUMBERS_24 : goal.returns-then-number-ge-NUMBERS_24
returns-then-number-ge-NUMBERS_24 c = search (rules, answer-large, output-large)

pub returns-then-out-lt-MIN_DATAGRAM : goal.returns-then-out-lt-MIN_DATAGRAM
returns-then-out-lt-MIN_DATAGRAM c = search (rules, answer-short, output-short)

pub returns : goal.returns
returns c = search (rules, answer-written, output-written)
