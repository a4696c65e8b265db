use Rattle.frame_write.proofs.WriteCases.{fields-is}
use Rattle.base.proofs.Puts.{run-then}
use Rattle.frame_write.specs.Write.{header_bytes}
use borrow.Author.Rules.{rules}
use Rattle.frame_write.proofs.write.put_header.Goals as goal

pub returns : goal.returns
unfolding header_bytes
returns c = search (rules, fields-is, run-then)
