use Rattle.base.proofs.Puts.{run-then}
use Rattle.frame_write.specs.Write.{frame_bytes}
use borrow.Author.Rules.{rules}
use Rattle.frame_write.proofs.write.put_frame.Goals as goal

pub returns : goal.returns
unfolding frame_bytes
returns c = search (rules, run-then)
