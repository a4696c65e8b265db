use Rattle.base.proofs.Puts.{run-then}
use borrow.Author.Rules.{rules}
use Rattle.recv_save.specs.Front.{front_bytes}
use Rattle.recv_save.proofs.front.put_front.Goals as goal

pub returns : goal.returns
unfolding front_bytes
returns c = search (rules, run-then)
