use Rattle.base.proofs.Puts.{run-then}
use borrow.Author.Rules.{rules}
use Rattle.recv_save.specs.Front.{pair_bytes}
use Rattle.recv_save.proofs.front.put_pair.Goals as goal

pub returns : goal.returns
unfolding pair_bytes
returns c = search (rules, run-then)
