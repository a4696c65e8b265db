use Rattle.base.proofs.Puts.{run-then}
use borrow.Author.Rules.{rules}
use Rattle.recv_save.specs.Slots.{four_bytes}
use Rattle.recv_save.proofs.slots.put_four.Goals as goal

pub returns : goal.returns
unfolding four_bytes
returns c = search (rules, run-then)
