use Rattle.base.proofs.Puts.{run-then}
use borrow.Author.Rules.{rules}
use Rattle.recv_save.specs.Slots.{body_bytes}
use Rattle.recv_save.proofs.slots.put_body.Goals as goal

pub returns : goal.returns
unfolding body_bytes
returns c = search (rules, run-then)
