use Rattle.base.proofs.Puts.{run-then}
use borrow.Author.Rules.{rules}
use Rattle.recv_save.specs.Slots.{piece_bytes}
use Rattle.recv_save.proofs.slots.put_piece.Goals as goal

pub returns : goal.returns
unfolding piece_bytes
returns c = search (rules, run-then)
