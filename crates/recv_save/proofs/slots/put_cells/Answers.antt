use Rattle.base.proofs.Puts.{run-then}
use borrow.Author.Rules.{rules}
use Rattle.recv_save.specs.Slots.{cells_bytes}
use Rattle.recv_save.proofs.slots.put_cells.Goals as goal

pub returns : goal.returns
unfolding cells_bytes
returns c = search (rules, run-then)
