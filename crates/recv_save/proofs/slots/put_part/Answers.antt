use Rattle.base.proofs.Runs.{runs}
use Rattle.recv_save.proofs.Each.{run_skip}
use borrow.Author.Rules.{rules}
use Rattle.recv_save.specs.Slots.{part_bytes}
use Rattle.recv_save.proofs.slots.put_part.Goals as goal

pub returns-then-c-ne0 : goal.returns-then-c-ne0
unfolding part_bytes
returns-then-c-ne0 c = search (rules, runs, run_skip)

pub returns : goal.returns
unfolding part_bytes
returns c = search (rules, runs, run_skip)
