use Rattle.recv_steps.proofs.Joining.{ready_turned}
use borrow.Author.Rules.{rules}
use Rattle.recv_steps.proofs.steps.turn_ready.Goals as goal

pub returns-clause-is : goal.returns-clause-is
returns-clause-is c = search (rules, ready_turned)
