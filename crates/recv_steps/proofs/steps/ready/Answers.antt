use Rattle.recv_steps.proofs.Wholes.{free-put, free-full}
use borrow.Author.Rules.{rules}
use Rattle.recv_steps.proofs.steps.ready.Goals as goal

pub returns-then-put_frame : goal.returns-then-put_frame
returns-then-put_frame c = search (rules, free-put)

pub returns : goal.returns
returns c = search (rules, free-full)
