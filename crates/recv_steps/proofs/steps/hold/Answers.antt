use Rattle.recv_steps.proofs.Wholes.{early-put, early-full}
use borrow.Author.Rules.{rules}
use Rattle.recv_steps.proofs.steps.hold.Goals as goal

pub returns-then-put_frame : goal.returns-then-put_frame
returns-then-put_frame c = search (rules, early-put)

pub returns : goal.returns
returns c = search (rules, early-full)
