use Rattle.recv_steps.proofs.Joining.{kept-joins, kept-waits}
use borrow.Author.Rules.{rules}
use Rattle.recv_steps.proofs.steps.piece_kept.Goals as goal

pub returns-then-n-kept : goal.returns-then-n-kept
returns-then-n-kept c = search (rules, kept-joins)

pub returns : goal.returns
returns c = search (rules, kept-waits)
