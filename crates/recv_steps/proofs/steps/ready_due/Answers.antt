use Rattle.recv_steps.proofs.CountChanges.{counts-after}
use Rattle.recv_steps.proofs.Wholes.{due-put, due-full}
use borrow.Author.Rules.{rules}
use Rattle.recv_steps.proofs.steps.ready_due.Goals as goal

pub follows-requires-clause-can_count : goal.follows-requires-clause-can_count
follows-requires-clause-can_count c = search (rules, counts-after)

pub returns-then-put_frame : goal.returns-then-put_frame
returns-then-put_frame c = let put = c.put_frame.ensures in
    due-put _ _ _ _ _ put.room put.put c.if-put_frame.true _ _ c.make_one-t.ensures _ _ _ c.follows.ensures

pub returns : goal.returns
returns c = search (rules, due-full)
