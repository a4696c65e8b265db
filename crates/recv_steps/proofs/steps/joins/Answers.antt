use Rattle.recv_steps.proofs.CountChanges.{counts-after}
use Rattle.recv_steps.proofs.Joining.{joins-late, joins-early, joins-due, joins-newer, joins-free}
use borrow.Author.Rules.{rules}
use Rattle.recv_steps.proofs.steps.joins.Goals as goal

pub follows-requires-clause-can_count : goal.follows-requires-clause-can_count
follows-requires-clause-can_count c = search (rules, counts-after)

pub returns-in-Late : goal.returns-in-Late
returns-in-Late c = search (rules, joins-late)

pub returns-in-Early : goal.returns-in-Early
returns-in-Early c = search (rules, joins-early)

pub returns-in-Due : goal.returns-in-Due
returns-in-Due c = joins-due _ _ _ _ _ _ c.fate_of.ensures c.into-id.ensures _ c.turn_ready-t.ensures.is c.in-Due.is _ _ _
    c.follows.ensures

pub returns-in-Newer : goal.returns-in-Newer
returns-in-Newer c = search (rules, joins-newer)

pub returns-in-Free : goal.returns-in-Free
returns-in-Free c = search (rules, joins-free)
