use Rattle.recv_steps.proofs.Wholes.{whole-late, whole-early, whole-due, whole-newer, whole-free}
use borrow.Author.Rules.{rules}
use Rattle.recv_steps.proofs.steps.whole.Goals as goal

pub returns-in-Late : goal.returns-in-Late
returns-in-Late c = search (rules, whole-late)

pub returns-in-Early : goal.returns-in-Early
returns-in-Early c = search (rules, whole-early)

pub returns-in-Due : goal.returns-in-Due
returns-in-Due c = search (rules, whole-due)

pub returns-in-Newer : goal.returns-in-Newer
returns-in-Newer c = search (rules, whole-newer)

pub returns-in-Free : goal.returns-in-Free
returns-in-Free c = search (rules, whole-free)
