use borrow.Author.Rules.{rules}
use Rattle.window.proofs.Accepted.{not_behind}
use Rattle.window.proofs.insert_in.Goals as goal

pub overflow_sub-n : goal.overflow_sub-n
overflow_sub-n c = search (rules, not_behind)
