use borrow.Author.Rules.{rules}
use Rattle.sound_queue.proofs.Ascending.{pair_end}
use Rattle.sound_queue.proofs.is_ascending.Goals as goal

pub returns : goal.returns
returns c = search (rules, pair_end)
