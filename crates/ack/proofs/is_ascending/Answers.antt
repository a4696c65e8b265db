use lib.Dec.{ltb}
use borrow.Author.Rules.{rules}
use borrow.Author.Tests.{tests}
use Rattle.std.proofs.lemmas.List.Sorted.{answers_always}
use Rattle.ack.proofs.PassCases.{ascending-is}
use Rattle.ack.proofs.is_ascending.Goals as goal

pub returns : goal.returns
returns c = ascending-is _ _ (c.is_sorted_by.ensures.cases ltb (answers_always _ _ _ (λ f a r g h. search (rules, tests))))
