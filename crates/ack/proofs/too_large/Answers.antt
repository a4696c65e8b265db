use lib.Dec.{leb}
use native.Mathlib.Omega.{arith}
use borrow.Author.Rules.{rules}
use borrow.Author.Tests.{tests}
use Rattle.std.proofs.lemmas.Iterator.{YieldsList-from_slice}
use Rattle.std.proofs.lemmas.Iterator.Search.{any_from_yields_List}
use Rattle.base.specs.Limits.{numbers24}
use Rattle.ack.proofs.PassCases.{over_is}
use Rattle.ack.proofs.too_large.Goals as goal

pub returns-else-numbers-gt-MAX_LIST : goal.returns-else-numbers-gt-MAX_LIST
returns-else-numbers-gt-MAX_LIST c =
    let numbers = c.args.numbers.now in
    over_is numbers (omega arith) _
    (any_from_yields_List (leb numbers24) _ _ _ c.any.ensures.ran (YieldsList-from_slice numbers cc) (λ x b q k. search (rules, tests)))
