use borrow.Author.Rules.{rules}
use borrow.Author.Tests.{tests}
use Rattle.std.proofs.lemmas.Iterator.{YieldsList-from_slice}
use Rattle.row_tests.specs.Uses.{uses}
use Rattle.row_scans.proofs.Found.{unused_found, index_found}
use Rattle.row_scans.proofs.first_unused.Goals as goal

pub returns : goal.returns
returns c = unused_found _ _ _ (index_found (uses 0) _ _ _ _ c.position.ensures.ran (YieldsList-from_slice _ cc)
    (λ r t q k. search (rules, tests)))
