use borrow.Author.Rules.{rules}
use borrow.Author.Tests.{tests}
use Rattle.std.proofs.lemmas.Iterator.{YieldsList-from_slice}
use Rattle.row_scans.proofs.Found.{index_found}
use Rattle.row_scans.proofs.find_ready.Goals as goal

pub returns : goal.returns
returns c = index_found _ _ _ _ _ c.position.ensures.ran (YieldsList-from_slice _ cc) (λ r t q k. search (rules, tests))
