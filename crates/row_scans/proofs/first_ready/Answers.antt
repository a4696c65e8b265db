use borrow.Author.Rules.{rules}
use borrow.Author.Tests.{tests}
use Rattle.std.proofs.lemmas.Iterator.{YieldsList-from_slice}
use Rattle.std.proofs.lemmas.Iterator.Consumers.{YieldsList-from_filter, YieldsList-from_enumerate}
use Rattle.cells.specs.Records.{first_cell}
use Rattle.row_scans.proofs.Earliest.{ready_found}
use Rattle.row_scans.proofs.first_ready.Goals as goal

pub returns : goal.returns
returns c = ready_found _ c.args.rows.now _ c.min_by_key.ensures.ran
    (YieldsList-from_filter _ (λ p. first_cell p.1.cell) (YieldsList-from_enumerate (YieldsList-from_slice _ cc) cc)
    c.filter.ensures.closure (λ x b q k. search (rules, tests)))
    (λ x k q h. search (rules, tests)) _ (search rules)
