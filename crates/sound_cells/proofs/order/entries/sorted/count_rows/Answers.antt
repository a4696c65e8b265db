use borrow.Author.Rules.{rules}
use borrow.Author.Tests.{tests}
use Rattle.rows.proofs.Rows.{row_here}
use Rattle.sound_cells.proofs.EntryCases.{tally-more}
use Rattle.sound_cells.proofs.order.entries.sorted.count_rows.Goals as goal

pub loop-i-preserved : goal.loop-i-preserved
loop-i-preserved c = tally-more _ _ _ _ c.loop-i.invariant {p = c.unwrap_or_default-place.result} (row_here _ _ _ c.loop-i-test.true)
    (search (rules, tests)) c.count_cell.ensures
