use borrow.Author.Rules.{rules}
use borrow.Author.Tests.{tests}
use Rattle.std.proofs.lemmas.Iterator.{YieldsList-from_slice}
use Rattle.std.proofs.lemmas.Iterator.Search.{all_from_yields_List}
use Rattle.receiver.specs.Queue.{next_in}
use Rattle.rows.specs.Rows.{cells_in}
use Rattle.sound_cells.specs.Counted.{counted_cell}
use Rattle.sound_cells.proofs.Scans.{all-sound}
use Rattle.sound_cells.proofs.by_pairs.Goals as goal

pub returns : goal.returns
returns c = all-sound _ _ (all_from_yields_List (λ r. counted_cell (cells_in c.args.rows.now) (next_in c.args.channels.now) r.cell)
    _ _ _ c.all.ensures.ran (YieldsList-from_slice _ cc) (λ r t q k. search (rules, tests)))
