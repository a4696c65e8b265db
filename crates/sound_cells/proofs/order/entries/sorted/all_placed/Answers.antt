use mathlib.Core.Path.{refl, ◌∙◌}
use native.Mathlib.Omega.{arith}
use lib.ListN.{length}
use borrow.Author.Rules.{rules}
use borrow.Author.Tests.{tests}
use Rattle.std.proofs.lemmas.Iterator.{YieldsList-from_range}
use Rattle.std.proofs.lemmas.Iterator.Search.{all_from_yields_List}
use Rattle.receiver.specs.Queue.{next_in}
use Rattle.sound_cells.specs.Sorted.{is_placed_entry}
use Rattle.sound_cells.proofs.Numbered.{all-below}
use Rattle.sound_cells.proofs.order.entries.sorted.all_placed.Goals as goal

pub returns : goal.returns
returns c =
    let n = length c.args.rows.now in
    let placed = is_placed_entry c.args.rows.now (next_in c.args.channels.now) c.args.entries.now c.args.places.now in
    all_from_yields_List placed _ _ _ c.all.ensures.ran (YieldsList-from_range 0 n n refl (omega arith)) (λ i t q k. search (rules, tests))
    ∙ all-below placed n
