use mathlib.Core.Path.{◌∙◌}
use lib.Dec.{leb}
use borrow.Author.Rules.{rules}
use borrow.Author.Tests.{tests}
use Rattle.std.proofs.lemmas.Iterator.Adapters.{YieldsList-from_rev_slice}
use Rattle.std.proofs.lemmas.Iterator.Search.{all_from_yields_List, YieldsList-from_take_while}
use Rattle.sound_queue.specs.Sound.{sound_number}
use Rattle.sound_queue.proofs.Ascending.{high-decides}
use Rattle.sound_queue.proofs.Chains.{every_all}
use Rattle.sound_queue.proofs.Rules.{sound-below}
use Rattle.sound_queue.proofs.sound_rising.Goals as goal

pub returns : goal.returns
returns c =
    let w = c.args.window.now in
    let numbers = c.args.numbers.now in
    let sound = sound_number w in
    all_from_yields_List sound _ _ c.all.result c.all.ensures.ran
    (YieldsList-from_take_while _ (leb w.low) (YieldsList-from_rev_slice numbers cc) c.take_while.ensures.closure c.take_while.ensures.done
    (λ x b q k. search (rules, tests)))
    (λ x b q k. search (rules, tests))
    ∙ high-decides w.low sound (sound-below w c.requires.low_bound) numbers c.requires.rising ∙ every_all sound numbers
