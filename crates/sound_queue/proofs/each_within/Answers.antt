use mathlib.Core.Path.{◌∙◌}
use borrow.Author.Rules.{rules}
use borrow.Author.Tests.{tests}
use Rattle.std.proofs.lemmas.Iterator.{YieldsList-from_slice}
use Rattle.std.proofs.lemmas.Iterator.Search.{all_from_yields_List}
use Rattle.sound_queue.specs.Sound.{channel_within, nexts_within}
use Rattle.sound_queue.proofs.Chains.{every_all}
use Rattle.sound_queue.proofs.each_within.Goals as goal

pub returns : goal.returns
unfolding nexts_within channel_within
returns c =
    let channels = c.args.channels.now in
    all_from_yields_List channel_within _ _ _ c.all.ensures.ran (YieldsList-from_slice channels cc) (λ x b q k. search (rules, tests))
    ∙ every_all channel_within channels
