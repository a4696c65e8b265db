use borrow.Author.Rules.{rules}
use Rattle.std.proofs.lemmas.Iterator.{YieldsList-from_slice}
use Rattle.std.proofs.lemmas.Iterator.Consumers.{fold_from_yields_List}
use Rattle.sound_queue.specs.Sound.{join_channel, joined}
use Rattle.sound_queue.proofs.join.Goals as goal

pub returns : goal.returns
unfolding joined
returns c =
    fold_from_yields_List _ join_channel 0 _ c.fold.ensures.ran (YieldsList-from_slice c.args.channels.now cc) (λ a x b q k. search rules)
