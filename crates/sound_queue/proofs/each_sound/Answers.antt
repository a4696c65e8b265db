use mathlib.Core.Path.{◌∙◌}
use borrow.Author.Rules.{rules}
use Rattle.std.proofs.lemmas.Iterator.{YieldsList-from_slice}
use Rattle.std.proofs.lemmas.Iterator.Search.{all_from_yields_List}
use Rattle.sound_queue.specs.Sound.{sound_number}
use Rattle.sound_queue.proofs.Chains.{every_all}
use Rattle.sound_queue.proofs.each_sound.Goals as goal

pub returns : goal.returns
returns c =
    let numbers = c.args.numbers.now in
    let sound = sound_number c.args.window.now in
    all_from_yields_List sound _ _ _ c.all.ensures.ran (YieldsList-from_slice numbers cc) (λ x b q k. search rules)
    ∙ every_all sound numbers
