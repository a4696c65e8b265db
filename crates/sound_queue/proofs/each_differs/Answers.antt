use mathlib.Core.Path.{◌∙◌, refl}
use borrow.Author.Rules.{rules}
use Rattle.std.proofs.lemmas.Iterator.{YieldsList-from_slice}
use Rattle.std.proofs.lemmas.Iterator.Consumers.{YieldsList-from_enumerate}
use Rattle.std.proofs.lemmas.Iterator.Search.{all_from_yields_List}
use Rattle.sound_queue.proofs.Rules.{fresh, all_fresh}
use Rattle.sound_queue.proofs.each_differs.Goals as goal

pub returns : goal.returns
returns c =
    let numbers = c.args.numbers.now in
    all_from_yields_List (fresh numbers) _ _ _ c.all.ensures.ran (YieldsList-from_enumerate (YieldsList-from_slice numbers cc) cc)
    (λ x b q k. search rules)
    ∙ all_fresh numbers numbers 0 refl
