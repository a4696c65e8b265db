use mathlib.Core.Path.{◌∙◌, refl}
use mathlib.Core.Bool.{not, ◌||◌}
use Prim.Native.Nat.{ℕ, ◌+◌}
use lib.Dec.{ltb}
use borrow.Author.Rules.{rules}
use borrow.Author.Tests.{tests}
use Rattle.std.proofs.lemmas.Iterator.{YieldsList-from_range}
use Rattle.std.proofs.lemmas.Iterator.Search.{all_from_yields_List}
use Rattle.base.specs.Limits.{numbers24, window_places}
use Rattle.window.specs.Places.{place_set}
use Rattle.sound_queue.proofs.Chains.{range_below}
use Rattle.sound_queue.proofs.Rules.{places_below}
use Rattle.sound_queue.proofs.places_within.Goals as goal

pub returns : goal.returns
returns c =
    let w = c.args.window.now in
    all_from_yields_List (λ (k : ℕ). ltb (w.low + k + 1) numbers24 || not (place_set w.bits (w.low + k + 1)))
    _ _ _ c.all.ensures.ran (YieldsList-from_range 0 window_places window_places (cc) refl) (λ x b q k. search (rules, tests))
    ∙ range_below _ window_places ∙ places_below w window_places
