-- The missing list of three windows, by computation over the definitions. (The bench lines on inserts are in the crate bench_lines.)
-- Assumes nothing.
use mathlib.Core.Path.{◌≡◌, refl}
use mathlib.Core.List.{[], ◌∷◌}
use lib.ListN.{replicate}
use Rattle.base.specs.If.{if_true, if_lt, if_le, if_eq}
use Rattle.base.specs.Put.{and_then}
use Rattle.window.specs.Places.{bit, place_set, set_place, clear_place}
use Rattle.window.specs.Window.{window_of, new_window, accepted, advance, accept, insert_of}
use Rattle.window.specs.Missing.{highest, unless_accepted, missing_of, missing}

-- "Missing numbers ..; none before the first": of a new window; after 0, 2 and 5 were accepted; with low 2^24 - 1 and the place of 2^24 + 1
-- set
pub missing-numbers :
    (missing new_window ≡ [])
    × (missing (insert_of (insert_of (insert_of new_window 0).window 2).window 5).window ≡ 1 ∷ 3 ∷ 4 ∷ [])
    × (missing (window_of 16777215 (2 ∷ replicate 255 0)) ≡ 16777215 ∷ [])
unfolding new_window insert_of accept advance accepted place_set set_place clear_place bit if_true if_lt if_le if_eq missing missing_of
    unless_accepted highest and_then
missing-numbers = (refl, refl, refl)
