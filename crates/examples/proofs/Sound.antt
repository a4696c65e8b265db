-- Random examples: states that calls lead to, and the same with fields changed: sound or not.
-- Made by `model examples sound 28 20` (folder model/), an independent model of document 01; here they are computed.
-- Assumes nothing.
use mathlib.Core.Path.{◌≡◌, refl}
use mathlib.Core.Bool.{true, false}
use mathlib.Core.List.{[], ◌∷◌}
use Rattle.cells.specs.Cell.{empty_slot}
use Rattle.cells.proofs.Shown.{run, sound_at}
use Rattle.examples.proofs.Shown.{slot}

pub sound-28-0 :
    (sound_at 1 (slot 3 300 1 6 0 2 0 0 0 0 [] ∷ slot 3 300 0 6 0 2 0 0 0 0 (84 ∷ 84 ∷ []) ∷ empty_slot ∷ []) ≡ true)
    × (sound_at 1 (slot 3 300 1 6 0 2 0 0 2 0 [] ∷ slot 3 300 0 6 0 2 0 0 0 0 (84 ∷ 84 ∷ []) ∷ empty_slot ∷ []) ≡ false)
    × (sound_at 1 (slot 3 300 1 6 0 2 0 0 0 0 [] ∷ slot 3 300 0 0 0 2 0 0 0 0 (84 ∷ 84 ∷ []) ∷ empty_slot ∷ []) ≡ false)
    × (sound_at 1 (slot 3 300 1 6 0 2 0 0 0 0 [] ∷ slot 3 0 0 6 0 2 0 0 0 0 (84 ∷ 84 ∷ []) ∷ empty_slot ∷ []) ≡ true)
    × (sound_at 1 (slot 3 300 1 6 0 2 0 0 0 0 [] ∷ slot 3 300 0 6 0 2 0 0 0 0 (84 ∷ 84 ∷ []) ∷ slot 4 0 0 0 0 0 0 0 0 0 [] ∷ []) ≡ false)
unfolding run sound_at
sound-28-0 = (refl, refl, refl, refl, refl)

pub sound-28-1 :
    (sound_at 0 (slot 3 0 0 1 0 1 2 0 0 0 (95 ∷ 82 ∷ []) ∷ slot 3 0 0 4 0 1 1 0 1 0 [] ∷ slot 1 300 2 1 0 3 1 0 0 2 []
    ∷ slot 1 300 1 1 0 3 1 0 0 2 [] ∷ slot 3 0 0 1 0 1 3 2 2 0 [] ∷ []) ≡ true)
    × (sound_at 0 (slot 3 0 0 1 0 1 2 0 0 0 (95 ∷ 82 ∷ []) ∷ slot 3 0 0 4 0 1 1 0 1 0 [] ∷ slot 1 300 2 1 0 3 1 0 0 2 []
    ∷ slot 1 300 1 1 0 3 1 0 0 2 [] ∷ slot 3 0 0 1 0 1 3 2 2 0 [] ∷ []) ≡ true)
    × (sound_at 0 (slot 3 0 0 1 0 1 2 0 0 0 (95 ∷ 82 ∷ []) ∷ slot 3 0 0 4 0 1 1 0 1 0 [] ∷ slot 1 300 2 1 0 0 1 0 0 2 []
    ∷ slot 1 300 1 1 0 3 1 0 0 2 [] ∷ slot 3 0 0 1 0 1 3 2 2 0 [] ∷ []) ≡ false)
    × (sound_at 0 (slot 3 0 0 1 0 1 2 0 0 0 (95 ∷ 82 ∷ []) ∷ slot 3 0 0 4 0 1 1 0 1 0 [] ∷ slot 1 300 2 1 0 3 1 0 0 2 []
    ∷ slot 1 300 1 1 0 3 1 0 1 2 [] ∷ slot 3 0 0 1 0 1 3 2 2 0 [] ∷ []) ≡ true)
    × (sound_at 0 (slot 3 0 0 1 0 1 2 0 0 0 (95 ∷ 82 ∷ []) ∷ slot 3 0 0 4 0 1 1 3 1 0 [] ∷ slot 1 300 2 1 0 3 1 0 0 2 []
    ∷ slot 1 300 1 1 0 3 1 0 0 2 [] ∷ slot 3 0 0 1 0 1 16777216 2 2 0 [] ∷ []) ≡ false)
unfolding run sound_at
sound-28-1 = (refl, refl, refl, refl, refl)

pub sound-28-2 :
    (sound_at 1 (slot 3 0 1 1 1 2 2 3 0 0 (98 ∷ []) ∷ slot 3 300 1 6 0 3 0 0 1 0 [] ∷ slot 3 300 2 6 0 3 0 0 1 0 (90 ∷ 67 ∷ [])
    ∷ slot 3 0 0 1 1 2 2 3 0 0 (75 ∷ []) ∷ slot 3 300 0 6 0 3 0 0 1 0 (36 ∷ 78 ∷ []) ∷ slot 3 0 0 3 1 1 0 0 2 0 [] ∷ []) ≡ true)
    × (sound_at 1 (slot 3 0 1 1 1 2 2 3 0 0 (98 ∷ []) ∷ slot 3 300 1 6 0 3 0 0 1 0 [] ∷ slot 3 0 0 3 1 1 0 0 2 0 []
    ∷ slot 3 0 0 1 1 2 2 3 0 0 (75 ∷ []) ∷ slot 3 300 0 6 0 3 0 0 1 0 (36 ∷ 78 ∷ []) ∷ slot 3 0 0 3 1 1 0 0 2 0 [] ∷ []) ≡ false)
    × (sound_at 1 (slot 3 0 1 1 1 2 2 3 0 0 (98 ∷ []) ∷ slot 3 300 1 6 0 3 0 0 1 0 [] ∷ slot 3 300 2 6 0 3 0 0 1 0 (90 ∷ 67 ∷ [])
    ∷ slot 3 0 0 1 1 2 2 3 0 0 (75 ∷ []) ∷ slot 0 300 0 6 0 3 0 0 1 0 (36 ∷ 78 ∷ []) ∷ slot 3 0 0 3 1 1 0 0 2 0 [] ∷ []) ≡ false)
    × (sound_at 1 (slot 3 0 0 3 1 1 0 0 2 0 [] ∷ slot 3 300 1 6 0 3 0 0 1 0 [] ∷ slot 3 300 2 6 0 3 0 0 1 0 (90 ∷ 67 ∷ [])
    ∷ slot 3 0 0 1 1 2 2 3 0 0 (75 ∷ []) ∷ slot 3 300 0 6 0 3 0 0 1 0 (36 ∷ 78 ∷ []) ∷ slot 3 0 0 3 1 1 0 0 2 0 [] ∷ []) ≡ false)
    × (sound_at 1 (slot 3 0 1 1 1 1025 2 3 0 0 (98 ∷ []) ∷ slot 3 300 1 6 0 3 0 0 1 0 [] ∷ slot 3 300 2 6 0 3 0 16777215 1 0 (90 ∷ 67 ∷ [])
    ∷ slot 3 0 0 1 1 2 2 3 0 0 (75 ∷ []) ∷ slot 3 300 0 6 0 3 0 0 1 0 (36 ∷ 78 ∷ []) ∷ slot 3 0 0 3 1 1 0 0 2 0 [] ∷ []) ≡ false)
unfolding run sound_at
sound-28-2 = (refl, refl, refl, refl, refl)

pub sound-28-3 :
    (sound_at 0 (slot 1 0 0 0 0 2 0 0 0 1 (37 ∷ []) ∷ slot 1 7 0 1 0 2 1 0 0 1 (75 ∷ 43 ∷ []) ∷ []) ≡ true)
    × (sound_at 0 (slot 1 0 0 0 0 2 0 0 0 4294967297 (37 ∷ []) ∷ slot 1 7 0 1 0 2 1 0 0 1 (75 ∷ 43 ∷ []) ∷ []) ≡ false)
    × (sound_at 0 (slot 1 0 0 0 0 2 0 0 0 1 (37 ∷ []) ∷ slot 1 7 0 1 0 2 1 0 0 2 (75 ∷ 43 ∷ []) ∷ []) ≡ true)
    × (sound_at 0 (slot 1 0 0 0 0 2 0 0 0 1 (37 ∷ []) ∷ slot 1 7 0 1 0 2 1 0 0 1 (75 ∷ 43 ∷ []) ∷ []) ≡ true)
    × (sound_at 0 (slot 1 0 0 7 0 2 0 0 0 1 (37 ∷ []) ∷ slot 1 7 0 1 0 2 1 0 0 1 (75 ∷ 43 ∷ []) ∷ []) ≡ true)
unfolding run sound_at
sound-28-3 = (refl, refl, refl, refl, refl)

pub sound-28-4 :
    (sound_at 0 (slot 3 0 0 5 0 1 0 0 0 0 (83 ∷ 46 ∷ []) ∷ slot 3 0 0 0 0 1 0 0 1 0 (17 ∷ 87 ∷ []) ∷ slot 1 7 1 0 0 3 0 0 0 3 (93 ∷ [])
    ∷ slot 1 0 0 6 0 2 0 0 0 2 [] ∷ []) ≡ true)
    × (sound_at 0 (slot 3 0 0 5 0 1 0 0 0 0 (83 ∷ 46 ∷ []) ∷ slot 3 0 0 0 0 1 0 0 1 0 (17 ∷ 87 ∷ []) ∷ slot 1 7 2 0 0 3 0 0 0 3 (93 ∷ [])
    ∷ slot 1 0 0 6 0 2 0 0 0 2 [] ∷ []) ≡ true)
    × (sound_at 0 (slot 3 0 0 5 0 1 0 0 0 0 (83 ∷ 46 ∷ []) ∷ slot 3 0 0 0 0 1 0 0 1 0 (17 ∷ 87 ∷ []) ∷ slot 1 7 1 0 0 3 0 0 0 3 (93 ∷ [])
    ∷ slot 1 0 0 6 0 2 0 0 0 2 [] ∷ []) ≡ true)
    × (sound_at 0 (slot 3 0 0 5 0 1 0 0 0 0 (83 ∷ 46 ∷ []) ∷ slot 3 0 0 0 0 1 0 0 1 0 (17 ∷ 87 ∷ []) ∷ slot 1 7 1 0 0 3 0 0 0 1 (93 ∷ [])
    ∷ slot 1 0 0 6 0 2 0 0 0 2 [] ∷ []) ≡ true)
    × (sound_at 0 (slot 3 0 0 5 0 1 0 0 0 0 (83 ∷ 46 ∷ []) ∷ slot 3 0 0 0 0 1 0 0 1 0 (17 ∷ 87 ∷ []) ∷ slot 1 7 1 0 0 3 0 16777215 0 2 (93
    ∷ []) ∷ slot 1 0 0 6 0 2 0 0 0 2 [] ∷ []) ≡ true)
unfolding run sound_at
sound-28-4 = (refl, refl, refl, refl, refl)

pub sound-28-5 :
    (sound_at 1 (slot 1 7 0 4 0 1024 1 0 0 1 (57 ∷ 88 ∷ []) ∷ slot 2 0 0 3 0 1 0 3 0 0 [] ∷ empty_slot ∷ []) ≡ true)
    × (sound_at 1 (slot 1 7 0 4 0 1024 1 0 0 1 (57 ∷ 88 ∷ []) ∷ slot 2 0 0 3 0 1 0 3 0 0 [] ∷ empty_slot ∷ []) ≡ true)
    × (sound_at 1 (slot 1 7 0 4 0 1024 1 0 0 0 (57 ∷ 88 ∷ []) ∷ slot 2 0 0 3 0 1 0 3 0 0 [] ∷ empty_slot ∷ []) ≡ true)
    × (sound_at 1 (slot 1 7 0 4 0 1024 1 0 0 1 (57 ∷ 88 ∷ []) ∷ slot 2 0 0 3 0 1 0 3 0 0 [] ∷ slot 0 0 0 0 0 0 0 2 0 0 [] ∷ []) ≡ true)
    × (sound_at 1 (slot 1 7 0 4 0 1024 1 0 0 4294967297 (57 ∷ 88 ∷ []) ∷ slot 2 0 0 3 0 1 0 3 0 0 [] ∷ slot 0 0 0 0 0 0 0 0 0 4294967295 []
    ∷ []) ≡ false)
unfolding run sound_at
sound-28-5 = (refl, refl, refl, refl, refl)

pub sound-28-6 :
    (sound_at 0 (slot 1 0 0 6 0 3 0 0 0 2 [] ∷ slot 1 0 1 6 0 3 0 0 0 2 (17 ∷ []) ∷ slot 3 300 0 6 0 1 0 0 0 0 (4 ∷ 67 ∷ []) ∷ []) ≡ true)
    × (sound_at 0 (slot 1 0 0 6 0 3 0 0 0 2 [] ∷ slot 1 0 1 6 0 3 0 0 0 2 (17 ∷ []) ∷ slot 1 300 0 6 0 1 0 0 0 0 (4 ∷ 67 ∷ [])
    ∷ []) ≡ false)
    × (sound_at 0 (slot 1 0 0 6 0 3 0 16777215 0 2 [] ∷ slot 1 0 1 6 0 3 0 0 0 2 (17 ∷ []) ∷ slot 3 300 0 6 0 1 0 0 0 0 (4 ∷ 67 ∷ [])
    ∷ []) ≡ false)
    × (sound_at 0 (slot 1 0 0 6 0 3 0 0 0 2 [] ∷ slot 1 0 1 6 0 3 0 0 0 4294967297 (17 ∷ []) ∷ slot 3 300 0 6 0 1 0 0 0 0 (4 ∷ 67 ∷ [])
    ∷ []) ≡ false)
    × (sound_at 0 (slot 1 0 0 6 0 3 0 0 0 2 [] ∷ slot 1 0 1 1 0 3 0 0 0 2 (17 ∷ []) ∷ slot 3 300 0 6 0 1 0 0 1 0 (4 ∷ 67 ∷ [])
    ∷ []) ≡ false)
unfolding run sound_at
sound-28-6 = (refl, refl, refl, refl, refl)

pub sound-28-7 :
    (sound_at 0 (slot 3 0 1 1 0 2 1 0 0 0 [] ∷ slot 3 0 0 1 0 2 1 0 0 0 (54 ∷ []) ∷ slot 3 0 0 4 1 1 0 1 1 0 (42 ∷ 43 ∷ [])
    ∷ slot 1 300 0 4 1 2 0 3 0 1 (74 ∷ 96 ∷ []) ∷ slot 3 0 0 1 0 1 2 1 2 0 [] ∷ []) ≡ true)
    × (sound_at 0 (slot 3 0 1 1 0 2 1 16777215 0 0 [] ∷ slot 3 0 0 1 0 2 1 0 0 0 (54 ∷ []) ∷ slot 3 0 0 4 1 1 0 1 1 0 (42 ∷ 43 ∷ [])
    ∷ slot 1 300 0 4 1 2 0 3 0 1 (74 ∷ 96 ∷ []) ∷ slot 3 0 0 1 0 1 2 1 2 0 [] ∷ []) ≡ false)
    × (sound_at 0 (slot 3 0 1 1 0 2 1 0 0 0 [] ∷ slot 3 0 0 1 0 2 1 0 0 0 (54 ∷ []) ∷ slot 3 0 0 4 1 1 0 1 1 0 (42 ∷ 43 ∷ [])
    ∷ slot 1 300 0 4 1 2 0 3 0 2 (74 ∷ 96 ∷ []) ∷ slot 3 0 0 1 0 1 2 1 2 0 [] ∷ []) ≡ true)
    × (sound_at 0 (slot 3 0 1 1 0 2 1 0 0 0 [] ∷ slot 3 0 0 1 0 2 1 0 0 0 (54 ∷ []) ∷ slot 3 0 0 4 1 1 0 1 1 0 (42 ∷ 43 ∷ [])
    ∷ slot 1 300 0 4 1 2 0 3 0 4294967297 (74 ∷ 96 ∷ []) ∷ slot 3 0 0 1 0 1 2 1 2 0 [] ∷ []) ≡ false)
    × (sound_at 0 (slot 3 0 1 1 0 2 1 0 0 0 [] ∷ slot 3 0 0 1 0 2 1 0 0 0 (54 ∷ []) ∷ slot 3 0 0 4 1 1 0 1 1 0 (42 ∷ 43 ∷ [])
    ∷ slot 1 300 0 4 1 2 0 3 0 1 (74 ∷ 96 ∷ []) ∷ slot 3 0 0 1 0 2 2 1 2 0 [] ∷ []) ≡ false)
unfolding run sound_at
sound-28-7 = (refl, refl, refl, refl, refl)

pub sound-28-8 :
    (sound_at 0 (slot 2 0 0 3 0 1 0 2 0 0 (37 ∷ 95 ∷ []) ∷ slot 3 7 1 5 0 2 0 0 0 0 (29 ∷ 81 ∷ []) ∷ slot 3 7 0 5 0 2 0 0 0 0 (25 ∷ [])
    ∷ slot 3 0 0 1 0 1 2 0 1 0 [] ∷ slot 1 7 1 3 1 3 0 1 0 1 (12 ∷ []) ∷ slot 1 7 2 3 1 3 0 1 0 1 (78 ∷ []) ∷ []) ≡ true)
    × (sound_at 0 (slot 2 0 0 3 0 1 0 2 0 0 (37 ∷ 95 ∷ []) ∷ slot 3 7 1 5 0 2 0 0 0 0 (29 ∷ 81 ∷ []) ∷ slot 3 7 0 5 0 2 0 2 0 0 (25 ∷ [])
    ∷ slot 3 0 0 1 0 1 2 0 1 0 [] ∷ slot 1 7 1 3 1 3 0 1 0 1 (12 ∷ []) ∷ slot 1 7 2 3 1 3 0 1 0 1 (78 ∷ []) ∷ []) ≡ false)
    × (sound_at 0 (slot 2 0 0 3 0 1 0 2 0 0 (37 ∷ 95 ∷ []) ∷ slot 3 7 1 5 0 2 0 0 0 0 (29 ∷ 81 ∷ []) ∷ slot 3 7 0 5 0 2 0 0 0 0 (25 ∷ [])
    ∷ slot 3 0 0 1 0 1 2 0 1 0 [] ∷ slot 1 7 1 3 1 3 0 1 0 4294967296 (12 ∷ []) ∷ slot 1 7 2 3 1 3 0 1 0 4294967296 (78 ∷ []) ∷ []) ≡ true)
    × (sound_at 0 (slot 2 0 0 3 0 1 0 2 0 0 (37 ∷ 95 ∷ []) ∷ slot 3 7 1 5 0 2 0 0 0 0 (29 ∷ 81 ∷ []) ∷ slot 3 7 0 5 0 2 0 0 0 0 (25 ∷ [])
    ∷ slot 3 0 0 1 0 1 2 0 1 0 [] ∷ slot 1 7 1 3 1 3 0 1 0 1 (12 ∷ []) ∷ slot 1 7 2 3 1 3 0 1 0 0 (78 ∷ []) ∷ []) ≡ false)
    × (sound_at 0 (slot 2 0 0 3 0 1 0 2 0 0 (37 ∷ 95 ∷ []) ∷ slot 3 7 1 5 0 2 0 0 0 0 (29 ∷ 81 ∷ []) ∷ slot 3 7 0 5 0 2 0 0 0 0 (25 ∷ [])
    ∷ slot 3 0 0 1 0 1024 2 0 1 0 [] ∷ slot 1 7 1 3 1 3 16777215 1 0 1 (12 ∷ []) ∷ slot 1 7 2 3 1 3 0 1 0 1 (78 ∷ []) ∷ []) ≡ false)
unfolding run sound_at
sound-28-8 = (refl, refl, refl, refl, refl)

pub sound-28-9 :
    (sound_at 0 (slot 3 0 0 6 0 1 0 0 0 0 [] ∷ slot 1 0 2 1 0 3 1 1 0 2 (79 ∷ []) ∷ slot 1 0 0 1 0 3 1 1 0 2 (19 ∷ [])
    ∷ slot 3 0 0 4 1 1 0 0 1 0 (3 ∷ []) ∷ slot 2 0 0 3 0 1 0 3 0 0 (51 ∷ 7 ∷ []) ∷ slot 1 7 2 1 31 3 2 0 0 0 (99 ∷ 70 ∷ []) ∷ []) ≡ true)
    × (sound_at 0 (slot 3 0 0 6 0 1 0 0 0 0 [] ∷ slot 1 0 2 1 0 3 1 1 0 2 (79 ∷ []) ∷ slot 1 0 0 1 0 3 1 1 0 0 (19 ∷ [])
    ∷ slot 3 0 0 4 1 1 0 0 1 0 (3 ∷ []) ∷ slot 2 0 0 3 0 1 0 3 0 0 (51 ∷ 7 ∷ []) ∷ slot 1 7 2 1 31 3 2 0 0 0 (99 ∷ 70 ∷ []) ∷ []) ≡ false)
    × (sound_at 0 (slot 3 0 0 6 0 1 0 0 0 0 [] ∷ slot 1 0 2 1 0 1024 1 1 0 2 (79 ∷ []) ∷ slot 1 0 0 1 0 3 1 1 0 2 (19 ∷ [])
    ∷ slot 3 0 0 4 1 1 0 0 1 0 (3 ∷ []) ∷ slot 2 0 0 3 0 1 0 3 0 0 (51 ∷ 7 ∷ []) ∷ slot 1 7 2 1 31 3 2 0 0 0 (99 ∷ 70 ∷ []) ∷ []) ≡ false)
    × (sound_at 0 (slot 3 0 0 6 0 1 0 0 0 0 [] ∷ slot 1 0 2 1 0 3 1 1 0 2 (79 ∷ []) ∷ slot 1 0 0 1 0 3 1 1 0 2 (19 ∷ [])
    ∷ slot 3 0 0 4 1 1 0 0 1 0 (3 ∷ []) ∷ slot 2 0 0 3 0 1025 0 3 0 0 (51 ∷ 7 ∷ []) ∷ slot 1 7 2 1 31 3 2 0 0 0 (99 ∷ 70 ∷ [])
    ∷ []) ≡ false)
    × (sound_at 0 (slot 3 0 0 6 0 1 0 0 0 0 [] ∷ slot 0 0 2 1 0 3 1 1 0 2 (79 ∷ []) ∷ slot 1 0 0 1 0 3 1 1 0 2 (19 ∷ [])
    ∷ slot 3 0 0 4 1 1 0 0 1 0 (3 ∷ []) ∷ slot 2 0 0 3 0 1 0 3 0 0 (51 ∷ 7 ∷ []) ∷ slot 1 7 2 1 31 3 2 0 0 2 (99 ∷ 70 ∷ []) ∷ []) ≡ true)
unfolding run sound_at
sound-28-9 = (refl, refl, refl, refl, refl)

pub sound-28-10 :
    (sound_at 0 (slot 1 300 1 0 0 2 0 0 0 1 (59 ∷ []) ∷ slot 3 0 0 6 0 1 0 0 0 0 (41 ∷ []) ∷ []) ≡ true)
    × (sound_at 0 (slot 1 300 1 0 0 2 0 0 0 1 (59 ∷ []) ∷ slot 3 0 0 6 0 1 0 0 0 0 (41 ∷ []) ∷ []) ≡ true)
    × (sound_at 0 (slot 1 300 1 7 0 2 0 0 0 1 (59 ∷ []) ∷ slot 3 0 0 6 0 1 0 0 0 0 (41 ∷ []) ∷ []) ≡ true)
    × (sound_at 0 (slot 1 300 1 0 31 2 0 0 0 1 (59 ∷ []) ∷ slot 3 0 0 6 0 1 0 0 0 0 (41 ∷ []) ∷ []) ≡ true)
    × (sound_at 0 (slot 1 0 1 0 0 2 0 0 0 1 (59 ∷ []) ∷ slot 3 0 0 6 0 1 0 0 0 0 (41 ∷ []) ∷ []) ≡ true)
unfolding run sound_at
sound-28-10 = (refl, refl, refl, refl, refl)

pub sound-28-11 :
    (sound_at 1 (slot 3 0 0 6 0 1 0 0 0 0 (71 ∷ 63 ∷ []) ∷ slot 3 300 0 1 0 2 0 2 1 0 [] ∷ slot 3 300 1 1 0 2 0 2 1 0 (49 ∷ [])
    ∷ slot 3 0 1 0 0 2 0 0 2 0 (92 ∷ []) ∷ slot 3 0 0 0 0 2 0 0 2 0 (60 ∷ 47 ∷ []) ∷ []) ≡ true)
    × (sound_at 1 (slot 3 0 0 6 0 1 0 0 0 0 (71 ∷ 63 ∷ []) ∷ slot 3 300 0 1 0 2 0 2 1 0 [] ∷ slot 3 300 1 1 0 2 0 2 1 0 (49 ∷ [])
    ∷ slot 3 0 1 0 0 0 0 0 2 0 (92 ∷ []) ∷ slot 3 0 0 0 0 2 0 0 2 0 (60 ∷ 47 ∷ []) ∷ []) ≡ false)
    × (sound_at 1 (slot 3 0 0 6 0 1 0 0 0 0 (71 ∷ 63 ∷ []) ∷ slot 3 7 0 1 0 2 0 2 1 0 [] ∷ slot 3 300 1 1 0 2 0 2 1 0 (49 ∷ [])
    ∷ slot 3 0 1 0 0 2 0 0 2 0 (92 ∷ []) ∷ slot 3 0 0 0 0 2 0 0 2 0 (60 ∷ 47 ∷ []) ∷ []) ≡ true)
    × (sound_at 1 (slot 3 0 0 6 0 1 0 0 0 0 (71 ∷ 63 ∷ []) ∷ slot 3 300 0 1 0 2 0 3 1 0 [] ∷ slot 3 300 1 1 0 2 0 2 1 0 (49 ∷ [])
    ∷ slot 3 0 1 0 0 2 0 0 2 0 (92 ∷ []) ∷ slot 3 0 0 0 0 2 0 0 2 0 (60 ∷ 47 ∷ []) ∷ []) ≡ false)
    × (sound_at 1 (slot 3 0 0 6 0 1 0 0 0 0 (71 ∷ 63 ∷ []) ∷ slot 3 300 0 1 0 2 0 2 1 0 [] ∷ slot 3 300 1 1 0 2 0 2 1 0 (49 ∷ [])
    ∷ slot 3 0 1 0 0 2 0 0 2 0 (92 ∷ []) ∷ slot 3 0 0 0 0 2 0 0 2 0 (60 ∷ 47 ∷ []) ∷ []) ≡ true)
unfolding run sound_at
sound-28-11 = (refl, refl, refl, refl, refl)

pub sound-28-12 :
    (sound_at 0 (slot 1 7 0 1 0 3 0 0 0 4 (34 ∷ []) ∷ slot 1 0 0 3 0 2 0 1 0 4 (28 ∷ []) ∷ slot 1 7 2 1 0 3 0 0 0 4 (31 ∷ 34 ∷ [])
    ∷ slot 3 300 1 2 0 2 0 0 0 0 [] ∷ slot 3 300 0 2 0 2 0 0 0 0 (79 ∷ 39 ∷ []) ∷ []) ≡ true)
    × (sound_at 0 (slot 1 7 0 1 0 3 0 0 0 4 (34 ∷ []) ∷ slot 1 0 0 3 0 2 0 1 0 4 (28 ∷ []) ∷ slot 1 7 2 1 0 3 0 0 0 4 (31 ∷ 34 ∷ [])
    ∷ slot 3 300 1 2 0 2 0 0 0 0 [] ∷ slot 3 300 0 2 0 2 0 0 0 4294967295 (79 ∷ 39 ∷ []) ∷ []) ≡ true)
    × (sound_at 0 (slot 1 7 0 1 0 3 1 0 0 4 (34 ∷ []) ∷ slot 1 0 0 3 0 2 0 1 0 4 (28 ∷ []) ∷ slot 1 7 2 1 0 3 0 0 0 4 (31 ∷ 34 ∷ [])
    ∷ slot 3 300 1 2 0 2 0 0 0 0 [] ∷ slot 3 300 0 2 0 2 0 0 0 0 (79 ∷ 39 ∷ []) ∷ []) ≡ false)
    × (sound_at 0 (slot 1 7 0 1 0 3 0 0 0 4 (34 ∷ []) ∷ slot 1 0 0 3 0 2 0 1 0 4 (28 ∷ []) ∷ slot 1 7 2 1 0 3 0 0 0 4 (31 ∷ 34 ∷ [])
    ∷ slot 3 300 1 4 0 2 0 0 0 0 [] ∷ slot 3 300 0 2 0 2 0 0 0 0 (79 ∷ 39 ∷ []) ∷ []) ≡ false)
    × (sound_at 0 (slot 1 7 0 1 0 3 0 0 1 4 (34 ∷ []) ∷ slot 1 0 0 3 0 2 0 1 0 4 (28 ∷ []) ∷ slot 1 7 2 1 0 3 0 0 0 4 (31 ∷ 34 ∷ [])
    ∷ slot 3 300 1 2 0 2 0 1 0 0 [] ∷ slot 3 300 0 2 0 2 0 0 0 0 (79 ∷ 39 ∷ []) ∷ []) ≡ false)
unfolding run sound_at
sound-28-12 = (refl, refl, refl, refl, refl)

pub sound-28-13 :
    (sound_at 0 (slot 3 7 0 5 0 1 0 0 0 0 (63 ∷ 73 ∷ []) ∷ slot 1 7 0 6 0 2 0 0 0 1 (2 ∷ []) ∷ []) ≡ true)
    × (sound_at 0 (slot 3 7 0 5 0 1 0 0 0 0 (63 ∷ 73 ∷ []) ∷ slot 1 7 0 6 0 2 0 0 0 0 (2 ∷ []) ∷ []) ≡ true)
    × (sound_at 0 (slot 3 7 0 5 0 1 0 0 0 0 (63 ∷ 73 ∷ []) ∷ slot 1 7 3 6 0 2 0 0 0 1 (2 ∷ []) ∷ []) ≡ false)
    × (sound_at 0 (slot 4 7 0 5 0 1 0 0 0 0 (63 ∷ 73 ∷ []) ∷ slot 1 7 0 6 0 2 0 0 0 1 (2 ∷ []) ∷ []) ≡ false)
    × (sound_at 0 (slot 3 7 0 5 31 1 0 0 0 0 (63 ∷ 73 ∷ []) ∷ slot 1 7 0 6 0 2 0 16777216 0 1 (2 ∷ []) ∷ []) ≡ false)
unfolding run sound_at
sound-28-13 = (refl, refl, refl, refl, refl)

pub sound-28-14 :
    (sound_at 0 (slot 2 7 1 3 0 2 0 3 0 0 [] ∷ slot 2 7 0 3 0 2 0 3 0 0 [] ∷ slot 1 7 1 3 0 2 0 0 0 2 (25 ∷ [])
    ∷ slot 3 0 0 4 0 1 1 3 0 0 [] ∷ empty_slot ∷ []) ≡ true)
    × (sound_at 0 (slot 2 7 1 3 0 2 0 3 0 0 [] ∷ slot 2 7 0 3 0 2 0 3 0 0 [] ∷ slot 1 7 1 3 0 2 0 0 0 2 (25 ∷ [])
    ∷ slot 3 0 0 4 0 1 1 3 0 0 [] ∷ empty_slot ∷ []) ≡ true)
    × (sound_at 0 (slot 2 7 1 3 0 2 0 3 0 0 [] ∷ slot 2 7 0 3 0 2 0 3 0 0 [] ∷ slot 1 7 1 3 0 2 0 0 0 2 (25 ∷ [])
    ∷ slot 3 0 0 4 0 1 1 3 0 0 [] ∷ slot 1 0 0 0 0 0 0 0 0 0 [] ∷ []) ≡ false)
    × (sound_at 0 (slot 2 7 1 3 0 2 0 3 0 0 [] ∷ slot 2 7 0 3 0 2 0 3 0 0 [] ∷ slot 1 7 1 3 0 2 0 0 0 4294967296 (25 ∷ [])
    ∷ slot 3 0 0 4 0 1 1 3 0 0 [] ∷ empty_slot ∷ []) ≡ true)
    × (sound_at 0 (slot 2 7 1 3 0 2 0 3 0 0 [] ∷ slot 2 7 3 3 0 2 0 3 0 0 [] ∷ slot 1 7 1 3 0 2 0 0 0 0 (25 ∷ [])
    ∷ slot 3 0 0 4 0 1 1 3 0 0 [] ∷ empty_slot ∷ []) ≡ false)
unfolding run sound_at
sound-28-14 = (refl, refl, refl, refl, refl)

pub sound-28-15 :
    (sound_at 0 (slot 3 0 0 6 0 1 0 0 0 0 (81 ∷ 42 ∷ []) ∷ slot 2 0 0 3 0 1 0 1 0 0 [] ∷ slot 1 300 0 6 0 2 0 0 0 0 (1 ∷ []) ∷ []) ≡ true)
    × (sound_at 0 (slot 3 0 0 6 0 1 0 0 0 0 (81 ∷ 42 ∷ []) ∷ slot 2 0 0 3 0 1 0 1 0 0 [] ∷ slot 1 300 0 6 0 2 0 0 0 0 (1 ∷ []) ∷ []) ≡ true)
    × (sound_at 0 (slot 3 0 0 6 0 1 0 0 0 0 (81 ∷ 42 ∷ []) ∷ slot 2 0 0 3 0 1 0 1 0 0 [] ∷ slot 1 300 0 6 0 2 0 0 0 0 (1 ∷ []) ∷ []) ≡ true)
    × (sound_at 0 (slot 3 0 0 6 0 1 0 0 0 0 (81 ∷ 42 ∷ []) ∷ slot 2 0 0 3 0 1 16777216 1 0 0 [] ∷ slot 1 300 0 6 0 2 0 0 0 0 (1 ∷ [])
    ∷ []) ≡ false)
    × (sound_at 0 (slot 3 0 0 7 0 1 0 0 0 0 (81 ∷ 42 ∷ []) ∷ slot 2 0 0 3 0 3 0 1 0 0 [] ∷ slot 1 300 0 6 0 2 0 0 0 0 (1 ∷ [])
    ∷ []) ≡ false)
unfolding run sound_at
sound-28-15 = (refl, refl, refl, refl, refl)

pub sound-28-16 :
    (sound_at 0 (slot 3 0 0 3 0 1 0 1 1 0 (60 ∷ 51 ∷ []) ∷ slot 3 0 0 1 0 1 3 1 3 0 [] ∷ slot 3 0 0 3 0 1 0 0 0 0 []
    ∷ slot 3 0 0 1 1 1 2 2 2 0 [] ∷ slot 3 0 0 4 0 1 2 0 4 0 (57 ∷ 47 ∷ []) ∷ slot 1 0 0 3 1 2 0 0 0 0 (27 ∷ 16 ∷ []) ∷ []) ≡ true)
    × (sound_at 0 (slot 3 0 0 3 0 1 0 1 1 0 (60 ∷ 51 ∷ []) ∷ slot 3 0 0 1 0 1 3 1 3 0 [] ∷ slot 3 0 0 3 0 1 0 0 0 0 []
    ∷ slot 3 0 0 4 0 1 2 0 4 0 (57 ∷ 47 ∷ []) ∷ slot 3 0 0 4 0 1 2 0 4 0 (57 ∷ 47 ∷ []) ∷ slot 1 0 0 3 1 2 0 0 0 0 (27 ∷ 16 ∷ [])
    ∷ []) ≡ false)
    × (sound_at 0 (slot 3 0 0 3 0 1 0 1 1 0 (60 ∷ 51 ∷ []) ∷ slot 3 0 0 1 0 1 3 1 3 0 [] ∷ slot 3 0 0 3 0 1 0 0 0 0 []
    ∷ slot 3 0 0 1 1 1 2 2 2 0 [] ∷ slot 3 0 0 4 0 1 2 0 4 0 (57 ∷ 47 ∷ []) ∷ slot 1 0 0 3 1 2 0 0 0 4294967297 (27 ∷ 16 ∷ [])
    ∷ []) ≡ false)
    × (sound_at 0 (slot 3 0 0 3 0 1 0 1 1 0 (60 ∷ 51 ∷ []) ∷ slot 3 0 0 1 0 1 3 1 3 0 [] ∷ slot 3 0 0 3 0 1 0 0 0 0 []
    ∷ slot 3 0 0 1 1 1 2 2 2 0 [] ∷ slot 3 0 0 4 0 1 2 0 4 0 (57 ∷ 47 ∷ []) ∷ slot 1 0 0 3 1 2 0 0 0 2 (27 ∷ 16 ∷ []) ∷ []) ≡ true)
    × (sound_at 0 (slot 3 0 0 3 0 1 0 1 1 0 (60 ∷ 51 ∷ []) ∷ slot 3 0 0 1 0 1 3 1 3 0 [] ∷ slot 3 0 1 3 0 1 0 0 0 0 []
    ∷ slot 3 0 0 1 1 1 2 2 2 0 [] ∷ slot 3 0 0 4 0 1 2 0 4 0 (57 ∷ 47 ∷ []) ∷ slot 1 0 0 3 1 2 0 0 0 1 (27 ∷ 16 ∷ []) ∷ []) ≡ false)
unfolding run sound_at
sound-28-16 = (refl, refl, refl, refl, refl)

pub sound-28-17 :
    (sound_at 1 (slot 2 0 0 3 0 1 0 1 0 0 (84 ∷ []) ∷ slot 3 7 1 0 0 3 0 0 0 0 (44 ∷ []) ∷ slot 3 7 0 0 0 3 0 0 0 0 (67 ∷ 24 ∷ [])
    ∷ slot 3 7 2 0 0 3 0 0 0 0 (80 ∷ 0 ∷ []) ∷ slot 3 0 0 7 1 1 0 0 1 0 (76 ∷ []) ∷ empty_slot ∷ []) ≡ false)
    × (sound_at 1 (slot 2 0 0 3 0 1 0 1 0 0 (84 ∷ []) ∷ slot 3 7 1 0 0 3 0 0 0 0 (44 ∷ []) ∷ slot 3 7 0 0 0 3 0 0 0 0 (67 ∷ 24 ∷ [])
    ∷ slot 3 7 2 0 0 1024 0 0 0 0 (80 ∷ 0 ∷ []) ∷ slot 3 0 0 7 1 1 0 0 1 0 (76 ∷ []) ∷ empty_slot ∷ []) ≡ false)
    × (sound_at 1 (slot 2 0 0 3 0 1 0 1 0 0 (84 ∷ []) ∷ slot 3 7 1 0 0 3 0 0 0 0 (44 ∷ []) ∷ slot 3 7 0 0 0 3 0 0 0 0 (67 ∷ 24 ∷ [])
    ∷ slot 3 7 2 0 0 3 0 0 0 0 (80 ∷ 0 ∷ []) ∷ slot 3 0 0 7 1 1 0 0 1 0 (76 ∷ []) ∷ empty_slot ∷ []) ≡ false)
    × (sound_at 1 (slot 2 0 0 3 0 1 0 1 0 0 (84 ∷ []) ∷ slot 3 7 1 0 0 3 0 0 0 0 (44 ∷ []) ∷ slot 3 7 0 0 0 3 0 0 0 0 (67 ∷ 24 ∷ [])
    ∷ slot 3 7 2 0 0 3 0 0 0 0 (80 ∷ 0 ∷ []) ∷ slot 3 0 0 7 1 1 0 1 1 0 (76 ∷ []) ∷ empty_slot ∷ []) ≡ false)
    × (sound_at 1 (slot 2 0 0 3 0 1 0 1 0 0 (84 ∷ []) ∷ slot 3 7 1 0 0 3 0 0 0 0 (44 ∷ []) ∷ slot 2 0 0 3 0 1 0 1 0 0 (84 ∷ [])
    ∷ slot 3 7 2 0 0 3 0 0 0 2 (80 ∷ 0 ∷ []) ∷ slot 3 0 0 7 1 1 0 0 1 0 (76 ∷ []) ∷ empty_slot ∷ []) ≡ false)
unfolding run sound_at
sound-28-17 = (refl, refl, refl, refl, refl)

pub sound-28-18 :
    (sound_at 0 (slot 3 7 1 5 0 2 0 0 0 0 (68 ∷ 42 ∷ []) ∷ slot 3 7 0 5 0 2 0 0 0 0 (87 ∷ 6 ∷ []) ∷ slot 2 0 0 3 0 1 0 3 0 0 (62 ∷ [])
    ∷ slot 3 0 0 1 1 1 2 2 1 0 (0 ∷ 1 ∷ []) ∷ slot 1 7 1 7 0 2 0 2 0 0 (9 ∷ 10 ∷ []) ∷ []) ≡ true)
    × (sound_at 0 (slot 3 7 1 5 0 2 0 0 0 0 (68 ∷ 42 ∷ []) ∷ slot 3 7 0 5 0 2 0 0 0 0 (87 ∷ 6 ∷ []) ∷ slot 2 0 0 3 0 1 0 3 0 0 (62 ∷ [])
    ∷ slot 3 0 0 1 1 1 2 2 1 0 (0 ∷ 1 ∷ []) ∷ slot 1 7 1 7 0 2 0 2 0 2 (9 ∷ 10 ∷ []) ∷ []) ≡ true)
    × (sound_at 0 (slot 3 7 1 5 0 2 0 0 0 0 (68 ∷ 42 ∷ []) ∷ slot 3 7 0 5 0 2 0 0 0 0 (87 ∷ 6 ∷ []) ∷ slot 2 0 0 3 0 1 0 3 0 0 (62 ∷ [])
    ∷ slot 3 0 0 1 1 1 2 2 1 0 (0 ∷ 1 ∷ []) ∷ slot 1 7 1 7 0 2 0 2 0 0 (9 ∷ 10 ∷ []) ∷ []) ≡ true)
    × (sound_at 0 (slot 3 7 1 5 0 2 0 0 0 0 (68 ∷ 42 ∷ []) ∷ slot 3 7 0 5 0 2 0 0 0 0 (87 ∷ 6 ∷ []) ∷ slot 2 0 0 3 0 1 0 3 0 0 (62 ∷ [])
    ∷ slot 3 0 0 1 1 1 2 2 1 0 (0 ∷ 1 ∷ []) ∷ slot 1 7 1 7 0 2 0 2 0 0 (9 ∷ 10 ∷ []) ∷ []) ≡ true)
    × (sound_at 0 (slot 3 7 1 5 0 2 0 0 0 0 (68 ∷ 42 ∷ []) ∷ slot 3 7 0 5 0 2 0 0 0 0 (87 ∷ 6 ∷ []) ∷ slot 2 0 0 3 0 1 0 3 0 0 (62 ∷ [])
    ∷ slot 0 0 0 1 1 1 2 2 1 0 (0 ∷ 1 ∷ []) ∷ slot 3 7 0 5 0 2 0 0 0 0 (87 ∷ 6 ∷ []) ∷ []) ≡ false)
unfolding run sound_at
sound-28-18 = (refl, refl, refl, refl, refl)

pub sound-28-19 :
    (sound_at 0 (slot 1 0 1 0 0 2 0 0 0 1 (80 ∷ 53 ∷ []) ∷ slot 3 0 0 3 1 1 0 0 0 0 [] ∷ []) ≡ true)
    × (sound_at 0 (slot 1 0 1 0 0 2 0 0 0 4294967295 (80 ∷ 53 ∷ []) ∷ slot 3 0 0 3 1 1 0 0 0 0 [] ∷ []) ≡ true)
    × (sound_at 0 (slot 1 0 1 0 0 2 0 0 3 1 (80 ∷ 53 ∷ []) ∷ slot 3 0 0 3 1 1 0 0 0 0 [] ∷ []) ≡ true)
    × (sound_at 0 (slot 1 0 1 0 0 2 0 0 0 1 (80 ∷ 53 ∷ []) ∷ slot 3 0 0 3 1 1 0 0 0 0 [] ∷ []) ≡ true)
    × (sound_at 0 (slot 1 0 1 0 0 2 0 0 0 1 (80 ∷ 53 ∷ []) ∷ slot 3 0 0 3 1 1 0 0 0 0 [] ∷ []) ≡ true)
unfolding run sound_at
sound-28-19 = (refl, refl, refl, refl, refl)
