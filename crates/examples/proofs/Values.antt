-- Random examples: a receiver's own values, sound or not: lows, a next, memories, profile and unsent numbers.
-- Made by `model examples values 28 6` (folder model/), an independent model of document 01; here they are computed.
-- Assumes nothing.
use mathlib.Core.Path.{◌≡◌, refl}
use mathlib.Core.Bool.{true, false}
use mathlib.Core.List.{[], ◌∷◌}
use Rattle.examples.proofs.Shown.{run, sound_values}

pub values-28-0 :
    (sound_values 16774216 16777217 30 16777216 16777215 16777216 4294967295 (1 ∷ 1 ∷ []) ≡ false)
    × (sound_values 3 0 30 16777215 16777216 16777215 0 [] ≡ true)
    × (sound_values 3 16774216 0 0 1 16777215 1 [] ≡ true)
    × (sound_values 3 16774216 1 16777215 16777215 16777217 1 (1 ∷ 2 ∷ []) ≡ false)
unfolding run sound_values
values-28-0 = (refl, refl, refl, refl)

pub values-28-1 :
    (sound_values 0 0 30 1 1 16777217 0 (1 ∷ []) ≡ false)
    × (sound_values 3 0 1 16777216 16777216 16777216 1 (1 ∷ 0 ∷ []) ≡ true)
    × (sound_values 0 0 0 16777215 0 16777215 0 [] ≡ true)
    × (sound_values 3 0 31 1 16777216 16777216 3 (2 ∷ 0 ∷ []) ≡ false)
unfolding run sound_values
values-28-1 = (refl, refl, refl, refl)

pub values-28-2 :
    (sound_values 0 16774216 0 16777216 0 16777215 1 [] ≡ true)
    × (sound_values 3 16774216 31 1 16777217 1 0 [] ≡ false)
    × (sound_values 3 16774216 0 16777216 16777215 0 1 [] ≡ true)
    × (sound_values 3 0 0 16777215 16777217 1 1 [] ≡ false)
unfolding run sound_values
values-28-2 = (refl, refl, refl, refl)

pub values-28-3 :
    (sound_values 16774216 16774216 30 0 1 0 1 (2 ∷ 0 ∷ []) ≡ true)
    × (sound_values 3 0 30 16777216 16777215 16777215 0 [] ≡ true)
    × (sound_values 16774216 16774216 30 1 16777217 16777216 1 (0 ∷ []) ≡ false)
    × (sound_values 16774216 16774216 0 16777216 16777216 16777216 0 (2 ∷ 2 ∷ []) ≡ false)
unfolding run sound_values
values-28-3 = (refl, refl, refl, refl)

pub values-28-4 :
    (sound_values 16774216 0 30 1 16777215 16777216 0 [] ≡ true)
    × (sound_values 3 16774216 30 0 1 0 0 (0 ∷ 16777215 ∷ []) ≡ false)
    × (sound_values 16777217 0 31 16777216 16777215 16777216 0 (2 ∷ []) ≡ false)
    × (sound_values 3 0 1 16777215 0 16777215 1 (16777215 ∷ 2 ∷ []) ≡ false)
unfolding run sound_values
values-28-4 = (refl, refl, refl, refl)

pub values-28-5 :
    (sound_values 3 16774216 0 16777216 1 1 0 (2 ∷ 2 ∷ []) ≡ false)
    × (sound_values 3 0 1 16777215 16777217 0 1 (1 ∷ 2 ∷ []) ≡ false)
    × (sound_values 3 16774216 31 16777215 1 16777215 0 (16777215 ∷ 2 ∷ []) ≡ false)
    × (sound_values 3 16774216 30 16777215 16777215 1 1 (2 ∷ 0 ∷ []) ≡ true)
unfolding run sound_values
values-28-5 = (refl, refl, refl, refl)
