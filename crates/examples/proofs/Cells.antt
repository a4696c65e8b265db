-- Random examples: frames as values on a receiver with cells, with the slots after every call; and the line of the accepted ones.
-- Made by `model examples cells 28 20` (folder model/), an independent model of document 01; here they are computed.
-- Assumes nothing.
use mathlib.Core.Path.{◌≡◌, refl}
use mathlib.Core.List.{[], ◌∷◌}
use Rattle.reliability.specs.declared.Profile.TheVariants.{Console, Cpp}
use Rattle.bare.proofs.Shown as line
use Rattle.bare.proofs.Shown.{msg}
use Rattle.cells.specs.Cell.{empty_slot}
use Rattle.cells.proofs.Shown.{receive, take, gave, took, refused, saw, run, run_as}
use Rattle.examples.proofs.Shown.{whole, part, slot}

pub cells-28-0 :
    (run_as Console 3 (receive (part 6 0 0 0 0 2 7 0 (86 ∷ 83 ∷ []) ∷ whole 7 0 0 0 31 (31 ∷ 97 ∷ []) ∷ part 6 0 0 0 0 2 7 1 (14 ∷ [])
    ∷ whole 1 0 2 0 0 (10 ∷ 97 ∷ []) ∷ [])
    ∷ receive (part 7 1 0 0 32 2 7 0 [] ∷ part 7 2 0 0 32 2 7 1 (46 ∷ []) ∷ [])
    ∷ receive (whole 1 0 3 1 0 [] ∷ [])
    ∷ [])
    ≡ saw (refused 8) (empty_slot ∷ empty_slot ∷ empty_slot ∷ [])
    ∷ saw (gave 0 2) (empty_slot ∷ empty_slot ∷ empty_slot ∷ [])
    ∷ saw (gave 1 0) (slot 3 0 0 1 0 1 3 1 0 0 [] ∷ empty_slot ∷ empty_slot ∷ [])
    ∷ [])
    × (line.run_as Console ((part 7 1 0 0 32 2 7 0 [] ∷ part 7 2 0 0 32 2 7 1 (46 ∷ []) ∷ [])
    ∷ (whole 1 0 3 1 0 [] ∷ [])
    ∷ [])
    ≡ line.seen (line.gave 0 2 ∷ line.gave 1 0 ∷ []) (msg 1 0 1 [] ∷ []))
unfolding run run_as line.run_as
cells-28-0 = (refl, refl)

pub cells-28-1 :
    (run_as Console 3 (receive (whole 4 0 3 0 0 (95 ∷ 82 ∷ []) ∷ whole 4 1 1 0 0 [] ∷ part 1 0 1 0 0 3 300 2 [] ∷ [])
    ∷ receive (whole 4 4 1 0 0 (67 ∷ 48 ∷ []) ∷ [])
    ∷ receive (part 1 0 1 0 0 3 300 1 [] ∷ part 1 0 1 0 0 3 300 0 (50 ∷ 56 ∷ []) ∷ whole 3 3 0 3 0 (60 ∷ []) ∷ part 4 4 1 0 0 0 7 1023 (76
    ∷ []) ∷ [])
    ∷ take
    ∷ take
    ∷ [])
    ≡ saw (gave 1 1) (slot 3 0 0 4 0 1 3 0 0 0 (95 ∷ 82 ∷ []) ∷ slot 1 300 2 1 0 3 1 0 0 0 [] ∷ empty_slot ∷ [])
    ∷ saw (gave 0 1) (slot 3 0 0 4 0 1 3 0 0 0 (95 ∷ 82 ∷ []) ∷ slot 1 300 2 1 0 3 1 0 0 1 [] ∷ empty_slot ∷ [])
    ∷ saw (refused 8) (slot 3 0 0 4 0 1 3 0 0 0 (95 ∷ 82 ∷ []) ∷ slot 1 300 2 1 0 3 1 0 0 1 [] ∷ empty_slot ∷ [])
    ∷ saw (took (msg 4 0 0 (95 ∷ 82 ∷ []))) (empty_slot ∷ slot 1 300 2 1 0 3 1 0 0 1 [] ∷ empty_slot ∷ [])
    ∷ saw (refused 20) (empty_slot ∷ slot 1 300 2 1 0 3 1 0 0 1 [] ∷ empty_slot ∷ [])
    ∷ [])
    × (line.run_as Console ((whole 4 0 3 0 0 (95 ∷ 82 ∷ []) ∷ whole 4 1 1 0 0 [] ∷ part 1 0 1 0 0 3 300 2 [] ∷ [])
    ∷ (whole 4 4 1 0 0 (67 ∷ 48 ∷ []) ∷ [])
    ∷ [])
    ≡ line.seen (line.gave 1 1 ∷ line.gave 0 1 ∷ []) (msg 4 0 0 (95 ∷ 82 ∷ []) ∷ []))
unfolding run run_as line.run_as
cells-28-1 = (refl, refl)

pub cells-28-2 :
    (run_as Cpp 1 (take
    ∷ receive (whole 1 0 0 0 0 [] ∷ part 7 8 0 2 32 2 7 1 (77 ∷ 33 ∷ []) ∷ part 7 1 0 2 32 2 7 0 [] ∷ part 6 0 0 0 0 1 7 0 [] ∷ [])
    ∷ receive (part 7 2 0 1 1 2 300 0 [] ∷ [])
    ∷ take
    ∷ take
    ∷ take
    ∷ [])
    ≡ saw (refused 20) (empty_slot ∷ [])
    ∷ saw (refused 8) (empty_slot ∷ [])
    ∷ saw (gave 0 0) (slot 1 300 0 7 1 2 0 1 0 0 [] ∷ [])
    ∷ saw (refused 20) (slot 1 300 0 7 1 2 0 1 0 0 [] ∷ [])
    ∷ saw (refused 20) (slot 1 300 0 7 1 2 0 1 0 0 [] ∷ [])
    ∷ saw (refused 20) (slot 1 300 0 7 1 2 0 1 0 0 [] ∷ [])
    ∷ [])
    × (line.run_as Cpp ((part 7 2 0 1 1 2 300 0 [] ∷ [])
    ∷ [])
    ≡ line.seen (line.gave 0 0 ∷ []) [])
unfolding run run_as line.run_as
cells-28-2 = (refl, refl)

pub cells-28-3 :
    (run_as Console 3 (receive (part 6 0 0 0 0 2 0 0 [] ∷ whole 5 0 0 0 0 (85 ∷ []) ∷ [])
    ∷ receive (whole 6 0 0 0 0 (69 ∷ []) ∷ whole 6 0 0 0 0 [] ∷ whole 0 0 0 0 0 (14 ∷ 78 ∷ []) ∷ [])
    ∷ take
    ∷ [])
    ≡ saw (gave 1 0) (slot 1 0 0 6 0 2 0 0 0 0 [] ∷ slot 3 0 0 5 0 1 0 0 0 0 (85 ∷ []) ∷ empty_slot ∷ [])
    ∷ saw (refused 8) (slot 1 0 0 6 0 2 0 0 0 0 [] ∷ slot 3 0 0 5 0 1 0 0 0 0 (85 ∷ []) ∷ empty_slot ∷ [])
    ∷ saw (took (msg 5 0 0 (85 ∷ []))) (slot 1 0 0 6 0 2 0 0 0 0 [] ∷ empty_slot ∷ empty_slot ∷ [])
    ∷ [])
    × (line.run_as Console ((part 6 0 0 0 0 2 0 0 [] ∷ whole 5 0 0 0 0 (85 ∷ []) ∷ [])
    ∷ [])
    ≡ line.seen (line.gave 1 0 ∷ []) (msg 5 0 0 (85 ∷ []) ∷ []))
unfolding run run_as line.run_as
cells-28-3 = (refl, refl)

pub cells-28-4 :
    (run_as Console 1 (receive (part 3 0 0 2 0 1 0 0 [] ∷ whole 0 0 0 0 0 (17 ∷ 87 ∷ []) ∷ [])
    ∷ take
    ∷ receive (part 6 0 0 0 0 1 300 0 (94 ∷ []) ∷ part 6 0 0 0 0 2 300 1 (15 ∷ []) ∷ [])
    ∷ receive (part 6 0 0 0 0 2 300 0 (55 ∷ 61 ∷ []) ∷ whole 0 0 0 0 0 (52 ∷ []) ∷ part 0 0 0 0 0 1025 7 0 (21 ∷ []) ∷ whole 5 0 0 0 0 (34
    ∷ 84 ∷ []) ∷ [])
    ∷ receive (part 1 0 2 1 1 3 7 1 (60 ∷ 72 ∷ []) ∷ part 5 0 0 0 0 2 7 1 (81 ∷ 94 ∷ []) ∷ [])
    ∷ receive (part 5 0 0 0 0 3 0 1 [] ∷ part 5 0 0 0 0 3 0 0 (95 ∷ 59 ∷ []) ∷ part 6 0 0 0 0 3 0 0 (80 ∷ 59 ∷ []) ∷ part 0 0 0 0 0 3 7 1 []
    ∷ [])
    ∷ [])
    ≡ saw (refused 8) (empty_slot ∷ [])
    ∷ saw (refused 20) (empty_slot ∷ [])
    ∷ saw (refused 8) (empty_slot ∷ [])
    ∷ saw (refused 8) (empty_slot ∷ [])
    ∷ saw (gave 0 1) (slot 1 7 1 1 1 3 2 1 0 0 (60 ∷ 72 ∷ []) ∷ [])
    ∷ saw (refused 8) (slot 1 7 1 1 1 3 2 1 0 0 (60 ∷ 72 ∷ []) ∷ [])
    ∷ [])
    × (line.run_as Console ((part 1 0 2 1 1 3 7 1 (60 ∷ 72 ∷ []) ∷ part 5 0 0 0 0 2 7 1 (81 ∷ 94 ∷ []) ∷ [])
    ∷ [])
    ≡ line.seen (line.gave 0 1 ∷ []) [])
unfolding run run_as line.run_as
cells-28-4 = (refl, refl)

pub cells-28-5 :
    (run_as Console 1 (receive (part 6 0 0 0 0 3 7 2 (65 ∷ 92 ∷ []) ∷ part 6 0 0 0 0 3 7 1 (3 ∷ 17 ∷ []) ∷ whole 7 0 0 1 32 (18 ∷ 59 ∷ [])
    ∷ part 6 0 0 0 0 3 7 0 (33 ∷ 29 ∷ []) ∷ [])
    ∷ receive (whole 4 1 2 0 0 (30 ∷ 57 ∷ []) ∷ [])
    ∷ receive (whole 3 2 0 1 0 [] ∷ part 3 3 0 3 0 2 7 1 [] ∷ part 3 4 0 3 0 2 7 0 [] ∷ [])
    ∷ [])
    ≡ saw (refused 8) (empty_slot ∷ [])
    ∷ saw (gave 1 0) (slot 3 0 0 4 0 1 2 0 0 0 (30 ∷ 57 ∷ []) ∷ [])
    ∷ saw (refused 8) (slot 3 0 0 4 0 1 2 0 0 0 (30 ∷ 57 ∷ []) ∷ [])
    ∷ [])
    × (line.run_as Console ((whole 4 1 2 0 0 (30 ∷ 57 ∷ []) ∷ [])
    ∷ [])
    ≡ line.seen (line.gave 1 0 ∷ []) (msg 4 0 0 (30 ∷ 57 ∷ []) ∷ []))
unfolding run run_as line.run_as
cells-28-5 = (refl, refl)

pub cells-28-6 :
    (run_as Cpp 6 (receive (whole 5 0 0 0 0 [] ∷ part 1 0 1 3 0 3 0 0 [] ∷ part 3 0 0 1 0 2 300 0 [] ∷ part 3 6 0 1 0 2 300 1 [] ∷ [])
    ∷ receive (part 5 0 0 0 0 1 7 0 [] ∷ [])
    ∷ receive (part 0 0 0 0 0 2 0 0 (37 ∷ 92 ∷ []) ∷ part 0 0 0 0 0 2 0 1 (39 ∷ []) ∷ part 6 0 0 0 0 3 300 2 (59 ∷ [])
    ∷ part 6 0 0 0 0 2 300 0 (92 ∷ []) ∷ [])
    ∷ take
    ∷ receive (part 6 0 0 0 0 2 300 1 [] ∷ whole 3 2 0 0 0 (93 ∷ 62 ∷ []) ∷ part 1 0 3 1 0 2 0 0 (75 ∷ 5 ∷ []) ∷ part 5 0 0 0 0 2 0 0 []
    ∷ [])
    ∷ take
    ∷ [])
    ≡ saw (gave 1 0) (slot 3 0 0 5 0 1 0 0 0 0 [] ∷ slot 1 0 0 1 0 3 1 3 0 0 [] ∷ slot 2 300 0 3 0 2 0 1 0 0 []
    ∷ slot 2 300 1 3 0 2 0 1 0 0 [] ∷ empty_slot ∷ empty_slot ∷ [])
    ∷ saw (gave 1 0) (slot 3 0 0 5 0 1 0 0 0 0 [] ∷ slot 1 0 0 1 0 3 1 3 0 1 [] ∷ slot 2 300 0 3 0 2 0 1 0 0 []
    ∷ slot 2 300 1 3 0 2 0 1 0 0 [] ∷ slot 3 7 0 5 0 1 0 0 1 0 [] ∷ empty_slot ∷ [])
    ∷ saw (gave 0 3) (slot 3 0 0 5 0 1 0 0 0 0 [] ∷ slot 1 0 0 1 0 3 1 3 0 2 [] ∷ slot 2 300 0 3 0 2 0 1 0 0 []
    ∷ slot 2 300 1 3 0 2 0 1 0 0 [] ∷ slot 3 7 0 5 0 1 0 0 1 0 [] ∷ slot 1 300 2 6 0 3 0 0 0 0 (59 ∷ []) ∷ [])
    ∷ saw (took (msg 5 0 0 [])) (empty_slot ∷ slot 1 0 0 1 0 3 1 3 0 2 [] ∷ slot 2 300 0 3 0 2 0 1 0 0 [] ∷ slot 2 300 1 3 0 2 0 1 0 0 []
    ∷ slot 3 7 0 5 0 1 0 0 1 0 [] ∷ slot 1 300 2 6 0 3 0 0 0 0 (59 ∷ []) ∷ [])
    ∷ saw (gave 2 3) (slot 3 0 0 3 0 1 0 0 1 0 (93 ∷ 62 ∷ []) ∷ slot 1 0 0 1 0 3 1 3 0 3 [] ∷ slot 3 300 0 3 0 2 0 1 2 0 []
    ∷ slot 3 300 1 3 0 2 0 1 2 0 [] ∷ slot 3 7 0 5 0 1 0 0 0 0 [] ∷ slot 1 300 2 6 0 3 0 0 0 1 (59 ∷ []) ∷ [])
    ∷ saw (took (msg 5 0 0 [])) (slot 3 0 0 3 0 1 0 0 1 0 (93 ∷ 62 ∷ []) ∷ slot 1 0 0 1 0 3 1 3 0 3 [] ∷ slot 3 300 0 3 0 2 0 1 2 0 []
    ∷ slot 3 300 1 3 0 2 0 1 2 0 [] ∷ empty_slot ∷ slot 1 300 2 6 0 3 0 0 0 1 (59 ∷ []) ∷ [])
    ∷ [])
    × (line.run_as Cpp ((whole 5 0 0 0 0 [] ∷ part 1 0 1 3 0 3 0 0 [] ∷ part 3 0 0 1 0 2 300 0 [] ∷ part 3 6 0 1 0 2 300 1 [] ∷ [])
    ∷ (part 5 0 0 0 0 1 7 0 [] ∷ [])
    ∷ (part 0 0 0 0 0 2 0 0 (37 ∷ 92 ∷ []) ∷ part 0 0 0 0 0 2 0 1 (39 ∷ []) ∷ part 6 0 0 0 0 3 300 2 (59 ∷ []) ∷ part 6 0 0 0 0 2 300 0 (92
    ∷ []) ∷ [])
    ∷ (part 6 0 0 0 0 2 300 1 [] ∷ whole 3 2 0 0 0 (93 ∷ 62 ∷ []) ∷ part 1 0 3 1 0 2 0 0 (75 ∷ 5 ∷ []) ∷ part 5 0 0 0 0 2 0 0 [] ∷ [])
    ∷ [])
    ≡ line.seen (line.gave 1 0 ∷ line.gave 1 0 ∷ line.gave 0 3 ∷ line.gave 2 3 ∷ []) (msg 5 0 0 [] ∷ msg 5 0 0 [] ∷ msg 3 0 0 (93 ∷ 62 ∷ [])
    ∷ msg 3 0 1 [] ∷ []))
unfolding run run_as line.run_as
cells-28-6 = (refl, refl)

pub cells-28-7 :
    (run_as Cpp 6 (receive (whole 1 0 0 0 0 (3 ∷ 68 ∷ []) ∷ whole 1 0 1 0 1 (1 ∷ []) ∷ [])
    ∷ receive (whole 3 0 0 2 0 (81 ∷ 62 ∷ []) ∷ [])
    ∷ take
    ∷ [])
    ≡ saw (gave 2 0) (slot 3 0 0 1 0 1 0 0 0 0 (3 ∷ 68 ∷ []) ∷ slot 3 0 0 1 1 1 1 0 1 0 (1 ∷ []) ∷ empty_slot ∷ empty_slot ∷ empty_slot
    ∷ empty_slot ∷ [])
    ∷ saw (gave 0 0) (slot 3 0 0 1 0 1 0 0 0 0 (3 ∷ 68 ∷ []) ∷ slot 3 0 0 1 1 1 1 0 1 0 (1 ∷ []) ∷ slot 2 0 0 3 0 1 0 2 0 0 (81 ∷ 62 ∷ [])
    ∷ empty_slot ∷ empty_slot ∷ empty_slot ∷ [])
    ∷ saw (took (msg 1 0 0 (3 ∷ 68 ∷ []))) (empty_slot ∷ slot 3 0 0 1 1 1 1 0 1 0 (1 ∷ []) ∷ slot 2 0 0 3 0 1 0 2 0 0 (81 ∷ 62 ∷ [])
    ∷ empty_slot ∷ empty_slot ∷ empty_slot ∷ [])
    ∷ [])
    × (line.run_as Cpp ((whole 1 0 0 0 0 (3 ∷ 68 ∷ []) ∷ whole 1 0 1 0 1 (1 ∷ []) ∷ [])
    ∷ (whole 3 0 0 2 0 (81 ∷ 62 ∷ []) ∷ [])
    ∷ [])
    ≡ line.seen (line.gave 2 0 ∷ line.gave 0 0 ∷ []) (msg 1 0 0 (3 ∷ 68 ∷ []) ∷ msg 1 1 0 (1 ∷ []) ∷ []))
unfolding run run_as line.run_as
cells-28-7 = (refl, refl)

pub cells-28-8 :
    (run_as Console 6 (receive (whole 1 0 0 2 0 (37 ∷ 95 ∷ []) ∷ part 3 0 0 1 1 2 7 1 [] ∷ [])
    ∷ receive (part 4 8 1 0 0 2 300 1 (40 ∷ []) ∷ whole 4 2 2 0 0 (98 ∷ 47 ∷ []) ∷ [])
    ∷ receive (part 3 3 0 1 0 2 7 0 (25 ∷ []) ∷ part 4 4 1 0 0 2 300 0 [] ∷ part 5 0 0 0 0 2 300 1 [] ∷ whole 3 5 0 0 0 (6 ∷ []) ∷ [])
    ∷ take
    ∷ take
    ∷ [])
    ≡ saw (gave 1 0) (slot 3 0 0 1 0 1 0 2 0 0 (37 ∷ 95 ∷ []) ∷ slot 1 7 1 3 1 2 0 1 0 0 [] ∷ empty_slot ∷ empty_slot ∷ empty_slot
    ∷ empty_slot ∷ [])
    ∷ saw (gave 1 0) (slot 3 0 0 1 0 1 0 2 0 0 (37 ∷ 95 ∷ []) ∷ slot 1 7 1 3 1 2 0 1 0 1 [] ∷ slot 1 300 1 4 0 2 1 0 0 0 (40 ∷ [])
    ∷ slot 3 0 0 4 0 1 2 0 1 0 (98 ∷ 47 ∷ []) ∷ empty_slot ∷ empty_slot ∷ [])
    ∷ saw (refused 8) (slot 3 0 0 1 0 1 0 2 0 0 (37 ∷ 95 ∷ []) ∷ slot 1 7 1 3 1 2 0 1 0 1 [] ∷ slot 1 300 1 4 0 2 1 0 0 0 (40 ∷ [])
    ∷ slot 3 0 0 4 0 1 2 0 1 0 (98 ∷ 47 ∷ []) ∷ empty_slot ∷ empty_slot ∷ [])
    ∷ saw (took (msg 1 0 2 (37 ∷ 95 ∷ []))) (empty_slot ∷ slot 1 7 1 3 1 2 0 1 0 1 [] ∷ slot 1 300 1 4 0 2 1 0 0 0 (40 ∷ [])
    ∷ slot 3 0 0 4 0 1 2 0 1 0 (98 ∷ 47 ∷ []) ∷ empty_slot ∷ empty_slot ∷ [])
    ∷ saw (took (msg 4 0 0 (98 ∷ 47 ∷ []))) (empty_slot ∷ slot 1 7 1 3 1 2 0 1 0 1 [] ∷ slot 1 300 1 4 0 2 1 0 0 0 (40 ∷ []) ∷ empty_slot
    ∷ empty_slot ∷ empty_slot ∷ [])
    ∷ [])
    × (line.run_as Console ((whole 1 0 0 2 0 (37 ∷ 95 ∷ []) ∷ part 3 0 0 1 1 2 7 1 [] ∷ [])
    ∷ (part 4 8 1 0 0 2 300 1 (40 ∷ []) ∷ whole 4 2 2 0 0 (98 ∷ 47 ∷ []) ∷ [])
    ∷ [])
    ≡ line.seen (line.gave 1 0 ∷ line.gave 1 0 ∷ []) (msg 1 0 2 (37 ∷ 95 ∷ []) ∷ msg 4 0 0 (98 ∷ 47 ∷ []) ∷ []))
unfolding run run_as line.run_as
cells-28-8 = (refl, refl)

pub cells-28-9 :
    (run_as Cpp 6 (receive (part 3 5 0 0 32 1025 7 0 [] ∷ part 0 0 0 0 0 3 300 0 (86 ∷ 6 ∷ []) ∷ part 0 0 0 0 0 3 300 1 []
    ∷ part 0 0 0 0 0 3 300 2 (91 ∷ 13 ∷ []) ∷ [])
    ∷ receive (part 5 0 0 0 0 1023 7 1023 (5 ∷ []) ∷ whole 3 1 0 3 0 (51 ∷ 7 ∷ []) ∷ whole 3 2 0 2 1 (79 ∷ []) ∷ part 5 0 0 0 0 3 7 2 (99
    ∷ 9 ∷ []) ∷ [])
    ∷ take
    ∷ receive (part 5 0 0 0 0 3 7 1 (4 ∷ []) ∷ [])
    ∷ [])
    ≡ saw (gave 1 1) (slot 3 300 0 0 0 3 0 0 0 0 (86 ∷ 6 ∷ []) ∷ slot 3 300 1 0 0 3 0 0 0 0 [] ∷ slot 3 300 2 0 0 3 0 0 0 0 (91 ∷ 13 ∷ [])
    ∷ empty_slot ∷ empty_slot ∷ empty_slot ∷ [])
    ∷ saw (gave 0 1) (slot 3 300 0 0 0 3 0 0 0 0 (86 ∷ 6 ∷ []) ∷ slot 3 300 1 0 0 3 0 0 0 0 [] ∷ slot 3 300 2 0 0 3 0 0 0 0 (91 ∷ 13 ∷ [])
    ∷ slot 2 0 0 3 0 1 0 3 0 0 (51 ∷ 7 ∷ []) ∷ slot 2 0 0 3 1 1 0 2 0 0 (79 ∷ []) ∷ slot 1 7 2 5 0 3 0 0 0 0 (99 ∷ 9 ∷ []) ∷ [])
    ∷ saw (took (msg 0 0 0 (86 ∷ 6 ∷ 91 ∷ 13 ∷ []))) (empty_slot ∷ empty_slot ∷ empty_slot ∷ slot 2 0 0 3 0 1 0 3 0 0 (51 ∷ 7 ∷ [])
    ∷ slot 2 0 0 3 1 1 0 2 0 0 (79 ∷ []) ∷ slot 1 7 2 5 0 3 0 0 0 0 (99 ∷ 9 ∷ []) ∷ [])
    ∷ saw (gave 0 0) (slot 1 7 1 5 0 3 0 0 0 0 (4 ∷ []) ∷ empty_slot ∷ empty_slot ∷ slot 2 0 0 3 0 1 0 3 0 0 (51 ∷ 7 ∷ [])
    ∷ slot 2 0 0 3 1 1 0 2 0 0 (79 ∷ []) ∷ slot 1 7 2 5 0 3 0 0 0 0 (99 ∷ 9 ∷ []) ∷ [])
    ∷ [])
    × (line.run_as Cpp ((part 3 5 0 0 32 1025 7 0 [] ∷ part 0 0 0 0 0 3 300 0 (86 ∷ 6 ∷ []) ∷ part 0 0 0 0 0 3 300 1 []
    ∷ part 0 0 0 0 0 3 300 2 (91 ∷ 13 ∷ []) ∷ [])
    ∷ (part 5 0 0 0 0 1023 7 1023 (5 ∷ []) ∷ whole 3 1 0 3 0 (51 ∷ 7 ∷ []) ∷ whole 3 2 0 2 1 (79 ∷ []) ∷ part 5 0 0 0 0 3 7 2 (99 ∷ 9 ∷ [])
    ∷ [])
    ∷ (part 5 0 0 0 0 3 7 1 (4 ∷ []) ∷ [])
    ∷ [])
    ≡ line.seen (line.gave 1 1 ∷ line.gave 0 1 ∷ line.gave 0 0 ∷ []) (msg 0 0 0 (86 ∷ 6 ∷ 91 ∷ 13 ∷ []) ∷ []))
unfolding run run_as line.run_as
cells-28-9 = (refl, refl)

pub cells-28-10 :
    (run_as Cpp 1 (receive (part 0 0 0 0 0 2 300 1 [] ∷ [])
    ∷ receive (whole 0 0 0 0 0 (20 ∷ []) ∷ part 0 0 0 0 0 1 0 0 (42 ∷ 81 ∷ []) ∷ [])
    ∷ take
    ∷ receive (whole 5 0 0 0 0 (29 ∷ 11 ∷ []) ∷ [])
    ∷ [])
    ≡ saw (gave 0 0) (slot 1 300 1 0 0 2 0 0 0 0 [] ∷ [])
    ∷ saw (refused 8) (slot 1 300 1 0 0 2 0 0 0 0 [] ∷ [])
    ∷ saw (refused 20) (slot 1 300 1 0 0 2 0 0 0 0 [] ∷ [])
    ∷ saw (refused 8) (slot 1 300 1 0 0 2 0 0 0 0 [] ∷ [])
    ∷ [])
    × (line.run_as Cpp ((part 0 0 0 0 0 2 300 1 [] ∷ [])
    ∷ [])
    ≡ line.seen (line.gave 0 0 ∷ []) [])
unfolding run run_as line.run_as
cells-28-10 = (refl, refl)

pub cells-28-11 :
    (run_as Cpp 6 (receive (part 6 0 0 0 0 2 7 0 (63 ∷ 56 ∷ []) ∷ [])
    ∷ receive (part 3 0 0 2 1 2 0 1 (98 ∷ []) ∷ part 1 0 1 1 0 1 0 0 (4 ∷ []) ∷ part 6 0 0 0 0 2 7 1 [] ∷ part 0 0 0 0 0 2 7 1 (87 ∷ 0 ∷ [])
    ∷ [])
    ∷ receive (part 3 1 0 1 1 2 0 1 (93 ∷ 57 ∷ []) ∷ part 1 0 2 3 0 2 7 1 (49 ∷ 1 ∷ []) ∷ part 5 0 0 0 0 3 7 1 (57 ∷ [])
    ∷ part 6 0 0 0 0 1 300 0 (97 ∷ 5 ∷ []) ∷ [])
    ∷ take
    ∷ [])
    ≡ saw (gave 0 0) (slot 1 7 0 6 0 2 0 0 0 0 (63 ∷ 56 ∷ []) ∷ empty_slot ∷ empty_slot ∷ empty_slot ∷ empty_slot ∷ empty_slot ∷ [])
    ∷ saw (gave 1 1) (slot 3 7 0 6 0 2 0 0 0 0 (63 ∷ 56 ∷ []) ∷ slot 1 0 1 3 1 2 0 2 0 0 (98 ∷ []) ∷ slot 3 7 1 6 0 2 0 0 0 0 []
    ∷ slot 1 7 1 0 0 2 0 0 0 0 (87 ∷ 0 ∷ []) ∷ empty_slot ∷ empty_slot ∷ [])
    ∷ saw (gave 1 3) (slot 3 7 0 6 0 2 0 0 0 0 (63 ∷ 56 ∷ []) ∷ slot 1 0 1 3 1 2 0 2 0 1 (98 ∷ []) ∷ slot 3 7 1 6 0 2 0 0 0 0 []
    ∷ slot 1 7 1 0 0 2 0 0 0 1 (87 ∷ 0 ∷ []) ∷ slot 3 300 0 6 0 1 0 0 1 0 (97 ∷ 5 ∷ []) ∷ empty_slot ∷ [])
    ∷ saw (took (msg 6 0 0 (63 ∷ 56 ∷ []))) (empty_slot ∷ slot 1 0 1 3 1 2 0 2 0 1 (98 ∷ []) ∷ empty_slot ∷ slot 1 7 1 0 0 2 0 0 0 1 (87 ∷ 0
    ∷ []) ∷ slot 3 300 0 6 0 1 0 0 1 0 (97 ∷ 5 ∷ []) ∷ empty_slot ∷ [])
    ∷ [])
    × (line.run_as Cpp ((part 6 0 0 0 0 2 7 0 (63 ∷ 56 ∷ []) ∷ [])
    ∷ (part 3 0 0 2 1 2 0 1 (98 ∷ []) ∷ part 1 0 1 1 0 1 0 0 (4 ∷ []) ∷ part 6 0 0 0 0 2 7 1 [] ∷ part 0 0 0 0 0 2 7 1 (87 ∷ 0 ∷ []) ∷ [])
    ∷ (part 3 1 0 1 1 2 0 1 (93 ∷ 57 ∷ []) ∷ part 1 0 2 3 0 2 7 1 (49 ∷ 1 ∷ []) ∷ part 5 0 0 0 0 3 7 1 (57 ∷ [])
    ∷ part 6 0 0 0 0 1 300 0 (97 ∷ 5 ∷ []) ∷ [])
    ∷ [])
    ≡ line.seen (line.gave 0 0 ∷ line.gave 1 1 ∷ line.gave 1 3 ∷ []) (msg 6 0 0 (63 ∷ 56 ∷ []) ∷ msg 6 0 0 (97 ∷ 5 ∷ []) ∷ []))
unfolding run run_as line.run_as
cells-28-11 = (refl, refl)

pub cells-28-12 :
    (run_as Console 5 (receive (whole 0 0 0 0 0 [] ∷ whole 7 0 0 2 0 (65 ∷ []) ∷ [])
    ∷ receive (whole 6 0 0 0 0 (74 ∷ []) ∷ [])
    ∷ receive (part 3 1 0 1 0 2 0 0 (28 ∷ []) ∷ [])
    ∷ receive (whole 4 2 1 0 0 (12 ∷ 34 ∷ []) ∷ [])
    ∷ [])
    ≡ saw (gave 1 0) (slot 3 0 0 0 0 1 0 0 0 0 [] ∷ slot 2 0 0 7 0 1 0 2 0 0 (65 ∷ []) ∷ empty_slot ∷ empty_slot ∷ empty_slot ∷ [])
    ∷ saw (gave 1 0) (slot 3 0 0 0 0 1 0 0 0 0 [] ∷ slot 2 0 0 7 0 1 0 2 0 0 (65 ∷ []) ∷ slot 3 0 0 6 0 1 0 0 1 0 (74 ∷ []) ∷ empty_slot
    ∷ empty_slot ∷ [])
    ∷ saw (gave 0 0) (slot 3 0 0 0 0 1 0 0 0 0 [] ∷ slot 2 0 0 7 0 1 0 2 0 0 (65 ∷ []) ∷ slot 3 0 0 6 0 1 0 0 1 0 (74 ∷ [])
    ∷ slot 1 0 0 3 0 2 0 1 0 0 (28 ∷ []) ∷ empty_slot ∷ [])
    ∷ saw (gave 1 0) (slot 3 0 0 0 0 1 0 0 0 0 [] ∷ slot 2 0 0 7 0 1 0 2 0 0 (65 ∷ []) ∷ slot 3 0 0 6 0 1 0 0 1 0 (74 ∷ [])
    ∷ slot 1 0 0 3 0 2 0 1 0 1 (28 ∷ []) ∷ slot 3 0 0 4 0 1 1 0 2 0 (12 ∷ 34 ∷ []) ∷ [])
    ∷ [])
    × (line.run_as Console ((whole 0 0 0 0 0 [] ∷ whole 7 0 0 2 0 (65 ∷ []) ∷ [])
    ∷ (whole 6 0 0 0 0 (74 ∷ []) ∷ [])
    ∷ (part 3 1 0 1 0 2 0 0 (28 ∷ []) ∷ [])
    ∷ (whole 4 2 1 0 0 (12 ∷ 34 ∷ []) ∷ [])
    ∷ [])
    ≡ line.seen (line.gave 1 0 ∷ line.gave 1 0 ∷ line.gave 0 0 ∷ line.gave 1 0 ∷ []) (msg 0 0 0 [] ∷ msg 6 0 0 (74 ∷ []) ∷ msg 4 0 0 (12
    ∷ 34 ∷ []) ∷ []))
unfolding run run_as line.run_as
cells-28-12 = (refl, refl)

pub cells-28-13 :
    (run_as Cpp 2 (receive (part 0 0 0 0 0 2 7 0 [] ∷ part 3 0 0 0 0 3 7 2 (6 ∷ 64 ∷ []) ∷ whole 3 1 0 0 0 [] ∷ [])
    ∷ take
    ∷ take
    ∷ receive (whole 6 0 0 0 0 [] ∷ whole 6 0 0 0 0 [] ∷ [])
    ∷ receive (part 6 0 0 0 0 2 7 1 (4 ∷ []) ∷ part 1 0 1 1 0 3 0 2 (29 ∷ 63 ∷ []) ∷ [])
    ∷ [])
    ≡ saw (gave 1 1) (slot 1 7 0 0 0 2 0 0 0 0 [] ∷ slot 3 0 0 3 0 1 0 0 0 0 [] ∷ [])
    ∷ saw (took (msg 3 0 0 [])) (slot 1 7 0 0 0 2 0 0 0 0 [] ∷ empty_slot ∷ [])
    ∷ saw (refused 20) (slot 1 7 0 0 0 2 0 0 0 0 [] ∷ empty_slot ∷ [])
    ∷ saw (refused 8) (slot 1 7 0 0 0 2 0 0 0 0 [] ∷ empty_slot ∷ [])
    ∷ saw (gave 0 1) (slot 1 7 0 0 0 2 0 0 0 1 [] ∷ slot 1 0 2 1 0 3 1 1 0 0 (29 ∷ 63 ∷ []) ∷ [])
    ∷ [])
    × (line.run_as Cpp ((part 0 0 0 0 0 2 7 0 [] ∷ part 3 0 0 0 0 3 7 2 (6 ∷ 64 ∷ []) ∷ whole 3 1 0 0 0 [] ∷ [])
    ∷ (part 6 0 0 0 0 2 7 1 (4 ∷ []) ∷ part 1 0 1 1 0 3 0 2 (29 ∷ 63 ∷ []) ∷ [])
    ∷ [])
    ≡ line.seen (line.gave 1 1 ∷ line.gave 0 1 ∷ []) (msg 3 0 0 [] ∷ []))
unfolding run run_as line.run_as
cells-28-13 = (refl, refl)

pub cells-28-14 :
    (run_as Cpp 6 (take
    ∷ receive (part 3 0 0 1 0 3 7 0 [] ∷ whole 1 0 2 1 1 (88 ∷ []) ∷ [])
    ∷ take
    ∷ receive (part 3 1 0 2 0 3 7 1 (27 ∷ []) ∷ part 3 2 0 1 0 3 7 2 (62 ∷ 39 ∷ []) ∷ whole 1 0 2 0 0 (85 ∷ 22 ∷ []) ∷ whole 1 0 2 0 0 []
    ∷ [])
    ∷ receive (part 4 3 1 0 0 3 7 1 [] ∷ [])
    ∷ take
    ∷ [])
    ≡ saw (refused 20) (empty_slot ∷ empty_slot ∷ empty_slot ∷ empty_slot ∷ empty_slot ∷ empty_slot ∷ [])
    ∷ saw (gave 1 0) (slot 1 7 0 3 0 3 0 1 0 0 [] ∷ slot 3 0 0 1 1 1 2 1 0 0 (88 ∷ []) ∷ empty_slot ∷ empty_slot ∷ empty_slot ∷ empty_slot
    ∷ [])
    ∷ saw (took (msg 1 1 1 (88 ∷ []))) (slot 1 7 0 3 0 3 0 1 0 0 [] ∷ empty_slot ∷ empty_slot ∷ empty_slot ∷ empty_slot ∷ empty_slot ∷ [])
    ∷ saw (gave 1 2) (slot 1 7 0 3 0 3 0 1 0 0 [] ∷ slot 1 7 2 3 0 3 0 1 0 0 (62 ∷ 39 ∷ []) ∷ slot 3 0 0 1 0 1 2 0 0 0 (85 ∷ 22 ∷ [])
    ∷ empty_slot ∷ empty_slot ∷ empty_slot ∷ [])
    ∷ saw (gave 0 1) (slot 1 7 0 3 0 3 0 1 0 1 [] ∷ slot 1 7 2 3 0 3 0 1 0 1 (62 ∷ 39 ∷ []) ∷ slot 3 0 0 1 0 1 2 0 0 0 (85 ∷ 22 ∷ [])
    ∷ empty_slot ∷ empty_slot ∷ empty_slot ∷ [])
    ∷ saw (took (msg 1 0 0 (85 ∷ 22 ∷ []))) (slot 1 7 0 3 0 3 0 1 0 1 [] ∷ slot 1 7 2 3 0 3 0 1 0 1 (62 ∷ 39 ∷ []) ∷ empty_slot ∷ empty_slot
    ∷ empty_slot ∷ empty_slot ∷ [])
    ∷ [])
    × (line.run_as Cpp ((part 3 0 0 1 0 3 7 0 [] ∷ whole 1 0 2 1 1 (88 ∷ []) ∷ [])
    ∷ (part 3 1 0 2 0 3 7 1 (27 ∷ []) ∷ part 3 2 0 1 0 3 7 2 (62 ∷ 39 ∷ []) ∷ whole 1 0 2 0 0 (85 ∷ 22 ∷ []) ∷ whole 1 0 2 0 0 [] ∷ [])
    ∷ (part 4 3 1 0 0 3 7 1 [] ∷ [])
    ∷ [])
    ≡ line.seen (line.gave 1 0 ∷ line.gave 1 2 ∷ line.gave 0 1 ∷ []) (msg 1 1 1 (88 ∷ []) ∷ msg 1 0 0 (85 ∷ 22 ∷ []) ∷ []))
unfolding run run_as line.run_as
cells-28-14 = (refl, refl)

pub cells-28-15 :
    (run_as Console 4 (receive (whole 6 0 0 0 0 (42 ∷ 38 ∷ []) ∷ [])
    ∷ take
    ∷ receive (whole 0 0 0 0 0 [] ∷ part 6 0 0 0 0 2 300 0 (1 ∷ []) ∷ whole 0 0 0 0 0 [] ∷ part 6 0 0 0 0 2 300 1 [] ∷ [])
    ∷ receive (whole 6 0 0 0 0 [] ∷ [])
    ∷ receive (whole 6 0 0 0 0 (16 ∷ 14 ∷ []) ∷ part 1 0 1 2 0 2 7 1 (78 ∷ []) ∷ [])
    ∷ [])
    ≡ saw (gave 1 0) (slot 3 0 0 6 0 1 0 0 0 0 (42 ∷ 38 ∷ []) ∷ empty_slot ∷ empty_slot ∷ empty_slot ∷ [])
    ∷ saw (took (msg 6 0 0 (42 ∷ 38 ∷ []))) (empty_slot ∷ empty_slot ∷ empty_slot ∷ empty_slot ∷ [])
    ∷ saw (gave 3 0) (slot 3 0 0 0 0 1 0 0 0 0 [] ∷ slot 3 300 0 6 0 2 0 0 2 0 (1 ∷ []) ∷ slot 3 0 0 0 0 1 0 0 1 0 []
    ∷ slot 3 300 1 6 0 2 0 0 2 0 [] ∷ [])
    ∷ saw (refused 8) (slot 3 0 0 0 0 1 0 0 0 0 [] ∷ slot 3 300 0 6 0 2 0 0 2 0 (1 ∷ []) ∷ slot 3 0 0 0 0 1 0 0 1 0 []
    ∷ slot 3 300 1 6 0 2 0 0 2 0 [] ∷ [])
    ∷ saw (refused 8) (slot 3 0 0 0 0 1 0 0 0 0 [] ∷ slot 3 300 0 6 0 2 0 0 2 0 (1 ∷ []) ∷ slot 3 0 0 0 0 1 0 0 1 0 []
    ∷ slot 3 300 1 6 0 2 0 0 2 0 [] ∷ [])
    ∷ [])
    × (line.run_as Console ((whole 6 0 0 0 0 (42 ∷ 38 ∷ []) ∷ [])
    ∷ (whole 0 0 0 0 0 [] ∷ part 6 0 0 0 0 2 300 0 (1 ∷ []) ∷ whole 0 0 0 0 0 [] ∷ part 6 0 0 0 0 2 300 1 [] ∷ [])
    ∷ [])
    ≡ line.seen (line.gave 1 0 ∷ line.gave 3 0 ∷ []) (msg 6 0 0 (42 ∷ 38 ∷ []) ∷ msg 0 0 0 [] ∷ msg 0 0 0 [] ∷ msg 6 0 0 (1 ∷ []) ∷ []))
unfolding run run_as line.run_as
cells-28-15 = (refl, refl)

pub cells-28-16 :
    (run_as Cpp 1 (receive (part 4 0 1 1 0 2 0 0 (9 ∷ 25 ∷ []) ∷ part 4 1 1 1 0 2 0 1 (50 ∷ []) ∷ [])
    ∷ take
    ∷ receive (whole 1 0 2 2 1 [] ∷ whole 1 0 1 3 1 (45 ∷ 48 ∷ []) ∷ whole 3 2 0 3 0 [] ∷ whole 1 0 2 3 0 (98 ∷ []) ∷ [])
    ∷ receive (part 4 3 3 1 0 2 300 0 (58 ∷ 9 ∷ []) ∷ [])
    ∷ [])
    ≡ saw (refused 8) (empty_slot ∷ [])
    ∷ saw (refused 20) (empty_slot ∷ [])
    ∷ saw (refused 8) (empty_slot ∷ [])
    ∷ saw (gave 0 0) (slot 1 300 0 4 0 2 3 1 0 0 (58 ∷ 9 ∷ []) ∷ [])
    ∷ [])
    × (line.run_as Cpp ((part 4 3 3 1 0 2 300 0 (58 ∷ 9 ∷ []) ∷ [])
    ∷ [])
    ≡ line.seen (line.gave 0 0 ∷ []) [])
unfolding run run_as line.run_as
cells-28-16 = (refl, refl)

pub cells-28-17 :
    (run_as Cpp 4 (receive (whole 3 0 0 1 32 [] ∷ part 7 1 0 0 0 1 0 0 (61 ∷ []) ∷ part 1 0 3 2 32 1023 7 1024 (48 ∷ 76 ∷ [])
    ∷ whole 7 2 0 0 0 (64 ∷ []) ∷ [])
    ∷ take
    ∷ receive (part 4 3 2 2 0 2 7 1 (16 ∷ 99 ∷ []) ∷ part 4 4 2 2 0 2 7 0 (16 ∷ []) ∷ whole 4 5 0 2 0 (6 ∷ []) ∷ [])
    ∷ [])
    ≡ saw (gave 1 3) (slot 3 0 0 7 0 1 0 0 0 0 (61 ∷ []) ∷ empty_slot ∷ empty_slot ∷ empty_slot ∷ [])
    ∷ saw (took (msg 7 0 0 (61 ∷ []))) (empty_slot ∷ empty_slot ∷ empty_slot ∷ empty_slot ∷ [])
    ∷ saw (gave 1 1) (slot 3 7 1 4 0 2 2 2 0 0 (16 ∷ 99 ∷ []) ∷ slot 3 7 0 4 0 2 2 2 0 0 (16 ∷ []) ∷ empty_slot ∷ empty_slot ∷ [])
    ∷ [])
    × (line.run_as Cpp ((whole 3 0 0 1 32 [] ∷ part 7 1 0 0 0 1 0 0 (61 ∷ []) ∷ part 1 0 3 2 32 1023 7 1024 (48 ∷ 76 ∷ [])
    ∷ whole 7 2 0 0 0 (64 ∷ []) ∷ [])
    ∷ (part 4 3 2 2 0 2 7 1 (16 ∷ 99 ∷ []) ∷ part 4 4 2 2 0 2 7 0 (16 ∷ []) ∷ whole 4 5 0 2 0 (6 ∷ []) ∷ [])
    ∷ [])
    ≡ line.seen (line.gave 1 3 ∷ line.gave 1 1 ∷ []) (msg 7 0 0 (61 ∷ []) ∷ msg 4 0 2 (16 ∷ 16 ∷ 99 ∷ []) ∷ []))
unfolding run run_as line.run_as
cells-28-17 = (refl, refl)

pub cells-28-18 :
    (run_as Cpp 6 (receive (whole 1 0 0 1 0 (73 ∷ []) ∷ [])
    ∷ receive (whole 7 0 0 2 0 (85 ∷ []) ∷ [])
    ∷ [])
    ≡ saw (gave 1 0) (slot 3 0 0 1 0 1 0 1 0 0 (73 ∷ []) ∷ empty_slot ∷ empty_slot ∷ empty_slot ∷ empty_slot ∷ empty_slot ∷ [])
    ∷ saw (gave 0 0) (slot 3 0 0 1 0 1 0 1 0 0 (73 ∷ []) ∷ slot 2 0 0 7 0 1 0 2 0 0 (85 ∷ []) ∷ empty_slot ∷ empty_slot ∷ empty_slot
    ∷ empty_slot ∷ [])
    ∷ [])
    × (line.run_as Cpp ((whole 1 0 0 1 0 (73 ∷ []) ∷ [])
    ∷ (whole 7 0 0 2 0 (85 ∷ []) ∷ [])
    ∷ [])
    ≡ line.seen (line.gave 1 0 ∷ line.gave 0 0 ∷ []) (msg 1 0 1 (73 ∷ []) ∷ []))
unfolding run run_as line.run_as
cells-28-18 = (refl, refl)

pub cells-28-19 :
    (run_as Cpp 3 (take
    ∷ take
    ∷ receive (part 0 0 0 0 0 1 300 0 [] ∷ [])
    ∷ take
    ∷ receive (whole 6 0 0 0 0 [] ∷ [])
    ∷ take
    ∷ [])
    ≡ saw (refused 20) (empty_slot ∷ empty_slot ∷ empty_slot ∷ [])
    ∷ saw (refused 20) (empty_slot ∷ empty_slot ∷ empty_slot ∷ [])
    ∷ saw (gave 1 0) (slot 3 300 0 0 0 1 0 0 0 0 [] ∷ empty_slot ∷ empty_slot ∷ [])
    ∷ saw (took (msg 0 0 0 [])) (empty_slot ∷ empty_slot ∷ empty_slot ∷ [])
    ∷ saw (gave 1 0) (slot 3 0 0 6 0 1 0 0 0 0 [] ∷ empty_slot ∷ empty_slot ∷ [])
    ∷ saw (took (msg 6 0 0 [])) (empty_slot ∷ empty_slot ∷ empty_slot ∷ [])
    ∷ [])
    × (line.run_as Cpp ((part 0 0 0 0 0 1 300 0 [] ∷ [])
    ∷ (whole 6 0 0 0 0 [] ∷ [])
    ∷ [])
    ≡ line.seen (line.gave 1 0 ∷ line.gave 1 0 ∷ []) (msg 0 0 0 [] ∷ msg 6 0 0 [] ∷ []))
unfolding run run_as line.run_as
cells-28-19 = (refl, refl)
