-- Request 4 on worked examples, written from its words: unfinished previews give their cells back; what each call is told, and the slots
-- after it.
-- Assumes nothing.
use Prim.Native.Nat.{ℕ}
use mathlib.Core.Path.{◌≡◌, refl}
use mathlib.Core.List.{[], ◌∷◌}
use Rattle.base.specs.Limits.{max_age}
use Rattle.reliability.specs.declared.Profile.TheVariants.{Cpp}
use Rattle.bare.proofs.Shown.{whole-frame, piece-frame, preview, msg}
use Rattle.cells.specs.Cell.{Slot, empty_slot}
use Rattle.cells.specs.Ages.{aged}
use Rattle.cells.proofs.Shown.{slot, held-cell, ready-cell, receive, take, drop_past, gave, took, gave_back, refused, saw, run}
use Rattle.cells.proofs.Shown.{run_as, run_from}

-- A cell of an open preview, of kind 0: age; id, index, count, byte.
unfoldable pub preview-cell : ℕ → ℕ → ℕ → ℕ → ℕ → Slot
preview-cell age id index count byte = aged age (slot 1 id index 0 0 count 0 0 0 (byte ∷ []))

-- A preview's pieces hold both cells, and the next frame gets 8, which makes nothing older. One further datagram is not more than 1, but
-- more than 0; a second call frees nothing. Then the frame is accepted.
pub full-then-free : run 2 (receive (preview 3 5 0 8 ∷ []) ∷ receive (preview 3 5 2 7 ∷ []) ∷ receive (whole-frame 0 0 0 0 9 ∷ [])
    ∷ receive [] ∷ drop_past 1 ∷ drop_past 0 ∷ drop_past 0 ∷ receive (whole-frame 0 0 0 0 9 ∷ []) ∷ [])
    ≡ saw (gave 0 0) (preview-cell 0 5 0 3 8 ∷ empty_slot ∷ [])
    ∷ saw (gave 0 0) (preview-cell 0 5 0 3 8 ∷ preview-cell 0 5 2 3 7 ∷ [])
    ∷ saw (refused 8) (preview-cell 0 5 0 3 8 ∷ preview-cell 0 5 2 3 7 ∷ [])
    ∷ saw (gave 0 0) (preview-cell 1 5 0 3 8 ∷ preview-cell 1 5 2 3 7 ∷ [])
    ∷ saw (gave_back 0) (preview-cell 1 5 0 3 8 ∷ preview-cell 1 5 2 3 7 ∷ [])
    ∷ saw (gave_back 2) (empty_slot ∷ empty_slot ∷ [])
    ∷ saw (gave_back 0) (empty_slot ∷ empty_slot ∷ [])
    ∷ saw (gave 1 0) (ready-cell 0 0 0 9 ∷ empty_slot ∷ [])
    ∷ []
unfolding run preview preview-cell
full-then-free = refl

-- "The age kept for an id stops at 2^32, which no n reaches": from 2^32 - 2 two datagrams take it there, and further ones leave it. So it
-- goes even at the greatest n, and not before.
pub age-stops : run_from 0 (preview-cell 4294967294 5 0 2 8 ∷ []) (receive [] ∷ drop_past 4294967295 ∷ receive [] ∷ receive []
    ∷ drop_past 4294967295 ∷ [])
    ≡ saw (gave 0 0) (preview-cell 4294967295 5 0 2 8 ∷ [])
    ∷ saw (gave_back 0) (preview-cell 4294967295 5 0 2 8 ∷ [])
    ∷ saw (gave 0 0) (preview-cell max_age 5 0 2 8 ∷ [])
    ∷ saw (gave 0 0) (preview-cell max_age 5 0 2 8 ∷ [])
    ∷ saw (gave_back 1) (empty_slot ∷ [])
    ∷ []
unfolding run run_from preview-cell
age-stops = refl

-- Kind 2 carries a reliable number: its piece does not go, here beside a preview of the same age, which does.
pub kind-2-stays : run_from 0 (aged max_age (slot 1 5 0 2 0 2 0 0 0 (8 ∷ [])) ∷ preview-cell max_age 6 0 2 7 ∷ []) (drop_past 0 ∷ [])
    ≡ saw (gave_back 1) (aged max_age (slot 1 5 0 2 0 2 0 0 0 (8 ∷ [])) ∷ empty_slot ∷ []) ∷ []
unfolding run run_from preview-cell
kind-2-stays = refl

-- Nor does kind 4 of the C++ profile, with an order number and a channel of its own (5 and 2): it stays where the preview beside it goes,
-- and its last piece completes it.
pub kind-4-of-cpp-stays : run_as Cpp 2 (receive (piece-frame 4 0 2 5 2 7 0 8 ∷ preview 2 6 0 9 ∷ []) ∷ receive [] ∷ drop_past 0
    ∷ receive (piece-frame 4 1 2 5 2 7 1 10 ∷ []) ∷ take ∷ [])
    ≡ saw (gave 0 0) (slot 1 7 0 4 2 2 0 5 0 (8 ∷ []) ∷ preview-cell 0 6 0 2 9 ∷ [])
    ∷ saw (gave 0 0) (aged 1 (slot 1 7 0 4 2 2 0 5 0 (8 ∷ [])) ∷ preview-cell 1 6 0 2 9 ∷ [])
    ∷ saw (gave_back 1) (aged 1 (slot 1 7 0 4 2 2 0 5 0 (8 ∷ [])) ∷ empty_slot ∷ [])
    ∷ saw (gave 1 0) (slot 3 7 0 4 2 2 0 5 0 (8 ∷ []) ∷ slot 3 7 1 4 2 2 0 5 0 (10 ∷ []) ∷ [])
    ∷ saw (took (msg 4 2 5 (8 ∷ 10 ∷ []))) (empty_slot ∷ empty_slot ∷ [])
    ∷ []
unfolding run run_as preview preview-cell
kind-4-of-cpp-stays = refl

-- "More than n further datagrams", n being 2: at age 2 the drop frees nothing, and the last piece completes the preview.
pub last-piece-in-time : run 2 (receive (preview 2 5 0 8 ∷ []) ∷ receive [] ∷ receive [] ∷ drop_past 2 ∷ receive (preview 2 5 1 7 ∷ [])
    ∷ take ∷ [])
    ≡ saw (gave 0 0) (preview-cell 0 5 0 2 8 ∷ empty_slot ∷ [])
    ∷ saw (gave 0 0) (preview-cell 1 5 0 2 8 ∷ empty_slot ∷ [])
    ∷ saw (gave 0 0) (preview-cell 2 5 0 2 8 ∷ empty_slot ∷ [])
    ∷ saw (gave_back 0) (preview-cell 2 5 0 2 8 ∷ empty_slot ∷ [])
    ∷ saw (gave 1 0) (slot 3 5 0 0 0 2 0 0 0 (8 ∷ []) ∷ slot 3 5 1 0 0 2 0 0 0 (7 ∷ []) ∷ [])
    ∷ saw (took (msg 0 0 0 (8 ∷ 7 ∷ []))) (empty_slot ∷ empty_slot ∷ [])
    ∷ []
unfolding run preview preview-cell
last-piece-in-time = refl

-- At age 3 it frees the cell, and the last piece opens the id anew: nothing is ready.
pub last-piece-too-late : run 2 (receive (preview 2 5 0 8 ∷ []) ∷ receive [] ∷ receive [] ∷ receive [] ∷ drop_past 2
    ∷ receive (preview 2 5 1 7 ∷ []) ∷ take ∷ [])
    ≡ saw (gave 0 0) (preview-cell 0 5 0 2 8 ∷ empty_slot ∷ [])
    ∷ saw (gave 0 0) (preview-cell 1 5 0 2 8 ∷ empty_slot ∷ [])
    ∷ saw (gave 0 0) (preview-cell 2 5 0 2 8 ∷ empty_slot ∷ [])
    ∷ saw (gave 0 0) (preview-cell 3 5 0 2 8 ∷ empty_slot ∷ [])
    ∷ saw (gave_back 1) (empty_slot ∷ empty_slot ∷ [])
    ∷ saw (gave 0 0) (preview-cell 0 5 1 2 7 ∷ empty_slot ∷ [])
    ∷ saw (refused 20) (preview-cell 0 5 1 2 7 ∷ empty_slot ∷ [])
    ∷ []
unfolding run preview preview-cell
last-piece-too-late = refl

-- Only unfinished messages go: the held and the ready one, a joined preview, stay, and takes still hand it out.
pub unfinished-only : run 4 (receive (preview 2 5 0 1 ∷ whole-frame 3 0 0 1 66 ∷ preview 2 6 0 7 ∷ preview 2 5 1 2 ∷ []) ∷ receive []
    ∷ drop_past 0 ∷ take ∷ [])
    ≡ saw (gave 1 0) (slot 3 5 0 0 0 2 0 0 0 (1 ∷ []) ∷ held-cell 1 66 ∷ preview-cell 0 6 0 2 7 ∷ slot 3 5 1 0 0 2 0 0 0 (2 ∷ []) ∷ [])
    ∷ saw (gave 0 0) (slot 3 5 0 0 0 2 0 0 0 (1 ∷ []) ∷ held-cell 1 66 ∷ preview-cell 1 6 0 2 7 ∷ slot 3 5 1 0 0 2 0 0 0 (2 ∷ []) ∷ [])
    ∷ saw (gave_back 1) (slot 3 5 0 0 0 2 0 0 0 (1 ∷ []) ∷ held-cell 1 66 ∷ empty_slot ∷ slot 3 5 1 0 0 2 0 0 0 (2 ∷ []) ∷ [])
    ∷ saw (took (msg 0 0 0 (1 ∷ 2 ∷ []))) (empty_slot ∷ held-cell 1 66 ∷ empty_slot ∷ empty_slot ∷ [])
    ∷ []
unfolding run preview preview-cell
unfinished-only = refl
