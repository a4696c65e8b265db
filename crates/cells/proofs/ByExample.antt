-- The receiver with cells on worked examples, written from document 01's words: what each call is told, and the slots after it.
-- Assumes nothing.
use mathlib.Core.Path.{◌≡◌, refl}
use mathlib.Core.Bool.{true, false}
use mathlib.Core.List.{List, [], ◌∷◌, map}
use lib.ListN.{replicate}
use Rattle.base.specs.Limits.{max_age}
use Rattle.reliability.specs.declared.Profile.TheVariants.{Console, Cpp}
use Rattle.bare.specs.Frame.{Frame}
use Rattle.bare.specs.Bare.{new, feed}
use Rattle.bare.proofs.Shown.{whole-frame, piece-frame, msg}
use Rattle.cells.specs.Cell.{Slot, empty_slot}
use Rattle.cells.specs.Ages.{aged, grown, dropped}
use Rattle.cells.specs.Take.{drain}
use Rattle.cells.specs.Room.{kept_as_frame, bodies, exceeds}
use Rattle.cells.proofs.Shown.{slot, open-cell, held-cell, ready-cell, numbered, SlotCall, receive, take, gave, took, refused, Seen}
use Rattle.cells.proofs.Shown.{saw, state_after, state_at, run, run_as, run_from, sound_at}

-- Order number 1 is held, 0 releases it; takes hand them out in order and free their cells; then 20.
pub held-then-released : run 2 (receive (whole-frame 3 0 0 1 66 ∷ []) ∷ receive (whole-frame 3 1 0 0 65 ∷ []) ∷ take ∷ take ∷ take ∷ [])
    ≡ saw (gave 0 0) (held-cell 1 66 ∷ empty_slot ∷ [])
    ∷ saw (gave 2 0) (ready-cell 1 3 1 66 ∷ ready-cell 0 3 0 65 ∷ [])
    ∷ saw (took (msg 3 0 0 (65 ∷ []))) (ready-cell 1 3 1 66 ∷ empty_slot ∷ [])
    ∷ saw (took (msg 3 0 1 (66 ∷ []))) (empty_slot ∷ empty_slot ∷ [])
    ∷ saw (refused 20) (empty_slot ∷ empty_slot ∷ [])
    ∷ []
unfolding run
held-then-released = refl

-- A split of three, joined late, with a frame sent twice and piece index 2 of count 2: 5 cells do, 4 do not.
unfoldable pub split-frames : List Frame
split-frames = whole-frame 7 0 5 2 12 ∷ piece-frame 3 1 5 0 3 9 2 102 ∷ whole-frame 3 2 5 1 11 ∷ piece-frame 3 3 5 0 3 9 0 100
    ∷ whole-frame 3 2 5 1 11 ∷ piece-frame 3 6 0 0 2 4 2 1 ∷ piece-frame 3 4 5 0 3 9 1 101 ∷ []

pub split-needs-5 : (map (λ (v : Seen). v.told) (run 5 (receive split-frames ∷ take ∷ take ∷ take ∷ []))
    ≡ gave 3 2 ∷ took (msg 3 5 0 (100 ∷ 101 ∷ 102 ∷ [])) ∷ took (msg 3 5 1 (11 ∷ [])) ∷ took (msg 7 5 2 (12 ∷ [])) ∷ [])
    × (drain (state_after (state_after (state_at 0 (replicate 5 empty_slot)) (receive split-frames)) take).slots
    ≡ msg 3 5 1 (11 ∷ []) ∷ msg 7 5 2 (12 ∷ []) ∷ [])
    × (run 4 (receive split-frames ∷ []) ≡ saw (refused 8) (empty_slot ∷ empty_slot ∷ empty_slot ∷ empty_slot ∷ []) ∷ [])
unfolding run split-frames
split-needs-5 = (refl, refl, refl)

-- Refusal 8's condition counts the same: five of the seven frames are not dropped as frames.
pub room-condition : (bodies (new Console) split-frames ≡ 5) × (exceeds (new Console) (replicate 5 empty_slot) split-frames ≡ false)
    × (exceeds (new Console) (replicate 4 empty_slot) split-frames ≡ true)
unfolding run split-frames bodies kept_as_frame exceeds
room-condition = (refl, refl, refl)

-- A late join: order number 0 comes whole, then the second piece of its split. The joined message is dropped and counts one; its two cells
-- count for 8, are not used again within the datagram, and are free afterwards. So the frames behind it need two more cells: 3 do not do, 4
-- do.
unfoldable pub late-join : List SlotCall
late-join = receive (piece-frame 3 0 0 0 2 5 0 8 ∷ whole-frame 3 1 0 0 9 ∷ []) ∷ take
    ∷ receive (piece-frame 3 2 0 0 2 5 1 8 ∷ whole-frame 0 0 0 0 1 ∷ whole-frame 0 0 0 0 2 ∷ []) ∷ []

pub late-join-of-3 : run 3 late-join
    ≡ saw (gave 1 0) (open-cell 5 0 2 0 8 ∷ ready-cell 0 3 0 9 ∷ empty_slot ∷ [])
    ∷ saw (took (msg 3 0 0 (9 ∷ []))) (open-cell 5 0 2 0 8 ∷ empty_slot ∷ empty_slot ∷ [])
    ∷ saw (refused 8) (open-cell 5 0 2 0 8 ∷ empty_slot ∷ empty_slot ∷ [])
    ∷ []
unfolding run late-join
late-join-of-3 = refl

pub late-join-of-4 : run 4 late-join
    ≡ saw (gave 1 0) (open-cell 5 0 2 0 8 ∷ ready-cell 0 3 0 9 ∷ empty_slot ∷ empty_slot ∷ [])
    ∷ saw (took (msg 3 0 0 (9 ∷ []))) (open-cell 5 0 2 0 8 ∷ empty_slot ∷ empty_slot ∷ empty_slot ∷ [])
    ∷ saw (gave 2 1) (empty_slot ∷ empty_slot ∷ ready-cell 0 0 0 1 ∷ ready-cell 1 0 0 2 ∷ [])
    ∷ []
unfolding run late-join
late-join-of-4 = refl

-- Refusal 8's condition counts the late piece too: three bodies are not dropped as frames.
pub late-join-takes-a-cell : bodies (feed (new Console) (piece-frame 3 0 0 0 2 5 0 8 ∷ whole-frame 3 1 0 0 9 ∷ [])).after
    (piece-frame 3 2 0 0 2 5 1 8 ∷ whole-frame 0 0 0 0 1 ∷ whole-frame 0 0 0 0 2 ∷ []) ≡ 3
unfolding run bodies kept_as_frame
late-join-takes-a-cell = refl

-- Request 1 with the only cell in use: a whole frame at or below the newest number is dropped and needs no cell, so the datagram is
-- accepted. A newer one needs a cell and gets 8, and is not remembered: it passes once there is room.
pub late-whole : run 1 (receive (numbered 5 (whole-frame 1 0 0 0 9) ∷ []) ∷ receive (numbered 5 (whole-frame 1 0 0 0 8)
    ∷ numbered 4 (whole-frame 1 0 0 0 7) ∷ []) ∷ receive (numbered 6 (whole-frame 1 0 0 0 6) ∷ []) ∷ take
    ∷ receive (numbered 6 (whole-frame 1 0 0 0 6) ∷ []) ∷ [])
    ≡ saw (gave 1 0) (slot 3 0 0 1 0 1 5 0 0 (9 ∷ []) ∷ []) ∷ saw (gave 0 2) (slot 3 0 0 1 0 1 5 0 0 (9 ∷ []) ∷ [])
    ∷ saw (refused 8) (slot 3 0 0 1 0 1 5 0 0 (9 ∷ []) ∷ []) ∷ saw (took (msg 1 0 0 (9 ∷ []))) (empty_slot ∷ [])
    ∷ saw (gave 1 0) (slot 3 0 0 1 0 1 6 0 0 (6 ∷ []) ∷ []) ∷ []
unfolding run
late-whole = refl

-- Each channel has its memory, and kind 4 one of its own: kind 1 with a lower number passes on both channels, kind 4 does not. A joined
-- message, here of one piece, is remembered too: the whole frame of its number is late.
pub own-memories : run 3 (receive (numbered 7 (whole-frame 4 0 0 0 1) ∷ numbered 3 (piece-frame 1 0 0 0 1 9 0 2)
    ∷ numbered 6 (whole-frame 4 1 0 0 3) ∷ numbered 2 (whole-frame 1 0 1 0 4) ∷ numbered 3 (whole-frame 1 0 0 0 5) ∷ []) ∷ [])
    ≡ saw (gave 3 2) (slot 3 0 0 4 0 1 7 0 0 (1 ∷ []) ∷ slot 3 9 0 1 0 1 3 0 1 (2 ∷ []) ∷ slot 3 0 0 1 1 1 2 0 2 (4 ∷ []) ∷ []) ∷ []
unfolding run
own-memories = refl

-- In the C++ profile kind 4 uses its channel's memory (request 2): kind 1's number is late after kind 4's on one channel, and kind 4's
-- lower one passes on another. A late one takes no cell.
pub shared-memories : run_as Cpp 3 (receive (numbered 7 (whole-frame 4 0 1 5 1) ∷ numbered 7 (whole-frame 1 0 1 0 2)
    ∷ numbered 6 (whole-frame 4 1 2 0 3) ∷ numbered 8 (piece-frame 1 0 1 0 1 9 0 4) ∷ []) ∷ [])
    ≡ saw (gave 3 1) (slot 3 0 0 4 1 1 7 5 0 (1 ∷ []) ∷ slot 3 0 0 4 2 1 6 0 1 (3 ∷ []) ∷ slot 3 9 0 1 1 1 8 0 2 (4 ∷ []) ∷ []) ∷ []
unfolding run run_as
shared-memories = refl

-- A joined message of kind 1 whose number is not newer: sequence number 4 comes whole, then the second piece of number 3. The joined
-- message is dropped and counts one; as with the late join above its cells count for 8, and are unused after the datagram. 3 cells do not
-- do, 4 do.
unfoldable pub late-sequenced-join : List SlotCall
late-sequenced-join = receive (numbered 3 (piece-frame 1 0 0 0 2 5 0 8) ∷ numbered 4 (whole-frame 1 0 0 0 9) ∷ []) ∷ take
    ∷ receive (numbered 3 (piece-frame 1 0 0 0 2 5 1 8) ∷ whole-frame 0 0 0 0 1 ∷ whole-frame 0 0 0 0 2 ∷ []) ∷ []

pub late-sequenced-join-of-3 : run 3 late-sequenced-join
    ≡ saw (gave 1 0) (slot 1 5 0 1 0 2 3 0 0 (8 ∷ []) ∷ slot 3 0 0 1 0 1 4 0 0 (9 ∷ []) ∷ empty_slot ∷ [])
    ∷ saw (took (msg 1 0 0 (9 ∷ []))) (slot 1 5 0 1 0 2 3 0 0 (8 ∷ []) ∷ empty_slot ∷ empty_slot ∷ [])
    ∷ saw (refused 8) (slot 1 5 0 1 0 2 3 0 0 (8 ∷ []) ∷ empty_slot ∷ empty_slot ∷ [])
    ∷ []
unfolding run late-sequenced-join
late-sequenced-join-of-3 = refl

pub late-sequenced-join-of-4 : run 4 late-sequenced-join
    ≡ saw (gave 1 0) (slot 1 5 0 1 0 2 3 0 0 (8 ∷ []) ∷ slot 3 0 0 1 0 1 4 0 0 (9 ∷ []) ∷ empty_slot ∷ empty_slot ∷ [])
    ∷ saw (took (msg 1 0 0 (9 ∷ []))) (slot 1 5 0 1 0 2 3 0 0 (8 ∷ []) ∷ empty_slot ∷ empty_slot ∷ empty_slot ∷ [])
    ∷ saw (gave 2 1) (empty_slot ∷ empty_slot ∷ ready-cell 0 0 0 1 ∷ ready-cell 1 0 0 2 ∷ [])
    ∷ []
unfolding run late-sequenced-join
late-sequenced-join-of-4 = refl

-- Refusal 8's condition counts the same: none for whole frames dropped late, one for the piece of a late join.
pub late-sequenced-cells : (bodies (feed (new Console) (numbered 5 (whole-frame 1 0 0 0 9) ∷ [])).after (numbered 5 (whole-frame 1 0 0 0 8)
    ∷ numbered 4 (whole-frame 1 0 0 0 7) ∷ []) ≡ 0)
    × (bodies (feed (new Console) (numbered 3 (piece-frame 1 0 0 0 2 5 0 8) ∷ numbered 4 (whole-frame 1 0 0 0 9) ∷ [])).after
    (numbered 3 (piece-frame 1 0 0 0 2 5 1 8) ∷ whole-frame 0 0 0 0 1 ∷ whole-frame 0 0 0 0 2 ∷ []) ≡ 3)
unfolding run bodies kept_as_frame
late-sequenced-cells = (refl, refl)

-- An id is used again while its first message is held: its cells keep the id, and both messages come whole.
pub id-used-again : run 5 (receive (piece-frame 3 0 0 1 2 7 0 1 ∷ piece-frame 3 1 0 1 2 7 1 2 ∷ piece-frame 3 2 0 2 2 7 1 4 ∷ [])
    ∷ receive (piece-frame 3 3 0 2 2 7 0 3 ∷ whole-frame 3 4 0 0 9 ∷ []) ∷ [])
    ≡ saw (gave 0 0) (slot 2 7 0 3 0 2 0 1 0 (1 ∷ []) ∷ slot 2 7 1 3 0 2 0 1 0 (2 ∷ []) ∷ open-cell 7 1 2 2 4 ∷ empty_slot ∷ empty_slot
    ∷ [])
    ∷ saw (gave 3 0) (slot 3 7 0 3 0 2 0 1 1 (1 ∷ []) ∷ slot 3 7 1 3 0 2 0 1 1 (2 ∷ []) ∷ slot 3 7 1 3 0 2 0 2 2 (4 ∷ [])
    ∷ slot 3 7 0 3 0 2 0 2 2 (3 ∷ []) ∷ ready-cell 0 3 0 9 ∷ [])
    ∷ []
unfolding run
id-used-again = refl

-- Request 4's ages: how many datagrams were accepted after the one that carried an id's last kept piece. The fourth one's piece is there
-- already and is not kept; the fifth's is, and all of its id's records have age 0.
pub ages-kept : run 4 (receive (piece-frame 3 0 0 0 4 5 0 8 ∷ piece-frame 3 1 0 0 4 5 1 6 ∷ []) ∷ receive (piece-frame 3 2 0 0 2 6 0 9 ∷ [])
    ∷ receive [] ∷ receive (piece-frame 3 3 0 0 4 5 0 8 ∷ []) ∷ receive (piece-frame 3 4 0 0 4 5 2 7 ∷ []) ∷ [])
    ≡ saw (gave 0 0) (open-cell 5 0 4 0 8 ∷ open-cell 5 1 4 0 6 ∷ empty_slot ∷ empty_slot ∷ [])
    ∷ saw (gave 0 0) (aged 1 (open-cell 5 0 4 0 8) ∷ aged 1 (open-cell 5 1 4 0 6) ∷ open-cell 6 0 2 0 9 ∷ empty_slot ∷ [])
    ∷ saw (gave 0 0) (aged 2 (open-cell 5 0 4 0 8) ∷ aged 2 (open-cell 5 1 4 0 6) ∷ aged 1 (open-cell 6 0 2 0 9) ∷ empty_slot ∷ [])
    ∷ saw (gave 0 1) (aged 3 (open-cell 5 0 4 0 8) ∷ aged 3 (open-cell 5 1 4 0 6) ∷ aged 2 (open-cell 6 0 2 0 9) ∷ empty_slot ∷ [])
    ∷ saw (gave 0 0) (open-cell 5 0 4 0 8 ∷ open-cell 5 1 4 0 6 ∷ aged 3 (open-cell 6 0 2 0 9) ∷ open-cell 5 2 4 0 7 ∷ [])
    ∷ []
unfolding run
ages-kept = refl

-- Open records alone grow older, and an age "stops at 2^32".
pub ages-stop : grown (aged 4294967295 (open-cell 5 0 2 0 8) ∷ aged max_age (open-cell 6 0 2 0 9) ∷ ready-cell 0 3 0 1 ∷ held-cell 1 2 ∷ [])
    ≡ aged max_age (open-cell 5 0 2 0 8) ∷ aged max_age (open-cell 6 0 2 0 9) ∷ ready-cell 0 3 0 1 ∷ held-cell 1 2 ∷ []
unfolding run
ages-stop = refl

-- "More than n further datagrams", n being 2: at age 3 open messages of kinds 0, 1 and 5 are dropped. Age 2 stays, and kind 3, which has a
-- reliable number; ready and held messages are not unfinished.
pub dropped-past-2 : dropped 2 (aged 3 (slot 1 5 0 0 0 2 0 0 0 (8 ∷ [])) ∷ aged 2 (slot 1 6 0 0 0 2 0 0 0 (8 ∷ []))
    ∷ aged 3 (slot 1 7 0 1 0 2 4 0 0 (8 ∷ [])) ∷ aged 3 (slot 1 8 1 5 0 2 0 0 0 (8 ∷ [])) ∷ aged 3 (open-cell 9 0 2 0 8)
    ∷ aged 3 (slot 3 5 0 0 0 1 0 0 0 (8 ∷ [])) ∷ aged 3 (slot 2 5 0 0 0 1 0 1 0 (8 ∷ [])) ∷ [])
    ≡ empty_slot ∷ aged 2 (slot 1 6 0 0 0 2 0 0 0 (8 ∷ [])) ∷ empty_slot ∷ empty_slot ∷ aged 3 (open-cell 9 0 2 0 8)
    ∷ aged 3 (slot 3 5 0 0 0 1 0 0 0 (8 ∷ [])) ∷ aged 3 (slot 2 5 0 0 0 1 0 1 0 (8 ∷ [])) ∷ []
unfolding run
dropped-past-2 = refl

-- A jam: the only cell is held. The empty datagram and one whose frames are all dropped are accepted; the one that would release it gets 8.
pub jam : run 1 (receive (whole-frame 3 0 0 1 1 ∷ []) ∷ receive [] ∷ receive (whole-frame 3 0 0 1 1 ∷ whole-frame 3 1 0 1 2
    ∷ whole-frame 3 2 32 0 3 ∷ []) ∷ receive (whole-frame 3 3 0 0 4 ∷ []) ∷ take ∷ [])
    ≡ saw (gave 0 0) (held-cell 1 1 ∷ []) ∷ saw (gave 0 0) (held-cell 1 1 ∷ []) ∷ saw (gave 0 3) (held-cell 1 1 ∷ [])
    ∷ saw (refused 8) (held-cell 1 1 ∷ []) ∷ saw (refused 20) (held-cell 1 1 ∷ []) ∷ []
unfolding run
jam = refl

-- A refused datagram accepted no reliable number: the same frame passes once there is room.
pub refused-leaves-no-trace : run 1 (receive (whole-frame 0 0 0 0 1 ∷ []) ∷ receive (whole-frame 3 7 0 0 2 ∷ []) ∷ take
    ∷ receive (whole-frame 3 7 0 0 2 ∷ []) ∷ [])
    ≡ saw (gave 1 0) (ready-cell 0 0 0 1 ∷ []) ∷ saw (refused 8) (ready-cell 0 0 0 1 ∷ []) ∷ saw (took (msg 0 0 0 (1 ∷ [])))
    (empty_slot ∷ []) ∷ saw (gave 1 0) (ready-cell 0 3 0 2 ∷ []) ∷ []
unfolding run
refused-leaves-no-trace = refl

-- A piece of count 1 gives the message that a whole frame gives; only the id in the record tells them apart.
pub count-1 : run 2 (receive (piece-frame 0 0 0 0 1 7 0 5 ∷ whole-frame 0 0 0 0 5 ∷ []) ∷ [])
    ≡ saw (gave 2 0) (slot 3 7 0 0 0 1 0 0 0 (5 ∷ []) ∷ ready-cell 1 0 0 5 ∷ []) ∷ []
unfolding run
count-1 = refl

-- A sound state that no list of calls reaches: a held message of kind 0 in two cells (their ids differ, and so do their turns, which no
-- rule looks at) is released like any other and raises next; ready turns 9 and 4 become 1 and 0; an unused record keeps what it holds until
-- a body gets its cell.
unfoldable pub odd : List Slot
odd = slot 2 3 1 0 0 2 5 1 77 (2 ∷ []) ∷ slot 3 0 0 3 0 1 0 0 9 (9 ∷ []) ∷ slot 0 9 9 9 99 9 9 9 9 [] ∷ slot 2 8 0 0 0 2 5 1 66 (1 ∷ [])
    ∷ slot 3 0 0 6 5 1 0 7 4 [] ∷ slot 0 1 1 1 1 1 1 1 1 [] ∷ []

pub odd-is-sound : sound_at 0 odd ≡ true
unfolding run sound_at odd
odd-is-sound = refl

pub odd-runs : run_from 0 odd (receive (whole-frame 3 0 0 0 7 ∷ []) ∷ [])
    ≡ saw (gave 2 0) (slot 3 3 1 0 0 2 5 1 3 (2 ∷ []) ∷ ready-cell 1 3 0 9 ∷ ready-cell 2 3 0 7 ∷ slot 3 8 0 0 0 2 5 1 3 (1 ∷ [])
    ∷ slot 3 0 0 6 5 1 0 7 0 [] ∷ slot 0 1 1 1 1 1 1 1 1 [] ∷ []) ∷ []
unfolding run run_from odd
odd-runs = refl

pub odd-hands-out : drain (state_after (state_at 0 odd) (receive (whole-frame 3 0 0 0 7 ∷ []))).slots ≡ msg 6 5 7 []
    ∷ msg 3 0 0 (9 ∷ []) ∷ msg 3 0 0 (7 ∷ []) ∷ msg 0 0 1 (1 ∷ 2 ∷ []) ∷ []
unfolding run odd
odd-hands-out = refl
