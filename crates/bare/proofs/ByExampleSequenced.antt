-- Late sequenced messages on worked examples (request 1): the definitions compute.
-- Assumes nothing.
use Prim.Native.Nat.{ℕ}
use mathlib.Core.Path.{◌≡◌, refl}
use mathlib.Core.Bool.{true, false}
use mathlib.Core.List.{List, [], ◌∷◌, map}
use Rattle.base.specs.Lists.{only}
use Rattle.reliability.specs.declared.Profile.TheVariants.{Console}
use Rattle.bare.specs.Frame.{Frame, sequenced}
use Rattle.bare.specs.Unfinished.{datagram}
use Rattle.bare.specs.Sequenced.{numbered_as, put_by, numbered_by, numbered_from, numbered_line, sequences_of, kind1_on, kind4}
use Rattle.bare.proofs.Shown.{whole-frame, msg, gave, seen, run}

-- A whole frame of a sequenced kind: its reliable number (0 for kind 1), channel (0 for kind 4) and sequence number, and one byte.
unfoldable pub lever : ℕ → ℕ → ℕ → ℕ → ℕ → Frame
lever kind reliable channel sequence byte = record {
  kind = kind;
  reliable = reliable;
  sequence = sequence;
  order = 0;
  channel = channel;
  piece = false;
  count = 0;
  id = 0;
  index = 0;
  body = byte ∷ [];
}

-- One of two pieces of such a message: also its id and index.
unfoldable pub half : ℕ → ℕ → ℕ → ℕ → ℕ → ℕ → ℕ → Frame
half kind reliable channel sequence id index byte = record {
  kind = kind;
  reliable = reliable;
  sequence = sequence;
  order = 0;
  channel = channel;
  piece = true;
  count = 2;
  id = id;
  index = index;
  body = byte ∷ [];
}

-- Sequence numbers 5, then 4, then 5 again, then 6: the second and the third are late.
pub whole-5-4-5-6 : run ((lever 1 0 2 5 10 ∷ []) ∷ (lever 1 0 2 4 11 ∷ []) ∷ (lever 1 0 2 5 12 ∷ []) ∷ (lever 1 0 2 6 13 ∷ []) ∷ [])
    ≡ seen (gave 1 0 ∷ gave 0 1 ∷ gave 0 1 ∷ gave 1 0 ∷ []) (msg 1 2 0 (10 ∷ []) ∷ msg 1 2 0 (13 ∷ []) ∷ [])
unfolding run lever
whole-5-4-5-6 = refl

-- The same in pieces: a joined message that is late counts one, when its last piece comes.
pub split-5-4-5-6 : run ((half 1 0 2 5 7 1 11 ∷ half 1 0 2 5 7 0 10 ∷ []) ∷ (half 1 0 2 4 7 0 12 ∷ []) ∷ (half 1 0 2 4 7 1 13 ∷ [])
    ∷ (half 1 0 2 5 8 0 14 ∷ half 1 0 2 5 8 1 15 ∷ []) ∷ (half 1 0 2 6 8 0 16 ∷ half 1 0 2 6 8 1 17 ∷ []) ∷ [])
    ≡ seen (gave 1 0 ∷ gave 0 0 ∷ gave 0 1 ∷ gave 0 1 ∷ gave 1 0 ∷ []) (msg 1 2 0 (10 ∷ 11 ∷ []) ∷ msg 1 2 0 (16 ∷ 17 ∷ []) ∷ [])
unfolding run half
split-5-4-5-6 = refl

-- Joined late: 5 begins, 6 comes whole, then 5 is complete. It is late when it is joined, not when it began.
pub joined-after-a-newer : run ((half 1 0 2 5 7 0 10 ∷ []) ∷ (lever 1 0 2 6 11 ∷ []) ∷ (half 1 0 2 5 7 1 12 ∷ []) ∷ (lever 1 0 2 7 13 ∷ [])
    ∷ [])
    ≡ seen (gave 0 0 ∷ gave 1 0 ∷ gave 0 1 ∷ gave 1 0 ∷ []) (msg 1 2 0 (11 ∷ []) ∷ msg 1 2 0 (13 ∷ []) ∷ [])
unfolding run lever half
joined-after-a-newer = refl

-- Each channel has a memory of its own.
pub two-channels : run ((lever 1 0 0 5 10 ∷ lever 1 0 1 4 11 ∷ lever 1 0 1 3 12 ∷ lever 1 0 0 4 13 ∷ lever 1 0 31 0 14 ∷ []) ∷ [])
    ≡ seen (gave 3 2 ∷ []) (msg 1 0 0 (10 ∷ []) ∷ msg 1 1 0 (11 ∷ []) ∷ msg 1 31 0 (14 ∷ []) ∷ [])
unfolding run lever
two-channels = refl

-- Kind 4's is the receiver's own, and no channel's: kind 1 on channel 0 and kind 4 do not meet. Its reliable number is spent all the same.
pub kind-4-beside-kind-1 : run ((lever 4 0 0 5 10 ∷ lever 1 0 0 3 11 ∷ lever 4 1 0 4 12 ∷ lever 1 0 0 4 13 ∷ []) ∷ (lever 4 1 0 6 14 ∷ [])
    ∷ (lever 4 2 0 6 15 ∷ []) ∷ (half 4 3 0 7 9 0 16 ∷ half 4 4 0 7 9 1 17 ∷ half 4 5 0 7 9 0 18 ∷ half 4 6 0 7 9 1 19 ∷ []) ∷ [])
    ≡ seen (gave 3 1 ∷ gave 0 1 ∷ gave 1 0 ∷ gave 1 1 ∷ [])
    (msg 4 0 0 (10 ∷ []) ∷ msg 1 0 0 (11 ∷ []) ∷ msg 1 0 0 (13 ∷ []) ∷ msg 4 0 0 (15 ∷ []) ∷ msg 4 0 0 (16 ∷ 17 ∷ []) ∷ [])
unfolding run lever half
kind-4-beside-kind-1 = refl

-- "The first is always made ready", 0 too; 0 again is late. After the last number there is, every number is.
pub first-and-last : run ((lever 1 0 0 0 10 ∷ lever 1 0 0 0 11 ∷ lever 1 0 0 1 12 ∷ []) ∷ (lever 1 0 0 16777215 13 ∷ [])
    ∷ (lever 1 0 0 16777215 14 ∷ lever 1 0 0 0 15 ∷ []) ∷ [])
    ≡ seen (gave 2 1 ∷ gave 1 0 ∷ gave 0 2 ∷ []) (msg 1 0 0 (10 ∷ []) ∷ msg 1 0 0 (12 ∷ []) ∷ msg 1 0 0 (13 ∷ []) ∷ [])
unfolding run lever
first-and-last = refl

-- Ordered kinds are untouched: order number 0 on the channel is ready after sequence number 5, and leaves the memory alone.
pub ordered-untouched : run ((lever 1 0 0 5 10 ∷ whole-frame 3 0 0 0 11 ∷ whole-frame 7 1 0 1 12 ∷ lever 1 0 0 5 13 ∷ lever 1 0 0 6 14 ∷ [])
    ∷ [])
    ≡ seen (gave 4 1 ∷ []) (msg 1 0 0 (10 ∷ []) ∷ msg 3 0 0 (11 ∷ []) ∷ msg 7 0 1 (12 ∷ []) ∷ msg 1 0 0 (14 ∷ []) ∷ [])
unfolding run lever
ordered-untouched = refl

-- The sequenced kinds are 1 and 4.
pub kinds_1_and_4 : map sequenced (0 ∷ 1 ∷ 2 ∷ 3 ∷ 4 ∷ 5 ∷ 6 ∷ 7 ∷ []) ≡ false ∷ true ∷ false ∷ false ∷ true ∷ false ∷ false ∷ false ∷ []
unfolding sequenced
kinds_1_and_4 = refl

-- The numbers that the theorem speaks of: those of the messages in the line, by the frames that completed them.
unfoldable pub some-levers : List Frame
some-levers = half 1 0 2 5 7 0 10 ∷ lever 1 0 2 6 11 ∷ lever 4 0 0 3 12 ∷ half 1 0 2 5 7 1 13 ∷ lever 1 0 3 1 14 ∷ half 1 0 2 8 7 1 15
    ∷ lever 1 0 2 7 16 ∷ half 1 0 2 8 7 0 17 ∷ lever 4 1 0 9 18 ∷ lever 4 2 0 9 19 ∷ []

pub numbers-in-the-line : (sequences_of (kind1_on 2) (numbered_line Console (datagram some-levers ∷ [])) ≡ 6 ∷ 7 ∷ 8 ∷ [])
    × (sequences_of (kind1_on 3) (numbered_line Console (datagram some-levers ∷ [])) ≡ 1 ∷ [])
    × (sequences_of kind4 (numbered_line Console (datagram some-levers ∷ [])) ≡ 3 ∷ 9 ∷ [])
unfolding run some-levers lever half numbered_line numbered_from numbered_by put_by numbered_as sequences_of kind1_on kind4 only
numbers-in-the-line = (refl, refl, refl)
