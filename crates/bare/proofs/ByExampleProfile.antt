-- The two profiles on worked examples (request 2): the definitions compute.
-- Assumes nothing.
use Prim.Native.Nat.{ℕ}
use mathlib.Core.Path.{◌≡◌, refl}
use mathlib.Core.Bool.{true}
use mathlib.Core.List.{List, [], ◌∷◌, map}
use Rattle.base.specs.Lists.{only}
use Rattle.reliability.specs.declared.Profile.TheVariants.{Console, Cpp}
use Rattle.bare.specs.Frame.{Frame}
use Rattle.bare.specs.Unfinished.{datagram}
use Rattle.bare.specs.Sequenced.{numbered_as, put_by, numbered_by, numbered_from, numbered_line, sequences_of, sequenced_on}
use Rattle.bare.proofs.Shown.{whole-frame, msg, gave, seen, run_as}
use Rattle.bare.proofs.ByExampleSequenced.{lever}

-- A piece of a kind 4 message, one of two: its reliable, order and channel number, its index, and one byte.
unfoldable pub share : ℕ → ℕ → ℕ → ℕ → ℕ → Frame
share reliable order channel index byte = record {
  kind = 4;
  reliable = reliable;
  sequence = 5;
  order = order;
  channel = channel;
  piece = true;
  count = 2;
  id = 7;
  index = index;
  body = byte ∷ [];
}

-- Kind 4 on channels 2 and 3, and kind 1 on channel 2.
unfoldable pub shared : List Frame
shared = lever 4 0 2 5 10 ∷ lever 1 0 2 5 11 ∷ lever 1 0 2 6 12 ∷ lever 4 1 3 1 13 ∷ lever 4 2 2 6 14 ∷ lever 4 3 2 9 15 ∷ []

-- "Kind 4 then uses its channel's memory": kind 1's 5 is late after kind 4's, and kind 4's 6 after kind 1's; channel 3 is apart.
pub one-memory-a-channel : run_as Cpp (map (λ (f : Frame). f ∷ []) shared)
    ≡ seen (gave 1 0 ∷ gave 0 1 ∷ gave 1 0 ∷ gave 1 0 ∷ gave 0 1 ∷ gave 1 0 ∷ [])
    (msg 4 2 0 (10 ∷ []) ∷ msg 1 2 0 (12 ∷ []) ∷ msg 4 3 0 (13 ∷ []) ∷ msg 4 2 0 (15 ∷ []) ∷ [])
unfolding run_as lever shared
one-memory-a-channel = refl

-- In the console profile kind 4 has one memory for the whole receiver, and kind 1 does not meet it.
pub one-memory-of-kind-4 : run_as Console (map (λ (f : Frame). f ∷ []) shared)
    ≡ seen (gave 1 0 ∷ gave 1 0 ∷ gave 1 0 ∷ gave 0 1 ∷ gave 1 0 ∷ gave 1 0 ∷ [])
    (msg 4 2 0 (10 ∷ []) ∷ msg 1 2 0 (11 ∷ []) ∷ msg 1 2 0 (12 ∷ []) ∷ msg 4 2 0 (14 ∷ []) ∷ msg 4 2 0 (15 ∷ []) ∷ [])
unfolding run_as lever shared
one-memory-of-kind-4 = refl

-- The numbers that the theorem speaks of: kinds 1 and 4 together, channel by channel.
pub numbers-a-channel : map (λ (c : ℕ). sequences_of (sequenced_on c) (numbered_line Cpp (map (λ (f : Frame). datagram (f ∷ [])) shared)))
    (2 ∷ 3 ∷ []) ≡ (5 ∷ 6 ∷ 9 ∷ []) ∷ (1 ∷ []) ∷ []
unfolding run_as shared lever numbered_line numbered_from numbered_by put_by numbered_as sequences_of sequenced_on only
numbers-a-channel = refl

-- Kind 4 has a channel now, so step 2 has its limit: channel 32 is dropped, and its reliable number is spent; 31 is within it.
pub kind-4-limits : run_as Cpp ((lever 4 0 32 5 10 ∷ []) ∷ (lever 4 0 31 5 11 ∷ []) ∷ (lever 4 1 31 5 12 ∷ []) ∷ [])
    ≡ seen (gave 0 1 ∷ gave 0 1 ∷ gave 1 0 ∷ []) (msg 4 31 0 (12 ∷ []) ∷ [])
unfolding run_as lever
kind-4-limits = refl

-- Pieces of kind 4 with another order number or channel are dropped in step 3; the others join.
pub kind-4-pieces : run_as Cpp ((share 0 3 2 0 10 ∷ []) ∷ (share 1 4 2 1 11 ∷ []) ∷ (share 2 3 1 1 12 ∷ []) ∷ (share 3 3 2 1 13 ∷ []) ∷ [])
    ≡ seen (gave 0 0 ∷ gave 0 1 ∷ gave 0 1 ∷ gave 1 0 ∷ []) (msg 4 2 3 (10 ∷ 13 ∷ []) ∷ [])
unfolding run_as share
kind-4-pieces = refl

-- Kind 4 is not ordered: its order number waits for none, and the channel's ordered messages do not wait for it.
pub kind-4-not-ordered : run_as Cpp ((whole-frame 4 0 2 7 10 ∷ []) ∷ (whole-frame 3 1 2 1 11 ∷ []) ∷ (whole-frame 7 2 2 0 12 ∷ []) ∷ [])
    ≡ seen (gave 1 0 ∷ gave 0 0 ∷ gave 2 0 ∷ []) (msg 4 2 7 (10 ∷ []) ∷ msg 7 2 0 (12 ∷ []) ∷ msg 3 2 1 (11 ∷ []) ∷ [])
unfolding run_as
kind-4-not-ordered = refl

-- The profile stays when messages are made ready, held and joined: kind 4's number is asked of its channel's memory after each.
pub profile-kept : run_as Cpp ((lever 4 0 2 5 10 ∷ whole-frame 3 1 2 1 11 ∷ whole-frame 3 2 2 0 12 ∷ whole-frame 0 0 0 0 13
    ∷ lever 4 3 3 1 14 ∷ lever 4 4 2 5 15 ∷ []) ∷ [])
    ≡ seen (gave 5 1 ∷ [])
    (msg 4 2 0 (10 ∷ []) ∷ msg 3 2 0 (12 ∷ []) ∷ msg 3 2 1 (11 ∷ []) ∷ msg 0 0 0 (13 ∷ []) ∷ msg 4 3 0 (14 ∷ []) ∷ [])
unfolding run_as lever
profile-kept = refl
