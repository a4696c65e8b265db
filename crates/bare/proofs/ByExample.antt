-- The bare receiver on worked examples, written from document 01's words: what each datagram is answered, and the line.
-- Assumes nothing.
use Prim.Native.Nat.{ℕ, zero, suc}
use mathlib.Core.Path.{◌≡◌, refl}
use mathlib.Core.Bool.{Bool, true, false}
use mathlib.Core.List.{List, [], ◌∷◌, map}
use lib.ListN.{length}
use Rattle.base.specs.Limits.{numbers24}
use Rattle.base.specs.Lists.{only}
use Rattle.reliability.specs.declared.Profile.TheVariants.{Console}
use Rattle.bare.specs.Frame.{Frame, carries_reliable, ordered}
use Rattle.bare.specs.Bare.{Out, queue}
use Rattle.bare.specs.Unfinished.{datagram}
use Rattle.bare.specs.Order.{on_channel, line_of}
use Rattle.bare.proofs.Shown.{whole-frame, piece-frame, msg, gave, seen, run}

-- ---- a channel's order

-- Order number 1, then 0 (document 01's `trace` input), then the first frame again, which is dropped in 1.
pub reordered-and-duplicated : run ((whole-frame 3 0 0 1 66 ∷ []) ∷ (whole-frame 3 1 0 0 65 ∷ []) ∷ (whole-frame 3 0 0 1 66 ∷ []) ∷ [])
    ≡ seen (gave 0 0 ∷ gave 2 0 ∷ gave 0 1 ∷ []) (msg 3 0 0 (65 ∷ []) ∷ msg 3 0 1 (66 ∷ []) ∷ [])
unfolding run
reordered-and-duplicated = refl

-- Number 1 is lost: 2 and 3 are held. When it comes, they follow. Sent once more under a new reliable number, 2 is below the channel's
-- next.
pub lossy : run ((whole-frame 3 0 0 0 10 ∷ whole-frame 3 2 0 2 12 ∷ whole-frame 3 3 0 3 13 ∷ []) ∷ (whole-frame 3 4 0 1 11 ∷ [])
    ∷ (whole-frame 3 5 0 2 12 ∷ []) ∷ [])
    ≡ seen (gave 1 0 ∷ gave 3 0 ∷ gave 0 1 ∷ []) (msg 3 0 0 (10 ∷ []) ∷ msg 3 0 1 (11 ∷ []) ∷ msg 3 0 2 (12 ∷ []) ∷ msg 3 0 3 (13 ∷ [])
    ∷ [])
unfolding run
lossy = refl

-- A gap stays a gap: 3 is held behind the missing 2, and channels are apart.
pub gaps-and-channels : run ((whole-frame 3 0 1 1 21 ∷ whole-frame 3 1 0 1 11 ∷ whole-frame 3 2 0 3 13 ∷ whole-frame 3 3 0 0 10 ∷ [])
    ∷ (whole-frame 3 4 0 2 12 ∷ []) ∷ (whole-frame 3 5 1 0 20 ∷ []) ∷ [])
    ≡ seen (gave 2 0 ∷ gave 2 0 ∷ gave 2 0 ∷ [])
    (msg 3 0 0 (10 ∷ []) ∷ msg 3 0 1 (11 ∷ []) ∷ msg 3 0 2 (12 ∷ []) ∷ msg 3 0 3 (13 ∷ []) ∷ msg 3 1 0 (20 ∷ []) ∷ msg 3 1 1 (21 ∷ []) ∷ [])
unfolding run
gaps-and-channels = refl

-- The ordered part of the line, channel by channel; kind 1 on channel 0 is no part of it.
pub by-channel : map (λ (c : ℕ). line_of Console c (datagram (whole-frame 3 0 1 0 20 ∷ whole-frame 1 0 0 7 5 ∷ whole-frame 3 1 0 0 10
    ∷ whole-frame 7 2 1 1 21 ∷ []) ∷ [])) (0 ∷ 1 ∷ 2 ∷ [])
    ≡ (msg 3 0 0 (10 ∷ []) ∷ []) ∷ (msg 3 1 0 (20 ∷ []) ∷ msg 7 1 1 (21 ∷ []) ∷ []) ∷ [] ∷ []
unfolding run line_of only on_channel
by-channel = refl

-- Kind 7 is held and released like kind 3, and the two share their channel's numbers: number 1 again, whole or joined, is dropped while it
-- is held.
pub kind-7-held-and-released : run ((whole-frame 7 0 2 1 1 ∷ whole-frame 3 1 2 1 2 ∷ piece-frame 3 2 2 1 1 9 0 3 ∷ [])
    ∷ (whole-frame 3 3 2 0 4 ∷ []) ∷ (whole-frame 7 4 2 1 5 ∷ whole-frame 7 5 2 2 6 ∷ []) ∷ [])
    ≡ seen (gave 0 2 ∷ gave 2 0 ∷ gave 1 1 ∷ []) (msg 3 2 0 (4 ∷ []) ∷ msg 7 2 1 (1 ∷ []) ∷ msg 7 2 2 (6 ∷ []) ∷ [])
unfolding run
kind-7-held-and-released = refl

-- The last order number there is: next becomes 2^24, and nothing comes after it.
unfoldable pub at-the-end : Out
at-the-end = record { profile = Console; next = λ c. 16777215; newest = λ m. 0; held = []; line = [] }

pub last-number : ((queue (msg 3 0 16777215 []) at-the-end).after.next 0 ≡ numbers24)
    × ((queue (msg 3 0 16777215 []) (queue (msg 3 0 16777215 []) at-the-end).after).dropped ≡ 1)
unfolding run at-the-end
last-number = (refl, refl)

-- Many messages in reverse order.
unfoldable pub backwards : ℕ → List Frame
backwards zero = []
backwards (suc n) = whole-frame 3 n 0 n n ∷ backwards n

pub long-cascade : length (run (backwards 60 ∷ [])).line ≡ 60
unfolding run backwards
long-cascade = refl

-- ---- pieces

-- A split of three whose message 0 is joined after 2 and 1 were held: all three are made ready, in order.
pub split-and-joined-late : run ((whole-frame 7 0 5 2 12 ∷ piece-frame 3 1 5 0 3 9 2 102 ∷ whole-frame 3 2 5 1 11 ∷ piece-frame 3 3 5 0 3 9
    0 100 ∷ []) ∷ (piece-frame 3 4 5 0 3 9 1 101 ∷ []) ∷ [])
    ≡ seen (gave 0 0 ∷ gave 3 0 ∷ []) (msg 3 5 0 (100 ∷ 101 ∷ 102 ∷ []) ∷ msg 3 5 1 (11 ∷ []) ∷ msg 7 5 2 (12 ∷ []) ∷ [])
unfolding run
split-and-joined-late = refl

-- A joined message below next is dropped and counts one; its id is free again, with another count.
pub joined-and-dropped : run ((piece-frame 3 0 0 0 2 7 0 1 ∷ whole-frame 3 1 0 0 2 ∷ []) ∷ (piece-frame 3 2 0 0 2 7 1 3 ∷ [])
    ∷ (piece-frame 3 3 0 1 3 7 0 4 ∷ piece-frame 3 4 0 1 3 7 1 5 ∷ piece-frame 3 5 0 1 3 7 2 6 ∷ []) ∷ [])
    ≡ seen (gave 1 0 ∷ gave 0 1 ∷ gave 1 0 ∷ []) (msg 3 0 0 (2 ∷ []) ∷ msg 3 0 1 (4 ∷ 5 ∷ 6 ∷ []) ∷ [])
unfolding run
joined-and-dropped = refl

-- An id is free again while its first message is held: a second message of that id is held as well, and both come.
pub id-used-again : run ((piece-frame 3 0 0 1 2 7 0 1 ∷ piece-frame 3 1 0 1 2 7 1 2 ∷ piece-frame 3 2 0 2 2 7 1 4 ∷ piece-frame 3 3 0 2 2 7
    0 3 ∷ []) ∷ (whole-frame 3 4 0 0 9 ∷ []) ∷ [])
    ≡ seen (gave 0 0 ∷ gave 3 0 ∷ []) (msg 3 0 0 (9 ∷ []) ∷ msg 3 0 1 (1 ∷ 2 ∷ []) ∷ msg 3 0 2 (3 ∷ 4 ∷ []) ∷ [])
unfolding run
id-used-again = refl

-- Document 01's bench line "Piece index 2 of count 2: dropped". Count 0 and 1,025 are over their limit, 1,024 is not; nor is index 1,023 of
-- it, but 1,024 is.
pub piece-limits-are : run ((piece-frame 0 0 0 0 2 2 2 1 ∷ []) ∷ (piece-frame 0 0 0 0 0 1 0 1 ∷ [])
    ∷ (piece-frame 0 0 0 0 1024 3 1023 1 ∷ []) ∷ (piece-frame 0 0 0 0 1025 4 0 1 ∷ []) ∷ (piece-frame 0 0 0 0 1024 3 1024 1 ∷ []) ∷ [])
    ≡ seen (gave 0 1 ∷ gave 0 1 ∷ gave 0 0 ∷ gave 0 1 ∷ gave 0 1 ∷ []) []
unfolding run
piece-limits-are = refl

-- A piece dropped in 2 or 3 leaves its open id alone: count 0, index over, another count, another kind. Then the id joins.
pub open-id-untouched : run ((piece-frame 0 0 0 0 2 7 0 1 ∷ piece-frame 0 0 0 0 0 7 1 2 ∷ piece-frame 0 0 0 0 2 7 2 3
    ∷ piece-frame 0 0 0 0 3 7 1 4 ∷ piece-frame 5 0 0 0 2 7 1 5 ∷ piece-frame 0 0 0 0 2 7 1 6 ∷ []) ∷ [])
    ≡ seen (gave 1 4 ∷ []) (msg 0 0 0 (1 ∷ 6 ∷ []) ∷ [])
unfolding run
open-id-untouched = refl

-- A piece of count 1 is a message at once and leaves no open id; but it is dropped while its id is open with another count.
pub count-1 : run ((piece-frame 0 0 0 0 1 7 0 1 ∷ piece-frame 0 0 0 0 1 7 0 2 ∷ piece-frame 0 0 0 0 2 7 0 3 ∷ piece-frame 0 0 0 0 1 7 0 4
    ∷ piece-frame 0 0 0 0 2 7 1 5 ∷ []) ∷ [])
    ≡ seen (gave 3 1 ∷ []) (msg 0 0 0 (1 ∷ []) ∷ msg 0 0 0 (2 ∷ []) ∷ msg 0 0 0 (3 ∷ 5 ∷ []) ∷ [])
unfolding run
count-1 = refl

-- Each of step 3's fields, one at a time: sequence, channel, order number, count, kind. Another id is another message.
unfoldable pub numbered : ℕ → ℕ → ℕ → ℕ → ℕ → ℕ → ℕ → ℕ → Frame
numbered kind sequence channel order count id index byte = record {
  kind = kind;
  reliable = 0;
  sequence = sequence;
  order = order;
  channel = channel;
  piece = true;
  count = count;
  id = id;
  index = index;
  body = byte ∷ [];
}

pub five-fields : run ((numbered 1 1 0 1 2 7 0 1 ∷ []) ∷ (numbered 1 2 0 1 2 7 1 2 ∷ []) ∷ (numbered 1 1 1 1 2 7 1 3 ∷ [])
    ∷ (numbered 1 1 0 2 2 7 1 4 ∷ []) ∷ (numbered 1 1 0 1 3 7 1 5 ∷ []) ∷ (numbered 3 1 0 1 2 7 1 6 ∷ []) ∷ (numbered 1 1 0 1 2 8 1 7 ∷ [])
    ∷ (numbered 1 1 0 1 2 7 1 8 ∷ []) ∷ [])
    ≡ seen (gave 0 0 ∷ gave 0 1 ∷ gave 0 1 ∷ gave 0 1 ∷ gave 0 1 ∷ gave 0 1 ∷ gave 0 0 ∷ gave 1 0 ∷ []) (msg 1 0 1 (1 ∷ 8 ∷ []) ∷ [])
unfolding run numbered
five-fields = refl

-- No frame at all, and empty bodies.
unfoldable pub bare-frame : Bool → ℕ → Frame
bare-frame piece index = record {
  kind = 0;
  reliable = 0;
  sequence = 0;
  order = 0;
  channel = 0;
  piece = piece;
  count = 2;
  id = 1;
  index = index;
  body = [];
}

pub empty-bodies : run ([] ∷ (bare-frame false 0 ∷ bare-frame true 1 ∷ bare-frame true 0 ∷ []) ∷ []) ≡ seen (gave 0 0 ∷ gave 2 0 ∷ [])
    (msg 0 0 0 [] ∷ msg 0 0 0 [] ∷ [])
unfolding run bare-frame
empty-bodies = refl

-- ---- numbers and kinds

-- The table: which kinds carry a reliable number, and which are ordered.
pub kinds : (map carries_reliable (0 ∷ 1 ∷ 2 ∷ 3 ∷ 4 ∷ 5 ∷ 6 ∷ 7 ∷ []) ≡ false ∷ false ∷ true ∷ true ∷ true ∷ false ∷ false ∷ true ∷ [])
    × (map ordered (0 ∷ 1 ∷ 2 ∷ 3 ∷ 4 ∷ 5 ∷ 6 ∷ 7 ∷ []) ≡ false ∷ false ∷ false ∷ true ∷ false ∷ false ∷ false ∷ true ∷ [])
unfolding run
kinds = (refl, refl)

-- A number dropped in step 2 is spent: channel 32, then the same number on channel 0. Channel 31 is within its limit.
pub spent-in-2 : run ((whole-frame 3 0 32 0 1 ∷ whole-frame 3 0 0 0 2 ∷ whole-frame 3 1 31 0 3 ∷ []) ∷ [])
    ≡ seen (gave 1 2 ∷ []) (msg 3 31 0 (3 ∷ []) ∷ [])
unfolding run
spent-in-2 = refl

-- Spent in step 3 (an index that is there) and in step 4 (below next).
pub spent-in-3-and-4 : run ((piece-frame 3 0 0 0 2 7 0 1 ∷ piece-frame 3 1 0 0 2 7 0 2 ∷ piece-frame 3 1 0 0 2 7 1 3
    ∷ piece-frame 3 2 0 0 2 7 1 4 ∷ whole-frame 3 3 0 0 5 ∷ whole-frame 3 3 0 1 6 ∷ whole-frame 3 4 0 1 7 ∷ []) ∷ [])
    ≡ seen (gave 2 4 ∷ []) (msg 3 0 0 (1 ∷ 4 ∷ []) ∷ msg 3 0 1 (7 ∷ []) ∷ [])
unfolding run
spent-in-3-and-4 = refl

-- Reliable numbers are one window for all kinds that carry one.
pub one-window : run ((whole-frame 2 5 0 0 1 ∷ whole-frame 3 5 0 0 2 ∷ whole-frame 4 5 0 0 3 ∷ whole-frame 7 5 0 0 4 ∷ whole-frame 4 6 0 0 5
    ∷ []) ∷ []) ≡ seen (gave 2 3 ∷ []) (msg 2 0 0 (1 ∷ []) ∷ msg 4 0 0 (5 ∷ []) ∷ [])
unfolding run
one-window = refl

-- Kind 1 has an order number and channel, is ready at once where it is not late, and leaves next alone; so does a joined one. Kinds 0, 5
-- and 6 carry no reliable number.
pub other-kinds : run ((whole-frame 1 0 0 5 1 ∷ whole-frame 1 0 1 5 2 ∷ whole-frame 3 0 0 0 3 ∷ piece-frame 1 0 2 0 2 7 1 5
    ∷ piece-frame 1 0 2 0 2 7 0 4 ∷ whole-frame 0 0 0 0 6 ∷ whole-frame 5 0 0 0 7 ∷ whole-frame 6 0 0 0 8 ∷ whole-frame 6 0 0 0 9 ∷ [])
    ∷ [])
    ≡ seen (gave 8 0 ∷ []) (msg 1 0 5 (1 ∷ []) ∷ msg 1 1 5 (2 ∷ []) ∷ msg 3 0 0 (3 ∷ []) ∷ msg 1 2 0 (4 ∷ 5 ∷ []) ∷ msg 0 0 0 (6 ∷ [])
    ∷ msg 5 0 0 (7 ∷ []) ∷ msg 6 0 0 (8 ∷ []) ∷ msg 6 0 0 (9 ∷ []) ∷ [])
unfolding run
other-kinds = refl
