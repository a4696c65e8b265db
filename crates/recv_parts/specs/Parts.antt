-- A receiver by its parts: its own numbers and its arrays, as code has them that is lent the arrays one by one.
use Rattle.std.specs.Prelude.{ℕ, ◌+◌, ◌*◌, Bool, cond, ◌&&◌, List, [], ◌∷◌, ltb, eqb, length, get_or, take, replicate}
use Rattle.base.specs.Limits.{max_ord_chans, max_unsent}
use Rattle.reliability.specs.declared.Profile.{Profile}
use Rattle.reliability.specs.Profiles.{profile_of}
use Rattle.window.specs.Window.{window_of}
use Rattle.receiver.specs.declared.Channel.{Channel}
use Rattle.recv_parts.specs.declared.Heads.{Heads}
use Rattle.receiver.specs.declared.RecvQueue.{RecvQueue}
use Rattle.receiver.specs.Queue.{new_channel}
use Rattle.receiver.specs.Receive.{channels_after}

-- how many numbers step 4 goes by: a next and a memory of each channel, the receiver's own memory, the profile
abbrev pub many_nexts : ℕ
many_nexts = 66

-- What step 4 goes by, as `many_nexts` numbers: each channel's next and memory, as its record has them, then the receiver's own memory, of
-- which each memory is the lowest number that is not late; and the profile, which says whose memory is whose.
unfoldable pub nexts_in : List Channel → ℕ → ℕ → List ℕ
nexts_in [] own profile = own ∷ profile ∷ []
nexts_in (c ∷ cs) own profile = c.next ∷ c.newest ∷ nexts_in cs own profile

unfoldable pub nexts_of : RecvQueue → List ℕ
nexts_of q = nexts_in q.channels q.newest q.profile

-- where channel c's next and memory m stand among them
abbrev pub next_place : ℕ → ℕ
next_place c = 2 * c

unfoldable pub memory_place : ℕ → ℕ
memory_place m = cond (ltb m max_ord_chans) (2 * m + 1) (2 * m)

-- the profile stands after the memories
abbrev pub profile_place : ℕ
profile_place = 65

-- these numbers; 0 past the last
unfoldable pub next_at : List ℕ → ℕ → ℕ
next_at ns c = get_or (take (2 * max_ord_chans) ns) (next_place c) 0

unfoldable pub newest_at : List ℕ → ℕ → ℕ
newest_at ns m = get_or (take many_nexts ns) (memory_place m) 0

unfoldable pub profile_at : List ℕ → ℕ
profile_at ns = get_or (take many_nexts ns) profile_place 0

unfoldable pub profile_for : List ℕ → Profile
profile_for ns = profile_of (profile_at ns)

-- the channels' records at these numbers
unfoldable pub channels_of : List ℕ → List Channel
channels_of ns = channels_after (next_at ns) (newest_at ns) 0 (replicate max_ord_chans new_channel)

-- a receiver's own numbers
abbrev pub heads_of : RecvQueue → Heads
heads_of q = record { datagrams = q.datagrams.low; reliables = q.reliables.low; pending = q.pending }

-- the receiver of these numbers, of the bits of the datagrams' and of the reliable numbers' window, of the nexts, memories and profile, and
-- of the unsent numbers
unfoldable pub queue_of : Heads → List ℕ → List ℕ → List ℕ → List ℕ → RecvQueue
queue_of h dbits rbits nexts unsent =
    record {
      datagrams = window_of h.datagrams dbits;
      reliables = window_of h.reliables rbits;
      channels = channels_of nexts;
      unsent = unsent;
      pending = h.pending;
      newest = newest_at nexts max_ord_chans;
      profile = profile_at nexts;
    }

-- are the arrays as long as a receiver's, of which q and its nexts and memories were made? (Those of a `RecvQueue` are, by its type.)
unfoldable pub arrays_fit : RecvQueue → List ℕ → Bool
arrays_fit q nexts = eqb (length q.datagrams.bits) 256 && (eqb (length q.reliables.bits) 256
    && (eqb (length nexts) many_nexts && eqb (length q.unsent) max_unsent))
