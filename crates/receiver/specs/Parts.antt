-- What step 4 goes by: a receiver's nexts, memories and profile, apart from its windows and unsent numbers.
use Rattle.std.specs.Prelude.{ℕ, cond, ltb, eqb, set, get_or}
use Rattle.base.specs.Limits.{max_ord_chans}
use Rattle.receiver.specs.declared.Channel.{Channel}
use Rattle.receiver.specs.declared.Nexts.{Nexts}
use Rattle.receiver.specs.declared.RecvQueue.{RecvQueue}
use Rattle.receiver.specs.Queue.{new_channel, next_in, memories_in, profile_in}

-- a channel's record at a next and a memory
abbrev pub channel_with : ℕ → ℕ → Channel
channel_with next newest = record { next = next; newest = newest }

unfoldable pub nexts_of : RecvQueue → Nexts
nexts_of q = record { channels = q.channels; newest = q.newest; profile = profile_in q }

-- each channel's next order number, and the memories: each channel's, then the receiver's own; 0 past the last
unfoldable pub next_at : Nexts → ℕ → ℕ
next_at n = next_in n.channels

unfoldable pub newest_at : Nexts → ℕ → ℕ
newest_at n m = get_or (memories_in n.channels n.newest) m 0

-- channel c's next is v, and memory m is v; past the last nothing is set
unfoldable pub with_next : ℕ → ℕ → Nexts → Nexts
with_next c v n =
    record {
      channels = set n.channels c (channel_with v (get_or n.channels c new_channel).newest);
      newest = n.newest;
      profile = n.profile;
    }

unfoldable pub with_newest : ℕ → ℕ → Nexts → Nexts
with_newest m v n =
    record {
      channels = cond (ltb m max_ord_chans) (set n.channels m (channel_with (get_or n.channels m new_channel).next v)) n.channels;
      newest = cond (eqb m max_ord_chans) v n.newest;
      profile = n.profile;
    }
