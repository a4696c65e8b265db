-- What a receiver is once its channels' records are advanced. Document 01: "For kinds 3 and 7 the channel's next then rises by one, and a
-- held message of that number follows in the same way"; request 1: "each channel remembers ..". The numbers to which they are moved are
-- those of the definition of receive.
use Rattle.std.specs.Prelude.{ℕ, List}
use Rattle.base.specs.Limits.{max_ord_chans}
use Rattle.receiver.specs.declared.Channel.{Channel}
use Rattle.receiver.specs.declared.Nexts.{Nexts}
use Rattle.receiver.specs.declared.RecvQueue.{RecvQueue}
use Rattle.recv_parts.specs.Parts.{channels_of, newest_at}

-- the receiver with other channels, and another memory of its own
abbrev pub with_channels : RecvQueue → List Channel → ℕ → RecvQueue
with_channels q cs newest =
    record {
      datagrams = q.datagrams;
      reliables = q.reliables;
      channels = cs;
      unsent = q.unsent;
      pending = q.pending;
      newest = newest;
      profile = q.profile;
    }

-- each channel's record is moved to that of the nexts, and the receiver's own memory to theirs
unfoldable pub advanced_all : RecvQueue → Nexts → RecvQueue
advanced_all q n = with_channels q n.channels n.newest

-- the same by a list of numbers, each channel's next and memory and the receiver's own memory: what has no number goes to 0
unfoldable pub advanced_by : RecvQueue → List ℕ → RecvQueue
advanced_by q ns = with_channels q (channels_of ns) (newest_at ns max_ord_chans)
