-- Request 5: "Write a receiver to a lent output": its image, and the call.
use Rattle.std.specs.Prelude.{ℕ, List, [], ◌∷◌, ◌++◌, map, length}
use Rattle.base.specs.Answer.{Answer, refused, gives}
use Rattle.base.specs.If.{if_true, if_lt}
use Rattle.base.specs.Put.{put}
use Rattle.cells.specs.Cell.{Cell}
use Rattle.cells.specs.Store.{slots_of}
use Rattle.image.specs.Image.{ChannelEntry, Image, image_bytes}
use Rattle.image.specs.Windows.{window_entry}
use Rattle.image.specs.Entries.{pieces_in, held_in, ready_in}
use Rattle.receiver.specs.declared.Channel.{Channel}
use Rattle.receiver.specs.declared.RecvQueue.{RecvQueue}
use Rattle.receiver.specs.Queue.{unsent_of}
use Rattle.receiver.specs.Receive.{sound_call}
use Rattle.receiver.specs.Receiver.{Receiver}
use Rattle.receiver.specs.Write.{sorted}

-- "channels 0 to 31 (next, sequenced memory plus 1 or 0 for none), then such an entry with next 0 for kind 4's own memory"
abbrev pub channel_entry : Channel → ChannelEntry
channel_entry c = record { next = c.next; memory = c.newest }

abbrev pub own_entry : ℕ → ChannelEntry
own_entry newest = record { next = 0; memory = newest }

unfoldable pub channels_in : RecvQueue → List ChannelEntry
channels_in q = map channel_entry q.channels ++ (own_entry q.newest ∷ [])

-- "profile (0 console, 1 C++); the two windows, datagram first ..; channels ..; unsent acknowledgements; open pieces ..; held messages;
-- ready messages"
unfoldable pub image_of : Receiver → Image
image_of x =
    let l = slots_of x.records x.store in
    record {
      profile = x.queue.profile ∷ [];
      windows = window_entry x.queue.datagrams ∷ window_entry x.queue.reliables ∷ [];
      channels = channels_in x.queue;
      unsent = sorted (unsent_of x.queue);
      pieces = pieces_in l;
      held = held_in l;
      ready = ready_in l;
    }

-- the answer, with the image's length, and the output afterwards
pub record Saved : Type 0 where
  pub answer : Answer ℕ
  pub out : List ℕ

abbrev pub save_refuses : List ℕ → ℕ → Saved
save_refuses out number = record { answer = refused number; out = out }

-- "Saving refuses by 9, then 12"
unfoldable pub save_of : RecvQueue → List Cell → List ℕ → List ℕ → Saved
save_of q rs st out =
    let bytes = image_bytes (image_of (record { queue = q; records = rs; store = st })) in
    if_true (sound_call q rs st)
    (if_lt (length out) (length bytes) (save_refuses out 12) (record { answer = gives (length bytes); out = put out 0 bytes }))
    (save_refuses out 9)
