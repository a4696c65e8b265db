-- Request 5: "restore it into a lent store, which may have more cells": the receiver that an image restores to, and the call.
use Rattle.std.specs.Prelude.{ℕ, ◌-◌, Bool, ◌&&◌, List, [], ◌++◌, map, leb, length, get_or, take, replicate}
use Rattle.base.specs.Answer.{Answer, refused, gives}
use Rattle.base.specs.If.{if_true}
use Rattle.base.specs.Limits.{max_ord_chans, max_unsent}
use Rattle.base.specs.Lists.{option, same}
use Rattle.cells.specs.Cell.{Cell}
use Rattle.cells.specs.Sound.{lengths}
use Rattle.cells.specs.Store.{cells_of, store_of}
use Rattle.image.specs.Image.{WindowEntry, ChannelEntry, Image, image_bytes, read_image}
use Rattle.image.specs.Windows.{window_from}
use Rattle.image.specs.Slots.{used_slots, slots_from}
use Rattle.receiver.specs.declared.Channel.{Channel}
use Rattle.receiver.specs.declared.RecvQueue.{RecvQueue}
use Rattle.receiver.specs.Receiver.{Receiver, sound_receiver}
use Rattle.receiver.specs.Save.{own_entry, image_of}

-- ---- what is kept beside the cells
abbrev pub no_window : WindowEntry
no_window = record { low = 0; places = [] }

abbrev pub channel_from : ChannelEntry → Channel
channel_from e = record { next = e.next; newest = e.memory }

unfoldable pub queue_from : Image → RecvQueue
queue_from i =
    record {
      datagrams = window_from (get_or i.windows 0 no_window);
      reliables = window_from (get_or i.windows 1 no_window);
      channels = map channel_from (take max_ord_chans i.channels);
      unsent = i.unsent ++ replicate (max_unsent - length i.unsent) 0;
      pending = length i.unsent;
      newest = (get_or i.channels max_ord_chans (own_entry 0)).memory;
      profile = get_or i.profile 0 0;
    }

-- the receiver restored over n cells and a store, of which only the bodies' bytes are written
unfoldable pub restored : ℕ → List ℕ → Image → Receiver
restored n store i = record {
  queue = queue_from i;
  records = cells_of (slots_from n i);
  store = store_of store (slots_from n i);
}

-- ---- the call
-- not "one that no sound receiver's save writes or that needs more cells than lent": the restored receiver is sound, and its save writes
-- this very image
unfoldable pub valid : ℕ → List ℕ → Image → Bool
valid n store i =
    let x = restored n store i in
    leb (length (used_slots i)) n && (sound_receiver x && same (image_bytes (image_of x)) (image_bytes i))

-- the answer, and what the call leaves of receiver, records and store
pub record Restored : Type 0 where
  pub answer : Answer (Unit {0})
  pub left : Receiver

abbrev pub restore_refuses : Receiver → ℕ → Restored
restore_refuses x number = record { answer = refused number; left = x }

-- "restoring by 9, on lengths only, then 21 for an image cut or with bytes after its last section, then 22"
unfoldable pub restore_of : RecvQueue → List Cell → List ℕ → List ℕ → Restored
restore_of q rs st bytes =
    let refuse = restore_refuses (record { queue = q; records = rs; store = st }) in
    if_true (lengths (length rs) (length st))
    (option (read_image bytes) (refuse 21)
    (λ i. if_true (valid (length rs) st i) (record { answer = gives tt; left = restored (length rs) st i }) (refuse 22)))
    (refuse 9)
