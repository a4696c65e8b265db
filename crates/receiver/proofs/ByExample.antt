-- Save, restore and resume on a worked example, written from the request's words: a receiver of the C++ profile whose cells lie anyhow, its
-- image, and what the calls answer.
-- Assumes nothing.
use Prim.Native.Nat.{ℕ, ◌*◌}
use mathlib.Core.Path.{◌≡◌, refl}
use mathlib.Core.Option.{none, some}
use mathlib.Core.List.{List, [], ◌∷◌, ◌++◌}
use lib.ListN.{take, drop, replicate}
use Rattle.base.specs.Answer.{Answer, refused, gives}
use Rattle.base.specs.Bytes.{be16, be32, be64, be16_bytes, be32_bytes, be64_bytes}
use Rattle.base.specs.If.{if_true, if_lt, if_le, if_eq}
use Rattle.base.specs.Limits.{cell_bytes}
use Rattle.base.specs.Lists as lists
use Rattle.base.specs.Put.{and_then, put}
use Rattle.base.specs.Sort.{insert_by, sort_by}
use Rattle.reliability.specs.declared.Profile.TheVariants.{Console}
use Rattle.window.specs.Places as places
use Rattle.window.specs.Window as window
use Rattle.cells.specs.Cell as cell
use Rattle.cells.specs.Cell.{Slot}
use Rattle.cells.specs.Ages.{with_age, aged}
use Rattle.cells.specs.Datagram.{is_first}
use Rattle.cells.specs.Room.{is_held_first}
use Rattle.cells.specs.Sound as sound
use Rattle.cells.specs.Store as store
use Rattle.cells.proofs.Shown.{slot}
use Rattle.image.specs.Format as format
use Rattle.image.specs.Image as image
use Rattle.image.specs.Image.{Image, image_bytes}
use Rattle.image.specs.Windows as windows
use Rattle.image.specs.Entries as entries
use Rattle.image.specs.Slots as slots
use Rattle.receiver.specs.declared.RecvQueue.{RecvQueue}
use Rattle.receiver.specs.Queue as queue
use Rattle.receiver.specs.Queue.{new_channel}
use Rattle.receiver.specs.Receive as receive
use Rattle.receiver.specs.Receiver.{Receiver}
use Rattle.receiver.specs.Write as write
use Rattle.receiver.specs.Save as save
use Rattle.receiver.specs.Save.{image_of, save_of}
use Rattle.receiver.specs.Restore as restore
use Rattle.receiver.specs.Restore.{queue_from, restored, Restored, restore_of}
use Rattle.receiver.specs.Calls as calls
use Rattle.receiver.specs.Calls.{made, outcome}

-- ---- a receiver
-- Beyond low, datagram 5 and reliable number 8 are accepted; of the unsent array's numbers 5 and 1 are unsent, the third is an older one.
unfoldable pub its_queue : RecvQueue
its_queue = record {
  datagrams = record { low = 3; bits = 32 ∷ replicate 255 0 };
  reliables = record { low = 7; bits = 0 ∷ 1 ∷ replicate 254 0 };
  channels = record { next = 4; newest = 9 } ∷ replicate 30 new_channel ++ (record { next = 2; newest = 5 } ∷ []);
  unsent = 5 ∷ 1 ∷ 2 ∷ replicate 1021 0;
  pending = 2;
  newest = 6;
  profile = 1;
}

-- A ready message of turn 7; index 1 of a held message; a piece of id 5 of age 9; an unused cell, whose record says nothing; index 0 of the
-- held message; an earlier ready message, of turn 3, without a body.
unfoldable pub its_slots : List Slot
its_slots = slot 3 1 0 0 0 1 0 0 7 (70 ∷ []) ∷ slot 2 8 1 7 2 2 0 9 0 (29 ∷ []) ∷ aged 9 (slot 1 5 1 3 1 3 0 6 0 (51 ∷ []))
    ∷ slot 0 1 1 1 1 1 1 1 1 [] ∷ slot 2 8 0 7 2 2 0 9 0 (28 ∷ []) ∷ slot 3 2 0 3 0 1 0 4 3 [] ∷ []

-- a store of n cells, each byte 99
unfoldable pub lent_store : ℕ → List ℕ
lent_store n = replicate (cell_bytes * n) 99

unfoldable pub anyhow : Receiver
anyhow = record { queue = its_queue; records = store.cells_of its_slots; store = store.store_of (lent_store 6) its_slots }

-- ---- its image
-- "profile (0 console, 1 C++); the two windows, datagram first ..; channels 0 to 31 (next, sequenced memory plus 1 or 0 for none), then
-- such an entry with next 0 for kind 4's own memory; unsent acknowledgements; open pieces ..; held messages; ready messages ..": "unsent,
-- pieces and held rise by their fields in turn"
unfoldable pub its_image : Image
its_image = record {
  profile = 1 ∷ [];
  windows = record { low = 3; places = 2 ∷ replicate 255 0 } ∷ record { low = 7; places = 1 ∷ replicate 255 0 } ∷ [];
  channels = record { next = 4; memory = 9 } ∷ replicate 30 (record { next = 0; memory = 0 })
      ++ (record { next = 2; memory = 5 } ∷ record { next = 0; memory = 6 } ∷ []);
  unsent = 1 ∷ 5 ∷ [];
  pieces = record { id = 5; index = 1; count = 3; kind = 3; sequence = 0; order = 6; channel = 1; age = 9; body = 51 ∷ [] } ∷ [];
  held = record { channel = 2; order = 9; kind = 7; bodies = (28 ∷ []) ∷ (29 ∷ []) ∷ [] } ∷ [];
  ready = record { channel = 0; order = 4; kind = 3; bodies = [] ∷ [] }
      ∷ record { channel = 0; order = 0; kind = 0; bodies = (70 ∷ []) ∷ [] } ∷ [];
}

pub image-is : image_of anyhow ≡ its_image
unfolding its_queue its_slots lent_store anyhow its_image slot with_age aged insert_by sort_by lists.find lists.only
    cell.bears cell.at cell.sits cell.is_free cell.is_open cell.is_ready is_first is_held_first sound.key_of
    store.cell_size store.cell_body store.slots_of store.cells_of store.laid store.store_of
    places.bit places.place_set windows.eight windows.packed windows.window_entry
    entries.piece_entry entries.bodies_of entries.message_entry entries.pieces_in entries.held_in entries.ready_in
    queue.unsent_of queue.insert_unsent write.sorted save.channels_in save.image_of
image-is = refl

-- The queue that it restores to: no older unsent number stays.
pub queue-is : queue_from its_image ≡ record {
  datagrams = record { low = 3; bits = 32 ∷ replicate 255 0 };
  reliables = record { low = 7; bits = 0 ∷ 1 ∷ replicate 254 0 };
  channels = record { next = 4; newest = 9 } ∷ replicate 30 new_channel ++ (record { next = 2; newest = 5 } ∷ []);
  unsent = 1 ∷ 5 ∷ replicate 1022 0;
  pending = 2;
  newest = 6;
  profile = 1;
}
unfolding its_image places.bit places.place_set windows.eight windows.packed windows.window_from restore.queue_from
queue-is = refl

-- ---- the calls
-- what a save answers, and what of the output lies beyond the image
unfoldable pub saving : Receiver → ℕ → Answer ℕ × List ℕ
unfolding if_true if_lt if_le if_eq be16_bytes be32_bytes be64_bytes and_then put its_queue its_slots lent_store anyhow slot with_age aged
    insert_by sort_by lists.find lists.only lists.any lists.every lists.count_of lists.below
    cell.bears cell.at cell.sits cell.is_free cell.is_open cell.is_ready is_first is_held_first
    sound.key_of sound.age_of sound.limits sound.agree sound.alike sound.lacks_none sound.sound_cell sound.lengths
    store.cell_size store.cell_body store.slots_of store.cells_of store.laid store.store_of
    places.bit places.place_set window.accepted windows.eight windows.packed windows.window_entry
    entries.piece_entry entries.bodies_of entries.message_entry entries.pieces_in entries.held_in entries.ready_in
    format.exactly format.number32 format.number64 format.both format.formed format.write_all format.many format.counted format.section
    format.body image.window_format image.channel_format image.four_numbers image.piece_format image.message_format image.image_format
    image.image_bytes
    queue.next_in queue.next_of queue.memories_in queue.newest_of queue.unsent_of queue.places_within queue.sound_window queue.differ
    queue.sound_profile queue.sound_unsent queue.sound_queue queue.insert_unsent receive.sound_call write.sorted
    save.channels_in save.image_of save.save_of
saving x n = let r = save_of x.queue x.records x.store (replicate n 99) in (r.answer, drop 1312 r.out)

-- the receiver, of no profile
unfoldable pub unsound : Receiver
unsound = record {
  queue = record {
    datagrams = its_queue.datagrams;
    reliables = its_queue.reliables;
    channels = its_queue.channels;
    unsent = its_queue.unsent;
    pending = its_queue.pending;
    newest = its_queue.newest;
    profile = 2;
  };
  records = anyhow.records;
  store = anyhow.store;
}

-- The image is of 1,312 bytes: 12, 2 · 264 + 4, 33 · 16 + 4, 20, 77, 54 and 85. "Saving refuses by 9, then 12".
pub saves : (saving anyhow 1314 ≡ (gives 1312, 99 ∷ 99 ∷ [])) × (saving anyhow 1312 ≡ (gives 1312, []))
    × (saving anyhow 1311 ≡ (refused 12, [])) × (saving unsound 1312 ≡ (refused 9, [])) × (saving unsound 0 ≡ (refused 9, []))
unfolding saving unsound
saves = (refl, refl, refl, refl, refl)

-- What it restores to over six cells: "up to the choice of cells and turns"; and of the store only the bodies are written.
unfoldable pub its_cells : List Slot
its_cells = aged 9 (slot 1 5 1 3 1 3 0 6 0 (51 ∷ [])) ∷ slot 2 0 0 7 2 2 0 9 0 (28 ∷ []) ∷ slot 2 0 1 7 2 2 0 9 0 (29 ∷ [])
    ∷ slot 3 0 0 3 0 1 0 4 0 [] ∷ slot 3 0 0 0 0 1 0 0 1 (70 ∷ []) ∷ cell.empty_slot ∷ []

unfoldable pub back : Receiver
back = record {
  queue = queue_from its_image;
  records = store.cells_of its_cells;
  store = 51 ∷ replicate 1499 99 ++ (28 ∷ replicate 1499 99 ++ (29 ∷ replicate 1499 99 ++ (replicate 1500 99
      ++ (70 ∷ replicate 1499 99 ++ replicate 1500 99))));
}

pub restored-is : restored 6 (lent_store 6) its_image ≡ back
unfolding its_image its_cells back lent_store slot with_age aged cell.is_free cell.empty_cell cell.empty_slot store.cell_size store.cells_of
    store.laid store.store_of slots.piece_slot slots.part_slot slots.parts slots.held_slots slots.ready_slots slots.used_slots
    slots.slots_from restore.restored
restored-is = refl

-- n cells just made, of the other profile
unfoldable pub over : ℕ → Receiver
over n = made Console n (lent_store n)

-- a call of either kind
unfoldable pub restoring : ℕ → List ℕ → Restored
unfolding if_true if_lt if_le if_eq be16 be32 be64 be16_bytes be32_bytes be64_bytes and_then put its_queue its_slots lent_store anyhow slot
    with_age aged insert_by sort_by lists.find lists.only lists.any lists.every lists.count_of lists.below lists.same
    cell.bears cell.at cell.sits cell.is_free cell.is_open cell.is_ready cell.empty_cell cell.empty_slot is_first is_held_first
    sound.key_of sound.age_of sound.limits sound.agree sound.alike sound.lacks_none sound.sound_cell sound.lengths
    store.cell_size store.cell_body store.slots_of store.cells_of store.laid store.store_of
    places.bit places.place_set window.new_window window.accepted windows.eight windows.packed windows.window_entry windows.window_from
    entries.piece_entry entries.bodies_of entries.message_entry entries.pieces_in entries.held_in entries.ready_in
    slots.piece_slot slots.part_slot slots.parts slots.held_slots slots.ready_slots slots.used_slots slots.slots_from
    format.exactly format.number32 format.number64 format.both format.formed format.write_all format.read_all format.many format.counted
    format.section format.body image.window_format image.channel_format image.four_numbers image.piece_format image.message_format
    image.image_format image.image_bytes image.read_image
    queue.new_queue queue.next_in queue.next_of queue.memories_in queue.newest_of queue.unsent_of queue.places_within queue.sound_window
    queue.differ queue.sound_profile queue.sound_unsent queue.sound_queue queue.insert_unsent receive.sound_call write.sorted
    save.channels_in save.image_of save.save_of restore.queue_from restore.restored restore.valid restore.restore_of
    calls.made calls.refusal_of calls.save_outcome calls.restored_or calls.restore_outcome calls.resume_outcome calls.outcome
    over its_image
restoring n bytes = restore_of (over n).queue (over n).records (over n).store bytes

-- Over five cells, as many as it uses, it restores; over four cells it gets 22, over none 9. A byte less or more is 21, whatever there is
-- room for.
pub restores : (restoring 5 (image_bytes its_image) ≡ record { answer = gives tt; left = restored 5 (lent_store 5) its_image })
    × (restoring 4 (image_bytes its_image) ≡ record { answer = refused 22; left = over 4 })
    × (restoring 0 (image_bytes its_image) ≡ record { answer = refused 9; left = over 0 })
    × (restoring 5 (take 1311 (image_bytes its_image)) ≡ record { answer = refused 21; left = over 5 })
    × (restoring 4 (image_bytes its_image ++ (0 ∷ [])) ≡ record { answer = refused 21; left = over 4 })
unfolding restoring
restores = (refl, refl, refl, refl, refl)

-- the image with other profiles or unsent numbers
unfoldable pub other_image : List ℕ → List ℕ → Image
other_image profile unsent = record {
  profile = profile;
  windows = its_image.windows;
  channels = its_image.channels;
  unsent = unsent;
  pieces = its_image.pieces;
  held = its_image.held;
  ready = its_image.ready;
}

-- Of the console profile and with 1 alone unsent it restores. "22 for one that no sound receiver's save writes": 4 was not accepted; 1 does
-- not stand before 5; there are two profiles; 2 is none.
pub others : ((restoring 5 (image_bytes (other_image (0 ∷ []) (1 ∷ [])))).answer ≡ gives tt)
    × ((restoring 5 (image_bytes (other_image (1 ∷ []) (1 ∷ 4 ∷ [])))).answer ≡ refused 22)
    × ((restoring 5 (image_bytes (other_image (1 ∷ []) (5 ∷ 1 ∷ [])))).answer ≡ refused 22)
    × ((restoring 5 (image_bytes (other_image (1 ∷ 1 ∷ []) (1 ∷ 5 ∷ [])))).answer ≡ refused 22)
    × ((restoring 5 (image_bytes (other_image (2 ∷ []) (1 ∷ 5 ∷ [])))).answer ≡ refused 22)
unfolding restoring other_image
others = (refl, refl, refl, refl, refl)

-- A resumption goes on with the restored receiver; refused by either call, with the one that it had.
pub resumes : ((outcome anyhow (calls.resume (replicate 1314 0) (over 5))).left ≡ restored 5 (lent_store 5) its_image)
    × ((outcome anyhow (calls.resume (replicate 1314 0) (over 5))).refusal ≡ none)
    × ((outcome anyhow (calls.resume (replicate 1314 0) (over 4))).left ≡ anyhow)
    × ((outcome anyhow (calls.resume (replicate 1314 0) (over 4))).refusal ≡ some 22)
    × ((outcome anyhow (calls.resume (replicate 1311 0) (over 5))).left ≡ anyhow)
    × ((outcome anyhow (calls.resume (replicate 1311 0) (over 5))).refusal ≡ some 12)
unfolding restoring
resumes = (refl, refl, refl, refl, refl, refl)
