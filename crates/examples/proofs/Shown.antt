-- What the examples speak of: frames, datagrams' bytes and what each call is told, over the definitions that the calls' promises cite.
-- Assumes nothing.
use Prim.Native.Nat.{ℕ, ◌+◌, ◌*◌, ◌-◌}
use mathlib.Core.Bool.{Bool, true, false}
use mathlib.Core.Option.{Option, none, some}
use mathlib.Core.List.{List, [], ◌∷◌, ◌++◌}
use lib.ListN.{length, take, replicate}
use Rattle.base.specs.Answer.{Answer, refused, gives}
use Rattle.base.specs.Bytes.{be16, be32, be64, le24, be16_bytes, be32_bytes, be64_bytes, le24_bytes}
use Rattle.base.specs.If.{if_true, if_lt, if_le, if_eq}
use Rattle.base.specs.Limits.{cell_bytes, max_ord_chans, max_unsent}
use Rattle.base.specs.Lists as lists
use Rattle.base.specs.Put.{put, and_then}
use Rattle.base.specs.Sort as sort
use Rattle.reliability.specs.declared.Profile.{Profile}
use Rattle.reliability.specs.Kinds.{fields_of}
use Rattle.reliability.specs.Profiles.{profile_of}
use Rattle.frame.specs.Read as frame
use Rattle.frame.specs.Frames as frames
use Rattle.ack.specs.Records as records
use Rattle.ack.specs.Write as ack
use Rattle.window.specs.Places as places
use Rattle.window.specs.Window as window
use Rattle.window.specs.Missing as missing
use Rattle.bare.specs.Frame as line
use Rattle.bare.specs.Bare as bare
use Rattle.cells.specs.Cell as cell
use Rattle.cells.specs.Ages as ages
use Rattle.cells.specs.Datagram as datagram
use Rattle.cells.specs.Records as cells
use Rattle.cells.specs.Room as room
use Rattle.cells.specs.Sound as sound
use Rattle.cells.specs.Store as store
use Rattle.cells.specs.Take as ready
use Rattle.image.specs.Format as format
use Rattle.image.specs.Image as image
use Rattle.image.specs.Windows as windows
use Rattle.image.specs.Entries as entries
use Rattle.image.specs.Slots as slots
use Rattle.receiver.specs.declared.RecvQueue.{RecvQueue}
use Rattle.receiver.specs.Queue as queue
use Rattle.receiver.specs.Receive as receive
use Rattle.receiver.specs.Take as take
use Rattle.receiver.specs.Write as write
use Rattle.receiver.specs.Drop as drop
use Rattle.receiver.specs.Receiver.{Receiver}
use Rattle.receiver.specs.Save as save
use Rattle.receiver.specs.Restore as restore
use Rattle.receiver.specs.Calls as calls

-- A whole frame: kind, reliable, sequence and order number, channel, body.
abbrev pub whole : ℕ → ℕ → ℕ → ℕ → ℕ → List ℕ → line.Frame
whole kind reliable sequence order channel body =
    record {
      kind = kind;
      reliable = reliable;
      sequence = sequence;
      order = order;
      channel = channel;
      piece = false;
      count = 0;
      id = 0;
      index = 0;
      body = body;
    }

-- A piece: the same, and count, id and index before the body.
abbrev pub part : ℕ → ℕ → ℕ → ℕ → ℕ → ℕ → ℕ → ℕ → List ℕ → line.Frame
part kind reliable sequence order channel count id index body =
    record {
      kind = kind;
      reliable = reliable;
      sequence = sequence;
      order = order;
      channel = channel;
      piece = true;
      count = count;
      id = id;
      index = index;
      body = body;
    }

-- A slot: its record's use, id, index, kind, channel, count, sequence and order number, turn and age, and its body, whose length the record
-- has, too.
abbrev pub slot : ℕ → ℕ → ℕ → ℕ → ℕ → ℕ → ℕ → ℕ → ℕ → ℕ → List ℕ → cell.Slot
slot used id index kind channel count sequence order turn age body =
    record {
      cell = record {
        used = used;
        id = id;
        index = index;
        length = length body;
        kind = kind;
        channel = channel;
        count = count;
        sequence = sequence;
        order = order;
        turn = turn;
        age = age;
      };
      body = body;
    }

-- What a call is told: messages made ready, frames dropped and bytes left; a message's kind, channel, order number and body; the bytes
-- written; how many cells were freed; or a refusal's number.
pub data Told : Type 0 where
  gave : ℕ → ℕ → ℕ → Told
  took : ℕ → ℕ → ℕ → List ℕ → Told
  wrote : List ℕ → Told
  freed : ℕ → Told
  no : ℕ → Told

-- That, and after the call: both windows' low, the unsent numbers, the next order numbers of channels 0 and 1, the memories of newest
-- sequence numbers (of channels 0 and 1, then the receiver's own; each is the number plus 1, 0 for none), and the slots.
pub record Seen : Type 0 where
  pub told : Told
  pub lows : List ℕ
  pub unsent : List ℕ
  pub nexts : List ℕ
  pub memories : List ℕ
  pub slots : List cell.Slot

abbrev pub saw : Told → List ℕ → List ℕ → List ℕ → List ℕ → List cell.Slot → Seen
saw told lows unsent nexts memories slots =
    record { told = told; lows = lows; unsent = unsent; nexts = nexts; memories = memories; slots = slots }

unfoldable pub received : Answer receive.Report → Told
received (refused number) = no number
received (gives r) = gave r.ready r.dropped r.left

unfoldable pub message : line.Message → Told
message m = took m.kind m.channel m.order m.body

unfoldable pub taken : List ℕ → List ℕ → Answer take.Handed → Told
taken bytes joined (refused number) = no number
taken bytes joined (gives h) = message (calls.message_handed bytes joined h)

unfoldable pub written : List ℕ → Answer ℕ → Told
written out (refused number) = no number
written out (gives len) = wrote (take len out)

unfoldable pub freeing : Answer ℕ → Told
freeing (refused number) = no number
freeing (gives n) = freed n

-- a restore writes nothing
unfoldable pub restored : Answer (Unit {0}) → Told
restored (refused number) = no number
restored (gives x) = wrote []

-- a resumption writes nothing but what the save wrote
unfoldable pub resuming : Option ℕ → Told
resuming none = wrote []
resuming (some number) = no number

unfoldable pub telling : Receiver → calls.Call → Told
telling x (calls.receive d) = received (receive.receive_of x.queue x.records x.store d).answer
telling x (calls.take_with buffer) = let r = take.take_of x.queue x.records x.store buffer in
    taken x.store r.joined r.answer
telling x (calls.write_unsent out) = let r = write.write_unsent_of x.queue out in written r.out r.answer
telling x (calls.write_missing out) = let r = write.write_missing_of x.queue out in written r.out r.answer
telling x (calls.drop_unfinished n) = freeing (drop.drop_unfinished_of x.queue x.records x.store n).answer
telling x (calls.save out) = let r = save.save_of x.queue x.records x.store out in written r.out r.answer
telling x (calls.resume out y) = resuming (calls.outcome x (calls.resume out y)).refusal

unfoldable pub seen : Told → Receiver → Seen
seen told x =
    saw told (x.queue.datagrams.low ∷ x.queue.reliables.low ∷ []) (queue.unsent_of x.queue)
    (queue.next_of x.queue 0 ∷ queue.next_of x.queue 1 ∷ [])
    (queue.newest_of x.queue 0 ∷ queue.newest_of x.queue 1 ∷ queue.newest_of x.queue max_ord_chans ∷ [])
    (store.slots_of x.records x.store)

unfoldable pub seeing : Receiver → List calls.Call → List Seen
seeing x [] = []
seeing x (c ∷ cs) = let y = (calls.outcome x c).left in seen (telling x c) y ∷ seeing y cs

-- The calls of a list, from a receiver just made of n cells in a profile. `unfolding run` opens every definition that a run computes with.
unfoldable pub run : Profile → ℕ → List calls.Call → List Seen
unfolding if_true if_lt if_le if_eq be16 be32 le24 be16_bytes le24_bytes put and_then
    lists.find lists.any lists.every lists.count_of lists.below
    fields_of profile_of frame.frame_at frame.body_length frame.placed_at frame.read_frame_of
    frames.on_read frames.frames_from frames.end_from frames.frames_of frames.end_of
    records.first_of records.last_of records.record_bytes records.records_bytes records.grow records.runs
    ack.id_of ack.ack_header_bytes ack.list_bytes ack.some_over ack.too_large ack.ascending ack.by_list_case ack.write_list_of
    ack.written_of
    places.bit places.place_set places.set_place places.clear_place window.new_window window.accepted window.advance window.accept
    missing.highest missing.unless_accepted missing.missing_of missing.missing
    line.carries_reliable line.ordered line.sequenced line.in_limits line.piece_of bare.bump bare.memory_of bare.older bare.noted
    bare.conflict
    bare.seen_before bare.accept_reliable
    cell.bears cell.at cell.of cell.sits cell.is_free cell.is_open cell.is_ready cell.join cell.all_there cell.message_of cell.message_at
    cell.piece_in cell.clash
    cell.mark cell.mark_cell cell.empty_cell cell.empty_slot cell.change cell.map_if cell.turn_to cell.freed cell.put_slot cell.slot_of
    datagram.drop_one datagram.fill_up datagram.place datagram.made datagram.rise datagram.remember_in datagram.accept_in datagram.is_held
    datagram.go_on datagram.cascade datagram.follows
    datagram.fate datagram.fate_of datagram.roomy datagram.readied datagram.whole datagram.joins datagram.kept datagram.put_piece
    datagram.renew datagram.piece datagram.keep_in datagram.frame datagram.frames
    datagram.is_first datagram.is_before datagram.rank datagram.renumber datagram.sweep datagram.begin datagram.end
    datagram.grow datagram.datagram
    ages.with_age ages.aged ages.next_age ages.grown ages.renewed ages.is_stale
    cells.change_cells cells.index_of ready.lower ready.earliest
    sound.key_of sound.age_of sound.limits sound.agree sound.alike sound.lacks_none sound.sound_cell sound.lengths
    store.cell_size store.cell_body store.slots_of store.cells_of store.laid store.store_of
    queue.next_in queue.next_of queue.memories_in queue.newest_of queue.unsent_of queue.profile_in queue.new_queue queue.places_within
    queue.sound_window queue.differ queue.sound_profile queue.sound_unsent queue.sound_queue queue.insert_unsent
    receive.frame_in receive.frames_in receive.bytes_left receive.accept_all receive.state_of receive.channels_after receive.queue_after
    receive.accepted_result receive.refused_result receive.sound_call receive.receive_of
    take.handed take.take_of write.sorted write.write_of write.emptied write.write_unsent_of write.write_missing_of drop.drop_unfinished_of
    be64 be32_bytes be64_bytes lists.only lists.same sort.insert_by sort.sort_by room.is_held_first
    format.exactly format.number32 format.number64 format.both format.formed format.write_all format.read_all format.many format.counted
    format.section format.body
    image.window_format image.channel_format image.four_numbers image.piece_format image.message_format image.image_format
    image.image_bytes image.read_image windows.eight windows.packed windows.window_entry windows.window_from
    entries.piece_entry entries.bodies_of entries.message_entry entries.pieces_in entries.held_in entries.ready_in
    slots.piece_slot slots.part_slot slots.parts slots.held_slots slots.ready_slots slots.used_slots slots.slots_from
    save.channels_in save.image_of save.save_of
    restore.queue_from restore.restored restore.valid restore.restore_of
    calls.made calls.bytes_at calls.message_handed calls.receive_outcome calls.take_outcome calls.write_outcome calls.drop_outcome
    calls.save_outcome calls.restored_or calls.restore_outcome calls.resume_outcome
    calls.outcome received message taken written freeing restored resuming telling seen seeing
run p n cs = seeing (calls.made p n (replicate (cell_bytes * n) 0)) cs

-- An image restored over a receiver just made.
unfoldable pub restoring : Profile → ℕ → List ℕ → Seen
unfolding run
restoring p n bytes =
    let x = calls.made p n (replicate (cell_bytes * n) 0) in
    let r = restore.restore_of x.queue x.records x.store bytes in
    seen (restored r.answer) r.left

-- A new receiver but for these values: both windows' low; the next and the memory of channel c; the receiver's own memory; its profile's
-- number; the unsent numbers.
abbrev pub values_of : ℕ → ℕ → ℕ → ℕ → ℕ → ℕ → ℕ → List ℕ → RecvQueue
values_of datagrams reliables c next newest own profile unsent =
    record {
      datagrams = window.window_of datagrams (replicate 256 0);
      reliables = window.window_of reliables (replicate 256 0);
      channels = replicate c queue.new_channel
          ++ (record { next = next; newest = newest } ∷ replicate (max_ord_chans - (1 + c)) queue.new_channel);
      unsent = unsent ++ replicate (max_unsent - length unsent) 0;
      pending = length unsent;
      newest = own;
      profile = profile;
    }

-- Are they sound?
unfoldable pub sound_values : ℕ → ℕ → ℕ → ℕ → ℕ → ℕ → ℕ → List ℕ → Bool
sound_values datagrams reliables c next newest own profile unsent =
    queue.sound_queue (values_of datagrams reliables c next newest own profile unsent)
