-- The trace, all by computation over the definitions.
-- Assumes nothing.
use mathlib.Core.Path.{refl}
use Rattle.base.specs.Bytes.{be16, le24, be16_bytes, le24_bytes}
use Rattle.base.specs.If.{if_true, if_lt, if_le, if_eq}
use Rattle.base.specs.Lists as lists
use Rattle.base.specs.Put.{and_then}
use Rattle.reliability.specs.Kinds.{fields_of}
use Rattle.reliability.specs.Profiles.{profile_of}
use Rattle.frame.specs.Read as frame
use Rattle.frame.specs.Frames as frames
use Rattle.ack.specs.Records as records
use Rattle.ack.specs.Write as ack
use Rattle.window.specs.Places as places
use Rattle.window.specs.Window as window
use Rattle.bare.specs.Frame as line
use Rattle.bare.specs.Bare as bare
use Rattle.cells.specs.Cell as cell
use Rattle.cells.specs.Ages as ages
use Rattle.cells.specs.Datagram as datagram
use Rattle.cells.specs.Records as cells
use Rattle.cells.specs.Sound as sound
use Rattle.cells.specs.Store as store
use Rattle.cells.specs.Take as ready
use Rattle.receiver.specs.Queue as queue
use Rattle.receiver.specs.Receive as receive
use Rattle.receiver.specs.Take as take
use Rattle.receiver.specs.Write as write
use Rattle.receiver.specs.Calls as calls
use Rattle.bench_lines.specs.Trace.{Trace}

pub trace : Trace
unfolding if_true if_lt if_le if_eq be16 le24 be16_bytes le24_bytes and_then
    lists.find lists.any lists.every lists.count_of lists.below
    fields_of profile_of frame.frame_at frame.body_length frame.placed_at frame.read_frame_of
    frames.on_read frames.frames_from frames.end_from frames.frames_of frames.end_of
    records.first_of records.last_of records.record_bytes records.records_bytes records.grow records.runs
    ack.id_of ack.ack_header_bytes ack.list_bytes ack.some_over ack.too_large ack.ascending ack.by_list_case ack.write_list_of
    places.bit places.place_set window.new_window window.accepted window.advance window.accept
    line.carries_reliable line.ordered line.in_limits bare.bump bare.seen_before bare.accept_reliable
    cell.bears cell.at cell.of cell.sits cell.is_free cell.is_open cell.is_ready cell.join cell.message_of cell.message_at
    cell.mark cell.mark_cell cell.empty_cell cell.empty_slot cell.change cell.map_if cell.turn_to cell.freed cell.put_slot cell.slot_of
    datagram.place datagram.made datagram.rise datagram.accept_in datagram.is_held datagram.go_on datagram.cascade datagram.follows
    datagram.fate datagram.fate_of datagram.roomy datagram.whole datagram.keep_in datagram.frame datagram.frames
    datagram.is_first datagram.renumber datagram.sweep datagram.begin datagram.end ages.grown datagram.grow datagram.datagram
    cells.index_of ready.lower ready.earliest
    sound.key_of sound.age_of sound.limits sound.agree sound.alike sound.lacks_none sound.sound_cell sound.lengths
    store.cell_size store.cell_body store.slots_of store.cells_of store.laid store.store_of
    queue.next_in queue.next_of queue.memories_in queue.newest_of queue.unsent_of queue.new_queue queue.profile_in
    queue.places_within queue.sound_window
    queue.sound_profile queue.differ queue.sound_unsent queue.sound_queue queue.insert_unsent
    receive.frame_in receive.frames_in receive.bytes_left receive.accept_all receive.state_of receive.channels_after receive.queue_after
    receive.accepted_result receive.refused_result receive.sound_call receive.receive_of
    take.handed take.take_of write.sorted write.write_of write.emptied write.write_unsent_of
    calls.made calls.accepted_by calls.bytes_at calls.message_handed calls.took_of calls.refusal_of
    calls.receive_outcome calls.take_outcome calls.write_outcome calls.outcome calls.after_all calls.handed_out
trace = record { first = (refl, refl); first_none = refl; second = (refl, refl); second_two = refl; third = refl; third_none = refl }
