-- The starred bench lines, by computation over the definitions. A receive asks first whether receiver, records and store are sound; those
-- just made are (receiver's law `start-sane`).
-- Assumes nothing.
use Prim.Native.Nat.{ℕ}
use mathlib.Core.Path.{◌≡◌, refl}
use Rattle.base.specs.Answer.{gives}
use Rattle.base.specs.Bytes.{be16, be32, le24, be16_bytes, le24_bytes}
use Rattle.base.specs.If.{if_true, if_lt, if_le, if_eq}
use Rattle.base.specs.Put.{put, and_then}
use Rattle.reliability.specs.declared.Profile.{Profile}
use Rattle.reliability.specs.declared.Profile.TheVariants.{Console, Cpp}
use Rattle.reliability.specs.Kinds.{fields_of}
use Rattle.reliability.specs.Profiles.{profile_of}
use Rattle.frame.specs.Read as frame
use Rattle.frame.specs.Frames as frames
use Rattle.ack.specs.Records as records
use Rattle.ack.specs.Write as ack
use Rattle.window.specs.Places as places
use Rattle.window.specs.Window as window
use Rattle.frame_write.specs.Valid as written
use Rattle.split.specs.Split as split
use Rattle.bare.specs.Frame as line
use Rattle.bare.specs.Bare as bare
use Rattle.cells.specs.Datagram as datagram
use Rattle.receiver.specs.Queue as queue
use Rattle.receiver.specs.Receive as receive
use Rattle.receiver.specs.Calls as calls
use Rattle.receiver.specs.Claim.{Start, begun}
use Rattle.receiver.proofs.Demand.{start-sane}
use Rattle.bench_lines.specs.BenchLines.{reported, with_piece, BenchLines}

piece-dropped : (s : Start) (id₁ id₂ byte : ℕ) → reported (begun s) (with_piece id₁ id₂ byte)
    ≡ gives (record { ready = 0; dropped = 1; left = 0 })
unfolding if_true if_lt if_le if_eq be16 be32 le24 profile_of
    fields_of frame.frame_at frame.body_length frame.placed_at frame.read_frame_of frames.on_read frames.frames_from
    frames.end_from frames.frames_of frames.end_of
    places.bit places.place_set window.new_window window.accepted
    line.carries_reliable line.in_limits bare.seen_before
    datagram.place datagram.drop_one datagram.accept_in datagram.frame datagram.frames datagram.begin datagram.grow datagram.datagram
    queue.new_queue queue.profile_in receive.frame_in receive.frames_in receive.bytes_left receive.accept_all receive.state_of
    receive.accepted_result
    receive.receive_of calls.made
piece-dropped s id₁ id₂ byte = by s.profile refl
  where
    by : (p : Profile) → s.profile ≡ p → reported (begun s) (with_piece id₁ id₂ byte) ≡ gives (record { ready = 0; dropped = 1; left = 0 })
    by Console e = rw ((start-sane s).sound, reported, e)
    by Cpp e = rw ((start-sane s).sound, reported, e)

pub bench-lines : BenchLines
unfolding if_true if_lt if_le if_eq be16 be32 le24 be16_bytes le24_bytes put and_then
    fields_of frame.frame_at frame.body_length frame.placed_at frame.read_frame_of
    records.first_of records.last_of records.record_bytes records.records_bytes records.grow records.runs
    ack.id_of ack.ack_header_bytes ack.list_bytes ack.some_over ack.too_large ack.ascending ack.by_list_case ack.write_list_of
    ack.written_of
    places.bit places.place_set places.set_place places.clear_place
    window.new_window window.accepted window.advance window.accept window.insert_of
    split.chunks_of split.part_length split.split_of split.on_split split.write_piece_of
    written.within_limits written.size_of written.by_frame_case written.write_frame_of written.fields_ok written.number_ok
    written.channel_ok written.meta_ok
    line.carries_reliable line.in_limits bare.new bare.seen_before bare.accept_reliable bare.drop_in bare.step
bench-lines =
    record {
      zero_accepted = (refl, refl);
      zero_again = refl;
      reach = (refl, refl);
      kind_3 = (_, refl, refl, refl);
      kind_0 = (_, refl, refl, refl);
      one_byte = (_, refl, refl, refl);
      ack_0 = (refl, refl);
      ack_0_1 = (refl, refl);
      ack_3_5_6_7 = (refl, refl);
      split_1441 = (refl, refl, refl, λ id. (refl, refl, refl));
      split_1440 = λ room id k channel order reliable. refl;
      mtu_60 = λ room n id k channel order reliable. refl;
      index_2_of_2 = piece-dropped;
      bare_index_2_of_2 = λ p id. (refl, refl);
    }
