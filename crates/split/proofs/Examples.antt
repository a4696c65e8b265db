-- The limits of the call and two pieces' bytes, by computation over the definitions. (The bench lines are in the crate bench_lines.)
-- Assumes nothing.
use mathlib.Core.Path.{◌≡◌, refl}
use mathlib.Core.List.{List, [], ◌∷◌}
use Prim.Native.Nat.{ℕ}
use Rattle.base.specs.Answer.{refused, gives}
use Rattle.base.specs.Bytes.{be16_bytes, be32_bytes, le24_bytes}
use Rattle.base.specs.If.{if_true, if_lt, if_le}
use Rattle.base.specs.Put.{put, and_then}
use Rattle.reliability.specs.Kinds.{fields_of}
use Rattle.frame_write.specs.Valid as frame
use Rattle.frame_write.specs.Write as bytes
use Rattle.split.specs.Split.{chunks_of, part_of, part_length, split_of, on_split, write_piece_of, piece_written_of}

-- empty data; the last of 1,024 pieces, the one after it, and 1,025 pieces; the largest mtu and one more. An output of exactly the frame's
-- bytes has room.
pub limits :
    ((k : ℕ) → write_piece_of 0 0 1500 7 k 0 0 0 ≡ refused 17)
    × (write_piece_of 21 1024 61 7 1023 0 0 0 ≡ gives 21)
    × (write_piece_of 21 1024 61 7 1024 0 0 0 ≡ refused 19)
    × ((k : ℕ) → write_piece_of 21 1025 61 7 k 0 0 0 ≡ refused 18)
    × (write_piece_of 1460 2880 1500 7 1 0 0 0 ≡ gives 1460)
    × ((n k : ℕ) → write_piece_of 1460 n 1501 7 k 0 0 0 ≡ refused 16)
unfolding write_piece_of on_split split_of part_length chunks_of if_lt if_le if_true fields_of
    frame.write_frame_of frame.by_frame_case frame.within_limits frame.size_of frame.fields_ok frame.number_ok frame.channel_ok
    frame.meta_ok
limits = (λ k. refl, refl, refl, λ k. refl, refl, λ n k. refl)

-- "Its numbers are those of the split, then those of the writer": the last of three pieces at mtu 61. A piece that is not there gets 19
-- though its channel is over its limit; channel, order and reliable number get 15 though the output has no byte; one byte less gets 12.
pub numbers-in-order :
    (write_piece_of 0 3 61 7 3 32 0 0 ≡ refused 19)
    × (write_piece_of 0 3 61 7 2 32 0 0 ≡ refused 15)
    × (write_piece_of 0 3 61 7 2 0 16777216 0 ≡ refused 15)
    × (write_piece_of 0 3 61 7 2 0 0 16777216 ≡ refused 15)
    × (write_piece_of 20 3 61 7 2 31 16777215 16777215 ≡ refused 12)
    × (write_piece_of 21 3 61 7 2 31 16777215 16777215 ≡ gives 21)
unfolding write_piece_of on_split split_of part_length chunks_of if_lt if_le if_true fields_of
    frame.write_frame_of frame.by_frame_case frame.within_limits frame.size_of frame.fields_ok frame.number_ok frame.channel_ok
    frame.meta_ok
numbers-in-order = (refl, refl, refl, refl, refl, refl)

-- 23 bytes EE after piece k of 41 42 43 44 45 was written into them at mtu 62
abbrev written : ℕ → ℕ → List ℕ
written k reliable =
    piece_written_of
    (0xEE ∷ 0xEE ∷ 0xEE ∷ 0xEE ∷ 0xEE ∷ 0xEE ∷ 0xEE ∷ 0xEE ∷ 0xEE ∷ 0xEE ∷ 0xEE ∷ 0xEE
    ∷ 0xEE ∷ 0xEE ∷ 0xEE ∷ 0xEE ∷ 0xEE ∷ 0xEE ∷ 0xEE ∷ 0xEE ∷ 0xEE ∷ 0xEE ∷ 0xEE ∷ [])
    (0x41 ∷ 0x42 ∷ 0x43 ∷ 0x44 ∷ 0x45 ∷ []) 62 0x0708 k 9 0x0A0B0C reliable

-- The second and the last of three pieces of 41 42 43 44 45 at mtu 62: id 0x0708, channel 9, order number 0x0A0B0C, reliable numbers
-- 0x0D0E0F and 0x0D0E10, in an output of 23 bytes whose last ones stay as they were.
pub pieces-of-two-bytes : (written 1 0x0D0E0F
    ≡ 0x70 ∷ 0x00 ∷ 0x10 ∷ 0x0F ∷ 0x0E ∷ 0x0D ∷ 0x0C ∷ 0x0B ∷ 0x0A ∷ 0x09
    ∷ 0x00 ∷ 0x00 ∷ 0x00 ∷ 0x03 ∷ 0x07 ∷ 0x08 ∷ 0x00 ∷ 0x00 ∷ 0x00 ∷ 0x01 ∷ 0x43 ∷ 0x44 ∷ 0xEE ∷ [])
    × (written 2 0x0D0E10
    ≡ 0x70 ∷ 0x00 ∷ 0x08 ∷ 0x10 ∷ 0x0E ∷ 0x0D ∷ 0x0C ∷ 0x0B ∷ 0x0A ∷ 0x09
    ∷ 0x00 ∷ 0x00 ∷ 0x00 ∷ 0x03 ∷ 0x07 ∷ 0x08 ∷ 0x00 ∷ 0x00 ∷ 0x00 ∷ 0x02 ∷ 0x45 ∷ 0xEE ∷ 0xEE ∷ [])
unfolding piece_written_of on_split split_of part_of chunks_of if_lt if_le if_true fields_of put and_then be16_bytes be32_bytes le24_bytes
    frame.frame_written_of frame.by_frame_case frame.within_limits frame.size_of frame.fields_ok frame.number_ok frame.channel_ok
    frame.meta_ok bytes.flags_of bytes.start_bytes bytes.number_bytes bytes.channel_bytes bytes.field_bytes bytes.meta_bytes
    bytes.header_bytes bytes.frame_bytes
pieces-of-two-bytes = (refl, refl)
