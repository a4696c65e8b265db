-- A worked example of each refusal, by computation over the definitions. (The bench lines are in the crate bench_lines.)
-- Assumes nothing.
use mathlib.Core.Path.{◌≡◌, refl}
use mathlib.Core.Bool.{true, false}
use mathlib.Core.List.{[], ◌∷◌}
use Rattle.base.specs.Answer.{refused, gives}
use Rattle.base.specs.If.{if_true, if_lt, if_le, if_eq}
use Rattle.base.specs.Bytes.{be16, le24, be16_bytes, le24_bytes}
use Rattle.base.specs.Put.{and_then}
use Rattle.ack.specs.Records.{range, first_of, last_of, record_bytes, records_bytes, grow, runs}
use Rattle.ack.specs.Read.{cursor, read_header_of, read_single, read_range, read_record_of, next}
use Rattle.ack.specs.Write.{id_of, ack_header_bytes, list_bytes, some_over, too_large, ascending, by_list_case, write_list_of}

-- NACK of no number
pub empty-list : list_bytes true [] ≡ 0xA0 ∷ 0x00 ∷ 0x00 ∷ []
unfolding list_bytes ack_header_bytes id_of records_bytes runs be16_bytes and_then if_true
empty-list = refl

-- 13 before 14; 14; 12 at one byte short; written at the exact length
pub writing :
    (write_list_of 100 false (5 ∷ 5 ∷ 16777216 ∷ []) ≡ refused 13)
    × (write_list_of 100 false (5 ∷ 5 ∷ []) ≡ refused 14)
    × (write_list_of 13 true (3 ∷ 5 ∷ 6 ∷ 7 ∷ []) ≡ refused 12)
    × (write_list_of 14 true (3 ∷ 5 ∷ 6 ∷ 7 ∷ []) ≡ gives 14)
unfolding write_list_of by_list_case too_large some_over ascending list_bytes ack_header_bytes id_of records_bytes record_bytes runs grow
    first_of last_of be16_bytes le24_bytes and_then if_true if_lt if_le if_eq
writing = (refl, refl, refl, refl)

-- header: 1 before 3. Record: cut; type byte 02, the last byte; last below first; first = last
pub reading :
    (read_header_of (0x84 ∷ 0x00 ∷ []) ≡ refused 1)
    × (read_header_of (0x84 ∷ 0x00 ∷ 0x00 ∷ []) ≡ refused 3)
    × (read_record_of (0x01 ∷ 0x05 ∷ 0x00 ∷ []) (cursor 0 1) ≡ refused 1)
    × (read_record_of (0x02 ∷ []) (cursor 0 1) ≡ refused 10)
    × (read_record_of (0x00 ∷ 0x05 ∷ 0x00 ∷ 0x00 ∷ 0x04 ∷ 0x00 ∷ 0x00 ∷ []) (cursor 0 1) ≡ refused 11)
    × (read_record_of (0x00 ∷ 0x05 ∷ 0x00 ∷ 0x00 ∷ 0x05 ∷ 0x00 ∷ 0x00 ∷ []) (cursor 0 1) ≡ gives (next (range 5 5) (cursor 7 0)))
unfolding read_header_of read_record_of read_single read_range be16 le24 if_true if_lt if_le if_eq
reading = (refl, refl, refl, refl, refl, refl)
