-- The two profiles by example, all by computation over the definitions: what request 2 says, byte by byte.
-- Assumes nothing.
use mathlib.Core.Path.{◌≡◌, refl}
use mathlib.Core.Bool.{false}
use mathlib.Core.List.{List, [], ◌∷◌}
use Prim.Native.Nat.{ℕ, ◌≤◌}
use native.Mathlib.Omega.{arith}
use Rattle.base.specs.Answer.{refused, gives}
use Rattle.base.specs.Bytes.{be16, le24, be16_bytes, le24_bytes}
use Rattle.base.specs.If.{if_true, if_lt, if_eq}
use Rattle.base.specs.Limits.{max_body}
use Rattle.base.specs.Put.{and_then}
use Rattle.reliability.specs.Kinds.{fields_of}
use Rattle.reliability.specs.declared.Profile.{Profile}
use Rattle.reliability.specs.declared.Profile.TheVariants.{Console, Cpp}
use Rattle.frame.specs.declared.Frame.{Frame}
use Rattle.frame.specs.declared.Placed.{Placed}
use Rattle.frame.specs.Read.{frame_at, body_length, longest_body, placed_at, body_of, read_frame_of}
use Rattle.frame.specs.Frames.{on_read, frames_from, end_from, frames_of, end_of, read_frames_of}
use Rattle.frame_write.specs.Write.{flags_of, start_bytes, number_bytes, channel_bytes, field_bytes, meta_bytes, header_bytes, frame_bytes}
use Rattle.frame_write.specs.Valid.{number_ok, channel_ok, fields_ok, meta_ok, within_limits, size_of, by_frame_case, write_frame_of}

-- a frame that is no piece
abbrev whole : ℕ → ℕ → ℕ → ℕ → ℕ → Frame
whole kind reliable sequence order channel =
    record {
      kind = kind;
      reliable = reliable;
      sequence = sequence;
      order = order;
      channel = channel;
      piece = false;
      meta = record { count = 0; id = 0; index = 0 };
    }

-- under p the bytes s begin with the frame f of that body, and `next` is the place after it
abbrev Reads : Profile → List ℕ → Frame → List ℕ → ℕ → Type 0
Reads p s f body next = (x : Placed) × (read_frame_of p s 0 ≡ gives (x, next)) × (x.frame ≡ f) × (body_of s x ≡ body)

-- ---- "Here `00 00 0C 41 42` has the body 41 42."
abbrev here : List ℕ
here = 0x00 ∷ 0x00 ∷ 0x0C ∷ 0x41 ∷ 0x42 ∷ []

cpp-body : Reads Cpp here (whole 0 0 0 0 0) (0x41 ∷ 0x42 ∷ []) 5
unfolding if_true if_lt if_eq be16 fields_of frame_at body_length placed_at read_frame_of
cpp-body = (_, refl, refl, refl)

-- Under the console profile it is 41, and the last byte is left.
console-body : Reads Console here (whole 0 0 0 0 0) (0x41 ∷ []) 4
unfolding if_true if_lt if_eq be16 fields_of frame_at body_length placed_at read_frame_of
console-body = (_, refl, refl, refl)

cpp-left : read_frames_of Cpp here 0 ≡ record { count = 1; left = 0 }
unfolding if_true if_lt if_eq be16 fields_of frame_at body_length placed_at read_frame_of on_read frames_from end_from frames_of end_of
    read_frames_of
cpp-left = refl

console-left : read_frames_of Console here 0 ≡ record { count = 1; left = 1 }
unfolding if_true if_lt if_eq be16 fields_of frame_at body_length placed_at read_frame_of on_read frames_from end_from frames_of end_of
    read_frames_of
console-left = refl

-- ---- "It puts an order number and channel after kind 4's sequence number": reliable 1, sequence 2, order 3, channel 5, body 41
abbrev cpp4 : List ℕ
cpp4 = 0x80 ∷ 0x00 ∷ 0x08 ∷ 0x01 ∷ 0x00 ∷ 0x00 ∷ 0x02 ∷ 0x00 ∷ 0x00 ∷ 0x03 ∷ 0x00 ∷ 0x00 ∷ 0x05 ∷ 0x41 ∷ []

cpp-kind-4-read : Reads Cpp cpp4 (whole 4 1 2 3 5) (0x41 ∷ []) 14
unfolding if_true if_lt if_eq be16 le24 fields_of frame_at body_length placed_at read_frame_of
cpp-kind-4-read = (_, refl, refl, refl)

cpp-kind-4-written : (frame_bytes Cpp (whole 4 1 2 3 5) (0x41 ∷ []) ≡ cpp4)
    × (write_frame_of Cpp 14 0 (whole 4 1 2 3 5) 1 ≡ gives 14)
unfolding if_true if_lt if_eq be16_bytes le24_bytes and_then fields_of flags_of start_bytes number_bytes channel_bytes field_bytes
    meta_bytes header_bytes frame_bytes number_ok channel_ok fields_ok meta_ok within_limits size_of by_frame_case write_frame_of
cpp-kind-4-written = (refl, refl)

-- they obey the limits: channel 32 and order number 2^24 are refused
cpp-kind-4-limits : (write_frame_of Cpp 14 0 (whole 4 1 2 3 32) 1 ≡ refused 15)
    × (write_frame_of Cpp 14 0 (whole 4 1 2 16777216 5) 1 ≡ refused 15)
unfolding if_true if_lt if_eq fields_of number_ok channel_ok fields_ok meta_ok within_limits size_of by_frame_case write_frame_of
cpp-kind-4-limits = (refl, refl)

-- the console's kind 4 has neither: its header has 9 bytes, and one with an order number is not written
abbrev console4 : List ℕ
console4 = 0x80 ∷ 0x00 ∷ 0x08 ∷ 0x01 ∷ 0x00 ∷ 0x00 ∷ 0x02 ∷ 0x00 ∷ 0x00 ∷ 0x41 ∷ []

console-kind-4-read : Reads Console console4 (whole 4 1 2 0 0) (0x41 ∷ []) 10
unfolding if_true if_lt if_eq be16 le24 fields_of frame_at body_length placed_at read_frame_of
console-kind-4-read = (_, refl, refl, refl)

console-kind-4-written : (frame_bytes Console (whole 4 1 2 0 0) (0x41 ∷ []) ≡ console4)
    × (write_frame_of Console 14 0 (whole 4 1 2 3 5) 1 ≡ refused 15)
unfolding if_true if_lt if_eq be16_bytes le24_bytes and_then fields_of flags_of start_bytes number_bytes channel_bytes field_bytes
    meta_bytes header_bytes frame_bytes number_ok channel_ok fields_ok meta_ok within_limits size_of by_frame_case write_frame_of
console-kind-4-written = (refl, refl)

-- ---- "it rounds a bit length up to whole bytes"
most-bits : (bits : ℕ) → 65529 ≤ bits → bits ≤ 65535 → (body_length Cpp bits ≡ longest_body) × (body_length Console bits ≡ max_body)
unfolding body_length
most-bits bits low high = (omega arith, omega arith)

whole-bytes : (body_length Cpp 65528 ≡ max_body) × (longest_body ≡ 8192)
unfolding body_length
whole-bytes = (refl, refl)

-- a bit to seven bits are a byte, or none
few_bits : (bits : ℕ) → 1 ≤ bits → bits ≤ 7 → (body_length Cpp bits ≡ 1) × (body_length Console bits ≡ 0)
unfolding body_length
few_bits bits low high = (omega arith, omega arith)
