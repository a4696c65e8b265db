-- A frame read: document 01, "Bytes", paragraph "Frame", and the call "Read frame"; under a profile (document 02, request 2).
-- Past the end of the slice a byte reads as 0. No frame that is given depends on it: one that reaches past the end is cut.
use Rattle.std.specs.Prelude.{ℕ, ◌+◌, ◌/◌, ◌%◌, Bool, ◌&&◌, leb, ltb, List, get_or, length, take, drop, eqb, Option, Some, None}
use Rattle.base.specs.Answer.{Answer, refused, gives}
use Rattle.base.specs.Bytes.{be16, be32, le24}
use Rattle.base.specs.If.{if_true, if_lt}
use Rattle.base.specs.Limits.{max_body, max_frags}
use Rattle.reliability.specs.Kinds.{fields_of, on_place}
use Rattle.reliability.specs.declared.KindFields.{KindFields}
use Rattle.reliability.specs.declared.Profile.{Profile}
use Rattle.reliability.specs.declared.Profile.TheVariants.{Console, Cpp}
use Rattle.frame.specs.declared.FragmentMeta.{FragmentMeta}
use Rattle.frame.specs.declared.Frame.{Frame}
use Rattle.frame.specs.declared.Placed.{Placed}
use Rattle.frame.specs.declared.Span.{Span}

-- "Kinds 0 to 7"
abbrev pub max_kind : ℕ
max_kind = 7

-- "kind in the top three bits"
abbrev pub kind_of : ℕ → ℕ
kind_of flags = flags / 32

-- "10 marks a piece": hexadecimal, the fifth bit
abbrev pub is_piece : ℕ → Bool
is_piece flags = eqb (flags / 16 % 2) 1

-- "reliable, sequence and order number, 24 bits little-endian each": the one whose place in the header is given; "uncarried fields are 0"
abbrev pub number_at : List ℕ → ℕ → Option ℕ → ℕ
number_at s at off = on_place off 0 (λ n. le24 s (at + n))

-- "and channel, one byte"
abbrev pub channel_at : List ℕ → ℕ → Option ℕ → ℕ
channel_at s at off = on_place off 0 (λ n. get_or s (at + n) 0)

-- "for a piece count (32), id (16), index (32), big-endian"
abbrev pub meta_at : Bool → List ℕ → ℕ → FragmentMeta
meta_at piece s p = if_true piece (record { count = be32 s p; id = be16 s (p + 4); index = be32 s (p + 6) })
    (record { count = 0; id = 0; index = 0 })

-- "piece count 1 to 1,024, index below it"
abbrev pub piece_in_limits : FragmentMeta → Bool
piece_in_limits m = leb 1 m.count && leb m.count max_frags && ltb m.index m.count

-- the bytes that these take
abbrev pub meta_size : ℕ
meta_size = 10

-- the header's bytes: those of the kind's row, and a piece's ten
abbrev pub header_size : Bool → ℕ → ℕ
header_size piece header = if_true piece (header + meta_size) header

-- the header whose flags are given, by the row of its kind
abbrev pub frame_by : KindFields → ℕ → List ℕ → ℕ → Frame
frame_by k flags s at =
    record {
      kind = kind_of flags;
      reliable = number_at s at k.reliable;
      sequence = number_at s at k.sequence;
      order = number_at s at k.order;
      channel = channel_at s at k.channel;
      piece = is_piece flags;
      meta = meta_at (is_piece flags) s (at + k.header);
    }

-- the header at a place
unfoldable pub frame_at : Profile → List ℕ → ℕ → Frame
frame_at p s at = frame_by (fields_of p (kind_of (get_or s at 0))) (get_or s at 0) s at

-- the bytes of a body of so many bits: "the remainder after dividing by 8 is dropped"; C++ "rounds a bit length up to whole bytes"
unfoldable pub body_length : Profile → ℕ → ℕ
body_length Console bits = bits / 8
body_length Cpp bits = (bits + 7) / 8

-- the longest body that 16 bits can name, under either profile: where they are rounded up, one byte more than a writer's longest
abbrev pub longest_body : ℕ
longest_body = max_body + 1

-- the frame at a place and its body: "length in bits, 16 bits big-endian"
unfoldable pub placed_at : Profile → List ℕ → ℕ → Placed
placed_at p s at =
    record {
      frame = frame_at p s at;
      start = at + header_size (is_piece (get_or s at 0)) (fields_of p (kind_of (get_or s at 0))).header;
      len = body_length p (be16 s (at + 1));
    }

-- the body of a frame that stands in s
abbrev pub body_of : List ℕ → Placed → List ℕ
body_of s p = take p.len (drop p.start s)

-- where a frame ends
abbrev pub ends_at : Placed → ℕ
ends_at p = p.start + p.len

-- "Read frame. 1 cut.": the frame and the place after it, where its header and its body fit
unfoldable pub read_frame_of : Profile → List ℕ → ℕ → Answer (Placed × ℕ)
read_frame_of p s at = if_lt (length s) (ends_at (placed_at p s at)) (refused 1) (gives (placed_at p s at, ends_at (placed_at p s at)))

-- where the frame's body starts and the place after the frame, where header and body fit
unfoldable pub span_of : Profile → List ℕ → ℕ → Option Span
span_of p s at = if_lt (length s) (ends_at (placed_at p s at)) None
    (Some (record { start = (placed_at p s at).start; next = ends_at (placed_at p s at) }))
