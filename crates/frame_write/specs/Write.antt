-- A frame's bytes, written: document 01, "Bytes", paragraph "Frame"; under a profile (document 02, request 2).
use Rattle.std.specs.Prelude.{ℕ, ◌+◌, ◌*◌, Bool, List, [], ◌∷◌, length, Option}
use Rattle.base.specs.Bytes.{be16_bytes, be32_bytes, le24_bytes}
use Rattle.base.specs.If.{if_true}
use Rattle.base.specs.Put.{and_then}
use Rattle.reliability.specs.Kinds.{fields_of, on_place}
use Rattle.reliability.specs.declared.KindFields.{KindFields}
use Rattle.reliability.specs.declared.Profile.{Profile}
use Rattle.frame.specs.declared.FragmentMeta.{FragmentMeta}
use Rattle.frame.specs.declared.Frame.{Frame}

-- "kind in the top three bits, 10 marks a piece, other bits .. written 0"
unfoldable pub flags_of : ℕ → Bool → ℕ
flags_of kind piece = if_true piece (kind * 32 + 16) (kind * 32)

-- flags, and "length in bits, 16 bits big-endian", of a body of n bytes
unfoldable pub start_bytes : ℕ → Bool → ℕ → List ℕ
start_bytes kind piece n = and_then (flags_of kind piece ∷ []) (be16_bytes (n * 8))

-- a number, "24 bits little-endian", where the kind has it
unfoldable pub number_bytes : Option ℕ → ℕ → List ℕ
number_bytes off x = on_place off [] (λ _. le24_bytes x)

-- "and channel, one byte"
unfoldable pub channel_bytes : Option ℕ → ℕ → List ℕ
channel_bytes off x = on_place off [] (λ _. x ∷ [])

-- "then as the kind has them reliable, sequence and order number .. and channel"
unfoldable pub field_bytes : KindFields → Frame → List ℕ
field_bytes k f =
    and_then (number_bytes k.reliable f.reliable)
    (and_then (number_bytes k.sequence f.sequence)
    (and_then (number_bytes k.order f.order)
    (channel_bytes k.channel f.channel)))

-- "for a piece count (32), id (16), index (32), big-endian"
unfoldable pub meta_bytes : Bool → FragmentMeta → List ℕ
meta_bytes piece m = if_true piece (and_then (be32_bytes m.count) (and_then (be16_bytes m.id) (be32_bytes m.index))) []

-- the header of a frame with a body of n bytes
unfoldable pub header_bytes : Profile → Frame → ℕ → List ℕ
header_bytes p f n =
    and_then (start_bytes f.kind f.piece n) (and_then (field_bytes (fields_of p f.kind) f) (meta_bytes f.piece f.meta))

-- the whole frame; "the body's own length is written"
unfoldable pub frame_bytes : Profile → Frame → List ℕ → List ℕ
frame_bytes p f body = and_then (header_bytes p f (length body)) body
