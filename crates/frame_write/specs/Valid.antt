-- Document 01's call "Write frame": "15 kind, number, channel, piece field or body over its limit (body 8,191), or an uncarried field not
-- 0; 12." Which fields a kind carries goes by the profile (document 02, request 2).
use Rattle.std.specs.Prelude.{ℕ, ◌+◌, Bool, ◌&&◌, List, length, leb, ltb, eqb, Option}
use Rattle.base.specs.Answer.{Answer, refused, gives}
use Rattle.base.specs.If.{if_true, if_lt}
use Rattle.base.specs.Limits.{numbers24, max_ord_chans, max_body}
use Rattle.base.specs.Put.{put}
use Rattle.reliability.specs.Kinds.{fields_of, on_place}
use Rattle.reliability.specs.declared.KindFields.{KindFields}
use Rattle.reliability.specs.declared.Profile.{Profile}
use Rattle.frame.specs.declared.FragmentMeta.{FragmentMeta}
use Rattle.frame.specs.declared.Frame.{Frame}
use Rattle.frame.specs.Read.{max_kind, header_size, piece_in_limits}
use Rattle.frame_write.specs.Write.{frame_bytes}

-- a number below 2^24; one that the kind lacks is 0
unfoldable pub number_ok : Option ℕ → ℕ → Bool
number_ok off x = on_place off (eqb x 0) (λ _. ltb x numbers24)

-- "channel 0 to 31"
unfoldable pub channel_ok : Option ℕ → ℕ → Bool
channel_ok off x = on_place off (eqb x 0) (λ _. ltb x max_ord_chans)

unfoldable pub fields_ok : KindFields → Frame → Bool
fields_ok k f =
    number_ok k.reliable f.reliable && number_ok k.sequence f.sequence && number_ok k.order f.order && channel_ok k.channel f.channel

-- a piece's count and index are within their limits; all three are 0 where the frame is no piece
unfoldable pub meta_ok : Bool → FragmentMeta → Bool
meta_ok piece m = if_true piece (piece_in_limits m) (eqb m.count 0 && (eqb m.id 0 && eqb m.index 0))

-- a frame with a body of n bytes is one that may be written: 15 is due where this is false
unfoldable pub within_limits : Profile → Frame → ℕ → Bool
within_limits p f n = leb f.kind max_kind && leb n max_body && fields_ok (fields_of p f.kind) f && meta_ok f.piece f.meta

-- how many bytes a frame with a body of n bytes takes
unfoldable pub size_of : Profile → Frame → ℕ → ℕ
size_of p f n = header_size f.piece (fields_of p f.kind).header + n

-- x where 15 is due, y where 12 is, z where the frame is written
unfoldable pub by_frame_case : {A : Type 0} → Profile → ℕ → ℕ → Frame → ℕ → A → A → A → A
by_frame_case p room at f n x y z = if_true (within_limits p f n) (if_lt room (at + size_of p f n) y z) x

-- the answer, for an output of `room` bytes: the place after the frame, or the number of the refusal
unfoldable pub write_frame_of : Profile → ℕ → ℕ → Frame → ℕ → Answer ℕ
write_frame_of p room at f n = by_frame_case p room at f n (refused 15) (refused 12) (gives (at + size_of p f n))

-- the output afterwards; a refusal leaves it as it was
unfoldable pub frame_written_of : Profile → List ℕ → ℕ → Frame → List ℕ → List ℕ
frame_written_of p out at f body = by_frame_case p (length out) at f (length body) out out (put out at (frame_bytes p f body))
