-- A message of three pieces, by computation: its frames as the call writes them, read from two datagrams, are one message again. And what
-- `pieces-join-reached` asks is met by it.
-- Assumes nothing.
use Prim.Native.Nat.{ℕ, zero, suc, ◌+◌}
use mathlib.Core.Path.{◌≡◌, refl}
use mathlib.Core.List.{List, [], ◌∷◌, ◌++◌, map}
use native.Mathlib.Omega.{arith}
use lib.ListN.{replicate}
use borrow.Author.Tests.{ne_eqb, le-ltb}
use Rattle.std.specs.List.{flat_map}
use Rattle.base.specs.Bytes.{be16, be32, le24, be16_bytes, be32_bytes, le24_bytes}
use Rattle.base.specs.If.{if_true, if_lt, if_le}
use Rattle.base.specs.Lists.{any, count_of}
use Rattle.base.specs.Put.{put, and_then}
use Rattle.reliability.specs.declared.Profile.{Profile}
use Rattle.reliability.specs.declared.Profile.TheVariants.{Console, Cpp}
use Rattle.reliability.specs.Kinds.{fields_of}
use Rattle.frame.specs.Read.{frame_at, body_length, placed_at, read_frame_of}
use Rattle.frame.specs.Frames.{on_read, frames_from, frames_of}
use Rattle.frame_write.specs.Write as bytes
use Rattle.frame_write.specs.Valid as frame
use Rattle.split.specs.Split.{chunks_of, part_of, part_length, split_of, on_split, write_piece_of, piece_written_of}
use Rattle.bare.specs.Bare.{new, feed}
use Rattle.bare.specs.Unfinished.{new_dated, after_events}
use Rattle.bare.proofs.Shown.{Seen, msg, gave, seen, run_as}
use Rattle.receiver.specs.Receive.{frame_in, frames_in}
use Rattle.corollaries.specs.Pieces.{Outgoing, pieces_of, WrittenFor, Datagrams, EachOnce, DueAndNew, OneForEach}
use Rattle.corollaries.specs.Pieces.{MadeReady, reached}
use Rattle.corollaries.proofs.PiecesJoin.{pieces-join-reached}

-- 41 42 43 at mtu 61, with a reliable number for each piece
unfoldable pub three : (ℕ → ℕ) → Outgoing
three numbers = record { body = 0x41 ∷ 0x42 ∷ 0x43 ∷ []; mtu = 61; id = 0x0708; channel = 9; order = 0; reliable = numbers }

-- from 7 on
unfoldable pub from7 : ℕ → ℕ
from7 k = 7 + k

-- the frame that the call writes for piece k
unfoldable pub written : (ℕ → ℕ) → ℕ → List ℕ
unfolding three piece_written_of on_split split_of part_of chunks_of if_lt if_le if_true fields_of put and_then be16_bytes be32_bytes
    le24_bytes frame.frame_written_of frame.by_frame_case frame.within_limits frame.size_of frame.fields_ok frame.number_ok
    frame.channel_ok frame.meta_ok bytes.flags_of bytes.start_bytes bytes.number_bytes bytes.channel_bytes bytes.field_bytes
    bytes.meta_bytes bytes.header_bytes bytes.frame_bytes
written numbers k =
    let x = three numbers in
    piece_written_of (replicate 21 0) x.body x.mtu x.id k x.channel x.order (numbers k)

-- pieces 2 and 0 in one datagram, piece 1 in the next
unfoldable pub datagrams : (ℕ → ℕ) → List (List ℕ)
unfolding written
datagrams numbers = (0x84 ∷ 0 ∷ 0 ∷ 0 ∷ (written numbers 2 ++ written numbers 0)) ∷ (0x84 ∷ 1 ∷ 0 ∷ 0 ∷ written numbers 1) ∷ []

-- what a new receiver makes of them
unfoldable pub run_pieces : Profile → (ℕ → ℕ) → Seen
unfolding datagrams run_as frames_in frame_in frames_of frames_from on_read read_frame_of placed_at frame_at body_length be16 be32 le24
run_pieces p numbers = run_as p (map (frames_in p) (datagrams numbers))

-- In either profile the first datagram makes no message ready, the second makes one ready, and no frame is dropped.
pub three-joined : (p : Profile) → run_pieces p from7 ≡ seen (gave 0 0 ∷ gave 1 0 ∷ []) (msg 3 9 0 (0x41 ∷ 0x42 ∷ 0x43 ∷ []) ∷ [])
unfolding run_pieces from7
three-joined Console = refl
three-joined Cpp = refl

-- With one reliable number for all, the second and the third frame are dropped: so each piece must have its own.
pub one-number-for-all : (p : Profile) → run_pieces p (λ k. 7) ≡ seen (gave 0 1 ∷ gave 0 1 ∷ []) []
unfolding run_pieces
one-number-for-all Console = refl
one-number-for-all Cpp = refl

-- ---- what `pieces-join-reached` asks is met by three pieces with numbers from 7 on

abbrev pub sample : Outgoing
sample = three from7

calls : WrittenFor sample 0 (written from7 0) × WrittenFor sample 1 (written from7 1) × WrittenFor sample 2 (written from7 2)
unfolding written from7 write_piece_of part_length frame.write_frame_of
calls = (
  record { output = replicate 21 0; answer = refl; written = refl },
  record { output = replicate 21 0; answer = refl; written = refl },
  record { output = replicate 21 0; answer = refl; written = refl },
)

carried : Datagrams sample (2 ∷ 0 ∷ 1 ∷ []) (datagrams from7)
unfolding datagrams from7
carried = record {
  parts = (2 ∷ 0 ∷ []) ∷ (1 ∷ []) ∷ [];
  all = (
    record {
      head = 0x84 ∷ 0 ∷ 0 ∷ 0 ∷ [];
      frames = written from7 2 ∷ written from7 0 ∷ [];
      head_long = refl;
      all = (calls.2, (calls.0, tt));
      is = refl;
    },
    (
      record { head = 0x84 ∷ 1 ∷ 0 ∷ 0 ∷ []; frames = written from7 1 ∷ []; head_long = refl; all = (calls.1, tt); is = refl },
      tt,
    ),
  );
  is = refl;
}

each-once : EachOnce (pieces_of sample) (2 ∷ 0 ∷ 1 ∷ [])
unfolding three chunks_of count_of
each-once zero = refl
each-once (suc zero) = refl
each-once (suc (suc zero)) = refl
each-once (suc (suc (suc k))) = rw (
  ne_eqb (suc (suc (suc k))) 2 (omega arith),
  ne_eqb (suc (suc (suc k))) 0 (omega arith),
  ne_eqb (suc (suc (suc k))) 1 (omega arith),
  le-ltb (suc (suc (suc k))) 3 (omega arith),
)

one-for-each : OneForEach sample
unfolding three from7
one-for-each j k below_j below_k e = omega arith

due-and-new : (p : Profile) → DueAndNew sample (reached p [])
unfolding three new new_dated after_events any
due-and-new p = record { due = refl; new_id = refl; new_numbers = λ k below. refl }

-- So the theorem says it of them, too.
pub three-made-ready : (p : Profile) → MadeReady sample (new p) (feed (new p) (flat_map (frames_in p) (datagrams from7)))
unfolding three chunks_of new new_dated after_events
three-made-ready p =
    pieces-join-reached sample (omega arith) (omega arith) one-for-each p [] (due-and-new p)
    (2 ∷ 0 ∷ 1 ∷ []) each-once (datagrams from7) carried
