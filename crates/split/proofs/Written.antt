-- What the call writes, and when the writer's 15 comes. Frames of kind 3 are the same in both profiles.
-- Assumes nothing.
use mathlib.Core.Logic.{◌↔◌, ◌⊎◌, inl, inr}
use mathlib.Core.Path.{◌≡◌, ◌∙◌, sym, ap, refl}
use mathlib.Core.Bool.{true, false}
use mathlib.Core.List.{List}
use Prim.Native.Nat.{ℕ, ◌+◌, ◌-◌, ◌*◌, ◌<◌, ◌≤◌, min}
use native.Mathlib.Decide.{dec_lt}
use native.Mathlib.Omega.{arith}
use lib.ListN.{length}
use borrow.Author.Tests.{lt-ltb, le-leb}
use Rattle.std.proofs.lemmas.Bool.{false_from_ne_true}
use Rattle.base.specs.Answer.{Answer, refused, gives}
use Rattle.base.specs.If.{if_true}
use Rattle.base.specs.Limits.{numbers24, max_ord_chans, max_body, max_frags}
use Rattle.base.specs.Put.{put}
use Rattle.base.proofs.Choices.{neither}
use Rattle.reliability.specs.Kinds.{fields_of}
use Rattle.reliability.specs.declared.Profile.{Profile}
use Rattle.reliability.specs.declared.Profile.TheVariants.{Console, Cpp}
use Rattle.frame.specs.declared.Frame.{Frame}
use Rattle.frame_write.specs.Write.{header_bytes, frame_bytes}
use Rattle.frame_write.specs.Valid.{number_ok, channel_ok, fields_ok, meta_ok, within_limits, size_of}
use Rattle.frame_write.specs.Valid.{by_frame_case, write_frame_of, frame_written_of}
use Rattle.frame_write.proofs.Limits.{within}
use Rattle.frame_write.proofs.Rows.{frame-wide}
use Rattle.frame_write.proofs.WriteCases.{has_room, over-exactly}
use Rattle.frame_write.proofs.WriteCases as frames
use Rattle.frame_write.proofs.WriteThenRead.{accepted}
use Rattle.split.specs.Split.{chunk, count, part_of, part_length, Splits, piece_header, piece_kind, piece_frame}
use Rattle.split.specs.Split.{split_of, on_split, write_piece_of, piece_written_of}
use Rattle.split.proofs.Laws.{splitting, count-in-range, piece-given}
use Rattle.split.proofs.Cases.{answer_none, output_none, answer_given, output_given}

-- the frame of piece k of n bytes
abbrev pub frame_of : ℕ → ℕ → ℕ → ℕ → ℕ → ℕ → ℕ → Frame
frame_of n mtu id k channel order reliable = piece_frame (count n mtu) id k channel order reliable

-- ---- either profile
three_fields : (p : Profile) → fields_of p piece_kind ≡ fields_of Console piece_kind
unfolding fields_of
three_fields Console = refl
three_fields Cpp = refl

module _ (f : Frame) (three : f.kind ≡ piece_kind) (p : Profile) where
  same_fields : fields_of p f.kind ≡ fields_of Console f.kind
  same_fields = ap (fields_of p) three ∙ three_fields p ∙ sym (ap (fields_of Console) three)

  either_limits : (n : ℕ) → within_limits p f n ≡ within_limits Console f n
  unfolding within_limits
  either_limits n = rw same_fields

  either-size : (n : ℕ) → size_of p f n ≡ size_of Console f n
  unfolding size_of
  either-size n = rw same_fields

  either-bytes : (body : List ℕ) → frame_bytes p f body ≡ frame_bytes Console f body
  unfolding frame_bytes header_bytes
  either-bytes body = rw same_fields

  -- Frames of kind 3 are the same in both profiles: the answer, and what is written.
  pub either_profile : ((room at n : ℕ) → write_frame_of p room at f n ≡ write_frame_of Console room at f n)
      × ((out : List ℕ) (at : ℕ) (body : List ℕ) → frame_written_of p out at f body ≡ frame_written_of Console out at f body)
  unfolding write_frame_of frame_written_of by_frame_case
  either_profile = (
    λ room at n. rw (either_limits n, either-size n) refl,
    λ out at body. rw (either_limits (length body), either-size (length body), either-bytes body) refl,
  )

-- ---- one call
module _ (s : List ℕ) (mtu id k channel order reliable : ℕ) where
  abbrev of_data : Frame
  of_data = frame_of (length s) mtu id k channel order reliable

  -- what it means that the call answers n for an output: there is a piece k, its frame is within its limits whatever the profile and takes
  -- n bytes, for which there is room, and these are written at the beginning
  pub record PieceWritten (out : List ℕ) (n : ℕ) : Type 0 where
    pub splits : Splits (length s) mtu
    pub there : k < count (length s) mtu
    pub limits : (p : Profile) → within_limits p of_data (length (part_of s mtu k)) ≡ true
    pub long : (p : Profile) → length (frame_bytes p of_data (part_of s mtu k)) ≡ n
    pub room : n ≤ length out
    pub is : (p : Profile) → piece_written_of out s mtu id k channel order reliable ≡ put out 0 (frame_bytes p of_data (part_of s mtu k))

  -- Where the answer is a number of bytes, these are the frame's.
  pub piece-written : (out : List ℕ) (n : ℕ) → write_piece_of (length out) (length s) mtu id k channel order reliable ≡ gives n
      → PieceWritten out n
  piece-written out n e = go (split_of (length s) mtu k) refl
    where
      go : (r : Answer ℕ) → r ≡ split_of (length s) mtu k → PieceWritten out n
      go (refused m) i = let z : refused m ≡ gives n = answer_none s mtu id k channel order reliable out m i ∙ e in absurd cc
      go (gives m) i =
          let h = splitting (length s) mtu k m i in
          let c : gives (count (length s) mtu) ≡ split_of (length s) mtu k = rw (← h.counted) i in
          let a = accepted Console out 0 of_data (part_of s mtu k) n
          (answer_given s mtu id k channel order reliable out (count (length s) mtu) c ∙ e) in
          let b = either-bytes of_data refl in
          record {
            splits = h.splits;
            there = h.there;
            limits = λ p. either_limits of_data refl p _ ∙ a.limits;
            long = λ p. rw (b p (part_of s mtu k), frame-wide) (omega (arith, a.place));
            room = omega (arith, a.room, a.place);
            is = λ p. rw (b p (part_of s mtu k))
                (sym (output_given s mtu id k channel order reliable out (count (length s) mtu) c) ∙ a.written);
          }

-- A refused call writes nothing.
pub refused-writes-nothing : (s : List ℕ) (mtu id k channel order reliable : ℕ) (out : List ℕ) (number : ℕ)
    → write_piece_of (length out) (length s) mtu id k channel order reliable ≡ refused number
    → piece_written_of out s mtu id k channel order reliable ≡ out
refused-writes-nothing s mtu id k channel order reliable out number e = go (split_of (length s) mtu k) refl
  where
    go : (r : Answer ℕ) → r ≡ split_of (length s) mtu k → piece_written_of out s mtu id k channel order reliable ≡ out
    go (refused m) i = sym (output_none s mtu id k channel order reliable out m i)
    go (gives m) i = sym (output_given s mtu id k channel order reliable out m i)
        ∙ frames.refused-writes-nothing Console out 0 (piece_frame m id k channel order reliable) (part_of s mtu k) number
        (answer_given s mtu id k channel order reliable out m i ∙ e)

-- ---- the writer's 15
module _ (room n mtu id k channel order reliable : ℕ) (ok : Splits n mtu) (there : k < count n mtu) where
  abbrev frame : Frame
  frame = frame_of n mtu id k channel order reliable

  answer_is : write_piece_of room n mtu id k channel order reliable ≡ write_frame_of Console room 0 frame (part_length n mtu k)
  unfolding write_piece_of on_split
  answer_is = rw (piece-given n mtu ok k there) refl

  -- the body, the count and the index are never over their limits
  in-limits : channel < max_ord_chans → order < numbers24 → reliable < numbers24
      → within_limits Console frame (part_length n mtu k) ≡ true
  unfolding within_limits fields_ok number_ok channel_ok meta_ok fields_of part_length if_true
  in-limits c o r =
      let (two, few) = count-in-range n mtu ok in
      rw (
        lt-ltb channel max_ord_chans c,
        lt-ltb order numbers24 o,
        lt-ltb reliable numbers24 r,
        le-leb (min (chunk mtu) (n - k * chunk mtu)) max_body (omega (arith, ok.most)),
        le-leb 1 (count n mtu) (omega arith),
        le-leb (count n mtu) max_frags few,
        lt-ltb k (count n mtu) there,
      ) refl

  -- the header, and the part
  pub piece-size : (m : ℕ) → size_of Console frame m ≡ piece_header + m
  unfolding size_of fields_of if_true
  piece-size m = refl

  -- A piece that is there, with its numbers below their limits, is written wherever the output has room for the header and the part.
  pub room-enough : channel < max_ord_chans → order < numbers24 → reliable < numbers24 → piece_header + part_length n mtu k ≤ room
      → write_piece_of room n mtu id k channel order reliable ≡ gives (piece_header + part_length n mtu k)
  unfolding write_frame_of
  room-enough c o r h =
      let size = piece-size (part_length n mtu k) in
      let whole : 0 + size_of Console frame (part_length n mtu k) ≡ piece_header + part_length n mtu k = omega (arith, size) in
      answer_is ∙ sym (has_room Console room 0 frame (part_length n mtu k) _ _ _ (in-limits c o r) (omega (arith, size)))
      ∙ ap gives whole

  abbrev pub Over : Type 0
  Over = (max_ord_chans ≤ channel) ⊎ (numbers24 ≤ order) ⊎ (numbers24 ≤ reliable)

  over : within_limits Console frame (part_length n mtu k) ≡ false → Over
  over e = go (dec_lt channel max_ord_chans) (dec_lt order numbers24) (dec_lt reliable numbers24)
    where
      go : Dec (channel < max_ord_chans) → Dec (order < numbers24) → Dec (reliable < numbers24) → Over
      go (no c) o r = inl (omega arith)
      go (yes c) (no o) r = inr (inl (omega arith))
      go (yes c) (yes o) (no r) = inr (inr (omega arith))
      go (yes c) (yes o) (yes r) = neither _ (in-limits c o r) e

  over-none : Over → within_limits Console frame (part_length n mtu k) ≡ true → ⊥
  over-none (inl c) e = omega (arith, (within Console frame (part_length n mtu k) e).channel.below)
  over-none (inr (inl o)) e = omega (arith, (within Console frame (part_length n mtu k) e).order.below)
  over-none (inr (inr r)) e = omega (arith, (within Console frame (part_length n mtu k) e).reliable.below)

  -- Where the split is not refused, 15 is given exactly where channel, order or reliable number is over its limit (`Over`).
  pub fifteen-exactly : (write_piece_of room n mtu id k channel order reliable ≡ refused 15) ↔ Over
  fifteen-exactly =
      let exactly = over-exactly Console room 0 frame (part_length n mtu k) in (
        λ e. over (exactly.0 (sym answer_is ∙ e)),
        λ h. answer_is ∙ exactly.1 (false_from_ne_true _ (over-none h)),
      )
