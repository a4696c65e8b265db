-- Writing what was read gives the bytes back.
-- Assumes nothing.
use mathlib.Core.Path.{◌≡◌, ◌∙◌, sym, refl}
use mathlib.Core.Bool.{Bool, true, false}
use mathlib.Core.List.{List, [], ◌∷◌}
use Prim.Native.Nat.{ℕ, ◌+◌, ◌-◌, ◌*◌, ◌/◌, ◌%◌, ◌≤◌}
use native.Mathlib.Nat.{add_assoc, not-suc-le-zero}
use native.Mathlib.Decide.{ℕ_discrete}
use native.Mathlib.Omega.{arith}
use lib.Dec.{eqb}
use lib.ListN.{length, get_or, take, drop, length-take}
use lib.Seq.{get_or-take, get_or-drop}
use borrow.Author.Tests.{eq-eqb, ne_eqb}
use Rattle.std.specs.Prelude.{Option, Some, None}
use Rattle.base.specs.Answer.{gives}
use Rattle.base.specs.Bytes.{be16, be32, be16_bytes, be32_bytes, le24_bytes, Bytes}
use Rattle.base.specs.If.{if_true}
use Rattle.base.specs.Put.{put, and_then}
use Rattle.reliability.specs.Kinds.{fields_of, on_place}
use Rattle.reliability.specs.declared.KindFields.{KindFields}
use Rattle.reliability.specs.declared.Profile.{Profile}
use Rattle.reliability.specs.declared.Profile.TheVariants.{Console, Cpp}
use Rattle.frame.specs.declared.Frame.{Frame}
use Rattle.frame.specs.declared.Placed.{Placed}
use Rattle.frame.specs.Read.{kind_of, is_piece, number_at, channel_at, meta_at, header_size, frame_by, frame_at, body_length, body_of}
use Rattle.frame.specs.Read.{read_frame_of}
use Rattle.frame_write.specs.Write.{flags_of, start_bytes, number_bytes, channel_bytes, field_bytes, meta_bytes, header_bytes, frame_bytes}
use Rattle.frame_write.specs.Valid.{within_limits, size_of, write_frame_of, frame_written_of}
use Rattle.frame.proofs.Reading.{read_whole, frame_is, len_is, starts-at, body-long}
use Rattle.frame_write.proofs.Rows.{InOrder, row-in-order, number-wide, start-wide, fields-wide, header-wide, frame-wide}
use Rattle.frame_write.proofs.Stands.{Stands, stands-there, stands-both, stands_one, le24-again, be16-again, be32-again}
use Rattle.frame_write.proofs.WriteCases.{has_room}

-- ---- flags whose other bits are 0
flags-again : (flags : ℕ) → flags % 16 ≡ 0 → flags ≡ flags_of (kind_of flags) (is_piece flags)
unfolding flags_of if_true
flags-again flags z = go (ℕ_discrete (flags / 16 % 2) 1)
  where
    go : Dec (flags / 16 % 2 ≡ 1) → flags ≡ if_true (eqb (flags / 16 % 2) 1) (flags / 32 * 32 + 16) (flags / 32 * 32)
    go (yes e) = rw (eq-eqb (flags / 16 % 2) 1 e) (omega arith)
    go (no n) = rw (ne_eqb (flags / 16 % 2) 1 n) (omega arith)

-- ---- a field that the kind has, or lacks
none-stands : (s : List ℕ) (q : ℕ) → Stands s q []
none-stands s q = record { each = λ i h. absurd (not-suc-le-zero h) }

field-again : (s : List ℕ) (q : ℕ) (off : Option ℕ) (f : ℕ → ℕ) (bytes : ℕ → List ℕ)
    → ((n : ℕ) → off ≡ Some n → Stands s q (bytes (f n))) → Stands s q (on_place off [] (λ _. bytes (on_place off 0 f)))
field-again s q None f bytes h = none-stands s q
field-again s q (Some n) f bytes h = h n refl

module _ (s : List ℕ) (by : Bytes s) (at q : ℕ) (off : Option ℕ) (place : (n : ℕ) → off ≡ Some n → at + n ≡ q) where
  number-again : Stands s q (number_bytes off (number_at s at off))
  unfolding number_bytes
  number-again = field-again s q off _ le24_bytes (λ n i. rw (place n i) (le24-again s by q))

  channel-again : Stands s q (channel_bytes off (channel_at s at off))
  unfolding channel_bytes
  channel-again = field-again s q off _ (λ x. x ∷ []) (λ n i. rw (place n i) (stands_one s q (get_or s q 0) refl))

meta-again : (s : List ℕ) → Bytes s → (p : ℕ) (b : Bool) → Stands s p (meta_bytes b (meta_at b s p))
unfolding meta_bytes be32_bytes be16_bytes and_then if_true
meta-again s by p true =
    stands-both s p (be32_bytes (be32 s p)) (and_then (be16_bytes (be16 s (p + 4))) (be32_bytes (be32 s (p + 6)))) (be32-again s by p)
    (stands-both s (p + 4) (be16_bytes (be16 s (p + 4))) (be32_bytes (be32 s (p + 6))) (be16-again s by (p + 4))
    (rw add_assoc (be32-again s by (p + 6))))
meta-again s by p false = none-stands s p

-- ---- a length in whole bytes: there is no remainder to drop or to round up
no-remainder : (p : Profile) (bits : ℕ) → bits % 8 ≡ 0 → body_length p bits * 8 ≡ bits
unfolding body_length
no-remainder Console bits e = omega arith
no-remainder Cpp bits e = omega arith

-- ---- the header
module _ (p : Profile) (s : List ℕ) (by : Bytes s) (at : ℕ) where
  -- each number and the channel, at the place that the kind's row gives
  fields-again : (k : KindFields) → InOrder k → (flags : ℕ) → Stands s (at + 3) (field_bytes k (frame_by k flags s at))
  unfolding field_bytes
  fields-again k o flags =
      let nr : List ℕ = number_bytes k.reliable (number_at s at k.reliable) in
      let ns : List ℕ = number_bytes k.sequence (number_at s at k.sequence) in
      let no : List ℕ = number_bytes k.order (number_at s at k.order) in
      let ch : List ℕ = channel_bytes k.channel (channel_at s at k.channel) in
      let wr = number-wide k.reliable (number_at s at k.reliable) in
      let ws = number-wide k.sequence (number_at s at k.sequence) in
      let wo = number-wide k.order (number_at s at k.order) in
      stands-both s (at + 3) nr (and_then ns (and_then no ch))
      (number-again s by at (at + 3) k.reliable (λ n i. omega (arith, o.reliable n i)))
      (stands-both s (at + 3 + length nr) ns (and_then no ch)
      (number-again s by at (at + 3 + length nr) k.sequence (λ n i. omega (arith, o.sequence n i)))
      (stands-both s (at + 3 + length nr + length ns) no ch
      (number-again s by at (at + 3 + length nr + length ns) k.order (λ n i. omega (arith, o.order n i)))
      (channel-again s by at (at + 3 + length nr + length ns + length no) k.channel (λ n i. omega (arith, o.channel n i)))))

  module _ (bits : get_or s at 0 % 16 ≡ 0) (eights : be16 s (at + 1) % 8 ≡ 0) where
    start-again : Stands s at (start_bytes (frame_at p s at).kind (frame_at p s at).piece (body_length p (be16 s (at + 1))))
    unfolding start_bytes frame_at
    start-again =
        let e : body_length p (be16 s (at + 1)) * 8 ≡ be16 s (at + 1) = no-remainder p (be16 s (at + 1)) eights in
        stands-both s at (flags_of (kind_of (get_or s at 0)) (is_piece (get_or s at 0)) ∷ [])
        (be16_bytes (body_length p (be16 s (at + 1)) * 8))
        (stands_one s at _ (flags-again (get_or s at 0) bits)) (rw e (be16-again s by (at + 1)))

    header-again : Stands s at (header_bytes p (frame_at p s at) (body_length p (be16 s (at + 1))))
    unfolding header_bytes frame_at
    header-again =
        let flags : ℕ = get_or s at 0 in
        let k : KindFields = fields_of p (kind_of flags) in
        let f : Frame = frame_by k flags s at in
        let place : at + 3 + length (field_bytes k f) ≡ at + k.header = omega (arith, fields-wide k f (row-in-order p (kind_of flags))) in
        stands-both s at (start_bytes f.kind f.piece (body_length p (be16 s (at + 1))))
        (and_then (field_bytes k f) (meta_bytes f.piece f.meta))
        start-again
        (rw start-wide
        (stands-both s (at + 3) (field_bytes k f) (meta_bytes f.piece f.meta) (fields-again k (row-in-order p (kind_of flags)) flags)
        (rw place (meta-again s by (at + k.header) (is_piece flags)))))

-- ---- the whole frame
-- a part of a list stands where it was taken
part-stands : (s : List ℕ) (p n : ℕ) → Stands s p (take n (drop p s))
part-stands s p n =
    record {
      each =
          λ i h.
          let l : length (take n (drop p s)) ≤ n = simp length-take (omega arith) in
          sym (get_or-take n (drop p s) i 0 (omega arith) ∙ get_or-drop p s i 0);
    }

module _ (p : Profile) (s : List ℕ) (at : ℕ) (x : Placed) (next : ℕ) (e : read_frame_of p s at ≡ gives (x, next)) where
  start-read : x.start ≡ at + header_size x.frame.piece (fields_of p x.frame.kind).header
  start-read = rw (read_whole p s at x next e).placed (starts-at p s at)

  size-read : size_of p x.frame x.len ≡ next - at
  unfolding size_of
  size-read = let w = read_whole p s at x next e in omega (arith, start-read)

  module _ (by : Bytes s) (bits : get_or s at 0 % 16 ≡ 0) (eights : be16 s (at + 1) % 8 ≡ 0) where
    frame-stands : Stands s at (frame_bytes p x.frame (body_of s x))
    unfolding frame_bytes
    frame-stands =
        let w = read_whole p s at x next e in
        let l : length (body_of s x) ≡ x.len = body-long p s at x next e in
        let f : x.frame ≡ frame_at p s at = rw w.placed (frame_is p s at) in
        let n : x.len ≡ body_length p (be16 s (at + 1)) = rw w.placed (len_is p s at) in
        let place : at + length (header_bytes p x.frame x.len) ≡ x.start =
        omega (arith, header-wide p x.frame x.len, start-read) in
        stands-both s at (header_bytes p x.frame (length (body_of s x))) (body_of s x)
        (rw (l, f, n) (header-again p s by at bits eights))
        (rw (l, place) (part-stands s x.start x.len))

    bytes-again : frame_bytes p x.frame (body_of s x) ≡ take (next - at) (drop at s)
    bytes-again =
        let w = read_whole p s at x next e in
        let n : length (frame_bytes p x.frame (body_of s x)) ≡ next - at =
        frame-wide p x.frame (body_of s x) ∙ rw (body-long p s at x next e) size-read in
        sym (rw n at (stands-there s at (frame_bytes p x.frame (body_of s x)) frame-stands (omega arith)))

-- Reading then writing gives the bytes back, under either profile, at any place of any list of bytes: where a frame was read with every
-- field within its limit, the other flag bits 0 and the length a multiple of 8, its bytes as written are those that were read, from its
-- first byte to the next frame's; and so `write_frame` accepts it wherever an output has room for them, and writes them there.
pub read-then-write : (p : Profile) (s : List ℕ) → Bytes s → (at : ℕ) (x : Placed) (next : ℕ) → read_frame_of p s at ≡ gives (x, next)
    → within_limits p x.frame x.len ≡ true → get_or s at 0 % 16 ≡ 0 → be16 s (at + 1) % 8 ≡ 0
    → (frame_bytes p x.frame (body_of s x) ≡ take (next - at) (drop at s))
    × ((out : List ℕ) (to : ℕ) → to + (next - at) ≤ length out
    → (write_frame_of p (length out) to x.frame (length (body_of s x)) ≡ gives (to + (next - at)))
    × (frame_written_of p out to x.frame (body_of s x) ≡ put out to (take (next - at) (drop at s))))
unfolding write_frame_of frame_written_of
read-then-write p s by at x next e limits bits eights =
    let b : frame_bytes p x.frame (body_of s x) ≡ take (next - at) (drop at s) = bytes-again p s at x next e by bits eights in
    let n : length (body_of s x) ≡ x.len = body-long p s at x next e in
    let size : size_of p x.frame (length (body_of s x)) ≡ next - at = rw n (size-read p s at x next e) in (
      b,
      λ out to room.
          let l : within_limits p x.frame (length (body_of s x)) ≡ true = rw n limits in
          let r : to + size_of p x.frame (length (body_of s x)) ≤ length out = omega arith in (
            sym (has_room p (length out) to x.frame (length (body_of s x)) _ _ _ l r) ∙ rw size,
            sym (has_room p (length out) to x.frame (length (body_of s x)) _ _ _ l r) ∙ rw b,
          ),
    )
