-- Reading what was written gives the frame back.
-- Assumes nothing.
use mathlib.Core.Path.{◌≡◌, ◌∙◌, sym, refl}
use mathlib.Core.Bool.{Bool, true, false}
use mathlib.Core.List.{List, [], ◌∷◌}
use Prim.Native.Nat.{ℕ, ◌+◌, ◌*◌, ◌/◌, ◌%◌, ◌<◌, ◌≤◌}
use native.Mathlib.Nat.{add_assoc}
use native.Mathlib.Decide.{dec_lt}
use native.Mathlib.Omega.{arith}
use lib.ListN.{length, get_or}
use borrow.Author.Tests.{eq-eqb, ne_eqb}
use Rattle.std.specs.Prelude.{Option, Some, None}
use Rattle.std.proofs.lemmas.Option.{none-some}
use Rattle.base.specs.Answer.{refused, gives}
use Rattle.base.specs.Bytes.{be16, be16_bytes, be32_bytes, le24_bytes}
use Rattle.base.specs.If.{if_true}
use Rattle.base.specs.Limits.{numbers16, numbers24, max_ord_chans}
use Rattle.base.specs.Put.{put, and_then}
use Rattle.base.proofs.Ifs.{lt_no}
use Rattle.base.proofs.Puts.{length-put}
use Rattle.reliability.specs.Kinds.{fields_of, on_place}
use Rattle.reliability.specs.declared.KindFields.{KindFields}
use Rattle.reliability.specs.declared.Profile.{Profile}
use Rattle.reliability.specs.declared.Profile.TheVariants.{Console, Cpp}
use Rattle.frame.specs.declared.FragmentMeta.{FragmentMeta}
use Rattle.frame.specs.declared.Frame.{Frame}
use Rattle.frame.specs.declared.Placed.{Placed}
use Rattle.frame.specs.Read.{kind_of, is_piece, number_at, channel_at, meta_at, header_size, frame_at, body_length, placed_at, body_of}
use Rattle.frame.specs.Read.{read_frame_of}
use Rattle.frame_write.specs.Write.{flags_of, start_bytes, number_bytes, channel_bytes, field_bytes, meta_bytes, header_bytes, frame_bytes}
use Rattle.frame_write.specs.Valid.{within_limits, size_of, write_frame_of, frame_written_of}
use Rattle.frame_write.proofs.WriteCases.{over-limit, no_room, has_room}
use Rattle.frame_write.proofs.Limits.{Carried, MetaFits, Within, within}
use Rattle.frame_write.proofs.Rows.{InOrder, row-in-order, number-wide, start-wide, fields-wide, header-wide, frame-wide}
use Rattle.frame_write.proofs.Stands.{Stands, put-stands, stands-there, stands-first, stands-next, one-stands, le24-stands}
use Rattle.frame_write.proofs.Stands.{be16-stands, be32-stands}

-- ---- flags
module _ (k : ℕ) where
  kind-back : (b : Bool) → kind_of (flags_of k b) ≡ k
  unfolding flags_of if_true
  kind-back true = omega arith
  kind-back false = omega arith

  piece_back : (b : Bool) → is_piece (flags_of k b) ≡ b
  unfolding flags_of if_true
  piece_back true = eq-eqb ((k * 32 + 16) / 16 % 2) 1 (omega arith)
  piece_back false = ne_eqb (k * 32 / 16 % 2) 1 (λ e. omega arith)

-- ---- a field that the kind has, or lacks
field_back : (off : Option ℕ) (f : ℕ → ℕ) (x : ℕ) → (off ≡ None → x ≡ 0) → ((n : ℕ) → off ≡ Some n → f n ≡ x) → on_place off 0 f ≡ x
field_back None f x l h = sym (l refl)
field_back (Some n) f x l h = h n refl

field-there : (s : List ℕ) (q : ℕ) (off : Option ℕ) (xs : List ℕ) → Stands s q (on_place off [] (λ _. xs)) → (n : ℕ) → off ≡ Some n
    → Stands s q xs
field-there s q None xs a n i = absurd (none-some n i)
field-there s q (Some m) xs a n i = a

module _ (s : List ℕ) (at q : ℕ) (off : Option ℕ) (x : ℕ) (place : (n : ℕ) → off ≡ Some n → at + n ≡ q) where
  number-back : Carried numbers24 off x → Stands s q (number_bytes off x) → number_at s at off ≡ x
  unfolding number_bytes
  number-back c a =
      field_back off _ x c.lacks
      (λ n i. rw (place n i) (le24-stands s q x c.below (field-there s q off (le24_bytes x) a n i)))

  channel-back : Carried max_ord_chans off x → Stands s q (channel_bytes off x) → channel_at s at off ≡ x
  unfolding channel_bytes
  channel-back c a =
      field_back off _ x c.lacks (λ n i. rw (place n i) (one-stands s q x (field-there s q off (x ∷ []) a n i)))

-- ---- count, id and index
meta-eq : (l m : FragmentMeta) → l.count ≡ m.count → l.id ≡ m.id → l.index ≡ m.index → l ≡ m
meta-eq l m a b c = λ j. record { count = a j; id = b j; index = c j }

meta-back : (s : List ℕ) (p : ℕ) (b : Bool) (m : FragmentMeta) → MetaFits b m → m.id < numbers16 → Stands s p (meta_bytes b m) → meta_at b s p
    ≡ m
unfolding meta_bytes be32_bytes be16_bytes and_then if_true
meta-back s p true m w d a =
    let rest : Stands s (p + 4) (and_then (be16_bytes m.id) (be32_bytes m.index)) = stands-next s p (be32_bytes m.count) _ a in
    let last : Stands s (p + 6) (be32_bytes m.index) = rw add_assoc at (stands-next s (p + 4) (be16_bytes m.id) (be32_bytes m.index)
    rest) in
    meta-eq _ m
    (be32-stands s p m.count (omega arith) (stands-first s p (be32_bytes m.count) _ a))
    (be16-stands s (p + 4) m.id (stands-first s (p + 4) (be16_bytes m.id) _ rest) ∙ omega arith)
    (be32-stands s (p + 6) m.index (omega arith) last)
meta-back s p false m w d a = let z = w.lacks refl in meta-eq _ m (sym z.0) (sym z.1) (sym z.2)

-- ---- the body's length: whole bytes, whichever way a remainder goes
whole-bytes : (p : Profile) (n bits : ℕ) → bits ≡ n * 8 → body_length p bits ≡ n
unfolding body_length
whole-bytes Console n bits e = omega arith
whole-bytes Cpp n bits e = omega arith

-- ---- the header
-- the frame of a header and a body of n bytes, as it is read at a place
abbrev pub placed_of : Profile → ℕ → Frame → ℕ → Placed
placed_of p at f n = record { frame = f; start = at + header_size f.piece (fields_of p f.kind).header; len = n }

frame-eq : (f g : Frame) → f.kind ≡ g.kind → f.reliable ≡ g.reliable → f.sequence ≡ g.sequence → f.order ≡ g.order
    → f.channel ≡ g.channel → f.piece ≡ g.piece → f.meta ≡ g.meta → f ≡ g
frame-eq f g k r s o c p m = λ j. record { kind = k j; reliable = r j; sequence = s j; order = o j; channel = c j; piece = p j; meta = m j }

module _ (p : Profile) (s : List ℕ) (at : ℕ) (f : Frame) (n : ℕ) (w : Within p f n) (a : Stands s at (header_bytes p f n)) where
  start : Stands s at (start_bytes f.kind f.piece n)
  unfolding header_bytes
  start = stands-first s at (start_bytes f.kind f.piece n) _ a

  after-start : Stands s (at + 3) (and_then (field_bytes (fields_of p f.kind) f) (meta_bytes f.piece f.meta))
  unfolding header_bytes
  after-start = rw start-wide at (stands-next s at (start_bytes f.kind f.piece n) _ a)

  flags-back : get_or s at 0 ≡ flags_of f.kind f.piece
  unfolding start_bytes
  flags-back = one-stands s at _ (stands-first s at (flags_of f.kind f.piece ∷ []) (be16_bytes (n * 8)) start)

  len-back : body_length p (be16 s (at + 1)) ≡ n
  unfolding start_bytes
  len-back =
      let b : be16 s (at + 1) ≡ n * 8 % 65536 =
      be16-stands s (at + 1) (n * 8) (stands-next s at (flags_of f.kind f.piece ∷ []) (be16_bytes (n * 8)) start) in
      whole-bytes p n (be16 s (at + 1)) (omega (arith, w.body))

  -- each number and the channel, at the place that the kind's row gives
  numbers-back : (k : KindFields) → InOrder k → Carried numbers24 k.reliable f.reliable → Carried numbers24 k.sequence
      f.sequence
      → Carried numbers24 k.order f.order → Carried max_ord_chans k.channel f.channel → Stands s (at + 3) (field_bytes k f)
      → (number_at s at k.reliable ≡ f.reliable) × (number_at s at k.sequence ≡ f.sequence) × (number_at s at k.order ≡ f.order)
      × (channel_at s at k.channel ≡ f.channel)
  unfolding field_bytes
  numbers-back k o r s' o' c b =
      let nr : List ℕ = number_bytes k.reliable f.reliable in
      let ns : List ℕ = number_bytes k.sequence f.sequence in
      let no : List ℕ = number_bytes k.order f.order in
      let ch : List ℕ = channel_bytes k.channel f.channel in
      let wr = number-wide k.reliable f.reliable in
      let ws = number-wide k.sequence f.sequence in
      let wo = number-wide k.order f.order in
      let b2 = stands-next s (at + 3) nr (and_then ns (and_then no ch)) b in
      let b3 = stands-next s (at + 3 + length nr) ns (and_then no ch) b2 in
      let b4 = stands-next s (at + 3 + length nr + length ns) no ch b3 in (
        number-back s at (at + 3) k.reliable f.reliable (λ n i. omega (arith, o.reliable n i)) r (stands-first s (at + 3) nr _ b),
        number-back s at (at + 3 + length nr) k.sequence f.sequence (λ n i. omega (arith, o.sequence n i)) s' (stands-first s _ ns _ b2),
        number-back s at (at + 3 + length nr + length ns) k.order f.order (λ n i. omega (arith, o.order n i)) o'
            (stands-first s _ no _ b3),
        channel-back s at (at + 3 + length nr + length ns + length no) k.channel f.channel (λ n i. omega (arith, o.channel n i)) c b4,
      )

  header-back : f.meta.id < numbers16 → frame_at p s at ≡ f
  unfolding frame_at
  header-back d =
      let k : KindFields = fields_of p f.kind in
      let fields = field_bytes k f in
      let b = numbers-back k (row-in-order p f.kind) w.reliable w.sequence w.order w.channel
      (stands-first s (at + 3) fields _ after-start) in
      let place : at + 3 + length fields ≡ at + k.header = omega (arith, fields-wide k f (row-in-order p f.kind)) in
      let m : Stands s (at + k.header) (meta_bytes f.piece f.meta) = rw place at (stands-next s (at + 3) fields _ after-start) in
      rw (flags-back, kind-back, piece_back)
      (frame-eq _ f refl b.0 b.1 b.2 b.3 refl (meta-back s (at + k.header) f.piece f.meta w.meta d m))

  placed-back : f.meta.id < numbers16 → placed_at p s at ≡ placed_of p at f n
  unfolding placed_at
  placed-back d = rw (flags-back, kind-back, piece_back, header-back d, len-back)

-- ---- a frame whose bytes stand in a list
module _ (p : Profile) (s : List ℕ) (at : ℕ) (f : Frame) (body : List ℕ) (there : Stands s at (frame_bytes p f body))
    (fits : at + size_of p f (length body) ≤ length s) where
  -- where it is within its limits, it is read at that place
  pub stands-read : within_limits p f (length body) ≡ true → f.meta.id < numbers16
      → read_frame_of p s at ≡ gives (placed_of p at f (length body), at + size_of p f (length body))
  unfolding read_frame_of frame_bytes size_of
  stands-read e d =
      let x : placed_at p s at ≡ placed_of p at f (length body) =
      placed-back p s at f (length body) (within p f (length body) e) (stands-first s at (header_bytes p f (length body)) body there) d in
      sym (lt_no _ _ _ _ _ (rw x (omega arith)) (rw x (rw add_assoc)))

  -- and its body is the one that stands there
  pub stands-body : body_of s (placed_of p at f (length body)) ≡ body
  unfolding frame_bytes size_of
  stands-body =
      let b = stands-next s at (header_bytes p f (length body)) body there in
      stands-there s _ body (rw header-wide at b) (omega arith)

-- ---- what it means that `write_frame` accepts a frame
pub record Accepted (p : Profile) (out : List ℕ) (at : ℕ) (f : Frame) (body : List ℕ) (next : ℕ) : Type 0 where
  pub limits : within_limits p f (length body) ≡ true
  pub room : at + size_of p f (length body) ≤ length out
  pub place : next ≡ at + size_of p f (length body)
  pub written : frame_written_of p out at f body ≡ put out at (frame_bytes p f body)

-- Where the answer is a place, the frame is within its limits and has room, and its bytes are in the output.
pub accepted : (p : Profile) (out : List ℕ) (at : ℕ) (f : Frame) (body : List ℕ) (next : ℕ)
    → write_frame_of p (length out) at f (length body) ≡ gives next → Accepted p out at f body next
unfolding write_frame_of frame_written_of
accepted p out at f body next e = go (within_limits p f (length body)) refl (dec_lt (length out) (at + size_of p f (length body)))
  where
    go : (t : Bool) → within_limits p f (length body) ≡ t → Dec (length out < at + size_of p f (length body))
        → Accepted p out at f body next
    go false i r = let z : refused 15 ≡ gives next = over-limit p (length out) at f (length body) _ _ _ i ∙ e in absurd cc
    go true i (yes r) = let z : refused 12 ≡ gives next = no_room p (length out) at f (length body) _ _ _ i r ∙ e in absurd cc
    go true i (no r) =
        let g : gives (at + size_of p f (length body)) ≡ gives next = has_room p (length out) at f (length body) _ _ _ i (omega arith)
        ∙ e in
        record {
          limits = i;
          room = omega arith;
          place = cc;
          written = sym (has_room p (length out) at f (length body) _ _ _ i (omega arith));
        }

-- Writing then reading gives the frame back, under either profile: at any place of any output, what `write_frame` wrote is read there as
-- a frame with the same header values, whose body is the body, and the place after it is the one that the writer returned. (An id is a u16
-- in the code.)
pub write-then-read : (p : Profile) (out : List ℕ) (at : ℕ) (f : Frame) (body : List ℕ) (next : ℕ) → f.meta.id < numbers16
    → write_frame_of p (length out) at f (length body) ≡ gives next
    → (read_frame_of p (frame_written_of p out at f body) at ≡ gives (placed_of p at f (length body), next))
    × (body_of (frame_written_of p out at f body) (placed_of p at f (length body)) ≡ body)
write-then-read p out at f body next d e =
    let a = accepted p out at f body next e in
    let s : List ℕ = put out at (frame_bytes p f body) in
    let there : Stands s at (frame_bytes p f body) = put-stands out at (frame_bytes p f body) (rw frame-wide a.room) in
    let fits : at + size_of p f (length body) ≤ length s = rw length-put a.room in
    rw (a.written, a.place) (stands-read p s at f body there fits a.limits d, stands-body p s at f body there fits)
