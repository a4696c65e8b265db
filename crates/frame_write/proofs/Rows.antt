-- The fields of a header stand one after the other: each at the place that its kind's row gives.
-- Assumes nothing.
use mathlib.Core.Path.{◌≡◌, ◌∙◌, refl}
use mathlib.Core.Bool.{Bool, true, false}
use mathlib.Core.List.{List, [], ◌∷◌}
use Prim.Native.Nat.{ℕ, ◌+◌, ◌%◌}
use native.Mathlib.Omega.{arith}
use lib.ListN.{length, length-append}
use Rattle.std.specs.Prelude.{Option, Some, None}
use Rattle.std.proofs.lemmas.Option.{none-some}
use Rattle.base.specs.Bytes.{be16_bytes, be32_bytes, le24_bytes}
use Rattle.base.specs.If.{if_true}
use Rattle.base.specs.Put.{and_then}
use Rattle.reliability.specs.Kinds.{when, place_when, on_place, has_reliable, has_sequence, has_order}
use Rattle.reliability.specs.Kinds.{after_reliable, after_sequence, row_of, fields_of}
use Rattle.reliability.specs.declared.KindFields.{KindFields}
use Rattle.reliability.specs.declared.Profile.{Profile}
use Rattle.frame.specs.declared.FragmentMeta.{FragmentMeta}
use Rattle.frame.specs.declared.Frame.{Frame}
use Rattle.frame.specs.Read.{header_size}
use Rattle.frame_write.specs.Write.{start_bytes, number_bytes, channel_bytes, field_bytes, meta_bytes, header_bytes, frame_bytes}
use Rattle.frame_write.specs.Valid.{size_of}

-- the bytes that a field of w bytes takes in a header whose row has it at place off
unfoldable pub wide : Option ℕ → ℕ → ℕ
wide off w = on_place off 0 (λ _. w)

-- a field that is there stands where the one before it ends, and the header ends with the last
pub record InOrder (k : KindFields) : Type 0 where
  pub reliable : (n : ℕ) → k.reliable ≡ Some n → n ≡ 3
  pub sequence : (n : ℕ) → k.sequence ≡ Some n → n ≡ 3 + wide k.reliable 3
  pub order : (n : ℕ) → k.order ≡ Some n → n ≡ 3 + wide k.reliable 3 + wide k.sequence 3
  pub channel : (n : ℕ) → k.channel ≡ Some n → n ≡ 3 + wide k.reliable 3 + wide k.sequence 3 + wide k.order 3
  pub header : k.header ≡ 3 + wide k.reliable 3 + wide k.sequence 3 + wide k.order 3 + wide k.channel 1

there : (b : Bool) (p n : ℕ) → place_when b p ≡ Some n → n ≡ p
there true p n e = cc
there false p n e = absurd (none-some n e)

-- the channel is there with the order number, behind it
behind : (b : Bool) (p n : ℕ) → place_when b (p + 3) ≡ Some n → n ≡ p + when b 3
behind true p n e = cc
behind false p n e = absurd (none-some n e)

wide-when : (b : Bool) (p w : ℕ) → wide (place_when b p) w ≡ when b w
unfolding wide
wide-when true p w = refl
wide-when false p w = refl

when-sum : (b : Bool) → when b 4 ≡ when b 3 + when b 1
when-sum true = refl
when-sum false = refl

in_order : (p : Profile) (k : ℕ) → InOrder (row_of p k)
in_order p k =
    let r : wide (row_of p k).reliable 3 ≡ when (has_reliable k) 3 = wide-when (has_reliable k) 3 3 in
    let s : wide (row_of p k).sequence 3 ≡ when (has_sequence k) 3 = wide-when (has_sequence k) (after_reliable k) 3 in
    let o : wide (row_of p k).order 3 ≡ when (has_order p k) 3 = wide-when (has_order p k) (after_sequence k) 3 in
    let c : wide (row_of p k).channel 1 ≡ when (has_order p k) 1 = wide-when (has_order p k) (after_sequence k + 3) 1 in
    record {
      reliable = there (has_reliable k) 3;
      sequence = λ n i. there (has_sequence k) (after_reliable k) n i ∙ rw r;
      order = λ n i. there (has_order p k) (after_sequence k) n i ∙ rw (r, s);
      channel = λ n i. behind (has_order p k) (after_sequence k) n i ∙ rw (r, s, o);
      header = omega (arith, when-sum (has_order p k));
    }

-- The fields of every kind stand in order, under either profile.
pub row-in-order : (p : Profile) (k : ℕ) → InOrder (fields_of p k)
unfolding fields_of
row-in-order p k = in_order p (k % 8)

-- ---- how many bytes each part of a frame takes
field-wide : (off : Option ℕ) (w : ℕ) (xs : List ℕ) → length xs ≡ w → length (on_place off [] (λ _. xs)) ≡ wide off w
unfolding wide
field-wide None w xs h = refl
field-wide (Some n) w xs h = h

module _ (off : Option ℕ) (x : ℕ) where
  pub number-wide : length (number_bytes off x) ≡ wide off 3
  unfolding number_bytes le24_bytes
  number-wide = field-wide off 3 (le24_bytes x) refl

  pub channel-wide : length (channel_bytes off x) ≡ wide off 1
  unfolding channel_bytes
  channel-wide = field-wide off 1 (x ∷ []) refl

pub start-wide : (kind : ℕ) (piece : Bool) (n : ℕ) → length (start_bytes kind piece n) ≡ 3
unfolding start_bytes be16_bytes and_then
start-wide kind piece n = refl

meta-wide : (b : Bool) (m : FragmentMeta) (n : ℕ) → n + length (meta_bytes b m) ≡ header_size b n
unfolding meta_bytes be32_bytes be16_bytes and_then if_true
meta-wide true m n = refl
meta-wide false m n = omega arith

pub fields-wide : (k : KindFields) (f : Frame) → InOrder k → 3 + length (field_bytes k f) ≡ k.header
unfolding field_bytes and_then
fields-wide k f o = simp (length-append, number-wide, channel-wide) (omega (arith, o.header))

pub header-wide : (p : Profile) (f : Frame) (n : ℕ) → length (header_bytes p f n) ≡ header_size f.piece (fields_of p f.kind).header
unfolding header_bytes and_then
header-wide p f n =
    let a = start-wide f.kind f.piece n in
    let b = fields-wide (fields_of p f.kind) f (row-in-order p f.kind) in
    let c = meta-wide f.piece f.meta (fields_of p f.kind).header in
    simp length-append (omega (arith, a, b, c))

-- A frame's bytes are as many as its size says.
pub frame-wide : (p : Profile) (f : Frame) (body : List ℕ) → length (frame_bytes p f body) ≡ size_of p f (length body)
unfolding frame_bytes size_of and_then
frame-wide p f body = simp (length-append, header-wide)
