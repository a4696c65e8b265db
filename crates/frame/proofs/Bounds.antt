-- How large the values of a frame that was read can be.
-- Assumes nothing.
use mathlib.Core.Path.{◌≡◌}
use mathlib.Core.Bool.{Bool, true, false}
use mathlib.Core.List.{List}
use Prim.Native.Nat.{ℕ, ◌+◌, ◌^◌, ◌<◌, ◌≤◌}
use native.Mathlib.Omega.{arith}
use lib.ListN.{get_or}
use Rattle.base.specs.Answer.{gives}
use Rattle.base.specs.Bytes.{be16, be32, le24, Bytes}
use Rattle.base.specs.If.{if_true}
use Rattle.base.specs.Limits.{numbers24}
use Rattle.std.specs.Prelude.{Option, Some, None}
use Rattle.reliability.specs.Kinds.{fields_of, on_place}
use Rattle.reliability.specs.declared.Profile.{Profile}
use Rattle.reliability.specs.declared.Profile.TheVariants.{Console, Cpp}
use Rattle.frame.specs.declared.FragmentMeta.{FragmentMeta}
use Rattle.frame.specs.declared.Frame.{Frame}
use Rattle.frame.specs.declared.Placed.{Placed}
use Rattle.frame.specs.Read.{max_kind, kind_of, is_piece, number_at, meta_at, frame_at, body_length, longest_body, placed_at, read_frame_of}
use Rattle.frame.proofs.Reading.{read_whole}

-- ---- a number that was read

module _ (s : List ℕ) (by : Bytes s) (p : ℕ) where
  pub be16-small : be16 s p < 65536
  unfolding be16
  be16-small = omega (arith, by p, by (p + 1))

  pub le24-small : le24 s p < numbers24
  unfolding le24
  le24-small = omega (arith, by p, by (p + 1), by (p + 2))

pub be32-small : (s : List ℕ) → Bytes s → (p : ℕ) → be32 s p < 4294967296
unfolding be32
be32-small s by p = omega (arith, be16-small s by p, be16-small s by (p + 2))

-- ---- a frame that was read

pub record MetaSmall (m : FragmentMeta) : Type 0 where
  pub count : m.count < 2 ^ 32
  pub id : m.id < 2 ^ 16
  pub index : m.index < 2 ^ 32

pub record FrameSmall (f : Frame) : Type 0 where
  pub kind : f.kind ≤ max_kind
  pub reliable : f.reliable < numbers24
  pub sequence : f.sequence < numbers24
  pub order : f.order < numbers24
  pub channel : f.channel < 2 ^ 8
  pub meta : MetaSmall f.meta

field-small : (limit : ℕ) (off : Option ℕ) (f : ℕ → ℕ) → 0 < limit → ((n : ℕ) → f n < limit) → on_place off 0 f < limit
field-small limit None f z h = z
field-small limit (Some n) f z h = h n

module _ (s : List ℕ) (by : Bytes s) where
  meta-small : (b : Bool) (p : ℕ) → MetaSmall (meta_at b s p)
  unfolding if_true
  meta-small true p = record { count = be32-small s by p; id = be16-small s by (p + 4); index = be32-small s by (p + 6) }
  meta-small false p = record { count = omega arith; id = omega arith; index = omega arith }

  number_small : (at : ℕ) (off : Option ℕ) → number_at s at off < numbers24
  number_small at off = field-small numbers24 off _ (omega arith) (λ n. le24-small s by (at + n))

-- a body's bytes, under either profile
pub body-small : (p : Profile) (bits : ℕ) → bits < 65536 → body_length p bits ≤ longest_body
unfolding body_length
body-small Console bits h = omega arith
body-small Cpp bits h = omega arith

module _ (p : Profile) (s : List ℕ) (by : Bytes s) where
  frame_small : (at : ℕ) → FrameSmall (frame_at p s at)
  unfolding frame_at
  frame_small at =
      let k = fields_of p (kind_of (get_or s at 0)) in
      record {
        kind = omega (arith, by at);
        reliable = number_small s by at k.reliable;
        sequence = number_small s by at k.sequence;
        order = number_small s by at k.order;
        channel = field-small 256 k.channel _ (omega arith) (λ n. by (at + n));
        meta = meta-small s by (is_piece (get_or s at 0)) (at + k.header);
      }

  -- The header values of a frame read from bytes fit their bits, and its body is at most as long as 16 bits of length can say.
  pub read_small : (at : ℕ) (x : Placed) (next : ℕ) → read_frame_of p s at ≡ gives (x, next)
      → FrameSmall x.frame × (x.len ≤ longest_body)
  unfolding placed_at
  read_small at x next e =
      rw (read_whole p s at x next e).placed (frame_small at, body-small p (be16 s (at + 1)) (be16-small s by (at + 1)))
