-- What it means that a frame is within its limits, field by field.
-- Assumes nothing.
use mathlib.Core.Path.{◌≡◌, sym}
use mathlib.Core.Bool.{Bool, true, false, ◌&&◌}
use Prim.Native.Nat.{ℕ, ◌<◌, ◌≤◌}
use native.Mathlib.Omega.{arith}
use lib.Dec.{ltb, eqb}
use borrow.Author.Tests.{ltb-true, leb-true, eqb-true}
use Rattle.std.specs.Prelude.{Option, Some, None}
use Rattle.std.proofs.lemmas.Option.{none-some}
use Rattle.base.specs.If.{if_true}
use Rattle.base.specs.Limits.{numbers24, max_ord_chans, max_frags, max_body}
use Rattle.base.proofs.Choices.{and_left, and_right}
use Rattle.reliability.specs.Kinds.{fields_of, on_place}
use Rattle.reliability.specs.declared.Profile.{Profile}
use Rattle.frame.specs.declared.FragmentMeta.{FragmentMeta}
use Rattle.frame.specs.declared.Frame.{Frame}
use Rattle.frame.specs.Read.{max_kind}
use Rattle.frame_write.specs.Valid.{number_ok, channel_ok, fields_ok, meta_ok, within_limits}

-- ---- two tests that came out true
both : (a b : Bool) → (a && b) ≡ true → (a ≡ true) × (b ≡ true)
both a b e = (and_left a b e, and_right a b e)

-- ---- fields
-- a field below its limit, and 0 where the kind lacks it
pub record Carried (limit : ℕ) (off : Option ℕ) (x : ℕ) : Type 0 where
  pub below : x < limit
  pub lacks : off ≡ None → x ≡ 0

carried : (limit : ℕ) (off : Option ℕ) (x : ℕ) → 0 < limit → on_place off (eqb x 0) (λ _. ltb x limit) ≡ true → Carried limit off x
carried limit None x h e = let x0 : x ≡ 0 = eqb-true x 0 e in record { below = omega arith; lacks = λ _. x0 }
carried limit (Some n) x h e = record { below = ltb-true x limit e; lacks = λ z. absurd (none-some n (sym z)) }

-- count, id and index of a piece within their limits, or all 0
pub record MetaFits (piece : Bool) (m : FragmentMeta) : Type 0 where
  pub count : m.count ≤ max_frags
  pub index : m.index ≤ max_frags
  pub below : piece ≡ true → m.index < m.count
  pub lacks : piece ≡ false → (m.count ≡ 0) × (m.id ≡ 0) × (m.index ≡ 0)

meta-fits : (piece : Bool) (m : FragmentMeta) → meta_ok piece m ≡ true → MetaFits piece m
unfolding meta_ok if_true
meta-fits true m e =
    let a = both _ _ e in
    let c : m.index < m.count = ltb-true _ _ a.1 in
    let b : m.count ≤ max_frags = leb-true _ _ (both _ _ a.0).1 in
    record { count = b; index = omega arith; below = λ _. c; lacks = λ z. absurd cc }
meta-fits false m e =
    let a = both _ _ e in
    let b = both _ _ a.1 in
    let x : m.count ≡ 0 = eqb-true _ _ a.0 in
    let y : m.index ≡ 0 = eqb-true _ _ b.1 in
    record { count = omega arith; index = omega arith; below = λ z. absurd cc; lacks = λ _. (x, eqb-true _ _ b.0, y) }

-- ---- the whole frame, with a body of n bytes
pub record Within (p : Profile) (f : Frame) (n : ℕ) : Type 0 where
  pub kind : f.kind ≤ max_kind
  pub body : n ≤ max_body
  pub reliable : Carried numbers24 (fields_of p f.kind).reliable f.reliable
  pub sequence : Carried numbers24 (fields_of p f.kind).sequence f.sequence
  pub order : Carried numbers24 (fields_of p f.kind).order f.order
  pub channel : Carried max_ord_chans (fields_of p f.kind).channel f.channel
  pub meta : MetaFits f.piece f.meta

-- Where 15 is not due, every field is within its limit.
pub within : (p : Profile) (f : Frame) (n : ℕ) → within_limits p f n ≡ true → Within p f n
unfolding within_limits fields_ok number_ok channel_ok
within p f n e =
    let a = both _ _ e in
    let b = both _ _ a.0 in
    let c = both _ _ b.0 in
    let o = both _ _ b.1 in
    let s = both _ _ o.0 in
    let r = both _ _ s.0 in
    record {
      kind = leb-true _ _ c.0;
      body = leb-true _ _ c.1;
      reliable = carried _ _ _ (omega arith) r.0;
      sequence = carried _ _ _ (omega arith) r.1;
      order = carried _ _ _ (omega arith) s.1;
      channel = carried _ _ _ (omega arith) o.1;
      meta = meta-fits _ _ a.1;
    }
