-- What it means that a frame was read: where it stands, and how far it reaches.
-- Assumes nothing.
use mathlib.Core.Path.{◌≡◌, ◌∙◌, sym, ap, refl}
use mathlib.Core.Bool.{Bool, true, false}
use mathlib.Core.List.{List}
use Prim.Native.Nat.{ℕ, ◌+◌, ◌%◌, ◌<◌, ◌≤◌}
use native.Mathlib.Decide.{dec_lt}
use native.Mathlib.Omega.{arith}
use lib.ListN.{get_or, length, drop, length-drop}
use lib.Seq.{length-take-le}
use Rattle.base.specs.Answer.{refused, gives}
use Rattle.base.specs.Bytes.{be16}
use Rattle.base.specs.If.{if_true}
use Rattle.base.proofs.Ifs.{lt_yes, lt_no}
use Rattle.reliability.specs.Kinds.{fields_of, Small}
use Rattle.reliability.specs.declared.Profile.{Profile}
use Rattle.reliability.proofs.Laws.{Inside, small, inside}
use Rattle.frame.specs.declared.Placed.{Placed}
use Rattle.frame.specs.Read.{kind_of, is_piece, header_size, body_length, ends_at, frame_at, placed_at, body_of, read_frame_of}

-- every place of a kind's row is small
row_small : (p : Profile) (k : ℕ) → Small (fields_of p k)
unfolding fields_of
row_small p k = small p (k % 8)

-- and each field lies in the header
pub row_inside : (p : Profile) (k : ℕ) → Inside (fields_of p k)
unfolding fields_of
row_inside p k = inside p (k % 8)

-- a header has at least the bytes of its kind's row
pub header-least : (piece : Bool) (n : ℕ) → n ≤ header_size piece n
unfolding if_true
header-least true n = omega arith
header-least false n = omega arith

module _ (p : Profile) (s : List ℕ) (at : ℕ) where
  pub start-after : at + 3 ≤ (placed_at p s at).start
  unfolding placed_at
  start-after =
      let k = kind_of (get_or s at 0) in
      omega (arith, header-least (is_piece (get_or s at 0)) (fields_of p k).header, (row_small p k).low)

  pub frame_is : (placed_at p s at).frame ≡ frame_at p s at
  unfolding placed_at
  frame_is = refl

  pub len_is : (placed_at p s at).len ≡ body_length p (be16 s (at + 1))
  unfolding placed_at
  len_is = refl

  -- the body starts where the header ends
  pub starts-at : (placed_at p s at).start
      ≡ at + header_size (placed_at p s at).frame.piece (fields_of p (placed_at p s at).frame.kind).header
  unfolding placed_at frame_at
  starts-at = refl

-- Where flags and length do not fit, no frame does.
pub read_past : (p : Profile) (s : List ℕ) (at : ℕ) → length s < at + 3 → read_frame_of p s at ≡ refused 1
unfolding read_frame_of
read_past p s at h = sym (lt_yes _ _ _ _ _ (omega (arith, start-after p s at)) refl)

-- what is known of a frame x that was read at a place, with `next` after it
pub record WholeAt (p : Profile) (s : List ℕ) (at : ℕ) (x : Placed) (next : ℕ) : Type 0 where
  pub placed : x ≡ placed_at p s at
  pub after : at + 3 ≤ x.start
  pub ends : next ≡ ends_at x
  pub fits : next ≤ length s

-- A frame that is given is the one at its place, and lies within the list.
pub read_whole : (p : Profile) (s : List ℕ) (at : ℕ) (x : Placed) (next : ℕ) → read_frame_of p s at ≡ gives (x, next)
    → WholeAt p s at x next
unfolding read_frame_of
read_whole p s at x next e = go (dec_lt (length s) (ends_at (placed_at p s at)))
  where
    given : Placed × ℕ
    given = (x, next)

    go : Dec (length s < ends_at (placed_at p s at)) → WholeAt p s at x next
    go (yes h) = let z : refused 1 ≡ gives given = lt_yes (length s) (ends_at (placed_at p s at)) _ _ _ h refl ∙ e in absurd cc
    go (no h) =
        let there : Placed × ℕ = (placed_at p s at, ends_at (placed_at p s at)) in
        let g : gives there ≡ gives given = lt_no (length s) (ends_at (placed_at p s at)) _ _ _ (omega arith) refl ∙ e in
        let same : given ≡ there = cc in
        let i : x ≡ placed_at p s at = ap (λ (v : Placed × ℕ). v.0) same in
        let j : next ≡ ends_at (placed_at p s at) = ap (λ (v : Placed × ℕ). v.1) same in
        record { placed = i; after = rw i (start-after p s at); ends = rw i j; fits = omega arith }

-- The body of a frame that is given is as long as the frame says.
pub body-long : (p : Profile) (s : List ℕ) (at : ℕ) (x : Placed) (next : ℕ) → read_frame_of p s at ≡ gives (x, next)
    → length (body_of s x) ≡ x.len
body-long p s at x next e =
    let w = read_whole p s at x next e in
    length-take-le x.len (drop x.start s) (simp length-drop (omega arith))

-- Where no frame is given, the answer is 1.
pub read-cut : (p : Profile) (s : List ℕ) (at n : ℕ) → read_frame_of p s at ≡ refused n → read_frame_of p s at ≡ refused 1
unfolding read_frame_of
read-cut p s at n e = go (dec_lt (length s) (ends_at (placed_at p s at)))
  where
    there : Placed × ℕ
    there = (placed_at p s at, ends_at (placed_at p s at))

    go : Dec (length s < ends_at (placed_at p s at)) → read_frame_of p s at ≡ refused 1
    go (yes h) = sym (lt_yes (length s) (ends_at (placed_at p s at)) _ _ _ h refl)
    go (no h) =
        let z : refused n ≡ gives there = sym e ∙ sym (lt_no (length s) (ends_at (placed_at p s at)) _ _ _ (omega arith) refl) in
        absurd cc
