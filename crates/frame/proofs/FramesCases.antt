-- The turns of the loop of `read_frames`, each with the facts as the code finds them.
-- Assumes nothing.
use mathlib.Core.Path.{◌≡◌, ◌∙◌, ap, refl}
use mathlib.Core.List.{List}
use Prim.Native.Nat.{ℕ, ◌+◌, ◌-◌, ◌<◌, ◌≤◌}
use native.Mathlib.Omega.{arith}
use lib.ListN.{length}
use Rattle.std.specs.Prelude.{Option, Some, None}
use Rattle.reliability.specs.declared.Profile.{Profile}
use Rattle.frame.specs.declared.FramesRead.{FramesRead}
use Rattle.frame.specs.declared.Span.{Span}
use Rattle.frame.specs.Read.{placed_at, span_of}
use Rattle.frame.specs.Frames.{frames_of, end_of, read_frames_of}
use Rattle.frame.proofs.FramesOf.{frames-more, end_more, frames-cut, end-cut}
use Rattle.frame.proofs.ReadCases.{none-spanned, one-spanned}

-- `count` frames were passed on the way from `at` to `place`
pub record Passed (p : Profile) (s : List ℕ) (at place count : ℕ) : Type 0 where
  pub behind : count ≤ place
  pub few : count ≤ length s
  pub frames : length (frames_of p s at) ≡ count + length (frames_of p s place)
  pub end : end_of p s at ≡ end_of p s place

pub passed_none : (p : Profile) (s : List ℕ) (at : ℕ) → Passed p s at at 0
passed_none p s at = record { behind = omega arith; few = omega arith; frames = omega arith; end = refl }

module _ (p : Profile) (s : List ℕ) (at place count : ℕ) (r : Option Span) (e : r ≡ span_of p s place) where
  -- the first frame that does not fit: that many frames, and the bytes from it on are left
  pub passed-all : r ≡ None → Passed p s at place count → (left : ℕ) → left ≡ length s - place
      → ◌≡◌ {A = FramesRead} (record { count = count; left = left }) (read_frames_of p s at)
  unfolding read_frames_of
  passed-all i a left l =
      let c = none-spanned p s place r e i in
      let n : count ≡ length (frames_of p s at) = omega (arith, ap length (frames-cut p s place 1 c), a.frames) in
      let f : left ≡ length s - end_of p s at = l ∙ rw (a.end, end-cut p s place 1 c) in
      λ j. record { count = n j; left = f j }

  module _ (x : Span) (i : r ≡ Some x) where
    pub passed-more : Passed p s at place count → Passed p s at x.next (count + 1)
    passed-more a =
        let w = one-spanned p s place r e x i in
        record {
          behind = omega arith;
          few = omega arith;
          frames = omega (arith, ap length (frames-more p s place (placed_at p s place) x.next w.gives));
          end = a.end ∙ end_more p s place (placed_at p s place) x.next w.gives;
        }

    pub passed-less : length s - x.next < length s - place
    passed-less = let w = one-spanned p s place r e x i in omega arith
