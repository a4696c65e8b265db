-- How many chunks of c bytes hold n bytes, and where the k-th starts.
-- Assumes nothing.
use mathlib.Core.Path.{◌≡◌}
use Prim.Native.Nat.{ℕ, suc, ◌+◌, ◌-◌, ◌*◌, ◌/◌, ◌<◌, ◌≤◌}
use native.Mathlib.Nat.{le-div_iff_mul-le, lt-div-mul-add, suc-mul}
use native.Mathlib.Decide.{dec_lt}
use native.Mathlib.Omega.{arith}
use Rattle.std.proofs.lemmas.Grind.{div_ceil_times}
use Rattle.std.specs.Int.{div_ceil}
use Rattle.split.specs.Split.{chunks_of}

-- std's way to round up
pub rounded-up : (n c : ℕ) → 0 < c → div_ceil n c ≡ chunks_of n c
unfolding chunks_of
rounded-up n c h = by (dec_lt (div_ceil n c) ((n + (c - 1)) / c))
  where
    by : Dec (div_ceil n c < (n + (c - 1)) / c) → div_ceil n c ≡ (n + (c - 1)) / c
    by (yes k) =
        let (low, high) = div_ceil_times n c h in
        let m : suc (div_ceil n c) * c ≤ n + (c - 1) = (le-div_iff_mul-le h).0 k in
        absurd (omega (arith, suc-mul (div_ceil n c) c))
    by (no k) =
        let (low, high) = div_ceil_times n c h in
        let m : div_ceil n c ≤ (n + (c - 1)) / c = (le-div_iff_mul-le h).1 (omega arith) in
        omega arith

module _ (n c : ℕ) (pos : 0 < c) where
  -- each chunk starts within the data
  pub start-within : (k : ℕ) → k < chunks_of n c → k * c < n
  unfolding chunks_of
  start-within k h =
      let m : suc k * c ≤ n + (c - 1) = (le-div_iff_mul-le pos).0 h in
      omega (arith, suc-mul k c)

  -- the chunks hold all of the data
  pub chunks-hold : n ≤ chunks_of n c * c
  unfolding chunks_of
  chunks-hold = omega (arith, lt-div-mul-add {a = n + (c - 1)} pos)

  -- data longer than one chunk makes two or more
  pub two-or-more : c < n → 2 ≤ chunks_of n c
  unfolding chunks_of
  two-or-more h = (le-div_iff_mul-le pos).1 (omega arith)
