-- Numbers and their bytes: the digits of a number make the number, and the other way round; a number read in the middle of a list is the
-- number read at the start of the list's rest.
-- Assumes nothing.
use mathlib.Core.Path.{◌≡◌, ◌∙◌, sym, ap}
use mathlib.Core.List.{List, ◌++◌}
use Prim.Native.Nat.{ℕ, ◌+◌, ◌*◌, ◌/◌, ◌%◌, ◌<◌}
use native.Mathlib.Nat.{add-zero, add_assoc}
use native.Mathlib.Omega.{arith}
use lib.ListN.{length, get_or}
use lib.Seq.{get_or-append-add}
use Rattle.base.specs.Bytes.{le24}
use Rattle.base.specs.Limits.{numbers24}

-- ---- from a number to its bytes and back
pub digits16 : (x : ℕ) → x < 65536 → x / 256 % 256 * 256 + x % 256 ≡ x
digits16 x h = omega arith

pub digits24 : (x : ℕ) → x < numbers24 → x % 256 + x / 256 % 256 * 256 + x / 65536 % 256 * 65536 ≡ x
digits24 x h = omega arith

pub digits32 : (x : ℕ) → x < 4294967296
    → (x / 65536 / 256 % 256 * 256 + x / 65536 % 256) * 65536 + (x / 256 % 256 * 256 + x % 256) ≡ x
digits32 x h = omega arith

-- ---- from bytes to a number and back
module _ (a b : ℕ) (ha : a < 256) (hb : b < 256) where
  pub d16-0 : (a * 256 + b) / 256 % 256 ≡ a
  d16-0 = omega arith

  pub d16-1 : (a * 256 + b) % 256 ≡ b
  d16-1 = omega arith

module _ (a b c : ℕ) (ha : a < 256) (hb : b < 256) (hc : c < 256) where
  pub d24-0 : (a + b * 256 + c * 65536) % 256 ≡ a
  d24-0 = omega arith

  pub d24-1 : (a + b * 256 + c * 65536) / 256 % 256 ≡ b
  d24-1 = omega arith

  pub d24-2 : (a + b * 256 + c * 65536) / 65536 % 256 ≡ c
  d24-2 = omega arith

module _ (a b c d : ℕ) (ha : a < 256) (hb : b < 256) (hc : c < 256) (hd : d < 256) where
  pub d32-0 : ((a * 256 + b) * 65536 + (c * 256 + d)) / 65536 / 256 % 256 ≡ a
  d32-0 = omega arith

  pub d32-1 : ((a * 256 + b) * 65536 + (c * 256 + d)) / 65536 % 256 ≡ b
  d32-1 = omega arith

  pub d32-2 : ((a * 256 + b) * 65536 + (c * 256 + d)) / 256 % 256 ≡ c
  d32-2 = omega arith

  pub d32-3 : ((a * 256 + b) * 65536 + (c * 256 + d)) % 256 ≡ d
  d32-3 = omega arith

-- ---- in the middle of a list
module _ (u r : List ℕ) where
  pub byte-shift : (p : ℕ) → get_or (u ++ r) (length u + p) 0 ≡ get_or r p 0
  byte-shift p = get_or-append-add u r p 0

  pub le24-shift : (p : ℕ) → le24 (u ++ r) (length u + p) ≡ le24 r p
  unfolding le24
  le24-shift p = simp (add_assoc, byte-shift)

  pub byte-first : get_or (u ++ r) (length u) 0 ≡ get_or r 0 0
  byte-first = ap (λ (n : ℕ). get_or (u ++ r) n 0) (sym (add-zero (length u))) ∙ byte-shift 0
