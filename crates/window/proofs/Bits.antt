-- The laws of a byte's bits: a clear bit is set by adding its power of two, and a set one cleared by subtracting it. Either way it is
-- turned.
-- Assumes nothing.
use mathlib.Core.Path.{◌≡◌, ◌∙◌}
use Prim.Native.Nat.{ℕ, ◌+◌, ◌-◌, ◌%◌, ◌^◌, ◌<◌}
use native.Mathlib.Omega.{arith}
use lib.Bits.{bit_xor, xor_add_and}
use lib.Pow.{pow-lt}
use Rattle.std.proofs.lemmas.Nat.{xor_lt}
use Rattle.std.proofs.lemmas.Nat.Bits.{bit_at-lt, bit_at_xor, bit_at-pow_same, bit_at-pow_other, and_pow}
use Rattle.window.specs.Places.{bit}

module _ (b j : ℕ) where
  pub bit-small : bit b j < 2
  unfolding bit
  bit-small = bit_at-lt b j

  pub turn-set : bit b j ≡ 0 → bit_xor b (2 ^ j) ≡ b + 2 ^ j
  unfolding bit
  turn-set h = let e = and_pow b j in omega (arith, xor_add_and b (2 ^ j), rw h at e)

  pub turn-clear : bit b j ≡ 1 → bit_xor b (2 ^ j) ≡ b - 2 ^ j
  unfolding bit
  turn-clear h = let e = and_pow b j in omega (arith, xor_add_and b (2 ^ j), rw h at e)

  turned : bit (bit_xor b (2 ^ j)) j ≡ (bit b j + 1) % 2
  unfolding bit
  turned = bit_at_xor b (2 ^ j) j ∙ rw bit_at-pow_same

  pub bit-set : bit b j ≡ 0 → bit (b + 2 ^ j) j ≡ 1
  bit-set h = rw (← turn-set h, turned, h)

  pub bit-clear : bit b j ≡ 1 → bit (b - 2 ^ j) j ≡ 0
  bit-clear h = rw (← turn-clear h, turned, h)

-- the other bits stay
module _ (b i j : ℕ) (d : i ≡ j → ⊥) where
  turned-other : bit (bit_xor b (2 ^ j)) i ≡ bit b i
  unfolding bit
  turned-other = omega (arith, bit_at_xor b (2 ^ j) i, bit_at-pow_other j i d, bit_at-lt b i)

  pub bit-set-other : bit b j ≡ 0 → bit (b + 2 ^ j) i ≡ bit b i
  bit-set-other h = rw (← turn-set b j h, turned-other)

  pub bit-clear-other : bit b j ≡ 1 → bit (b - 2 ^ j) i ≡ bit b i
  bit-clear-other h = rw (← turn-clear b j h, turned-other)

-- a clear bit set leaves a number of k bits one of k bits
pub bit-fits : (k b j : ℕ) → b < 2 ^ k → j < k → bit b j ≡ 0 → b + 2 ^ j < 2 ^ k
bit-fits k b j p q h = rw (← turn-set b j h) (xor_lt k b (2 ^ j) p (pow-lt q))
