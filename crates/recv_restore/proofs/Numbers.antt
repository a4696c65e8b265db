-- Numbers of 64 bits that are below 2^32.
-- Assumes nothing.
use Prim.Native.Nat.{ℕ, suc, ◌+◌, ◌*◌, ◌<◌}
use mathlib.Core.Path.{◌≡◌, refl, sym, ◌∙◌}
use mathlib.Core.Bool.{Bool, true, false}
use mathlib.Core.List.{List}
use native.Mathlib.Omega.{arith}
use lib.Dec.{ltb}
use borrow.Author.Tests.{lt-ltb, le-ltb}
use Rattle.base.specs.Bytes.{be32, be64}
use Rattle.base.specs.Lists.{below}
use Rattle.base.proofs.Choices.{cases}
use Rattle.base.proofs.Lists.{below_at}

module _ (s : List ℕ) (p : ℕ) where
  pub low_half : (n : ℕ) → n ≡ be32 s (p + 4) → be64 s p < 4294967296 → n ≡ be64 s p
  unfolding be64
  low_half n e lt = omega arith

  high-zero : be32 s (p + 4) < 4294967296 → (n : ℕ) → n ≡ be32 s p → n ≡ 0 → ltb (be64 s p) 4294967296 ≡ true
  unfolding be64
  high-zero h n e z = lt-ltb _ _ (omega arith)

  high-some : (n : ℕ) → n ≡ be32 s p → (n ≡ 0 → ⊥) → ltb (be64 s p) 4294967296 ≡ false
  unfolding be64
  high-some n e z = le-ltb _ _ (omega arith)

pub rank_is : (s : List ℕ) (p q unit a b : ℕ) → (be64 s p < 4294967296 → a ≡ be64 s p) → (be64 s q < 4294967296 → b ≡ be64 s q)
    → be64 s p < 4294967296 → be64 s q < 4294967296 → a * unit + b ≡ be64 s p * unit + be64 s q
rank_is s p q unit a b e f h k = rw (e h, f k) refl

-- each of n numbers
module _ (test : ℕ → Bool) where
  pub none-tested : below 0 test ≡ true
  unfolding below
  none-tested = refl

  pub more-tested : (i : ℕ) → below i test ≡ true → test i ≡ true → below (i + 1) test ≡ true
  unfolding below
  more-tested i a b = let e : i + 1 ≡ suc i = omega arith in rw (e, a, b)

  pub one-fails : (n i : ℕ) → i < n → test i ≡ false → false ≡ below n test
  one-fails n i lt f = cases (below n test)
      (λ t. absurd (let a = sym f ∙ below_at n test t i lt in no-false a))
      (λ t. sym t)
    where
      no-false : false ≡ true → ⊥
      no-false e = absurd (let z : ⊥ = cc in z)
