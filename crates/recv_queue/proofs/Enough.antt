-- How many records a take and a drop work on.
-- Assumes nothing.
use mathlib.Core.Path.{◌≡◌, refl}
use Prim.Native.Nat.{ℕ, ◌≤◌, max}
use native.Mathlib.Omega.{arith}
use mathlib.Core.Bool.{Bool, true, false}
use mathlib.Core.List.{List}
use lib.ListN.{length}
use Rattle.base.specs.Limits.{max_cells}
use Rattle.base.proofs.Ifs.{by-yes, by-no}
use Rattle.base.proofs.IfCases.{lt_both}
use Rattle.cells.specs.Cell.{Cell}
use Rattle.cells.specs.Sound.{lengths}
use Rattle.recv_prefix.specs.Needs.{last_used, take_needs}
use Rattle.recv_prefix.proofs.Used.{last_within}
use Rattle.recv_prefix.proofs.Needs.{take-few}

-- k records are enough
abbrev pub Enough : List Cell → List ℕ → ℕ → Type 0
Enough rs st k = k ≡ take_needs (last_used rs) (length rs) (length st)

-- `needed`, where the lengths fit, and where they do not
module _ (rs : List Cell) (st : List ℕ) (fit : Bool) (is : fit ≡ lengths (length rs) (length st)) where
  pub enough_fit : fit ≡ true → (u k : ℕ) → u ≡ last_used rs → k ≡ max u 1 → Enough rs st k
  unfolding take_needs
  enough_fit t u k used h = by-yes _ fit _ _ _ is t
      (lt_both (λ (n : ℕ). k ≡ n) 1 (last_used rs) (last_used rs) 1 (λ l. omega arith) (λ l. omega arith))

  pub enough_none : fit ≡ false → Enough rs st 0
  unfolding take_needs
  enough_none t = by-no _ fit _ _ _ is t refl

-- they are there, and no more than a receiver may have
module _ (rs : List Cell) (n : ℕ) where
  few : (take_needs (last_used rs) (length rs) n ≤ length rs) × (take_needs (last_used rs) (length rs) n ≤ max_cells)
  few = take-few (last_used rs) (length rs) n (take_needs (last_used rs) (length rs) n) refl (last_within rs)

  pub needs_within : take_needs (last_used rs) (length rs) n ≤ length rs
  needs_within = few.0

  pub needs_few : take_needs (last_used rs) (length rs) n ≤ max_cells
  needs_few = few.1
