-- A kind of 32 bits carries a reliable number as its byte does; one that is no byte is no kind, and carries none.
-- Assumes nothing.
use Prim.Native.Nat.{ℕ, ◌<◌}
use native.Mathlib.Omega.{arith}
use Rattle.std.specs.Prelude.{◌≡◌, Bool, false}
use mathlib.Core.Path.{sym, ◌∙◌}
use Rattle.bare.specs.Frame.{carries_reliable}
use Rattle.reliability.specs.Kinds.{has_reliable}
use Rattle.reliability.proofs.Laws.{none-from-8}

pub kind_carries : (k b : ℕ) {r : Bool} → b ≡ k → r ≡ has_reliable b → r ≡ carries_reliable k
unfolding carries_reliable
kind_carries k b e t = rw e at t

pub none_carried : (k : ℕ) {r : Bool} → (k < 256 → ⊥) → r ≡ false → r ≡ carries_reliable k
unfolding carries_reliable
none_carried k n t = t ∙ sym (none-from-8 k (omega (arith, n)))

pub ruleset carried = (kind_carries, none_carried)
