use native.Mathlib.Nat.{one-mul, mod-eq_of_lt}
use native.Mathlib.Omega.{arith}
use lib.Pow.{pow-lt}
use Rattle.window.proofs.Places.{turn-sets, turn-clears}
use Rattle.window.proofs.turn_place.Goals as goal

pub returns-then-at-bits-clause-sets : goal.returns-then-at-bits-clause-sets
returns-then-at-bits-clause-sets c =
    turn-sets _ _ _ c.place_byte-at.ensures _ (rw one-mul (mod-eq_of_lt (pow-lt {j = 8} (omega arith))))

pub returns-then-at-bits-clause-clears : goal.returns-then-at-bits-clause-clears
returns-then-at-bits-clause-clears c =
    turn-clears _ _ _ c.place_byte-at.ensures _ (rw one-mul (mod-eq_of_lt (pow-lt {j = 8} (omega arith))))
