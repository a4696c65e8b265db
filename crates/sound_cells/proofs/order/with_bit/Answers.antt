use native.Mathlib.Nat.{one-mul, mod-eq_of_lt}
use lib.Pow.{pow-lt}
use borrow.Author.Rules.{rules}
use Rattle.sound_cells.proofs.Seen.{or-bit}
use Rattle.sound_cells.proofs.order.with_bit.Goals as goal

pub returns : goal.returns
returns c = or-bit _ _ (rw (one-mul, c.from.ensures) (mod-eq_of_lt (pow-lt {j = 64} (search rules))))
