use mathlib.Core.Path.{◌∙◌, sym}
use native.Mathlib.Omega.{arith}
use Rattle.recv_take.proofs.Calls.{takeable, earliest_here}
use Rattle.recv_take.proofs.take_part.Goals as goal

pub take_turn-requires-clause-takeable : goal.take_turn-requires-clause-takeable
take_turn-requires-clause-takeable c = takeable _ _ _ (sym c.is_sound.ensures ∙ c.if-not-is_sound.false) _ (grind (arith, earliest_here))
