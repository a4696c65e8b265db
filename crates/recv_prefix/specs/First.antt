-- The records after the first ones, which a call does not look at: all unused.
use Rattle.std.specs.Prelude.{Bool, eqb}
use Rattle.cells.specs.Cell.{Cell, unused_use}

-- used is 0: the record of an unused cell
unfoldable pub is_unused : Cell → Bool
is_unused c = eqb c.used unused_use
