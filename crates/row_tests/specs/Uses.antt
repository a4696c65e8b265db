-- What a record is used for, as a test.
use Rattle.std.specs.Prelude.{ℕ, Bool, eqb}
use Rattle.cells.specs.Cell.{Cell}

abbrev pub uses : ℕ → Cell → Bool
uses u c = eqb c.used u
