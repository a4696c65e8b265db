-- The unused record.
use Rattle.cells.specs.Cell.{Cell}

-- An unused record is the all-zero record; it stands for what lies past the end of a list, too.
abbrev pub blank : Cell
blank = record { used = 0; kind = 0; channel = 0; id = 0; index = 0; count = 0; length = 0; sequence = 0; order = 0; turn = 0; age = 0 }
