-- Two pieces of an id clash where they do not agree, or have one index.
-- Assumes nothing.
use Rattle.std.specs.Prelude.{◌≡◌, not, ◌&&◌, ◌||◌, eqb}
use Rattle.std.proofs.Math.Bool.{and_assoc}
use Rattle.bare.specs.Bare.{conflict}
use Rattle.cells.specs.Cell.{Cell, piece_in, open_use}
use Rattle.cells.specs.Records.{clashes}
use Rattle.cells.specs.Sound.{agree}

pub clash_by_agreement : (a c : Cell) → clashes a c ≡ (eqb c.used open_use
    && (eqb c.id a.id && (not (agree c a) || eqb c.index a.index)))
unfolding clashes conflict piece_in agree
clash_by_agreement a c = simp and_assoc
