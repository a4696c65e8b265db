use Rattle.sound_cells.proofs.Scans.{Tallied}
use Rattle.sound_cells.proofs.count_mates.Given as goal

abbrev pub invariant-loop-r : goal.invariant-loop-r
invariant-loop-r l = Tallied l.a l.rows l.r-index l.t
