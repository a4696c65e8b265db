use mathlib.Core.Path.{◌≡◌}
use Rattle.sound_cells.specs.Sorted.{tallied}
use Rattle.sound_cells.proofs.order.entries.sorted.count_rows.Given as goal

abbrev pub invariant-loop-i : goal.invariant-loop-i
invariant-loop-i l = l.counts ≡ tallied l.rows l.places l.initial.counts l.i
