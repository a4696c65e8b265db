use Rattle.row_ranks.proofs.Renumbering.{Copied}
use Rattle.row_ranks.proofs.copy_firsts.Given as goal

abbrev pub invariant-loop-r : goal.invariant-loop-r
invariant-loop-r l = Copied l.rows l.initial.turns l.r-index l.m l.turns
