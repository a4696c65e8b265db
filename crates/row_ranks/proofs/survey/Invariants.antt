use lib.ListN.{length, take}
use Rattle.rows.specs.Rows.{cells_in}
use Rattle.row_ranks.proofs.Surveys.{Marked}
use Rattle.row_ranks.proofs.survey.Given as goal

abbrev pub invariant-loop-r : goal.invariant-loop-r
invariant-loop-r l = Marked (length l.initial.marks) (cells_in (take l.r-index l.rows)) l.marks l.t
