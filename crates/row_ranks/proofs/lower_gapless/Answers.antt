use borrow.Author.Rules.{rules}
use Rattle.row_ranks.proofs.Gapless.{gapless-renumbered}
use Rattle.row_ranks.proofs.lower_gapless.Goals as goal

pub returns-in-Some-clause-lowered : goal.returns-in-Some-clause-lowered
returns-in-Some-clause-lowered g c = λ e. gapless-renumbered _ c.survey.result c.and_then.result c.requires.few c.survey.ensures
    (search rules) c.in-Some.is c.lower_all.ensures
