use mathlib.Core.Path.{ap, ◌∙◌}
use Rattle.row_ranks.specs.Renumber.{renumbered}
use Rattle.row_ranks.proofs.Renumbering.{renumber-is}
use Rattle.row_ranks.proofs.renumber_many.Goals as goal

pub returns : goal.returns
returns c =
    let left = c.lower_gapless.ensures.left c.if-lower_gapless.false in
    renumber-is _ _ _ (rw left c.requires) c.copy_firsts-m.ensures.count c.copy_firsts-m.ensures.front c.rank_all.ensures
    ∙ ap renumbered left
