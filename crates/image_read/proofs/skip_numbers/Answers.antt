use mathlib.Core.Path.{◌∙◌}
use Rattle.image_read.proofs.Ending.{section_on}
use Rattle.image_read.proofs.skip_numbers.Goals as goal

pub returns : goal.returns
returns c = section_on _ _ _ _ _ c.in_ok-q.ensures _ (c.from.ensures ∙ c.be32_at.ensures) c.skip-2.ensures
