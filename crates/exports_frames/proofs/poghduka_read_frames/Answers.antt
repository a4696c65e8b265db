use mathlib.Core.Path.{◌∙◌, ap}
use borrow.Author.Rules.{rules}
use Rattle.base.specs.Answer.{gives}
use Rattle.frame.specs.Frames.{read_frames_of}
use Rattle.exports_frames.specs.Frames.{frames_told}
use Rattle.exports_frames.proofs.Told.{asked-all}
use Rattle.exports_frames.proofs.poghduka_read_frames.Goals as goal

pub returns : goal.returns
returns c =
    c.into.ensures
    ∙ ap frames_told
    (asked-all _ (λ p. gives (read_frames_of p c.args.s.now c.args.at)) _ _ _ c.try_from.ensures c.map.ensures.cases
    (λ p x q. ap gives (search rules)))
