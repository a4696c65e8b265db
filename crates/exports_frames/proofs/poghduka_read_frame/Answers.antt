use mathlib.Core.Path.{◌∙◌, ap}
use borrow.Author.Rules.{rules}
use Rattle.frame.specs.Read.{read_frame_of}
use Rattle.exports_frames.specs.Frames.{frame_told}
use Rattle.exports_frames.proofs.Told.{asked}
use Rattle.exports_frames.proofs.poghduka_read_frame.Goals as goal

pub returns : goal.returns
returns c =
    c.into.ensures
    ∙ ap frame_told
    (asked _ (λ p. read_frame_of p c.args.s.now c.args.at) _ _ _ c.try_from.ensures c.and_then.ensures (λ p q. search rules))
