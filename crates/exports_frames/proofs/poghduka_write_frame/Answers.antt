use mathlib.Core.Path.{◌∙◌, ap}
use lib.ListN.{length}
use Rattle.frame_write.specs.Valid.{write_frame_of, frame_written_of}
use Rattle.exports_frames.specs.Frames.{written_told}
use Rattle.exports_frames.proofs.Told.{by-known, by-unknown, known, unknown}
use Rattle.exports_frames.proofs.poghduka_write_frame.Goals as goal

pub returns-in-Ok-clause-value : goal.returns-in-Ok-clause-value
returns-in-Ok-clause-value c =
    c.into.ensures
    ∙ ap written_told (c.write_frame.ensures.answer
    ∙ known _ (λ p. write_frame_of p (length c.args.out.now) c.args.at c.args.frame (length c.args.body.now)) _ c.in-Ok.ensures)

pub returns-in-Ok-clause-out_after : goal.returns-in-Ok-clause-out_after
returns-in-Ok-clause-out_after c =
    c.write_frame.ensures.output
    ∙ by-known _ (λ p. frame_written_of p c.args.out.now c.args.at c.args.frame c.args.body.now) _ _ c.in-Ok.ensures

pub returns-in-Err-clause-value : goal.returns-in-Err-clause-value
returns-in-Err-clause-value c =
    c.from.ensures
    ∙ ap written_told
    (unknown _ (λ p. write_frame_of p (length c.args.out.now) c.args.at c.args.frame (length c.args.body.now)) _ c.in-Err.ensures)

pub returns-in-Err-clause-out_after : goal.returns-in-Err-clause-out_after
returns-in-Err-clause-out_after c =
    by-unknown _ (λ p. frame_written_of p c.args.out.now c.args.at c.args.frame c.args.body.now) _ _ c.in-Err.ensures
