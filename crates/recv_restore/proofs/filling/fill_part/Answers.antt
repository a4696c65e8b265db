use mathlib.Core.Path.{refl}
use native.Mathlib.Omega.{arith}
use Rattle.image_read.specs.At.{body_at}
use Rattle.recv_restore.specs.Fits.{PartCan}
use Rattle.recv_restore.proofs.Rows.{unfit}
use Rattle.recv_restore.proofs.Pieces.{body-length}
use Rattle.recv_restore.proofs.Messages.{part-put}
use Rattle.recv_restore.proofs.filling.fill_part.Goals as goal

pub returns-then-be64_at : goal.returns-then-be64_at
returns-then-be64_at c = unfit _ _ _ _ _ _ _ _ (λ can. let e = body-length c.args.s.now c.args.at.place c.requires.within in omega arith)

pub returns : goal.returns
returns c =
    let can : PartCan c.args.index (body_at c.args.s.now c.args.at.place) =
    omega (arith, body-length c.args.s.now c.args.at.place c.requires.within) in
    part-put _ _ _ _ _ _ c.requires.head c.requires.within _ _ c.requires.in_use refl can _
    (c.part_row-row.ensures can) _ _ c.put_row.ensures
