use Rattle.image_read.proofs.Ending.{cut_unsent, cut_pieces, cut_held, all_sections}
use Rattle.image_read.proofs.skip_image.Goals as goal

pub returns-in_err-p-4 : goal.returns-in_err-p-4
returns-in_err-p-4 c = rw c.from_residual-in_err-p-4.ensures
    (cut_unsent _ _ c.in_ok-p.ensures _ c.in_ok-p-2.ensures _ c.in_ok-p-3.ensures c.in_err-p-4.ensures)

pub returns-in_err-p-5 : goal.returns-in_err-p-5
returns-in_err-p-5 c = rw c.from_residual-in_err-p-5.ensures
    (cut_pieces _ _ c.in_ok-p.ensures _ c.in_ok-p-2.ensures _ c.in_ok-p-3.ensures _ c.in_ok-p-4.ensures c.in_err-p-5.ensures)

pub returns-in_err-p-6 : goal.returns-in_err-p-6
returns-in_err-p-6 c = rw c.from_residual-in_err-p-6.ensures
    (cut_held _ _ c.in_ok-p.ensures _ c.in_ok-p-2.ensures _ c.in_ok-p-3.ensures _ c.in_ok-p-4.ensures _ c.in_ok-p-5.ensures
    c.in_err-p-6.ensures)

pub returns : goal.returns
returns c = all_sections _ _ c.in_ok-p.ensures _ c.in_ok-p-2.ensures _ c.in_ok-p-3.ensures _ c.in_ok-p-4.ensures _ c.in_ok-p-5.ensures
    _ c.in_ok-p-6.ensures _ c.skip_closed-2.ensures
