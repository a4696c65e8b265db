use native.Mathlib.Omega.{arith}
use Rattle.recv_steps.proofs.Changing.{count_few}
use Rattle.recv_steps.proofs.Joining.{piece-kept, piece-full}
use borrow.Author.Rules.{rules}
use Rattle.recv_steps.proofs.steps.put_piece.Goals as goal

pub overflow_add-n : goal.overflow_add-n
overflow_add-n c = let pre = c.requires in record { fits = omega (arith, count_few _ _ pre.may_step.few pre.others) }

pub returns-then-put_frame : goal.returns-then-put_frame
returns-then-put_frame c = let put = c.put_frame.ensures in let pre = c.requires in
    piece-kept _ _ _ _ _ _ put.room put.put c.if-put_frame.true pre.piece_value c.args.kept.limited _ pre.others _ _ _ c.piece_kept.ensures

pub returns : goal.returns
returns c = search (rules, piece-full)
