use native.Mathlib.Omega.{arith}
use Rattle.image_read.proofs.Standing.{piece-onward}
use Rattle.recv_restore.specs.Filling.{Fills}
use Rattle.recv_restore.proofs.Pieces.{ranked}
use Rattle.recv_restore.proofs.Loops.{going-begins, going-within, going-on, going-stops, going-ends}
use Rattle.recv_restore.proofs.filling.fill_pieces.Goals as goal

pub loop-init : goal.loop-init
loop-init c = going-begins _ _ _ _ _ _ _ _ _ _ _ c.requires.room

pub fill_piece-requires-clause-near : goal.fill_piece-requires-clause-near
fill_piece-requires-clause-near c = let near = c.requires.near in let few = c.requires.rows_bound in omega arith

pub fill_piece-requires-clause-within : goal.fill_piece-requires-clause-within
fill_piece-requires-clause-within c = going-within _ _ _ _ _ _ _ _ _ _ _ _ _ _ _ c.loop.invariant (omega arith)
    (piece-onward _) c.requires.within

pub returns-in_err-next : goal.returns-in_err-next
unfolding Fills
returns-in_err-next c = rw c.from_residual.ensures
    (going-stops _ _ _ _ _ _ _ _ _ _ _ _ _ _ _ c.loop.invariant (omega arith) c.in_err-next.ensures)

pub rank-least-requires-clause-places : goal.rank-least-requires-clause-places
rank-least-requires-clause-places c = let near = c.requires.near in let few = c.requires.rows_bound in (omega arith, omega arith)

pub loop-preserved : goal.loop-preserved
unfolding Fills
loop-preserved c =
    let r = ranked c.args.s.now c.loop.at.place _ c.rank-least.ensures.is c.in_ok-next.ensures.may.0 in
    going-on _ _ _ _ _ _ _ _ _ _ _ _ _ _ _ c.loop.invariant (omega arith) _ _ c.in_ok-next.ensures _ (omega arith)

pub returns : goal.returns
unfolding Fills
returns c = going-ends _ _ _ _ _ _ _ _ _ _ _ _ _ _ _ c.loop.invariant (omega arith)
