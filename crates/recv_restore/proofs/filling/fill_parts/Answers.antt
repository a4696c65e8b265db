use native.Mathlib.Omega.{arith}
use Rattle.image_read.proofs.Standing.{body-onward}
use Rattle.recv_restore.specs.Filling.{Fills}
use Rattle.recv_restore.proofs.Loops.{going-begins, going-within, going-on, going-stops, going-ends}
use Rattle.recv_restore.proofs.filling.fill_parts.Goals as goal

pub loop-index-init : goal.loop-index-init
loop-index-init c = going-begins _ _ _ _ _ _ _ _ _ _ _ c.requires.room

pub fill_part-requires-clause-near : goal.fill_part-requires-clause-near
fill_part-requires-clause-near c = let near = c.requires.near in let few = c.requires.rows_bound in (omega arith, omega arith)

pub fill_part-requires-clause-within : goal.fill_part-requires-clause-within
fill_part-requires-clause-within c = going-within _ _ _ _ _ _ _ _ _ _ _ _ _ _ _ c.loop-index.invariant (omega arith)
    (body-onward _) c.requires.within

pub returns-in_err-at : goal.returns-in_err-at
unfolding Fills
returns-in_err-at c = rw c.from_residual.ensures
    (going-stops _ _ _ _ _ _ _ _ _ _ _ _ _ _ _ c.loop-index.invariant (omega arith) c.in_err-at.ensures)

pub loop-index-preserved : goal.loop-index-preserved
unfolding Fills
loop-index-preserved c = going-on _ _ _ _ _ _ _ _ _ _ _ _ _ _ _ c.loop-index.invariant (omega arith) _ _ c.in_ok-at.ensures _ (omega arith)

pub returns : goal.returns
unfolding Fills
returns c = going-ends _ _ _ _ _ _ _ _ _ _ _ _ _ _ _ c.loop-index.invariant (omega arith)
