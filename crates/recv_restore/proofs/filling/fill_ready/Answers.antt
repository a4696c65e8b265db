use native.Mathlib.Omega.{arith}
use Rattle.image_read.proofs.Standing.{message-onward}
use Rattle.recv_restore.specs.Filling.{Fills}
use Rattle.recv_restore.proofs.Loops.{going-begins, going-within, going-on, going-stops, going-ends}
use Rattle.recv_restore.proofs.filling.fill_ready.Goals as goal

pub loop-turn-init : goal.loop-turn-init
loop-turn-init c = going-begins _ _ _ _ _ _ _ _ _ _ _ c.requires.room

pub fill_message-requires-clause-near : goal.fill_message-requires-clause-near
fill_message-requires-clause-near c = let near = c.requires.near in let few = c.requires.rows_bound in omega arith

pub fill_message-requires-clause-within : goal.fill_message-requires-clause-within
fill_message-requires-clause-within c = going-within _ _ _ _ _ _ _ _ _ _ _ _ _ _ _ c.loop-turn.invariant (omega arith)
    (message-onward _) c.requires.within

pub returns-in_err-at : goal.returns-in_err-at
unfolding Fills
returns-in_err-at c = rw c.from_residual.ensures
    (going-stops _ _ _ _ _ _ _ _ _ _ _ _ _ _ _ c.loop-turn.invariant (omega arith) c.in_err-at.ensures)

pub loop-turn-preserved : goal.loop-turn-preserved
unfolding Fills
loop-turn-preserved c = going-on _ _ _ _ _ _ _ _ _ _ _ _ _ _ _ c.loop-turn.invariant (omega arith) _ _ c.in_ok-at.ensures _ (omega arith)

pub returns : goal.returns
unfolding Fills
returns c = going-ends _ _ _ _ _ _ _ _ _ _ _ _ _ _ _ c.loop-turn.invariant (omega arith)
