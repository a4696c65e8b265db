use Rattle.recv_steps.proofs.Stepping.{limited-piece, limited-whole, limited-drops}
use Rattle.recv_steps.proofs.steps.keep_in.Goals as goal

pub returns-in_default : goal.returns-in_default
returns-in_default c = limited-drops _ c.in_default.ensures _ _ _ _ c.drop_one.ensures

pub returns-then-kept : goal.returns-then-kept
returns-then-kept c = let k = c.in-Some.kept in limited-piece _ _ c.in-Some.ensures k.limited _ _ _ _ _ _ c.if-kept.true c.piece.ensures

pub returns : goal.returns
returns c = let k = c.in-Some.kept in limited-whole _ _ c.in-Some.ensures k.limited _ _ _ _ _ _ c.if-kept.false c.whole.ensures
