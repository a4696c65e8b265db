use Rattle.recv_steps.proofs.Passing.{going-begins, may-step, going-readable, going_less}
use Rattle.recv_steps.proofs.Passing.{going-stops, going-keeps, going-drops, going-ends}
use mathlib.Core.Path.{refl}
use borrow.Author.Rules.{rules}
use Rattle.recv_steps.proofs.steps.datagram.frames.Goals as goal

pub loop-placed-init : goal.loop-placed-init
loop-placed-init c = going-begins _ _ _ _ _ _ refl c.requires (λ i. (c.type_inv.datagram i).fits)

pub keep_in-counts-requires-clause-readable_placed : goal.keep_in-counts-requires-clause-readable_placed
keep_in-counts-requires-clause-readable_placed c = search (rules, going-readable)

pub keep_in-counts-requires-clause-may_step : goal.keep_in-counts-requires-clause-may_step
keep_in-counts-requires-clause-may_step c = search (rules, may-step)

pub loop-placed-smaller-in-Ok-number_in : goal.loop-placed-smaller-in-Ok-number_in
loop-placed-smaller-in-Ok-number_in c = search (rules, going_less)

pub loop-placed-preserved-in-Ok-number_in : goal.loop-placed-preserved-in-Ok-number_in
loop-placed-preserved-in-Ok-number_in c = let kept = c.keep_in-counts in
    going-keeps _ _ _ _ _ _ _ _ _ _ _ c.loop-placed.invariant _ c.read_frame.ensures _ _ c.in-Ok.is _
    c.number_in.ensures.sized c.in-Ok-number_in.ensures.is _ _ _ kept.auto.rows kept.ensures

pub returns-in-Beyond : goal.returns-in-Beyond
returns-in-Beyond c = going-stops _ _ _ _ _ _ _ _ _ _ _ c.loop-placed.invariant _ c.read_frame.ensures _ _ c.in-Ok.is _
    (rw c.in-Beyond.is at c.in-Err.ensures.is) _ _ _

pub loop-placed-smaller : goal.loop-placed-smaller
loop-placed-smaller c = search (rules, going_less)

pub loop-placed-preserved : goal.loop-placed-preserved
loop-placed-preserved c = going-drops _ _ _ _ _ _ _ _ _ _ _ c.loop-placed.invariant _ c.read_frame.ensures _ _ c.in-Ok.is _
    c.in_default-refusal.not-Beyond _ c.in-Err.ensures.is _ c.drop_one-counts.ensures

pub returns : goal.returns
returns c = search (rules, going-ends)
