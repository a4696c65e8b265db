use native.Mathlib.Omega.{arith}
use Rattle.recv_steps.proofs.Following.{following-begins, following-goes, follows-stops, follows-done}
use borrow.Author.Rules.{rules}
use Rattle.recv_steps.proofs.steps.follows.Goals as goal

pub loop-init : goal.loop-init
loop-init c = let pre = c.requires in
    following-begins _ _ _ _ _ c.args.kept.channel pre.rows_bound pre.can_count pre.rises c.rise.ensures _ (omega arith)

pub loop-preserved : goal.loop-preserved
loop-preserved c = let held = c.turn_held.ensures in
    following-goes _ _ _ _ _ _ _ _ _ c.loop.invariant (omega arith) c.args.kept.channel _ c.next_of-next.ensures c.into.ensures _ held.held
    c.if-not-turn_held.false _ _ _ c.turn_held.auto.rows held.is c.rise-in-loop.ensures c.make_one-t.ensures _ (omega arith)

pub returns-then-not-turn_held : goal.returns-then-not-turn_held
returns-then-not-turn_held c = search (rules, follows-stops)

pub returns : goal.returns
returns c = let pre = c.requires in
    follows-done _ _ _ _ _ _ _ _ c.args.kept.channel pre.rises c.rise.ensures _ c.loop.invariant (omega arith)
