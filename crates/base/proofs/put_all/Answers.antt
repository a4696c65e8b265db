use borrow.Author.Rules.{rules}
use Rattle.base.proofs.Puts.{run_past, whole-run, part-run}
use native.Mathlib.Omega.{arith}
use Rattle.base.proofs.put_all.Goals as goal

pub returns-then-out-p : goal.returns-then-out-p
returns-then-out-p c = search (rules, run_past)

pub returns-then-xs-room : goal.returns-then-xs-room
returns-then-xs-room c d = whole-run _ _ _ _ (omega arith) (omega arith) (search rules)

pub returns : goal.returns
returns c d = part-run _ _ _ _ (omega arith) (omega arith) _ (search rules)
