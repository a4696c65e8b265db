use native.Mathlib.Omega.{arith}
use borrow.Author.Rules.{rules}
use Rattle.base.proofs.Puts.{run_none}
use Rattle.window.specs.Missing.{missing_of}
use Rattle.window.proofs.Steps.{run-past-limit}
use Rattle.missing_plain.proofs.Steps.{run-accepted, run-missing, run_end}
use Rattle.missing_plain.proofs.missing_in.Goals.{then-not-accepted_in, else-not-accepted_in}
use Rattle.missing_plain.proofs.missing_in.Goals as goal

pub returns-then-low-ge-NUMBERS_24 : goal.returns-then-low-ge-NUMBERS_24
returns-then-low-ge-NUMBERS_24 c = search (rules, run-past-limit)

pub loop-k-init : goal.loop-k-init
unfolding missing_of
loop-k-init c = search (rules, run_none)

pub loop-k-preserved : goal.loop-k-preserved
loop-k-preserved c =
    elim c.if-not-accepted_in.branch [
      | then-not-accepted_in w ↦
          let e = w.list-is in
          let f = w.p-is in
          rw (e, f) (search (rules, run-missing))
      | else-not-accepted_in w ↦
          let e = w.list-is in
          let f = w.p-is in
          rw (e, f) (search (rules, run-accepted))
    ]

pub returns : goal.returns
returns c = run_end _ c.loop-k.k _ _ _ (omega arith) c.loop-k.invariant
