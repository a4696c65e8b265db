use borrow.Author.Rules.{rules}
use Rattle.std.proofs.lemmas.List.Sorted.{answers_always}
use Rattle.ack.specs.Passes.{is_next}
use Rattle.ack.proofs.PassCases.{counted-more, counted-all}
use Rattle.ack.proofs.runs.tally_runs.Goals as goal

pub loop-run-preserved : goal.loop-run-preserved
loop-run-preserved c =
    let s = c.in-Some.ensures.steps in
    let front = (s.2 is_next (answers_always _ _ _ (λ f a r g h. search rules))).1 in
    let size = c.record_size-bytes.ensures in
    counted-more _ _ _ _ s.0 s.1 front _ _ _ size.is size.small c.loop-run.invariant

pub returns-clause-is : goal.returns-clause-is
returns-clause-is c = counted-all _ _ _ _ c.in-None.ensures.steps.0 c.loop-run.invariant
