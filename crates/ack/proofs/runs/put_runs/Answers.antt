use borrow.Author.Rules.{rules}
use Rattle.std.proofs.lemmas.List.Sorted.{answers_always}
use Rattle.ack.specs.Passes.{is_next}
use Rattle.ack.proofs.PassCases.{written-more, written_all}
use Rattle.ack.proofs.runs.put_runs.Goals as goal

pub loop-run-preserved : goal.loop-run-preserved
loop-run-preserved c =
    let s = c.in-Some.ensures.steps in
    let front = (s.2 is_next (answers_always _ _ _ (λ f a r g h. search rules))).1 in
    written-more _ _ _ _ _ _ c.loop-run.invariant _ _ s.0 s.1 front _ _ c.put_record-q.ensures

pub returns : goal.returns
returns c = search (rules, written_all)
