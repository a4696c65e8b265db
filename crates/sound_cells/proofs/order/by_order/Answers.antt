use mathlib.Core.Path.{◌∙◌, ap}
use Rattle.std.specs.Slice.Iter.{chunk_by_rest}
use borrow.Author.Rules.{rules}
use borrow.Author.Tests.{tests}
use Rattle.std.proofs.lemmas.List.Sorted.{answers_always}
use Rattle.base.proofs.Choices.{and_left, and_right}
use Rattle.sound_cells.proofs.EntryCases.{nothing-told}
use Rattle.sound_cells.proofs.OrderCases.{together, going_starts, going-ends, goes-unused, goes-used}
use Rattle.sound_cells.proofs.order.by_order.Goals as goal

pub returns-then-not-is_within : goal.returns-then-not-is_within
returns-then-not-is_within c = (λ e. nothing-told e)

pub returns-then-not-is_due : goal.returns-then-not-is_due
returns-then-not-is_due c = (λ e. nothing-told e)

pub loop-message-preserved-then-c-ne-UNUSED : goal.loop-message-preserved-then-c-ne-UNUSED
loop-message-preserved-then-c-ne-UNUSED c =
    let s = c.in-Some.ensures.steps in
    let front = (s.2 together (answers_always _ _ _ (λ f a r g h. search (rules, tests)))).1 in
    let loop = c.loop-message in
    (λ e. goes-used _ _ _ _ _ (loop.invariant (and_left loop.fresh _ e)) _ _ s.0 s.1 front _
    c.if-c-ne-UNUSED.true c.is_within.ensures c.if-not-is_within.false c.is_due.ensures c.if-not-is_due.false
    c.key_part-key.ensures.0 c.is_fresh-new.ensures (and_right loop.fresh _ e) c.note_key.ensures c.max-greatest.ensures)

pub loop-message-preserved : goal.loop-message-preserved
loop-message-preserved c =
    let s = c.in-Some.ensures.steps in
    let front = (s.2 together (answers_always _ _ _ (λ f a r g h. search (rules, tests)))).1 in
    (λ e. goes-unused _ _ _ _ _ (c.loop-message.invariant e) _ _ s.0 s.1 front _ c.if-c-ne-UNUSED.false)

pub returns : goal.returns
returns c = λ e. going-ends _ _ _ _ _ (c.loop-message.invariant e) c.in-None.ensures.steps.0

pub loop-message-init : goal.loop-message-init
loop-message-init c = λ e. going_starts _ _ _
    (ap chunk_by_rest c.into_iter-message-iterator.ensures.into_iter_gives ∙ c.chunk_by-message-items.ensures.rest)
