use mathlib.Core.Path.{refl}
use Rattle.recv_restore.specs.Filling.{TestOf}
use Rattle.recv_restore.proofs.Rows.{unfit}
use Rattle.recv_restore.proofs.Messages.{message-put, message-within}
use Rattle.recv_restore.proofs.filling.fill_message.Goals as goal

pub returns-then-not-head_fits : goal.returns-then-not-head_fits
unfolding TestOf
returns-then-not-head_fits c = unfit _ _ _ _ _ _ _ _ (λ can. c.head_fits.ensures.1 c.if-not-head_fits.true can.head)

pub returns : goal.returns
unfolding TestOf
returns c = message-put _ _ _ _ _ _ _ _ _ (c.head_fits.ensures.0 c.if-not-head_fits.false) refl c.low.ensures c.fill_parts.ensures

pub fill_parts-requires-clause-head : goal.fill_parts-requires-clause-head
unfolding TestOf
fill_parts-requires-clause-head c = c.head_fits.ensures.0 c.if-not-head_fits.false

pub fill_parts-requires-clause-within : goal.fill_parts-requires-clause-within
unfolding TestOf
fill_parts-requires-clause-within c = message-within _ _ _ (c.head_fits.ensures.0 c.if-not-head_fits.false) c.low.ensures c.requires.within
