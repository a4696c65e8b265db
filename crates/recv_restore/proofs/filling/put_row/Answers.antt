use mathlib.Core.Path.{refl}
use Rattle.recv_restore.specs.Filling.{PutRow}
use Rattle.recv_restore.proofs.filling.put_row.Goals as goal

pub returns-then-at-rows : goal.returns-then-at-rows
unfolding PutRow
returns-then-at-rows c = (c.if-at-rows.true, (refl, refl))

pub returns : goal.returns
unfolding PutRow
returns c = c.if-at-rows.false
