use mathlib.Core.Path.{sym, ◌∙◌}
use native.Mathlib.Omega.{arith}
use Rattle.row_bodies.proofs.Flushing.{row_copied}
use Rattle.row_bodies.proofs.flush_row.Goals as goal

pub returns-then-is_placed : goal.returns-then-is_placed
returns-then-is_placed c = row_copied _ _ _ _ (sym c.is_placed.ensures ∙ c.if-is_placed.true) _ _ _ (λ h. omega arith)
    (λ h. omega arith) c.min-from.ensures c.min-end.ensures c.put_all.ensures.is
