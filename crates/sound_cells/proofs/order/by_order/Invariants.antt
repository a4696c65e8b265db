use mathlib.Core.Path.{◌≡◌}
use mathlib.Core.Bool.{true}
use Rattle.std.specs.Slice.Iter.{chunk_by_rest}
use Rattle.receiver.specs.Queue.{next_in}
use Rattle.sound_cells.proofs.OrderCases.{Going}
use Rattle.sound_cells.proofs.order.by_order.Given as goal

abbrev pub invariant-loop-message : goal.invariant-loop-message
invariant-loop-message l =
    l.fresh ≡ true → Going l.rows (next_in l.channels) l.seen l.greatest (chunk_by_rest l.message-iterator)
