use native.Mathlib.Omega.{arith}
use Rattle.recv_save.proofs.Whole.{gathered-within, gathered-ordered}
use Rattle.recv_save.proofs.save_by.Goals as goal

pub whole_as_front-order : goal.whole_as_front-order
whole_as_front-order g c =
    let h = c.requires.room.1 in
    (gathered-within _ _ c.requires.room.0 _ _ c.gather-k.ensures, omega arith)

pub save_ordered-requires-clause-ordered : goal.save_ordered-requires-clause-ordered
save_ordered-requires-clause-ordered g c =
    gathered-ordered _ _ c.requires.room.0 _ _ c.gather-k.ensures _ c.sort_unstable.ensures.permutation c.sort_unstable.ensures.sorted
