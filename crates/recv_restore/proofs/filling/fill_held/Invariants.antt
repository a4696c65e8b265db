use Rattle.image_read.specs.At.{message_at, message_end}
use Rattle.recv_restore.specs.Fits.{HeldCan, held_next, held_cells}
use Rattle.recv_restore.proofs.Loops.{Going}
use Rattle.recv_restore.proofs.filling.fill_held.Given as goal

abbrev pub invariant-loop : goal.invariant-loop
invariant-loop l = Going HeldCan held_next held_cells (message_at l.s)
    (message_end l.s) 1600 l.n l.s 0 l.initial.rows l.initial.at l.counter l.least
    l.rows l.at
