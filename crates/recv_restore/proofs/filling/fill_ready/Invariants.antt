use Rattle.image_read.specs.At.{message_at, message_end}
use Rattle.recv_restore.specs.Fits.{ReadyCan, ready_next, ready_cells}
use Rattle.recv_restore.proofs.Loops.{Going}
use Rattle.recv_restore.proofs.filling.fill_ready.Given as goal

abbrev pub invariant-loop-turn : goal.invariant-loop-turn
invariant-loop-turn l = Going ReadyCan ready_next ready_cells (message_at l.s) (message_end l.s) 1600 l.n
    l.s 0 l.initial.rows l.initial.at l.turn l.turn l.rows l.at
