use Rattle.image_read.specs.At.{body_at, body_end, message_at}
use Rattle.recv_restore.specs.Fits.{PartCan, part_next, part_cells}
use Rattle.recv_restore.proofs.Loops.{Going}
use Rattle.recv_restore.proofs.filling.fill_parts.Given as goal

abbrev pub invariant-loop-index : goal.invariant-loop-index
invariant-loop-index l = Going PartCan part_next (part_cells l.m.used l.m.turn (message_at l.s l.m.place)) (body_at l.s)
    (body_end l.s) 1508 l.n
    l.s 0 l.initial.rows l.initial.at l.index l.index l.rows l.at
