use Rattle.image_read.specs.At.{piece_at, piece_end}
use Rattle.recv_restore.specs.Fits.{PieceCan, piece_next, piece_cells}
use Rattle.recv_restore.proofs.Loops.{Going}
use Rattle.recv_restore.proofs.filling.fill_pieces.Given as goal

abbrev pub invariant-loop : goal.invariant-loop
invariant-loop l = Going PieceCan piece_next piece_cells (piece_at l.s)
    (piece_end l.s) 1600 l.n l.s 0 l.initial.rows l.initial.at l.counter l.least
    l.rows l.at
