use Rattle.base.specs.Put.{Run}
use Rattle.rows.specs.Rows.{cells_in}
use Rattle.recv_take.specs.Pieces.{joined_to}
use Rattle.recv_take.proofs.message.Message.join.Given as goal

abbrev pub invariant-loop-i : goal.invariant-loop-i
invariant-loop-i l = Run 0 (joined_to l.self.turn (cells_in l.self.rows.now) l.self.store.now l.i) l.initial.joined l.p l.joined
