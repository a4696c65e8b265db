use native.Mathlib.Omega.{arith}
use Rattle.recv_save.proofs.Whole.{rows-few}
use Rattle.recv_save.proofs.save_many.Goals as goal

pub save_by-requires-2-clause-room : goal.save_by-requires-2-clause-room
save_by-requires-2-clause-room c = (rows-few _ _ _ c.requires, omega arith)
