use native.Mathlib.Omega.{arith}
use Rattle.recv_parts.proofs.Laws.{number_there, number_past}
use Rattle.recv_parts.proofs.number_at.Goals as goal

pub returns-then-place-lt-NEXTS : goal.returns-then-place-lt-NEXTS
returns-then-place-lt-NEXTS c = number_there c.args.nexts.now c.args.place (omega arith) _ c.number_in.ensures

pub returns : goal.returns
returns c = number_past c.args.nexts.now c.args.place (omega arith)
