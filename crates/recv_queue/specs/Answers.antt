-- What a receive and a restore return and leave, as their definitions have it.
use Rattle.std.specs.Prelude.{ℕ, List, Result}
use Rattle.base.specs.declared.refusal.Refusal.{Refusal}
use Rattle.base.specs.Refusals.{answer, answer_by}
use Rattle.cells.specs.Cell.{Cell}
use Rattle.receiver.specs.declared.RecvQueue.{RecvQueue}
use Rattle.receiver.specs.Receive.{Received}
use Rattle.receiver.specs.Restore.{Restored}
use Rattle.recv_steps.specs.declared.Received as Code
use Rattle.recv_steps.specs.Outcome.{report_of}

-- a receive's outcome, of what it returns and of the last values of receiver, records and store
unfoldable pub received : Result Code.Received Refusal → RecvQueue → List Cell → List ℕ → Received
received r q rs st = record { answer = answer_by report_of r; queue = q; records = rs; store = st }

-- a restore's outcome, of the same
unfoldable pub restore_result : Result (Unit {0}) Refusal → RecvQueue → List Cell → List ℕ → Restored
restore_result r q rs st = record { answer = answer r; left = record { queue = q; records = rs; store = st } }
