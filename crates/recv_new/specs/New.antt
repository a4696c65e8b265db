-- "Make new. 9 cells or lengths outside the limits; old records aren't looked at, all become unused."
use Rattle.std.specs.Prelude.{ℕ, List, length, replicate, Result}
use Rattle.base.specs.Answer.{Answer, refused, gives}
use Rattle.base.specs.declared.refusal.Refusal.{Refusal}
use Rattle.base.specs.Refusals.{answer}
use Rattle.base.specs.If.{if_true}
use Rattle.reliability.specs.declared.Profile.{Profile}
use Rattle.cells.specs.Cell.{Cell, empty_cell}
use Rattle.cells.specs.Sound.{lengths}
use Rattle.receiver.specs.declared.RecvQueue.{RecvQueue}
use Rattle.receiver.specs.Queue.{new_queue}

-- the answer, and what the call leaves of the receiver and of the records
pub record MadeNew : Type 0 where
  pub answer : Answer (Unit {0})
  pub queue : RecvQueue
  pub records : List Cell

-- request 2: "A receiver .. is made for the console profile of document 01 or for this one"
unfoldable pub make_new_of : Profile → RecvQueue → List Cell → List ℕ → MadeNew
make_new_of p q rs st =
    if_true (lengths (length rs) (length st))
    (record { answer = gives tt; queue = new_queue p; records = replicate (length rs) empty_cell })
    (record { answer = refused 9; queue = q; records = rs })

-- a call's outcome, of what it returns and of the last values of receiver and records
unfoldable pub made_new : Result (Unit {0}) Refusal → RecvQueue → List Cell → MadeNew
made_new r q rs = record { answer = answer r; queue = q; records = rs }
