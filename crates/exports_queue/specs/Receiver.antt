-- What the exported receiver's calls return, and what they leave of all that was lent: of what the call's own definition comes to.
use Rattle.std.specs.Prelude.{ℕ, List}
use Rattle.base.specs.Answer.{refused}
use Rattle.base.specs.If.{if_lt}
use Rattle.base.specs.Limits.{profiles}
use Rattle.reliability.specs.Profiles.{profile_of}
use Rattle.cells.specs.Cell.{Cell}
use Rattle.receiver.specs.declared.RecvQueue.{RecvQueue}
use Rattle.receiver.specs.Receive.{Received}
use Rattle.receiver.specs.Take.{TakeResult}
use Rattle.receiver.specs.Drop.{DropResult}
use Rattle.receiver.specs.Write.{Wrote}
use Rattle.receiver.specs.Save.{Saved}
use Rattle.receiver.specs.Restore.{Restored}
use Rattle.recv_new.specs.New.{MadeNew, make_new_of}
use Rattle.exports.specs.declared.AckWritten.{AckWritten}
use Rattle.exports.specs.Numbers.{number_of, ack_told}
use Rattle.recv_answers.specs.declared.QueueReceived.{QueueReceived}
use Rattle.recv_answers.specs.declared.QueueTaken.{QueueTaken}
use Rattle.recv_answers.specs.declared.QueueDropped.{QueueDropped}
use Rattle.recv_answers.specs.declared.QueueSaved.{QueueSaved}
use Rattle.recv_answers.specs.Told.{receive_told, take_told, drop_told, save_told}

-- make new for the profile of a number: 9 where the number is none's, before all else, and nothing is changed
unfoldable pub make_numbered_of : ℕ → RecvQueue → List Cell → List ℕ → MadeNew
make_numbered_of profile q rs st =
    if_lt profile profiles (make_new_of (profile_of profile) q rs st) (record { answer = refused 9; queue = q; records = rs })

pub record NewNumbers : Type 0 where
  pub told : ℕ
  pub queue : RecvQueue
  pub records : List Cell

unfoldable pub new_numbers : ℕ → RecvQueue → List Cell → NewNumbers
new_numbers r q rs = record { told = r; queue = q; records = rs }

unfoldable pub new_numbers_of : MadeNew → NewNumbers
new_numbers_of x = new_numbers (number_of x.answer) x.queue x.records

pub record ReceiveNumbers : Type 0 where
  pub told : QueueReceived
  pub queue : RecvQueue
  pub records : List Cell
  pub store : List ℕ

unfoldable pub receive_numbers : QueueReceived → RecvQueue → List Cell → List ℕ → ReceiveNumbers
receive_numbers r q rs st = record { told = r; queue = q; records = rs; store = st }

unfoldable pub receive_numbers_of : Received → ReceiveNumbers
receive_numbers_of x = receive_numbers (receive_told x.answer) x.queue x.records x.store

pub record TakeNumbers : Type 0 where
  pub told : QueueTaken
  pub records : List Cell
  pub joined : List ℕ

unfoldable pub take_numbers : QueueTaken → List Cell → List ℕ → TakeNumbers
take_numbers r rs buffer = record { told = r; records = rs; joined = buffer }

unfoldable pub take_numbers_of : TakeResult → TakeNumbers
take_numbers_of x = take_numbers (take_told x.answer) x.records x.joined

pub record DropNumbers : Type 0 where
  pub told : QueueDropped
  pub records : List Cell

unfoldable pub drop_numbers : QueueDropped → List Cell → DropNumbers
drop_numbers r rs = record { told = r; records = rs }

unfoldable pub drop_numbers_of : DropResult → DropNumbers
drop_numbers_of x = drop_numbers (drop_told x.answer) x.records

pub record WriteNumbers : Type 0 where
  pub told : AckWritten
  pub queue : RecvQueue
  pub out : List ℕ

unfoldable pub write_numbers : AckWritten → RecvQueue → List ℕ → WriteNumbers
write_numbers r q out = record { told = r; queue = q; out = out }

unfoldable pub write_numbers_of : Wrote → WriteNumbers
write_numbers_of x = write_numbers (ack_told x.answer) x.queue x.out

pub record SaveNumbers : Type 0 where
  pub told : QueueSaved
  pub out : List ℕ

unfoldable pub save_numbers : QueueSaved → List ℕ → SaveNumbers
save_numbers r out = record { told = r; out = out }

unfoldable pub save_numbers_of : Saved → SaveNumbers
save_numbers_of x = save_numbers (save_told x.answer) x.out

pub record RestoreNumbers : Type 0 where
  pub told : ℕ
  pub queue : RecvQueue
  pub records : List Cell
  pub store : List ℕ

unfoldable pub restore_numbers : ℕ → RecvQueue → List Cell → List ℕ → RestoreNumbers
restore_numbers r q rs st = record { told = r; queue = q; records = rs; store = st }

unfoldable pub restore_numbers_of : Restored → RestoreNumbers
restore_numbers_of x = restore_numbers (number_of x.answer) x.left.queue x.left.records x.left.store
