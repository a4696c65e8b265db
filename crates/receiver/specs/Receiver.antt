-- A receiver with its records and store, as a call is lent the three; and a sound one.
use Rattle.std.specs.Prelude.{ℕ, ◌≡◌, Bool, true, List, length}
use Rattle.base.specs.Limits.{max_ord_chans, max_unsent}
use Rattle.window.specs.Proper.{Sized}
use Rattle.cells.specs.Cell.{Cell}
use Rattle.receiver.specs.declared.RecvQueue.{RecvQueue}
use Rattle.receiver.specs.Receive.{sound_call}

-- "Each call has the receiver, records and store that the last one returned or left"
pub record Receiver : Type 0 where
  pub queue : RecvQueue
  pub records : List Cell
  pub store : List ℕ

-- the three pass the tests of 9
abbrev pub sound_receiver : Receiver → Bool
sound_receiver x = sound_call x.queue x.records x.store

-- What the receiver's own type says of its arrays.
pub record Arrays (q : RecvQueue) : Type 0 where
  pub datagrams : Sized q.datagrams
  pub reliables : Sized q.reliables
  pub channels : length q.channels ≡ max_ord_chans
  pub unsent : length q.unsent ≡ max_unsent

-- A sound receiver, as any that is lent to the code: its arrays are as long as their types say.
pub record Sound (x : Receiver) : Type 0 where
  pub arrays : Arrays x.queue
  pub call : sound_receiver x ≡ true
