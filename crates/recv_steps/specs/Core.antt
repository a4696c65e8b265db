-- What the core of receive is to leave of what it works on: of its copies of the receiver's reliable window and nexts, of rows and store.
use Rattle.std.specs.Prelude.{ℕ, Bool, List, Result}
use Rattle.std.proofs.Math.Option.{Option, none, some}
use Rattle.base.specs.Answer.{Answer, refused, gives}
use Rattle.base.specs.declared.refusal.Refusal.{Refusal}
use Rattle.base.specs.Refusals.{answer_by}
use Rattle.ack.specs.Write.{ascending}
use Rattle.window.specs.declared.ReliableWindow.{ReliableWindow}
use Rattle.rows.specs.declared.Row.{Row}
use Rattle.rows.specs.Rows.{cells_in}
use Rattle.receiver.specs.declared.Nexts.{Nexts}
use Rattle.receiver.specs.declared.RecvQueue.{RecvQueue}
use Rattle.receiver.specs.Parts.{nexts_of}
use Rattle.receiver.specs.Queue.{unsent_of}
use Rattle.receiver.specs.Receive.{Report}
use Rattle.receiver.specs.Receive as Definition
use Rattle.recv_prefix.specs.Receiving.{receive_first}
use Rattle.recv_steps.specs.declared.Received.{Received}
use Rattle.recv_steps.specs.Outcome.{report_of, rows_left}

-- the window of reliable numbers, the nexts and memories with the profile, and whether the unsent numbers ascend
pub record Copies : Type 0 where
  pub reliables : ReliableWindow
  pub nexts : Nexts
  pub rising : Bool

-- the answer, the copies where it is no refusal, the rows, and the store
pub record CoreReceived : Type 0 where
  pub answer : Answer Report
  pub copies : Option Copies
  pub rows : List Row
  pub store : List ℕ

-- a refused datagram's copies are thrown away, whatever they hold
unfoldable pub copies_kept : Answer Report → Copies → Option Copies
copies_kept (refused number) c = none
copies_kept (gives report) c = some c

-- a core's outcome, of what it answers and of what it leaves of its copies, of the rows and of the store
unfoldable pub core_left : Result Received Refusal → ReliableWindow → Nexts → Bool → List Row → List ℕ → CoreReceived
core_left r w ns rising rows st =
    record {
      answer = answer_by report_of r;
      copies = copies_kept (answer_by report_of r) (record { reliables = w; nexts = ns; rising = rising });
      rows = rows;
      store = st;
    }

-- What a core over these rows leaves of a receive that comes to x. An accepted datagram leaves the window, the nexts and the memories of
-- the definition's receiver, and the unsent numbers ascend if those of the receiver before did.
unfoldable pub core_outcome : RecvQueue → List Row → Definition.Received → CoreReceived
core_outcome q rows x =
    record {
      answer = x.answer;
      copies =
          copies_kept x.answer
          (record { reliables = x.queue.reliables; nexts = nexts_of x.queue; rising = ascending (unsent_of q) });
      rows = rows_left x.answer rows x.records;
      store = x.store;
    }

-- the same, of receive on rows that stand for the first of so many records
unfoldable pub core_of : RecvQueue → ℕ → List Row → List ℕ → List ℕ → CoreReceived
core_of q cells rows st d = core_outcome q rows (receive_first q cells (cells_in rows) st d)
