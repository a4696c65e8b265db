-- What the core leaves of its copies, settled in the receiver, is what document 01's receive leaves.
--     CoreSays, CallSays             what the core says, and what the call is to say
--     part-settled, core-settled     the one from the other, for every answer
-- Assumes nothing.
use mathlib.Core.Path.{◌≡◌, ap, ◌∙◌, refl}
use Prim.Native.Nat.{ℕ, ◌*◌, ◌<◌}
use mathlib.Core.List.{List, ◌++◌}
use mathlib.Core.Bool.{Bool}
use lib.ListN.{length, take, drop}
use Rattle.std.specs.Prelude.{Result}
use Rattle.std.proofs.Math.Option.{Option, some}
use Rattle.base.specs.Answer.{Answer, gives}
use Rattle.base.specs.declared.refusal.Refusal.{Refusal}
use Rattle.base.specs.Refusals.{answer_by}
use Rattle.base.specs.Limits.{numbers24, max_unsent, cell_bytes}
use Rattle.base.specs.Lists.{option}
use Rattle.ack.specs.Write.{ascending}
use Rattle.window.specs.declared.ReliableWindow.{ReliableWindow}
use Rattle.cells.specs.Cell.{Cell}
use Rattle.cells.specs.Datagram.{Work, datagram}
use Rattle.cells.specs.Sound.{lengths}
use Rattle.rows.specs.declared.Row.{Row}
use Rattle.rows.specs.Rows.{cells_in}
use Rattle.receiver.specs.declared.Nexts.{Nexts}
use Rattle.receiver.specs.declared.RecvQueue.{RecvQueue}
use Rattle.receiver.specs.Parts.{nexts_of}
use Rattle.receiver.specs.Queue.{profile_in, unsent_of}
use Rattle.receiver.specs.Receive.{Report, datagram_number, frames_in, state_of, queue_after, accepted_result, refused_result, receive_of}
use Rattle.receiver.specs.Receive as Definition
use Rattle.receiver.proofs.AnswerCases.{Accepted, by-true, by_le, receive-ways}
use Rattle.recv_prefix.specs.Receiving.{with_rest, receive_first}
use Rattle.recv_channel.specs.Advance.{advanced_all}
use Rattle.recv_lent.specs.Settled.{with_number, settled_of}
use Rattle.recv_lent.proofs.Settles.{numbered}
use Rattle.recv_steps.specs.declared.Received.{Received}
use Rattle.recv_steps.specs.Outcome.{report_of, received_rows, rows_outcome, receive_rows_of}
use Rattle.recv_steps.specs.Receives.{Receives}
use Rattle.recv_steps.specs.Core.{Copies, CoreReceived, copies_kept, core_left, core_outcome, core_of}

-- of the receiver q, of rows that stand for the first of so many records, of the store st and of the datagram d, by the answer r and the
-- last values of the copies, the rows and the store
abbrev pub CoreSays : RecvQueue → ℕ → List Row → List ℕ → List ℕ → Result Received Refusal → ReliableWindow → Nexts → Bool → List Row
    → List ℕ → Type 0
CoreSays q cells rows st d r w ns rising rows' st' = core_left r w ns rising rows' st' ≡ core_of q cells rows st d

-- the same of the call, by the answer r and the last values of the receiver, the rows and the store
abbrev pub CallSays : RecvQueue → ℕ → List Row → List ℕ → List ℕ → Result Received Refusal → RecvQueue → List Row → List ℕ → Type 0
CallSays q cells rows st d r q' rows' st' = received_rows r q' rows' st' ≡ receive_rows_of q cells rows st d

-- ---- by the ways of receive
module _ (q : RecvQueue) (rows : List Row) (d : List ℕ) (r : Result Received Refusal) (w : ReliableWindow) (ns : Nexts) (rising : Bool)
    (rows' : List Row) (st' : List ℕ) where
  abbrev n : ℕ
  n = datagram_number d

  -- the receiver in which the copies are settled
  abbrev settled : RecvQueue
  settled = settled_of q (answer_by report_of r) w ns rising n

  -- what is to be shown of a receive that comes to x
  abbrev Settles : Definition.Received → Type 0
  Settles x = core_left r w ns rising rows' st' ≡ core_outcome q rows x → received_rows r settled rows' st' ≡ rows_outcome rows x

  refusal-settles : (cs : List Cell) (st : List ℕ) (number : ℕ) → Settles (refused_result q cs st number)
  unfolding core_left core_outcome received_rows rows_outcome refused_result settled_of
  refusal-settles cs st number said = λ i. record {
    answer = (said i).answer;
    queue = settled_of q (said i).answer w ns rising n;
    rows = (said i).rows;
    store = (said i).store;
  }

  module _ (unsent : length q.unsent ≡ max_unsent) (small : n < numbers24) where
    module _ (cs : List Cell) (st : List ℕ) (x : Accepted q cs st d) where
      abbrev work : Work
      work = datagram (state_of q cs st) (frames_in (profile_in q) d)

      abbrev after : RecvQueue
      after = queue_after q n x.reliables work.state.next work.state.newest

      -- the copies that the core left, and those that it is to leave
      abbrev mine : Copies
      mine = record { reliables = w; nexts = ns; rising = rising }

      abbrev its : Copies
      its = record { reliables = x.reliables; nexts = nexts_of after; rising = ascending (unsent_of q) }

      abbrev with_copies : Copies → RecvQueue
      with_copies c = with_number (advanced_all q c.nexts) c.reliables n c.rising

      queue-is : (report : Report) → answer_by report_of r ≡ gives report → copies_kept (answer_by report_of r) mine ≡ some its
          → settled ≡ after
      unfolding settled_of copies_kept advanced_all nexts_of queue_after
      queue-is report a c = ap (λ (y : Answer Report). settled_of q y w ns rising n) a
          ∙ ap with_copies (ap (λ (o : Option Copies). option o mine (λ y. y)) (rw a at c))
          ∙ numbered q unsent n small x.fresh x.near x.room x.reliables (ascending (unsent_of q)) refl work.state.next work.state.newest

      given-settles : (report : Report) (records : List Cell) (store : List ℕ)
          → Settles (record { answer = gives report; queue = after; records = records; store = store })
      unfolding core_left core_outcome received_rows rows_outcome copies_kept queue_after
      given-settles report records store said = λ i. record {
        answer = (said i).answer;
        queue = queue-is report (ap (λ (y : CoreReceived). y.answer) said) (ap (λ (y : CoreReceived). y.copies) said) i;
        rows = (said i).rows;
        store = (said i).store;
      }

    receive-settles : (cs : List Cell) (st : List ℕ) → Settles (receive_of q cs st d)
    unfolding accepted_result
    receive-settles cs st = receive-ways q cs st d Settles (refusal-settles cs st) (λ x. given-settles cs st x _ _ _)

    first-settles : (cells : ℕ) (cs : List Cell) (st : List ℕ) → Settles (receive_first q cells cs st d)
    unfolding receive_first with_rest refused_result accepted_result
    first-settles cells cs st =
        by-true Settles (lengths cells (length st))
        (λ _. by_le Settles (length cs) cells
        (λ _. receive-ways q cs (take (cell_bytes * length cs) st) d
        (λ (x : Definition.Received). Settles (with_rest (drop (cell_bytes * length cs) st) x))
        (λ number. refusal-settles cs (take (cell_bytes * length cs) st ++ drop (cell_bytes * length cs) st) number)
        (λ x. given-settles cs (take (cell_bytes * length cs) st) x _ _ _))
        (λ _. refusal-settles cs st 9))
        (λ _. refusal-settles cs st 9)

-- What the core leaves over the rows and their own part of the store, settled, is what receive leaves of these.
pub part-settled : (q : RecvQueue) (rows : List Row) (st d : List ℕ) (r : Result Received Refusal) (w : ReliableWindow) (ns : Nexts)
    (rising : Bool) (rows' : List Row) (st' : List ℕ) → length q.unsent ≡ max_unsent → datagram_number d < numbers24
    → core_left r w ns rising rows' st' ≡ core_outcome q rows (receive_of q (cells_in rows) st d)
    → Receives q rows st d r (settled_of q (answer_by report_of r) w ns rising (datagram_number d)) rows' st'
part-settled q rows st d r w ns rising rows' st' unsent small said =
    record { is = receive-settles q rows d r w ns rising rows' st' unsent small (cells_in rows) st said }

-- What the core leaves over rows that stand for the first of so many records, settled, is what receive leaves.
pub core-settled : (q : RecvQueue) (cells : ℕ) (rows : List Row) (st d : List ℕ) (r : Result Received Refusal) (w : ReliableWindow)
    (ns : Nexts) (rising : Bool) (rows' : List Row) (st' : List ℕ) → length q.unsent ≡ max_unsent → datagram_number d < numbers24
    → CoreSays q cells rows st d r w ns rising rows' st'
    → CallSays q cells rows st d r (settled_of q (answer_by report_of r) w ns rising (datagram_number d)) rows' st'
unfolding core_of receive_rows_of
core-settled q cells rows st d r w ns rising rows' st' unsent small said =
    first-settles q rows d r w ns rising rows' st' unsent small cells (cells_in rows) st said
