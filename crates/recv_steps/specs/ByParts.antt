-- What a receive on rows comes to where the receiver is lent by its parts, as lists of any length: its answer, and what the call leaves of
-- all that it was lent.
use Rattle.std.specs.Prelude.{ℕ, Bool, false, cond, List, map, length, take, drop, replicate}
use Rattle.base.specs.Answer.{Answer, refused, gives}
use Rattle.base.specs.If.{if_true}
use Rattle.base.specs.Refusals.{answer_by}
use Rattle.ack.specs.Write.{ascending}
use Rattle.rows.specs.declared.Row.{Row}
use Rattle.rows.specs.Rows.{cells_in, stored_row, blank_row}
use Rattle.receiver.specs.declared.RecvQueue.{RecvQueue}
use Rattle.receiver.specs.Queue.{unsent_of}
use Rattle.receiver.specs.Receive.{Report, Received, refused_result}
use Rattle.recv_parts.specs.Parts.{nexts_of, arrays_fit}
use Rattle.recv_prefix.specs.Receiving.{receive_first}
use Rattle.recv_steps.specs.declared.PassedRows.{PassedRows}
use Rattle.recv_steps.specs.Outcome.{report_of, found_in_frames}

-- the answer, low and bits of the window of reliable numbers, whether the unsent numbers ascend, the nexts and memories, the rows, the
-- rows after them, and the store
pub record PartsReceived : Type 0 where
  pub answer : Answer Report
  pub low : ℕ
  pub ascending : Bool
  pub bits : List ℕ
  pub nexts : List ℕ
  pub rows : List Row
  pub after : List Row
  pub store : List ℕ

-- a call's outcome, of what it returns and of the last values of what it was lent
unfoldable pub parts_passed : PassedRows → List ℕ → List ℕ → List Row → List Row → List ℕ → PartsReceived
parts_passed r bits nexts rows after store =
    record {
      answer = answer_by report_of r.answer;
      low = r.low;
      ascending = r.ascending;
      bits = bits;
      nexts = nexts;
      rows = rows;
      after = after;
      store = store;
    }

-- as many zeros
unfoldable pub zeros_of : List ℕ → List ℕ
zeros_of l = replicate (length l) 0

-- A refusal leaves bits, nexts and rows as they were. Where it is found while the frames are worked on, they are all zeros: the caller
-- lends copies.
unfoldable pub parts_refused : RecvQueue → List ℕ → List Row → List Row → List ℕ → ℕ → PartsReceived
parts_refused q ns rs after st number =
    let worked = found_in_frames number in
    record {
      answer = refused number;
      low = q.reliables.low;
      ascending = false;
      bits = cond worked (zeros_of q.reliables.bits) q.reliables.bits;
      nexts = cond worked (zeros_of ns) ns;
      rows = cond worked (replicate (length rs) blank_row) rs;
      after = after;
      store = st;
    }

-- An accepted datagram leaves what the definition of receive says, each row with its body in the store.
unfoldable pub parts_accepted : RecvQueue → List Row → Received → PartsReceived
parts_accepted q after x =
    record {
      answer = x.answer;
      low = x.queue.reliables.low;
      ascending = ascending (unsent_of q);
      bits = x.queue.reliables.bits;
      nexts = nexts_of x.queue;
      rows = map stored_row x.records;
      after = after;
      store = x.store;
    }

unfoldable pub parts_by_answer : Answer Report → RecvQueue → List ℕ → List Row → List Row → Received → PartsReceived
parts_by_answer (refused number) q ns rs after x = parts_refused q ns rs after x.store number
parts_by_answer (gives report) q ns rs after x = parts_accepted q after x

-- what a receive that comes to x leaves of the nexts and memories ns, of the rows rs and of the rows after them
unfoldable pub parts_outcome : RecvQueue → List ℕ → List Row → List Row → Received → PartsReceived
parts_outcome q ns rs after x = parts_by_answer x.answer q ns rs after x

-- Receive on the first k of these rows, which stand for the first of so many records; 9, too, where an array is not as long as a
-- receiver's. ns: the nexts and memories that q was made of.
unfoldable pub receive_parts_of : RecvQueue → List ℕ → ℕ → ℕ → List Row → List ℕ → List ℕ → PartsReceived
receive_parts_of q ns k cells rows st d =
    parts_outcome q ns (take k rows) (drop k rows)
    (if_true (arrays_fit q ns) (receive_first q cells (cells_in (take k rows)) st d) (refused_result q (cells_in (take k rows)) st 9))
