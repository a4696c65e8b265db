-- A receive on rows: the refusals that are found before the frames are worked on, what these begin with, and what is returned.
use Rattle.std.specs.Prelude.{ℕ, ◌≤◌, ◌<◌, ◌≡◌, Bool, true, false, List, map, length, get_or, Result, Ok, Err}
use Rattle.base.specs.declared.refusal.Refusal.{Refusal}
use Rattle.base.specs.declared.refusal.Refusal.TheVariants.{Cut, TooLong, FirstByte, Old, Beyond, UnsentFull, NotSound}
use Rattle.base.specs.If.{if_true, if_lt, if_le}
use Rattle.base.specs.Limits.{min_datagram, max_datagram, max_unsent, window_places, max_ord_chans}
use Rattle.base.specs.Lists.{option, count_of}
use Rattle.base.specs.Numbers.{distance}
use Rattle.window.specs.Window.{accepted}
use Rattle.ack.specs.Write.{ascending}
use Rattle.cells.specs.Cell.{Cell, open_use, ready_use}
use Rattle.cells.specs.Datagram.{datagram}
use Rattle.cells.specs.Records.{before_cell}
use Rattle.cells.specs.Sound.{lengths, sound_cells}
use Rattle.rows.specs.declared.Row.{Row}
use Rattle.rows.specs.Rows.{cells_in, cell_of, mark_row, older_row, change_row, change_rows}
use Rattle.receiver.specs.declared.Channel.{Channel}
use Rattle.receiver.specs.declared.RecvQueue.{RecvQueue}
use Rattle.receiver.specs.Queue.{next_in, profile_in, unsent_of}
use Rattle.receiver.specs.Receive.{datagram_number, is_datagram, frames_in, accept_all, state_of}
use Rattle.receiver.specs.Receive.{accepted_result, refused_result, sound_call, receive_of}
use Rattle.receiver.specs.Receive as Definition
use Rattle.row_tests.specs.Uses.{uses}
use Rattle.row_bodies.specs.Flush.{stored}
use Rattle.sound_queue.specs.Sound.{queue_sound_of}
use Rattle.recv_steps.specs.declared.Received.{Received}
use Rattle.recv_steps.specs.Outcome.{received_rows, rows_outcome}

-- r, and the receiver, the rows and the store afterwards, are what the definition says of all rows
pub record Receives (q : RecvQueue) (rows : List Row) (st d : List ℕ) (r : Result Received Refusal) (q' : RecvQueue) (rows' : List Row)
    (st' : List ℕ) : Type 0 where
  pub is : received_rows r q' rows' st' ≡ rows_outcome rows (receive_of q (cells_in rows) st d)

-- what receive comes to where no refusal before the frames applies: 7 and 8, and an accepted datagram
unfoldable pub worked : RecvQueue → List Cell → List ℕ → List ℕ → Definition.Received
worked q cs st d = option (accept_all q.reliables (frames_in (profile_in q) d)) (refused_result q cs st 7)
    (λ reliables. if_true (datagram (state_of q cs st) (frames_in (profile_in q) d)).full (refused_result q cs st 8)
    (accepted_result q st d reliables (datagram (state_of q cs st) (frames_in (profile_in q) d))))

-- what is known where the refusals 9 and 1 to 6 do not apply
pub record Numbered (q : RecvQueue) (rows : List Row) (st d : List ℕ) (ascends : Bool) (number : ℕ) : Type 0 where
  pub sound : sound_call q (cells_in rows) st ≡ true
  pub rising : ascends ≡ ascending (unsent_of q)
  pub short : length d ≤ max_datagram
  pub is : number ≡ datagram_number d
  pub fresh : accepted q.datagrams (datagram_number d) ≡ false
  pub near : distance q.datagrams.low (datagram_number d) ≤ window_places
  pub room : q.pending < max_unsent
  pub channels : length q.channels ≡ max_ord_chans
  pub goes : receive_of q (cells_in rows) st d ≡ worked q (cells_in rows) st d

-- 9, of the records
unfoldable pub cells_of : List Row → List Channel → Result (Unit {0}) Refusal
cells_of rows cs = if_true (sound_cells (cells_in rows) (next_in cs)) (Ok tt) (Err NotSound)

-- 1, 2 and 3
unfoldable pub head_of : List ℕ → Result (Unit {0}) Refusal
head_of d = if_lt (length d) min_datagram (Err Cut) (if_lt max_datagram (length d) (Err TooLong)
    (if_true (is_datagram (get_or d 0 0)) (Ok tt) (Err FirstByte)))

-- what is known where refusal 9 does not apply
pub record Judged (q : RecvQueue) (rows : List Row) (st : List ℕ) (ascends : Bool) : Type 0 where
  pub fit : lengths (length rows) (length st) ≡ true
  pub values : Ok ascends ≡ queue_sound_of q
  pub records : Ok tt ≡ cells_of rows q.channels
  pub channels : length q.channels ≡ max_ord_chans

-- 4, 5 and 6; the datagram's number
unfoldable pub fresh_of : RecvQueue → List ℕ → Result ℕ Refusal
fresh_of q d = if_true (accepted q.datagrams (datagram_number d)) (Err Old)
    (if_lt window_places (distance q.datagrams.low (datagram_number d)) (Err Beyond)
    (if_le max_unsent q.pending (Err UnsentFull) (Ok (datagram_number d))))

-- the ready messages' turns become 0, 1, 2, .. in their order
unfoldable pub ranked_rows : List Row → List Row
ranked_rows rs = change_rows (uses ready_use) (λ r. mark_row ready_use (count_of (before_cell r.cell.turn) (map cell_of rs)) r) rs

-- a row that stands in the store, older by a datagram where it is open
unfoldable pub begun_row : Row → Row
begun_row r = change_row (uses open_use) older_row (stored r)

-- the rows that a datagram's frames begin with
unfoldable pub begun_rows : List Row → List Row
begun_rows rs = map begun_row (ranked_rows rs)
