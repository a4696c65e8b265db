-- What each of the seven calls of a list does to a receiver, by the very definitions that the calls' promises cite; and lists of calls.
use Rattle.std.specs.Prelude.{ℕ, zero, suc, ◌*◌, List, [], ◌∷◌, ◌++◌, map, length, take, drop, replicate}
use Rattle.std.proofs.Math.Option.{Option, none, some}
use Rattle.base.specs.Answer.{Answer, refused, gives}
use Rattle.base.specs.Limits.{max_frags, cell_bytes}
use Rattle.reliability.specs.declared.Profile.{Profile}
use Rattle.bare.specs.Frame.{Frame, Message}
use Rattle.bare.specs.Bare.{feed}
use Rattle.bare.specs.Unfinished.{Dated, receive_dated, drop_stale, stale_pieces, Event, datagram, drop_past}
use Rattle.cells.specs.Cell.{empty_cell}
use Rattle.receiver.specs.Queue.{new_queue, profile_in}
use Rattle.receiver.specs.Receive.{Report, Received, frames_in, receive_of}
use Rattle.receiver.specs.Take.{Where, in_store, in_joined, Handed, TakeResult, take_of}
use Rattle.receiver.specs.Write.{Wrote, write_unsent_of, write_missing_of}
use Rattle.receiver.specs.Drop.{DropResult, drop_unfinished_of}
use Rattle.receiver.specs.Receiver.{Receiver}
use Rattle.receiver.specs.Save.{Saved, save_of}
use Rattle.receiver.specs.Restore.{Restored, restore_of}

-- "A list holds the calls receive, take, writing the unsent and writing the missing", and dropping the unfinished ("its lists hold this
-- call too", request 4), and saving ("Demand 3's lists may hold saves, which change nothing", request 5); "Datagrams, joining buffers and
-- outputs are each call's own and may hold anything." And resuming: the receiver is saved, the image restored over another lent receiver,
-- records and store, and the list goes on with these ("A restored receiver's list of calls is the one up to its save, then the calls after
-- the restore").
pub data Call : Type 0 where
  receive : List ℕ → Call
  take_with : List ℕ → Call
  write_unsent : List ℕ → Call
  write_missing : List ℕ → Call
  drop_unfinished : ℕ → Call
  save : List ℕ → Call
  resume : List ℕ → Receiver → Call

-- "It begins with a receiver just made, of any number of cells": over any store of n cells, and of either profile
unfoldable pub made : Profile → ℕ → List ℕ → Receiver
made p n store = record { queue = new_queue p; records = replicate n empty_cell; store = store }

-- an accepted datagram: the frames read from it, and the counts that its answer reports
pub record Accepted : Type 0 where
  pub frames : List Frame
  pub ready : ℕ
  pub dropped : ℕ

-- unfinished messages dropped: the call's n, and "how many cells it freed"
pub record Freed : Type 0 where
  pub past : ℕ
  pub cells : ℕ

-- What a call did that the bare receiver does too, with what was answered.
pub data Done : Type 0 where
  accepted : Accepted → Done
  freed : Freed → Done

-- What a call comes to: what it leaves; "A refusal returns its number"; the message that it handed out, and what the bare receiver does
-- too, at most one each.
pub record Outcome : Type 0 where
  pub left : Receiver
  pub refusal : Option ℕ
  pub handed : List Message
  pub done : List Done

unfoldable pub refusal_of : {A : Type 0} → Answer A → Option ℕ
refusal_of (refused number) = some number
refusal_of (gives x) = none

-- "A datagram is accepted when receive gives it no refusal number"; its frames are read under the receiver's profile
unfoldable pub accepted_by : Profile → List ℕ → Answer Report → List Done
accepted_by p d (refused number) = []
accepted_by p d (gives r) = accepted (record { frames = frames_in p d; ready = r.ready; dropped = r.dropped }) ∷ []

-- a receive leaves all three
unfoldable pub receive_outcome : Profile → List ℕ → Received → Outcome
receive_outcome p d r = record {
  left = record { queue = r.queue; records = r.records; store = r.store };
  refusal = refusal_of r.answer;
  handed = [];
  done = accepted_by p d r.answer;
}

-- the bytes that a take hands out, read where it says that they stand
unfoldable pub bytes_at : List ℕ → List ℕ → Where → List ℕ
bytes_at store joined (in_store start len) = take len (drop start store)
bytes_at store joined (in_joined len) = take len joined

unfoldable pub message_handed : List ℕ → List ℕ → Handed → Message
message_handed store joined h = record { kind = h.kind; channel = h.channel; order = h.order; body = bytes_at store joined h.body }

-- one message where the take gave one
unfoldable pub took_of : List ℕ → TakeResult → List Message
took_of store r = given r.answer
  where
    given : Answer Handed → List Message
    given (refused number) = []
    given (gives h) = message_handed store r.joined h ∷ []

-- a take leaves other records
unfoldable pub take_outcome : Receiver → TakeResult → Outcome
take_outcome x r = record {
  left = record { queue = x.queue; records = r.records; store = x.store };
  refusal = refusal_of r.answer;
  handed = took_of x.store r;
  done = [];
}

-- "A writing may be lent no cells; records and store then stay as they are."
unfoldable pub write_outcome : Receiver → Wrote → Outcome
write_outcome x w = record {
  left = record { queue = w.queue; records = x.records; store = x.store };
  refusal = refusal_of w.answer;
  handed = [];
  done = [];
}

-- where it was not refused
unfoldable pub dropped_by : ℕ → Answer ℕ → List Done
dropped_by n (refused number) = []
dropped_by n (gives cells) = freed (record { past = n; cells = cells }) ∷ []

-- a drop leaves other records
unfoldable pub drop_outcome : Receiver → ℕ → DropResult → Outcome
drop_outcome x n r = record {
  left = record { queue = x.queue; records = r.records; store = x.store };
  refusal = refusal_of r.answer;
  handed = [];
  done = dropped_by n r.answer;
}

-- a save changes nothing
unfoldable pub save_outcome : Receiver → Saved → Outcome
save_outcome x r = record { left = x; refusal = refusal_of r.answer; handed = []; done = [] }

-- the list goes on with what was restored; where the restore is refused, with what was saved
unfoldable pub restored_or : Receiver → Receiver → Answer (Unit {0}) → Receiver
restored_or x y (refused number) = x
restored_or x y (gives done) = y

unfoldable pub restore_outcome : Receiver → Restored → Outcome
restore_outcome x r = record { left = restored_or x r.left r.answer; refusal = refusal_of r.answer; handed = []; done = [] }

-- the image that the save wrote is restored over y, where the save was not refused
unfoldable pub resume_outcome : Receiver → Receiver → Saved → Outcome
resume_outcome x y r = saved r.answer
  where
    saved : Answer ℕ → Outcome
    saved (refused number) = save_outcome x r
    saved (gives len) = restore_outcome x (restore_of y.queue y.records y.store (take len r.out))

unfoldable pub outcome : Receiver → Call → Outcome
outcome x (receive d) = receive_outcome (profile_in x.queue) d (receive_of x.queue x.records x.store d)
outcome x (take_with buffer) = take_outcome x (take_of x.queue x.records x.store buffer)
outcome x (write_unsent out) = write_outcome x (write_unsent_of x.queue out)
outcome x (write_missing out) = write_outcome x (write_missing_of x.queue out)
outcome x (drop_unfinished n) = drop_outcome x n (drop_unfinished_of x.queue x.records x.store n)
outcome x (save out) = save_outcome x (save_of x.queue x.records x.store out)
outcome x (resume out y) = resume_outcome x y (save_of x.queue x.records x.store out)

-- a joining buffer long enough for every message, and n takes with it
unfoldable pub zeros : ℕ → List ℕ
zeros n = replicate n 0

unfoldable pub long_buffer : List ℕ
long_buffer = zeros (max_frags * cell_bytes)

unfoldable pub takes : ℕ → List Call
takes zero = []
takes (suc n) = take_with long_buffer ∷ takes n

-- Lists of calls, "refused ones too, in any order", whose calls go by any outcome; the claim is about the one above.
module _ (by : Receiver → Call → Outcome) where
  unfoldable pub after_all : Receiver → List Call → Receiver
  after_all x [] = x
  after_all x (c ∷ cs) = after_all (by x c).left cs

  -- what the list's takes handed out, in their order
  unfoldable pub handed_out : Receiver → List Call → List Message
  handed_out x [] = []
  handed_out x (c ∷ cs) = (by x c).handed ++ handed_out (by x c).left cs

  -- its accepted datagrams and what it dropped, in their order
  unfoldable pub done_by : Receiver → List Call → List Done
  done_by x [] = []
  done_by x (c ∷ cs) = (by x c).done ++ done_by (by x c).left cs

  -- "those that takes with a joining buffer long enough would hand out until 20": as many takes as there are cells hand out all that is
  -- ready (the claim says that the take after them gets 20): what they hand out, and what they leave
  unfoldable pub still_out : Receiver → List Message
  still_out x = handed_out x (takes (length x.records))

  unfoldable pub drained : Receiver → Receiver
  drained x = after_all x (takes (length x.records))

-- what the bare receiver is told of it
unfoldable pub event_of : Done → Event
event_of (accepted a) = datagram a.frames
event_of (freed f) = drop_past f.past

unfoldable pub events_of : List Done → List Event
events_of ds = map event_of ds

-- what the bare receiver answers to the same
unfoldable pub bare_answers : Dated → List Done → List Done
bare_answers d [] = []
bare_answers d (accepted a ∷ rest) =
    accepted (record { frames = a.frames; ready = (feed d.bare a.frames).ready; dropped = (feed d.bare a.frames).dropped })
    ∷ bare_answers (receive_dated a.frames d) rest
bare_answers d (freed f ∷ rest) = freed (record { past = f.past; cells = stale_pieces f.past d })
    ∷ bare_answers (drop_stale f.past d) rest
