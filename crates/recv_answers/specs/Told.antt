-- The receiver's answers in numbers: all 0 beside a refusal's.
use Rattle.std.specs.Prelude.{ℕ, true, false}
use Rattle.base.specs.Answer.{Answer, refused, gives}
use Rattle.receiver.specs.Receive.{Report}
use Rattle.receiver.specs.Take.{Where, in_store, in_joined, Handed}
use Rattle.recv_answers.specs.declared.QueueReceived.{QueueReceived}
use Rattle.recv_answers.specs.declared.QueueTaken.{QueueTaken}
use Rattle.recv_answers.specs.declared.QueueDropped.{QueueDropped}
use Rattle.recv_answers.specs.declared.QueueSaved.{QueueSaved}

abbrev pub not_received : ℕ → QueueReceived
not_received number = record { number = number; ready = 0; dropped = 0; left = 0 }

abbrev pub receive_told : Answer Report → QueueReceived
receive_told (refused number) = not_received number
receive_told (gives r) = record { number = 0; ready = r.ready; dropped = r.dropped; left = r.left }

abbrev pub not_taken : ℕ → QueueTaken
not_taken number = record { number = number; kind = 0; channel = 0; order = 0; joined = false; start = 0; len = 0 }

-- a message at the front of the joining buffer starts at 0
abbrev pub handed_told : ℕ → ℕ → ℕ → Where → QueueTaken
handed_told kind channel order (in_store start len) = record {
  number = 0;
  kind = kind;
  channel = channel;
  order = order;
  joined = false;
  start = start;
  len = len;
}
handed_told kind channel order (in_joined len) = record {
  number = 0;
  kind = kind;
  channel = channel;
  order = order;
  joined = true;
  start = 0;
  len = len;
}

abbrev pub take_told : Answer Handed → QueueTaken
take_told (refused number) = not_taken number
take_told (gives h) = handed_told h.kind h.channel h.order h.body

abbrev pub drop_told : Answer ℕ → QueueDropped
drop_told (refused number) = record { number = number; freed = 0 }
drop_told (gives freed) = record { number = 0; freed = freed }

abbrev pub save_told : Answer ℕ → QueueSaved
save_told (refused number) = record { number = number; len = 0 }
save_told (gives len) = record { number = 0; len = len }
