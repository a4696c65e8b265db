-- Document 01's program `trace`: its three datagrams on a receiver of 32 cells just made, through the definitions that the calls' promises
-- cite.
use Rattle.std.specs.Prelude.{ℕ, ◌*◌, ◌≡◌, List, [], ◌∷◌, replicate}
use Rattle.base.specs.Answer.{Answer, refused, gives}
use Rattle.base.specs.Limits.{cell_bytes}
use Rattle.reliability.specs.declared.Profile.TheVariants.{Console}
use Rattle.bare.specs.Frame.{Message}
use Rattle.receiver.specs.Receive.{datagram_number}
use Rattle.receiver.specs.Take.{Handed, take_of}
use Rattle.receiver.specs.Calls.{Call, receive, take_with, write_unsent, made, outcome, after_all, handed_out}
use Rattle.receiver.specs.Receiver.{Receiver}
use Rattle.bench_lines.specs.BenchLines.{reported}

-- "`84000000` with the kind 3 frame above", of order number 1 and body 42
abbrev pub first_ahead : List ℕ
first_ahead = 0x84 ∷ 0x00 ∷ 0x00 ∷ 0x00 ∷ 0x60 ∷ 0x00 ∷ 0x08 ∷ 0x00 ∷ 0x00 ∷ 0x00 ∷ 0x01 ∷ 0x00 ∷ 0x00 ∷ 0x00 ∷ 0x42 ∷ []

-- "`84010000 60 0008 010000 000000 00 41`", of order number 0 and body 41
abbrev pub due : List ℕ
due = 0x84 ∷ 0x01 ∷ 0x00 ∷ 0x00 ∷ 0x60 ∷ 0x00 ∷ 0x08 ∷ 0x01 ∷ 0x00 ∷ 0x00 ∷ 0x00 ∷ 0x00 ∷ 0x00 ∷ 0x00 ∷ 0x41 ∷ []

-- "Program `trace` (32 cells)", over a store of zeros, console profile
abbrev pub start : Receiver
start = made Console 32 (replicate (cell_bytes * 32) 0)

-- an output that an ACK of one number fills
abbrev pub ack_room : List ℕ
ack_room = replicate 7 0

-- a joining buffer of no bytes: no message here has several pieces
abbrev pub take_one : Call
take_one = take_with []

-- "after each takes all ready and empties the acknowledgements"
abbrev pub first_calls : List Call
first_calls = receive first_ahead ∷ take_one ∷ write_unsent ack_room ∷ []

abbrev pub second_calls : List Call
second_calls = receive due ∷ take_one ∷ take_one ∷ take_one ∷ write_unsent ack_room ∷ []

-- what a take answers
abbrev pub took : Receiver → Answer Handed
took x = (take_of x.queue x.records x.store []).answer

-- a message of kind 3 in channel 0
abbrev pub message_of3 : ℕ → List ℕ → Message
message_of3 order body = record { kind = 3; channel = 0; order = order; body = body }

pub record Trace : Type 0 where
  -- "0 0 0 0"
  pub first : (datagram_number first_ahead ≡ 0) × (reported start first_ahead ≡ gives (record { ready = 0; dropped = 0; left = 0 }))
  -- no message is ready
  pub first_none : handed_out outcome start first_calls ≡ []
  -- "1 0 2 0"
  pub second : (datagram_number due ≡ 1)
      × (reported (after_all outcome start first_calls) due ≡ gives (record { ready = 2; dropped = 0; left = 0 }))
  -- "+ 1" and "+ 1": the message that was held follows
  pub second_two : handed_out outcome (after_all outcome start first_calls) second_calls
      ≡ message_of3 0 (0x41 ∷ []) ∷ message_of3 1 (0x42 ∷ []) ∷ []
  -- "0 4 0 0"
  pub third : reported (after_all outcome (after_all outcome start first_calls) second_calls) first_ahead ≡ refused 4
  -- and then no message is ready
  pub third_none : took (after_all outcome (after_all outcome start first_calls) second_calls) ≡ refused 20
