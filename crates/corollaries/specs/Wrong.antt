-- Wrong receivers, which document 01's (c) wants shut out, and the calls of its program `trace` that find them out; such as drop
-- unfinished messages (request 4) never, too early, by a wrong age, or others than they should; and such as a save changes, or as are not
-- restored as they were saved (request 5). And calls that find these out.
use Rattle.std.specs.Prelude.{ℕ, ◌*◌, ◌-◌, refl, Bool, cond, not, ◌&&◌, List, [], ◌∷◌, ltb, leb, eqb, length}
use Rattle.std.proofs.Common.{arith}
use Rattle.base.specs.Answer.{Answer, refused, gives}
use Rattle.base.specs.Limits.{max_cells, cell_bytes}
use Rattle.base.specs.Lists.{option, every, count_of}
use Rattle.reliability.specs.declared.Profile.TheVariants.{Console}
use Rattle.bare.specs.Frame.{carries_reliable}
use Rattle.cells.specs.Cell.{Cell, empty_cell, mark_cell, open_use, held_use, ready_use}
use Rattle.cells.specs.Ages.{with_age, next_age, is_stale}
use Rattle.cells.specs.Records.{change_cells}
use Rattle.receiver.specs.declared.RecvQueue.{RecvQueue}
use Rattle.receiver.specs.Queue.{profile_in}
use Rattle.receiver.specs.Receive.{Report, Received, receive_of}
use Rattle.receiver.specs.Take.{TakeResult, take_refuses, take_of}
use Rattle.receiver.specs.Drop.{DropResult, drop_unfinished_of}
use Rattle.receiver.specs.Calls.{Call, receive, take_with, write_unsent, write_missing, drop_unfinished, save, resume, Outcome}
use Rattle.receiver.specs.Receiver.{Receiver}
use Rattle.receiver.specs.Calls.{receive_outcome, take_outcome, drop_outcome, outcome, made, zeros}
use Rattle.receiver.specs.Claim.{Start}

-- the calls' outcomes, with another receive, another take or another drop
abbrev pub our_receive : Receiver → List ℕ → Received
our_receive x d = receive_of x.queue x.records x.store d

abbrev pub our_take : Receiver → List ℕ → TakeResult
our_take x buffer = take_of x.queue x.records x.store buffer

abbrev pub our_drop : Receiver → ℕ → DropResult
our_drop x n = drop_unfinished_of x.queue x.records x.store n

unfoldable pub outcome_with : (Receiver → List ℕ → Received) → (Receiver → List ℕ → TakeResult) → (Receiver → ℕ → DropResult) → Receiver
    → Call → Outcome
outcome_with receiving taking dropping x (receive d) = receive_outcome (profile_in x.queue) d (receiving x d)
outcome_with receiving taking dropping x (take_with buffer) = take_outcome x (taking x buffer)
outcome_with receiving taking dropping x (write_unsent out) = outcome x (write_unsent out)
outcome_with receiving taking dropping x (write_missing out) = outcome x (write_missing out)
outcome_with receiving taking dropping x (drop_unfinished n) = drop_outcome x n (dropping x n)
outcome_with receiving taking dropping x (save out) = outcome x (save out)
outcome_with receiving taking dropping x (resume out y) = outcome x (resume out y)

-- "an idle one": it accepts every datagram and does nothing
unfoldable pub idle : Receiver → Call → Outcome
idle = outcome_with (λ x d. record {
  answer = gives (record { ready = 0; dropped = 0; left = 0 });
  queue = x.queue;
  records = x.records;
  store = x.store;
}) our_take our_drop

-- was no datagram accepted yet?
unfoldable pub untouched : RecvQueue → Bool
untouched q = eqb q.datagrams.low 0 && every (eqb 0) q.datagrams.bits

-- a datagram answered as it should be, and acknowledged, of which nothing else is kept
unfoldable pub acknowledged : Receiver → Received → Received
acknowledged x r =
    record {
      answer = r.answer;
      queue = record {
        datagrams = r.queue.datagrams;
        reliables = x.queue.reliables;
        channels = x.queue.channels;
        unsent = r.queue.unsent;
        pending = r.queue.pending;
        newest = x.queue.newest;
        profile = x.queue.profile;
      };
      records = x.records;
      store = x.store;
    }

-- "a receiver that joins and orders its first datagram and only acknowledges later ones"
unfoldable pub first_only : Receiver → Call → Outcome
first_only = outcome_with (λ x d. let r = our_receive x d in cond (untouched x.queue) r (acknowledged x r)) our_take our_drop

-- one that never hands out: every take answers 20
unfoldable pub mute : Receiver → Call → Outcome
mute = outcome_with our_receive (λ x buffer. take_refuses x.records buffer 20) our_drop

-- one that never drops: every drop frees 0
unfoldable pub keeping : Receiver → Call → Outcome
keeping = outcome_with our_receive our_take (λ x n. record { answer = gives 0; records = x.records })

-- an open record "whose kind carries no reliable number"
unfoldable pub droppable : Cell → Bool
droppable c = eqb c.used open_use && not (carries_reliable c.kind)

-- one that drops a message as soon as n further datagrams were accepted, not more than n
unfoldable pub is_stale_early : ℕ → Cell → Bool
is_stale_early n c = droppable c && leb n c.age

unfoldable pub hasty : Receiver → Call → Outcome
hasty = outcome_with our_receive our_take (λ x n. record {
  answer = gives (count_of (is_stale_early n) x.records);
  records = change_cells (is_stale_early n) (λ c. empty_cell) x.records;
})

-- one whose open ids grow older at a refused datagram, too
unfoldable pub aged_if_refused : Answer Report → List Cell → List Cell
aged_if_refused (refused number) rs = change_cells (λ c. eqb c.used open_use) (λ c. with_age (next_age c.age) c) rs
aged_if_refused (gives r) rs = rs

unfoldable pub counting_refused : Receiver → Call → Outcome
counting_refused = outcome_with (λ x d. let r = our_receive x d in
    record { answer = r.answer; queue = r.queue; records = aged_if_refused r.answer r.records; store = r.store }) our_take our_drop

-- one that frees as many cells as it should, but the last that it could, whichever ids are theirs
unfoldable pub without_last : ℕ → List Cell → List Cell
without_last k [] = []
without_last k (c ∷ cs) = cond (droppable c && ltb (count_of droppable cs) k) empty_cell c ∷ without_last k cs

unfoldable pub another_id : Receiver → Call → Outcome
another_id = outcome_with our_receive our_take (λ x n. record {
  answer = (our_drop x n).answer;
  records = without_last (count_of (is_stale n) x.records) x.records;
})

-- the calls' outcomes, with something done to the receiver that a save, or a resumption, leaves (where it is not refused)
unfoldable pub leaving : (Receiver → Receiver) → Outcome → Outcome
leaving f o = record {
  left = option o.refusal (f o.left) (λ number. o.left);
  refusal = o.refusal;
  handed = o.handed;
  done = o.done;
}

unfoldable pub outcome_then : (Receiver → Receiver) → (Receiver → Receiver) → Receiver → Call → Outcome
outcome_then saved resumed x (save out) = leaving saved (outcome x (save out))
outcome_then saved resumed x (resume out y) = leaving resumed (outcome x (resume out y))
outcome_then saved resumed x c = outcome x c

abbrev pub as_it_is : Receiver → Receiver
as_it_is x = x

-- without the cells of some use
unfoldable pub without_use : ℕ → Receiver → Receiver
without_use u x = record {
  queue = x.queue;
  records = change_cells (λ c. eqb c.used u) (λ c. empty_cell) x.records;
  store = x.store;
}

-- one whose save drops the held messages
unfoldable pub save_drops_held : Receiver → Call → Outcome
save_drops_held = outcome_then (without_use held_use) as_it_is

-- one that goes on with a new receiver after a resumption: nothing is kept or remembered
unfoldable pub forgetful : Receiver → Call → Outcome
forgetful = outcome_then as_it_is (λ x. made (profile_in x.queue) (length x.records) x.store)

-- one whose resumption keeps all but the held messages; all but the open pieces
unfoldable pub loses_held : Receiver → Call → Outcome
loses_held = outcome_then as_it_is (without_use held_use)

unfoldable pub loses_open : Receiver → Call → Outcome
loses_open = outcome_then as_it_is (without_use open_use)

-- one whose resumption sets the age of every open id to 0
unfoldable pub loses_ages : Receiver → Call → Outcome
loses_ages = outcome_then as_it_is (λ x. record {
  queue = x.queue;
  records = change_cells (λ c. eqb c.used open_use) (with_age 0) x.records;
  store = x.store;
})

-- one whose resumption reverses the order of the ready messages
unfoldable pub reversing : Receiver → Call → Outcome
reversing = outcome_then as_it_is (λ x. record {
  queue = x.queue;
  records = change_cells (λ c. eqb c.used ready_use) (λ c. mark_cell ready_use (max_cells - c.turn) c) x.records;
  store = x.store;
})

-- one whose resumption exchanges the two windows
unfoldable pub exchanged : RecvQueue → RecvQueue
exchanged q =
    record {
      datagrams = q.reliables;
      reliables = q.datagrams;
      channels = q.channels;
      unsent = q.unsent;
      pending = q.pending;
      newest = q.newest;
      profile = q.profile;
    }

unfoldable pub exchanging : Receiver → Call → Outcome
exchanging = outcome_then as_it_is (λ x. record { queue = exchanged x.queue; records = x.records; store = x.store })

-- `trace`: "`84000000` with the kind 3 frame above", which is `60 00 08 00 00 00 01 00 00 00 42`
unfoldable pub trace1 : List ℕ
trace1 = 0x84 ∷ 0 ∷ 0 ∷ 0 ∷ 0x60 ∷ 0 ∷ 8 ∷ 0 ∷ 0 ∷ 0 ∷ 1 ∷ 0 ∷ 0 ∷ 0 ∷ 0x42 ∷ []

-- "`84010000 60 0008 010000 000000 00 41`"
unfoldable pub trace2 : List ℕ
trace2 = 0x84 ∷ 1 ∷ 0 ∷ 0 ∷ 0x60 ∷ 0 ∷ 8 ∷ 1 ∷ 0 ∷ 0 ∷ 0 ∷ 0 ∷ 0 ∷ 0 ∷ 0x41 ∷ []

-- "after each takes all ready and empties the acknowledgements"; "the first again"
unfoldable pub trace_calls : List Call
trace_calls =
    receive trace1 ∷ take_with [] ∷ write_unsent (zeros 16)
    ∷ receive trace2 ∷ take_with [] ∷ take_with [] ∷ take_with [] ∷ write_unsent (zeros 16)
    ∷ receive trace1 ∷ take_with [] ∷ write_unsent (zeros 16) ∷ []

-- datagram n with the first of two pieces, of kind 0 and this id
unfoldable pub half : ℕ → ℕ → List ℕ
half n id = 0x84 ∷ n ∷ 0 ∷ 0 ∷ 0x10 ∷ 0 ∷ 8 ∷ 0 ∷ 0 ∷ 0 ∷ 2 ∷ 0 ∷ id ∷ 0 ∷ 0 ∷ 0 ∷ 0 ∷ 0x41 ∷ []

-- its second sending is refused, by 4; then no further datagram was accepted, and after that one more
unfoldable pub drop_calls : List Call
drop_calls = receive (half 0 5) ∷ receive (half 0 5) ∷ drop_unfinished 0 ∷ receive trace2 ∷ drop_unfinished 0 ∷ []

-- id 5's half came a datagram before id 6's
unfoldable pub two_ids : List Call
two_ids = receive (half 0 5) ∷ receive (half 1 6) ∷ drop_unfinished 0 ∷ []

-- datagram n with a whole message of kind 3, of this reliable and order number
unfoldable pub numbered_whole : ℕ → ℕ → ℕ → List ℕ
numbered_whole n number byte = 0x84 ∷ n ∷ 0 ∷ 0 ∷ 0x60 ∷ 0 ∷ 8 ∷ number ∷ 0 ∷ 0 ∷ number ∷ 0 ∷ 0 ∷ 0 ∷ byte ∷ []

-- over n cells, with an output long enough
unfoldable pub resume_over : ℕ → Call
resume_over n = resume (zeros 1300) (made Console n (zeros (cell_bytes * n)))

-- order number 1 is held; a save; order number 0 makes both ready; and a resumption
unfoldable pub saved_calls : List Call
saved_calls = receive trace1 ∷ save (zeros 1300) ∷ receive trace2 ∷ resume_over 2 ∷ []

-- id 5's half, and order number 1, which is held; a resumption; order number 0 makes both ready; they are taken; and id 5 is dropped, since
-- whose half two further datagrams were accepted
unfoldable pub resumed_calls : List Call
resumed_calls =
    receive (half 0 5) ∷ receive (numbered_whole 2 1 0x42) ∷ write_unsent (zeros 16) ∷ resume_over 3 ∷ receive (numbered_whole 3 0 0x41)
    ∷ take_with [] ∷ take_with [] ∷ drop_unfinished 1 ∷ []

-- two cells do
unfoldable pub trace_start : Start
unfolding zeros
trace_start = record {
  profile = Console;
  cells = 2;
  store = zeros 3000;
  some_cells = omega arith;
  most-cells = omega arith;
  store_length = refl;
}
