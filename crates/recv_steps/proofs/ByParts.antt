-- A receive of a receiver that is lent by its parts, from the receive of the receiver that is made of them.
--     first-soundly        an accepted datagram's receiver is sound
--     ascends_told         whether its unsent numbers ascend
--     passes               what the call leaves of receiver and rows, as the parts say it: accepted, and refused
--     all_put              what the receiver has, written over a list of its length
--     clears               a refusal that is found while the frames are worked on
--     parts                the arrays are not as long as a receiver's; they are, and the receiver is that of the parts, the rows the
--                          first k
-- Assumes nothing.
use Prim.Native.Nat.{ℕ, ◌*◌, ◌≤◌, min}
use native.Mathlib.Decide.{dec_le}
use native.Mathlib.Nat.{zero-add}
use native.Mathlib.Omega.{arith}
use mathlib.Core.Path.{◌≡◌, refl, sym, ◌∙◌, ap}
use mathlib.Core.Bool.{Bool, true, false, cond}
use mathlib.Core.List.{List, ◌++◌, append-nil, map}
use lib.ListN.{length, take, drop, replicate, drop_of_length-le}
use lib.Seq.{take_all, drop-length, take-append_seam}
use Rattle.std.proofs.lemmas.List.{take_min}
use Rattle.std.proofs.lemmas.Slice.{drop-append-drop}
use Rattle.std.specs.Prelude.{Result, Ok, Err}
use Rattle.std.specs.Result.{result_unwrap_or}
use Rattle.base.specs.Answer.{Answer, refused, gives}
use Rattle.base.specs.Limits.{cell_bytes}
use Rattle.base.specs.Put.{Run}
use Rattle.base.specs.Refusals.{number_of}
use Rattle.base.specs.declared.refusal.Refusal.{Refusal}
use Rattle.base.specs.declared.refusal.Refusal.TheVariants.{NotSound}
use Rattle.base.proofs.Choices.{and_left, and_right}
use Rattle.base.proofs.Ifs.{true-yes, true-no}
use Rattle.base.proofs.Puts.{put-split}
use Rattle.ack.specs.Write.{ascending}
use Rattle.cells.specs.Cell.{Cell}
use Rattle.cells.specs.Sound.{lengths, sound_cells}
use Rattle.rows.specs.declared.Row.{Row}
use Rattle.rows.specs.Rows.{cells_in, stored_row}
use Rattle.receiver.specs.declared.RecvQueue.{RecvQueue}
use Rattle.receiver.specs.Queue.{next_of, unsent_of, sound_queue}
use Rattle.receiver.specs.Receive.{Report, refused_result, accepted_result, sound_call}
use Rattle.receiver.specs.Receive as Definition
use Rattle.receiver.proofs.AnswerCases.{by-true, by_le, receive-ways}
use Rattle.recv_parts.specs.declared.Heads.{Heads}
use Rattle.recv_parts.specs.Parts.{many_nexts, nexts_of, queue_of, arrays_fit}
use Rattle.recv_parts.specs.Fitted.{fitted}
use Rattle.recv_parts.proofs.Fits.{fits-bits, fitted-same}
use Rattle.recv_prefix.specs.Receiving.{with_rest, receive_first}
use Rattle.sound_queue.specs.Sound.{queue_sound_of}
use Rattle.recv_steps.specs.declared.PassedRows.{PassedRows}
use Rattle.recv_steps.specs.declared.Received.{Received}
use Rattle.recv_steps.specs.Outcome.{report_of, RowsReceived, received_rows, found_in_frames, rows_left, rows_outcome, receive_rows_of}
use Rattle.recv_steps.specs.ByParts.{parts_passed, zeros_of, parts_refused, parts_accepted, parts_by_answer, parts_outcome}
use Rattle.recv_steps.specs.ByParts.{receive_parts_of}

-- ---- an accepted datagram's receiver is sound
module _ (q : RecvQueue) where
  abbrev Soundly : Definition.Received → Type 0
  Soundly x = (report : Report) → x.answer ≡ gives report → sound_queue q ≡ true

  refused-soundly : (cs : List Cell) (st : List ℕ) (number : ℕ) → Soundly (refused_result q cs st number)
  unfolding refused_result
  refused-soundly cs st number report e = absurd (let z : ◌≡◌ {A = ℕ} 0 1 = cc in omega arith)

  call-soundly : (cs : List Cell) (st : List ℕ) → sound_call q cs st ≡ true → sound_queue q ≡ true
  unfolding sound_call
  call-soundly cs st s =
      and_left (sound_queue q) (sound_cells cs (next_of q)) (and_right (lengths (length cs) (length st)) _ s)

  first-soundly : (cells : ℕ) (cs : List Cell) (st d : List ℕ) → Soundly (receive_first q cells cs st d)
  unfolding receive_first with_rest refused_result
  first-soundly cells cs st d =
      by-true Soundly (lengths cells (length st))
      (λ _. by_le Soundly (length cs) cells
      (λ _. receive-ways q cs (take (cell_bytes * length cs) st) d
      (λ (x : Definition.Received). Soundly (with_rest (drop (cell_bytes * length cs) st) x))
      (λ number. refused-soundly cs (take (cell_bytes * length cs) st ++ drop (cell_bytes * length cs) st) number)
      (λ a report e. call-soundly cs (take (cell_bytes * length cs) st) a.sound))
      (λ _. refused-soundly cs st 9))
      (λ _. refused-soundly cs st 9)

  -- what the test of the receiver told
  pub ascends_told : {r : Result Bool Refusal} → r ≡ queue_sound_of q → {b : Bool} → b ≡ result_unwrap_or r false
      → sound_queue q ≡ true → b ≡ ascending (unsent_of q)
  unfolding queue_sound_of
  ascends_told e f s = f ∙ rw (e, s)

-- ---- afterwards, of a receive that comes to x
module _ (q : RecvQueue) (ns : List ℕ) (rows after : List Row) (x : Definition.Received) (q' : RecvQueue) (rows' : List Row)
    (st' bits' ns' : List ℕ) where
  accepted-passes : (r : Received) → received_rows (Ok r) q' rows' st' ≡ rows_outcome rows x
      → (rising : Bool) → rising ≡ ascending (unsent_of q) → bits' ≡ q'.reliables.bits → ns' ≡ nexts_of q'
      → parts_passed (record { answer = Ok r; low = q'.reliables.low; ascending = rising }) bits' ns' rows' after st'
      ≡ parts_outcome q ns rows after x
  unfolding received_rows rows_outcome rows_left parts_passed parts_outcome parts_by_answer parts_accepted
  accepted-passes r said rising rise bits nexts = passed ∙ ap (λ (y : Answer Report). parts_by_answer y q ns rows after x) answered
    where
      answered : gives (report_of r) ≡ x.answer
      answered = ap (λ (y : RowsReceived). y.answer) said

      left : rows' ≡ map stored_row x.records
      left = ap (λ (y : RowsReceived). y.rows) said ∙ ap (λ (y : Answer Report). rows_left y rows x.records) (sym answered)

      bits-are : bits' ≡ x.queue.reliables.bits
      bits-are = bits ∙ ap (λ (y : RowsReceived). y.queue.reliables.bits) said

      nexts-are : ns' ≡ nexts_of x.queue
      nexts-are = nexts ∙ ap (λ (y : RowsReceived). nexts_of y.queue) said

      passed : parts_passed (record { answer = Ok r; low = q'.reliables.low; ascending = rising }) bits' ns' rows' after st'
          ≡ parts_accepted q after x
      passed = λ i. record {
        answer = (said i).answer;
        low = (said i).queue.reliables.low;
        ascending = rise i;
        bits = bits-are i;
        nexts = nexts-are i;
        rows = left i;
        after = after;
        store = (said i).store;
      }

  refused-passes : (r : Refusal) → received_rows (Err r) q' rows' st' ≡ rows_outcome rows x
      → bits' ≡ cond (found_in_frames (number_of r)) (zeros_of q.reliables.bits) q.reliables.bits
      → ns' ≡ cond (found_in_frames (number_of r)) (zeros_of ns) ns
      → parts_passed (record { answer = Err r; low = q.reliables.low; ascending = false }) bits' ns' rows' after st'
      ≡ parts_outcome q ns rows after x
  unfolding received_rows rows_outcome rows_left parts_passed parts_outcome parts_by_answer parts_refused
  refused-passes r said bits nexts = passed ∙ ap (λ (y : Answer Report). parts_by_answer y q ns rows after x) answered
    where
      answered : refused (number_of r) ≡ x.answer
      answered = ap (λ (y : RowsReceived). y.answer) said

      left : rows' ≡ rows_left (refused (number_of r)) rows x.records
      left = ap (λ (y : RowsReceived). y.rows) said ∙ ap (λ (y : Answer Report). rows_left y rows x.records) (sym answered)

      passed : parts_passed (record { answer = Err r; low = q.reliables.low; ascending = false }) bits' ns' rows' after st'
          ≡ parts_refused q ns rows after x.store (number_of r)
      passed = λ i. record {
        answer = refused (number_of r);
        low = q.reliables.low;
        ascending = false;
        bits = bits i;
        nexts = nexts i;
        rows = left i;
        after = after;
        store = (said i).store;
      }

-- the same of a receive over rows that stand for the first of so many records
module _ (q : RecvQueue) (cells : ℕ) (rows : List Row) (st d ns : List ℕ) (q' : RecvQueue) (rows' : List Row) (st' bits' ns' : List ℕ) where
  answered-by : (r : Received) → received_rows (Ok r) q' rows' st' ≡ rows_outcome rows (receive_first q cells (cells_in rows) st d)
      → (receive_first q cells (cells_in rows) st d).answer ≡ gives (report_of r)
  unfolding received_rows rows_outcome
  answered-by r said = sym (ap (λ (y : RowsReceived). y.answer) said)

  pub accepted_parts : (r : Received) {a : Result Received Refusal} → received_rows a q' rows' st' ≡ receive_rows_of q cells rows st d
      → a ≡ Ok r → (rising : Bool) → (sound_queue q ≡ true → rising ≡ ascending (unsent_of q)) → bits' ≡ q'.reliables.bits
      → ns' ≡ nexts_of q' → (after : List Row)
      → parts_passed (record { answer = Ok r; low = q'.reliables.low; ascending = rising }) bits' ns' rows' after st'
      ≡ parts_outcome q ns rows after (receive_first q cells (cells_in rows) st d)
  unfolding receive_rows_of
  accepted_parts r {a} said e rising rise bits nexts after =
      let told = rw e at said in
      accepted-passes q ns rows after (receive_first q cells (cells_in rows) st d) q' rows' st' bits' ns' r told rising
      (rise (first-soundly q cells (cells_in rows) st d (report_of r) (answered-by r told))) bits nexts

  pub refused_parts : (r : Refusal) {a : Result Received Refusal} → received_rows a q' rows' st' ≡ receive_rows_of q cells rows st d
      → a ≡ Err r → {bits : List ℕ} → bits ≡ q.reliables.bits
      → bits' ≡ cond (found_in_frames (number_of r)) (zeros_of bits) bits
      → ns' ≡ cond (found_in_frames (number_of r)) (zeros_of ns) ns → (after : List Row)
      → parts_passed (record { answer = Err r; low = q.reliables.low; ascending = false }) bits' ns' rows' after st'
      ≡ parts_outcome q ns rows after (receive_first q cells (cells_in rows) st d)
  unfolding receive_rows_of
  refused_parts r {a} said e own bits nexts after =
      refused-passes q ns rows after (receive_first q cells (cells_in rows) st d) q' rows' st' bits' ns' r (rw e at said)
      (rw own at bits) nexts

pub ruleset passes = (accepted_parts, refused_parts)

-- ---- what is written over a list of its length is all of it
pub all_put : (bs l : List ℕ) (p : ℕ) (m : List ℕ) → Run 0 bs l p m → length l ≡ length bs → m ≡ bs
all_put bs l p m r e = r.is ∙ put-split l 0 bs (omega arith)
    ∙ rw (zero-add, ← e) (ap (λ (u : List ℕ). bs ++ u) (drop-length l) ∙ append-nil bs)

-- ---- a refusal that is found while the frames are worked on leaves zeros
module _ (l : List ℕ) (r : Refusal) {b : Bool} (e : b ≡ found_in_frames (number_of r)) where
  pub is_cleared : b ≡ true → {l' : List ℕ} → l' ≡ replicate (length l) 0 → l' ≡ cond (found_in_frames (number_of r)) (zeros_of l) l
  unfolding zeros_of
  is_cleared t z = rw (← e, t) z

  pub is_left : b ≡ false → l ≡ cond (found_in_frames (number_of r)) (zeros_of l) l
  is_left t = rw (← e, t)

pub ruleset clears = (is_cleared, is_left)

-- ---- the parts
module _ (h : Heads) (dbits rbits nexts unsent : List ℕ) (k cells : ℕ) (rows : List Row) (st d : List ℕ) where
  abbrev q : RecvQueue
  q = queue_of h dbits rbits nexts unsent

  pub lengths_differ : {b : Bool} → ((g : Heads) → b ≡ arrays_fit (queue_of g dbits rbits nexts unsent) nexts) → b ≡ false
      → parts_passed (record { answer = Err NotSound; low = h.reliables; ascending = false }) rbits nexts (take k rows) (drop k rows) st
      ≡ receive_parts_of q nexts k cells rows st d
  unfolding receive_parts_of parts_outcome parts_by_answer parts_refused parts_passed found_in_frames refused_result queue_of
  lengths_differ tells f = ap (parts_outcome q nexts (take k rows) (drop k rows)) (true-no _ _ _ _ (sym (tells h) ∙ f) refl)

  module _ {b : Bool} (tells : (g : Heads) → b ≡ arrays_fit (queue_of g dbits rbits nexts unsent) nexts) (t : b ≡ true) {q' : RecvQueue}
      (made : q' ≡ fitted q) where
    fit : arrays_fit q nexts ≡ true
    fit = sym (tells h) ∙ t

    is-parts : q' ≡ q
    is-parts = made ∙ fitted-same q nexts fit

    pub own_bits : rbits ≡ q'.reliables.bits
    unfolding queue_of
    own_bits = ap (λ (z : RecvQueue). z.reliables.bits) (sym is-parts)

    pub as_many_bits : length rbits ≡ 256
    unfolding queue_of
    as_many_bits = (fits-bits q nexts fit).1

    pub as_many_nexts : length nexts ≡ many_nexts
    as_many_nexts = (fits-bits q nexts fit).2

    module _ (m : ℕ) (least : m ≡ min k (length rows)) (rows' : List Row) (long : length rows' ≡ m) where
      rows-first : take k (rows' ++ drop m rows) ≡ rows'
      rows-first = by (dec_le k (length rows))
        where
          by : Dec (k ≤ length rows) → take k (rows' ++ drop m rows) ≡ rows'
          by (yes l) = let e : k ≡ length rows' = omega arith in rw e (take-append_seam rows' (drop m rows))
          by (no l) = rw (drop_of_length-le rows {i = m} (omega arith), append-nil) (take_all k rows' (omega arith))

      rows-after : drop k (rows' ++ drop m rows) ≡ drop k rows
      rows-after = drop-append-drop m rows rows' k (omega arith) long

      first-rows : take m rows ≡ take k rows
      first-rows = ap (λ (n : ℕ). take n rows) least ∙ take_min k rows

      pub parts_fit : (r : PassedRows) (bits' ns' st' : List ℕ)
          → ((after : List Row) → parts_passed r bits' ns' rows' after st' ≡ parts_outcome q' nexts (take m rows) after
          (receive_first q' cells (cells_in (take m rows)) st d))
          → parts_passed r bits' ns' (take k (rows' ++ drop m rows)) (drop k (rows' ++ drop m rows)) st'
          ≡ receive_parts_of q nexts k cells rows st d
      unfolding receive_parts_of
      parts_fit r bits' ns' st' said = rw (rows-first, rows-after) (said (drop k rows)
          ∙ (λ i. parts_outcome (is-parts i) nexts (first-rows i) (drop k rows)
          (receive_first (is-parts i) cells (cells_in (first-rows i)) st d))
          ∙ ap (parts_outcome q nexts (take k rows) (drop k rows)) (true-yes _ _ _ _ fit refl))

pub ruleset parts = (lengths_differ, own_bits, as_many_bits, as_many_nexts, parts_fit)
