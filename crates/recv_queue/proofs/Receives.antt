-- `receive` as a call that loads, works and saves.
use mathlib.Core.Path.{◌≡◌, refl, sym, ◌∙◌, ap}
use Rattle.std.specs.Prelude.{Result, Ok, Err}
use Prim.Native.Nat.{ℕ, ◌+◌, ◌*◌, ◌≤◌, min}
use mathlib.Core.Bool.{Bool, true, false}
use mathlib.Core.List.{List, ◌++◌, map}
use lib.ListN.{length, take, drop, take-append-drop}
use lib.Seq.{length-take-le, take_all}
use Rattle.std.proofs.lemmas.List.{drop_all}
use Rattle.base.specs.Answer.{Answer, refused, gives}
use Rattle.base.specs.declared.refusal.Refusal.{Refusal}
use Rattle.base.specs.Refusals.{number_of, answer_by}
use Rattle.base.specs.Limits.{cell_bytes, max_cells, min_datagram}
use Rattle.base.proofs.Ifs.{by-yes, by-no}
use Rattle.reliability.specs.declared.Profile.{Profile}
use Rattle.reliability.specs.Profiles.{profile_of}
use Rattle.frame.specs.declared.FramesRead.{FramesRead}
use Rattle.frame.specs.Frames.{read_frames_of}
use Rattle.cells.specs.Cell.{Cell}
use Rattle.cells.specs.Sound.{lengths}
use Rattle.rows.specs.declared.Row.{Row}
use Rattle.rows.specs.Rows.{cell_of, stored_row, cells_in}
use Rattle.row_slots.proofs.First.{stored-cells}
use Rattle.receiver.specs.declared.RecvQueue.{RecvQueue}
use Rattle.receiver.specs.Queue.{profile_in}
use Rattle.receiver.specs.Receive.{Report, Received, refused_result, accepted_result, receive_of}
use Rattle.receiver.proofs.AnswerCases.{by-true, by_le, receive-ways}
use Rattle.recv_prefix.specs.Needs.{last_used, receive_needs}
use Rattle.recv_prefix.specs.Receiving.{with_rest, beside, receive_first}
use Rattle.recv_prefix.proofs.Enough.{receive-enough}
use Rattle.recv_prefix.proofs.Used.{last_within}
use Rattle.recv_prefix.proofs.Needs.{room-read, receive-few}
use Rattle.recv_steps.specs.declared.Received as Code
use Rattle.recv_steps.specs.Outcome.{RowsReceived, report_of, received_rows, rows_left, rows_outcome, receive_rows_of}
use Rattle.recv_queue.specs.Records.{Converted}
use Rattle.recv_queue.specs.Answers.{received}

-- how many records a call works on
abbrev pub Enough : RecvQueue → List Cell → List ℕ → List ℕ → ℕ → Type 0
Enough q rs st d k = k ≡ receive_needs (profile_in q) (last_used rs) (length rs) (length st) d

-- `needed`, where the lengths fit, of the count of the frames read, and where they do not
module _ (q : RecvQueue) (rs : List Cell) (st d : List ℕ) (fit : Bool) (is : fit ≡ lengths (length rs) (length st)) where
  pub enough_read : fit ≡ true → (p : Profile) (r : FramesRead) (u k : ℕ) → p ≡ profile_of q.profile → r ≡ read_frames_of p d min_datagram
      → u ≡ last_used rs → k ≡ min (length rs) (u + r.count + 1) → Enough q rs st d k
  unfolding receive_needs profile_in
  enough_read t p r u k profile read used h =
      by-yes _ fit _ _ _ is t (room-read (profile_of q.profile) (last_used rs) (length rs) k d r
      (read ∙ ap (λ (p : Profile). read_frames_of p d min_datagram) profile) (h ∙ ap (λ (n : ℕ). min (length rs) (n + r.count + 1)) used))

  pub enough_none : fit ≡ false → Enough q rs st d 0
  unfolding receive_needs
  enough_none t = by-no _ fit _ _ _ is t refl

-- they are there, and no more than a receiver may have
module _ (p : Profile) (rs : List Cell) (n : ℕ) (d : List ℕ) where
  few : (receive_needs p (last_used rs) (length rs) n d ≤ length rs) × (receive_needs p (last_used rs) (length rs) n d ≤ max_cells)
  few = receive-few p (last_used rs) (length rs) n d (receive_needs p (last_used rs) (length rs) n d) refl (last_within rs)

  pub needs_within : receive_needs p (last_used rs) (length rs) n d ≤ length rs
  needs_within = few.0

  pub needs_few : receive_needs p (last_used rs) (length rs) n d ≤ max_cells
  needs_few = few.1

-- ---- a refusal leaves the records as they were
abbrev Leaves : List Cell → Received → Type 0
Leaves cs x = (number : ℕ) → x.answer ≡ refused number → x.records ≡ cs

given-not : (x : Report) (number : ℕ) → gives x ≡ refused number → ⊥
given-not x number e = cc

call-leaves : (q : RecvQueue) (cs : List Cell) (st d : List ℕ) → Leaves cs (receive_of q cs st d)
unfolding refused_result accepted_result
call-leaves q cs st d = receive-ways q cs st d (Leaves cs) (λ n m e. refl) (λ a m e. absurd (given-not _ m e))

first-leaves : (q : RecvQueue) (n : ℕ) (cs : List Cell) (st d : List ℕ) → Leaves cs (receive_first q n cs st d)
unfolding receive_first refused_result with_rest
first-leaves q n cs st d =
    by-true (Leaves cs) (lengths n (length st)) (λ t. by_le (Leaves cs) (length cs) n
    (λ l. call-leaves q cs (take (cell_bytes * length cs) st) d) (λ l m e. refl)) (λ t m e. refl)

-- ---- the call's promise, of what the calls in its body return and leave: the core gets the first k records as the rows ls, answers r and
-- leaves the receiver h, the rows ws and the store s
module _ (q : RecvQueue) (rs : List Cell) (st d : List ℕ) (ls ws : List Row) (h : RecvQueue) (s : List ℕ) (k : ℕ) (is : Enough q rs st d k)
    (loaded : Converted (λ c r. r ≡ stored_row c) (take k rs) ls) where
  load : ls ≡ map stored_row (take k rs)
  load = loaded stored_row (λ c r e. e)

  -- the first k records decide
  abbrev first : Received
  first = receive_first q (length rs) (take k rs) st d

  said : (r : Result Code.Received Refusal) → received_rows r h ws s ≡ receive_rows_of q (length rs) ls st d → received_rows r h ws s
      ≡ record { answer = first.answer; queue = first.queue; rows = rows_left first.answer ls first.records; store = first.store }
  unfolding receive_rows_of rows_outcome cells_in
  said r core =
      let cells : cells_in ls ≡ take k rs = ap (map cell_of) load ∙ stored-cells (take k rs) in
      core ∙ rw cells

  received-of : (r : Result Code.Received Refusal) (zs : List Cell) → zs ≡ first.records ++ drop k rs → answer_by report_of r ≡ first.answer
      → h ≡ first.queue → s ≡ first.store → received r h zs s ≡ receive_of q rs st d
  unfolding received beside
  received-of r zs e answer queue store = rw (e, answer, queue, store) (sym (receive-enough q rs st d k is))

  -- it refuses
  pub received_err : (e : Refusal) → received_rows (Err e) h ws s ≡ receive_rows_of q (length rs) ls st d
      → received (Err e) h rs s ≡ receive_of q rs st d
  unfolding received_rows
  received_err e core =
      let o = said (Err e) core in
      let answer = ap (λ (x : RowsReceived). x.answer) o in
      let same = first-leaves q (length rs) (take k rs) st d (number_of e) (sym answer) in
      received-of (Err e) rs (sym (take-append-drop k rs) ∙ ap (λ (cs : List Cell). cs ++ drop k rs) (sym same))
      answer (ap (λ (x : RowsReceived). x.queue) o) (ap (λ (x : RowsReceived). x.store) o)

  -- it accepts
  pub received_ok : (x : Code.Received) (zs : List Cell) → received_rows (Ok x) h ws s ≡ receive_rows_of q (length rs) ls st d
      → zs ≡ map cell_of ws → received (Ok x) h (zs ++ drop k rs) s ≡ receive_of q rs st d
  unfolding received_rows rows_left
  received_ok x zs core save =
      let o = said (Ok x) core in
      let answer = ap (λ (x : RowsReceived). x.answer) o in
      let rows : ws ≡ map stored_row first.records = ap (λ (x : RowsReceived). x.rows) o
      ∙ ap (λ (a : Answer Report). rows_left a ls first.records) (sym answer) in
      received-of (Ok x) (zs ++ drop k rs)
      (ap (λ (cs : List Cell). cs ++ drop k rs) (save ∙ ap (map cell_of) rows ∙ stored-cells first.records))
      answer (ap (λ (x : RowsReceived). x.queue) o) (ap (λ (x : RowsReceived). x.store) o)

-- what the body of `receive_in` needs
pub ruleset receives = (length-take-le, needs_within, received_err, received_ok)
