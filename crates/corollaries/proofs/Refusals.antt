-- Refusals: what they leave, and where 9 is not among them.
-- Assumes nothing.
use Prim.Native.Nat.{ℕ}
use mathlib.Core.Path.{◌≡◌, refl, sym, ◌∙◌, ap}
use mathlib.Core.Bool.{Bool, true, false}
use mathlib.Core.Option.{some}
use mathlib.Core.List.{List, [], ◌∷◌}
use native.Mathlib.Omega.{arith}
use lib.ListN.{length, get_or, take}
use lib.Dec.{eqb}
use Rattle.base.specs.Answer.{Answer, refused, gives}
use Rattle.base.specs.Limits.{min_datagram, max_datagram, max_unsent, window_places}
use Rattle.base.specs.Lists.{find}
use Rattle.base.specs.Numbers.{distance}
use Rattle.base.specs.Put.{put}
use Rattle.base.proofs.Choices.{by_bool, by_option, neither}
use Rattle.ack.proofs.WriteLaws.{write-cases, refused-writes-nothing}
use Rattle.window.specs.Missing.{missing}
use Rattle.window.specs.Window.{accepted}
use Rattle.bare.specs.Frame.{Message}
use Rattle.cells.specs.Cell.{Cell, ready_as, at, message_at}
use Rattle.cells.specs.Datagram.{datagram}
use Rattle.cells.specs.Sound.{lengths}
use Rattle.cells.specs.Store.{slots_of}
use Rattle.cells.specs.Take.{earliest}
use Rattle.receiver.specs.declared.RecvQueue.{RecvQueue}
use Rattle.receiver.specs.Queue.{profile_in, unsent_of, sound_queue}
use Rattle.receiver.specs.Receive.{Received, datagram_number, is_datagram, frames_in, accept_all, state_of, accepted_result, refused_result}
use Rattle.receiver.specs.Receive.{sound_call, receive_of}
use Rattle.receiver.specs.Take.{TakeResult, handed, take_of}
use Rattle.receiver.specs.Write.{Wrote, sorted, emptied, write_of, write_unsent_of, write_missing_of}
use Rattle.receiver.specs.Drop.{DropResult, drop_unfinished_of}
use Rattle.receiver.specs.Calls.{Call, receive, take_with, write_unsent, write_missing, drop_unfinished, save, resume, refusal_of, took_of}
use Rattle.receiver.specs.Receiver.{Receiver, sound_receiver}
use Rattle.receiver.specs.Calls.{receive_outcome, take_outcome, write_outcome, drop_outcome, save_outcome, restored_or, restore_outcome}
use Rattle.receiver.specs.Calls.{resume_outcome, outcome}
use Rattle.receiver.specs.Save.{Saved, save_of}
use Rattle.receiver.specs.Restore.{Restored, restore_of}
use Rattle.receiver.proofs.AnswerCases.{by-true, by-lt, by_le, Accepted, receive-ways, Found, take-ways}
use Rattle.receiver.proofs.Hands.{Gave, handed-ways}
use Rattle.receiver.proofs.Drops.{drop-ways, refuses-9-alone}
use Rattle.receiver.proofs.RestoreAnswers.{restore-ways, answer-9}
use Rattle.receiver.proofs.Receives.{queue-sound}
use Rattle.receiver.proofs.SaveAnswers.{bytes_of, save-ways, refused-save-changes-nothing, save-9}
use Rattle.corollaries.specs.Refusals.{RefusedWith, lent, lent_after, FitLengths}

pub never-refused : {A X : Type 0} (x : A) (n : ℕ) → gives x ≡ refused n → X
never-refused x n e = absurd (let z : ◌≡◌ {A = ℕ} 0 1 = cc in omega arith)

pub other-number : {A X : Type 0} (a b : ℕ) → (a ≡ b → ⊥) → ◌≡◌ {A = Answer A} (refused a) (refused b) → X
other-number a b d e = absurd (d (cc))

-- ---- receive
pub receive-refused : (q : RecvQueue) (rs : List Cell) (st d : List ℕ) (n : ℕ) → (receive_of q rs st d).answer ≡ refused n
    → receive_of q rs st d ≡ refused_result q rs st n
receive-refused q rs st d n =
    receive-ways q rs st d (λ (r : Received). r.answer ≡ refused n → r ≡ refused_result q rs st n)
    (λ k e. ap (refused_result q rs st) (number k e))
    (λ a e. gave a e)
  where
    number : (k : ℕ) → (refused_result q rs st k).answer ≡ refused n → k ≡ n
    number k e = unfold refused_result in cc

    gave : (a : Accepted q rs st d)
        → (accepted_result q st d a.reliables (datagram (state_of q rs st) (frames_in (profile_in q) d))).answer ≡ refused n
        → accepted_result q st d a.reliables (datagram (state_of q rs st) (frames_in (profile_in q) d)) ≡ refused_result q rs st n
    gave a e = unfold accepted_result in never-refused _ n e

-- ---- take
none-taken : (st : List ℕ) (r : TakeResult) (n : ℕ) → r.answer ≡ refused n → took_of st r ≡ []
unfolding took_of
none-taken st r n e = rw e

pub take-refused : (q : RecvQueue) (rs : List Cell) (st buffer : List ℕ) (n : ℕ) → (take_of q rs st buffer).answer ≡ refused n
    → ((take_of q rs st buffer).records ≡ rs) × ((take_of q rs st buffer).joined ≡ buffer)
take-refused q rs st buffer n =
    take-ways q rs st buffer (λ (r : TakeResult). r.answer ≡ refused n → (r.records ≡ rs) × (r.joined ≡ buffer))
    (λ k e. (refl, refl))
    (λ f. handed-ways rs st f buffer (λ (r : TakeResult). r.answer ≡ refused n → (r.records ≡ rs) × (r.joined ≡ buffer))
    (λ ne l e. (refl, refl))
    (λ r g e. absurd (gave f r g e)))
  where
    gave : (f : Found rs st) (r : TakeResult) → Gave rs st f buffer r → r.answer ≡ refused n → ⊥
    gave f r g e = let c : ◌≡◌ {A = List Message} [] (f.message ∷ []) = sym (none-taken st r n e) ∙ g.hands in let z : ◌≡◌ {A = ℕ} 0 1 =
        cc in omega arith

-- ---- writings
pub write-refused : (q next : RecvQueue) (nack : Bool) (l out : List ℕ) (n : ℕ) → (write_of q next nack l out).answer ≡ refused n
    → ((write_of q next nack l out).queue ≡ q) × ((write_of q next nack l out).out ≡ out)
unfolding write_of
write-refused q next nack l out n =
    by-true (λ (w : Wrote). w.answer ≡ refused n → (w.queue ≡ q) × (w.out ≡ out)) (sound_queue q)
    (λ t e. (rw e, refused-writes-nothing out nack l n e))
    (λ t e. (refl, refl))

-- ---- drop
pub drop-refused : (q : RecvQueue) (rs : List Cell) (st : List ℕ) (k n : ℕ) → (drop_unfinished_of q rs st k).answer ≡ refused n
    → (drop_unfinished_of q rs st k).records ≡ rs
drop-refused q rs st k n = drop-ways q rs st k (λ (r : DropResult). r.answer ≡ refused n → r.records ≡ rs)
    (λ s e. refl) (λ s e. never-refused _ n e)

-- the answer with this refusal
answer-refused : {A : Type 0} (r : Answer A) (n : ℕ) → refusal_of r ≡ some n → r ≡ refused n
unfolding refusal_of
answer-refused (refused m) n e = cc
answer-refused (gives x) n e = absurd (let z : ◌≡◌ {A = ℕ} 0 1 = cc in omega arith)

-- ---- resume
restore-refused : (x y : Receiver) (bytes : List ℕ) (n : ℕ)
    → (restore_outcome x (restore_of y.queue y.records y.store bytes)).refusal ≡ some n
    → (restore_outcome x (restore_of y.queue y.records y.store bytes)).left ≡ x
unfolding restore_outcome restored_or refusal_of
restore-refused x y bytes n =
    restore-ways y bytes (λ (r : Restored). (restore_outcome x r).refusal ≡ some n → (restore_outcome x r).left ≡ x)
    (λ s e. refl) (λ s c e. refl) (λ s i r b e. refl) (λ s i r b e. absurd (let z : ◌≡◌ {A = ℕ} 0 1 = cc in omega arith))

resume-refused : (x : Receiver) (out : List ℕ) (y : Receiver) (n : ℕ)
    → (resume_outcome x y (save_of x.queue x.records x.store out)).refusal ≡ some n
    → (resume_outcome x y (save_of x.queue x.records x.store out)).left ≡ x
unfolding resume_outcome save_outcome
resume-refused x out y n =
    save-ways x out (λ (r : Saved). (resume_outcome x y r).refusal ≡ some n → (resume_outcome x y r).left ≡ x)
    (λ s e. refl) (λ s lt e. refl)
    (λ s le e. restore-refused x y (take (length (bytes_of x out)) (put out 0 (bytes_of x out))) n e)

-- "A refusal returns its number and the state unchanged, and writes nothing to any lent slice."
pub refusal-keeps : (x : Receiver) (c : Call) (n : ℕ) → RefusedWith x c n → ((outcome x c).left ≡ x) × (lent_after x c ≡ lent c)
unfolding outcome receive_outcome take_outcome write_outcome drop_outcome save_outcome
refusal-keeps x (receive d) n e =
    let r = receive-refused x.queue x.records x.store d n (answer-refused _ n e) in
    (unfold refused_result in rw r, refl)
refusal-keeps x (take_with buffer) n e =
    let r = take-refused x.queue x.records x.store buffer n (answer-refused _ n e) in
    (rw r.0, r.1)
refusal-keeps x (write_unsent out) n e = unfold write_unsent_of in
    (let r = write-refused x.queue (emptied x.queue) false (sorted (unsent_of x.queue)) out n (answer-refused _ n e) in
    (rw r.0, r.1))
refusal-keeps x (write_missing out) n e = unfold write_missing_of in
    (let r = write-refused x.queue x.queue true (missing x.queue.datagrams) out n (answer-refused _ n e) in
    (rw r.0, r.1))
refusal-keeps x (drop_unfinished k) n e = (rw (drop-refused x.queue x.records x.store k n (answer-refused _ n e)), refl)
refusal-keeps x (save out) n e = (refl, refused-save-changes-nothing x out n (answer-refused _ n e))
refusal-keeps x (resume out y) n e = (resume-refused x out y n e, refl)

-- ---- 9
abbrev NotNine : {A : Type 0} → Answer A → Type 0
NotNine r = r ≡ refused 9 → ⊥

receive-no-9 : (q : RecvQueue) (rs : List Cell) (st d : List ℕ) → sound_call q rs st ≡ true → (receive_of q rs st d).answer ≡ refused 9 → ⊥
unfolding receive_of refused_result accepted_result
receive-no-9 q rs st d s =
    by-true (λ (r : Received). NotNine r.answer) (sound_call q rs st)
    (λ t. by-lt (λ (r : Received). NotNine r.answer) (length d) min_datagram (λ l. other-number 1 9 (omega arith))
    (λ l. by-lt (λ (r : Received). NotNine r.answer) max_datagram (length d) (λ m. other-number 2 9 (omega arith))
    (λ m. by-true (λ (r : Received). NotNine r.answer) (is_datagram (get_or d 0 0))
    (λ i. by-true (λ (r : Received). NotNine r.answer) (accepted q.datagrams (datagram_number d)) (λ o. other-number 4 9 (omega arith))
    (λ o. by-lt (λ (r : Received). NotNine r.answer) window_places (distance q.datagrams.low (datagram_number d))
    (λ b. other-number 5 9 (omega arith))
    (λ b. by_le (λ (r : Received). NotNine r.answer) max_unsent q.pending (λ u. other-number 6 9 (omega arith))
    (λ u. by_option (λ (r : Received). NotNine r.answer) (accept_all q.reliables (frames_in (profile_in q) d))
    (λ e. other-number 7 9 (omega arith))
    (λ v e. by-true (λ (r : Received). NotNine r.answer) (datagram (state_of q rs st) (frames_in (profile_in q) d)).full
    (λ f. other-number 8 9 (omega arith))
    (λ f. never-refused _ 9))))))
    (λ i. other-number 3 9 (omega arith)))))
    (λ t e. neither (sound_call q rs st) s t)

handed-no-9 : (rs : List Cell) (st buffer : List ℕ) (t : ℕ) (m : Message) (first : Cell) → NotNine (handed rs st buffer t m first).answer
unfolding handed
handed-no-9 rs st buffer t m first =
    by_bool (λ (r : TakeResult). NotNine r.answer) (eqb first.count 1) (λ e. never-refused _ 9)
    (λ e. by-lt (λ (r : TakeResult). NotNine r.answer) (length buffer) (length m.body) (λ l. other-number 12 9 (omega arith))
    (λ l. never-refused _ 9))

take-no-9 : (q : RecvQueue) (rs : List Cell) (st buffer : List ℕ) → sound_call q rs st ≡ true → NotNine (take_of q rs st buffer).answer
unfolding take_of
take-no-9 q rs st buffer s =
    by-true (λ (r : TakeResult). NotNine r.answer) (sound_call q rs st)
    (λ z. by_option (λ (r : TakeResult). NotNine r.answer) (earliest (slots_of rs st)) (λ e. other-number 20 9 (omega arith))
    (λ t e. by_option (λ (r : TakeResult). NotNine r.answer) (message_at (ready_as t) (slots_of rs st))
    (λ f. other-number 20 9 (omega arith))
    (λ m f. by_option (λ (r : TakeResult). NotNine r.answer) (find (at (ready_as t) 0) rs) (λ g. other-number 20 9 (omega arith))
    (λ c g. handed-no-9 rs st buffer t m c))))
    (λ t e. neither (sound_call q rs st) s t)

write-no-9 : (q next : RecvQueue) (nack : Bool) (l out : List ℕ) → sound_queue q ≡ true → NotNine (write_of q next nack l out).answer
unfolding write_of
write-no-9 q next nack l out s =
    by-true (λ (w : Wrote). NotNine w.answer) (sound_queue q)
    (λ t. write-cases (λ r o. NotNine r) out nack l (other-number 13 9 (omega arith)) (other-number 14 9 (omega arith))
    (other-number 12 9 (omega arith)) (λ n w. never-refused n 9))
    (λ t e. neither (sound_queue q) s t)

save-no-9 : (x : Receiver) (out : List ℕ) → sound_receiver x ≡ true → NotNine (save_of x.queue x.records x.store out).answer
save-no-9 x out s e = neither (sound_receiver x) s ((save-9 x out).0 e)

restore-no-9 : (x y : Receiver) (bytes : List ℕ) → lengths (length y.records) (length y.store) ≡ true
    → (restore_outcome x (restore_of y.queue y.records y.store bytes)).refusal ≡ some 9 → ⊥
unfolding restore_outcome
restore-no-9 x y bytes len e =
    neither (lengths (length y.records) (length y.store)) len ((answer-9 y bytes).0 (answer-refused _ 9 e))

resume-no-9 : (x : Receiver) (out : List ℕ) (y : Receiver) → sound_receiver x ≡ true → lengths (length y.records) (length y.store) ≡ true
    → (resume_outcome x y (save_of x.queue x.records x.store out)).refusal ≡ some 9 → ⊥
unfolding resume_outcome save_outcome
resume-no-9 x out y s len =
    save-ways x out (λ (r : Saved). (resume_outcome x y r).refusal ≡ some 9 → ⊥)
    (λ t e. neither (sound_receiver x) s t) (λ t lt e. other-number {A = ℕ} 12 9 (omega arith) (answer-refused _ 9 e))
    (λ t le e. restore-no-9 x y (take (length (bytes_of x out)) (put out 0 (bytes_of x out))) len e)

pub sound-no-9 : (x : Receiver) (c : Call) → FitLengths c → sound_receiver x ≡ true → RefusedWith x c 9 → ⊥
unfolding outcome receive_outcome take_outcome write_outcome drop_outcome save_outcome
sound-no-9 x (receive d) f s e = receive-no-9 x.queue x.records x.store d s (answer-refused _ 9 e)
sound-no-9 x (take_with buffer) f s e = take-no-9 x.queue x.records x.store buffer s (answer-refused _ 9 e)
sound-no-9 x (write_unsent out) f s e = unfold write_unsent_of in
    write-no-9 x.queue (emptied x.queue) false (sorted (unsent_of x.queue)) out (queue-sound x.queue x.records x.store s)
    (answer-refused _ 9 e)
sound-no-9 x (write_missing out) f s e = unfold write_missing_of in
    write-no-9 x.queue x.queue true (missing x.queue.datagrams) out (queue-sound x.queue x.records x.store s) (answer-refused _ 9 e)
sound-no-9 x (drop_unfinished n) f s e = neither (sound_receiver x) s
    (refuses-9-alone x.queue x.records x.store n 9 (answer-refused _ 9 e)).1
sound-no-9 x (save out) f s e = save-no-9 x out s (answer-refused _ 9 e)
sound-no-9 x (resume out y) f s e = resume-no-9 x out y s f e
