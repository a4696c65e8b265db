-- The unsent numbers after a receive.
-- Assumes nothing.
use Prim.Native.Nat.{ℕ}
use mathlib.Core.Path.{◌≡◌}
use mathlib.Core.Logic.{◌⊎◌, inl, inr, ◌↔◌}
use mathlib.Core.Option.{none}
use mathlib.Core.List.Memᴰ
use mathlib.Core.List.{List, [], ◌∷◌, Memᴰ}
use native.Mathlib.Omega.{arith}
use lib.Dec.{ltb}
use Rattle.base.proofs.Choices.{by_bool}
use Rattle.cells.specs.Datagram.{datagram}
use Rattle.receiver.specs.Queue.{profile_in, unsent_of, insert_unsent}
use Rattle.receiver.specs.Receive.{Received, datagram_number, frames_in, state_of, queue_after, accepted_result, refused_result}
use Rattle.receiver.specs.Calls.{receive, refusal_of, receive_outcome, outcome}
use Rattle.receiver.specs.Receiver.{Receiver, Arrays}
use Rattle.receiver.proofs.Unsent.{taken-after}
use Rattle.receiver.proofs.AnswerCases.{Accepted, receive-ways}
use Rattle.corollaries.specs.Refusals.{IsAccepted}

mem-insert : (n : ℕ) (l : List ℕ) (m : ℕ) → Memᴰ m (insert_unsent n l) → (m ≡ n) ⊎ Memᴰ m l
unfolding insert_unsent
mem-insert n [] m = λ i. Memᴰ.cases_cons i
mem-insert n (x ∷ l) m =
    by_bool (λ (r : List ℕ). Memᴰ m r → (m ≡ n) ⊎ Memᴰ m (x ∷ l)) (ltb n x)
    (λ t i. Memᴰ.cases_cons i)
    (λ t i. first (mem-insert n l m) (Memᴰ.cases_cons i))
  where
    later : (m ≡ n) ⊎ Memᴰ m l → (m ≡ n) ⊎ Memᴰ m (x ∷ l)
    later (inl q) = inl q
    later (inr i) = inr (Memᴰ.tail i)

    first : (Memᴰ m (insert_unsent n l) → (m ≡ n) ⊎ Memᴰ m l) → (m ≡ x) ⊎ Memᴰ m (insert_unsent n l)
        → (m ≡ n) ⊎ Memᴰ m (x ∷ l)
    first rest (inl q) = inr (Memᴰ.head q)
    first rest (inr i) = later (rest i)

insert-mem : (n : ℕ) (l : List ℕ) (m : ℕ) → (m ≡ n) ⊎ Memᴰ m l → Memᴰ m (insert_unsent n l)
unfolding insert_unsent
insert-mem n [] m (inl q) = Memᴰ.head q
insert-mem n [] m (inr i) = absurd (Memᴰ.not-nil i)
insert-mem n (x ∷ l) m a =
    by_bool (λ (r : List ℕ). Memᴰ m r) (ltb n x)
    (λ t. before a)
    (λ t. behind (insert-mem n l m) a)
  where
    before : (m ≡ n) ⊎ Memᴰ m (x ∷ l) → Memᴰ m (n ∷ x ∷ l)
    before (inl q) = Memᴰ.head q
    before (inr i) = Memᴰ.tail i

    older : ((m ≡ n) ⊎ Memᴰ m l → Memᴰ m (insert_unsent n l)) → (m ≡ x) ⊎ Memᴰ m l → Memᴰ m (x ∷ insert_unsent n l)
    older rest (inl q) = Memᴰ.head q
    older rest (inr i) = Memᴰ.tail (rest (inr i))

    behind : ((m ≡ n) ⊎ Memᴰ m l → Memᴰ m (insert_unsent n l)) → (m ≡ n) ⊎ Memᴰ m (x ∷ l) → Memᴰ m (x ∷ insert_unsent n l)
    behind rest (inl q) = Memᴰ.tail (rest (inl q))
    behind rest (inr i) = older rest (Memᴰ.cases_cons i)

-- what an accepted datagram leaves as the unsent
unsent-is : (x : Receiver) (d : List ℕ) → Arrays x.queue → IsAccepted x d → unsent_of (outcome x (receive d)).left.queue
    ≡ insert_unsent (datagram_number d) (unsent_of x.queue)
unfolding outcome receive_outcome
unsent-is x d z =
    receive-ways x.queue x.records x.store d (λ (y : Received). refusal_of y.answer ≡ none → unsent_of y.queue
    ≡ insert_unsent (datagram_number d) (unsent_of x.queue))
    (λ k f. absurd (not-given k f))
    (λ a f. put a)
  where
    not-given : (k : ℕ) → refusal_of (refused_result x.queue x.records x.store k).answer ≡ none → ⊥
    not-given k f = unfold refused_result refusal_of in (let z : ◌≡◌ {A = ℕ} 0 1 = cc in omega arith)

    put : (a : Accepted x.queue x.records x.store d)
        → unsent_of (accepted_result x.queue x.store d a.reliables
        (datagram (state_of x.queue x.records x.store) (frames_in (profile_in x.queue) d))).queue
        ≡ insert_unsent (datagram_number d) (unsent_of x.queue)
    put a = unfold accepted_result queue_after unsent_of in taken-after (datagram_number d) x.queue.pending x.queue.unsent
        (let m = a.room in let n = z.unsent in omega arith)

-- The datagram's number and those that were unsent before, no other.
pub accepted-unsent : (x : Receiver) (d : List ℕ) → Arrays x.queue → IsAccepted x d
    → (m : ℕ) → Memᴰ m (unsent_of (outcome x (receive d)).left.queue) ↔ (m ≡ datagram_number d) ⊎ Memᴰ m (unsent_of x.queue)
accepted-unsent x d z a m = rw (unsent-is x d z a) (
  mem-insert (datagram_number d) (unsent_of x.queue) m,
  insert-mem (datagram_number d)
      (unsent_of x.queue) m,
)
