-- The laws of the writings, over the definitions that `write_unsent` and `write_missing` promise.
-- Assumes nothing.
use mathlib.Core.Path.{◌≡◌, ◌∙◌, sym, ap, refl, subst}
use mathlib.Core.Bool.{Bool, true, false, true≢false}
use mathlib.Core.List.{List, [], Memᴰ}
use mathlib.Core.Logic.{◌↔◌, ◌⊎◌, inl, inr}
use Prim.Native.Nat.{ℕ, ◌<◌, ◌≤◌}
use native.Mathlib.Omega.{arith}
use lib.ListN.{length}
use Rattle.base.specs.Answer.{Answer, refused, gives}
use Rattle.base.proofs.Choices.{cases}
use Rattle.window.specs.Missing.{missing}
use Rattle.ack.specs.declared.Record.{Record}
use Rattle.ack.specs.Records.{numbers_of, runs}
use Rattle.ack.specs.Read.{ack_header_size, read_header_of, none_left, read_all, cursor}
use Rattle.ack.specs.Write.{list_bytes, write_list_of, written_of}
use Rattle.ack.proofs.RunLaws.{runs-name}
use Rattle.ack.proofs.WriteLaws.{refused-writes-nothing, read-back-header, read-back-records}
use Rattle.receiver.specs.declared.RecvQueue.{RecvQueue}
use Rattle.receiver.specs.Queue.{unsent_of, sound_queue}
use Rattle.receiver.specs.Write.{sorted, Wrote, write_of, emptied, write_unsent_of, write_missing_of}
use Rattle.recv_acks.specs.Wrote.{Sendable, with_pending, pending_after}
use Rattle.recv_acks.proofs.Sorted.{sorted-member}
use Rattle.recv_acks.proofs.Sendable.{unsent-sendable, missing-sendable}
use Rattle.recv_acks.proofs.WriteCases.{short-or-written, write-unsound, write-given, write-refused}

-- ---- a list that was written, read back
-- out holds an ACK (nack false) or a NACK whose records, read one after the other to the last, name these numbers in this order
pub record Reads (nack : Bool) (numbers out : List ℕ) : Type 0 where
  pub records : List Record
  pub header : read_header_of out ≡ gives (record { nack = nack; records = cursor ack_header_size (length records) })
  pub steps : read_all (length records) out (cursor ack_header_size (length records)) ≡ record { records = records; stop = gives none_left }
  pub names : numbers_of records ≡ numbers

other-number : {A X : Type 0} (a b : ℕ) → (a ≡ b → ⊥) → ◌≡◌ {A = Answer A} (refused a) (refused b) → X
other-number a b d e = absurd (d (cc))

told-apart : {A X : Type 0} {x : A} {k : ℕ} → refused k ≡ gives x → X
told-apart e = absurd (let z : ◌≡◌ {A = ℕ} 0 1 = cc in omega arith)

pub written-reads : (out : List ℕ) (nack : Bool) (l : List ℕ) (n : ℕ) → write_list_of (length out) nack l ≡ gives n
    → Reads nack l (written_of out nack l)
written-reads out nack l n e =
    record {
      records = runs l;
      header = read-back-header out nack l n e;
      steps = read-back-records out nack l n e;
      names = runs-name l;
    }

-- ---- the writings
-- which answer a writing of so many bytes into so much room gives: 9, then 12, else the bytes; and no other number
pub record Told (q : RecvQueue) (size room : ℕ) (a : Answer ℕ) : Type 0 where
  pub nine : a ≡ refused 9 ↔ sound_queue q ≡ false
  pub twelve : a ≡ refused 12 ↔ (sound_queue q ≡ true) × (room < size)
  pub given : (n : ℕ) → a ≡ gives n ↔ (sound_queue q ≡ true) × (n ≡ size) × (size ≤ room)
  pub others : (k : ℕ) → a ≡ refused k → (k ≡ 9) ⊎ (k ≡ 12)

module _ (q : RecvQueue) (size room : ℕ) where
  told-unsound : sound_queue q ≡ false → Told q size room (refused 9)
  told-unsound s =
      record {
        nine = (λ e. s, λ e. refl);
        twelve = (λ e. other-number 9 12 (omega arith) e, λ e. absurd (true≢false (sym e.0 ∙ s)));
        given = λ n. (λ e. told-apart e, λ e. absurd (true≢false (sym e.0 ∙ s)));
        others = λ k e. inl (cc);
      }

  module _ (s : sound_queue q ≡ true) where
    told-short : room < size → Told q size room (refused 12)
    told-short h =
        record {
          nine = (λ e. other-number 12 9 (omega arith) e, λ e. absurd (true≢false (sym s ∙ e)));
          twelve = (λ e. (s, h), λ e. refl);
          given = λ n. (λ e. told-apart e, λ e. absurd (let l = e.2 in omega arith));
          others = λ k e. inr (cc);
        }

    told-written : size ≤ room → Told q size room (gives size)
    told-written h =
        record {
          nine = (λ e. told-apart (sym e), λ e. absurd (true≢false (sym s ∙ e)));
          twelve = (λ e. told-apart (sym e), λ e. absurd (let l = e.1 in omega arith));
          given = λ n. (λ e. (s, (cc), h), λ e. ap gives (sym e.1));
          others = λ k e. told-apart (sym e);
        }

module _ (q after : RecvQueue) (nack : Bool) (l out : List ℕ) where
  -- whatever holds of a refusal, with receiver and output as they were, and of a list written, holds of the call
  write-ways : (P : Wrote → Type 0)
      → (sound_queue q ≡ false → P (record { answer = refused 9; queue = q; out = out }))
      → (sound_queue q ≡ true → (k : ℕ) → write_list_of (length out) nack l ≡ refused k
      → P (record { answer = refused k; queue = q; out = out }))
      → (sound_queue q ≡ true → (n : ℕ) → write_list_of (length out) nack l ≡ gives n
      → P (record { answer = gives n; queue = after; out = written_of out nack l }))
      → P (write_of q after nack l out)
  write-ways P unsound refusal given =
      cases (sound_queue q)
      (λ s. go s (write_list_of (length out) nack l) refl)
      (λ s. rw (write-unsound q after nack l out s) (unsound s))
    where
      go : sound_queue q ≡ true → (a : Answer ℕ) → write_list_of (length out) nack l ≡ a → P (write_of q after nack l out)
      go s (refused k) e = rw (write-refused q after nack l out s k e, refused-writes-nothing out nack l k e) (refusal s k e)
      go s (gives n) e = rw (write-given q after nack l out s n e) (given s n e)

  refused-keeps : (k : ℕ) → (write_of q after nack l out).answer ≡ refused k → ((write_of q after nack l out).queue ≡ q)
      × ((write_of q after nack l out).out ≡ out)
  refused-keeps k =
      write-ways (λ (r : Wrote). r.answer ≡ refused k → (r.queue ≡ q) × (r.out ≡ out))
      (λ s e. (refl, refl)) (λ s j f e. (refl, refl)) (λ s n f e. told-apart (sym e))

  given-after : (n : ℕ) → (write_of q after nack l out).answer ≡ gives n → ((write_of q after nack l out).queue ≡ after)
      × Reads nack l (write_of q after nack l out).out
  given-after n =
      write-ways (λ (r : Wrote). r.answer ≡ gives n → (r.queue ≡ after) × Reads nack l r.out)
      (λ s e. told-apart e) (λ s j f e. told-apart e) (λ s m f e. (refl, written-reads out nack l m f))

  told : (sound_queue q ≡ true → Sendable l) → Told q (length (list_bytes nack l)) (length out) (write_of q after nack l out).answer
  told sendable =
      write-ways (λ (r : Wrote). Told q (length (list_bytes nack l)) (length out) r.answer)
      (λ s. told-unsound q _ _ s)
      (λ s k e. by_length s (refused k) e)
      (λ s n e. by_length s (gives n) e)
    where
      by_length : sound_queue q ≡ true → (a : Answer ℕ) → write_list_of (length out) nack l ≡ a → Told q (length (list_bytes nack l))
          (length out) a
      by_length s a e =
          subst (Told q (length (list_bytes nack l)) (length out)) e
          (short-or-written (length out) nack l (sendable s) (Told q (length (list_bytes nack l)) (length out))
          (λ h. told-short q _ _ s h) (λ h. told-written q _ _ s h))

-- ---- the unsent as ACK
module _ (q : RecvQueue) (out : List ℕ) where
  -- which answer; 13 and 14 are never given
  pub unsent-told : Told q (length (list_bytes false (sorted (unsent_of q)))) (length out) (write_unsent_of q out).answer
  unfolding write_unsent_of
  unsent-told = told q (emptied q) false (sorted (unsent_of q)) out (unsent-sendable q)

  -- a refusal leaves receiver and output as they were
  pub unsent-refused : (k : ℕ) → (write_unsent_of q out).answer ≡ refused k → ((write_unsent_of q out).queue ≡ q)
      × ((write_unsent_of q out).out ≡ out)
  unfolding write_unsent_of
  unsent-refused = refused-keeps q (emptied q) false (sorted (unsent_of q)) out

  -- once they are sent no number is unsent, and all else of the receiver is as it was
  pub unsent-emptied : (n : ℕ) → (write_unsent_of q out).answer ≡ gives n → ((write_unsent_of q out).queue ≡ emptied q)
      × (unsent_of (write_unsent_of q out).queue ≡ [])
  unfolding write_unsent_of emptied unsent_of
  unsent-emptied n e =
      let a : (write_unsent_of q out).queue ≡ emptied q = (given-after q (emptied q) false (sorted (unsent_of q)) out n e).0 in
      (a, rw a)

  -- so of the receiver only the count of the unsent changes
  pub unsent-count : (write_unsent_of q out).queue ≡ with_pending q (pending_after (write_unsent_of q out).answer q.pending)
  unfolding write_unsent_of emptied
  unsent-count = write-ways q (emptied q) false (sorted (unsent_of q)) out
      (λ (r : Wrote). r.queue ≡ with_pending q (pending_after r.answer q.pending)) (λ s. refl) (λ s k e. refl) (λ s n e. refl)

  -- the ACK names the unsent numbers, ascending
  pub unsent-reads : (n : ℕ) → (write_unsent_of q out).answer ≡ gives n → Reads false (sorted (unsent_of q)) (write_unsent_of q out).out
  unfolding write_unsent_of
  unsent-reads n e = (given-after q (emptied q) false (sorted (unsent_of q)) out n e).1

  -- a number is named exactly where it was unsent
  pub unsent-named : (n : ℕ) (e : (write_unsent_of q out).answer ≡ gives n) (m : ℕ) → Memᴰ m (numbers_of (unsent-reads n e).records) ↔
      Memᴰ m (unsent_of q)
  unsent-named n e m =
      let r = unsent-reads n e in
      subst (λ (l : List ℕ). Memᴰ m l ↔ Memᴰ m (unsent_of q)) (sym r.names) (sorted-member m (unsent_of q))

-- ---- the missing as NACK
module _ (q : RecvQueue) (out : List ℕ) where
  -- which answer; 13 and 14 are never given
  pub missing-told : Told q (length (list_bytes true (missing q.datagrams))) (length out) (write_missing_of q out).answer
  unfolding write_missing_of
  missing-told = told q q true (missing q.datagrams) out (λ s. missing-sendable q.datagrams)

  -- the receiver is as it was, and after a refusal so is the output
  pub missing-keeps : (write_missing_of q out).queue ≡ q
  unfolding write_missing_of
  missing-keeps = write-ways q q true (missing q.datagrams) out (λ (r : Wrote). r.queue ≡ q) (λ s. refl) (λ s k e. refl) (λ s n e. refl)

  pub missing-refused : (k : ℕ) → (write_missing_of q out).answer ≡ refused k → (write_missing_of q out).out ≡ out
  unfolding write_missing_of
  missing-refused k e = (refused-keeps q q true (missing q.datagrams) out k e).1

  -- the NACK names the missing numbers
  pub missing-reads : (n : ℕ) → (write_missing_of q out).answer ≡ gives n → Reads true (missing q.datagrams) (write_missing_of q out).out
  unfolding write_missing_of
  missing-reads n e = (given-after q q true (missing q.datagrams) out n e).1
