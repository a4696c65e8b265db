-- The cases of the writings from the receiver, with the facts as the code finds them.
-- Assumes nothing.
use mathlib.Core.Path.{◌≡◌, ◌∙◌, sym, ap, refl}
use mathlib.Core.Bool.{Bool, true, false}
use mathlib.Core.List.{List, ◌++◌}
use Prim.Native.Nat.{ℕ, ◌+◌, ◌<◌, ◌≤◌}
use native.Mathlib.Omega.{arith}
use native.Mathlib.Nat.{zero-add}
use native.Mathlib.Decide.{dec_lt}
use lib.ListN.{length, take, drop, length-take}
use lib.Seq.{take_at}
use Rattle.std.specs.Prelude.{Result, Ok, Err}
use Rattle.base.specs.Answer.{Answer, refused, gives}
use Rattle.base.specs.declared.refusal.Refusal.{Refusal}
use Rattle.base.specs.Refusals.{answer}
use Rattle.base.specs.If.{if_true}
use Rattle.base.specs.Limits.{window_places, max_list, max_unsent}
use Rattle.base.specs.Put.{Run}
use Rattle.base.proofs.Ifs.{lt_no}
use Rattle.base.proofs.Puts.{after-fits, put-split, length-put}
use Rattle.window.specs.declared.ReliableWindow.{ReliableWindow}
use Rattle.window.specs.Missing.{missing}
use Rattle.window.proofs.Missing.{missing-length}
use Rattle.ack.specs.Write.{ascending, list_bytes, some_over, too_large, write_list_of, written_of}
use Rattle.ack.proofs.WriteCases.{too_short, fits}
use Rattle.receiver.specs.declared.RecvQueue.{RecvQueue}
use Rattle.sound_queue.specs.Sound.{queue_sound_of}
use Rattle.sound_queue.proofs.Rules.{told_ok, told_err}
use Rattle.receiver.specs.Queue.{unsent_of, sound_queue}
use Rattle.receiver.specs.Write.{sorted, when_given, write_of, emptied, write_unsent_of, write_missing_of}
use Rattle.recv_acks.specs.Wrote.{Sendable, wrote, with_pending}
use Rattle.recv_acks.proofs.Sendable.{pending-limit}

-- ---- a list that neither 13 nor 14 refuses: 12, or written
module _ (room : ℕ) (nack : Bool) (l : List ℕ) (s : Sendable l) where
  abbrev size : ℕ
  size = length (list_bytes nack l)

  not-too-large : too_large l ≡ false
  unfolding too_large
  not-too-large = sym (lt_no max_list (length l) false true (some_over l) s.within (sym s.below))

  pub short-or-written : (P : Answer ℕ → Type 0) → (room < size → P (refused 12)) → (size ≤ room → P (gives size))
      → P (write_list_of room nack l)
  unfolding write_list_of
  short-or-written P x y = go (dec_lt room size)
    where
      go : Dec (room < size) → P (write_list_of room nack l)
      go (yes h) = rw (← too_short room nack l (refused 13) (refused 14) (refused 12) (gives size) _ refl not-too-large _ refl s.ordered
          h) (x h)
      go (no h) =
          let k : size ≤ room = omega arith in
          rw (← fits room nack l (refused 13) (refused 14) (refused 12) (gives size) _ refl not-too-large _ refl s.ordered k) (y k)

-- the missing numbers in a list with room for them
module _ (w : ReliableWindow) (l : List ℕ) (q : ℕ) (m : List ℕ) (r : Run 0 (missing w) l q m) (h : window_places ≤ length l) where
  fitting : 0 + length (missing w) ≤ length l
  fitting = let n = missing-length w in omega arith

  missing-count : q ≡ length (missing w)
  missing-count = r.next ∙ after-fits (length l) 0 (length (missing w)) fitting ∙ zero-add (length (missing w))

  pub missing-first : take q m ≡ missing w
  missing-first =
      let e : m ≡ missing w ++ drop (0 + length (missing w)) l = r.is ∙ put-split l 0 (missing w) fitting in
      rw e (take_at (missing w) (drop (0 + length (missing w)) l) q (sym missing-count))

  pub missing-room : q ≤ length m
  missing-room = let n = missing-count in let k : length m ≡ length l = ap length r.is ∙ length-put l 0 (missing w) in let f = fitting in
      omega arith

-- ---- the writings whole
module _ (q after : RecvQueue) (nack : Bool) (l out : List ℕ) where
  pub write-unsound : sound_queue q ≡ false → write_of q after nack l out ≡ record { answer = refused 9; queue = q; out = out }
  unfolding write_of if_true
  write-unsound s = rw s

  pub write-given : sound_queue q ≡ true → (n : ℕ) → write_list_of (length out) nack l ≡ gives n
      → write_of q after nack l out ≡ record { answer = gives n; queue = after; out = written_of out nack l }
  unfolding write_of if_true
  write-given s n e = rw (s, e)

  pub write-refused : sound_queue q ≡ true → (k : ℕ) → write_list_of (length out) nack l ≡ refused k
      → write_of q after nack l out ≡ record { answer = refused k; queue = q; out = written_of out nack l }
  unfolding write_of if_true
  write-refused s k e = rw (s, e)

  pub write-sound : sound_queue q ≡ true → (r : Result ℕ Refusal) → answer r ≡ write_list_of (length out) nack l → (x : List ℕ) → x
      ≡ written_of out nack l → wrote r (when_given (answer r) after q) x ≡ write_of q after nack l out
  unfolding write_of if_true
  write-sound s r e x f = rw (s, ← e, f)

-- ---- the same, with the facts as the code finds them
module _ (q : RecvQueue) (out : List ℕ) where
  pub unsent-unsound : (r : Refusal) → Err r ≡ queue_sound_of q → wrote (Err r) q out ≡ write_unsent_of q out
  unfolding write_unsent_of
  unsent-unsound r is = let (unsound, e) = told_err q r is in rw (e, write-unsound q (emptied q) false (sorted (unsent_of q)) out unsound)

  pub missing_unsound : (r : Refusal) → Err r ≡ queue_sound_of q → wrote (Err r) q out ≡ write_missing_of q out
  unfolding write_missing_of
  missing_unsound r is = let (unsound, e) = told_err q r is in rw (e, write-unsound q q true (missing q.datagrams) out unsound)

  module _ (rising : Bool) (is : Ok rising ≡ queue_sound_of q) where
    abbrev good : sound_queue q ≡ true
    good = (told_ok q rising is).0

    pub missing-sound : (r : Result ℕ Refusal) → answer r ≡ write_list_of (length out) true (missing q.datagrams)
        → (x : List ℕ) → x ≡ written_of out true (missing q.datagrams) → wrote r q x ≡ write_missing_of q out
    unfolding write_missing_of
    missing-sound (Ok n) a x b = write-sound q q true (missing q.datagrams) out good (Ok n) a x b
    missing-sound (Err k) a x b = write-sound q q true (missing q.datagrams) out good (Err k) a x b

    pub pending_few : q.pending ≤ max_unsent
    pending_few = pending-limit q good

    pub unsent-few : length (take q.pending q.unsent) ≤ max_unsent
    unsent-few = let p = pending_few in simp length-take (omega arith)

    pub unsent_rising : rising ≡ ascending (take q.pending q.unsent)
    unfolding unsent_of
    unsent_rising = (told_ok q rising is).1

    -- what is written of the numbers where they lie, and what the receiver then is
    pub unsent-refused : (k : ℕ) → refused k ≡ write_list_of (length out) false (sorted (take q.pending q.unsent)) → (x : List ℕ)
        → x ≡ written_of out false (sorted (take q.pending q.unsent)) → record { answer = refused k; queue = q; out = x }
        ≡ write_unsent_of q out
    unfolding write_unsent_of unsent_of
    unsent-refused k a x b = rw (b, write-refused q (emptied q) false (sorted (unsent_of q)) out good k (sym a))

    pub unsent-given : (n : ℕ) → answer (Ok n) ≡ write_list_of (length out) false (sorted (take q.pending q.unsent))
        → (x : List ℕ) → x ≡ written_of out false (sorted (take q.pending q.unsent)) → wrote (Ok n) (with_pending q 0) x
        ≡ write_unsent_of q out
    unfolding write_unsent_of unsent_of emptied
    unsent-given n a x b = write-sound q (emptied q) false (sorted (unsent_of q)) out good (Ok n) a x b

pub ruleset unsents = (pending_few, unsent_rising, unsent-unsound, unsent-refused, unsent-given)
