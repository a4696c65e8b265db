-- The unsent of a sound receiver, sorted, and the missing are lists that neither 13 nor 14 refuses.
-- Assumes nothing.
use mathlib.Core.Path.{◌≡◌, sym, refl}
use mathlib.Core.Bool.{true, false, ◌&&◌}
use mathlib.Core.List.{List, [], ◌∷◌, Memᴰ}
use Prim.Native.Nat.{ℕ, suc, ◌<◌, ◌≤◌}
use native.Mathlib.Omega.{arith}
use lib.Dec.{ltb, leb}
use lib.ListN.{length, get_or, length-take}
use borrow.Author.Tests.{ltb-true, leb-true}
use Rattle.base.specs.Limits.{numbers24, max_unsent}
use Rattle.base.specs.Lists.{every}
use Rattle.base.proofs.Choices.{and_left, and_right}
use Rattle.base.proofs.Ifs.{lt_yes, le-no}
use Rattle.base.proofs.Lists.{every-mem}
use Rattle.window.specs.declared.ReliableWindow.{ReliableWindow}
use Rattle.window.specs.Window.{accepted}
use Rattle.window.specs.Missing.{missing}
use Rattle.window.proofs.Missing.{missing-length, missing-limit, missing-ascends}
use Rattle.ack.specs.Write.{some_over, ascending}
use Rattle.receiver.specs.declared.RecvQueue.{RecvQueue}
use Rattle.receiver.specs.Queue.{unsent_of, differ, sound_unsent, sound_queue}
use Rattle.receiver.proofs.Receives.{unsent-sound}
use Rattle.receiver.specs.Write.{sorted}
use Rattle.recv_acks.specs.Wrote.{Sendable}
use Rattle.recv_acks.proofs.Sorted.{length-sorted, sorted-member, sorted-ascending}

-- ---- a list by its numbers
below-limit : (l : List ℕ) → ((n : ℕ) → Memᴰ n l → n < numbers24) → some_over l ≡ false
unfolding some_over
below-limit [] h = refl
below-limit (n ∷ l) h =
    sym (le-no numbers24 n false true (some_over l) (h n (Memᴰ.head refl)) (sym (below-limit l (λ m i. h m (Memᴰ.tail i)))))

ascending-at : (l : List ℕ) → ((i j : ℕ) → i < j → j < length l → get_or l i 0 < get_or l j 0) → ascending l ≡ true
unfolding ascending
ascending-at [] h = refl
ascending-at (x ∷ []) h = refl
ascending-at (x ∷ y ∷ l) h =
    sym (lt_yes x y true (ascending (y ∷ l)) false (h 0 1 (omega arith) (omega arith))
    (sym (ascending-at (y ∷ l) (λ i j a b. h (suc i) (suc j) (omega arith) (omega arith)))))

-- ---- the missing numbers of any window
pub missing-sendable : (w : ReliableWindow) → Sendable (missing w)
missing-sendable w =
    record {
      within = missing-length w;
      below = below-limit (missing w) (missing-limit w);
      ordered = ascending-at (missing w) (missing-ascends w);
    }

-- ---- the parts of a sound receiver
module _ (q : RecvQueue) (s : sound_queue q ≡ true) where
  pub pending-limit : q.pending ≤ max_unsent
  unfolding sound_unsent
  pending-limit = leb-true q.pending max_unsent (and_left (leb q.pending max_unsent) _ (unsent-sound q s))

  numbers-sound : (every (λ n. ltb n numbers24 && accepted q.datagrams n) (unsent_of q) && differ (unsent_of q)) ≡ true
  unfolding sound_unsent
  numbers-sound = and_right (leb q.pending max_unsent) _ (unsent-sound q s)

  pub unsent-differ : differ (unsent_of q) ≡ true
  unsent-differ = and_right (every (λ n. ltb n numbers24 && accepted q.datagrams n) (unsent_of q)) _ numbers-sound

  pub unsent-limit : (n : ℕ) → Memᴰ n (unsent_of q) → n < numbers24
  unsent-limit n i =
      let e : (ltb n numbers24 && accepted q.datagrams n) ≡ true =
      every-mem (λ n. ltb n numbers24 && accepted q.datagrams n) (unsent_of q) (and_left _ (differ (unsent_of q)) numbers-sound) n i in
      ltb-true n numbers24 (and_left (ltb n numbers24) _ e)

  pub unsent-length : length (unsent_of q) ≤ max_unsent
  unfolding unsent_of
  unsent-length = let p = pending-limit in simp length-take (omega arith)

  pub unsent-sendable : Sendable (sorted (unsent_of q))
  unsent-sendable =
      record {
        within = let h = unsent-length in let e = length-sorted (unsent_of q) in omega arith;
        below = below-limit (sorted (unsent_of q)) (λ n i. unsent-limit n ((sorted-member n (unsent_of q)).0 i));
        ordered = sorted-ascending (unsent_of q) unsent-differ;
      }
