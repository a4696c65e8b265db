-- A receiver that passes the tests of 9 is one of which the theorems over lists of calls speak, and one of which they speak passes.
-- Assumes nothing.
use Prim.Native.Nat.{ℕ, zero, suc, ◌+◌, ◌-◌, ◌≤◌, ◌<◌}
use mathlib.Core.Path.{◌≡◌, refl, sym, subst}
use mathlib.Core.Bool.{Bool, true, false, not, ◌&&◌, ◌||◌, true≢false}
use native.Mathlib.Omega.{arith}
use lib.Dec.{ltb, leb, eqb}
use borrow.Author.Tests.{leb-true, le-ltb, eqb-true, eqb-false}
use Rattle.base.specs.Limits.{numbers24, window_places, max_unsent}
use Rattle.base.specs.Lists.{every}
use Rattle.base.proofs.Choices.{cases, and_left, and_right}
use Rattle.window.specs.declared.ReliableWindow.{ReliableWindow}
use Rattle.window.specs.Places.{place_set}
use Rattle.window.specs.Proper.{Sized, Proper}
use Rattle.window.specs.Window.{accepted}
use Rattle.receiver.specs.declared.RecvQueue.{RecvQueue}
use Rattle.receiver.specs.Queue.{unsent_of, places_within, sound_window, differ, sound_unsent, sound_queue}
use Rattle.receiver.specs.Receiver.{Receiver, Arrays, Sound}
use Rattle.receiver.proofs.Queues.{Good}
use Rattle.receiver.proofs.Receives.{Sane, profile-sound, unsent-sound, queue-sound}

-- ---- a window that passes the test is a proper one
place-clear : (w : ReliableWindow) (k : ℕ) → places_within w k ≡ true → (j : ℕ) → j < k → numbers24 ≤ w.low + suc j
    → place_set w.bits (w.low + suc j) ≡ false
unfolding places_within
place-clear w zero e j lt le = absurd (omega arith)
place-clear w (suc k) e j lt le =
    cases (eqb j k)
    (λ t. rw (eqb-true j k t) (own (ltb (w.low + suc k) numbers24) (le-ltb _ _ (rw (eqb-true j k t) at le))
    (and_right (places_within w k) _ e)))
    (λ t. place-clear w k (and_left (places_within w k) _ e) j (let ne = eqb-false j k t in omega arith) le)
  where
    own : (b : Bool) → b ≡ false → (b || not (place_set w.bits (w.low + suc k))) ≡ true → place_set w.bits (w.low + suc k) ≡ false
    own true f g = absurd (true≢false f)
    own false f g = flip (place_set w.bits (w.low + suc k)) g
      where
        flip : (b : Bool) → not b ≡ true → b ≡ false
        flip true h = sym h
        flip false h = refl

window-sound : (w : ReliableWindow) → Sized w → sound_window w ≡ true → Proper w
unfolding sound_window
window-sound w z e =
    record {
      sized = z;
      low_limit = leb-true w.low numbers24 (and_left (leb w.low numbers24) _ e);
      places_limit = λ n gt le lim. at n (n - w.low - 1) (omega arith) (omega arith) lim;
    }
  where
    at : (n j : ℕ) → w.low + suc j ≡ n → j < window_places → numbers24 ≤ n → place_set w.bits n ≡ false
    at n j q lt lim = subst (λ (m : ℕ). place_set w.bits m ≡ false) q (place-clear w window_places (and_right (leb w.low numbers24) _ e)
        j lt (omega arith))

-- ---- what the test says of the queue's values
module _ (q : RecvQueue) (e : sound_queue q ≡ true) where
  pub datagrams-pass : sound_window q.datagrams ≡ true
  unfolding sound_queue
  datagrams-pass = and_left (sound_window q.datagrams) _ e

  pub reliables-pass : sound_window q.reliables ≡ true
  unfolding sound_queue
  reliables-pass = and_left (sound_window q.reliables) _ (and_right (sound_window q.datagrams) _ e)

  pub pending-few : q.pending ≤ max_unsent
  unfolding sound_unsent
  pending-few = leb-true q.pending max_unsent (and_left (leb q.pending max_unsent) _ (unsent-sound q e))

  pub members-pass : every (λ n. ltb n numbers24 && accepted q.datagrams n) (unsent_of q) ≡ true
  unfolding sound_unsent
  members-pass = and_left _ (differ (unsent_of q)) (and_right (leb q.pending max_unsent) _ (unsent-sound q e))

  pub members-differ : differ (unsent_of q) ≡ true
  unfolding sound_unsent
  members-differ = and_right (every (λ n. ltb n numbers24 && accepted q.datagrams n) (unsent_of q)) (differ (unsent_of q))
      (and_right (leb q.pending max_unsent) _ (unsent-sound q e))

  queue-good : Arrays q → Good q
  queue-good z = record {
    datagrams = window-sound q.datagrams z.datagrams datagrams-pass;
    reliables = window-sound q.reliables z.reliables reliables-pass;
    channels = z.channels;
    profile = profile-sound q e;
    unsent = z.unsent;
    pending = pending-few;
    members = members-pass;
    apart = members-differ;
  }

-- ---- the receiver
pub sane : (x : Receiver) → Sound x → Sane x
sane x v = record { good = queue-good x.queue (queue-sound x.queue x.records x.store v.call) v.arrays; sound = v.call }

pub sane-sound : (x : Receiver) → Sane x → Sound x
sane-sound x v = record {
  arrays = record {
    datagrams = v.good.datagrams.sized;
    reliables = v.good.reliables.sized;
    channels = v.good.channels;
    unsent = v.good.unsent;
  };
  call = v.sound;
}
