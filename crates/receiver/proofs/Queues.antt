-- A receiver's own values stay sound.
-- Assumes nothing.
use Prim.Native.Nat.{ℕ, zero, suc, ◌+◌, ◌≤◌, ◌<◌}
use mathlib.Core.Path.{◌≡◌, refl, ◌∙◌}
use mathlib.Core.Bool.{Bool, true, false, not, ◌&&◌, ◌||◌, or-true, and-false}
use mathlib.Core.List.{◌++◌}
use native.Mathlib.Omega.{arith}
use lib.ListN.{length, take, drop}
use lib.Dec.{ltb, leb, eqb}
use borrow.Author.Tests.{ltb-false, le-leb, lt-ltb, eq-eqb}
use Rattle.base.specs.Limits.{numbers24, max_ord_chans, window_places, max_unsent}
use Rattle.base.specs.Lists.{any, every}
use Rattle.base.proofs.Choices.{and_left, and_right, and_both}
use Rattle.reliability.specs.declared.Profile.{Profile}
use Rattle.reliability.specs.declared.Profile.TheVariants.{Console, Cpp}
use Rattle.window.specs.declared.ReliableWindow.{ReliableWindow}
use Rattle.window.specs.Places.{place_set}
use Rattle.window.specs.Window.{accepted, accept}
use Rattle.window.specs.Proper.{Proper}
use Rattle.window.proofs.Inserts.{accept-accepts}
use Rattle.window.proofs.Laws.{new-proper}
use Rattle.cells.specs.Sound.{sound_nexts, sound_memories}
use Rattle.receiver.specs.declared.RecvQueue.{RecvQueue}
use Rattle.receiver.specs.Receive.{queue_after}
use Rattle.receiver.specs.Write.{emptied}
use Rattle.receiver.proofs.Accepting.{accept-proper}
use Rattle.receiver.proofs.ChannelsAfter.{channels-length}
use Rattle.receiver.specs.Queue.{next_of, newest_of, unsent_of, new_queue, places_within, sound_window, differ, sound_unsent, sound_queue}
use Rattle.receiver.specs.Queue.{sound_profile, insert_unsent}
use Rattle.receiver.proofs.Unsent.{every-insert, differ-insert, taken-after, array-after, every_more, not-among}

-- A proper window passes the test.
places-proper : (w : ReliableWindow) → Proper w → (k : ℕ) → k ≤ window_places → places_within w k ≡ true
unfolding places_within
places-proper w p zero le = refl
places-proper w p (suc k) le =
    and_both (places_within w k) _ (places-proper w p k (omega arith)) (go (ltb (w.low + suc k) numbers24) refl)
  where
    go : (b : Bool) → ltb (w.low + suc k) numbers24 ≡ b → (b || not (place_set w.bits (w.low + suc k))) ≡ true
    go true e = refl
    go false e = rw (p.places_limit (w.low + suc k) (omega arith) (omega arith) (ltb-false _ _ e))

pub window-proper : (w : ReliableWindow) → Proper w → sound_window w ≡ true
unfolding sound_window
window-proper w p = and_both (leb w.low numbers24) _ (le-leb _ _ p.low_limit) (places-proper w p window_places (omega arith))

-- The array's own length, which the type gives; proper windows; and the unsent numbers' rules.
pub record Good (q : RecvQueue) : Type 0 where
  pub datagrams : Proper q.datagrams
  pub reliables : Proper q.reliables
  pub channels : length q.channels ≡ max_ord_chans
  pub profile : sound_profile q.profile ≡ true
  pub unsent : length q.unsent ≡ max_unsent
  pub pending : q.pending ≤ max_unsent
  pub members : every (λ n. ltb n numbers24 && accepted q.datagrams n) (unsent_of q) ≡ true
  pub apart : differ (unsent_of q) ≡ true

pub good-sound : (q : RecvQueue) → Good q → sound_nexts (next_of q) ≡ true → sound_memories (newest_of q) ≡ true → sound_queue q ≡ true
unfolding sound_queue sound_unsent
good-sound q g n m =
    and_both (sound_window q.datagrams) _ (window-proper q.datagrams g.datagrams)
    (and_both (sound_window q.reliables) _ (window-proper q.reliables g.reliables)
    (and_both (sound_nexts (next_of q)) _ n
    (and_both (sound_memories (newest_of q)) _ m
    (and_both (sound_profile q.profile) _ g.profile
    (and_both (leb q.pending max_unsent) _ (le-leb _ _ g.pending) (and_both _ (differ (unsent_of q)) g.members g.apart))))))

new-profile : (p : Profile) → sound_profile (new_queue p).profile ≡ true
unfolding sound_profile new_queue
new-profile Console = refl
new-profile Cpp = refl

pub new-good : (p : Profile) → Good (new_queue p)
unfolding new_queue unsent_of every differ
new-good p = record {
  datagrams = new-proper;
  reliables = new-proper;
  channels = refl;
  profile = new-profile p;
  unsent = refl;
  pending = omega arith;
  members = refl;
  apart = refl;
}

-- An accepted datagram's number joins the accepted and the unsent.
pub after-good : (q : RecvQueue) (n : ℕ) (v : ReliableWindow) (next newest : ℕ → ℕ) → Good q → Proper v → n < numbers24
    → accepted q.datagrams n ≡ false
    → n ≤ q.datagrams.low + window_places → q.pending < max_unsent → sound_profile (queue_after q n v next newest).profile ≡ true
    → Good (queue_after q n v next newest)
unfolding queue_after unsent_of
after-good q n v next newest g pv small fresh near room known =
    record {
      datagrams = accept-proper q.datagrams n g.datagrams small fresh near;
      reliables = pv;
      channels = channels-length next newest 0 q.channels ∙ g.channels;
      profile = known;
      unsent = array-after n q.pending q.unsent (omega (arith, g.unsent)) ∙ g.unsent;
      pending = omega arith;
      members = rw (is) (every-insert test n (take q.pending q.unsent) own
          (every_more (λ m. ltb m numbers24 && accepted q.datagrams m) test one (take q.pending q.unsent) g.members));
      apart = rw (is) (differ-insert n (take q.pending q.unsent) away g.apart);
    }
  where
    test : ℕ → Bool
    test m = ltb m numbers24 && accepted (accept q.datagrams n) m

    is : take (q.pending + 1) (insert_unsent n (take q.pending q.unsent) ++ drop (q.pending + 1) q.unsent)
        ≡ insert_unsent n (take q.pending q.unsent)
    is = taken-after n q.pending q.unsent (omega (arith, g.unsent))

    also : (m : ℕ) → accepted (accept q.datagrams n) m ≡ (eqb m n || accepted q.datagrams m)
    also m = accept-accepts q.datagrams n m g.datagrams.sized fresh near

    own : test n ≡ true
    own = and_both (ltb n numbers24) _ (lt-ltb n numbers24 small) (also n ∙ rw (eq-eqb n n refl))

    one : (m : ℕ) → (ltb m numbers24 && accepted q.datagrams m) ≡ true → test m ≡ true
    one m e = and_both (ltb m numbers24) _ (and_left (ltb m numbers24) _ e)
        (also m ∙ rw (and_right (ltb m numbers24) _ e) (or-true (eqb m n)))

    away : any (eqb n) (take q.pending q.unsent) ≡ false
    away = not-among (λ m. ltb m numbers24 && accepted q.datagrams m) n (take q.pending q.unsent) g.members
        (rw fresh (and-false (ltb n numbers24)))

-- Sending the unsent empties them.
pub emptied-good : (q : RecvQueue) → Good q → Good (emptied q)
unfolding emptied unsent_of every differ
emptied-good q g = record {
  datagrams = g.datagrams;
  reliables = g.reliables;
  channels = g.channels;
  profile = g.profile;
  unsent = g.unsent;
  pending = omega arith;
  members = refl;
  apart = refl;
}
