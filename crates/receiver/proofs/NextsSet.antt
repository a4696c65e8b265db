-- What step 4 goes by, apart from a receiver and as part of one.
--     next-of-nexts, newest-of-nexts      a receiver's nexts and memories are these
--     next-channel, newest-channel, newest-own, next_past, newest-past      where each stands
--     next-raised, newest-raised, profile-raised, bumped-is      a channel's next is set: the other nexts stay, and all memories
--     next-noted, newest-noted, profile-noted, noted-is          a memory is set: the other memories stay, and all nexts
--     channels-back                       the channels at these numbers are the channels that have them
-- Assumes nothing.
use Prim.Native.Nat.{ℕ, ◌+◌, ◌≤◌, ◌<◌}
use mathlib.Core.Path.{◌≡◌, refl, sym, ◌∙◌, ap}
use mathlib.Core.List.{List, [], ◌∷◌, ◌++◌, map}
use native.Mathlib.Omega.{arith}
use native.Mathlib.Nat.{zero-add}
use mathlib.Core.Bool.{cond}
use lib.Dec.{ltb, eqb}
use lib.ListN.{length, get_or, set, length-set, get_or-eq_default, get_or-map}
use lib.Seq.{get_or-set_same, get_or-set_other, ext_get_or, map-set_same}
use borrow.Author.Tests.{ltb-true, ltb-false, lt-ltb, le-ltb, eqb-true, eqb-false, eq-eqb, ne_eqb}
use Rattle.base.specs.Limits.{max_ord_chans, memories}
use Rattle.base.proofs.Choices.{cases}
use Rattle.bare.specs.Bare.{bump, noted}
use Rattle.receiver.specs.declared.Channel.{Channel}
use Rattle.receiver.specs.declared.Nexts.{Nexts}
use Rattle.receiver.specs.declared.RecvQueue.{RecvQueue}
use Rattle.receiver.specs.Queue.{new_channel, next_in, next_of, memories_in, newest_of}
use Rattle.receiver.specs.Parts.{channel_with, nexts_of, next_at, newest_at, with_next, with_newest}
use Rattle.receiver.specs.Receive.{channels_after}
use Rattle.receiver.proofs.ChannelsAfter.{channels-length, channels-at, memory-in, memory-own, memory-past}

abbrev next_field : Channel → ℕ
next_field c = c.next

abbrev newest_field : Channel → ℕ
newest_field c = c.newest

-- ---- a receiver's own
module _ (q : RecvQueue) where
  pub next-of-nexts : next_at (nexts_of q) ≡ next_of q
  unfolding next_at nexts_of next_of
  next-of-nexts = refl

  pub newest-of-nexts : newest_at (nexts_of q) ≡ newest_of q
  unfolding newest_at nexts_of newest_of
  newest-of-nexts = refl

-- ---- where each stands
module _ (n : Nexts) where
  pub next-channel : (c : ℕ) → next_at n c ≡ (get_or n.channels c new_channel).next
  unfolding next_at next_in
  next-channel c = refl

  module _ (long : length n.channels ≡ max_ord_chans) where
    pub newest-channel : (m : ℕ) → m < max_ord_chans → newest_at n m ≡ (get_or n.channels m new_channel).newest
    unfolding newest_at
    newest-channel m h = memory-in n.channels n.newest m (omega arith)

    pub newest-own : newest_at n max_ord_chans ≡ n.newest
    unfolding newest_at
    newest-own = memory-own n.channels n.newest max_ord_chans long

    pub next_past : (c : ℕ) → max_ord_chans ≤ c → next_at n c ≡ 0
    next_past c h = next-channel c ∙ ap next_field (get_or-eq_default n.channels new_channel (omega arith))

    pub newest-past : (m : ℕ) → memories ≤ m → newest_at n m ≡ 0
    unfolding newest_at
    newest-past m h = memory-past n.channels n.newest m (omega arith)

    -- the channels at these numbers are the channels that have them
    pub channels-back : (cs : List Channel) → length cs ≡ max_ord_chans → channels_after (next_at n) (newest_at n) 0 cs ≡ n.channels
    channels-back cs e = ext_get_or new_channel after n.channels (many ∙ e ∙ sym long) (λ c h. at c (omega (arith, many)))
      where
        after : List Channel
        after = channels_after (next_at n) (newest_at n) 0 cs

        many : length after ≡ length cs
        many = channels-length (next_at n) (newest_at n) 0 cs

        at : (c : ℕ) → c < max_ord_chans → get_or after c new_channel ≡ get_or n.channels c new_channel
        at c h = channels-at (next_at n) (newest_at n) 0 cs c (omega arith)
            ∙ ap (λ (i : ℕ). channel_with (next_at n i) (newest_at n i)) (zero-add c)
            ∙ (λ i. channel_with (next-channel c i) (newest-channel c h i))

-- ---- a channel's next is set
module _ (n : Nexts) (c v : ℕ) where
  pub raised-length : length (with_next c v n).channels ≡ length n.channels
  unfolding with_next
  raised-length = length-set n.channels c _

  pub profile-raised : (with_next c v n).profile ≡ n.profile
  unfolding with_next
  profile-raised = refl

  pub newest-raised : newest_at (with_next c v n) ≡ newest_at n
  unfolding newest_at memories_in with_next
  newest-raised = λ i m. get_or (same i ++ (n.newest ∷ [])) m 0
    where
      same : map newest_field (set n.channels c (channel_with v (get_or n.channels c new_channel).newest)) ≡ map newest_field n.channels
      same = map-set_same newest_field n.channels c _ new_channel refl

  module _ (long : length n.channels ≡ max_ord_chans) (within : c < max_ord_chans) where
    pub next-raised : (k : ℕ) → next_at (with_next c v n) k ≡ cond (eqb k c) v (next_at n k)
    unfolding with_next
    next-raised k = next-channel (with_next c v n) k ∙ cases (eqb k c)
        (λ t. rw t (ap next_field (at k (eqb-true k c t))))
        (λ t. rw t (ap next_field (get_or-set_other n.channels c k x new_channel (eqb-false k c t)) ∙ sym (next-channel n k)))
      where
        x : Channel
        x = channel_with v (get_or n.channels c new_channel).newest

        at : (k : ℕ) → k ≡ c → get_or (set n.channels c x) k new_channel ≡ x
        at k e = rw e (get_or-set_same n.channels c x new_channel (omega arith))

    pub bumped-is : v ≡ next_at n c + 1 → next_at (with_next c v n) ≡ bump c (next_at n)
    unfolding bump
    bumped-is e = λ i k. at k i
      where
        at : (k : ℕ) → next_at (with_next c v n) k ≡ cond (eqb k c) (next_at n k + 1) (next_at n k)
        at k = next-raised k ∙ cases (eqb k c) (λ t. rw (t, eqb-true k c t, e)) (λ t. rw t)

-- ---- a memory is set
module _ (n : Nexts) (m v : ℕ) where
  abbrev x : Channel
  x = channel_with (get_or n.channels m new_channel).next v

  pub profile-noted : (with_newest m v n).profile ≡ n.profile
  unfolding with_newest
  profile-noted = refl

  in_channel : m < max_ord_chans → (with_newest m v n).channels ≡ set n.channels m x
  unfolding with_newest
  in_channel h = rw (lt-ltb m max_ord_chans h)

  not_in_channel : max_ord_chans ≤ m → (with_newest m v n).channels ≡ n.channels
  unfolding with_newest
  not_in_channel h = rw (le-ltb m max_ord_chans h)

  own_is : (with_newest m v n).newest ≡ cond (eqb max_ord_chans m) v n.newest
  unfolding with_newest
  own_is = cases (eqb m max_ord_chans)
      (λ t. rw (t, eq-eqb max_ord_chans m (sym (eqb-true m max_ord_chans t))))
      (λ t. rw (t, ne_eqb max_ord_chans m (λ s. eqb-false m max_ord_chans t (sym s))))

  -- what cannot tell a channel from one of the same next
  module _ {A : Type 0} (f : List Channel → A) (same : f (set n.channels m x) ≡ f n.channels) where
    kept : f (with_newest m v n).channels ≡ f n.channels
    kept = cases (ltb m max_ord_chans)
        (λ t. ap f (in_channel (ltb-true m max_ord_chans t)) ∙ same)
        (λ t. ap f (not_in_channel (ltb-false m max_ord_chans t)))

  pub noted-length : length (with_newest m v n).channels ≡ length n.channels
  noted-length = kept (λ l. length l) (length-set n.channels m x)

  pub next-noted : next_at (with_newest m v n) ≡ next_at n
  unfolding next_at next_in
  next-noted = kept next_in (λ i k. at k i)
    where
      at : (k : ℕ) → next_in (set n.channels m x) k ≡ next_in n.channels k
      at k = sym (get_or-map next_field (set n.channels m x) k new_channel)
          ∙ ap (λ (l : List ℕ). get_or l k 0) (map-set_same next_field n.channels m x new_channel refl)
          ∙ get_or-map next_field n.channels k new_channel

  module _ (long : length n.channels ≡ max_ord_chans) (within : m < memories) where
    after_long : length (with_newest m v n).channels ≡ max_ord_chans
    after_long = noted-length ∙ long

    pub newest-noted : (k : ℕ) → newest_at (with_newest m v n) k ≡ cond (eqb k m) v (newest_at n k)
    newest-noted k = cases (ltb k max_ord_chans) (λ t. channel (ltb-true k max_ord_chans t)) (λ t. let g = ltb-false k max_ord_chans t in
        cases (eqb k max_ord_chans)
        (λ u. own (eqb-true k max_ord_chans u))
        (λ u. let ne = eqb-false k max_ord_chans u in past (omega arith)))
      where
        here : k < max_ord_chans → k ≡ m → get_or (with_newest m v n).channels k new_channel ≡ x
        here l e = ap (λ (cs : List Channel). get_or cs k new_channel) (in_channel (omega arith))
            ∙ rw e (get_or-set_same n.channels m x new_channel (omega arith))

        there : (k ≡ m → ⊥) → get_or (with_newest m v n).channels k new_channel ≡ get_or n.channels k new_channel
        there ne = kept (λ cs. get_or cs k new_channel) (get_or-set_other n.channels m k x new_channel ne)

        channel : k < max_ord_chans → newest_at (with_newest m v n) k ≡ cond (eqb k m) v (newest_at n k)
        channel l = newest-channel (with_newest m v n) after_long k l ∙ cases (eqb k m)
            (λ t. rw t (ap newest_field (here l (eqb-true k m t))))
            (λ t. rw t (ap newest_field (there (eqb-false k m t)) ∙ sym (newest-channel n long k l)))

        own : k ≡ max_ord_chans → newest_at (with_newest m v n) k ≡ cond (eqb k m) v (newest_at n k)
        own e = rw (e, newest-own n long) (newest-own (with_newest m v n) after_long ∙ own_is)

        past : max_ord_chans < k → newest_at (with_newest m v n) k ≡ cond (eqb k m) v (newest_at n k)
        past l = rw (ne_eqb k m (λ e. omega arith))
            (newest-past (with_newest m v n) after_long k (omega arith) ∙ sym (newest-past n long k (omega arith)))

pub noted-is : (n : Nexts) → length n.channels ≡ max_ord_chans → (m s : ℕ) → m < memories
    → newest_at (with_newest m (s + 1) n) ≡ noted m s (newest_at n)
unfolding noted
noted-is n long m s within = λ i k. newest-noted n m (s + 1) long within k i
