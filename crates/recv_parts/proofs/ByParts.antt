-- A receiver and its parts: each says what the other does.
--     place-channel, place-past, place-within, place-apart, place_same, place-some      where each number stands
--     next-at, newest-at, profile-at                  the numbers of a list
--     next-set, newest-set, profile-set               one of them is set
--     next-of-parts, newest-of-parts, nexts-back      what a receiver of these parts has
--     channels-back, newest-back, profile-back, own-parts      a receiver of its own parts is that receiver
-- Assumes nothing.
use Prim.Native.Nat.{ℕ, zero, suc, ◌+◌, ◌*◌, ◌/◌, ◌%◌, ◌≤◌, ◌<◌}
use mathlib.Core.Path.{◌≡◌, refl, sym, ◌∙◌, ap}
use mathlib.Core.Logic.{◌⊎◌, inl, inr}
use mathlib.Core.List.{List, [], ◌∷◌}
use native.Mathlib.Omega.{arith}
use native.Mathlib.Nat.{zero-add}
use lib.ListN.{length, get_or, set, take, replicate, length-take, length-replicate, get_or-eq_default}
use mathlib.Core.Bool.{cond}
use lib.Dec.{ltb, eqb}
use borrow.Author.Tests.{ltb-true, ltb-false, lt-ltb, le-ltb, eqb-true, eqb-false}
use lib.Seq.{get_or-take, get_or-set_same, get_or-set_other, ext_get_or}
use Rattle.base.specs.Limits.{max_ord_chans, memories}
use Rattle.base.proofs.Choices.{cases}
use Rattle.receiver.specs.declared.Channel.{Channel}
use Rattle.recv_parts.specs.declared.Heads.{Heads}
use Rattle.receiver.specs.declared.RecvQueue.{RecvQueue}
use Rattle.receiver.specs.Queue.{new_channel, next_in, next_of, memories_in, newest_of}
use Rattle.receiver.specs.Parts.{channel_with}
use Rattle.recv_parts.specs.Parts.{many_nexts, nexts_in, nexts_of, next_place, memory_place, next_at, newest_at, channels_of, heads_of}
use Rattle.recv_parts.specs.Parts.{profile_place, profile_at, queue_of}
use Rattle.receiver.specs.Receive.{channels_after}
use Rattle.receiver.proofs.ChannelsAfter.{channels-length, channels-at, memory-in, memory-own, next-after}
use Rattle.receiver.proofs.ChannelsAfter.{newest-after}

abbrev next_field : Channel → ℕ
next_field c = c.next

abbrev newest_field : Channel → ℕ
newest_field c = c.newest

-- ---- places: a channel's next, its memory, the receiver's own
pub place-channel : (m : ℕ) → m < max_ord_chans → memory_place m ≡ 2 * m + 1
unfolding memory_place
place-channel m h = rw (lt-ltb m max_ord_chans h)

pub place-past : (m : ℕ) → max_ord_chans ≤ m → memory_place m ≡ 2 * m
unfolding memory_place
place-past m h = rw (le-ltb m max_ord_chans h)

-- a memory's place is odd, or the last
abbrev PlaceIs : ℕ → Type 0
PlaceIs m = ((memory_place m ≡ 2 * m + 1) × (m < max_ord_chans)) ⊎ ((memory_place m ≡ 2 * m) × (m ≡ max_ord_chans))

place_is : (m : ℕ) → m < memories → PlaceIs m
place_is m h = cases (ltb m max_ord_chans)
    (λ t. let l = ltb-true m max_ord_chans t in inl (place-channel m l, l))
    (λ t. let g = ltb-false m max_ord_chans t in inr (place-past m g, omega arith))

pub place-apart : (c m : ℕ) → c < max_ord_chans → m < memories → memory_place m ≡ next_place c → ⊥
place-apart c m l h e = by (place_is m h)
  where
    by : PlaceIs m → ⊥
    by (inl f) = let a = f.0 in omega arith
    by (inr f) = let a = f.0 in let b = f.1 in omega arith

pub place-before : (m : ℕ) → m < memories → memory_place m < profile_place
place-before m h = by (place_is m h)
  where
    by : PlaceIs m → memory_place m < profile_place
    by (inl e) = let a = e.0 in let b = e.1 in omega arith
    by (inr e) = let a = e.0 in let b = e.1 in omega arith

pub place-within : (m : ℕ) → m < memories → memory_place m < many_nexts
place-within m h = let l = place-before m h in omega arith

pub place_same : (k m : ℕ) → k < memories → m < memories → memory_place k ≡ memory_place m → k ≡ m
place_same k m h g e = by (place_is k h) (place_is m g)
  where
    by : PlaceIs k → PlaceIs m → k ≡ m
    by (inl a) (inl b) = let p = a.0 in let q = b.0 in omega arith
    by (inl a) (inr b) = let p = a.0 in let q = b.0 in omega arith
    by (inr a) (inl b) = let p = a.0 in let q = b.0 in omega arith
    by (inr a) (inr b) = a.1 ∙ sym b.1

-- every place below `many_nexts` is one of these
abbrev pub SomePlace : ℕ → Type 0
SomePlace i = ((c : ℕ) × (c < max_ord_chans) × (i ≡ next_place c)) ⊎ (((m : ℕ) × (m < memories) × (i ≡ memory_place m))
    ⊎ (i ≡ profile_place))

pub place-some : (i : ℕ) → i < many_nexts → SomePlace i
place-some i h = by (i % 2) (i / 2) (omega arith) (omega arith)
  where
    by : (r q : ℕ) → r < 2 → i ≡ 2 * q + r → SomePlace i
    by r q l e = cases (ltb q max_ord_chans)
        (λ t. let b = ltb-true q max_ord_chans t in
        cases (eqb r 0)
        (λ u. let z = eqb-true r 0 u in inl (q, b, omega arith))
        (λ u. let z = eqb-false r 0 u in inr (inl (q, omega arith, omega (arith, place-channel q b)))))
        (λ t. let g = ltb-false q max_ord_chans t in
        cases (eqb r 0)
        (λ u. let z = eqb-true r 0 u in
        inr (inl (max_ord_chans, omega arith, omega (arith, place-past max_ord_chans (omega arith)))))
        (λ u. let z = eqb-false r 0 u in inr (inr (omega arith))))

-- ---- the nexts and memories of channels
pub nexts-in-next : (cs : List Channel) (own p c : ℕ) → c < length cs → get_or (nexts_in cs own p) (next_place c) 0
    ≡ (get_or cs c new_channel).next
unfolding nexts_in
nexts-in-next [] own p c h = absurd (omega arith)
nexts-in-next (x ∷ cs) own p zero h = refl
nexts-in-next (x ∷ cs) own p (suc c) h = let e : 2 * suc c ≡ suc (suc (2 * c)) = omega arith in
    rw e (nexts-in-next cs own p c (omega arith))

pub nexts-in-newest : (cs : List Channel) (own p c : ℕ) → c < length cs → get_or (nexts_in cs own p) (2 * c + 1) 0
    ≡ (get_or cs c new_channel).newest
unfolding nexts_in
nexts-in-newest [] own p c h = absurd (omega arith)
nexts-in-newest (x ∷ cs) own p zero h = refl
nexts-in-newest (x ∷ cs) own p (suc c) h = let e : 2 * suc c + 1 ≡ suc (suc (2 * c + 1)) = omega arith in
    rw e (nexts-in-newest cs own p c (omega arith))

pub nexts-in-own : (cs : List Channel) (own p : ℕ) → get_or (nexts_in cs own p) (2 * length cs) 0 ≡ own
unfolding nexts_in
nexts-in-own [] own p = refl
nexts-in-own (x ∷ cs) own p = let e : 2 * suc (length cs) ≡ suc (suc (2 * length cs)) = omega arith in rw e (nexts-in-own cs own p)

pub nexts-in-profile : (cs : List Channel) (own p : ℕ) → get_or (nexts_in cs own p) (2 * length cs + 1) 0 ≡ p
unfolding nexts_in
nexts-in-profile [] own p = refl
nexts-in-profile (x ∷ cs) own p = let e : 2 * suc (length cs) + 1 ≡ suc (suc (2 * length cs + 1)) = omega arith in
    rw e (nexts-in-profile cs own p)

nexts_count : (cs : List Channel) (own p : ℕ) → length (nexts_in cs own p) ≡ 2 * length cs + 2
unfolding nexts_in
nexts_count [] own p = refl
nexts_count (x ∷ cs) own p = let e = nexts_count cs own p in omega arith

-- memory m stands at its place
pub nexts-in-memory : (cs : List Channel) (own p m : ℕ) → length cs ≡ max_ord_chans → m < memories
    → get_or (nexts_in cs own p) (memory_place m) 0 ≡ get_or (memories_in cs own) m 0
nexts-in-memory cs own p m long h = by (place_is m h)
  where
    by : PlaceIs m → get_or (nexts_in cs own p) (memory_place m) 0 ≡ get_or (memories_in cs own) m 0
    by (inl e) = let l = e.1 in rw e.0 (nexts-in-newest cs own p m (omega arith) ∙ sym (memory-in cs own m (omega arith)))
    by (inr e) = let z : 2 * m ≡ 2 * length cs = omega (arith, e.1) in
        rw (e.0, z) (nexts-in-own cs own p ∙ sym (memory-own cs own m (long ∙ sym e.1)))

pub nexts-in-long : (cs : List Channel) (own p : ℕ) → length cs ≡ max_ord_chans → length (nexts_in cs own p) ≡ many_nexts
nexts-in-long cs own p e = let a = nexts_count cs own p in omega arith

pub nexts-long : (q : RecvQueue) → length q.channels ≡ max_ord_chans → length (nexts_of q) ≡ many_nexts
unfolding nexts_of
nexts-long q e = nexts-in-long q.channels q.newest q.profile e

few : (k c : ℕ) → k ≤ c → (l : List ℕ) → length (take k l) ≤ c
few k c le l = simp length-take (omega arith)

-- ---- the numbers of a list
module _ (ns : List ℕ) where
  pub next-at : (c : ℕ) → c < max_ord_chans → next_at ns c ≡ get_or ns (next_place c) 0
  unfolding next_at
  next-at c h = get_or-take (2 * max_ord_chans) ns (next_place c) 0 (omega arith)

  -- as code that read it finds it
  pub next-read : {r : ℕ} (c : ℕ) → c < max_ord_chans → r ≡ get_or ns (next_place c) 0 → r ≡ next_at ns c
  next-read c h e = e ∙ sym (next-at c h)

  pub next_past : (c : ℕ) → max_ord_chans ≤ c → next_at ns c ≡ 0
  unfolding next_at
  next_past c h = get_or-eq_default (take (2 * max_ord_chans) ns) 0 (few (2 * max_ord_chans) (next_place c) (omega arith) ns)

  pub newest-at : (m : ℕ) → m < memories → newest_at ns m ≡ get_or ns (memory_place m) 0
  unfolding newest_at
  newest-at m h = get_or-take many_nexts ns (memory_place m) 0 (place-within m h)

  pub newest-past : (m : ℕ) → memories ≤ m → newest_at ns m ≡ 0
  unfolding newest_at
  newest-past m h = get_or-eq_default (take many_nexts ns) 0 (few many_nexts (memory_place m)
      (let e = place-past m (omega arith) in omega arith) ns)

  pub profile-at : profile_at ns ≡ get_or ns profile_place 0
  unfolding profile_at
  profile-at = get_or-take many_nexts ns profile_place 0 (omega arith)

  -- ---- the channels made of them
  pub channels-of-length : length (channels_of ns) ≡ max_ord_chans
  unfolding channels_of
  channels-of-length = channels-length (next_at ns) (newest_at ns) 0 (replicate max_ord_chans new_channel)
      ∙ length-replicate max_ord_chans new_channel

  pub channels-of-at : (c : ℕ) → c < max_ord_chans → get_or (channels_of ns) c new_channel ≡ channel_with (next_at ns c) (newest_at ns c)
  unfolding channels_of
  channels-of-at c h = channels-at (next_at ns) (newest_at ns) 0 (replicate max_ord_chans new_channel) c
      (let e = length-replicate max_ord_chans new_channel in omega arith)
      ∙ ap (λ (i : ℕ). channel_with (next_at ns i) (newest_at ns i)) (zero-add c)

  -- their nexts and memories are these numbers
  pub next-in-numbers : next_in (channels_of ns) ≡ next_at ns
  unfolding channels_of
  next-in-numbers = next-after (next_at ns) (newest_at ns) (replicate max_ord_chans new_channel)
      (λ c h. next_past c (let e = length-replicate max_ord_chans new_channel in omega arith))

  pub newest-in-numbers : (λ (m : ℕ). get_or (memories_in (channels_of ns) (newest_at ns max_ord_chans)) m 0) ≡ newest_at ns
  unfolding channels_of
  newest-in-numbers = newest-after (next_at ns) (newest_at ns) (replicate max_ord_chans new_channel) max_ord_chans
      (length-replicate max_ord_chans new_channel) (λ m h. newest-past m (omega arith))

  -- so the numbers come back
  pub numbers-back : length ns ≡ many_nexts → nexts_in (channels_of ns) (newest_at ns max_ord_chans) (profile_at ns) ≡ ns
  numbers-back long = ext_get_or 0 (nexts_in (channels_of ns) own p) ns (nexts-in-long (channels_of ns) own p channels-of-length ∙ sym long)
      (λ j l. at j (place-some j (let e = nexts-in-long (channels_of ns) own p channels-of-length in omega arith)))
    where
      own : ℕ
      own = newest_at ns max_ord_chans

      p : ℕ
      p = profile_at ns

      at : (j : ℕ) → SomePlace j → get_or (nexts_in (channels_of ns) own p) j 0 ≡ get_or ns j 0
      at j (inl x) = rw x.2 (nexts-in-next (channels_of ns) own p x.0 (let e = channels-of-length in let h = x.1 in omega arith)
          ∙ ap next_field (channels-of-at x.0 x.1) ∙ next-at x.0 x.1)
      at j (inr (inl x)) = rw x.2 (nexts-in-memory (channels_of ns) own p x.0 channels-of-length x.1
          ∙ (λ i. newest-in-numbers i x.0) ∙ newest-at x.0 x.1)
      at j (inr (inr e)) = let z : profile_place ≡ 2 * length (channels_of ns) + 1 = omega (arith, channels-of-length) in
          rw e (ap (λ (k : ℕ). get_or (nexts_in (channels_of ns) own p) k 0) z ∙ nexts-in-profile (channels_of ns) own p ∙ profile-at)

-- ---- a number of the list is set, a channel's next or a memory: the others stay, and so does the profile
module _ (ns : List ℕ) (long : length ns ≡ many_nexts) (v : ℕ) where
  pub next-set : (j c : ℕ) → c < max_ord_chans → next_at (set ns j v) c ≡ cond (eqb (next_place c) j) v (next_at ns c)
  next-set j c lt = next-at (set ns j v) c lt ∙ cases (eqb (next_place c) j)
      (λ t. let e = eqb-true (next_place c) j t in rw (t, e) (get_or-set_same ns j v 0 (omega arith)))
      (λ t. rw t (get_or-set_other ns j (next_place c) v 0 (eqb-false (next_place c) j t) ∙ sym (next-at ns c lt)))

  pub newest-set : (j m : ℕ) → m < memories → newest_at (set ns j v) m ≡ cond (eqb (memory_place m) j) v (newest_at ns m)
  newest-set j m lt = newest-at (set ns j v) m lt ∙ cases (eqb (memory_place m) j)
      (λ t. let e = eqb-true (memory_place m) j t in let w = place-within m lt in rw (t, e) (get_or-set_same ns j v 0 (omega arith)))
      (λ t. rw t (get_or-set_other ns j (memory_place m) v 0 (eqb-false (memory_place m) j t) ∙ sym (newest-at ns m lt)))

pub profile-set : (ns : List ℕ) (j v : ℕ) → (profile_place ≡ j → ⊥) → profile_at (set ns j v) ≡ profile_at ns
profile-set ns j v other = profile-at (set ns j v) ∙ get_or-set_other ns j profile_place v 0 other ∙ sym (profile-at ns)

-- ---- a receiver of these parts
module _ (h : Heads) (dbits rbits nexts unsent : List ℕ) where
  pub next-of-parts : next_of (queue_of h dbits rbits nexts unsent) ≡ next_at nexts
  unfolding next_of queue_of
  next-of-parts = next-in-numbers nexts

  pub newest-of-parts : newest_of (queue_of h dbits rbits nexts unsent) ≡ newest_at nexts
  unfolding newest_of queue_of
  newest-of-parts = newest-in-numbers nexts

  pub nexts-back : length nexts ≡ many_nexts → nexts_of (queue_of h dbits rbits nexts unsent) ≡ nexts
  unfolding nexts_of queue_of
  nexts-back long = numbers-back nexts long

-- ---- channels, a memory and a profile as numbers, and back
module _ (cs : List Channel) (own p : ℕ) (long : length cs ≡ max_ord_chans) where
  next-back : (c : ℕ) → c < max_ord_chans → next_at (nexts_in cs own p) c ≡ (get_or cs c new_channel).next
  next-back c h = next-at (nexts_in cs own p) c h ∙ nexts-in-next cs own p c (omega (arith, long))

  memory-back : (m : ℕ) → m < memories → newest_at (nexts_in cs own p) m ≡ get_or (memories_in cs own) m 0
  memory-back m h = newest-at (nexts_in cs own p) m h ∙ nexts-in-memory cs own p m long h

  pub newest-back : newest_at (nexts_in cs own p) max_ord_chans ≡ own
  newest-back = memory-back max_ord_chans (omega arith) ∙ memory-own cs own max_ord_chans long

  pub profile-back : profile_at (nexts_in cs own p) ≡ p
  profile-back = let z : profile_place ≡ 2 * length cs + 1 = omega (arith, long) in
      profile-at (nexts_in cs own p) ∙ ap (λ (k : ℕ). get_or (nexts_in cs own p) k 0) z ∙ nexts-in-profile cs own p

  pub channels-back : channels_of (nexts_in cs own p) ≡ cs
  channels-back = ext_get_or new_channel (channels_of (nexts_in cs own p)) cs (channels-of-length (nexts_in cs own p) ∙ sym long)
      (λ c l. at c (let e = channels-of-length (nexts_in cs own p) in omega arith))
    where
      newest : (c : ℕ) → c < max_ord_chans → newest_at (nexts_in cs own p) c ≡ (get_or cs c new_channel).newest
      newest c h = memory-back c (omega arith) ∙ memory-in cs own c (omega (arith, long))

      at : (c : ℕ) → c < max_ord_chans → get_or (channels_of (nexts_in cs own p)) c new_channel ≡ get_or cs c new_channel
      at c h = channels-of-at (nexts_in cs own p) c h ∙ (λ i. channel_with (next-back c h i) (newest c h i))

-- a receiver of its own parts is that receiver
pub own-parts : (q : RecvQueue) → length q.channels ≡ max_ord_chans
    → queue_of (heads_of q) q.datagrams.bits q.reliables.bits (nexts_of q) q.unsent ≡ q
unfolding queue_of nexts_of
own-parts q long = λ i. record {
  datagrams = q.datagrams;
  reliables = q.reliables;
  channels = channels-back q.channels q.newest q.profile long i;
  unsent = q.unsent;
  pending = q.pending;
  newest = newest-back q.channels q.newest q.profile long i;
  profile = profile-back q.channels q.newest q.profile long i;
}
