-- The rules on the receiver's own values, as the code finds them.
-- Assumes nothing.
use mathlib.Core.Path.{◌≡◌, ◌∙◌, sym, ap, refl}
use mathlib.Core.Bool.{Bool, true, false, not, ◌&&◌, ◌||◌, and-true}
use mathlib.Core.List.{List, [], ◌∷◌}
use Prim.Native.Nat.{ℕ, zero, suc, ◌+◌, ◌-◌, ◌<◌, ◌≤◌}
use native.Mathlib.Omega.{arith}
use lib.Bits.{bit_or, or_add_and, and_le_l, and_le_r}
use lib.Dec.{ltb, leb, eqb}
use lib.ListN.{length, get_or, take, drop, drop_of_length-le}
use borrow.Author.Tests.{leb-true, ltb-true, ltb-false, lt-ltb, le-ltb, le-leb, lt-leb}
use Rattle.std.specs.Prelude.{Result, Ok, Err}
use Rattle.std.specs.Result.{is_ok}
use Rattle.std.specs.List.{fold, list_any, list_all, enumerate_from}
use Rattle.std.proofs.lemmas.List.{drop-drop}
use Rattle.base.specs.Limits.{numbers24, max_ord_chans, memories, window_places, max_unsent}
use Rattle.base.specs.Lists.{any, every, below}
use Rattle.base.specs.declared.refusal.Refusal.{Refusal}
use Rattle.base.specs.declared.refusal.Refusal.TheVariants.{NotSound}
use Rattle.base.proofs.Choices.{cases, and_left, and_right, and_both, neither}
use Rattle.base.proofs.Lists.{below_at, below_all}
use Rattle.ack.specs.Write.{ascending}
use Rattle.window.specs.declared.ReliableWindow.{ReliableWindow}
use Rattle.window.specs.Places.{place_set}
use Rattle.window.specs.Window.{accepted}
use Rattle.window.proofs.Accepted.{accepted-place, accepted-below}
use Rattle.cells.specs.Sound.{sound_nexts, sound_memories}
use Rattle.receiver.specs.declared.Channel.{Channel}
use Rattle.receiver.specs.declared.RecvQueue.{RecvQueue}
use Rattle.receiver.specs.Queue.{new_channel, next_in, next_of, memories_in, newest_of, unsent_of}
use Rattle.receiver.specs.Queue.{places_within, sound_window, differ, sound_unsent, sound_profile, sound_queue}
use Rattle.receiver.proofs.ChannelsAfter.{memory-in, memory-own}
use Rattle.receiver.proofs.Parts.{from-here, part-from}
use Rattle.sound_queue.proofs.Ascending.{ascending-differ}
use Rattle.sound_queue.proofs.Chains.{held}
use Rattle.sound_queue.specs.Sound.{told, queue_sound_of, sound_values, channel_within, nexts_within, join_channel, joined}
use Rattle.sound_queue.specs.Sound.{sound_number, sound_numbers, numbers_sound_of}

-- ---- a window: its places by their numbers, and all of them
module _ (w : ReliableWindow) where
  abbrev place : ℕ → Bool
  place n = ltb n numbers24 || not (place_set w.bits n)

  pub place_over : (n : ℕ) (b : Bool) → b ≡ accepted w n → w.low < n → n ≤ w.low + window_places → numbers24 ≤ n → not b ≡ place n
  place_over n b e h k o = rw (le-ltb n numbers24 o) (ap not (e ∙ accepted-place w n h k))

  pub places_below : (n : ℕ) → below n (λ k. place (w.low + k + 1)) ≡ places_within w n
  unfolding below places_within
  places_below zero = refl
  places_below (suc n) =
      let e : w.low + n + 1 ≡ w.low + suc n = omega arith in
      rw e (ap (λ (b : Bool). b && place (w.low + suc n)) (places_below n))

  all_below : w.low + window_places < numbers24 → (k : ℕ) → k ≤ window_places → places_within w k ≡ true
  unfolding places_within
  all_below h zero l = refl
  all_below h (suc k) l =
      let lt : w.low + suc k < numbers24 = omega arith in
      rw (all_below h k (omega arith), lt-ltb (w.low + suc k) numbers24 lt)

  pub window_small : w.low ≤ numbers24 → w.low + window_places < numbers24 → true ≡ sound_window w
  unfolding sound_window
  window_small l h = rw (le-leb w.low numbers24 l, all_below h window_places (omega arith))

  pub window_by_places : (b : Bool) → b ≡ places_within w window_places → w.low ≤ numbers24 → b ≡ sound_window w
  unfolding sound_window
  window_by_places b e l = rw (le-leb w.low numbers24 l) e

  pub window_over : numbers24 < w.low → false ≡ sound_window w
  unfolding sound_window
  window_over h = rw (lt-leb w.low numbers24 h)

  pub window_low : sound_window w ≡ true → w.low ≤ numbers24
  unfolding sound_window
  window_low t = leb-true w.low numbers24 (and_left (leb w.low numbers24) _ t)

-- ---- the channels' numbers
-- none is above the number that all join to
within_joined : (cs : List Channel) (a : ℕ) → fold join_channel a cs ≤ numbers24 → (a ≤ numbers24) × (every channel_within cs ≡ true)
unfolding every channel_within
within_joined [] a h = (h, refl)
within_joined (c ∷ cs) a h =
    let (l, t) = within_joined cs (join_channel a c) h in
    let x = or_add_and (bit_or a c.next) c.newest in
    let x1 = and_le_l (bit_or a c.next) c.newest in
    let x2 = and_le_r (bit_or a c.next) c.newest in
    let y = or_add_and a c.next in
    let y1 = and_le_l a c.next in
    let y2 = and_le_r a c.next in
    let n : c.next ≤ numbers24 = omega arith in
    let m : c.newest ≤ numbers24 = omega arith in
    (omega arith, and_both _ (every channel_within cs) (and_both _ _ (le-leb c.next numbers24 n) (le-leb c.newest numbers24 m)) t)

pub joined_within : (cs : List Channel) (b : ℕ) → b ≡ joined cs → b ≤ numbers24 → true ≡ nexts_within cs
unfolding joined nexts_within
joined_within cs b e h = sym (within_joined cs 0 (rw e at h)).1

module _ {A : Type 0} (p : A → Bool) (d : A) where
  passes_at : (l : List A) → every p l ≡ true → (i : ℕ) → i < length l → p (get_or l i d) ≡ true
  unfolding every
  passes_at [] t i h = absurd (omega arith)
  passes_at (x ∷ l) t zero h = and_left (p x) _ t
  passes_at (x ∷ l) t (suc i) h = passes_at l (and_right (p x) _ t) i (omega arith)

  passes_all : (l : List A) → ((i : ℕ) → i < length l → p (get_or l i d) ≡ true) → every p l ≡ true
  unfolding every
  passes_all [] h = refl
  passes_all (x ∷ l) h = and_both (p x) _ (h 0 (omega arith)) (passes_all l (λ i m. h (suc i) (omega arith)))

-- what each channel and the receiver's own memory pass is what the nexts and the memories do
module _ (cs : List Channel) (own : ℕ) (long : length cs ≡ max_ord_chans) where
  abbrev memory : ℕ → ℕ
  memory m = get_or (memories_in cs own) m 0

  abbrev Within : Bool
  Within = nexts_within cs && leb own numbers24

  abbrev Bounded : Bool
  Bounded = sound_nexts (next_in cs) && sound_memories memory

  within_at : Within ≡ true → (c : ℕ) → c < max_ord_chans → channel_within (get_or cs c new_channel) ≡ true
  unfolding nexts_within
  within_at t c h = passes_at channel_within new_channel cs (and_left _ (leb own numbers24) t) c (omega arith)

  next_bounded : Within ≡ true → (c : ℕ) → c < max_ord_chans → leb (next_in cs c) numbers24 ≡ true
  unfolding channel_within next_in
  next_bounded t c h = and_left _ _ (within_at t c h)

  memory_bounded : Within ≡ true → (m : ℕ) → m < memories → leb (memory m) numbers24 ≡ true
  unfolding channel_within
  memory_bounded t m h = cases (ltb m max_ord_chans)
      (λ u. let l = ltb-true m max_ord_chans u in
      rw (memory-in cs own m (omega arith)) (and_right (leb (get_or cs m new_channel).next numbers24) _ (within_at t m l)))
      (λ u. let g = ltb-false m max_ord_chans u in rw (memory-own cs own m (omega arith)) (and_right _ (leb own numbers24) t))

  both : Within ≡ true → Bounded ≡ true
  both t = and_both (sound_nexts (next_in cs)) _ (below_all max_ord_chans _ (next_bounded t)) (below_all memories _ (memory_bounded t))

  channel_bounded : Bounded ≡ true → (c : ℕ) → c < length cs → channel_within (get_or cs c new_channel) ≡ true
  unfolding channel_within next_in
  channel_bounded t c h = and_both (leb (get_or cs c new_channel).next numbers24) _
      (below_at max_ord_chans _ (and_left (sound_nexts (next_in cs)) _ t) c (omega arith))
      (rw (memory-in cs own c h) at (below_at memories _ (and_right (sound_nexts (next_in cs)) _ t) c (omega arith)))

  own_bounded : Bounded ≡ true → leb own numbers24 ≡ true
  own_bounded t = rw (memory-own cs own max_ord_chans long) at
      (below_at memories _ (and_right (sound_nexts (next_in cs)) _ t) max_ord_chans (omega arith))

  all : Bounded ≡ true → Within ≡ true
  unfolding nexts_within
  all t = and_both _ _ (passes_all channel_within new_channel cs (channel_bounded t)) (own_bounded t)

  in_two : Within ≡ Bounded
  in_two = cases Within
      (λ t. t ∙ sym (both t))
      (λ t. t ∙ cases Bounded (λ u. neither Within (all u) t) (λ u. sym u))

-- ---- no number among those after it: each with its place, as a chain of std's has them
module _ (l : List ℕ) where
  abbrev pub fresh : ℕ × ℕ → Bool
  fresh p = not (list_any (λ m. eqb m p.1) (take (length l - (p.0 + 1)) (drop (p.0 + 1) l)))

  pub all_fresh : (r : List ℕ) (i : ℕ) → drop i l ≡ r → list_all fresh (enumerate_from i r) ≡ differ r
  unfolding differ
  all_fresh [] i e = refl
  all_fresh (n ∷ r) i e =
      let d : drop (i + 1) l ≡ r = sym (drop-drop 1 i l) ∙ ap (drop 1) e in
      rw (part-from l (i + 1), held n (drop (i + 1) l), d) (ap (λ (b : Bool). not (any (eqb n) r) && b) (all_fresh r (i + 1) d))

-- ---- the unsent
module _ (w : ReliableWindow) where
  pub sound-below : w.low ≤ numbers24 → (n : ℕ) → n < w.low → sound_number w n ≡ true
  unfolding sound_number
  sound-below h n l = and_both (ltb n numbers24) _ (lt-ltb n numbers24 (omega arith)) (accepted-below w n l)

module _ (w : ReliableWindow) (l : List ℕ) where
  pub rising_told : ascending l ≡ true → numbers_sound_of w l ≡ told (every (sound_number w) l) true
  unfolding numbers_sound_of sound_numbers
  rising_told a = rw (ascending-differ l a, a, and-true (every (sound_number w) l))

  pub mixed_told : ascending l ≡ false → numbers_sound_of w l ≡ told (sound_numbers w l) false
  unfolding numbers_sound_of
  mixed_told a = rw a

-- ---- all of them
and-six : (a b c d e f g : Bool) → (a && (b && (c && (d && (e && (f && g)))))) ≡ ((a && (b && (c && (d && (e && f))))) && g)
and-six true true true true true f g = refl
and-six true true true true false f g = refl
and-six true true true false e f g = refl
and-six true true false d e f g = refl
and-six true false c d e f g = refl
and-six false b c d e f g = refl

-- the receiver's own memory is tested by itself
pub nexts_by_parts : (q : RecvQueue) → length q.channels ≡ max_ord_chans
    → (sound_nexts (next_of q) && sound_memories (newest_of q)) ≡ (nexts_within q.channels && leb q.newest numbers24)
unfolding next_of newest_of
nexts_by_parts q long = sym (in_two q.channels q.newest long)

module _ (q : RecvQueue) where
  pub sound-is : sound_queue q ≡ (sound_values q && sound_numbers q.datagrams (unsent_of q))
  unfolding sound_queue sound_unsent sound_values sound_numbers sound_number
  sound-is = and-six (sound_window q.datagrams) (sound_window q.reliables) (sound_nexts (next_of q)) (sound_memories (newest_of q))
      (sound_profile q.profile) (leb q.pending max_unsent) (sound_numbers q.datagrams (unsent_of q))

  pub values_not : sound_values q ≡ false → Err NotSound ≡ queue_sound_of q
  unfolding queue_sound_of
  values_not f = rw (sound-is, f)

  pub values_low : sound_values q ≡ true → q.datagrams.low ≤ numbers24
  unfolding sound_values
  values_low t = window_low q.datagrams (and_left (sound_window q.datagrams) _ t)

  pub values_pending : sound_values q ≡ true → q.pending ≤ max_unsent
  unfolding sound_values
  values_pending t = leb-true q.pending max_unsent (and_right (sound_profile q.profile) _ (and_right (sound_memories (newest_of q)) _
      (and_right (sound_nexts (next_of q)) _ (and_right (sound_window q.reliables) _ (and_right (sound_window q.datagrams) _ t)))))

  pub by_numbers : sound_values q ≡ true → numbers_sound_of q.datagrams (take q.pending q.unsent) ≡ queue_sound_of q
  unfolding queue_sound_of numbers_sound_of unsent_of
  by_numbers t = rw (sound-is, t)

-- what `sound_queue` needs of them
pub ruleset whole = (values_not, values_low, values_pending, by_numbers)

-- ---- what the answer tells
module _ (q : RecvQueue) where
  pub told_ok : (rising : Bool) → Ok rising ≡ queue_sound_of q → (sound_queue q ≡ true) × (rising ≡ ascending (unsent_of q))
  unfolding queue_sound_of
  told_ok rising = by (sound_queue q)
    where
      by : (s : Bool) → Ok rising ≡ told s (ascending (unsent_of q)) → (s ≡ true) × (rising ≡ ascending (unsent_of q))
      by true e = (refl, cc)
      by false e = absurd (let z : ◌≡◌ {A = ℕ} 0 1 = cc in omega arith)

  pub told_err : (r : Refusal) → Err r ≡ queue_sound_of q → (sound_queue q ≡ false) × (r ≡ NotSound)
  unfolding queue_sound_of
  told_err r = by (sound_queue q)
    where
      by : (s : Bool) → Err r ≡ told s (ascending (unsent_of q)) → (s ≡ false) × (r ≡ NotSound)
      by true e = absurd (let z : ◌≡◌ {A = ℕ} 0 1 = cc in omega arith)
      by false e = (refl, cc)

  pub told_is_ok : (r : Result Bool Refusal) → r ≡ queue_sound_of q → is_ok r ≡ sound_queue q
  unfolding queue_sound_of
  told_is_ok r e = ap is_ok e ∙ by (sound_queue q)
    where
      by : (s : Bool) → is_ok (told s (ascending (unsent_of q))) ≡ s
      by true = refl
      by false = refl
