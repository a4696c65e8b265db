-- A receiver whose arrays are brought to the type's lengths: it is sound where the one before is, and has its nexts; where the arrays had
-- these lengths it is the same.
--     fits-bits, fitted-same                                 arrays of the type's lengths
--     fitted-next, fitted-unsent, fitted-sound, fitted-call      arrays of any length
-- Assumes nothing.
use Prim.Native.Nat.{ℕ, zero, suc, ◌+◌, ◌-◌, ◌≤◌, ◌<◌, min}
use native.Mathlib.Decide.{dec_lt}
use native.Mathlib.Omega.{arith}
use mathlib.Core.Path.{◌≡◌, refl, sym, ◌∙◌, ap}
use mathlib.Core.Bool.{Bool, true, false, ◌&&◌, ◌||◌, not}
use mathlib.Core.List.{List, [], ◌∷◌}
use lib.Dec.{ltb, leb, eqb}
use lib.ListN.{length, get_or, set, take, replicate, length-set, length-replicate, get_or-eq_default, get_or-replicate}
use lib.Seq.{get_or-set_same, get_or-set_other, get_or-take, ext_get_or, take_all, length-take-le}
use borrow.Author.Tests.{eqb-true, leb-true, leb-false, le-leb, lt-leb}
use Rattle.std.proofs.lemmas.List.{take_min}
use Rattle.base.specs.If.{if_true, if_le, if_eq}
use Rattle.base.specs.Numbers.{behind, distance}
use Rattle.base.specs.Limits.{max_unsent, numbers24, window_places}
use Rattle.base.specs.Lists.{every}
use Rattle.base.specs.Put.{put}
use Rattle.base.proofs.Choices.{cases, and_left, and_right}
use Rattle.base.proofs.Ifs.{le_yes, le-no}
use Rattle.base.proofs.Puts.{length-put, put-before}
use Rattle.window.specs.declared.ReliableWindow.{ReliableWindow}
use Rattle.window.specs.Places.{bit, place_byte, place_bit, place_set}
use Rattle.window.specs.Window.{window_of, accepted}
use Rattle.cells.specs.Cell.{Cell}
use Rattle.cells.specs.Sound.{lengths, sound_nexts, sound_memories, sound_cells}
use Rattle.receiver.specs.declared.RecvQueue.{RecvQueue}
use Rattle.receiver.specs.Queue.{next_of, newest_of, unsent_of, places_within, sound_window}
use Rattle.receiver.specs.Queue.{differ, sound_unsent, sound_profile, sound_queue}
use Rattle.receiver.specs.Receive.{sound_call}
use Rattle.recv_parts.specs.Parts.{many_nexts, arrays_fit}
use Rattle.recv_parts.specs.Fitted.{sized, sized_window, sized_pending, fitted}

-- ---- numbers put over zeros
put-read : (bs l : List ℕ) (p i : ℕ) → i < length l → p ≤ i → ((j : ℕ) → p ≤ j → get_or l j 0 ≡ 0) → get_or (put l p bs) i 0
    ≡ get_or bs (i - p) 0
unfolding put
put-read [] l p i h k z = let e : length {A = ℕ} [] ≤ i - p = omega arith in z i k ∙ sym (get_or-eq_default [] 0 e)
put-read (b ∷ bs) l p i h k z = go (dec_lt p i) (λ m. put-read bs (set l p b) (suc p) i (rw length-set h) m
    (λ j n. get_or-set_other l p j b 0 (λ s. omega arith) ∙ z j (omega arith)))
  where
    go : Dec (p < i) → (p < i → get_or (put (set l p b) (suc p) bs) i 0 ≡ get_or bs (i - suc p) 0)
        → get_or (put (set l p b) (suc p) bs) i 0 ≡ get_or (b ∷ bs) (i - p) 0
    go (yes m) f = let e : i - p ≡ suc (i - suc p) = omega arith in rw e (f m)
    go (no m) f =
        let s : i ≡ p = omega arith in
        let e : p - p ≡ 0 = omega arith in
        rw (s, e) (put-before (set l p b) (suc p) bs p (omega arith) ∙ get_or-set_same l p b 0 (omega arith))

zeros-read : (n j : ℕ) → ◌≡◌ {A = ℕ} (get_or (replicate n 0) j 0) 0
zeros-read n j = go (dec_lt j n)
  where
    go : Dec (j < n) → ◌≡◌ {A = ℕ} (get_or (replicate n 0) j 0) 0
    go (yes h) = get_or-replicate {A = ℕ} n j 0 0 h
    go (no h) = get_or-eq_default (replicate n 0) 0 (let e = length-replicate {A = ℕ} n 0 in omega arith)

module _ (n : ℕ) (l : List ℕ) where
  sized-read : (i : ℕ) → i < n → get_or (sized n l) i 0 ≡ get_or l i 0
  unfolding sized
  sized-read i h =
      let e : i - 0 ≡ i = omega arith in
      rw e at (put-read l (replicate n 0) 0 i (let m = length-replicate {A = ℕ} n 0 in omega arith) (omega arith) (λ j k. zeros-read n j))

  sized-length : length (sized n l) ≡ n
  unfolding sized
  sized-length = length-put (replicate n 0) 0 l ∙ length-replicate n 0

  sized-same : length l ≡ n → sized n l ≡ l
  sized-same e = ext_get_or 0 (sized n l) l (sized-length ∙ sym e) (λ i h. sized-read i (omega (arith, sized-length)))

  sized-first : (k : ℕ) → k ≤ n → k ≤ length l → take k (sized n l) ≡ take k l
  sized-first k h m = ext_get_or 0 (take k (sized n l)) (take k l) (a ∙ sym b)
      (λ i j. let f : i < k = omega (arith, a) in
      get_or-take k (sized n l) i 0 f ∙ sized-read i (omega arith) ∙ sym (get_or-take k l i 0 f))
    where
      a : length (take k (sized n l)) ≡ k
      a = length-take-le k (sized n l) (rw sized-length h)

      b : length (take k l) ≡ k
      b = length-take-le k l m

-- ---- a window
module _ (w : ReliableWindow) where
  place-kept : (n : ℕ) → place_set (sized 256 w.bits) n ≡ place_set w.bits n
  unfolding place_set
  place-kept n = ap (λ (b : ℕ). eqb (bit b (place_bit n)) 1) (sized-read 256 w.bits (place_byte n) (omega arith))

  window-accepts : accepted (sized_window w) ≡ accepted w
  unfolding accepted sized_window
  window-accepts = λ i n. if_true (behind w.low n) true (if_eq n w.low false
      (if_le (distance w.low n) window_places (place-kept n i) false))

  places-kept : (k : ℕ) → places_within (sized_window w) k ≡ places_within w k
  unfolding places_within sized_window
  places-kept zero = refl
  places-kept (suc k) = λ i. places-kept k i && (ltb (w.low + suc k) numbers24 || not (place-kept (w.low + suc k) i))

  window-sound : sound_window (sized_window w) ≡ sound_window w
  unfolding sound_window sized_window
  window-sound = ap (λ (b : Bool). leb w.low numbers24 && b) (places-kept window_places)

-- ---- how many are unsent
module _ (k n : ℕ) where
  pending-few : k ≤ max_unsent → sized_pending k n ≡ min n k
  unfolding sized_pending
  pending-few h = sym (le_yes _ _ _ _ _ h refl)

  pending-many : max_unsent < k → sized_pending k n ≡ k
  unfolding sized_pending
  pending-many h = sym (le-no _ _ _ _ _ h refl)

-- ---- the receiver
module _ (q : RecvQueue) where
  pub fitted-next : next_of (fitted q) ≡ next_of q
  unfolding next_of fitted
  fitted-next = refl

  pub fitted-unsent : q.pending ≤ max_unsent → unsent_of (fitted q) ≡ unsent_of q
  unfolding unsent_of fitted
  fitted-unsent h = rw pending (sized-first max_unsent q.unsent (min (length q.unsent) q.pending) (omega arith) (omega arith)) ∙ first
    where
      pending : sized_pending q.pending (length q.unsent) ≡ min (length q.unsent) q.pending
      pending = pending-few q.pending (length q.unsent) h

      first : take (min (length q.unsent) q.pending) q.unsent ≡ take q.pending q.unsent
      first = ap (λ (k : ℕ). take k q.unsent) (omega arith) ∙ take_min q.pending q.unsent

  sized-small : q.pending ≤ max_unsent → leb (sized_pending q.pending (length q.unsent)) max_unsent ≡ true
  sized-small h = rw (pending-few q.pending (length q.unsent) h) (le-leb _ max_unsent (omega arith))

  unsent-sound : sound_unsent (fitted q) ≡ sound_unsent q
  unfolding sound_unsent fitted
  unsent-sound = cases (leb q.pending max_unsent)
      (λ t. let h = leb-true q.pending max_unsent t in
      rw t (λ i. sized-small h i && (every (λ n. ltb n numbers24 && window-accepts q.datagrams i n) (fitted-unsent h i)
      && differ (fitted-unsent h i))))
      (λ f. let h = leb-false q.pending max_unsent f in rw (pending-many q.pending (length q.unsent) h, f) refl)

  pub fitted-sound : sound_queue (fitted q) ≡ sound_queue q
  unfolding sound_queue fitted next_of newest_of
  fitted-sound = λ i. window-sound q.datagrams i && (window-sound q.reliables i && (sound_nexts (next_of q)
      && (sound_memories (newest_of q) && (sound_profile q.profile && unsent-sound i))))

pub fitted-call : (q : RecvQueue) (rs : List Cell) (st : List ℕ) → sound_call (fitted q) rs st ≡ sound_call q rs st
unfolding sound_call
fitted-call q rs st = λ i. lengths (length rs) (length st) && (fitted-sound q i && sound_cells rs (fitted-next q i))

-- ---- arrays of the type's lengths
module _ (q : RecvQueue) (nexts : List ℕ) (t : arrays_fit q nexts ≡ true) where
  pub fits-bits : (length q.datagrams.bits ≡ 256) × (length q.reliables.bits ≡ 256) × (length nexts ≡ many_nexts)
      × (length q.unsent ≡ max_unsent)
  unfolding arrays_fit
  fits-bits =
      let r = and_right (eqb (length q.datagrams.bits) 256) _ t in
      let u = and_right (eqb (length q.reliables.bits) 256) _ r in (
        eqb-true (length q.datagrams.bits) 256 (and_left _ _ t),
        eqb-true (length q.reliables.bits) 256 (and_left _ _ r),
        eqb-true (length nexts) many_nexts (and_left _ _ u),
        eqb-true (length q.unsent) max_unsent (and_right (eqb (length nexts) many_nexts) _ u),
      )

  pub fitted-same : fitted q ≡ q
  unfolding fitted sized_window
  fitted-same = λ i. record {
    datagrams = window_of q.datagrams.low (sized-same 256 q.datagrams.bits fits-bits.0 i);
    reliables = window_of q.reliables.low (sized-same 256 q.reliables.bits fits-bits.1 i);
    channels = q.channels;
    unsent = sized-same max_unsent q.unsent fits-bits.3 i;
    pending = pending i;
    newest = q.newest;
    profile = q.profile;
  }
    where
      pending : sized_pending q.pending (length q.unsent) ≡ q.pending
      pending = go (dec_lt max_unsent q.pending)
        where
          go : Dec (max_unsent < q.pending) → sized_pending q.pending (length q.unsent) ≡ q.pending
          go (yes h) = pending-many q.pending (length q.unsent) h
          go (no h) = pending-few q.pending (length q.unsent) (omega arith) ∙ omega (arith, fits-bits.3)
