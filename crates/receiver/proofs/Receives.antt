-- An accepted datagram does to receiver, records and store what the receiver with cells does to its slots; and the receiver stays sound.
-- Assumes nothing.
use Prim.Native.Nat.{ℕ, ◌*◌, ◌≤◌, ◌<◌}
use mathlib.Core.Path.{◌≡◌, sym, ◌∙◌, ap, subst}
use mathlib.Core.Bool.{true, false, ◌&&◌}
use mathlib.Core.List.Memᴰ
use mathlib.Core.List.{List, Memᴰ}
use native.Mathlib.Omega.{arith}
use lib.ListN.{length, length-map, get_or-eq_default}
use lib.Dec.{leb, eqb}
use borrow.Author.Tests.{eqb-true}
use Rattle.base.specs.Limits.{numbers24, max_frags, max_ord_chans, max_cells, cell_bytes}
use Rattle.base.specs.Bytes.{le24, Bytes}
use Rattle.base.proofs.Choices.{and_left, and_right, and_both}
use Rattle.window.specs.Window.{accepted}
use Rattle.window.specs.Proper.{Proper}
use Rattle.window.proofs.Accepted.{low-le}
use Rattle.bare.specs.Frame.{Frame}
use Rattle.cells.specs.Cell.{Cell, Slot, Key, is_free, freed}
use Rattle.cells.specs.Datagram.{State, Work, place, datagram, grow, begin, end}
use Rattle.cells.specs.Sound.{Readable, sound_cells, sound_nexts, sound_memories, sound, lengths}
use Rattle.cells.specs.Store.{cell_size, slots_of, cells_of, store_of}
use Rattle.cells.proofs.SoundKept.{datagram-sound}
use Rattle.cells.proofs.Memories as cell-memories
use Rattle.cells.proofs.Profile.{datagram-profile}
use Rattle.cells.proofs.SoundTest.{sound-rest}
use Rattle.cells.proofs.Store.{Shaped, slots-shaped, cells-slots, store_length, datagram-worked, datagram-shaped, datagram-read, take-read}
use Rattle.receiver.specs.declared.RecvQueue.{RecvQueue}
use Rattle.receiver.specs.declared.Channel.{Channel}
use Rattle.receiver.specs.Queue.{new_channel, next_in, next_of, newest_of, profile_in}
use Rattle.receiver.specs.Queue.{sound_window, sound_profile, sound_unsent, sound_queue}
use Rattle.receiver.specs.Receive.{datagram_number, frames_in, state_of, queue_after, accepted_result, sound_call}
use Rattle.receiver.specs.Receiver.{Receiver}
use Rattle.receiver.proofs.Accepting.{all-accepted, frames-accepted}
use Rattle.receiver.proofs.FramesIn.{Read, frames-in-read}
use Rattle.receiver.proofs.Keeps.{frames-past}
use Rattle.receiver.proofs.ChannelsAfter.{memory-past, next-after, newest-after}
use Rattle.receiver.proofs.Queues.{Good, good-sound, after-good}
use Rattle.receiver.proofs.AnswerCases.{Accepted}

-- What the four steps find in a receiver.
abbrev pub state_in : Receiver → State
state_in x = state_of x.queue x.records x.store

-- What holds of every receiver that a list of calls reaches.
pub record Sane (x : Receiver) : Type 0 where
  pub good : Good x.queue
  pub sound : sound_call x.queue x.records x.store ≡ true

module _ (q : RecvQueue) (e : sound_queue q ≡ true) where
  numbers-sound : (sound_nexts (next_of q) && (sound_memories (newest_of q) && (sound_profile q.profile && sound_unsent q))) ≡ true
  unfolding sound_queue
  numbers-sound =
      and_right (sound_window q.reliables) (sound_nexts (next_of q) && (sound_memories (newest_of q) && (sound_profile q.profile
      && sound_unsent q)))
      (and_right (sound_window q.datagrams) (sound_window q.reliables && (sound_nexts (next_of q) && (sound_memories (newest_of q)
      && (sound_profile q.profile && sound_unsent q)))) e)

  pub nexts-sound : sound_nexts (next_of q) ≡ true
  nexts-sound = and_left (sound_nexts (next_of q)) _ numbers-sound

  pub memories-sound : sound_memories (newest_of q) ≡ true
  memories-sound = and_left (sound_memories (newest_of q)) _ (and_right (sound_nexts (next_of q)) _ numbers-sound)

  last-sound : (sound_profile q.profile && sound_unsent q) ≡ true
  last-sound = and_right (sound_memories (newest_of q)) (sound_profile q.profile && sound_unsent q)
      (and_right (sound_nexts (next_of q)) _ numbers-sound)

  pub profile-sound : sound_profile q.profile ≡ true
  profile-sound = and_left (sound_profile q.profile) (sound_unsent q) last-sound

  pub unsent-sound : sound_unsent q ≡ true
  unsent-sound = and_right (sound_profile q.profile) (sound_unsent q) last-sound

module _ (q : RecvQueue) (rs : List Cell) (st : List ℕ) (s : sound_call q rs st ≡ true) where
  pub lengths-sound : lengths (length rs) (length st) ≡ true
  unfolding sound_call
  lengths-sound = and_left (lengths (length rs) (length st)) _ s

  pub store_is : length rs * cell_size ≡ length st
  unfolding lengths cell_size
  store_is = let e = eqb-true (length st) (cell_bytes * length rs)
      (and_right (leb (length rs) max_cells) _ (and_right (leb 1 (length rs)) _ lengths-sound)) in omega arith

  rest-sound : (sound_queue q && sound_cells rs (next_of q)) ≡ true
  unfolding sound_call
  rest-sound = and_right (lengths (length rs) (length st)) (sound_queue q && sound_cells rs (next_of q)) s

  pub queue-sound : sound_queue q ≡ true
  queue-sound = and_left (sound_queue q) (sound_cells rs (next_of q)) rest-sound

  pub cells-sound : sound rs (next_of q) ≡ true
  unfolding sound
  cells-sound = and_both (sound_cells rs (next_of q)) _ (and_right (sound_queue q) (sound_cells rs (next_of q)) rest-sound)
      (nexts-sound q queue-sound)

  -- sound too with other records that are sound, as many of them
  pub other-records : (l : List Cell) → length l ≡ length rs → sound l (next_of q) ≡ true → sound_call q l st ≡ true
  unfolding sound_call sound
  other-records l many e =
      and_both (lengths (length l) (length st)) _ (rw many lengths-sound)
      (and_both (sound_queue q) _ queue-sound (and_left (sound_cells l (next_of q)) (sound_nexts (next_of q)) e))

  -- no used record is longer than a cell
  pub bodies-short : (c : Cell) → Memᴰ c rs → eqb c.used 0 ≡ false → c.length ≤ cell_size
  unfolding cells_of is_free cell_size
  bodies-short c m =
      let v = sound-rest (next_of q) (slots_of rs st) (rw (cells-slots rs st) cells-sound) in
      let a = Memᴰ.of_map (λ (x : Slot). x.cell) (slots_of rs st) (rw (← cells-slots rs st) at m) in
      subst (λ (c : Cell). eqb c.used 0 ≡ false → c.length ≤ cell_bytes) a.2 (λ e. (v.core.bounds a.0 a.1 e).length)

  -- nor of more pieces than a message may have
  pub counts-few : (c : Cell) → Memᴰ c rs → eqb c.used 0 ≡ false → c.count ≤ max_frags
  unfolding cells_of is_free
  counts-few c m =
      let v = sound-rest (next_of q) (slots_of rs st) (rw (cells-slots rs st) cells-sound) in
      let a = Memᴰ.of_map (λ (x : Slot). x.cell) (slots_of rs st) (rw (← cells-slots rs st) at m) in
      subst (λ (c : Cell). eqb c.used 0 ≡ false → c.count ≤ max_frags) a.2 (λ e. (v.core.bounds a.0 a.1 e).count)

  -- the slots without those of a key, read back
  pub read_freed : (k : Key) → slots_of (cells_of (freed k (slots_of rs st))) st ≡ freed k (slots_of rs st)
  read_freed k = take-read k rs st bodies-short (let e = store_is in omega arith)

  pub slots-fit : Shaped (length rs) (slots_of rs st)
  slots-fit = slots-shaped rs st bodies-short (let e = store_is in omega arith)

next_past : (q : RecvQueue) → length q.channels ≡ max_ord_chans → (c : ℕ) → max_ord_chans ≤ c → next_of q c ≡ 0
unfolding next_of next_in
next_past q e c le = ap (λ (k : Channel). k.next) (get_or-eq_default q.channels new_channel (omega arith))

newest-past : (q : RecvQueue) → length q.channels ≡ max_ord_chans → (m : ℕ) → max_ord_chans < m → newest_of q m ≡ 0
unfolding newest_of
newest-past q e m lt = memory-past q.channels q.newest m (omega arith)

number_small : (d : List ℕ) → Bytes d → datagram_number d < numbers24
unfolding le24
number_small d by = omega (arith, by 1, by 2, by 3)

-- the receiver after an accepted datagram
unfoldable pub accepted_by : (x : Receiver) (d : List ℕ) → Accepted x.queue x.records x.store d → Receiver
accepted_by x d a =
    let r = accepted_result x.queue x.store d a.reliables
    (datagram (state_of x.queue x.records x.store) (frames_in (profile_in x.queue) d)) in
    record { queue = r.queue; records = r.records; store = r.store }

module _ (x : Receiver) (d : List ℕ) (by : Bytes d) (v : Sane x) (a : Accepted x.queue x.records x.store d) where
  fs : List Frame
  fs = frames_in (profile_in x.queue) d

  s : State
  s = state_of x.queue x.records x.store

  w : Work
  w = datagram s fs

  read : (f : Frame) → Memᴰ f fs → Read f
  unfolding fs
  read = frames-in-read (profile_in x.queue) d by a.short

  readable : (f : Frame) → Memᴰ f fs → Readable f
  readable f m = (read f m).ok

  reliables-are : accepted a.reliables ≡ w.state.accepted
  unfolding w fs s datagram grow place begin state_of
  reliables-are =
      (all-accepted fs x.queue.reliables a.reliables (λ f m. (read f m).reliable) v.good.reliables a.accepts).accepts
      ∙ sym (frames-accepted fs (grow (begin (state_of x.queue x.records x.store))))

  reliables-proper : Proper a.reliables
  unfolding fs
  reliables-proper = (all-accepted fs x.queue.reliables a.reliables (λ f m. (read f m).reliable) v.good.reliables a.accepts
      ).proper

  nexts-are : next_of (accepted_by x d a).queue ≡ w.state.next
  unfolding accepted_by accepted_result queue_after next_of next_in w s fs
  nexts-are = next-after w.state.next w.state.newest x.queue.channels (λ c le. past c (rw v.good.channels at le))
    where
      past : (c : ℕ) → max_ord_chans ≤ c → w.state.next c ≡ 0
      past c le = unfold w s fs datagram grow place begin state_of in
          (frames-past fs (grow (begin s)) c le ∙ next_past x.queue v.good.channels c le)

  memories-are : newest_of (accepted_by x d a).queue ≡ w.state.newest
  unfolding accepted_by accepted_result queue_after newest_of w s fs
  memories-are = newest-after w.state.next w.state.newest x.queue.channels max_ord_chans v.good.channels past
    where
      past : (m : ℕ) → max_ord_chans < m → w.state.newest m ≡ 0
      past m lt = unfold w s fs end state_of in
          (cell-memories.memories-past s fs m (omega arith) ∙ newest-past x.queue v.good.channels m lt)

  slots-shape : Shaped (length x.records) s.slots
  unfolding s state_of
  slots-shape = slots-fit x.queue x.records x.store v.sound

  worked : Shaped (length x.records) w.state.slots
  unfolding w
  worked = datagram-worked (length x.records) s fs readable slots-shape

  -- the slots that are read back from the records and bytes that it leaves are those of the four steps
  pub accepted-state : state_in (accepted_by x d a) ≡ end (datagram (state_in x) (frames_in (profile_in x.queue) d))
  unfolding accepted_by accepted_result state_of end w s fs queue_after next_of next_in newest_of
  accepted-state = λ i. record {
    profile = profile-is i;
    accepted = reliables-are i;
    next = nexts-are i;
    newest = memories-are i;
    slots = slots-are i;
  }
    where
      profile-is : profile_in (accepted_by x d a).queue ≡ w.state.profile
      profile-is = unfold accepted_by accepted_result queue_after state_of s w profile_in in sym (datagram-profile s fs)

      slots-are : slots_of (cells_of (end w).slots) (store_of x.store w.state.slots) ≡ (end w).slots
      slots-are = datagram-read s x.store fs readable slots-shape.sized
          (rw slots-shape.many (store_is x.queue x.records x.store v.sound))

  records-long : length (accepted_by x d a).records ≡ length x.records
  unfolding accepted_by accepted_result w s fs cells_of
  records-long = length-map (end w).slots (λ (z : Slot). z.cell) ∙ (datagram-shaped (length x.records) s fs readable slots-shape).many

  store_long : length (accepted_by x d a).store ≡ length x.store
  unfolding accepted_by accepted_result w s fs
  store_long = store_length w.state.slots x.store worked.sized
      (rw worked.many (let e = store_is x.queue x.records x.store v.sound in omega arith))

  profile-after : sound_profile (accepted_by x d a).queue.profile ≡ true
  unfolding accepted_by accepted_result queue_after
  profile-after = v.good.profile

  good-after : Good (accepted_by x d a).queue
  unfolding accepted_by accepted_result
  good-after =
      let ge = low-le x.queue.datagrams (datagram_number d) a.fresh in
      let near = a.near in
      after-good x.queue (datagram_number d) a.reliables _ _ v.good reliables-proper (number_small d by) a.fresh (omega arith)
      a.room profile-after

  sound-after : sound (accepted_by x d a).records (next_of (accepted_by x d a).queue) ≡ true
  unfolding accepted_by accepted_result w s fs end
  sound-after = rw nexts-are (datagram-sound s fs readable (before))
    where
      before : sound (cells_of s.slots) s.next ≡ true
      before = unfold s state_of in rw (cells-slots x.records x.store) (cells-sound x.queue x.records x.store v.sound)

  memories-after : sound_memories (newest_of (accepted_by x d a).queue) ≡ true
  unfolding w s fs end
  memories-after = rw memories-are (cell-memories.memories-sound s fs readable (before))
    where
      before : sound_memories s.newest ≡ true
      before = unfold s state_of in memories-sound x.queue (queue-sound x.queue x.records x.store v.sound)

  pub accepted-sane : Sane (accepted_by x d a)
  unfolding sound_call sound
  accepted-sane =
      record {
        good = good-after;
        sound =
            and_both (lengths (length (accepted_by x d a).records) (length (accepted_by x d a).store)) _
            (rw (records-long, store_long) (lengths-sound x.queue x.records x.store v.sound))
            (and_both (sound_queue (accepted_by x d a).queue) _
            (good-sound (accepted_by x d a).queue good-after
            (and_right (sound_cells (accepted_by x d a).records (next_of (accepted_by x d a).queue)) _ sound-after) memories-after)
            (and_left (sound_cells (accepted_by x d a).records (next_of (accepted_by x d a).queue)) _ sound-after));
      }
