-- A sound receiver's image fits: its numbers are below 2^64 and its counts below 2^32.
-- Assumes nothing.
use Prim.Native.Nat.{ℕ, ◌≤◌, ◌<◌}
use mathlib.Core.Path.{◌≡◌, refl, sym, ◌∙◌, ap, subst}
use mathlib.Core.Logic.{◌⊎◌, inl, inr}
use mathlib.Core.Bool.{true}
use mathlib.Core.List.Memᴰ
use mathlib.Core.List.{[], ◌∷◌, map, Memᴰ}
use native.Mathlib.Omega.{arith}
use lib.Dec.{ltb, leb}
use lib.ListN.{length, get_or, length-append, length-map, length-take}
use borrow.Author.Tests.{ltb-true, leb-true}
use Rattle.base.specs.Limits.{numbers24, max_unsent, max_ord_chans, memories, profiles}
use Rattle.base.proofs.Choices.{and_left}
use Rattle.base.proofs.Lists.{every-mem, below_at, place-of}
use Rattle.base.proofs.Sorts.{sort-length, sort-in}
use Rattle.window.specs.declared.ReliableWindow.{ReliableWindow}
use Rattle.cells.specs.Store.{slots_of}
use Rattle.image.specs.Image.{WindowEntry, ChannelEntry}
use Rattle.image.specs.Windows.{window_entry}
use Rattle.image.proofs.ImageBytes.{Short32, Short64, FitsSection, FitsWindow, FitsChannel, FitsImage}
use Rattle.image.proofs.Fits.{window-fits, pieces-few, held-few, ready-few, pieces-fit, held-fit, ready-fit}
use Rattle.receiver.specs.declared.Channel.{Channel}
use Rattle.receiver.specs.Queue.{new_channel, next_in, next_of, newest_of, unsent_of, sound_window, sound_profile, sound_queue}
use Rattle.receiver.specs.Receiver.{Receiver, sound_receiver}
use Rattle.receiver.specs.Save.{channel_entry, own_entry, channels_in, image_of}
use Rattle.receiver.proofs.ChannelsAfter.{memory-in, memory-own}
use Rattle.receiver.proofs.ImageQueue.{itself, sorted-same}
use Rattle.receiver.proofs.Receives.{queue-sound, nexts-sound, memories-sound, profile-sound}
use Rattle.receiver.proofs.Restores.{profile-of, windows-of, channels-of, unsent-of, pieces-of, held-of, ready-of}
use Rattle.receiver.proofs.Restores.{call-many, call-rises, call-entries}
use Rattle.receiver.proofs.Sanes.{datagrams-pass, reliables-pass, pending-few, members-pass}

low-short : (w : ReliableWindow) → sound_window w ≡ true → Short64 w.low
unfolding sound_window
low-short w e = let a = leb-true w.low numbers24 (and_left (leb w.low numbers24) _ e) in omega arith

module _ (x : Receiver) (s : sound_receiver x ≡ true) (few : length x.queue.channels ≤ max_ord_chans) where
  queue-is : sound_queue x.queue ≡ true
  queue-is = queue-sound x.queue x.records x.store s

  next-short : (j : ℕ) → j < length x.queue.channels → (get_or x.queue.channels j new_channel).next ≤ numbers24
  unfolding next_of next_in
  next-short j lt = leb-true _ numbers24 (below_at max_ord_chans (λ c. leb (next_of x.queue c) numbers24)
      (nexts-sound x.queue queue-is) j (omega arith))

  memory-short : (m : ℕ) → m < memories → newest_of x.queue m ≤ numbers24
  memory-short m lt = leb-true _ numbers24 (below_at memories (λ c. leb (newest_of x.queue c) numbers24)
      (memories-sound x.queue queue-is) m lt)

  newest-short : (j : ℕ) → j < length x.queue.channels → (get_or x.queue.channels j new_channel).newest ≤ numbers24
  unfolding newest_of
  newest-short j lt = subst (λ (n : ℕ). n ≤ numbers24) (memory-in x.queue.channels x.queue.newest j lt) (memory-short j (omega arith))

  own-short : x.queue.newest ≤ numbers24
  unfolding newest_of
  own-short = subst (λ (n : ℕ). n ≤ numbers24) (memory-own x.queue.channels x.queue.newest (length x.queue.channels) refl)
      (memory-short (length x.queue.channels) (omega arith))

  channel-fits : (e : ChannelEntry) → Memᴰ e (map channel_entry x.queue.channels) ⊎ Memᴰ e (own_entry x.queue.newest ∷ []) → FitsChannel e
  channel-fits e (inl m) =
      let a = Memᴰ.of_map channel_entry x.queue.channels m in
      let p = place-of new_channel x.queue.channels a.0 a.1 in
      let n = next-short p.0 p.1 in
      let w = newest-short p.0 p.1 in
      let b : (get_or x.queue.channels p.0 new_channel).next ≡ e.next = ap (λ (c : Channel). c.next) p.2
      ∙ ap (λ (c : ChannelEntry). c.next) a.2 in
      let d : (get_or x.queue.channels p.0 new_channel).newest ≡ e.memory = ap (λ (c : Channel). c.newest) p.2
      ∙ ap (λ (c : ChannelEntry). c.memory) a.2 in
      (omega arith, omega arith)
  channel-fits e (inr m) =
      let q = Memᴰ.eq_of_singleton m in
      let b : e.next ≡ 0 = ap (λ (c : ChannelEntry). c.next) q in
      let c : e.memory ≡ x.queue.newest = ap (λ (c : ChannelEntry). c.memory) q in
      let o = own-short in
      (omega arith, omega arith)

  number-fits : (n : ℕ) → Memᴰ n (image_of x).unsent → Short64 n
  number-fits n m =
      let i = sort-in itself (unsent_of x.queue) n (rw (unsent-of x, sorted-same (unsent_of x.queue)) at m) in
      let a : n < numbers24 = ltb-true n numbers24 (and_left (ltb n numbers24) _
      (every-mem _ (unsent_of x.queue) (members-pass x.queue queue-is) n i)) in
      omega arith

  profile-fits : FitsSection Short64 (image_of x).profile
  profile-fits = rw (profile-of x) (omega arith, (refl, λ n m. one n (Memᴰ.eq_of_singleton m)))
    where
      one : (n : ℕ) → n ≡ x.queue.profile → Short64 n
      one n q = let a : x.queue.profile < profiles = unfold sound_profile in ltb-true _ _ (profile-sound x.queue queue-is) in omega arith

  windows-fit : FitsSection FitsWindow (image_of x).windows
  windows-fit = rw (windows-of x) (omega arith, (refl, λ w m. one w (Memᴰ.cases_cons m)))
    where
      one : (w : WindowEntry) → (w ≡ window_entry x.queue.datagrams) ⊎ Memᴰ w (window_entry x.queue.reliables ∷ []) → FitsWindow w
      one w (inl q) = subst FitsWindow (sym q)
          (window-fits x.queue.datagrams (low-short x.queue.datagrams (datagrams-pass x.queue queue-is)))
      one w (inr m) = subst FitsWindow (sym (Memᴰ.eq_of_singleton m))
          (window-fits x.queue.reliables (low-short x.queue.reliables (reliables-pass x.queue queue-is)))

  channels-fit : FitsSection FitsChannel (image_of x).channels
  unfolding channels_in
  channels-fit = rw (channels-of x) (
    (let a = length-append (map channel_entry x.queue.channels) (own_entry x.queue.newest ∷ []) in
        let b = length-map x.queue.channels channel_entry in omega arith),
    (refl, λ e m. channel-fits e (Memᴰ.append_cases (map channel_entry x.queue.channels) m)),
  )

  unsent-fits : FitsSection Short64 (image_of x).unsent
  unsent-fits = (short, (refl, number-fits))
    where
      taken : length (unsent_of x.queue) ≤ max_unsent
      taken = unfold unsent_of in
          (let a = length-take x.queue.pending x.queue.unsent in let b = pending-few x.queue queue-is in omega arith)

      short : Short32 (length (image_of x).unsent)
      short = rw (unsent-of x, sorted-same (unsent_of x.queue))
          (let a = sort-length itself (unsent_of x.queue) in let b = taken in omega arith)

  -- Every sound receiver's image fits.
  pub image-fits : FitsImage (image_of x)
  image-fits = (
    profile-fits,
    (
      windows-fit,
      (
        channels-fit,
        (
          unsent-fits,
          (
            pieces-fit (next_of x.queue) (image_of x) (call-rises x s) (call-entries x s)
                (rw (pieces-of x) (let a = pieces-few (slots_of x.records x.store) in let b = call-many x s in omega arith)),
            (
              held-fit (next_of x.queue) (image_of x) (call-rises x s) (call-entries x s)
                  (rw (held-of x) (let a = held-few (slots_of x.records x.store) in let b = call-many x s in omega arith)),
              ready-fit (next_of x.queue) (image_of x) (call-rises x s) (call-entries x s)
                  (rw (ready-of x) (let a = ready-few (slots_of x.records x.store) in let b = call-many x s in omega arith)),
            ),
          ),
        ),
      ),
    ),
  )
