-- What code tests for 22: how many entries the first sections have, what rises, and whether the restored receiver is sound. It is the
-- definition's test.
-- Assumes nothing.
use Prim.Native.Nat.{ℕ, zero, suc, ◌-◌, ◌*◌, ◌≤◌, ◌<◌}
use mathlib.Core.Path.{◌≡◌, refl, sym, ◌∙◌, ap, subst}
use mathlib.Core.Logic.{◌↔◌}
use mathlib.Core.Bool.{true}
use mathlib.Core.List.{List, [], ◌∷◌, ◌++◌, map}
use native.Mathlib.Omega.{arith}
use lib.Dec.{leb}
use lib.ListN.{length, get_or, take, replicate, length-append, length-map}
use lib.Seq.{take_at, get_or_at}
use borrow.Author.Tests.{le-leb, eqb-true}
use Rattle.base.specs.Limits.{max_ord_chans, memories, max_unsent, max_cells, cell_bytes}
use Rattle.base.specs.Lists.{same}
use Rattle.base.proofs.Choices.{and_right, and_both}
use Rattle.base.proofs.Lists.{at-place}
use Rattle.base.proofs.Sorts.{Rising, sort_sorted}
use Rattle.cells.specs.Sound.{lengths}
use Rattle.cells.specs.Store.{cell_size, slots_of}
use Rattle.cells.proofs.SoundRest.{Rest}
use Rattle.cells.proofs.SoundTest.{sound-rest}
use Rattle.cells.proofs.Store.{AllSized, store-slots}
use Rattle.image.specs.Image.{WindowEntry, ChannelEntry, Image, image_bytes}
use Rattle.image.specs.Windows.{window_entry, window_from}
use Rattle.image.specs.Entries.{pieces_in, held_in, ready_in}
use Rattle.image.specs.Slots.{used_slots, slots_from}
use Rattle.image.proofs.Again.{Rises, pieces-again, held-again, ready-again}
use Rattle.image.proofs.ImageBytes.{FitsImage}
use Rattle.image.proofs.Sizes.{from-sized, slots-many}
use Rattle.image.proofs.Windows.{entry-again}
use Rattle.receiver.specs.declared.RecvQueue.{RecvQueue}
use Rattle.receiver.specs.Queue.{next_of, unsent_of}
use Rattle.receiver.specs.Receiver.{Receiver, sound_receiver, Sound}
use Rattle.receiver.specs.Save.{channel_entry, own_entry, channels_in, image_of}
use Rattle.receiver.specs.Restore.{no_window, channel_from, queue_from, restored, valid}
use Rattle.receiver.specs.Write.{sorted}
use Rattle.receiver.proofs.Exact.{same-refl, valid-exactly, valid-sound, Writes}
use Rattle.receiver.proofs.ImageQueue.{itself, sorted-same, numbers-rise, numbers-written}
use Rattle.receiver.proofs.Receives.{cells-sound}
use Rattle.receiver.proofs.Restores.{call-rises, same-sections, profile-of, windows-of, channels-of, unsent-of, pieces-of, held-of}
use Rattle.receiver.proofs.Restores.{ready-of}
use Rattle.receiver.proofs.Sanes.{sane}

-- One profile, two windows, 33 channel entries of which the last has next 0; unsent, pieces and held rise, and each message has a body.
pub record Form (i : Image) : Type 0 where
  pub profile : length i.profile ≡ 1
  pub windows : length i.windows ≡ 2
  pub channels : length i.channels ≡ memories
  pub own : (get_or i.channels max_ord_chans (own_entry 0)).next ≡ 0
  pub unsent : Rising itself i.unsent
  pub rises : Rises i

-- ---- lists of a known length
one-there : (l : List ℕ) → length l ≡ 1 → get_or l 0 0 ∷ [] ≡ l
one-there [] e = absurd (omega arith)
one-there (n ∷ []) e = refl
one-there (n ∷ m ∷ l) e = absurd (omega arith)

two-there : (l : List WindowEntry) → length l ≡ 2 → get_or l 0 no_window ∷ get_or l 1 no_window ∷ [] ≡ l
two-there [] e = absurd (omega arith)
two-there (v ∷ []) e = absurd (omega arith)
two-there (v ∷ w ∷ []) e = refl
two-there (v ∷ w ∷ x ∷ l) e = absurd (omega arith)

last-there : (n : ℕ) (l : List ChannelEntry) → length l ≡ suc n → take n l ++ (get_or l n (own_entry 0) ∷ []) ≡ l
last-there n [] e = absurd (omega arith)
last-there zero (c ∷ []) e = refl
last-there zero (c ∷ d ∷ l) e = absurd (omega arith)
last-there (suc n) (c ∷ l) e = ap {B = List ChannelEntry} (λ r. c ∷ r) (last-there n l (omega arith))

entries-back : (cs : List ChannelEntry) → map channel_entry (map channel_from cs) ≡ cs
entries-back [] = refl
entries-back (c ∷ cs) = ap {B = List ChannelEntry} (λ r. c ∷ r) (entries-back cs)

-- ---- an image of this form
module _ (n : ℕ) (store : List ℕ) (len : lengths n (length store) ≡ true) (i : Image) (fi : FitsImage i) (f : Form i)
    (room : length (used_slots i) ≤ n) (call : sound_receiver (restored n store i) ≡ true) where
  abbrev y : Receiver
  y = restored n store i

  cells-rest : Rest (next_of (queue_from i)) (slots_from n i)
  cells-rest = sound-rest (next_of (queue_from i)) (slots_from n i) (unfold restored in cells-sound y.queue y.records y.store call)

  sized : AllSized (slots_from n i)
  sized = from-sized n i cells-rest.core.bounds

  covered : length (slots_from n i) * cell_size ≤ length store
  unfolding lengths cell_size
  covered = rw (slots-many n i room)
      (let e = eqb-true (length store) (cell_bytes * n) (and_right (leb n max_cells) _ (and_right (leb 1 n) _ len)) in omega arith)

  read-back : slots_of y.records y.store ≡ slots_from n i
  unfolding restored
  read-back = store-slots (slots_from n i) store sized covered

  queue-is : y.queue ≡ queue_from i
  unfolding restored
  queue-is = refl

  window-back : (k : ℕ) → k < 2 → window_entry (window_from (get_or i.windows k no_window)) ≡ get_or i.windows k no_window
  window-back k lt =
      let w = fi.1.0.1.1 (get_or i.windows k no_window) (at-place no_window i.windows k (omega (arith, f.windows))) in
      entry-again (get_or i.windows k no_window) w.1.0 w.1.1

  windows-back : window_entry (queue_from i).datagrams ∷ window_entry (queue_from i).reliables ∷ [] ≡ i.windows
  unfolding queue_from
  windows-back = rw (window-back 0 (omega arith), window-back 1 (omega arith)) (two-there i.windows f.windows)

  channels-back : channels_in (queue_from i) ≡ i.channels
  unfolding channels_in queue_from
  channels-back = rw (entries-back (take max_ord_chans i.channels))
      (ap (λ (e : ChannelEntry). take max_ord_chans i.channels ++ (e ∷ [])) own ∙ last-there max_ord_chans i.channels f.channels)
    where
      own : own_entry (get_or i.channels max_ord_chans (own_entry 0)).memory ≡ get_or i.channels max_ord_chans (own_entry 0)
      own = λ k. record { next = sym f.own k; memory = (get_or i.channels max_ord_chans (own_entry 0)).memory }

  unsent-back : sorted (unsent_of (queue_from i)) ≡ i.unsent
  unsent-back = ap sorted taken ∙ (sorted-same i.unsent ∙ sort_sorted itself i.unsent f.unsent)
    where
      taken : unsent_of (queue_from i) ≡ i.unsent
      taken = unfold queue_from unsent_of in take_at i.unsent (replicate (max_unsent - length i.unsent) 0) (length i.unsent) refl

  -- It is its restored receiver's image.
  pub form-again : image_of (restored n store i) ≡ i
  form-again = same-sections (image_of y) i
      (profile-of y ∙ (ap (λ (q : RecvQueue). q.profile ∷ []) queue-is ∙ (unfold queue_from in one-there i.profile f.profile)))
      (windows-of y ∙ (ap (λ (q : RecvQueue). window_entry q.datagrams ∷ window_entry q.reliables ∷ []) queue-is ∙ windows-back))
      (channels-of y ∙ (ap channels_in queue-is ∙ channels-back))
      (unsent-of y ∙ (ap (λ (q : RecvQueue). sorted (unsent_of q)) queue-is ∙ unsent-back))
      (pieces-of y ∙ (ap pieces_in read-back ∙ pieces-again n i f.rises))
      (held-of y ∙ (ap held_in read-back ∙ held-again n i f.rises))
      (ready-of y ∙ (ap ready_in read-back ∙ ready-again n i f.rises))

  -- So it is valid.
  form-valid : valid n store i ≡ true
  unfolding valid
  form-valid = and_both _ _ (le-leb _ _ room) (and_both _ _ call
      (ap (λ (b : List ℕ). same b (image_bytes i)) (ap image_bytes form-again) ∙ same-refl (image_bytes i)))

-- ---- and every sound receiver's image has this form
pub form-of : (x : Receiver) → Sound x → Form (image_of x)
form-of x v = record {
  profile = rw (profile-of x);
  windows = rw (windows-of x);
  channels = rw (channels-of x) (unfold channels_in in
      (let a = length-append (map channel_entry x.queue.channels) (own_entry x.queue.newest ∷ []) in
      let b = length-map x.queue.channels channel_entry in
      let c = v.arrays.channels in
      omega arith));
  own = rw (channels-of x) (unfold channels_in in
      ap (λ (e : ChannelEntry). e.next) (get_or_at (map channel_entry x.queue.channels) (own_entry x.queue.newest) [] (own_entry 0)
      max_ord_chans (length-map x.queue.channels channel_entry ∙ v.arrays.channels)));
  unsent = subst (Rising itself) (sym (numbers-written x (sane x v).good)) (numbers-rise x (sane x v).good);
  rises = call-rises x v.call;
}

-- What code tests is the definition's test: the form, the room, and soundness of what is restored.
pub valid-is-form : (n : ℕ) (store : List ℕ) → lengths n (length store) ≡ true → (i : Image) → FitsImage i
    → (valid n store i ≡ true) ↔ (Form i × (length (used_slots i) ≤ n) × (sound_receiver (restored n store i) ≡ true))
valid-is-form n store len i fi = (there, λ a. form-valid n store len i fi a.0 a.1 a.2)
  where
    there : valid n store i ≡ true → Form i × (length (used_slots i) ≤ n) × (sound_receiver (restored n store i) ≡ true)
    there e =
        let w : Writes n i = (valid-exactly n store len i fi).0 e in
        (subst Form w.image (form-of w.receiver w.sound), w.room, valid-sound n store i e)
