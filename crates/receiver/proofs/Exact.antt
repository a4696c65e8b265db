-- What a sound receiver's save writes restores, to a sound receiver that holds the same and has the same image; and nothing else restores.
-- Assumes nothing.
use Prim.Native.Nat.{ℕ, ◌-◌, ◌≤◌}
use mathlib.Core.Path.{◌≡◌, refl, sym, ◌∙◌, ap, subst}
use mathlib.Core.Logic.{◌↔◌}
use mathlib.Core.Bool.{true, false, not, ◌&&◌}
use mathlib.Core.Option.{Option, some}
use mathlib.Core.List.{List, [], ◌∷◌, map}
use native.Mathlib.Omega.{arith}
use lib.Dec.{leb, eqb}
use lib.ListN.{length, take, length-append, length-map, length-take, length-replicate}
use borrow.Author.Tests.{leb-true, le-leb, eqb-true, eq-eqb}
use Rattle.base.specs.Limits.{max_ord_chans, max_unsent}
use Rattle.base.specs.Lists.{count_of, same}
use Rattle.base.proofs.Choices.{and_left, and_right, and_both, neither}
use Rattle.base.proofs.Counts.{count-length}
use Rattle.window.specs.Proper.{Sized}
use Rattle.cells.specs.Cell.{unused_use, is_free}
use Rattle.cells.specs.Sound.{lengths}
use Rattle.cells.specs.Store.{slots_of}
use Rattle.cells.proofs.Records.{count-cells}
use Rattle.cells.proofs.Store.{cells-slots}
use Rattle.image.specs.Image.{Image, image_bytes, read_image}
use Rattle.image.specs.Slots.{used_slots}
use Rattle.image.specs.Windows.{window_from}
use Rattle.image.proofs.ImageBytes.{FitsImage, write-then-read}
use Rattle.image.proofs.Needed.{used-many}
use Rattle.image.proofs.Windows.{packed-length}
use Rattle.receiver.specs.declared.RecvQueue.{RecvQueue}
use Rattle.receiver.specs.Queue.{next_of}
use Rattle.receiver.specs.Receiver.{Receiver, sound_receiver, Sound}
use Rattle.receiver.specs.Save.{channel_entry, own_entry, channels_in, image_of}
use Rattle.receiver.specs.Restore.{channel_from, queue_from, restored, valid}
use Rattle.receiver.specs.Holds.{Same}
use Rattle.receiver.proofs.Equal.{equal-images-hold-the-same}
use Rattle.receiver.proofs.ImageFits.{image-fits}
use Rattle.receiver.proofs.Receives.{queue-sound}
use Rattle.receiver.proofs.Restores.{restored-sane, image-again, slots-rest, channels-of, pieces-of, held-of, ready-of}
use Rattle.receiver.proofs.Sanes.{sane, sane-sound, pending-few}

-- ---- lists of numbers compared
pub same-refl : (l : List ℕ) → same l l ≡ true
unfolding same
same-refl [] = refl
same-refl (x ∷ l) = and_both _ _ (eq-eqb x x refl) (same-refl l)

pub same-eq : (l r : List ℕ) → same l r ≡ true → l ≡ r
unfolding same
same-eq [] [] e = refl
same-eq [] (y ∷ r) e = neither false e refl
same-eq (x ∷ l) [] e = neither false e refl
same-eq (x ∷ l) (y ∷ r) e =
    let a = eqb-true x y (and_left (eqb x y) _ e) in let b = same-eq l r (and_right (eqb x y) _ e) in cc

-- ---- saved and restored
module _ (x : Receiver) (v : Sound x) where
  -- over n cells and any store of them
  module _ (n : ℕ) (store : List ℕ) (len : lengths n (length store) ≡ true) (room : length (used_slots (image_of x)) ≤ n) where
    pub restored-sound : Sound (restored n store (image_of x))
    restored-sound = sane-sound _ (restored-sane x (sane x v) n store len room)

    pub restored-image : image_of (restored n store (image_of x)) ≡ image_of x
    restored-image = image-again x (sane x v) n store len room

    pub restored-holds : Same (restored n store (image_of x)) x
    restored-holds = equal-images-hold-the-same (restored n store (image_of x)) x restored-sound v restored-image

    pub image-valid : valid n store (image_of x) ≡ true
    unfolding valid
    image-valid =
        and_both _ _ (le-leb _ _ room) (and_both _ _ restored-sound.call
        (ap (λ (b : List ℕ). same b (image_bytes (image_of x))) (ap image_bytes restored-image) ∙ same-refl (image_bytes (image_of x))))

  -- An image needs as many cells as are in use; so as many cells as the receiver has are enough.
  pub needed-cells : length (used_slots (image_of x)) ≡ count_of (λ c. not (eqb c.used unused_use)) x.records
  unfolding is_free
  needed-cells =
      used-many (next_of x.queue) (slots_of x.records x.store) (slots-rest x (sane x v)) (image_of x)
      (pieces-of x) (held-of x) (ready-of x)
      ∙ (sym (count-cells (λ c. not (eqb c.used unused_use)) (slots_of x.records x.store))
      ∙ ap (count_of (λ c. not (eqb c.used unused_use))) (cells-slots x.records x.store))

  pub own-cells-enough : length (used_slots (image_of x)) ≤ length x.records
  own-cells-enough = rw needed-cells (count-length (λ c. not (eqb c.used unused_use)) x.records)

-- ---- what is valid
-- an image that some sound receiver's save writes, of no more cells than n
pub record Writes (n : ℕ) (i : Image) : Type 0 where
  pub room : length (used_slots i) ≤ n
  pub receiver : Receiver
  pub sound : Sound receiver
  pub image : image_of receiver ≡ i

-- what the test says
module _ (n : ℕ) (store : List ℕ) (i : Image) (e : valid n store i ≡ true) where
  pub valid-room : length (used_slots i) ≤ n
  unfolding valid
  valid-room = leb-true (length (used_slots i)) n (and_left (leb (length (used_slots i)) n) _ e)

  valid-rest : (sound_receiver (restored n store i) && same (image_bytes (image_of (restored n store i))) (image_bytes i)) ≡ true
  unfolding valid
  valid-rest = and_right (leb (length (used_slots i)) n) _ e

  pub valid-sound : sound_receiver (restored n store i) ≡ true
  valid-sound = and_left (sound_receiver (restored n store i)) _ valid-rest

  pub valid-bytes : image_bytes (image_of (restored n store i)) ≡ image_bytes i
  valid-bytes = same-eq _ _ (and_right (sound_receiver (restored n store i)) _ valid-rest)

module _ (n : ℕ) (store : List ℕ) (len : lengths n (length store) ≡ true) (i : Image) (fi : FitsImage i) where
  written-valid : Writes n i → valid n store i ≡ true
  written-valid w = subst (λ (j : Image). valid n store j ≡ true) w.image
      (image-valid w.receiver w.sound n store len (subst (λ (j : Image). length (used_slots j) ≤ n) (sym w.image) w.room))

  module _ (e : valid n store i ≡ true) where
    abbrev y : Receiver
    y = restored n store i

    queue-is : y.queue ≡ queue_from i
    unfolding restored
    queue-is = refl

    few : length y.queue.channels ≤ max_ord_chans
    few = rw queue-is (unfold queue_from in
        (let a = length-map (take max_ord_chans i.channels) channel_from in let b = length-take max_ord_chans i.channels in omega arith))

    -- A valid image is its restored receiver's.
    pub valid-image : image_of (restored n store i) ≡ i
    valid-image =
        let a = write-then-read (image_of y) (image-fits y (valid-sound n store i e) few) in
        let b = write-then-read i fi in
        let c : ◌≡◌ {A = Option Image} (some (image_of y)) (some i) = sym a ∙ (ap read_image (valid-bytes n store i e) ∙ b) in
        cc

    channels-long : length y.queue.channels ≡ max_ord_chans
    unfolding channels_in
    channels-long =
        let a = ap (λ (j : Image). length j.channels) valid-image in
        let b = ap {B = ℕ} length (channels-of y) in
        let c = length-append (map channel_entry y.queue.channels) (own_entry y.queue.newest ∷ []) in
        let d = length-map y.queue.channels channel_entry in
        let f = ap (λ (r : RecvQueue). length r.channels) queue-is in
        let g = from-long in
        let h = length-take max_ord_chans i.channels in
        omega arith
      where
        from-long : length (queue_from i).channels ≡ length (take max_ord_chans i.channels)
        from-long = unfold queue_from in length-map (take max_ord_chans i.channels) channel_from

    window-sized : (j : Image) → Sized (queue_from j).datagrams × Sized (queue_from j).reliables
    unfolding queue_from window_from
    window-sized j = (packed-length _ 256, packed-length _ 256)

    unsent-long : (queue_from i).pending ≤ max_unsent → length (queue_from i).unsent ≡ max_unsent
    unfolding queue_from
    unsent-long le = length-append i.unsent _ ∙ (let a = length-replicate {A = ℕ} (max_unsent - length i.unsent) 0 in omega arith)

    -- And the restored receiver is sound.
    pub valid-receiver : Sound (restored n store i)
    valid-receiver = record {
      arrays = record {
        datagrams = rw queue-is (window-sized i).0;
        reliables = rw queue-is (window-sized i).1;
        channels = channels-long;
        unsent = rw queue-is (unsent-long (subst (λ (q : RecvQueue). q.pending ≤ max_unsent) queue-is
            (pending-few y.queue (queue-sound y.queue y.records y.store (valid-sound n store i e)))));
      };
      call = valid-sound n store i e;
    }

    valid-written : Writes n i
    valid-written = record {
      room = valid-room n store i e;
      receiver = restored n store i;
      sound = valid-receiver;
      image = valid-image;
    }

  -- An image is valid exactly where some sound receiver's save writes it and it needs no more cells than lent.
  pub valid-exactly : (valid n store i ≡ true) ↔ Writes n i
  valid-exactly = (valid-written, written-valid)
