-- Equal holdings give equal images, and equal images equal holdings: as values, and as bytes.
-- Assumes nothing.
use Prim.Native.Nat.{ℕ, ◌<◌}
use mathlib.Core.Path.{◌≡◌, refl, sym, ◌∙◌, ap, subst}
use mathlib.Core.Bool.{true}
use mathlib.Core.Logic.{◌↔◌}
use mathlib.Core.Option.{Option, some}
use mathlib.Core.List.{List, [], ◌∷◌, Memᴰ}
use native.Mathlib.Omega.{arith}
use lib.Dec.{eqb}
use lib.ListN.{length, get_or}
use lib.Seq.{ext_get_or}
use borrow.Author.Tests.{eqb-true, eq-eqb}
use Rattle.base.specs.Limits.{max_ord_chans}
use Rattle.base.specs.Lists.{any}
use Rattle.base.proofs.Lists.{any-true, any-mem}
use Rattle.base.proofs.Sorts.{rising-unique, in-sort, sort-in}
use Rattle.window.specs.Window.{accepted}
use Rattle.image.specs.Image.{Image, image_bytes, read_image}
use Rattle.image.proofs.Equal.{lists-same, same-pieces, same-held}
use Rattle.image.proofs.ImageBytes.{FitsImage, write-then-read}
use Rattle.image.proofs.Windows.{entry-same}
use Rattle.receiver.specs.declared.Channel.{Channel}
use Rattle.receiver.specs.Queue.{new_channel, next_in, next_of, memories_in, newest_of, unsent_of}
use Rattle.receiver.specs.Receiver.{Receiver, Sound}
use Rattle.receiver.specs.Save.{channels_in, image_of}
use Rattle.receiver.specs.Restore.{queue_from}
use Rattle.receiver.specs.Holds.{Same}
use Rattle.receiver.proofs.ChannelsAfter.{memory-in, memory-own}
use Rattle.receiver.proofs.ImageFits.{image-fits}
use Rattle.receiver.proofs.ImageQueue.{itself, numbers, numbers-are, numbers-rise, numbers-written, unsent-same, nexts-are, memories-are}
use Rattle.receiver.proofs.ImageQueue.{profile-is, accepts-datagrams, accepts-reliables}
use Rattle.receiver.proofs.Queues.{Good}
use Rattle.receiver.proofs.Receives.{Sane}
use Rattle.receiver.proofs.Sanes.{sane}
use Rattle.receiver.proofs.Restores.{slots-rest, same-sections, profile-of, windows-of, channels-of, pieces-of, held-of, ready-of}

-- Equal images are of receivers that hold the same.
pub equal-images-hold-the-same : (x y : Receiver) → Sound x → Sound y → image_of x ≡ image_of y → Same x y
equal-images-hold-the-same x y s t e = let v = sane x s in let w = sane y t in record {
  profile = sym (profile-is x v.good) ∙ (ap (λ (i : Image). (queue_from i).profile) e ∙ profile-is y w.good);
  datagrams = λ n. sym (accepts-datagrams x v.good n)
      ∙ (ap (λ (i : Image). accepted (queue_from i).datagrams n) e ∙ accepts-datagrams y w.good n);
  reliables = λ n. sym (accepts-reliables x v.good n)
      ∙ (ap (λ (i : Image). accepted (queue_from i).reliables n) e ∙ accepts-reliables y w.good n);
  nexts = λ c. ap (λ (f : ℕ → ℕ). f c)
      (sym (nexts-are x v.good) ∙ (ap (λ (i : Image). next_of (queue_from i)) e ∙ nexts-are y w.good));
  newest = λ m. ap (λ (f : ℕ → ℕ). f m)
      (sym (memories-are x v.good) ∙ (ap (λ (i : Image). newest_of (queue_from i)) e ∙ memories-are y w.good));
  unsent = λ n. sym (unsent-same x v.good n)
      ∙ (ap (λ (i : Image). any (eqb n) (unsent_of (queue_from i))) e ∙ unsent-same y w.good n);
  slots = lists-same (next_of x.queue) (next_of y.queue) _ _ (slots-rest x v) (slots-rest y w)
      (sym (pieces-of x) ∙ (ap (λ (i : Image). i.pieces) e ∙ pieces-of y))
      (sym (held-of x) ∙ (ap (λ (i : Image). i.held) e ∙ held-of y))
      (sym (ready-of x) ∙ (ap (λ (i : Image). i.ready) e ∙ ready-of y));
}

-- ---- the other way
-- channels with the same next numbers and memories
module _ (cs ds : List Channel) (own own' : ℕ) (len : length cs ≡ max_ord_chans) (len' : length ds ≡ max_ord_chans)
    (next : (c : ℕ) → next_in cs c ≡ next_in ds c)
    (newest : (m : ℕ) → get_or (memories_in cs own) m 0 ≡ get_or (memories_in ds own') m 0) where
  channels-same : cs ≡ ds
  unfolding next_in
  channels-same = ext_get_or new_channel cs ds (len ∙ sym len') (λ i lt. λ k. record { next = next i k; newest = memory i lt k })
    where
      memory : (i : ℕ) → i < length cs → (get_or cs i new_channel).newest ≡ (get_or ds i new_channel).newest
      memory i lt = sym (memory-in cs own i lt) ∙ (newest i ∙ memory-in ds own' i (omega arith))

  own-same : own ≡ own'
  own-same = sym (memory-own cs own max_ord_chans len) ∙ (newest max_ord_chans ∙ memory-own ds own' max_ord_chans len')

-- unsent numbers
among : (l : List ℕ) (n : ℕ) → Memᴰ n l → any (eqb n) l ≡ true
among l n m = any-mem (eqb n) l n m (eq-eqb n n refl)

amongst : (l : List ℕ) (n : ℕ) → any (eqb n) l ≡ true → Memᴰ n l
amongst l n e = let a = any-true (eqb n) l e in subst (λ (k : ℕ). Memᴰ k l) (sym (eqb-true n a.0 a.2)) a.1

numbers-over : (x y : Receiver) (g : Good x.queue) (h : Good y.queue)
    → ((n : ℕ) → any (eqb n) (unsent_of x.queue) ≡ any (eqb n) (unsent_of y.queue)) → (n : ℕ) → Memᴰ n (numbers x g) → Memᴰ n (numbers y h)
numbers-over x y g h e n m = rw (numbers-are y h) (in-sort itself (unsent_of y.queue) n
    (amongst _ n (sym (e n) ∙ among _ n (sort-in itself (unsent_of x.queue) n (rw (numbers-are x g) at m)))))

-- Receivers that hold the same have equal images.
pub equal-holdings-equal-images : (x y : Receiver) → Sound x → Sound y → Same x y → image_of x ≡ image_of y
equal-holdings-equal-images x y s t e = same-sections (image_of x) (image_of y) profile windows channels unsent pieces held ready
  where
    v : Sane x
    v = sane x s

    w : Sane y
    w = sane y t

    profile : (image_of x).profile ≡ (image_of y).profile
    profile = profile-of x ∙ (ap (λ (n : ℕ). n ∷ []) e.profile ∙ sym (profile-of y))

    windows : (image_of x).windows ≡ (image_of y).windows
    windows = windows-of x ∙ (rw (
      entry-same x.queue.datagrams y.queue.datagrams e.datagrams,
      entry-same x.queue.reliables y.queue.reliables e.reliables,
    ) (sym (windows-of y)))

    channels : (image_of x).channels ≡ (image_of y).channels
    channels = channels-of x ∙ (same ∙ sym (channels-of y))
      where
        next : (c : ℕ) → next_in x.queue.channels c ≡ next_in y.queue.channels c
        next c = unfold next_of in e.nexts c

        newest : (m : ℕ) → get_or (memories_in x.queue.channels x.queue.newest) m 0
            ≡ get_or (memories_in y.queue.channels y.queue.newest) m 0
        newest m = unfold newest_of in e.newest m

        same : channels_in x.queue ≡ channels_in y.queue
        same = unfold channels_in in rw (
          channels-same x.queue.channels y.queue.channels x.queue.newest y.queue.newest v.good.channels w.good.channels next newest,
          own-same x.queue.channels y.queue.channels x.queue.newest y.queue.newest v.good.channels w.good.channels next newest,
        ) refl

    unsent : (image_of x).unsent ≡ (image_of y).unsent
    unsent = numbers-written x v.good ∙ (rising-unique itself (numbers x v.good) (numbers y w.good)
        (numbers-rise x v.good) (numbers-rise y w.good)
        (numbers-over x y v.good w.good e.unsent) (numbers-over y x w.good v.good (λ n. sym (e.unsent n)))
        ∙ sym (numbers-written y w.good))

    pieces : (image_of x).pieces ≡ (image_of y).pieces
    pieces = pieces-of x
        ∙ (same-pieces (next_of x.queue) (next_of y.queue) _ _ (slots-rest x v) (slots-rest y w) e.slots ∙ sym (pieces-of y))

    held : (image_of x).held ≡ (image_of y).held
    held = held-of x ∙ (same-held (next_of x.queue) (next_of y.queue) _ _ (slots-rest x v) (slots-rest y w) e.slots ∙ sym (held-of y))

    ready : (image_of x).ready ≡ (image_of y).ready
    ready = ready-of x ∙ (e.slots.ready ∙ sym (ready-of y))

-- ---- the same of the images' bytes
pub fits : (x : Receiver) → Sound x → FitsImage (image_of x)
fits x v = image-fits x v.call (let a = v.arrays.channels in omega arith)

-- Images whose bytes are equal are equal.
image-by-bytes : (x y : Receiver) → Sound x → Sound y → image_bytes (image_of x) ≡ image_bytes (image_of y) → image_of x ≡ image_of y
image-by-bytes x y s t e =
    let a = write-then-read (image_of x) (fits x s) in
    let b = write-then-read (image_of y) (fits y t) in
    let c : ◌≡◌ {A = Option Image} (some (image_of x)) (some (image_of y)) = sym a ∙ (ap read_image e ∙ b) in
    cc

-- Sound receivers' images are the same bytes exactly where they hold the same.
pub equal-bytes-exactly : (x y : Receiver) → Sound x → Sound y → (image_bytes (image_of x) ≡ image_bytes (image_of y)) ↔ Same x y
equal-bytes-exactly x y s t = (
  (λ e. equal-images-hold-the-same x y s t (image-by-bytes x y s t e)),
  (λ e. ap image_bytes (equal-holdings-equal-images x y s t e)),
)
