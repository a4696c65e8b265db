-- What is kept beside the cells, restored from a sound receiver's image: the same numbers accepted, the same next numbers, memories,
-- unsent numbers and profile; and it is sound.
-- Assumes nothing.
use Prim.Native.Nat.{ℕ, ◌-◌, ◌≤◌}
use mathlib.Core.Path.{◌≡◌, refl, sym, ◌∙◌, ap}
use mathlib.Core.Bool.{true, not, ◌&&◌}
use mathlib.Core.List.{List, [], ◌∷◌, map, Memᴰ}
use native.Mathlib.Omega.{arith}
use lib.Dec.{ltb, eqb}
use lib.ListN.{length, length-append, length-replicate, length-map}
use lib.Seq.{take_at, length-take-le, get_or_at}
use borrow.Author.Tests.{eq-eqb, ne_eqb, not-true}
use Rattle.base.specs.Limits.{numbers24, max_ord_chans, max_unsent}
use Rattle.base.specs.Lists.{any}
use Rattle.base.specs.Sort.{insert_by, sort_by}
use Rattle.base.proofs.Choices.{cases, and_left, and_right, and_both, neither}
use Rattle.base.proofs.Lists.{any-true, any_false, any-mem, any-all, every-mem, every-all}
use Rattle.base.proofs.Sorts.{Rising, Apart, in-sort, sort-in, sort-rising, sort-length}
use Rattle.window.specs.declared.ReliableWindow.{ReliableWindow}
use Rattle.window.specs.Window.{accepted}
use Rattle.image.specs.Image.{ChannelEntry}
use Rattle.image.specs.Windows.{window_entry, window_from}
use Rattle.image.proofs.Windows.{window-accepts, window-kept}
use Rattle.receiver.specs.declared.Channel.{Channel}
use Rattle.receiver.specs.Queue.{next_in, next_of, newest_of, unsent_of, differ, insert_unsent}
use Rattle.receiver.specs.Receiver.{Receiver}
use Rattle.receiver.specs.Write.{sorted}
use Rattle.receiver.specs.Save.{channel_entry, own_entry, channels_in, image_of}
use Rattle.receiver.specs.Restore.{channel_from, queue_from}
use Rattle.receiver.proofs.Queues.{Good}

-- ---- numbers in order
abbrev pub itself : ℕ → ℕ
itself n = n

insert-same : (n : ℕ) (l : List ℕ) → insert_unsent n l ≡ insert_by itself n l
unfolding insert_unsent insert_by
insert-same n [] = refl
insert-same n (m ∷ l) = rw (insert-same n l)

-- Numbers ascending are numbers in the order of themselves.
pub sorted-same : (l : List ℕ) → sorted l ≡ sort_by itself l
unfolding sorted sort_by
sorted-same [] = refl
sorted-same (n ∷ l) = ap (insert_unsent n) (sorted-same l) ∙ insert-same n (sort_by itself l)

differ-apart : (l : List ℕ) → differ l ≡ true → Apart itself l
unfolding differ
differ-apart [] e = tt
differ-apart (n ∷ l) e = (
  (λ y m q. neither (any (eqb n) l) (any-mem (eqb n) l y m (eq-eqb n y (sym q)))
      (not-true _ (and_left (not (any (eqb n) l)) _ e))),
  differ-apart l (and_right (not (any (eqb n) l)) _ e),
)

rising-differ : (l : List ℕ) → Rising itself l → differ l ≡ true
unfolding differ
rising-differ [] a = refl
rising-differ (n ∷ l) a =
    and_both (not (any (eqb n) l)) _
    (rw (any-all (eqb n) l (λ y m. ne_eqb n y (λ q. let lt = a.0 y m in omega arith))))
    (rising-differ l a.1)

channels-back : (cs : List Channel) → map channel_from (map channel_entry cs) ≡ cs
channels-back [] = refl
channels-back (c ∷ cs) = ap {B = List Channel} (λ r. c ∷ r) (channels-back cs)

module _ (x : Receiver) (g : Good x.queue) where
  unfoldable pub numbers : List ℕ
  numbers = sort_by itself (unsent_of x.queue)

  pub numbers-are : numbers ≡ sort_by itself (unsent_of x.queue)
  unfolding numbers
  numbers-are = refl

  pub numbers-written : (image_of x).unsent ≡ numbers
  unfolding image_of numbers
  numbers-written = sorted-same (unsent_of x.queue)

  pub numbers-rise : Rising itself numbers
  unfolding numbers
  numbers-rise = sort-rising itself (unsent_of x.queue) (differ-apart (unsent_of x.queue) g.apart)

  pub numbers-few : length numbers ≤ max_unsent
  unfolding numbers unsent_of
  numbers-few =
      let a = sort-length itself (unsent_of x.queue) in
      let b = length-take-le x.queue.pending x.queue.unsent (omega (arith, g.unsent, g.pending)) in
      let c = g.pending in
      omega arith

  pub unsent-is : unsent_of (queue_from (image_of x)) ≡ numbers
  unfolding unsent_of queue_from
  unsent-is = take_at (image_of x).unsent _ _ refl ∙ numbers-written

  pub channels-are : (queue_from (image_of x)).channels ≡ x.queue.channels
  unfolding queue_from image_of channels_in
  channels-are =
      ap (map channel_from) (take_at (map channel_entry x.queue.channels) _ max_ord_chans
      (length-map x.queue.channels channel_entry ∙ g.channels)) ∙ channels-back x.queue.channels

  pub own-is : (queue_from (image_of x)).newest ≡ x.queue.newest
  unfolding queue_from image_of channels_in
  own-is = ap (λ (e : ChannelEntry). e.memory) (get_or_at (map channel_entry x.queue.channels) (own_entry x.queue.newest) []
      (own_entry 0) max_ord_chans (length-map x.queue.channels channel_entry ∙ g.channels))

  pub profile-is : (queue_from (image_of x)).profile ≡ x.queue.profile
  unfolding queue_from image_of
  profile-is = refl

  pub nexts-are : next_of (queue_from (image_of x)) ≡ next_of x.queue
  unfolding next_of
  nexts-are = ap next_in channels-are

  pub memories-are : newest_of (queue_from (image_of x)) ≡ newest_of x.queue
  unfolding newest_of
  memories-are = rw (channels-are, own-is) refl

  pub datagrams-are : (queue_from (image_of x)).datagrams ≡ window_from (window_entry x.queue.datagrams)
  unfolding queue_from image_of
  datagrams-are = refl

  pub reliables-are : (queue_from (image_of x)).reliables ≡ window_from (window_entry x.queue.reliables)
  unfolding queue_from image_of
  reliables-are = refl

  pub accepts-datagrams : (n : ℕ) → accepted (queue_from (image_of x)).datagrams n ≡ accepted x.queue.datagrams n
  accepts-datagrams n = ap (λ (w : ReliableWindow). accepted w n) datagrams-are ∙ window-accepts x.queue.datagrams n

  pub accepts-reliables : (n : ℕ) → accepted (queue_from (image_of x)).reliables n ≡ accepted x.queue.reliables n
  accepts-reliables n = ap (λ (w : ReliableWindow). accepted w n) reliables-are ∙ window-accepts x.queue.reliables n

  in-numbers : (n : ℕ) → Memᴰ n (unsent_of x.queue) → Memᴰ n numbers
  unfolding numbers
  in-numbers n m = in-sort itself (unsent_of x.queue) n m

  numbers-in : (n : ℕ) → Memᴰ n numbers → Memᴰ n (unsent_of x.queue)
  unfolding numbers
  numbers-in n m = sort-in itself (unsent_of x.queue) n m

  -- an unsent number is one that was unsent
  pub unsent-same : (n : ℕ) → any (eqb n) (unsent_of (queue_from (image_of x))) ≡ any (eqb n) (unsent_of x.queue)
  unsent-same n = ap (any (eqb n)) unsent-is ∙ cases (any (eqb n) (unsent_of x.queue))
      (λ y. let a = any-true (eqb n) (unsent_of x.queue) y in any-mem (eqb n) numbers a.0 (in-numbers a.0 a.1) a.2 ∙ sym y)
      (λ y. any-all (eqb n) numbers (λ m i. any_false (eqb n) (unsent_of x.queue) y m (numbers-in m i)) ∙ sym y)

  pub queue-good : Good (queue_from (image_of x))
  queue-good =
      record {
        datagrams = rw datagrams-are (window-kept x.queue.datagrams g.datagrams);
        reliables = rw reliables-are (window-kept x.queue.reliables g.reliables);
        channels = ap length channels-are ∙ g.channels;
        profile = rw profile-is g.profile;
        unsent = unfold queue_from in
            (length-append (image_of x).unsent _ ∙ (rw numbers-written
            (let a = length-replicate {A = ℕ} (max_unsent - length numbers) 0 in let b = numbers-few in omega arith)));
        pending = unfold queue_from in rw numbers-written numbers-few;
        members = rw unsent-is (every-all _ numbers
            (λ n m. one n (every-mem _ (unsent_of x.queue) g.members n (numbers-in n m))));
        apart = rw unsent-is (rising-differ numbers numbers-rise);
      }
    where
      one : (n : ℕ) → (ltb n numbers24 && accepted x.queue.datagrams n) ≡ true
          → (ltb n numbers24 && accepted (queue_from (image_of x)).datagrams n) ≡ true
      one n e = rw (accepts-datagrams n) e
