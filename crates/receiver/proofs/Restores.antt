-- A sound receiver's image restores: over any cells that it fits into, the restored receiver is sound and has the same image.
-- Assumes nothing.
use Prim.Native.Nat.{ℕ, ◌*◌, ◌≤◌}
use mathlib.Core.Path.{◌≡◌, refl, sym, ◌∙◌, ap}
use mathlib.Core.Bool.{true}
use mathlib.Core.List.{List, [], ◌∷◌}
use native.Mathlib.Omega.{arith}
use lib.Dec.{leb}
use lib.ListN.{length, length-map}
use borrow.Author.Tests.{leb-true, eqb-true}
use Rattle.base.specs.Limits.{max_cells, cell_bytes}
use Rattle.base.proofs.Choices.{and_left, and_right, and_both}
use Rattle.base.proofs.Sorts.{sort_sorted}
use Rattle.cells.specs.Cell.{Slot}
use Rattle.cells.specs.Sound.{sound, sound_cells, lengths}
use Rattle.cells.specs.Store.{cell_size, slots_of, cells_of}
use Rattle.cells.proofs.SoundRest.{Rest}
use Rattle.cells.proofs.SoundTest.{sound-rest, sound-aged, rest-sound}
use Rattle.cells.proofs.Store.{AllSized, store-slots, store_length, cells-slots}
use Rattle.image.specs.Image.{Image}
use Rattle.image.specs.Windows.{window_entry}
use Rattle.image.specs.Entries.{pieces_in, held_in, ready_in}
use Rattle.image.specs.Slots.{used_slots, slots_from}
use Rattle.image.proofs.Again.{Rises, pieces-again, held-again, ready-again}
use Rattle.image.proofs.Entries.{Entries, restored-rest, restored-aged}
use Rattle.image.proofs.Sections.{image-rises, image-entries}
use Rattle.image.proofs.Sizes.{from-sized, slots-many}
use Rattle.image.proofs.Windows.{window-again}
use Rattle.receiver.specs.declared.RecvQueue.{RecvQueue}
use Rattle.receiver.specs.Queue.{next_of, unsent_of, sound_queue}
use Rattle.receiver.specs.Receive.{sound_call}
use Rattle.receiver.specs.Receiver.{Receiver, sound_receiver}
use Rattle.receiver.specs.Write.{sorted}
use Rattle.receiver.specs.Save.{channels_in, image_of}
use Rattle.receiver.specs.Restore.{queue_from, restored}
use Rattle.receiver.proofs.ImageQueue.{itself, sorted-same, numbers, numbers-rise, numbers-written, unsent-is, channels-are, own-is}
use Rattle.receiver.proofs.ImageQueue.{nexts-are, memories-are, profile-is, datagrams-are, reliables-are, queue-good}
use Rattle.receiver.proofs.Queues.{good-sound}
use Rattle.receiver.proofs.Receives.{Sane, lengths-sound, queue-sound, cells-sound, memories-sound, slots-fit}

-- ---- an image's sections, each by itself
module _ (x : Receiver) where
  pub profile-of : (image_of x).profile ≡ x.queue.profile ∷ []
  unfolding image_of
  profile-of = refl

  pub windows-of : (image_of x).windows ≡ window_entry x.queue.datagrams ∷ window_entry x.queue.reliables ∷ []
  unfolding image_of
  windows-of = refl

  pub channels-of : (image_of x).channels ≡ channels_in x.queue
  unfolding image_of
  channels-of = refl

  pub unsent-of : (image_of x).unsent ≡ sorted (unsent_of x.queue)
  unfolding image_of
  unsent-of = refl

  pub pieces-of : (image_of x).pieces ≡ pieces_in (slots_of x.records x.store)
  unfolding image_of
  pieces-of = refl

  pub held-of : (image_of x).held ≡ held_in (slots_of x.records x.store)
  unfolding image_of
  held-of = refl

  pub ready-of : (image_of x).ready ≡ ready_in (slots_of x.records x.store)
  unfolding image_of
  ready-of = refl

-- Images with the same sections are one.
pub same-sections : (i j : Image) → i.profile ≡ j.profile → i.windows ≡ j.windows → i.channels ≡ j.channels → i.unsent ≡ j.unsent
    → i.pieces ≡ j.pieces → i.held ≡ j.held → i.ready ≡ j.ready → i ≡ j
same-sections i j p w c u o h r = λ k. record {
  profile = p k;
  windows = w k;
  channels = c k;
  unsent = u k;
  pieces = o k;
  held = h k;
  ready = r k;
}

-- ---- a receiver that passes the tests of 9
module _ (x : Receiver) (s : sound_receiver x ≡ true) where
  pub call-rest : Rest (next_of x.queue) (slots_of x.records x.store)
  call-rest = sound-rest (next_of x.queue) (slots_of x.records x.store)
      (rw (cells-slots x.records x.store) (cells-sound x.queue x.records x.store s))

  pub call-sized : AllSized (slots_of x.records x.store)
  call-sized = (slots-fit x.queue x.records x.store s).sized

  pub call-many : length (slots_of x.records x.store) ≤ max_cells
  unfolding lengths
  call-many =
      let a = (slots-fit x.queue x.records x.store s).many in
      let l = and_right (leb 1 (length x.records)) _ (lengths-sound x.queue x.records x.store s) in
      let b : length x.records ≤ max_cells = leb-true (length x.records) max_cells (and_left (leb (length x.records) max_cells) _ l) in
      omega arith

  pub call-rises : Rises (image_of x)
  unfolding image_of
  call-rises = image-rises (next_of x.queue) (slots_of x.records x.store) call-rest call-sized (image_of x) refl refl refl

  pub call-entries : Entries (next_of x.queue) (image_of x)
  unfolding image_of
  call-entries = image-entries (next_of x.queue) (slots_of x.records x.store) call-rest call-sized (image_of x) refl refl refl
      (sound-aged (next_of x.queue) (slots_of x.records x.store)
      (rw (cells-slots x.records x.store) (cells-sound x.queue x.records x.store s)))

module _ (x : Receiver) (v : Sane x) where
  pub slots-rest : Rest (next_of x.queue) (slots_of x.records x.store)
  slots-rest = call-rest x v.sound

  pub slots-are-sized : AllSized (slots_of x.records x.store)
  slots-are-sized = call-sized x v.sound

  pub rises : Rises (image_of x)
  rises = call-rises x v.sound

  pub entries : Entries (next_of x.queue) (image_of x)
  entries = call-entries x v.sound

  module _ (n : ℕ) (store : List ℕ) (len : lengths n (length store) ≡ true) (room : length (used_slots (image_of x)) ≤ n) where
    many : length (slots_from n (image_of x)) ≡ n
    many = slots-many n (image_of x) room

    store_is : n * cell_size ≡ length store
    unfolding lengths cell_size
    store_is =
        let e = eqb-true (length store) (cell_bytes * n) (and_right (leb n max_cells) _ (and_right (leb 1 n) _ len)) in
        omega arith

    covered : length (slots_from n (image_of x)) * cell_size ≤ length store
    covered = rw many (let e = store_is in omega arith)

    kept-rest : Rest (next_of x.queue) (slots_from n (image_of x))
    kept-rest = restored-rest (next_of x.queue) n (image_of x) rises entries

    sized : AllSized (slots_from n (image_of x))
    sized = from-sized n (image_of x) kept-rest.core.bounds

    -- the cells read again are those restored
    pub read-again : slots_of (restored n store (image_of x)).records (restored n store (image_of x)).store ≡ slots_from n (image_of x)
    unfolding restored
    read-again = store-slots (slots_from n (image_of x)) store sized covered

    cells-kept : sound (cells_of (slots_from n (image_of x))) (next_of x.queue) ≡ true
    cells-kept = rest-sound (next_of x.queue) (slots_from n (image_of x)) kept-rest
        (restored-aged (next_of x.queue) n (image_of x) rises entries)

    records-long : length (restored n store (image_of x)).records ≡ n
    unfolding restored cells_of
    records-long = length-map (slots_from n (image_of x)) (λ (s : Slot). s.cell) ∙ many

    store-long : length (restored n store (image_of x)).store ≡ length store
    unfolding restored
    store-long = store_length (slots_from n (image_of x)) store sized covered

    queue-kept : sound_queue (queue_from (image_of x)) ≡ true
    unfolding sound
    queue-kept = good-sound (queue_from (image_of x)) (queue-good x v.good)
        (rw (nexts-are x v.good) (and_right (sound_cells (cells_of (slots_from n (image_of x))) (next_of x.queue)) _ cells-kept))
        (rw (memories-are x v.good) (memories-sound x.queue (queue-sound x.queue x.records x.store v.sound)))

    -- The restored receiver is sound.
    pub restored-sane : Sane (restored n store (image_of x))
    unfolding sound_call sound
    restored-sane =
        record {
          good = unfold restored in queue-good x v.good;
          sound =
              and_both (lengths (length (restored n store (image_of x)).records) (length (restored n store (image_of x)).store)) _
              (rw (records-long, store-long) len)
              (unfold restored in and_both (sound_queue (queue_from (image_of x))) _ queue-kept
              (rw (nexts-are x v.good) (and_left (sound_cells (cells_of (slots_from n (image_of x))) (next_of x.queue)) _ cells-kept)));
        }

    -- Its image is the one that was restored.
    pub image-again : image_of (restored n store (image_of x)) ≡ image_of x
    image-again =
        same-sections (image_of y) (image_of x) profile-same windows-same channels-same unsent-same pieces-same held-same ready-same
      where
        y : Receiver
        y = restored n store (image_of x)

        queue-is : y.queue ≡ queue_from (image_of x)
        queue-is = unfold restored in refl

        profile-same : (image_of y).profile ≡ (image_of x).profile
        profile-same = profile-of y ∙ (ap (λ (q : RecvQueue). q.profile ∷ []) queue-is ∙ (rw (profile-is x v.good) (sym (profile-of x))))

        windows-same : (image_of y).windows ≡ (image_of x).windows
        windows-same =
            windows-of y ∙ (ap (λ (q : RecvQueue). window_entry q.datagrams ∷ window_entry q.reliables ∷ []) queue-is
            ∙ (rw (datagrams-are x v.good, reliables-are x v.good, window-again x.queue.datagrams, window-again x.queue.reliables)
            (sym (windows-of x))))

        channels-same : (image_of y).channels ≡ (image_of x).channels
        channels-same = channels-of y ∙ (ap channels_in queue-is ∙ (channels-kept ∙ sym (channels-of x)))
          where
            channels-kept : channels_in (queue_from (image_of x)) ≡ channels_in x.queue
            channels-kept = unfold channels_in in rw (channels-are x v.good, own-is x v.good) refl

        unsent-same : (image_of y).unsent ≡ (image_of x).unsent
        unsent-same =
            unsent-of y ∙ (ap (λ (q : RecvQueue). sorted (unsent_of q)) queue-is
            ∙ (ap sorted (unsent-is x v.good) ∙ (sorted-same (numbers x v.good)
            ∙ (sort_sorted itself (numbers x v.good) (numbers-rise x v.good) ∙ sym (numbers-written x v.good)))))

        pieces-same : (image_of y).pieces ≡ (image_of x).pieces
        pieces-same = pieces-of y ∙ (ap pieces_in read-again ∙ pieces-again n (image_of x) rises)

        held-same : (image_of y).held ≡ (image_of x).held
        held-same = held-of y ∙ (ap held_in read-again ∙ held-again n (image_of x) rises)

        ready-same : (image_of y).ready ≡ (image_of x).ready
        ready-same = ready-of y ∙ (ap ready_in read-again ∙ ready-again n (image_of x) rises)
