-- What code tests is the definition's test: an image is valid exactly if its entries fit, its cells are no more than there are, and the
-- restored receiver is sound.
-- Assumes nothing.
use Prim.Native.Nat.{ℕ, zero, suc, ◌+◌, ◌*◌, ◌-◌, ◌≤◌, ◌<◌}
use mathlib.Core.Path.{◌≡◌, refl, ◌∙◌, ap}
use mathlib.Core.Bool.{true, false, ◌&&◌}
use mathlib.Core.List.{List, [], ◌∷◌, ◌++◌, map, Memᴰ}
use native.Mathlib.Omega.{arith}
use native.Mathlib.Decide.{dec_lt}
use lib.Dec.{ltb, leb}
use lib.ListN.{length, take, get_or, get_or-append, replicate, length-map, length-take}
use lib.Seq.{get_or-take, get_or_at, take_at}
use Rattle.std.proofs.lemmas.List.{get_or-map}
use borrow.Author.Tests.{ltb-true, leb-true}
use Rattle.base.specs.Limits.{numbers24, max_unsent, max_ord_chans, memories, cell_bytes}
use Rattle.base.proofs.Choices.{and_left}
use Rattle.base.proofs.Lists.{below_at, every-mem, at-place}
use Rattle.window.specs.declared.ReliableWindow.{ReliableWindow}
use Rattle.window.specs.Window.{accepted}
use Rattle.cells.specs.Cell.{Slot, is_free}
use Rattle.cells.specs.Sound.{lengths, sound_cells, sound, sound_nexts}
use Rattle.cells.specs.Store.{cells_of}
use Rattle.cells.proofs.Keys.{used-free}
use Rattle.cells.proofs.SoundCore.{Bounds}
use Rattle.cells.proofs.SoundRest.{Rest}
use Rattle.cells.proofs.SoundTest.{sound-rest}
use Rattle.image.specs.Image.{WindowEntry, PieceEntry, MessageEntry, Image}
use Rattle.image.specs.Windows.{window_from}
use Rattle.image.specs.Slots.{piece_slot, part_slot, used_slots, slots_from}
use Rattle.image.proofs.Again.{piece-used, part-used}
use Rattle.image.proofs.ImageBytes.{FitsImage}
use Rattle.image.proofs.Members.{no_entry, piece-there, held-there, ready-there}
use Rattle.receiver.specs.declared.Channel.{Channel}
use Rattle.receiver.specs.Queue.{next_in, next_of, newest_of, memories_in, unsent_of, sound_window, sound_profile, sound_queue, new_channel}
use Rattle.receiver.specs.Receiver.{Receiver, sound_receiver}
use Rattle.receiver.specs.Save.{own_entry}
use Rattle.receiver.specs.Restore.{no_window, channel_from, queue_from, restored, valid}
use Rattle.receiver.proofs.Form.{Form, valid-is-form}
use Rattle.receiver.proofs.Receives.{cells-sound, queue-sound, nexts-sound, memories-sound, profile-sound}
use Rattle.receiver.proofs.Sanes.{datagrams-pass, reliables-pass, pending-few, members-pass}
use Rattle.recv_restore.specs.Fits.{Each, PieceFits, HeadFits, MessageFits}
use Rattle.recv_restore.specs.Fits.{NumberCan, number_next, FrontFits, CellsFit}
use Rattle.recv_restore.proofs.Rises.{each-fit, each-rising, rising-each, all-fit, fit-all}

low-small : (w : ReliableWindow) → sound_window w ≡ true → w.low ≤ numbers24
unfolding sound_window
low-small w e = leb-true w.low numbers24 (and_left (leb w.low numbers24) _ e)

low-of : (w : WindowEntry) → (window_from w).low ≡ w.low
unfolding window_from
low-of w = refl

-- ---- a sound restored receiver's values are small
module _ (i : Image) (f : Form i) (s : sound_queue (queue_from i) ≡ true) where
  profile-small : get_or i.profile 0 0 < 2
  profile-small = ltb-true _ _ (unfold sound_profile queue_from in profile-sound (queue_from i) s)

  few-unsent : length i.unsent ≤ 1024
  few-unsent = unfold queue_from in pending-few (queue_from i) s

  low-narrow : (k : ℕ) → k < 2 → (get_or i.windows k no_window).low < 4294967296
  low-narrow zero lt =
      let a : (window_from (get_or i.windows 0 no_window)).low ≤ numbers24 =
      low-small (window_from (get_or i.windows 0 no_window)) (unfold queue_from in datagrams-pass (queue_from i) s) in
      omega (arith, low-of (get_or i.windows 0 no_window))
  low-narrow (suc zero) lt =
      let a : (window_from (get_or i.windows 1 no_window)).low ≤ numbers24 =
      low-small (window_from (get_or i.windows 1 no_window)) (unfold queue_from in reliables-pass (queue_from i) s) in
      omega (arith, low-of (get_or i.windows 1 no_window))
  low-narrow (suc (suc k)) lt = absurd (omega arith)

  channel-at : (k : ℕ) → k < 32 → get_or (map channel_from (take max_ord_chans i.channels)) k new_channel
      ≡ channel_from (get_or i.channels k (own_entry 0))
  channel-at k lt =
      let few : k < length (take max_ord_chans i.channels) = omega (arith, length-take max_ord_chans i.channels, f.channels) in
      get_or-map channel_from (take max_ord_chans i.channels) k (own_entry 0) new_channel few
      ∙ ap channel_from (rw get_or-take refl)

  numbers-fit : Each NumberCan number_next 0 i.unsent
  numbers-fit = rising-each (λ n. n < 4294967296) (λ n. n) 0 i.unsent f.unsent (λ n m. (small n m, omega arith))
    where
      taken : unsent_of (queue_from i) ≡ i.unsent
      taken = unfold queue_from unsent_of in take_at i.unsent (replicate (max_unsent - length i.unsent) 0) (length i.unsent) refl

      small : (n : ℕ) → Memᴰ n i.unsent → n < 4294967296
      small n m = let a = ltb-true n numbers24 (and_left (ltb n numbers24) (accepted (queue_from i).datagrams n)
          (every-mem _ (unsent_of (queue_from i)) (members-pass (queue_from i) s) n (rw taken m))) in omega arith

  next-narrow : (k : ℕ) → k < memories → (get_or i.channels k (own_entry 0)).next < 4294967296
  next-narrow k lt = go (dec_lt k 32)
    where
      go : Dec (k < 32) → (get_or i.channels k (own_entry 0)).next < 4294967296
      go (yes y) =
          let a = leb-true _ _ (below_at max_ord_chans (λ c. leb (next_of (queue_from i) c) numbers24)
          (nexts-sound (queue_from i) s) k y) in
          let e : next_of (queue_from i) k ≡ (get_or i.channels k (own_entry 0)).next =
          unfold next_of next_in queue_from in ap (λ (c : Channel). c.next) (channel-at k y) in
          omega arith
      go (no n) = let q : k ≡ 32 = omega arith in
          let e : (get_or i.channels k (own_entry 0)).next ≡ 0 = rw q f.own in omega arith

  memory-narrow : (k : ℕ) → k < memories → (get_or i.channels k (own_entry 0)).memory < 4294967296
  memory-narrow k lt = go (dec_lt k 32)
    where
      cs : List Channel
      cs = map channel_from (take max_ord_chans i.channels)

      many : length cs ≡ 32
      many = length-map (take max_ord_chans i.channels) channel_from ∙ omega (arith, length-take max_ord_chans i.channels, f.channels)

      own : ℕ
      own = (get_or i.channels max_ord_chans (own_entry 0)).memory

      small : get_or (map (λ (c : Channel). c.newest) cs ++ (own ∷ [])) k 0 ≤ numbers24
      small = leb-true _ _ (unfold newest_of memories_in queue_from in
          below_at memories (λ m. leb (newest_of (queue_from i) m) numbers24) (memories-sound (queue_from i) s) k lt)

      go : Dec (k < 32) → (get_or i.channels k (own_entry 0)).memory < 4294967296
      go (yes y) =
          let e : get_or (map (λ (c : Channel). c.newest) cs ++ (own ∷ [])) k 0 ≡ (get_or i.channels k (own_entry 0)).memory =
          get_or-append (map (λ (c : Channel). c.newest) cs) (own ∷ []) 0 k (omega (arith, many, length-map cs (λ (c : Channel). c.newest)))
          ∙ (get_or-map (λ (c : Channel). c.newest) cs k new_channel 0 (omega (arith, many))
          ∙ ap (λ (c : Channel). c.newest) (channel-at k y)) in
          omega (arith, small)
      go (no n) = let q : k ≡ 32 = omega arith in
          let e : get_or (map (λ (c : Channel). c.newest) cs ++ (own ∷ [])) 32 0 ≡ own =
          get_or_at (map (λ (c : Channel). c.newest) cs) own [] 0 32 (length-map cs (λ (c : Channel). c.newest) ∙ many) in
          let z : get_or (map (λ (c : Channel). c.newest) cs ++ (own ∷ [])) 32 0 ≤ numbers24 = rw q at small in
          rw q (omega arith)

  pub front-fits : FrontFits i
  front-fits = record {
    profile = f.profile;
    windows = f.windows;
    channels = f.channels;
    few = few-unsent;
    own = f.own;
    profile-narrow = let a = profile-small in omega arith;
    low-narrow = low-narrow;
    next-narrow = next-narrow;
    memory-narrow = memory-narrow;
    unsent = numbers-fit;
  }

-- ---- and its cells
module _ (n : ℕ) (i : Image) (f : Form i) (b : (s : Slot) → Memᴰ s (slots_from n i) → is_free s ≡ false → Bounds s) where
  piece-fits : (e : PieceEntry) → Memᴰ e i.pieces → PieceFits e
  piece-fits e m = fields (b (piece_slot e) (piece-there i n e m)
      (used-free (piece_slot e) 1 (piece-used (piece_slot e) e refl) (λ z. omega arith)))
    where
      fields : Bounds (piece_slot e) → PieceFits e
      fields c = unfold piece_slot in record {
        id = let x = c.id in omega arith;
        index = let x = c.index in let y = c.count in omega arith;
        count = let y = c.count in omega arith;
        kind = let y = c.kind in omega arith;
        sequence = let y = c.sequence in omega arith;
        order = let y = c.order in omega arith;
        channel = let y = c.channel in omega arith;
        body = c.length;
      }

  message-fits : (u t : ℕ) (e : MessageEntry) → 1 ≤ length e.bodies → ((j : ℕ) → j < length e.bodies → Bounds (part_slot u t e j))
      → MessageFits e
  message-fits u t e some c = record {
    head = fields (c 0 (omega arith));
    bodies = fit-all (λ l. length l ≤ cell_bytes) [] 0 e.bodies (λ j lt. short j (c j lt));
  }
    where
      fields : Bounds (part_slot u t e 0) → HeadFits e
      fields d = unfold part_slot in record {
        channel = let y = d.channel in omega arith;
        order = let y = d.order in omega arith;
        kind = let y = d.kind in omega arith;
        some = some;
        few = d.count;
      }

      short : (j : ℕ) → Bounds (part_slot u t e j) → length (get_or e.bodies j []) ≤ cell_bytes
      short j d = unfold part_slot in d.length

  part-bounds : (u t : ℕ) (e : MessageEntry) (j : ℕ) → Memᴰ (part_slot (suc u) t e j) (slots_from n i) → Bounds (part_slot (suc u) t e j)
  part-bounds u t e j m = b (part_slot (suc u) t e j) m
      (used-free (part_slot (suc u) t e j) (suc u) (part-used (part_slot (suc u) t e j) (suc u) t e j refl) (λ z. omega arith))

  held-fits : (e : MessageEntry) → Memᴰ e i.held → MessageFits e
  held-fits e m = message-fits 2 0 e (f.rises.some-held e m) (λ j lt. part-bounds 1 0 e j (held-there i n e m j lt))

  ready-fits : (k : ℕ) → k < length i.ready → MessageFits (get_or i.ready k no_entry)
  ready-fits k lt = message-fits 3 k (get_or i.ready k no_entry)
      (f.rises.some-ready (get_or i.ready k no_entry) (at-place no_entry i.ready k lt))
      (λ j jt. part-bounds 2 k (get_or i.ready k no_entry) j (ready-there i n k lt j jt))

  pub cells-fit : CellsFit i
  cells-fit = record {
    pieces = rising-each PieceFits (λ e. e.id * 1024 + e.index) 0 i.pieces f.rises.pieces (λ e m. (piece-fits e m, omega arith));
    held = rising-each MessageFits (λ e. e.channel * 16777216 + e.order) 0 i.held f.rises.held (λ e m. (held-fits e m, omega arith));
    ready = fit-all MessageFits no_entry 0 i.ready ready-fits;
  }

-- ---- the other way round
pub fits-form : (i : Image) → FrontFits i → CellsFit i → Form i
fits-form i f c = record {
  profile = f.profile;
  windows = f.windows;
  channels = f.channels;
  own = f.own;
  unsent = each-rising (λ n. n < 4294967296) (λ n. n) 0 i.unsent f.unsent;
  rises = record {
    pieces = each-rising PieceFits (λ e. e.id * 1024 + e.index) 0 i.pieces c.pieces;
    held = each-rising MessageFits (λ e. e.channel * 16777216 + e.order) 0 i.held c.held;
    some-held = λ e m. (each-fit MessageFits (λ e. e.channel * 16777216 + e.order) 0 i.held c.held e m).0.head.some;
    some-ready = λ e m. (all-fit MessageFits 0 i.ready c.ready e m).head.some;
  };
}

-- ---- the two together
module _ (n : ℕ) (st : List ℕ) (len : lengths n (length st) ≡ true) (i : Image) (fi : FitsImage i) where
  abbrev y : Receiver
  y = restored n st i

  module _ (e : valid n st i ≡ true) where
    a : Form i × (length (used_slots i) ≤ n) × (sound_receiver y ≡ true)
    a = (valid-is-form n st len i fi).0 e

    pub valid-queue : sound_queue (queue_from i) ≡ true
    valid-queue = unfold restored in queue-sound y.queue y.records y.store a.2

    pub valid-cells : sound_cells (cells_of (slots_from n i)) (next_of (queue_from i)) ≡ true
    valid-cells = and_left (sound_cells (cells_of (slots_from n i)) (next_of (queue_from i))) (sound_nexts (next_of (queue_from i))) both
      where
        both : (sound_cells (cells_of (slots_from n i)) (next_of (queue_from i)) && sound_nexts (next_of (queue_from i))) ≡ true
        both = unfold sound restored in cells-sound y.queue y.records y.store a.2

    pub valid-front : FrontFits i
    valid-front = front-fits i a.0 valid-queue

    rest : Rest (next_of (queue_from i)) (slots_from n i)
    rest = sound-rest (next_of (queue_from i)) (slots_from n i) (unfold restored in cells-sound y.queue y.records y.store a.2)

    pub valid-fits : CellsFit i
    valid-fits = cells-fit n i a.0 rest.core.bounds

    pub valid-uses : (s : Slot) → Memᴰ s (slots_from n i) → s.cell.used ≤ 3
    valid-uses = rest.uses

    pub valid-few : length (used_slots i) ≤ n
    valid-few = a.1

  pub fits-valid : FrontFits i → CellsFit i → length (used_slots i) ≤ n → sound_receiver y ≡ true → valid n st i ≡ true
  fits-valid f c le s = (valid-is-form n st len i fi).1 (fits-form i f c, le, s)
