-- The image's bytes, as the save writes them: what soundness gives, and the code's ways.
-- Assumes nothing.
use Prim.Native.Nat.{ℕ, suc, ◌+◌, ◌≤◌, ◌<◌}
use mathlib.Core.Path.{◌≡◌, refl, sym, ◌∙◌, ap}
use mathlib.Core.Bool.{Bool, true, false, ◌&&◌}
use mathlib.Core.List.Memᴰ
use mathlib.Core.List.{List, [], ◌∷◌, ◌++◌, append_assoc, Memᴰ}
use native.Mathlib.Omega.{arith}
use lib.Dec.{leb, eqb}
use lib.ListN.{length, take, drop, replicate, length-replicate}
use lib.Seq.{take_at}
use borrow.Author.Tests.{leb-true, eqb-true, eqb-false, ne_eqb}
use Rattle.std.specs.Prelude.{Ok, Err, IsPermutation, IsSorted}
use Rattle.std.specs.Ordering.{nat_cmp}
use Rattle.base.specs.Bytes.{be32_bytes}
use Rattle.base.specs.Limits.{numbers24, window_places, max_unsent, max_cells, cell_bytes}
use Rattle.base.specs.Lists.{count_of}
use Rattle.base.specs.Put.{put, and_then, Run}
use Rattle.base.specs.declared.refusal.Refusal.TheVariants.{NotSound, NoRoom}
use Rattle.base.proofs.Choices.{cases, and_left, and_right}
use Rattle.base.proofs.Ifs.{true-yes, true-no, lt_yes, lt_no}
use Rattle.base.proofs.Puts.{after-fits, put-split, run-then}
use Rattle.cells.specs.Cell.{Cell, Slot}
use Rattle.cells.specs.Store.{cell_size, slots_of, cells_of}
use Rattle.cells.specs.Sound.{lengths}
use Rattle.cells.proofs.SoundRest.{Rest}
use Rattle.cells.proofs.SoundTest.{sound-rest}
use Rattle.cells.proofs.Store.{cells-slots}
use Rattle.rows.specs.declared.Row.{Row}
use Rattle.rows.specs.Rows.{cell_of, cells_in}
use Rattle.rows.proofs.Rows.{cells-length}
use Rattle.image.specs.Format.{both, formed, section}
use Rattle.image.specs.Image.{image_format, image_bytes, piece_format, message_format}
use Rattle.image.specs.Entries.{pieces_in, held_in, ready_in}
use Rattle.receiver.specs.declared.RecvQueue.{RecvQueue}
use Rattle.receiver.specs.Queue.{next_of, places_within, sound_window, sound_queue}
use Rattle.receiver.specs.Receive.{sound_call}
use Rattle.receiver.specs.Receiver.{Receiver}
use Rattle.receiver.specs.Save.{image_of, save_of}
use Rattle.receiver.specs.Write.{sorted}
use Rattle.receiver.proofs.Receives.{lengths-sound, queue-sound, cells-sound, bodies-short}
use Rattle.recv_acks.proofs.Sendable.{pending-limit}
use Rattle.recv_acks.proofs.Sorted.{length-sorted}
use Rattle.recv_acks.proofs.Sorting.{sort-is}
use Rattle.recv_save.specs.Each.{each_bytes}
use Rattle.recv_save.specs.Front.{front_bytes}
use Rattle.recv_save.specs.Outcome.{save_result, saved_bytes}
use Rattle.recv_save.specs.Slots.{slot_bytes, own_entry, entries_from, entry_bytes, begins, section_bytes, cells_bytes, ordered}
use Rattle.recv_save.proofs.PutCases.{length-then}
use Rattle.recv_save.proofs.Ranks.{in_order, ranks-apart}
use Rattle.recv_save.proofs.Entries.{own-none, own-some, slot_by, ordered-slots}
use Rattle.recv_save.proofs.Sections.{each-map, pieces-section, held-section, ready-section}
use Rattle.recv_save.proofs.Values.{profile-section, windows-section, channels-section, unsent-section}

-- ---- how many entries there are
own-few : (i : ℕ) (c : Cell) → length (own_entry i c) ≤ 1
own-few i c = cases (eqb c.used 0)
    (λ y. let e = ap (length {A = ℕ}) (own-none i c (eqb-true c.used 0 y)) in omega arith)
    (λ y. let e = ap (length {A = ℕ}) (own-some i c (eqb-false c.used 0 y)) in omega arith)

entries-few : (i : ℕ) (rows : List Row) → length (entries_from i rows) ≤ length rows
unfolding entries_from
entries-few i [] = omega arith
entries-few i (r ∷ rows) =
    let a = length-then (own_entry i r.cell) (entries_from (suc i) rows) in
    let b = entries-few (suc i) rows in
    let c = own-few i r.cell in
    omega arith

-- the entries gathered in a list of n zeros, and sorted
module _ (rows : List Row) (n : ℕ) (h : length rows ≤ n) (k : ℕ) (m : List ℕ) (a : Run 0 (entries_from 0 rows) (replicate n 0) k m) where
  gathered : k ≡ length (entries_from 0 rows)
  gathered =
      let f = entries-few 0 rows in
      let z : length (replicate {A = ℕ} n 0) ≡ n = length-replicate n 0 in
      a.next ∙ after-fits (length (replicate n 0)) 0 (length (entries_from 0 rows)) (omega arith) ∙ omega arith

  pub gathered-within : k ≤ n
  gathered-within = let f = entries-few 0 rows in let g = gathered in omega arith

  gathered-are : take k m ≡ entries_from 0 rows
  gathered-are =
      let f = entries-few 0 rows in
      let z : length (replicate {A = ℕ} n 0) ≡ n = length-replicate n 0 in
      rw (gathered, a.is, put-split (replicate n 0) 0 (entries_from 0 rows) (omega arith))
      (take_at (entries_from 0 rows) (drop (0 + length (entries_from 0 rows)) (replicate n 0)) (length (entries_from 0 rows)) refl)

  pub gathered-ordered : (order : List ℕ) → IsPermutation (take k m) order → IsSorted nat_cmp order → order ≡ ordered rows
  unfolding ordered
  gathered-ordered order p s = sort-is (take k m) order p s ∙ ap sorted gathered-are

-- ---- what soundness gives
module _ (q : RecvQueue) (rows : List Row) (store : List ℕ) (s : sound_call q (cells_in rows) store ≡ true) where
  pub rows-few : length rows ≤ max_cells
  unfolding lengths
  rows-few =
      let e = lengths-sound q (cells_in rows) store s in
      let f = leb-true _ max_cells (and_left (leb (length (cells_in rows)) max_cells) _ (and_right (leb 1 (length (cells_in rows))) _ e)) in
      let n = cells-length rows in
      omega arith

  pub order-few : (order : List ℕ) → order ≡ ordered rows → length order ≤ max_cells
  unfolding ordered
  order-few order e =
      let a = rows-few in let b = entries-few 0 rows in let c = length-sorted (entries_from 0 rows) in rw e (omega arith)

  pub pending-few : q.pending ≤ max_unsent
  pending-few = pending-limit q (queue-sound q (cells_in rows) store s)

  pub lows-few : (q.datagrams.low ≤ numbers24) × (q.reliables.low ≤ numbers24)
  unfolding sound_queue sound_window
  lows-few =
      let e = queue-sound q (cells_in rows) store s in
      let f = and_right (leb q.datagrams.low numbers24 && places_within q.datagrams window_places) _ e in (
        leb-true q.datagrams.low numbers24 (and_left (leb q.datagrams.low numbers24) _
            (and_left (leb q.datagrams.low numbers24 && places_within q.datagrams window_places) _ e)),
        leb-true q.reliables.low numbers24 (and_left (leb q.reliables.low numbers24) _
            (and_left (leb q.reliables.low numbers24 && places_within q.reliables window_places) _ f)),
      )

  slots : List Slot
  slots = slots_of (cells_in rows) store

  rest : Rest (next_of q) (slots_of (cells_in rows) store)
  rest = sound-rest (next_of q) (slots_of (cells_in rows) store)
      (rw (cells-slots (cells_in rows) store) (cells-sound q (cells_in rows) store s))

  short : (r : Row) → Memᴰ r rows → (r.cell.used ≡ 0 → ⊥) → r.cell.length ≤ cell_bytes
  unfolding cells_in cell_size
  short r m n = bodies-short q (cells_in rows) store s r.cell (Memᴰ.map cell_of m) (ne_eqb r.cell.used 0 n)

  section-is : (u : ℕ) → section_bytes u rows store (ordered rows)
      ≡ be32_bytes (count_of (begins u) (cells_of (slots_of (cells_in rows) store)))
      ++ each_bytes (λ (s : Slot). slot_bytes u s.cell s.body) (in_order (slots_of (cells_in rows) store))
  unfolding section_bytes and_then entry_bytes slot_by
  section-is u =
      let o = ordered-slots rows store rows-few short (ranks-apart (slots_of (cells_in rows) store) rest.core rest.uses) in
      let e : each_bytes (entry_bytes u rows store) (ordered rows)
      ≡ each_bytes (λ (s : Slot). slot_bytes u s.cell s.body) (in_order (slots_of (cells_in rows) store)) =
      sym (each-map (λ (s : Slot). slot_bytes u s.cell s.body) (slot_by rows store) (ordered rows))
      ∙ ap (each_bytes (λ (s : Slot). slot_bytes u s.cell s.body)) o in
      rw (e, cells-slots (cells_in rows) store)

  abbrev whole : Receiver
  whole = record { queue = q; records = cells_in rows; store = store }

  cells-are : cells_bytes rows store (ordered rows)
      ≡ (section piece_format).write (pieces_in (slots_of (cells_in rows) store))
      ++ ((section message_format).write (held_in (slots_of (cells_in rows) store))
      ++ (section message_format).write (ready_in (slots_of (cells_in rows) store)))
  unfolding cells_bytes and_then
  cells-are =
      let l = slots_of (cells_in rows) store in
      rw (
        section-is 1,
        section-is 2,
        section-is 3,
        pieces-section l rest.core rest.uses,
        held-section l rest.core rest.uses,
        ready-section l rest.core rest.uses,
      )

  pub image-is : image_bytes (image_of whole) ≡ saved_bytes q rows store (ordered rows)
  unfolding image_bytes image_format formed both image_of saved_bytes front_bytes and_then
  image-is =
      rw (profile-section q, windows-section q, channels-section q, unsent-section q, cells-are) (simp append_assoc)

  saved-length : length (image_bytes (image_of whole)) ≡ length (front_bytes q) + length (cells_bytes rows store (ordered rows))
  unfolding saved_bytes
  saved-length = ap (length {A = ℕ}) image-is ∙ length-then (front_bytes q) (cells_bytes rows store (ordered rows))

  -- ---- the two ways
  module _ (out order : List ℕ) (o : order ≡ ordered rows) (f n : ℕ) (d : f ≡ length (front_bytes q))
      (e : n ≡ length (cells_bytes rows store order)) where
    len-is : f + n ≡ length (image_bytes (image_of whole))
    len-is = let a = saved-length in let b : n ≡ length (cells_bytes rows store (ordered rows)) = rw o at e in omega arith

    pub no-room : length out < f + n → save_result (Err NoRoom) out ≡ save_of q (cells_in rows) store out
    unfolding save_of
    no-room lt = let z = len-is in true-yes _ _ _ _ s (lt_yes _ _ _ _ _ (omega arith) refl)

    pub saved : f + n ≤ length out → (a : ℕ) (l : List ℕ) (b : ℕ) (m : List ℕ) → Run 0 (front_bytes q) out a l
        → Run a (cells_bytes rows store order) l b m → save_result (Ok (f + n)) m ≡ save_of q (cells_in rows) store out
    unfolding save_of saved_bytes
    saved le a l b m x y =
        let z = len-is in
        let w : m ≡ put out 0 (image_bytes (image_of whole)) =
        (run-then 0 (front_bytes q) (cells_bytes rows store (ordered rows)) out a l b m x (rw o at y)).is
        ∙ ap (put out 0) (sym image-is) in
        true-yes _ _ _ _ s (lt_no _ _ _ _ _ (omega arith) (rw (w, z)))

pub not-sound : (q : RecvQueue) (rows : List Row) (store out : List ℕ) (b : Bool) → b ≡ sound_call q (cells_in rows) store → b ≡ false
    → save_result (Err NotSound) out ≡ save_of q (cells_in rows) store out
unfolding save_of
not-sound q rows store out b e f = true-no _ _ _ _ (sym e ∙ f) refl
