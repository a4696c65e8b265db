-- A restore on rows: what the image's receiver is, and the call's ways out.
-- Assumes nothing.
use Prim.Native.Nat.{ℕ, zero, suc, ◌*◌, ◌-◌, ◌≤◌}
use mathlib.Core.Path.{◌≡◌, refl, sym, ◌∙◌, ap, subst}
use mathlib.Core.Bool.{Bool, true, false, ◌&&◌, false≢true}
use mathlib.Core.Option.{some}
use mathlib.Core.List.Memᴰ
use mathlib.Core.List.{List, [], ◌∷◌, ◌++◌, map, Memᴰ}
use native.Mathlib.Omega.{arith}
use lib.Dec.{leb}
use lib.ListN.{length, replicate, length-map, length-replicate}
use borrow.Author.Tests.{leb-true, eqb-true, ne_eqb}
use Rattle.std.specs.Prelude.{Result, Ok, Err, Some, None}
use Rattle.std.specs.Result.{is_ok}
use Rattle.base.specs.Bytes.{Bytes}
use Rattle.base.specs.Limits.{max_cells, cell_bytes}
use Rattle.base.specs.Lists.{option}
use Rattle.base.specs.If.{if_true}
use Rattle.base.specs.Answer.{refused, gives}
use Rattle.base.specs.Refusals.{number_of}
use Rattle.base.proofs.Ifs.{true-yes, true-no}
use Rattle.base.specs.declared.refusal.Refusal.TheVariants.{NotSound, BadForm, NotRestorable}
use Rattle.row_bodies.specs.Flush.{flushed_rows, stored, settled, settled_rows}
use Rattle.row_bodies.proofs.Flushing.{all-flushed}
use Rattle.base.specs.declared.refusal.Refusal.{Refusal}
use Rattle.base.proofs.Choices.{cases, and_left, and_right, and_both, case_option}
use Rattle.cells.specs.Cell.{Cell, Slot, empty_slot, empty_cell}
use Rattle.cells.specs.Sound.{lengths, sound_cells}
use Rattle.cells.specs.Store.{cell_size, cells_of, store_of}
use Rattle.cells.proofs.Store.{AllSized, store_length}
use Rattle.rows.specs.declared.Row.{Row}
use Rattle.rows.specs.Rows.{cell_of, cells_in, stored_row, blank_row, change_row}
use Rattle.row_slots.specs.Slots.{slots_in}
use Rattle.row_slots.proofs.Meaning as meaning
use Rattle.row_slots.proofs.Stored.{slots-sized, store-flushed}
use Rattle.image.specs.Image.{Image, read_image}
use Rattle.image.specs.Slots.{used_slots, slots_from}
use Rattle.image.proofs.ImageBytes.{FitsImage, read-then-write}
use Rattle.image.proofs.Sizes.{slots-many}
use Rattle.image_read.specs.Ends.{is_some}
use Rattle.image_read.specs.At.{image_at}
use Rattle.image_read.proofs.Standing.{Whole, image-whole, section-onward, piece-onward}
use Rattle.image_read.specs.At.{pieces_place, held_place, piece_end}
use Rattle.sound_queue.specs.Sound.{queue_sound_of}
use Rattle.sound_queue.proofs.Rules.{told_is_ok}
use Rattle.receiver.specs.declared.RecvQueue.{RecvQueue}
use Rattle.receiver.specs.Queue.{next_in, next_of, sound_queue}
use Rattle.receiver.specs.Receive.{sound_call}
use Rattle.receiver.specs.Receiver.{sound_receiver}
use Rattle.receiver.specs.Restore.{Restored, restore_refuses, queue_from, restored, valid, restore_of}
use Rattle.recv_restore.specs.Fits.{FrontFits, CellsFit}
use Rattle.recv_restore.specs.Filling.{Rowed, Cells}
use Rattle.recv_restore.specs.Outcome.{RowsRestored, restored_rows, rows_outcome, restore_rows_of, Restores}
use Rattle.recv_restore.proofs.Valid.{valid-front, valid-fits, valid-few, valid-uses, valid-queue, valid-cells, fits-valid}

-- ---- the tests of soundness
module _ (q : RecvQueue) (rows : List Row) (r : Result Bool Refusal) (told : r ≡ queue_sound_of q) where
  pub queue_no : is_ok r ≡ false → false ≡ (sound_queue q && sound_cells (cells_in rows) (next_of q))
  queue_no e = rw (← told_is_ok q r told, e) refl

  pub cells_tell : is_ok r ≡ true → (b : Bool) → b ≡ sound_cells (cells_in rows) (next_in q.channels)
      → b ≡ (sound_queue q && sound_cells (cells_in rows) (next_of q))
  unfolding next_of
  cells_tell e b is = rw (← told_is_ok q r told, e) is

pub ruleset tests = (queue_no, cells_tell)

-- ---- the image that was read
module _ (s : List ℕ) (by : Bytes s) (formed : is_some (read_image s) ≡ true) where
  found : (i : Image) × (read_image s ≡ some i)
  unfolding is_some
  found = case_option (read_image s) (λ e. absurd (false≢true (rw e at formed))) (λ i e. (i, e))

  pub whole : Whole s (image_at s)
  whole = let w = image-whole s found.0 found.1 in record { is = refl; held = w.held; ready = w.ready; end = w.end }

  pub read-is : read_image s ≡ some (image_at s)
  read-is = found.1 ∙ ap some (image-whole s found.0 found.1).is

  pub fits-image : FitsImage (image_at s)
  fits-image = (read-then-write s (image_at s) by read-is).1

  -- ---- over rows
  module _ (rows rows' : List Row) where
    pub none-front : (FrontFits (image_at s) → ⊥) → Restores (image_at s) s rows rows' None
    unfolding Restores
    none-front h st len e = h (valid-front (length rows) st len (image_at s) fits-image e)

    pub none-cells : Cells (image_at s) s rows rows' None → Restores (image_at s) s rows rows' None
    unfolding Restores Cells
    none-cells h st len e = h (valid-fits (length rows) st len (image_at s) fits-image e)
        (valid-few (length rows) st len (image_at s) fits-image e)

    module _ (q : RecvQueue) (is : q ≡ queue_from (image_at s)) (front : FrontFits (image_at s)) (cells : CellsFit (image_at s))
        (few : length (used_slots (image_at s)) ≤ length rows) (w : Rowed s rows' (used_slots (image_at s)))
        (many : length rows' ≡ length rows) where
      slots-are : (st : List ℕ) → slots_in rows' st s ≡ slots_from (length rows) (image_at s)
      slots-are st = w.is st ∙ (unfold slots_from in ap (λ (n : ℕ). used_slots (image_at s) ++ replicate
          (n - length (used_slots (image_at s))) empty_slot) many)

      records-are : cells_in rows' ≡ cells_of (slots_from (length rows) (image_at s))
      records-are = sym meant ∙ ap cells_of (slots-are [])
        where
          meant : cells_of (slots_in rows' [] s) ≡ cells_in rows'
          meant = unfold cells_in in meaning.cells_in rows' [] s

      module _ (b : Bool) (test : b ≡ (sound_queue q && sound_cells (cells_in rows') (next_of q))) where
        pub none-sound : b ≡ false → Restores (image_at s) s rows rows' None
        unfolding Restores
        none-sound fails st len e =
            let a = valid-queue (length rows) st len (image_at s) fits-image e in
            let c = valid-cells (length rows) st len (image_at s) fits-image e in
            false≢true (sym fails ∙ (test ∙ (rw (is, records-are) (and_both _ _ a c))))

        pub some-sound : b ≡ true → Restores (image_at s) s rows rows' (Some q)
        unfolding Restores
        some-sound holds = (is, (w, λ st len. fits-valid (length rows) st len (image_at s) fits-image front cells few (passes st len)))
          where
            both : (sound_queue (queue_from (image_at s)) && sound_cells (cells_of (slots_from (length rows) (image_at s)))
                (next_of (queue_from (image_at s)))) ≡ true
            both = rw (← is, ← records-are) (sym test ∙ holds)

            passes : (st : List ℕ) → lengths (length rows) (length st) ≡ true → sound_receiver (restored (length rows) st (image_at s))
                ≡ true
            passes st len = unfold restored sound_call cells_of in and_both _ _ long both
              where
                long-store : length st ≡ cell_bytes * length rows
                long-store = unfold lengths in eqb-true (length st) (cell_bytes * length rows)
                    (and_right (leb (length rows) max_cells) _ (and_right (leb 1 (length rows)) _ len))

                room : length rows' * cell_size ≤ length st
                room = unfold cell_size in omega (arith, long-store, many)

                sized : AllSized (slots_from (length rows) (image_at s))
                sized = subst AllSized (slots-are st) (slots-sized s rows' st w.fits room)

                long : lengths (length (cells_of (slots_from (length rows) (image_at s))))
                    (length (store_of st (slots_from (length rows) (image_at s)))) ≡ true
                long = ap (λ (m : ℕ). lengths m (length (store_of st (slots_from (length rows) (image_at s))))) records-many
                    ∙ (ap (lengths (length rows)) store-many ∙ len)
                  where
                    slots-many' : length (slots_from (length rows) (image_at s)) ≡ length rows
                    slots-many' = slots-many (length rows) (image_at s) few

                    records-many : length (cells_of (slots_from (length rows) (image_at s))) ≡ length rows
                    records-many = unfold cells_of in length-map (slots_from (length rows) (image_at s)) (λ (x : Slot). x.cell)
                        ∙ slots-many'

                    store-many : length (store_of st (slots_from (length rows) (image_at s))) ≡ length st
                    store-many = store_length (slots_from (length rows) (image_at s)) st sized
                        (subst (λ (m : ℕ). m * cell_size ≤ length st) (many ∙ sym slots-many') room)

  pub pieces-within : pieces_place s ≤ length s
  pieces-within =
      let a = whole.held in
      let b : pieces_place s ≤ held_place s = unfold held_place in section-onward (piece_end s) (piece-onward s) s (pieces_place s) in
      omega arith

-- ---- settled rows
settled-row : (r : Row) → r.cell.used ≤ 3 → settled r ≡ stored_row (cell_of r)
unfolding settled stored change_row
settled-row r le = let u = ne_eqb r.cell.used 4 (λ e. omega arith) in rw u refl

settled-are : (rs : List Row) → ((r : Row) → Memᴰ r rs → r.cell.used ≤ 3) → settled_rows rs ≡ map stored_row (map cell_of rs)
unfolding settled_rows
settled-are [] h = refl
settled-are (r ∷ rs) h = λ t. settled-row r (h r (Memᴰ.head refl)) t ∷ settled-are rs (λ x m. h x (Memᴰ.tail m)) t

module _ (i : Image) (s st : List ℕ) (rows : List Row) (n : ℕ) (many : length rows ≡ n) (w : Rowed s rows (used_slots i)) where
  slots-of-rows : slots_in rows st s ≡ slots_from n i
  slots-of-rows = w.is st ∙ filled
    where
      filled : used_slots i ++ replicate (length rows - length (used_slots i)) empty_slot ≡ slots_from n i
      filled = unfold slots_from in ap (λ (m : ℕ). used_slots i ++ replicate (m - length (used_slots i)) empty_slot) many

  cells-of-rows : map cell_of rows ≡ cells_of (slots_from n i)
  cells-of-rows = sym (meaning.cells_in rows st s) ∙ ap cells_of slots-of-rows

  module _ (uses : (x : Slot) → Memᴰ x (slots_from n i) → x.cell.used ≤ 3) (len : lengths n (length st) ≡ true) where
    row-uses : (r : Row) → Memᴰ r rows → r.cell.used ≤ 3
    row-uses r m = go (Memᴰ.of_map (λ (x : Slot). x.cell) (slots_from n i) there)
      where
        there : Memᴰ (cell_of r) (map (λ (x : Slot). x.cell) (slots_from n i))
        there = unfold cells_of in subst (λ (l : List Cell). Memᴰ (cell_of r) l) cells-of-rows (Memᴰ.map cell_of m)

        go : (x : Slot) × Memᴰ x (slots_from n i) × (x.cell ≡ cell_of r) → r.cell.used ≤ 3
        go a = subst (λ (c : Cell). c.used ≤ 3) a.2 (uses a.0 a.1)

    pub rows-left : settled_rows rows ≡ map stored_row (cells_of (slots_from n i))
    rows-left = settled-are rows row-uses ∙ ap (map stored_row) cells-of-rows

    pub store-left : flushed_rows 0 rows st s ≡ store_of st (slots_from n i)
    store-left = all-flushed s rows st w.fits room ∙ (sym (store-flushed s rows st w.fits room) ∙ ap (store_of st) slots-of-rows)
      where
        long-store : length st ≡ cell_bytes * n
        long-store = unfold lengths in eqb-true (length st) (cell_bytes * n) (and_right (leb n max_cells) _ (and_right (leb 1 n) _ len))

        room : length rows * cell_size ≤ length st
        room = unfold cell_size in omega (arith, long-store, many)

-- ---- the call
blank-map : (n : ℕ) → map stored_row (replicate n empty_cell) ≡ replicate n blank_row
unfolding blank_row
blank-map zero = refl
blank-map (suc n) = ap {B = List Row} (λ l. stored_row empty_cell ∷ l) (blank-map n)

-- what the lengths tell, of rows cleared
module _ (rows cleared : List Row) (is : cleared ≡ replicate (length rows) blank_row) (st : List ℕ) (b : Bool)
    (test : b ≡ lengths (length cleared) (length st)) where
  pub as-many : length cleared ≡ length rows
  as-many = ap length is ∙ length-replicate (length rows) blank_row

  pub lengths-told : b ≡ lengths (length rows) (length st)
  lengths-told = test ∙ ap (λ (n : ℕ). lengths n (length st)) as-many

  pub few-rows : b ≡ true → length cleared ≤ max_cells
  unfolding lengths
  few-rows e = leb-true (length cleared) max_cells
      (and_left (leb (length cleared) max_cells) _ (and_right (leb 1 (length cleared)) _ (sym test ∙ e)))

  pub blank-again : cleared ≡ replicate (length cleared) blank_row
  blank-again = is ∙ ap (λ (n : ℕ). replicate n blank_row) (sym as-many)

module _ (q : RecvQueue) (rows : List Row) (st bytes : List ℕ) where
  abbrev cs : List Cell
  cs = replicate (length rows) empty_cell

  abbrev refuse : ℕ → Restored
  refuse k = restore_refuses (record { queue = q; records = cs; store = st }) k

  abbrev done : ℕ → Image → Restored
  done n i = record { answer = gives tt; left = restored n st i }

  abbrev inner : ℕ → Restored
  inner n = option (read_image bytes) (refuse 21) (λ i. if_true (valid n st i) (done n i) (refuse 22))

  main : restore_of q cs st bytes ≡ if_true (lengths (length rows) (length st)) (inner (length rows)) (refuse 9)
  unfolding restore_of
  main = ap (λ (n : ℕ). if_true (lengths n (length st)) (inner n) (refuse 9)) (length-replicate (length rows) empty_cell)

  left-blank : (k : ℕ) (r : Refusal) → number_of r ≡ k → (rows' : List Row) → rows' ≡ replicate (length rows) blank_row → refuse k
      ≡ restore_of q cs st bytes
      → restored_rows (Err r) q rows' st ≡ restore_rows_of q rows st bytes
  unfolding restored_rows restore_rows_of rows_outcome
  left-blank k r e rows' b is =
      (λ t. record { answer = refused (e t); queue = q; rows = (b ∙ sym (blank-map (length rows))) t; store = st }) ∙ ap rows_outcome is

  pub unfit-rows : (b : Bool) → b ≡ lengths (length rows) (length st) → b ≡ false → (rows' : List Row) → rows'
      ≡ replicate (length rows) blank_row
      → restored_rows (Err NotSound) q rows' st ≡ restore_rows_of q rows st bytes
  unfit-rows b e f rows' z = left-blank 9 NotSound refl rows' z (true-no _ _ _ _ (sym e ∙ f) refl ∙ sym main)

  module _ (fit : lengths (length rows) (length st) ≡ true) where
    to-inner : inner (length rows) ≡ restore_of q cs st bytes
    to-inner = true-yes _ _ _ _ fit refl ∙ sym main

    pub unformed-rows : (b : Bool) → b ≡ is_some (read_image bytes) → b ≡ false → (rows' : List Row) → rows'
        ≡ replicate (length rows) blank_row
        → restored_rows (Err BadForm) q rows' st ≡ restore_rows_of q rows st bytes
    unfolding is_some
    unformed-rows b e f rows' z = left-blank 21 BadForm refl rows' z (cut ∙ to-inner)
      where
        cut : refuse 21 ≡ inner (length rows)
        cut = case_option (read_image bytes) (λ y. rw y refl) (λ i y. absurd (false≢true (sym f ∙ (e ∙ rw y refl))))

    module _ (i : Image) (read : read_image bytes ≡ some i) (fi : FitsImage i) where
      to-valid : if_true (valid (length rows) st i) (done (length rows) i) (refuse 22) ≡ inner (length rows)
      to-valid = rw read refl

      pub invalid-rows : (rows₁ rows₂ : List Row) → length rows₁ ≡ length rows → Restores i bytes rows₁ rows₂ None → (rows' : List Row)
          → rows' ≡ replicate (length rows) blank_row → restored_rows (Err NotRestorable) q rows' st ≡ restore_rows_of q rows st bytes
      unfolding Restores
      invalid-rows rows₁ rows₂ many h rows' z = left-blank 22 NotRestorable refl rows' z
          (true-no _ _ _ _ not-valid refl ∙ (to-valid ∙ to-inner))
        where
          not-valid : valid (length rows) st i ≡ false
          not-valid = cases (valid (length rows) st i) (λ y. absurd (h st (rw many fit) (rw many y))) (λ y. y)

      module _ (rows₁ rows₂ : List Row) (many : length rows₁ ≡ length rows) (many₂ : length rows₂ ≡ length rows) (p : RecvQueue)
          (h : Restores i bytes rows₁ rows₂ (Some p)) where
        pub valid-rows : (rows' : List Row) (st' : List ℕ) → rows' ≡ settled_rows rows₂ → st' ≡ flushed_rows 0 rows₂ st bytes
            → restored_rows (Ok tt) p rows' st' ≡ restore_rows_of q rows st bytes
        unfolding Restores restored_rows restore_rows_of rows_outcome restored
        valid-rows rows' st' e f = is ∙ ap rows_outcome (true-yes _ _ _ _ good refl ∙ (to-valid ∙ to-inner))
          where
            good : valid (length rows) st i ≡ true
            good = rw (← many) (h.1.1 st (rw many fit))

            is : ◌≡◌ {A = RowsRestored} (record { answer = gives tt; queue = p; rows = rows'; store = st' })
                (rows_outcome (done (length rows) i))
            is = λ t. record {
              answer = gives tt;
              queue = h.0 t;
              rows = (e ∙ rows-left i bytes st rows₂ (length rows) many₂ h.1.0 uses fit) t;
              store = (f ∙ store-left i bytes st rows₂ (length rows) many₂ h.1.0 uses fit) t;
            }
              where
                uses : (x : Slot) → Memᴰ x (slots_from (length rows) i) → x.cell.used ≤ 3
                uses = valid-uses (length rows) st fit i fi good
