-- After acceptance the records and the store say what the rows said.
-- Assumes nothing.
use Prim.Native.Nat.{ℕ, ◌*◌, ◌-◌, ◌≤◌}
use mathlib.Core.Path.{◌≡◌, refl, sym, ◌∙◌, ap, subst}
use mathlib.Core.Logic.{◌⊎◌, inl, inr}
use mathlib.Core.Bool.{true, false, cond}
use mathlib.Core.List.Memᴰ
use mathlib.Core.List.{List, [], ◌∷◌, ◌++◌, map, Memᴰ}
use native.Mathlib.Omega.{arith}
use lib.Dec.{eqb}
use lib.ListN.{length, take, drop, length-take, length-drop, take-append-drop}
use lib.Seq.{take-take}
use Rattle.base.proofs.Choices.{cases}
use Rattle.cells.specs.Cell.{Slot, is_free}
use Rattle.cells.specs.Store.{cell_size, cells_of, laid, store_of}
use Rattle.cells.specs.Datagram.{Work, sweep, end}
use Rattle.cells.proofs.Store.{Sized, AllSized, room-one, store_length}
use Rattle.rows.specs.declared.Row.{Row}
use Rattle.rows.specs.Rows.{cell_of, blank_row, change_rows}
use Rattle.row_slots.specs.Slots.{row_bytes, row_body, slot_in, slots_in, is_placed, flushed_cell, flushed, Fits, AllFit}
use Rattle.row_slots.proofs.Meaning.{cells_in, slots-in-length}
use Rattle.row_slots.proofs.Changes.{slots-swept}

-- ---- bodies

-- A row with a place has the same body over any bytes.
pub body_same : (r : Row) (bytes bytes' d : List ℕ) → eqb r.place 0 ≡ false → row_body r bytes d ≡ row_body r bytes' d
unfolding row_body row_bytes
body_same r bytes bytes' d e = rw e

-- Bytes that stand there already are laid over themselves.
laid-over : (n : ℕ) (st : List ℕ) → n ≤ cell_size → cell_size ≤ length st → take n st ++ drop (length (take n st)) (take cell_size st)
    ≡ take cell_size st
laid-over n st le room =
    let p : length (take n st) ≡ n = simp length-take (omega arith) in
    rw p (ap (λ (x : List ℕ). x ++ drop n (take cell_size st)) (sym (take-take n cell_size st le)) ∙ take-append-drop n (take cell_size st))

body-laid : (r : Row) (st d : List ℕ) → eqb r.cell.used 0 ≡ false → eqb r.place 0 ≡ true → r.cell.length ≤ cell_size → cell_size ≤ length st
    → row_body r st d ++ drop (length (row_body r st d)) (take cell_size st) ≡ take cell_size st
unfolding row_body row_bytes
body-laid r st d e q le room = rw (e, q) (laid-over r.cell.length st le room)

-- A row's slot laid over its cell is the cell after acceptance.
cell-laid : (r : Row) (st d : List ℕ) → Fits d r → cell_size ≤ length st → laid (slot_in r st d) (take cell_size st)
    ≡ flushed_cell r (take cell_size st) d
unfolding laid slot_in is_free flushed_cell is_placed
cell-laid r st d z room = cases (eqb r.cell.used 0)
    (λ t. rw t)
    (λ t. cases (eqb r.place 0)
    (λ u. rw (t, u) (body-laid r st d t u (z.short t) room))
    (λ u. rw (t, u, body_same r st (take cell_size st) d u)))

-- A row that fits has a slot that fits.
slot-sized : (r : Row) (st d : List ℕ) → Fits d r → cell_size ≤ length st → Sized (slot_in r st d)
unfolding slot_in is_free row_body row_bytes is_placed
slot-sized r st d z room = record {
  none = λ e. rw e;
  exact = λ e. rw e (exact e);
  fits = λ e. let p = z.short e in rw (e, exact e) p;
}
  where
    exact : eqb r.cell.used 0 ≡ false → length (take r.cell.length (cond (eqb r.place 0) st (drop (r.place - 1) d))) ≡ r.cell.length
    exact e = cases (eqb r.place 0)
        (λ t. let p = z.short e in rw t (simp length-take (omega arith)))
        (λ t. let p = z.within (rw (e, t)) in rw t (simp (length-take, length-drop) (omega arith)))

-- ---- the store

module _ (d : List ℕ) where
  -- The slots of rows that fit have bodies of their records' lengths, none longer than a cell.
  pub slots-sized : (rs : List Row) (st : List ℕ) → AllFit d rs → length rs * cell_size ≤ length st → AllSized (slots_in rs st d)
  unfolding slots_in
  slots-sized [] st v le s m = absurd (Memᴰ.not-nil m)
  slots-sized (r ∷ rs) st v le s m =
      let w = room-one (length rs) cell_size st le in
      go w.0 (Memᴰ.cases_cons m) (slots-sized rs (drop cell_size st) (λ x i. v x (Memᴰ.tail i)) w.1 s)
    where
      go : cell_size ≤ length st → (s ≡ slot_in r st d) ⊎ Memᴰ s (slots_in rs (drop cell_size st) d)
          → (Memᴰ s (slots_in rs (drop cell_size st) d) → Sized s) → Sized s
      go room (inl q) rest = subst Sized (sym q) (slot-sized r st d (v r (Memᴰ.head refl)) room)
      go room (inr i) rest = rest i

  -- The store with the rows' slots laid over it is the store after acceptance.
  pub store-flushed : (rs : List Row) (st : List ℕ) → AllFit d rs → length rs * cell_size ≤ length st → store_of st (slots_in rs st d)
      ≡ flushed rs st d
  unfolding slots_in store_of flushed
  store-flushed [] st v le = refl
  store-flushed (r ∷ rs) st v le =
      let w = room-one (length rs) cell_size st le in
      rw (cell-laid r st d (v r (Memᴰ.head refl)) w.0, store-flushed rs (drop cell_size st) (λ x i. v x (Memᴰ.tail i)) w.1)

  module _ (rs : List Row) (st : List ℕ) (v : AllFit d rs) (le : length rs * cell_size ≤ length st) where
    room : length (slots_in rs st d) * cell_size ≤ length st
    room = rw (slots-in-length rs st d) le

    -- Acceptance keeps the store's length.
    pub flushed-length : length (flushed rs st d) ≡ length st
    flushed-length = ap length (sym (store-flushed rs st v le)) ∙ store_length (slots_in rs st d) st (slots-sized rs st v le) room

-- ---- an accepted datagram's work, on rows

-- The store that the definition leaves is the store after acceptance.
pub accepted-store : (rs : List Row) (st d : List ℕ) (w : Work) → slots_in rs st d ≡ w.state.slots → AllFit d rs → length rs * cell_size ≤
    length st → store_of st w.state.slots ≡ flushed rs st d
accepted-store rs st d w e v le = ap (store_of st) (sym e) ∙ store-flushed d rs st v le

-- The records that it leaves are those of the rows swept.
pub accepted-records : (rs : List Row) (st d : List ℕ) (w : Work) → slots_in rs st d ≡ w.state.slots → cells_of (end w).slots
    ≡ map cell_of (change_rows (λ c. eqb c.used 4) (λ r. blank_row) rs)
unfolding end
accepted-records rs st d w e = ap (λ (l : List Slot). cells_of (sweep l)) (sym e)
    ∙ (ap cells_of (sym (slots-swept rs st d)) ∙ cells_in (change_rows (λ c. eqb c.used 4) (λ r. blank_row) rs) st d)
