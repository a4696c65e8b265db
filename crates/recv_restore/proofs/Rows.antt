-- A row more: what the rows stand for.
-- Assumes nothing.
use Prim.Native.Nat.{ℕ, zero, suc, ◌+◌, ◌-◌, ◌≤◌, ◌<◌}
use mathlib.Core.Path.{◌≡◌, refl, sym, ◌∙◌, ap, subst}
use mathlib.Core.Bool.{cond, true≢false, false≢true}
use mathlib.Core.List.{List, [], ◌∷◌, ◌++◌, append_assoc}
use native.Mathlib.Omega.{arith}
use lib.Dec.{eqb}
use lib.ListN.{length, take, drop, set, replicate, length-append, length-set, length-replicate}
use borrow.Author.Tests.{ne_eqb}
use Rattle.std.specs.Prelude.{Option, Some, None}
use Rattle.base.proofs.Lists.{mem-replicate}
use Rattle.cells.specs.Cell.{Cell, Slot, empty_slot, empty_cell}
use Rattle.cells.specs.Store.{cell_size}
use Rattle.rows.specs.declared.Row.{Row}
use Rattle.rows.specs.Rows.{blank_row}
use Rattle.row_slots.specs.Slots.{row_bytes, row_body, slot_in, slots_in, is_placed, Fits}
use Rattle.row_slots.proofs.Fitting.{fit-set}
use Rattle.recv_restore.specs.Filling.{RowOf, PutRow, Rowed, Fills}
use Rattle.recv_restore.specs.declared.filling.Filled.{Filled}

-- ---- one row
module _ (s : List ℕ) (p : ℕ) (x : Slot) (r : Row) (w : RowOf s p x r) (used : x.cell.used ≡ 0 → ⊥) where
  in-use : r.cell.used ≡ 0 → ⊥
  in-use e = used (sym (ap (λ (c : Cell). c.used) w.cell) ∙ e)

  placed : r.place ≡ 0 → ⊥
  placed e = let q = w.place in omega arith

  slot-is : (bytes : List ℕ) → slot_in r bytes s ≡ x
  unfolding slot_in row_body row_bytes
  slot-is bytes =
      let a = ne_eqb r.cell.used 0 in-use in
      let b = ne_eqb r.place 0 placed in
      let n : r.place - 1 ≡ p = let q = w.place in omega arith in
      let body : cond (eqb r.cell.used 0) [] (take r.cell.length (cond (eqb r.place 0) bytes (drop (r.place - 1) s))) ≡ x.body =
      rw (a, b, n) (ap (λ (m : ℕ). take m (drop p s)) (ap (λ (c : Cell). c.length) w.cell) ∙ sym w.body) in
      λ k. record { cell = w.cell k; body = body k }

  row-fits : x.cell.length ≤ cell_size → p + x.cell.length ≤ length s → Fits s r
  row-fits short within =
      let e = ap (λ (c : Cell). c.length) w.cell in
      let q = w.place in
      record { short = λ _. omega arith; within = λ _. omega arith }

-- ---- rows
pub set-after : {A : Type 0} (l : List A) (y : A) (ys : List A) (x : A) → set (l ++ (y ∷ ys)) (length l) x ≡ l ++ (x ∷ ys)
set-after [] y ys x = refl
set-after {A} (z ∷ l) y ys x = ap {B = List A} (λ r. z ∷ r) (set-after l y ys x)

slots-set : (s : List ℕ) (rs : List Row) (i : ℕ) (r : Row) (x : Slot) → ((bytes : List ℕ) → slot_in r bytes s ≡ x) → (st : List ℕ)
    → slots_in (set rs i r) st s ≡ set (slots_in rs st s) i x
unfolding slots_in
slots-set s [] i r x h st = refl
slots-set s (y ∷ rs) zero r x h st = ap {B = List Slot} (λ z. z ∷ slots_in rs (drop cell_size st) s) (h st)
slots-set s (y ∷ rs) (suc i) r x h st = ap {B = List Slot} (λ l. slot_in y st s ∷ l) (slots-set s rs i r x h (drop cell_size st))

module _ (s : List ℕ) (rows : List Row) (l : List Slot) (v : Rowed s rows l) (p : ℕ) (x : Slot) (r : Row) (w : RowOf s p x r) where
  pub one-more : (x.cell.used ≡ 0 → ⊥) → x.cell.length ≤ cell_size → p + x.cell.length ≤ length s → (i : ℕ) → length l ≡ i → i < length rows
      → Rowed s (set rows i r) (l ++ (x ∷ []))
  one-more used short within i e lt = record {
    is = is;
    fits = fit-set s rows i r (row-fits s p x r w used short within) v.fits;
    few = omega (arith, length-append l (x ∷ []), length-set rows i r);
  }
    where
      behind : ℕ → List Slot
      behind n = replicate n empty_slot

      is : (st : List ℕ) → slots_in (set rows i r) st s ≡ (l ++ (x ∷ [])) ++ replicate
          (length (set rows i r) - length (l ++ (x ∷ []))) empty_slot
      is st =
          let n : length rows - length l ≡ suc (length (set rows i r) - length (l ++ (x ∷ []))) =
          omega (arith, length-append l (x ∷ []), length-set rows i r) in
          slots-set s rows i r x (slot-is s p x r w used) st
          ∙ (ap (λ (m : List Slot). set m i x) (v.is st ∙ ap (λ (m : ℕ). l ++ replicate m empty_slot) n)
          ∙ (ap (λ (m : ℕ). set (l ++ (empty_slot ∷ replicate (length (set rows i r) - length (l ++ (x ∷ []))) empty_slot)) m x) (sym e)
          ∙ (set-after l empty_slot (replicate (length (set rows i r) - length (l ++ (x ∷ []))) empty_slot) x
          ∙ sym (append_assoc l (x ∷ []) (replicate (length (set rows i r) - length (l ++ (x ∷ []))) empty_slot)))))

-- a row put for the slot x
module _ (pace : ℕ) (can : Type 0) (x : Slot) (p end : ℕ) (s : List ℕ) (rows : List Row) (at : Filled) (r : Row) where
  pub put-fills : (rows' : List Row) (f : Option Filled) → can → RowOf s p x r → (x.cell.used ≡ 0 → ⊥) → x.cell.length ≤ cell_size
      → p + x.cell.length ≤ length s → (e : ℕ) → e ≡ end → end ≤ at.place + pace → PutRow rows at r e rows' f
      → Fills pace can (x ∷ []) end s rows at rows' f
  unfolding PutRow Fills
  put-fills rows' None c w used short within e q near le = λ _ room. omega arith
  put-fills rows' (Some f) c w used short within e q near h =
      let lt = h.0 in
      let u : f.used ≡ at.used + 1 = ap (λ (z : Filled). z.used) h.1.0 in
      let pl : f.place ≡ e = ap (λ (z : Filled). z.place) h.1.0 in
      record {
        may = c;
        used = omega arith;
        room = omega arith;
        many = ap length h.1.1 ∙ length-set rows at.used r;
        place = pl ∙ q;
        near = omega arith;
        rowed = λ l le v. rw h.1.1 (one-more s rows l v p x r w used short within at.used le lt);
      }

-- rows that are all blank
blank-rows : (s : List ℕ) (n : ℕ) (st : List ℕ) → slots_in (replicate n blank_row) st s ≡ replicate n empty_slot
unfolding slots_in slot_in row_body blank_row empty_slot empty_cell
blank-rows s zero st = refl
blank-rows s (suc n) st = ap {B = List Slot} (λ l. empty_slot ∷ l) (blank-rows s n (drop cell_size st))

blank-fits : (s : List ℕ) → Fits s blank_row
unfolding blank_row empty_cell is_placed
blank-fits s = record { short = λ e. absurd (true≢false e); within = λ e. absurd (false≢true e) }

pub rowed-none : (s : List ℕ) (n : ℕ) → Rowed s (replicate n blank_row) []
rowed-none s n = record {
  is = λ st. blank-rows s n st ∙ ap (λ (m : ℕ). replicate m empty_slot) (sym (length-replicate n blank_row) ∙ less);
  fits = λ r m. subst (Fits s) (sym (mem-replicate blank_row r n m)) (blank-fits s);
  few = omega arith;
}
  where
    less : length (replicate n blank_row) ≡ length (replicate n blank_row) - 0
    less = omega arith

-- none, where an entry cannot be restored
pub unfit : (pace : ℕ) (can : Type 0) (slots : List Slot) (end : ℕ) (s : List ℕ) (rows : List Row) (at : Filled) (rows' : List Row)
    → (can → ⊥)
    → Fills pace can slots end s rows at rows' None
unfolding Fills
unfit pace can slots end s rows at rows' h = λ c room. h c
