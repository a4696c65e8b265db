-- The used rows' entries, sorted, are the used cells in the order of their ranks.
-- Assumes nothing.
use Prim.Native.Nat.{ℕ, zero, suc, ◌+◌, ◌*◌, ◌/◌, ◌≤◌, ◌<◌, min}
use mathlib.Core.Path.{◌≡◌, refl, sym, ◌∙◌, ap}
use mathlib.Core.Logic.{◌⊎◌, inl, inr}
use mathlib.Core.Bool.{cond, not}
use mathlib.Core.List.Memᴰ
use mathlib.Core.List.{List, [], ◌∷◌, ◌++◌, map, Memᴰ}
use native.Mathlib.Omega.{arith}
use lib.Dec.{eqb}
use lib.ListN.{length, drop}
use lib.Seq.{drop-drop}
use borrow.Author.Tests.{eqb-true, eqb-false, ne_eqb}
use Rattle.base.specs.Limits.{max_cells, cell_bytes}
use Rattle.base.specs.Lists.{only}
use Rattle.base.specs.Put.{and_then}
use Rattle.base.specs.Sort.{sort_by}
use Rattle.base.proofs.Choices.{cases}
use Rattle.base.proofs.Ifs.{eq_yes, eq_no}
use Rattle.base.proofs.Sorts.{Apart}
use Rattle.cells.specs.Cell.{Cell, Slot, is_free}
use Rattle.cells.specs.Store.{cell_size, cell_body, slots_of}
use Rattle.rows.specs.declared.Row.{Row}
use Rattle.rows.specs.Rows.{cells_in, whole_row}
use Rattle.recv_save.specs.Slots.{rank, entry_of, own_entry, entries_from, row_number, body_at, ordered}
use Rattle.recv_save.proofs.Orders.{apart-unmap, map-sorted}
use Rattle.recv_save.proofs.Ranks.{rank_of, is_used, in_order}

-- the slot of an entry's row
unfoldable pub slot_by : List Row → List ℕ → ℕ → Slot
slot_by rows store e =
    let c = (whole_row rows (row_number e)).cell in
    record { cell = c; body = body_at store (row_number e) c }

entry-row : (i : ℕ) (c : Cell) → i < max_cells → row_number (entry_of i c) ≡ i
unfolding entry_of
entry-row i c h = omega arith

entry-rank : (i : ℕ) (c : Cell) → i < max_cells → entry_of i c / max_cells ≡ rank c
unfolding entry_of
entry-rank i c h = omega arith

pub own-none : (i : ℕ) (c : Cell) → c.used ≡ 0 → own_entry i c ≡ []
unfolding own_entry
own-none i c u = sym (eq_yes c.used 0 [] [] (entry_of i c ∷ []) u refl)

pub own-some : (i : ℕ) (c : Cell) → (c.used ≡ 0 → ⊥) → own_entry i c ≡ entry_of i c ∷ []
unfolding own_entry
own-some i c n = sym (eq_no c.used 0 (entry_of i c ∷ []) [] (entry_of i c ∷ []) n refl)

-- the first of the rows from i on is row i
drop-first : (rows : List Row) (i : ℕ) (r : Row) (rs : List Row) → drop i rows ≡ r ∷ rs → whole_row rows i ≡ r
drop-first [] zero r rs e = absurd cc
drop-first [] (suc i) r rs e = absurd cc
drop-first (x ∷ rows) zero r rs e = cc
drop-first (x ∷ rows) (suc i) r rs e = drop-first rows i r rs e

drop-rest : (rows : List Row) (i : ℕ) (r : Row) (rs : List Row) → drop i rows ≡ r ∷ rs → drop (suc i) rows ≡ rs
drop-rest [] zero r rs e = absurd cc
drop-rest [] (suc i) r rs e = absurd cc
drop-rest (x ∷ rows) zero r rs e = cc
drop-rest (x ∷ rows) (suc i) r rs e = drop-rest rows i r rs e

module _ (rows : List Row) (store : List ℕ) where
  slot-is : (i : ℕ) (r : Row) → i < max_cells → whole_row rows i ≡ r → (r.cell.used ≡ 0 → ⊥) → r.cell.length ≤ cell_bytes
      → slot_by rows store (entry_of i r.cell) ≡ record { cell = r.cell; body = cell_body r.cell (drop (i * cell_bytes) store) }
  unfolding slot_by body_at cell_body
  slot-is i r h w n le =
      let m : min r.cell.length cell_bytes ≡ r.cell.length = omega arith in
      rw (entry-row i r.cell h, w, m, ne_eqb r.cell.used 0 n)

  next-store : (i : ℕ) → drop cell_size (drop (i * cell_bytes) store) ≡ drop (suc i * cell_bytes) store
  unfolding cell_size
  next-store i = drop-drop cell_bytes (i * cell_bytes) store ∙ ap (λ (n : ℕ). drop n store) (omega arith)

  pub entries-slots : (i : ℕ) (rs : List Row) → drop i rows ≡ rs → i + length rs ≤ max_cells
      → ((r : Row) → Memᴰ r rs → (r.cell.used ≡ 0 → ⊥) → r.cell.length ≤ cell_bytes)
      → map (slot_by rows store) (entries_from i rs) ≡ only is_used (slots_of (cells_in rs) (drop (i * cell_bytes) store))
  unfolding entries_from and_then cells_in slots_of only is_free
  entries-slots i [] e h short = refl
  entries-slots i (r ∷ rs) e h short =
      step (rw (next-store i) (entries-slots (suc i) rs (drop-rest rows i r rs e) (omega arith) (λ r' m. short r' (Memᴰ.tail m))))
    where
      step : map (slot_by rows store) (entries_from (suc i) rs)
          ≡ only is_used (slots_of (cells_in rs) (drop cell_size (drop (i * cell_bytes) store)))
          → map (slot_by rows store) (own_entry i r.cell ++ entries_from (suc i) rs)
          ≡ cond (not (eqb r.cell.used 0))
          (record { cell = r.cell; body = cell_body r.cell (drop (i * cell_bytes) store) }
          ∷ only is_used (slots_of (cells_in rs) (drop cell_size (drop (i * cell_bytes) store))))
          (only is_used (slots_of (cells_in rs) (drop cell_size (drop (i * cell_bytes) store))))
      step rest = cases (eqb r.cell.used 0)
          (λ y. rw (own-none i r.cell (eqb-true r.cell.used 0 y), y) rest)
          (λ y. let n : r.cell.used ≡ 0 → ⊥ = eqb-false r.cell.used 0 y in
          rw (own-some i r.cell n, slot-is i r (omega arith) (drop-first rows i r rs e) n (short r (Memᴰ.head refl) n), y)
          (ap {B = List Slot} (λ z. record { cell = r.cell; body = cell_body r.cell (drop (i * cell_bytes) store) } ∷ z) rest))

  entries-rank : (i : ℕ) (rs : List Row) → drop i rows ≡ rs → i + length rs ≤ max_cells → (e : ℕ) → Memᴰ e (entries_from i rs)
      → e / max_cells ≡ rank_of (slot_by rows store e)
  unfolding entries_from and_then slot_by
  entries-rank i [] d h e m = absurd (Memᴰ.not-nil m)
  entries-rank i (r ∷ rs) d h e m = go (Memᴰ.append_cases (own_entry i r.cell) m)
      (λ m'. entries-rank (suc i) rs (drop-rest rows i r rs d) (omega arith) e m')
    where
      own : Memᴰ e (own_entry i r.cell) → e / max_cells ≡ rank (whole_row rows (row_number e)).cell
      own m = cases (eqb r.cell.used 0)
          (λ y. absurd (Memᴰ.not-nil (rw (own-none i r.cell (eqb-true r.cell.used 0 y)) at m)))
          (λ y. let q : e ≡ entry_of i r.cell = Memᴰ.eq_of_singleton (rw (own-some i r.cell (eqb-false r.cell.used 0 y)) at m) in
          rw (q, entry-row i r.cell (omega arith), drop-first rows i r rs d, entry-rank i r.cell (omega arith)))

      go : Memᴰ e (own_entry i r.cell) ⊎ Memᴰ e (entries_from (suc i) rs)
          → (Memᴰ e (entries_from (suc i) rs) → e / max_cells ≡ rank (whole_row rows (row_number e)).cell)
          → e / max_cells ≡ rank (whole_row rows (row_number e)).cell
      go (inl m) rest = own m
      go (inr m) rest = rest m

  module _ (few : length rows ≤ max_cells) (short : (r : Row) → Memᴰ r rows → (r.cell.used ≡ 0 → ⊥) → r.cell.length ≤ cell_bytes)
      (a : Apart rank_of (only is_used (slots_of (cells_in rows) store))) where
    all-slots : map (slot_by rows store) (entries_from 0 rows) ≡ only is_used (slots_of (cells_in rows) store)
    all-slots = entries-slots 0 rows refl (omega arith) short

    climbs : (x y : ℕ) → Memᴰ x (entries_from 0 rows) → Memᴰ y (entries_from 0 rows)
        → rank_of (slot_by rows store x) < rank_of (slot_by rows store y) → x < y
    climbs x y m n lt =
        let p = entries-rank 0 rows refl (omega arith) x m in
        let q = entries-rank 0 rows refl (omega arith) y n in
        omega arith

    pub ordered-slots : map (slot_by rows store) (ordered rows) ≡ in_order (slots_of (cells_in rows) store)
    unfolding ordered in_order
    ordered-slots =
        let b : Apart (λ (e : ℕ). rank_of (slot_by rows store e)) (entries_from 0 rows) =
        apart-unmap (slot_by rows store) rank_of (entries_from 0 rows) (rw all-slots a) in
        map-sorted (slot_by rows store) rank_of (entries_from 0 rows) climbs b ∙ ap (sort_by rank_of) all-slots
