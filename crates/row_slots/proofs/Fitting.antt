-- Rows that fit: as they are made, and after each change.
-- Assumes nothing.
use Prim.Native.Nat.{ℕ, suc, ◌+◌, ◌≤◌}
use mathlib.Core.Path.{◌≡◌, sym, ap, subst}
use mathlib.Core.Logic.{◌⊎◌, inl, inr}
use mathlib.Core.Bool.{Bool, true, false, not}
use mathlib.Core.List.Memᴰ
use mathlib.Core.List.{List, map, Memᴰ}
use native.Mathlib.Omega.{arith}
use lib.Dec.{eqb}
use lib.ListN.{length, set, length-map}
use borrow.Author.Tests.{eqb-true, eq-eqb, ne_eqb, not-true}
use Rattle.base.proofs.Choices.{by_bool, neither, and_left, and_right}
use Rattle.bare.specs.Frame.{Frame}
use Rattle.cells.specs.Ages.{with_age, next_age}
use Rattle.cells.specs.Cell.{Cell, Key, bears, slot_of, mark_cell}
use Rattle.cells.specs.Store.{cell_size}
use Rattle.rows.specs.declared.Row.{Row}
use Rattle.rows.specs.Rows.{cell_of, mark_row, age_row, older_row, change_row, change_rows}
use Rattle.row_slots.specs.Slots.{is_placed, Fits, AllFit}
use Rattle.row_slots.proofs.ListMembers.{mem-set}
use Rattle.row_slots.proofs.Changes.{bears-used}

-- A row that is to be copied is in use and has a place.
pub placed-is : (r : Row) → is_placed r ≡ true → (eqb r.cell.used 0 ≡ false) × (eqb r.place 0 ≡ false)
unfolding is_placed
placed-is r e = (
  not-true (eqb r.cell.used 0) (and_left (not (eqb r.cell.used 0)) _ e),
  not-true (eqb r.place 0)
      (and_right (not (eqb r.cell.used 0)) _ e),
)

-- Rows made from records whose bodies are no longer than a cell, and stand in the store.
pub fit-stored : (d : List ℕ) (rs : List Row) → ((r : Row) → Memᴰ r rs → r.place ≡ 0)
    → ((c : Cell) → Memᴰ c (map cell_of rs) → eqb c.used 0 ≡ false → c.length ≤ cell_size) → AllFit d rs
fit-stored d rs h l r m = record {
  short = λ e. l (cell_of r) (Memᴰ.map cell_of m) e;
  within = λ e. neither (eqb r.place 0) (eq-eqb r.place 0 (h r m)) (placed-is r e).1;
}

-- The row of a frame whose body stands whole in the datagram.
pub fit-frame : (r : Row) (f : Frame) (u t p : ℕ) (d : List ℕ) → cell_of r ≡ (slot_of f u t).cell → r.place ≡ suc p
    → length f.body ≤ cell_size → p + length f.body ≤ length d → Fits d r
unfolding slot_of
fit-frame r f u t p d e q le in' = let n : r.cell.length ≡ length f.body = ap (λ (c : Cell). c.length) e in
    record { short = λ y. omega arith; within = λ y. omega arith }

-- A row set.
pub fit-set : (d : List ℕ) (rs : List Row) (i : ℕ) (r : Row) → Fits d r → AllFit d rs → AllFit d (set rs i r)
fit-set d rs i r z v x m = go (mem-set rs i r x m)
  where
    go : (x ≡ r) ⊎ Memᴰ x rs → Fits d x
    go (inl q) = subst (Fits d) (sym q) z
    go (inr k) = v x k

-- Rows changed.
pub fit-changed : (d : List ℕ) (p : Cell → Bool) (g : Row → Row) (rs : List Row)
    → ((r : Row) → p (cell_of r) ≡ true → Fits d r → Fits d (g r)) → AllFit d rs → AllFit d (change_rows p g rs)
unfolding change_rows change_row
fit-changed d p g rs k v x m =
    let a = Memᴰ.of_map (change_row p g) rs m in
    subst (Fits d) a.2 (by_bool (Fits d) (p (cell_of a.0)) (λ t. k a.0 t (v a.0 a.1)) (λ t. v a.0 a.1))

fit-mark : (d : List ℕ) (u t : ℕ) (r : Row) → eqb r.cell.used 0 ≡ false → Fits d r → Fits d (mark_row u t r)
unfolding mark_row mark_cell is_placed
fit-mark d u t r e z = record {
  short = λ y. z.short e;
  within = λ y. z.within (rw e (and_right (not (eqb u 0)) _ y));
}

-- Rows in use that get another use and turn.
pub fit-marked : (d : List ℕ) (p : Cell → Bool) (u : ℕ) (t : Row → ℕ) (rs : List Row) → ((c : Cell) → p c ≡ true → eqb c.used 0 ≡ false)
    → AllFit d rs → AllFit d (change_rows p (λ r. mark_row u (t r) r) rs)
fit-marked d p u t rs h v = fit-changed d p (λ r. mark_row u (t r) r) rs (λ r e z. fit-mark d u (t r) r (h (cell_of r) e) z) v

-- The rows of a message that get another use and turn.
pub fit-turned : (d : List ℕ) (k : Key) (u t : ℕ) (rs : List Row) → AllFit d rs → AllFit d (change_rows (bears k) (mark_row u t) rs)
fit-turned d k u t rs v = fit-marked d (bears k) u (λ r. t) rs (bears-used k) v

-- The ready rows with other turns.
pub fit-renumbered : (d : List ℕ) (t : Row → ℕ) (rs : List Row) → AllFit d rs
    → AllFit d (change_rows (λ c. eqb c.used 3) (λ r. mark_row 3 (t r) r) rs)
fit-renumbered d t rs v = fit-marked d (λ c. eqb c.used 3) 3 t rs (λ c e. let q = eqb-true c.used 3 e in
    ne_eqb c.used 0 (λ z. omega arith)) v

-- Rows that grow older, and rows that get age 0.
fit-age : (d : List ℕ) (a : ℕ) (r : Row) → Fits d r → Fits d (age_row a r)
unfolding age_row with_age is_placed
fit-age d a r z = record { short = z.short; within = z.within }

pub fit-grown : (d : List ℕ) (p : Cell → Bool) (rs : List Row) → AllFit d rs → AllFit d (change_rows p older_row rs)
unfolding older_row
fit-grown d p rs v = fit-changed d p older_row rs (λ r e z. fit-age d (next_age r.cell.age) r z) v

pub fit-renewed : (d : List ℕ) (p : Cell → Bool) (rs : List Row) → AllFit d rs → AllFit d (change_rows p (age_row 0) rs)
fit-renewed d p rs v = fit-changed d p (age_row 0) rs (λ r e z. fit-age d 0 r z) v

-- A change keeps the number of rows.
pub changed-length : (p : Cell → Bool) (g : Row → Row) (rs : List Row) → length (change_rows p g rs) ≡ length rs
unfolding change_rows
changed-length p g rs = length-map rs (change_row p g)
