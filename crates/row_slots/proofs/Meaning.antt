-- The slots of rows are the rows' records with their bodies.
-- Assumes nothing.
use Prim.Native.Nat.{ℕ, suc}
use mathlib.Core.Path.{◌≡◌, refl, ap}
use mathlib.Core.List.{List, [], ◌∷◌, map, Memᴰ}
use lib.ListN.{length, drop}
use borrow.Author.Tests.{eq-eqb}
use Rattle.cells.specs.Cell.{Cell}
use Rattle.cells.specs.Store.{cell_size, cell_body, slots_of, cells_of}
use Rattle.rows.specs.declared.Row.{Row}
use Rattle.rows.specs.Rows.{cell_of}
use Rattle.row_slots.specs.Slots.{row_bytes, row_body, slot_in, slots_in}

-- The records of the rows' slots are the rows' records.
pub cells_in : (rs : List Row) (st d : List ℕ) → cells_of (slots_in rs st d) ≡ map cell_of rs
unfolding cells_of slots_in slot_in
cells_in [] st d = refl
cells_in (r ∷ rs) st d = ap {B = List Cell} (λ cs. cell_of r ∷ cs) (cells_in rs (drop cell_size st) d)

-- There are as many slots as rows.
pub slots-in-length : (rs : List Row) (st d : List ℕ) → length (slots_in rs st d) ≡ length rs
unfolding slots_in
slots-in-length [] st d = refl
slots-in-length (r ∷ rs) st d = ap suc (slots-in-length rs (drop cell_size st) d)

-- A row whose place is 0 has the body that its record has in the store.
pub body-stored : (r : Row) (st d : List ℕ) → r.place ≡ 0 → row_body r st d ≡ cell_body (cell_of r) st
unfolding row_body row_bytes cell_body
body-stored r st d e = rw (eq-eqb r.place 0 e)

-- Where every row's place is 0, the rows' slots are those of their records and the store.
pub slots-stored : (rs : List Row) (st d : List ℕ) → ((r : Row) → Memᴰ r rs → r.place ≡ 0) → slots_in rs st d ≡ slots_of (map cell_of rs)
    st
unfolding slots_in slot_in slots_of
slots-stored [] st d h = refl
slots-stored (r ∷ rs) st d h =
    let b = body-stored r st d (h r (Memᴰ.head refl)) in
    let e = slots-stored rs (drop cell_size st) d (λ x m. h x (Memᴰ.tail m)) in
    rw (b, e)
