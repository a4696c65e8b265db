-- Every change of rows is the change of slots that the receiver's definitions make.
-- Assumes nothing.
use Prim.Native.Nat.{ℕ, zero, suc, ◌-◌}
use mathlib.Core.Path.{◌≡◌, refl, sym, ◌∙◌, ap}
use mathlib.Core.Bool.{Bool, true, false, cond}
use mathlib.Core.List.{List, [], ◌∷◌, map}
use native.Mathlib.Omega.{arith}
use lib.Dec.{eqb}
use lib.ListN.{length, take, drop, set}
use borrow.Author.Tests.{eqb-true, ne_eqb}
use Rattle.base.proofs.Choices.{cases}
use Rattle.base.specs.Lists.{count_of}
use Rattle.bare.specs.Frame.{Frame}
use Rattle.cells.specs.Ages.{with_age, aged, next_age, grown, renewed}
use Rattle.cells.specs.Cell.{Cell, Slot, Key, open_as, bears, of, is_free, is_open, is_ready, mark, empty_slot, change, map_if, turn_to}
use Rattle.cells.specs.Cell.{put_slot, slot_of, mark_cell}
use Rattle.cells.specs.Cell.{empty_cell}
use Rattle.cells.specs.Records.{unused_at, before_cell}
use Rattle.cells.specs.Store.{cell_size}
use Rattle.cells.specs.Datagram.{rank, renumber, sweep}
use Rattle.cells.proofs.Records.{rank-cells}
use Rattle.rows.specs.declared.Row.{Row}
use Rattle.rows.specs.Rows.{cell_of, mark_row, age_row, older_row, blank_row, change_row, change_rows}
use Rattle.row_slots.specs.Slots.{row_bytes, row_body, slot_in, slots_in}
use Rattle.row_slots.proofs.Meaning.{cells_in}
use Rattle.cells.proofs.Keys.{key-used}
use Rattle.cells.proofs.Places.{put-set}

-- ---- a row set

-- A row that means the slot x over any bytes: where it is set, x is.
pub slots_set : (r : Row) (x : Slot) (d : List ℕ) → ((bytes : List ℕ) → slot_in r bytes d ≡ x) → (rs : List Row) (i : ℕ) (st : List ℕ)
    → slots_in (set rs i r) st d ≡ set (slots_in rs st d) i x
unfolding slots_in
slots_set r x d e [] i st = refl
slots_set r x d e (y ∷ rs) zero st = rw (e st)
slots_set r x d e (y ∷ rs) (suc i) st = ap {B = List Slot} (λ l. slot_in y st d ∷ l) (slots_set r x d e rs i (drop cell_size st))

-- A used row with a place has the datagram's bytes from that place on.
pub body-placed : (r : Row) (p : ℕ) (bytes d : List ℕ) → eqb r.cell.used 0 ≡ false → r.place ≡ suc p → row_body r bytes d
    ≡ take r.cell.length (drop p d)
unfolding row_body row_bytes
body-placed r p bytes d e q = rw e (ap (take r.cell.length) (begins r.place q))
  where
    begins : (n : ℕ) → n ≡ suc p → cond (eqb n 0) bytes (drop (n - 1) d) ≡ drop p d
    begins n q = let m : n - 1 ≡ p = omega arith in rw (ne_eqb n 0 (λ z. omega arith), m)

-- The row of a frame whose body stands at place p of the datagram means the frame's slot.
pub frame-in : (r : Row) (f : Frame) (u t p : ℕ) (d : List ℕ) → (u ≡ 0 → ⊥) → cell_of r ≡ (slot_of f u t).cell → r.place ≡ suc p → f.body
    ≡ take (length f.body) (drop p d)
    → (bytes : List ℕ) → slot_in r bytes d ≡ slot_of f u t
unfolding slot_in slot_of
frame-in r f u t p d n e q b bytes = λ i. record { cell = e i; body = body i }
  where
    used : r.cell.used ≡ u
    used = ap (λ (c : Cell). c.used) e

    body : row_body r bytes d ≡ f.body
    body = body-placed r p bytes d (ne_eqb r.cell.used 0 (λ z. n (sym used ∙ z))) q
        ∙ (ap (λ (m : ℕ). take m (drop p d)) (ap (λ (c : Cell). c.length) e) ∙ sym b)

-- A frame's row set at the lowest-numbered unused row is the frame's slot put. (Where no row is unused, neither changes anything.)
pub slots-put : (r : Row) (f : Frame) (u t p : ℕ) (rs : List Row) (st d : List ℕ) → (u ≡ 0 → ⊥) → cell_of r ≡ (slot_of f u t).cell → r.place
    ≡ suc p → f.body ≡ take (length f.body) (drop p d)
    → slots_in (set rs (unused_at (map cell_of rs)) r) st d ≡ put_slot (slot_of f u t) (slots_in rs st d)
slots-put r f u t p rs st d n e q b =
    slots_set r (slot_of f u t) d (frame-in r f u t p d n e q b) rs (unused_at (map cell_of rs)) st
    ∙ rw (← cells_in rs st d) (sym (put-set (slot_of f u t) (slots_in rs st d)))

-- ---- rows changed

-- A row changed, where its record passes, as the slot that it means.
change-in : (p : Cell → Bool) (g : Row → Row) (q : Slot → Bool) (h : Slot → Slot) (r : Row) (bytes d : List ℕ) → q (slot_in r bytes d)
    ≡ p (cell_of r)
    → (p (cell_of r) ≡ true → slot_in (g r) bytes d ≡ h (slot_in r bytes d))
    → slot_in (change_row p g r) bytes d ≡ change q h (slot_in r bytes d)
unfolding change_row change
change-in p g q h r bytes d e f = cases (p (cell_of r)) (λ t. rw (e, t) (f t)) (λ t. rw (e, t))

-- The record and the turn of a row's slot are the row's.
record-in : (r : Row) (bytes d : List ℕ) → (slot_in r bytes d).cell ≡ cell_of r
unfolding slot_in
record-in r bytes d = refl

turn_in : (r : Row) (bytes d : List ℕ) → (slot_in r bytes d).cell.turn ≡ r.cell.turn
unfolding slot_in
turn_in r bytes d = refl

-- A change of the rows whose records pass, that means the change h of a slot, is that change of the slots that pass.
pub slots-changed : (p : Cell → Bool) (g : Row → Row) (q : Slot → Bool) (h : Slot → Slot) (d : List ℕ) → ((s : Slot) → q s ≡ p s.cell)
    → ((r : Row) (bytes : List ℕ) → p (cell_of r) ≡ true → slot_in (g r) bytes d ≡ h (slot_in r bytes d)) → (rs : List Row) (st : List ℕ)
    → slots_in (change_rows p g rs) st d ≡ map_if q h (slots_in rs st d)
unfolding slots_in change_rows map_if
slots-changed p g q h d e f [] st = refl
slots-changed p g q h d e f (r ∷ rs) st =
    let a = change-in p g q h r st d (e (slot_in r st d) ∙ ap p (record-in r st d)) (f r st) in
    let b = slots-changed p g q h d e f rs (drop cell_size st) in
    cc (a, b)

-- A used row that gets another use, not 0, and another turn.
pub mark-in : (u t : ℕ) (r : Row) (bytes d : List ℕ) → (u ≡ 0 → ⊥) → eqb (cell_of r).used 0 ≡ false → slot_in (mark_row u t r) bytes d
    ≡ mark u t (slot_in r bytes d)
unfolding slot_in mark_row mark mark_cell row_body row_bytes
mark-in u t r bytes d n e = rw (ne_eqb u 0 n, e)

-- A row that gets another age.
age-in : (a : ℕ) (r : Row) (bytes d : List ℕ) → slot_in (age_row a r) bytes d ≡ aged a (slot_in r bytes d)
unfolding slot_in age_row aged with_age row_body row_bytes
age-in a r bytes d = refl

-- The row of an unused cell.
pub blank-in : (bytes d : List ℕ) → slot_in blank_row bytes d ≡ empty_slot
unfolding slot_in blank_row empty_slot empty_cell row_body
blank-in bytes d = refl

-- A cell of a message is in use.
pub bears-used : (k : Key) (c : Cell) → bears k c ≡ true → eqb c.used 0 ≡ false
unfolding of is_free
bears-used k c e = key-used k (record { cell = c; body = [] }) e

-- The rows of a message get another use, not 0, and another turn.
pub slots-turned : (k : Key) (u t : ℕ) (rs : List Row) (st d : List ℕ) → (u ≡ 0 → ⊥)
    → slots_in (change_rows (bears k) (mark_row u t) rs) st d
    ≡ turn_to k u t (slots_in rs st d)
unfolding turn_to of
slots-turned k u t rs st d n = slots-changed (bears k) (mark_row u t) (of k) (mark u t) d (λ s. refl)
    (λ r bytes e. mark-in u t r bytes d n (bears-used k (cell_of r) e)) rs st

-- The rows of open ids grow older by a datagram.
pub slots-grown : (rs : List Row) (st d : List ℕ) → slots_in (change_rows (λ c. eqb c.used 1) older_row rs) st d ≡ grown (slots_in rs st d)
unfolding grown is_open older_row
slots-grown rs st d = slots-changed (λ c. eqb c.used 1) older_row is_open (λ s. aged (next_age s.cell.age) s) d (λ s. refl)
    (λ r bytes e. (unfold slot_in in age-in (next_age r.cell.age) r bytes d)) rs st

-- The rows of an id get age 0.
pub slots-renewed : (id : ℕ) (rs : List Row) (st d : List ℕ) → slots_in (change_rows (bears (open_as id)) (age_row 0) rs) st d
    ≡ renewed id (slots_in rs st d)
unfolding renewed of
slots-renewed id rs st d = slots-changed (bears (open_as id)) (age_row 0) (of (open_as id)) (aged 0) d (λ s. refl)
    (λ r bytes e. age-in 0 r bytes d) rs st

-- The rows of messages that were dropped become unused after the datagram.
pub slots-swept : (rs : List Row) (st d : List ℕ) → slots_in (change_rows (λ c. eqb c.used 4) (λ r. blank_row) rs) st d
    ≡ sweep (slots_in rs st d)
unfolding sweep
slots-swept rs st d = slots-changed (λ c. eqb c.used 4) (λ r. blank_row) (λ s. eqb s.cell.used 4) (λ s. empty_slot) d (λ s. refl)
    (λ r bytes e. blank-in bytes d) rs st

-- The turns of the ready rows become 0, 1, 2 .. in their order.
pub slots-renumbered : (rs : List Row) (st d : List ℕ) → slots_in
    (change_rows (λ c. eqb c.used 3) (λ r. mark_row 3 (count_of (before_cell r.cell.turn) (map cell_of rs)) r) rs) st d
    ≡ renumber (slots_in rs st d)
unfolding renumber is_ready
slots-renumbered rs st d =
    slots-changed (λ c. eqb c.used 3) (λ r. mark_row 3 (count_of (before_cell r.cell.turn) (map cell_of rs)) r) is_ready
    (λ s. mark 3 (rank (slots_in rs st d) s.cell.turn) s) d (λ s. refl) one rs st
  where
    ranked : (t : ℕ) → count_of (before_cell t) (map cell_of rs) ≡ rank (slots_in rs st d) t
    ranked t = ap (count_of (before_cell t)) (sym (cells_in rs st d)) ∙ sym (rank-cells (slots_in rs st d) t)

    one : (r : Row) (bytes : List ℕ) → eqb (cell_of r).used 3 ≡ true
        → slot_in (mark_row 3 (count_of (before_cell r.cell.turn) (map cell_of rs)) r)
        bytes d ≡ mark 3 (rank (slots_in rs st d) (slot_in r bytes d).cell.turn) (slot_in r bytes d)
    one r bytes e =
        let q = eqb-true (cell_of r).used 3 e in
        mark-in 3 (count_of (before_cell r.cell.turn) (map cell_of rs)) r bytes d (λ z. omega arith)
        (ne_eqb (cell_of r).used 0 (λ z. omega arith))
        ∙ ap (λ (n : ℕ). mark 3 n (slot_in r bytes d)) (ranked r.cell.turn ∙ ap (rank (slots_in rs st d)) (sym (turn_in r bytes d)))
