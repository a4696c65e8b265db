-- Changes of the rows, as the code makes them, as changes of the slots.
-- Assumes nothing.
use Prim.Native.Nat.{ℕ, suc, ◌≤◌, ◌<◌}
use mathlib.Core.Path.{◌≡◌, refl, sym, ◌∙◌, ap}
use mathlib.Core.Bool.{Bool, true, false, true≢false}
use mathlib.Core.List.{List, [], ◌∷◌, map}
use native.Mathlib.Omega.{arith}
use borrow.Author.Tests.{lt-ltb, le-ltb}
use Rattle.std.proofs.lemmas.List.{set_past}
use lib.ListN.{length, take, drop, set, length-take, length-drop}
use Rattle.base.specs.Limits.{max_cells}
use Rattle.base.specs.Lists.{any, count_of}
use Rattle.base.proofs.Choices.{by_bool, cases}
use Rattle.base.proofs.Counts.{count-length}
use Rattle.frame.specs.declared.Placed.{Placed}
use Rattle.cells.specs.Cell.{Cell, Slot, Key, open_as, bears, is_free, put_slot, slot_of, turn_to}
use Rattle.cells.specs.Ages.{with_age, renewed}
use Rattle.cells.specs.Records.{unused_at}
use Rattle.cells.specs.Store.{cell_size}
use Rattle.rows.specs.declared.Row.{Row}
use Rattle.rows.specs.Rows.{cell_of, cells_in, mark_row, age_row, change_row, change_rows}
use Rattle.rows.proofs.Rows.{cells-length}
use Rattle.row_slots.specs.Slots.{slots_in}
use Rattle.row_slots.proofs.Changes.{slots-put, slots-turned, slots-renewed}
use Rattle.row_slots.proofs.Fitting.{fit-frame, fit-set, fit-turned, fit-renewed}
use Rattle.row_slots.proofs.Tests.{room-below}
use Rattle.receiver.specs.Receive.{frame_in}
use Rattle.recv_steps.specs.Placing.{row_for, Stands, ReadablePlaced}
use Rattle.recv_steps.specs.Moves.{Changes}

-- ---- a frame's row

module _ (d : List ℕ) (p : Placed) (s : Stands d p) where
  body-long : length (frame_in d p).body ≡ p.len
  unfolding frame_in
  body-long = simp (length-take, length-drop) (omega arith)

  body_is : (frame_in d p).body ≡ take (length (frame_in d p).body) (drop p.start d)
  unfolding frame_in
  body_is = rw body-long

  -- The row of a frame has the record of the frame's slot.
  pub row-cell : (u t : ℕ) → cell_of (row_for p u t) ≡ (slot_of (frame_in d p) u t).cell
  unfolding row_for slot_of
  row-cell u t = rw body-long (unfold frame_in in refl)

  row-place : (u t : ℕ) → (row_for p u t).place ≡ suc p.start
  unfolding row_for
  row-place u t = omega arith

  -- A frame's row set at the lowest-numbered unused one.
  pub put-changes : (rs rs' : List Row) (u t : ℕ) → ReadablePlaced p → 0 < u → rs' ≡ set rs (unused_at (map cell_of rs)) (row_for p u t)
      → Changes d (put_slot (slot_of (frame_in d p) u t)) rs rs'
  unfolding cell_size
  put-changes rs rs' u t ok pos e = record {
    is = λ store. ap (λ (l : List Row). slots_in l store d) e ∙ slots-put (row_for p u t) (frame_in d p) u t p.start rs store d
        (λ z. omega arith) (row-cell u t) (row-place u t) body_is;
    fits = λ v. rw e (fit-set d rs (unused_at (map cell_of rs)) (row_for p u t) (fit-frame (row_for p u t) (frame_in d p) u t p.start d
        (row-cell u t) (row-place u t) (short) (rw body-long s)) v);
  }
    where
      short : length (frame_in d p).body ≤ cell_size
      short = let w = ok.within in rw body-long (omega arith)

-- As the code finds it: the row is put where there is one.
module _ (rs : List Row) (p : Placed) (u t : ℕ) (ok : ReadablePlaced p) (pos : 0 < u) where
  pub frame_put : {r : Row} {i : ℕ} → r ≡ row_for p u t → i ≡ unused_at (cells_in rs) → (d : List ℕ) → Stands d p
      → Changes d (put_slot (slot_of (frame_in d p) u t)) rs (set rs i r)
  unfolding cells_in
  frame_put {r} {i} er ei d s = put-changes d p s rs (set rs i r) u t ok pos (rw (er, ei))

  pub frame_left : unused_at (cells_in rs) ≡ length rs → (d : List ℕ) → Stands d p → Changes d (put_slot (slot_of (frame_in d p) u t)) rs rs
  unfolding cells_in
  frame_left e d s = put-changes d p s rs rs u t ok pos (sym (set_past rs _ (row_for p u t) (omega arith)))

-- ---- the rows of a message

pub turn-changes : (d : List ℕ) (k : Key) (u t : ℕ) (rs rs' : List Row) → 0 < u → rs' ≡ change_rows (bears k) (mark_row u t) rs
    → Changes d (turn_to k u t) rs rs'
turn-changes d k u t rs rs' pos e = record {
  is = λ store. ap (λ (l : List Row). slots_in l store d) e ∙ slots-turned k u t rs store d (λ z. omega arith);
  fits = λ v. rw e (fit-turned d k u t rs v);
}

-- No more rows pass a test than cells may be.
pub count_few : (p : Cell → Bool) (rs : List Row) {n : ℕ} → length rs ≤ max_cells → n ≡ count_of p (cells_in rs) → n ≤ max_cells
count_few p rs h e = omega (arith, count-length p (cells_in rs), cells-length rs)

-- A test that looks at no age passes as often when some rows got another.
pub aged-count : (p q : Cell → Bool) (a : ℕ) → ((c : Cell) → q (with_age a c) ≡ q c) → (rs : List Row)
    → count_of q (cells_in (change_rows p (age_row a) rs)) ≡ count_of q (cells_in rs)
unfolding count_of cells_in change_rows change_row age_row
aged-count p q a e [] = refl
aged-count p q a e (r ∷ rs) =
    let t : q (cell_of (change_row p (age_row a) r)) ≡ q (cell_of r) =
    by_bool (λ (x : Row). q (cell_of x) ≡ q (cell_of r)) (p (cell_of r)) (λ y. e (cell_of r)) (λ y. refl) in
    rw (t, aged-count p q a e rs)

-- The rows of an open message get age 0.
pub renew-changes : (d : List ℕ) (id : ℕ) (rs rs' : List Row) → rs' ≡ change_rows (bears (open_as id)) (age_row 0) rs
    → Changes d (renewed id) rs rs'
renew-changes d id rs rs' e = record {
  is = λ store. ap (λ (l : List Row). slots_in l store d) e ∙ slots-renewed id rs store d;
  fits = λ v. rw e (fit-renewed d (bears (open_as id)) rs v);
}

-- ---- room

-- Where no slot is unused, none is put.
pub put-none : (x : Slot) (l : List Slot) → any is_free l ≡ false → put_slot x l ≡ l
unfolding put_slot any
put-none x [] e = refl
put-none x (s ∷ l) e = cases (is_free s) (λ t. absurd (true≢false (rw t at e)))
    (λ t. rw t (ap (λ (m : List Slot). s ∷ m) (put-none x l (rw t at e))))

-- There is an unused slot exactly if the lowest-numbered unused row is one of the rows.
module _ (rs : List Row) where
  pub room_there : {i : ℕ} → i < length rs → i ≡ unused_at (cells_in rs) → (store d : List ℕ) → true ≡ any is_free (slots_in rs store d)
  unfolding cells_in
  room_there lt e store d = sym (rw (← e) (lt-ltb _ _ lt)) ∙ sym (room-below rs store d)

  pub room_none : unused_at (cells_in rs) ≡ length rs → (store d : List ℕ) → false ≡ any is_free (slots_in rs store d)
  unfolding cells_in
  room_none e store d = sym (le-ltb _ _ (omega arith)) ∙ sym (room-below rs store d)

-- what `put_frame` needs
pub ruleset puts = (frame_put, frame_left, room_there, room_none)
