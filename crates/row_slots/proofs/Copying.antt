-- The store after acceptance, row by row: the invariant of a loop that copies the bodies.
-- Assumes nothing.
use Prim.Native.Nat.{ℕ, zero, suc, ◌+◌, ◌*◌, ◌-◌, ◌≤◌, ◌<◌}
use mathlib.Core.Path.{◌≡◌, refl, sym, ◌∙◌, ap}
use mathlib.Core.Bool.{true, false}
use mathlib.Core.List.Memᴰ
use mathlib.Core.List.{List, [], ◌∷◌, ◌++◌, append_assoc}
use native.Mathlib.Omega.{arith}
use native.Mathlib.Nat.{suc-mul, mul-le-mul_right}
use lib.Dec.{eqb}
use lib.ListN.{length, take, drop, get_or, length-append, length-take, length-drop, take-append-drop}
use lib.Seq.{drop-append-le, take-append-add, drop-append-add}
use borrow.Author.Tests.{eq-eqb, ne_eqb}
use Rattle.base.specs.Put.{put}
use Rattle.base.proofs.Puts.{put-split}
use Rattle.base.proofs.Choices.{cases}
use Rattle.cells.specs.Store.{cell_size}
use Rattle.cells.proofs.Store.{room-one, first-length}
use Rattle.rows.specs.declared.Row.{Row}
use Rattle.row_slots.specs.Slots.{row_bytes, row_body, is_placed, flushed_cell, flushed, flushed_to, Fits, AllFit}
use Rattle.row_slots.proofs.ListMembers.{mem-take, mem-get_d}
use Rattle.row_slots.proofs.Fitting.{placed-is}
use Rattle.row_slots.proofs.Stored.{flushed-length}

-- ---- one body laid

-- A body laid over bytes from place a on.
overlay : List ℕ → ℕ → List ℕ → List ℕ
overlay bytes a body = take a bytes ++ (body ++ drop (a + length body) bytes)

overlay-here : (bytes back body : List ℕ) → length body ≤ length bytes → (body ++ drop (length body) bytes) ++ back
    ≡ overlay (bytes ++ back) 0 body
unfolding overlay
overlay-here bytes back body le = let e : 0 + length body ≡ length body = omega arith in rw (e, drop-append-le (length body) bytes back le)
    (append_assoc body (drop (length body) bytes) back)

overlay-after : (front back body : List ℕ) (n a : ℕ) → length front ≡ n → front ++ overlay back a body ≡ overlay (front ++ back) (n + a)
    body
unfolding overlay
overlay-after front back body n a q = let e : length front + a + length body ≡ length front + (a + length body) = omega arith in
    rw (← q, e, take-append-add, drop-append-add) (sym (append_assoc front (take a back) (body ++ drop (a + length body) back)))

-- ---- one row

-- The body of a row that is copied, as it stands in the datagram.
abbrev pub placed_body : Row → List ℕ → List ℕ
placed_body r d = take r.cell.length (drop (r.place - 1) d)

body-copied : (r : Row) (bytes d : List ℕ) → is_placed r ≡ true → row_body r bytes d ≡ placed_body r d
unfolding row_body row_bytes
body-copied r bytes d t = let e = placed-is r t in rw (e.0, e.1)

cell-copied : (r : Row) (bytes d : List ℕ) → is_placed r ≡ true
    → flushed_cell r bytes d ≡ placed_body r d ++ drop (length (placed_body r d))
    bytes
unfolding flushed_cell
cell-copied r bytes d t = rw (t, body-copied r bytes d t)

cell-kept : (r : Row) (bytes d : List ℕ) → is_placed r ≡ false → flushed_cell r bytes d ≡ bytes
unfolding flushed_cell
cell-kept r bytes d t = rw t

short-body : (r : Row) (d : List ℕ) → Fits d r → is_placed r ≡ true → length (placed_body r d) ≤ cell_size
short-body r d z t = let p = z.short (placed-is r t).0 in simp length-take (omega arith)

cell-length : (r : Row) (bytes d : List ℕ) → Fits d r → length bytes ≡ cell_size → length (flushed_cell r bytes d) ≡ cell_size
cell-length r bytes d z e = cases (is_placed r)
    (λ t. let p = short-body r d z t in
    rw (cell-copied r bytes d t) (length-append (placed_body r d) (drop (length (placed_body r d)) bytes)
    ∙ (let q = length-drop (length (placed_body r d)) bytes in omega arith)))
    (λ t. rw (cell-kept r bytes d t) e)

-- ---- row by row

-- No row: the store as it was.
pub flush-begins : (rs : List Row) (st d : List ℕ) → flushed_to 0 rs st d ≡ st
unfolding flushed_to flushed
flush-begins rs st d = refl

-- Row i of the list is `get_or rs i x`, whatever x.
module _ (d : List ℕ) (x : Row) where
  -- Row i, where it is in use and has a place: its body is laid over its cell.
  flush-lays : (i : ℕ) (rs : List Row) (st : List ℕ) → AllFit d rs → length rs * cell_size ≤ length st → i < length rs
      → is_placed (get_or rs i x) ≡ true
      → flushed_to (suc i) rs st d ≡ overlay (flushed_to i rs st d) (i * cell_size) (placed_body (get_or rs i x) d)
  unfolding flushed_to flushed
  flush-lays i [] st v le lt t = absurd (omega arith)
  flush-lays zero (r ∷ rs) st v le lt t =
      let w = room-one (length rs) cell_size st le in
      let n = first-length st w.0 in
      let p = short-body r d (v r (Memᴰ.head refl)) t in
      let e : 0 * cell_size ≡ 0 = omega arith in
      rw (cell-copied r (take cell_size st) d t, e) (overlay-here (take cell_size st) (drop cell_size st) (placed_body r d) (omega arith)
      ∙ rw (take-append-drop cell_size st))
  flush-lays (suc i) (r ∷ rs) st v le lt t =
      let w = room-one (length rs) cell_size st le in
      let n = cell-length r (take cell_size st) d (v r (Memᴰ.head refl)) (first-length st w.0) in
      let m = suc-mul i cell_size in
      let e : suc i * cell_size ≡ cell_size + i * cell_size = omega arith in
      rw (flush-lays i rs (drop cell_size st) (λ y k. v y (Memᴰ.tail k)) w.1 (omega arith) t, e)
      (overlay-after (flushed_cell r (take cell_size st) d) (flushed (take i rs) (drop cell_size st) d)
      (placed_body (get_or rs i x) d) cell_size
      (i * cell_size) n)

  -- Row i, where it is unused or has no place: no byte changes.
  pub flush-keeps : (i : ℕ) (rs : List Row) (st : List ℕ) → i < length rs → is_placed (get_or rs i x) ≡ false → flushed_to (suc i) rs st d
      ≡ flushed_to i rs st d
  unfolding flushed_to flushed
  flush-keeps i [] st lt t = absurd (omega arith)
  flush-keeps zero (r ∷ rs) st lt t = rw (cell-kept r (take cell_size st) d t) (take-append-drop cell_size st)
  flush-keeps (suc i) (r ∷ rs) st lt t = ap (λ (y : List ℕ). flushed_cell r (take cell_size st) d ++ y)
      (flush-keeps i rs (drop cell_size st) (omega arith) t)

  -- The store has the same length all the way.
  pub flush-length : (i : ℕ) (rs : List Row) (st : List ℕ) → AllFit d rs → length rs * cell_size ≤ length st → length (flushed_to i rs st d)
      ≡ length st
  unfolding flushed_to
  flush-length i rs st v le = flushed-length d (take i rs) st (λ y k. v y (mem-take i rs y k)) fits
    where
      shorter : length (take i rs) ≤ length rs
      shorter = simp length-take (omega arith)

      fits : length (take i rs) * cell_size ≤ length st
      fits = let p = mul-le-mul_right cell_size shorter in omega arith

  -- The same as the code finds it. In use and with a place: the bytes are stored from the cell's first on.
  pub flush-puts : (i : ℕ) (rs : List Row) (st : List ℕ) → AllFit d rs → length rs * cell_size ≤ length st → i < length rs
      → ((get_or rs i x).cell.used ≡ 0 → ⊥) → ((get_or rs i x).place ≡ 0 → ⊥)
      → flushed_to (suc i) rs st d ≡ put (flushed_to i rs st d) (i * cell_size) (placed_body (get_or rs i x) d)
  unfolding is_placed overlay
  flush-puts i rs st v le lt u p =
      let t : is_placed (get_or rs i x) ≡ true = rw (ne_eqb (get_or rs i x).cell.used 0 u, ne_eqb (get_or rs i x).place 0 p) in
      let n = short-body (get_or rs i x) d (v (get_or rs i x) (mem-get_d rs i x lt)) t in
      let m = mul-le-mul_right {m = suc i} {n = length rs} cell_size lt in
      let k = suc-mul i cell_size in
      let q = flush-length i rs st v le in
      flush-lays i rs st v le lt t ∙ sym (put-split (flushed_to i rs st d) (i * cell_size) (placed_body (get_or rs i x) d) (omega arith))

  -- Unused, or with its body in the store: no byte changes.
  pub flush-unused : (i : ℕ) (rs : List Row) (st : List ℕ) → i < length rs → (get_or rs i x).cell.used ≡ 0 → flushed_to (suc i) rs st d
      ≡ flushed_to i rs st d
  unfolding is_placed
  flush-unused i rs st lt e = flush-keeps i rs st lt (rw (eq-eqb (get_or rs i x).cell.used 0 e))

  pub flush-stored : (i : ℕ) (rs : List Row) (st : List ℕ) → i < length rs → (get_or rs i x).place ≡ 0 → flushed_to (suc i) rs st d
      ≡ flushed_to i rs st d
  unfolding is_placed
  flush-stored i rs st lt e = flush-keeps i rs st lt (rw (eq-eqb (get_or rs i x).place 0 e)
      (cases (eqb (get_or rs i x).cell.used 0) (λ t. rw t) (λ t. rw t)))
