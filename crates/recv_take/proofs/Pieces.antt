-- The pieces of a ready message: where their rows are, and that each stands in its cell.
-- Assumes nothing.
use Prim.Native.Nat.{ℕ, zero, suc, ◌+◌, ◌*◌, ◌-◌, ◌<◌, ◌≤◌}
use mathlib.Core.Path.{◌≡◌, refl, sym, ◌∙◌, ap}
use mathlib.Core.Bool.{Bool, true, false, cond}
use mathlib.Core.Option.{some}
use mathlib.Core.List.{List, [], ◌∷◌, map}
use native.Mathlib.Numerals.{add-one}
use native.Mathlib.Omega.{arith}
use lib.ListN.{length, get_or, take, drop, length-append, length-take}
use Rattle.std.specs.List.{sum, range_with_len}
use Rattle.std.proofs.lemmas.List.FromFn.{sum_by-map-range_with_len_more}
use Rattle.base.specs.Limits.{cell_bytes, max_frags}
use Rattle.base.specs.Lists.{option, find}
use Rattle.base.specs.Put.{put, and_then, Run}
use Rattle.base.proofs.Choices.{case_option}
use Rattle.base.proofs.Lists.{find-some, any-mem}
use Rattle.base.proofs.Puts.{run_none, run-then}
use Rattle.cells.specs.Cell.{Cell, ready_as, at, empty_cell}
use Rattle.cells.specs.Records.{index_of}
use Rattle.rows.specs.declared.Row.{Row}
use Rattle.rows.specs.Rows.{cell_of, cells_in, blank_row, whole_row}
use Rattle.rows.proofs.Rows.{cells-length, row_here}
use Rattle.row_scans.proofs.Ready.{index-there}
use Rattle.recv_take.specs.Pieces.{piece_at, piece_bytes, joined_to, AllWithin, Takeable}

-- ---- the first record that passes

index-within : (p : Cell → Bool) (cs : List Cell) → index_of p cs ≤ length cs
unfolding index_of
index-within p [] = omega arith
index-within p (c ∷ cs) = chosen (p c) (index-within p cs)
  where
    chosen : (t : Bool) → index_of p cs ≤ length cs → cond t 0 (suc (index_of p cs)) ≤ suc (length cs)
    chosen true h = omega arith
    chosen false h = omega arith

blank-cell : cell_of blank_row ≡ empty_cell
unfolding blank_row
blank-cell = refl

row-found : (p : Cell → Bool) (rs : List Row) → cell_of (get_or rs (index_of p (map cell_of rs)) blank_row)
    ≡ option (find p (map cell_of rs)) empty_cell (λ c. c)
unfolding index_of find
row-found p [] = blank-cell
row-found p (r ∷ rs) = chosen (p (cell_of r)) (row-found p rs)
  where
    chosen : (t : Bool) → cell_of (get_or rs (index_of p (map cell_of rs)) blank_row) ≡ option (find p (map cell_of rs)) empty_cell (λ c. c)
        → cell_of (get_or (r ∷ rs) (cond t 0 (suc (index_of p (map cell_of rs)))) blank_row)
        ≡ option (cond t (some (cell_of r)) (find p (map cell_of rs))) empty_cell (λ c. c)
    chosen true e = refl
    chosen false e = e

-- ---- a piece's row

module _ (t : ℕ) (rows : List Row) (i : ℕ) where
  abbrev pub row_index : ℕ
  row_index = index_of (at (ready_as t) i) (cells_in rows)

  pub piece_row : piece_at t (cells_in rows) i ≡ cell_of (whole_row rows row_index)
  unfolding piece_at cells_in
  piece_row = sym (row-found (at (ready_as t) i) rows)

  -- Its numbers are within their limits.
  module _ (v : AllWithin t (cells_in rows)) where
    pub row_kind : (whole_row rows row_index).cell.kind < 256
    row_kind = rw piece_row at (v i).kind

    pub row_channel : (whole_row rows row_index).cell.channel < 256
    row_channel = rw piece_row at (v i).channel

    pub row_count : (whole_row rows row_index).cell.count ≤ max_frags
    row_count = rw piece_row at (v i).count

-- ---- a piece's bytes

module _ {t : ℕ} {cs : List Cell} {st : List ℕ} (v : Takeable t cs st) where
  -- They stand within the store.
  pub piece-ends : (i : ℕ) → index_of (at (ready_as t) i) cs * cell_bytes + (piece_at t cs i).length ≤ length st
  unfolding piece_at empty_cell
  piece-ends i =
      let short : (piece_at t cs i).length ≤ cell_bytes = (v.within i).length in
      let store : length st ≡ cell_bytes * length cs = v.store in
      case_option (find (at (ready_as t) i) cs)
      (λ e. let w : index_of (at (ready_as t) i) cs ≤ length cs = index-within (at (ready_as t) i) cs in rw e (omega arith))
      (λ c e. let f = find-some (at (ready_as t) i) cs e in let w =
      index-there (at (ready_as t) i) cs (any-mem (at (ready_as t) i) cs c f.0 f.1) in omega arith)

-- The same, as the code finds its row: number k of the rows, or none.
module _ (t : ℕ) (rows : List Row) (st : List ℕ) (i : ℕ) (v : Takeable t (cells_in rows) st) where
  abbrev bytes : List ℕ
  bytes = piece_bytes t (cells_in rows) st i

  pub no_bytes : row_index t rows i ≡ length rows → [] ≡ bytes
  unfolding piece_bytes piece_at empty_cell
  no_bytes past = case_option (find (at (ready_as t) i) (cells_in rows))
      (λ e. rw e)
      (λ c e.
      let f = find-some (at (ready_as t) i) (cells_in rows) e in
      let w = index-there (at (ready_as t) i) (cells_in rows) (any-mem (at (ready_as t) i) (cells_in rows) c f.0 f.1) in
      let n = cells-length rows in
      absurd (omega arith))

  pub row_starts : row_index t rows i * cell_bytes ≤ length st
  row_starts = let h = piece-ends v i in omega arith

  module _ (k : ℕ) (l : k < length rows) (is : k ≡ row_index t rows i) (d : Row) where
    row_is : piece_at t (cells_in rows) i ≡ cell_of (get_or rows k d)
    row_is = piece_row t rows i ∙ ap cell_of (ap (whole_row rows) (sym is) ∙ sym (row_here rows k d l))

    pub row_ends : k * cell_bytes + (get_or rows k d).cell.length ≤ length st
    row_ends = rw (row_is, ← is) at (piece-ends v i)

    pub row_bytes : take (k * cell_bytes + (get_or rows k d).cell.length - k * cell_bytes) (drop (k * cell_bytes) st) ≡ bytes
    unfolding piece_bytes
    row_bytes =
        let n : k * cell_bytes + (get_or rows k d).cell.length - k * cell_bytes ≡ (get_or rows k d).cell.length = omega arith in
        rw (n, row_is, is)

pub ruleset rows_piece = (no_bytes, row_starts, row_ends, row_bytes)

pub ruleset row_fits = (row_kind, row_channel, row_count, row_starts)

-- ---- all pieces, one more at each turn of a loop

pub joined_none : (t : ℕ) (cs : List Cell) (st buffer : List ℕ) → Run 0 (joined_to t cs st 0) buffer 0 buffer
unfolding joined_to
joined_none t cs st buffer = run_none 0 [] buffer refl

pub joined_more : (t : ℕ) (cs : List Cell) (st : List ℕ) (i : ℕ) (buffer : List ℕ) (p : ℕ) (before : List ℕ) (q : ℕ) (then bs : List ℕ)
    → Run 0 (joined_to t cs st i) buffer p before → bs ≡ piece_bytes t cs st i → Run p bs before q then
    → Run 0 (joined_to t cs st (i + 1)) buffer q then
unfolding joined_to
joined_more t cs st i buffer p before q then bs a e b = rw (add-one i)
    (run-then 0 (joined_to t cs st i) (piece_bytes t cs st i) buffer p before q then a (rw e at b))

pub joined_end : (t : ℕ) (cs : List Cell) (st : List ℕ) (i n : ℕ) (buffer : List ℕ) (p : ℕ) (out : List ℕ) → i ≤ n → n ≤ i
    → Run 0 (joined_to t cs st i) buffer p out → out ≡ put buffer 0 (joined_to t cs st n)
joined_end t cs st i n buffer p out le ge a = let e : i ≡ n = omega arith in rw (← e) a.is

-- No piece is longer than a cell.
pub piece_short : (t : ℕ) (cs : List Cell) (st : List ℕ) → Takeable t cs st → (i : ℕ) → length (piece_bytes t cs st i) ≤ cell_bytes
unfolding piece_bytes
piece_short t cs st v i = let h = (v.within i).length in simp length-take (omega arith)

-- All have as many bytes together as each alone.
pub pieces_long : (t : ℕ) (cs : List Cell) (st : List ℕ) (n : ℕ)
    → length (joined_to t cs st n) ≡ sum (map (λ i. length (piece_bytes t cs st i)) (range_with_len 0 n))
unfolding joined_to and_then
pieces_long t cs st zero = refl
pieces_long t cs st (suc n) =
    let more = sum_by-map-range_with_len_more (λ x. x) (λ i. length (piece_bytes t cs st i)) 0 n n (omega arith) in
    rw (length-append (joined_to t cs st n) (piece_bytes t cs st n), pieces_long t cs st n) (rw add-one at (sym more))

pub ruleset joins = (joined_none, joined_end)
