-- Renumbering: a rank summed over a list of turns, those turns copied out of the rows, and both together.
-- Assumes nothing.
use Prim.Native.Nat.{ℕ, suc, ◌+◌, ◌<◌, ◌≤◌}
use mathlib.Core.Path.{◌≡◌, refl, sym, ap, ◌∙◌}
use mathlib.Core.Bool.{Bool, true, false, cond, ◌&&◌}
use mathlib.Core.List.{List, [], ◌∷◌, ◌++◌, map, map-append}
use native.Mathlib.Numerals.{add-one}
use native.Mathlib.Omega.{arith}
use lib.Dec.{ltb, eqb}
use lib.ListN.{length, get_or, take, drop, set, length-append, length-set}
use lib.Seq.{take_all, take_at, drop-cons, set_at, append_snoc}
use mir.Val.{bool_byte}
use Rattle.std.specs.List.{sum_by}
use Rattle.std.proofs.lemmas.List.Recursion.{is_sum_by}
use Rattle.base.specs.Limits.{max_cells}
use Rattle.base.specs.Lists.{count_of, only}
use Rattle.base.proofs.Ifs.{le_yes, le-no}
use Rattle.base.proofs.Lists.{only-pass, only-fail}
use Rattle.cells.specs.Cell.{Cell}
use Rattle.cells.specs.Records.{first_cell, before_cell}
use Rattle.rows.specs.declared.Row.{Row}
use Rattle.rows.specs.Rows.{cell_of, cells_in, mark_row, change_rows}
use Rattle.row_tests.specs.Uses.{uses}
use Rattle.rows.proofs.Rows.{cells-more}
use Rattle.row_ranks.specs.Renumber.{renumbered, first_turns, is_below, rank_row}

-- how many turns are below t, each counted as 1 or 0
one-more : (b : Bool) (n : ℕ) → cond b (suc n) n ≡ bool_byte b + n
one-more true n = omega arith
one-more false n = omega arith

pub rank_sum : (t : ℕ) (l : List ℕ) → count_of (is_below t) l ≡ sum_by (λ x. bool_byte (ltb x t)) l
unfolding count_of is_below
rank_sum t = is_sum_by (count_of (is_below t)) (λ x. bool_byte (ltb x t)) refl (λ x l. one-more (ltb x t) (count_of (is_below t) l))

-- ---- the turns of first records, copied

first-yes : (cs : List Cell) (c : Cell) → first_cell c ≡ true → first_turns (cs ++ (c ∷ [])) ≡ first_turns cs ++ (c.turn ∷ [])
unfolding first_turns
first-yes cs c y = rw (only-pass first_cell cs c y) (map-append (λ (x : Cell). x.turn) (only first_cell cs) (c ∷ []))

first-no : (cs : List Cell) (c : Cell) → first_cell c ≡ false → first_turns (cs ++ (c ∷ [])) ≡ first_turns cs
unfolding first_turns
first-no cs c y = rw (only-fail first_cell cs c y)

-- The turns of the first i rows stand at the front of d.
pub record Copied (rows : List Row) (d : List ℕ) (i m : ℕ) (now : List ℕ) : Type 0 where
  pub count : m ≡ length (first_turns (cells_in (take i rows)))
  pub few : m ≤ i
  pub long : length now ≡ length d
  pub front : now ≡ first_turns (cells_in (take i rows)) ++ drop m d

module _ (rows : List Row) (d : List ℕ) where
  pub copy-starts : Copied rows d 0 0 d
  unfolding cells_in first_turns only
  copy-starts = record { count = refl; few = omega arith; long = refl; front = refl }

  -- x stands for row i where there is none.
  module _ {i m : ℕ} {now : List ℕ} (h : Copied rows d i m now) (x : Row) (inside : i < length rows) {b : Bool}
      (t : b ≡ first_cell (cell_of (get_or rows i x))) where
    pub copy-no : b ≡ false → Copied rows d (i + 1) m now
    copy-no y =
        let e : first_turns (cells_in (take (i + 1) rows)) ≡ first_turns (cells_in (take i rows)) =
        ap first_turns (cells-more rows i x inside) ∙ first-no (cells_in (take i rows)) (cell_of (get_or rows i x)) (sym t ∙ y) in
        record { count = h.count ∙ ap length (sym e); few = omega (arith, h.few); long = h.long; front = rw e h.front }

    pub copy-yes : b ≡ true → length rows ≤ length d → Copied rows d (i + 1) (m + 1) (set now m (get_or rows i x).cell.turn)
    copy-yes y room =
        let l : m < length d = omega (arith, h.few) in
        let r = get_or rows i x in
        let e : first_turns (cells_in (take (i + 1) rows)) ≡ first_turns (cells_in (take i rows)) ++ (r.cell.turn ∷ []) =
        ap first_turns (cells-more rows i x inside) ∙ first-yes (cells_in (take i rows)) (cell_of r) (sym t ∙ y) in
        record {
          count = rw (e, length-append (first_turns (cells_in (take i rows))) (r.cell.turn ∷ [])) (omega (arith, h.count));
          few = omega (arith, h.few);
          long = length-set now m r.cell.turn ∙ h.long;
          front = rw (e, h.front, drop-cons d m 0 l, add-one m)
              (set_at (first_turns (cells_in (take i rows))) (get_or d m 0) (drop (suc m) d)
              r.cell.turn m (sym h.count) ∙ sym (append_snoc (first_turns (cells_in (take i rows))) r.cell.turn (drop (suc m) d)));
        }

  pub copy-ends : {i m : ℕ} {now : List ℕ} → Copied rows d i m now → length rows ≤ i → i ≤ length rows
      → (m ≡ length (first_turns (cells_in rows))) × ((m ≤ length rows) × (now ≡ first_turns (cells_in rows) ++ drop m d))
  copy-ends {i} h a b = let e = take_all i rows a in (rw e at h.count, (omega (arith, h.few), rw e at h.front))

-- ---- both together

-- The messages before turn t, counted by their first records or over those records' turns.
rank-firsts : (t : ℕ) (cs : List Cell) → count_of (is_below t) (first_turns cs) ≡ count_of (before_cell t) cs
unfolding count_of first_turns only is_below before_cell first_cell
rank-firsts t [] = refl
rank-firsts t (c ∷ cs) = ranked (eqb c.used 3 && eqb c.index 0) (rank-firsts t cs)
  where
    ranked : (v : Bool) → count_of (is_below t) (first_turns cs) ≡ count_of (before_cell t) cs
        → count_of (is_below t) (map (λ (x : Cell). x.turn) (cond v (c ∷ only first_cell cs) (only first_cell cs)))
        ≡ cond (v && ltb c.turn t) (suc (count_of (before_cell t) cs)) (count_of (before_cell t) cs)
    ranked true e = ap (λ (n : ℕ). cond (ltb c.turn t) (suc n) n) e
    ranked false e = e

pub renumber-is : (rows : List Row) (turns old : List ℕ) {m : ℕ} {new : List Row} → length rows ≤ max_cells
    → m ≡ length (first_turns (cells_in rows)) → turns ≡ first_turns (cells_in rows) ++ drop m old
    → new ≡ change_rows (uses 3) (rank_row (take m turns)) rows → new ≡ renumbered rows
unfolding renumbered rank_row
renumber-is rows turns old {m} h n e r =
    let front : take m turns ≡ first_turns (cells_in rows) = rw e (take_at (first_turns (cells_in rows)) (drop m old) m (sym n)) in
    le_yes _ _ _ _ _ h (r ∙ rw front (λ k. change_rows (uses 3) (λ x. mark_row 3 (rank-firsts x.cell.turn (cells_in rows) k) x) rows))

pub renumber_none : (rows : List Row) → max_cells < length rows → rows ≡ renumbered rows
unfolding renumbered
renumber_none rows h = le-no _ _ _ _ _ h refl

-- What `renumber` makes of as many rows as there may be cells.
pub renumbered-is : (rows : List Row) → length rows ≤ max_cells → renumbered rows
    ≡ change_rows (uses 3) (λ r. mark_row 3 (count_of (before_cell r.cell.turn) (cells_in rows)) r) rows
unfolding renumbered
renumbered-is rows h = sym (le_yes _ _ _ _ _ h refl)
