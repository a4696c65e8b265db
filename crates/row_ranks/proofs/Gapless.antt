-- Where the first cells' turns differ and fill all from the least to the greatest, a turn's rank is its distance from the least.
-- Assumes nothing.
use Prim.Native.Nat.{ℕ, zero, suc, ◌+◌, ◌-◌, ◌≤◌}
use mathlib.Core.Path.{◌≡◌, refl, sym, ap, ◌∙◌, subst}
use mathlib.Core.Bool.{Bool, true, false, cond, ◌&&◌}
use mathlib.Core.List.Memᴰ
use mathlib.Core.List.{List, [], ◌∷◌, map, Memᴰ}
use native.Mathlib.Omega.{arith}
use lib.Dec.{ltb, leb, eqb}
use borrow.Author.Tests.{ltb-true, leb-true, lt-ltb, le-ltb, eqb-true, eqb-false}
use Rattle.std.specs.Prelude.{Option, Some, None, MatchOption, IfSome}
use Rattle.base.specs.Limits.{max_cells}
use Rattle.base.specs.Lists.{count_of}
use Rattle.base.proofs.Choices.{cases, and_left, and_right, or-implied}
use Rattle.base.proofs.Counts.{count-ext, count_none}
use Rattle.base.proofs.Ifs.{eq_yes, eq_no}
use Rattle.base.proofs.Indices.{count-below-suc}
use Rattle.base.proofs.Lists.{any-all, every-mem}
use Rattle.cells.specs.Cell.{Cell, mark_cell}
use Rattle.cells.specs.Records.{first_cell, before_cell}
use Rattle.rows.specs.declared.Row.{Row}
use Rattle.rows.specs.Rows.{cell_of, cells_in, mark_row, change_row, change_rows}
use Rattle.row_tests.specs.Uses.{uses}
use Rattle.row_ranks.specs.declared.Turns.{Turns}
use lib.ListN.{length}
use Rattle.row_ranks.specs.Renumber.{renumbered, gapless, excess, lower_row, lowered, first_of_turn, between, ageless, Surveyed}
use Rattle.row_ranks.proofs.Renumbering.{renumbered-is}

before-is : (n : ℕ) (c : Cell) → before_cell n c ≡ (first_cell c && ltb c.turn n)
unfolding before_cell first_cell
before-is n c = refl

module _ (cs : List Cell) (t : Turns) (s : Surveyed cs t) where
  bounds : (c : Cell) → Memᴰ c cs → uses 3 c ≡ true → (t.least ≤ c.turn) × (c.turn ≤ t.top)
  unfolding between
  bounds c m u =
      let e = or-implied (uses 3 c) _ (every-mem (between t.least t.top) cs s.within c m) u in
      (leb-true _ _ (and_left (leb t.least c.turn) _ e), leb-true _ _ (and_right (leb t.least c.turn) _ e))

  first-bounds : (c : Cell) → Memᴰ c cs → first_cell c ≡ true → (t.least ≤ c.turn) × (c.turn ≤ t.top)
  unfolding first_cell
  first-bounds c m f = bounds c m (and_left (uses 3 c) _ f)

  -- One turn further, a rank is one more at most.
  rank_step : (n : ℕ) → count_of (before_cell (suc n)) cs ≡ count_of (before_cell n) cs + count_of (first_of_turn n) cs
  unfolding before_cell first_of_turn first_cell
  rank_step n = count-below-suc (λ (c : Cell). uses 3 c && eqb c.index 0) (λ (c : Cell). c.turn) cs n (suc n) refl

  rank-slow : (n : ℕ) → count_of (before_cell (suc n)) cs ≤ count_of (before_cell n) cs + 1
  rank-slow n = omega (arith, rank_step n, s.once n)

  rank-climb : (d n : ℕ) → count_of (before_cell (n + d)) cs ≤ count_of (before_cell n) cs + d
  rank-climb zero n = let e : n + 0 ≡ n = omega arith in rw e (omega arith)
  rank-climb (suc d) n = let e : n + suc d ≡ suc (n + d) = omega arith in rw e (omega (arith, rank-slow (n + d), rank-climb d n))

  rank-least : count_of (before_cell t.least) cs ≡ 0
  rank-least = count_none (before_cell t.least) cs (any-all (before_cell t.least) cs
      (λ c m. before-is t.least c ∙ cases (first_cell c)
      (λ y. rw (y, le-ltb c.turn t.least (first-bounds c m y).0))
      (λ y. rw y)))

  rank-top : count_of (before_cell (suc t.top)) cs ≡ t.firsts
  rank-top = count-ext (before_cell (suc t.top)) first_cell cs (λ c m. before-is (suc t.top) c ∙ cases (first_cell c)
      (λ y. rw (y, lt-ltb c.turn (suc t.top) (omega (arith, (first-bounds c m y).1))))
      (λ y. rw y)) ∙ sym s.count

  rank_is : gapless t ≡ true → (c : Cell) → Memᴰ c cs → uses 3 c ≡ true → count_of (before_cell c.turn) cs ≡ c.turn - excess t
  unfolding gapless excess
  rank_is g c m u = cases (ltb t.top t.least)
      (λ y. absurd (omega (arith, (bounds c m u).0, (bounds c m u).1, ltb-true t.top t.least y)))
      (λ y.
      let h : (ltb 0 t.firsts && eqb (t.top - t.least) (t.firsts - 1)) ≡ true = rw y at g in
      let some = ltb-true 0 t.firsts (and_left (ltb 0 t.firsts) _ h) in
      let full : t.top - t.least ≡ t.firsts - 1 = eqb-true _ _ (and_right (ltb 0 t.firsts) _ h) in
      let b = bounds c m u in
      let up : t.least + (c.turn - t.least) ≡ c.turn = omega (arith, b.0) in
      let down : c.turn + (suc t.top - c.turn) ≡ suc t.top = omega (arith, b.1) in
      let low : count_of (before_cell c.turn) cs ≤ count_of (before_cell t.least) cs + (c.turn - t.least) =
      rw up at (rank-climb (c.turn - t.least) t.least) in
      let high : count_of (before_cell (suc t.top)) cs ≤ count_of (before_cell c.turn) cs + (suc t.top - c.turn) =
      rw down at (rank-climb (suc t.top - c.turn) c.turn) in
      rw y (omega (arith, low, high, rank-least, rank-top, some, full, b.0, b.1)))

-- Rows that pass are changed alike, or not at all.
module _ (p : Cell → Bool) (g h : Row → Row) where
  change-same : (rs : List Row) → ((r : Row) → Memᴰ r rs → p (cell_of r) ≡ true → g r ≡ h r) → change_rows p g rs ≡ change_rows p h rs
  unfolding change_rows change_row
  change-same [] e = refl
  change-same (r ∷ rs) e = one (p (cell_of r)) refl (change-same rs (λ q m. e q (Memᴰ.tail m)))
    where
      one : (b : Bool) → p (cell_of r) ≡ b → map (change_row p g) rs ≡ map (change_row p h) rs → (cond b (g r) r ∷ map (change_row p g) rs)
          ≡ (cond b (h r) r ∷ map (change_row p h) rs)
      one true y k = rw (e r (Memᴰ.head refl) y, k)
      one false y k = rw k

change-own : (p : Cell → Bool) (rs : List Row) → change_rows p (λ r. r) rs ≡ rs
unfolding change_rows change_row
change-own p [] = refl
change-own p (r ∷ rs) = cases (p (cell_of r))
    (λ y. rw (y, change-own p rs))
    (λ y. rw (y, change-own p rs))

-- Gapless turns lowered are renumbered.
module _ (rows : List Row) (t : Turns) (g : gapless t ≡ true) (s : Surveyed (cells_in rows) t) where
  row-rank : (r : Row) → Memᴰ r rows → uses 3 (cell_of r) ≡ true
      → r.cell.turn - excess t ≡ count_of (before_cell r.cell.turn) (cells_in rows)
  unfolding cells_in
  row-rank r m u = sym (rank_is (cells_in rows) t s g (cell_of r) (Memᴰ.map cell_of m) u)

  changed-is : length rows ≤ max_cells → change_rows (uses 3) (lower_row (excess t)) rows ≡ renumbered rows
  unfolding lower_row
  changed-is l =
      change-same (uses 3) (λ r. mark_row 3 (r.cell.turn - excess t) r)
      (λ r. mark_row 3 (count_of (before_cell r.cell.turn) (cells_in rows)) r)
      rows (λ r m u. ap (λ (n : ℕ). mark_row 3 n r) (row-rank r m u))
      ∙ sym (renumbered-is rows l)

  -- Lowered by 0, rows stay.
  own-row : (r : Row) → Memᴰ r rows → uses 3 (cell_of r) ≡ true → lower_row 0 r ≡ r
  unfolding lower_row mark_row mark_cell ageless cells_in
  own-row r m u =
      let e : 3 ≡ r.cell.used = sym (eqb-true _ _ u) in
      let f : r.cell.turn - 0 ≡ r.cell.turn = omega arith in
      let a : 0 ≡ r.cell.age = sym (eqb-true _ _ (or-implied (uses 3 (cell_of r)) _
      (every-mem ageless (cells_in rows) s.ages (cell_of r) (Memᴰ.map cell_of m)) u)) in
      λ k. record r { cell = record (cell_of r) { used = e k; turn = f k; age = a k } }

  lowered_is : length rows ≤ max_cells → lowered (excess t) rows ≡ renumbered rows
  unfolding lowered
  lowered_is l = cases (eqb (excess t) 0)
      (λ y. let e = eqb-true (excess t) 0 y in
      sym (eq_yes (excess t) 0 (renumbered rows) rows _ e (sym (changed-is l) ∙ stay e)))
      (λ y. sym (eq_no (excess t) 0 (renumbered rows) rows _ (eqb-false (excess t) 0 y) (sym (changed-is l))))
    where
      stay : excess t ≡ 0 → change_rows (uses 3) (lower_row (excess t)) rows ≡ rows
      stay e = rw e (change-same (uses 3) (lower_row 0) (λ r. r) rows own-row ∙ change-own (uses 3) rows)

-- What a survey told, and then by how much gapless turns are above their ranks.
pub gapless-renumbered : (rows : List Row) (o : Option Turns) (q : Option ℕ) {by : ℕ} {new : List Row} → length rows ≤ max_cells
    → IfSome o (Surveyed (cells_in rows))
    → MatchOption o (q ≡ None) (λ t. MatchOption q (gapless t ≡ false) (λ by. (gapless t ≡ true) × (by ≡ excess t)))
    → q ≡ Some by → new ≡ lowered by rows → new ≡ renumbered rows
gapless-renumbered rows None q {by} {new} l s e f p = let no : ◌≡◌ {A = Option ℕ} None (Some by) = sym e ∙ f in cc
gapless-renumbered rows (Some t) q {by} l s e f p =
    let told = subst (λ (x : Option ℕ). MatchOption x (gapless t ≡ false) (λ by. (gapless t ≡ true) × (by ≡ excess t))) f e in
    p ∙ ap (λ (n : ℕ). lowered n rows) told.1 ∙ lowered_is rows t told.0 s l
