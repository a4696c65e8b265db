-- The tests of the rows' order, in the code's ways.
-- Assumes nothing.
use Prim.Native.Nat.{ℕ, max, ◌+◌, ◌-◌, ◌<◌, ◌≤◌}
use mathlib.Core.Path.{◌≡◌, refl, sym, ◌∙◌, ap, subst}
use mathlib.Core.Bool.{Bool, true, false, cond, not, ◌&&◌}
use mathlib.Core.List.{List, [], ◌∷◌, ◌++◌}
use native.Mathlib.Nat.{add-zero}
use native.Mathlib.Omega.{arith}
use lib.ListN.{length, get_or}
use lib.Dec.{ltb, eqb}
use borrow.Author.Tests.{ltb-true, ltb-false, eq-eqb, ne_eqb}
use Rattle.std.specs.List.{IsChunkByPrefix}
use Rattle.std.proofs.lemmas.List.{get_or_append_left, get_or-append-add, get_or_default, length-append, append_assoc}
use Rattle.base.proofs.Choices.{cases, neither, and_left, and_right}
use Rattle.cells.specs.Cell.{Cell}
use Rattle.cells.specs.Sound.{limits, alike, sound_cells}
use Rattle.rows.specs.declared.Row.{Row}
use Rattle.rows.specs.Rows.{blank_row, cells_in, whole_row}
use Rattle.sound_cells.specs.Counted.{mate, ahead_of_next}
use Rattle.sound_cells.specs.Sorted.{cell_at, key_part}
use Rattle.sound_cells.specs.Ordered.{is_fresh, noted, message_goes_on}
use Rattle.sound_cells.proofs.Numbered.{row_cell}
use Rattle.sound_cells.proofs.Ordered.{MessageRun, Passed, pass-starts, pass-unused, pass-run, ordered-sound}

-- The rows before the rest have passed.
pub record Going (rows : List Row) (next : ℕ → ℕ) (seen : List ℕ) (greatest : ℕ) (rest : List Row) : Type 0 where
  front : List Row
  split : rows ≡ front ++ rest
  passed : Passed rows next seen greatest (length front)

abbrev pub together : Row → Row → Bool
together a d = message_goes_on a.cell d.cell

pub going_starts : (rows : List Row) (next : ℕ → ℕ) (rest : List Row) → rest ≡ rows → Going rows next (0 ∷ 0 ∷ 0 ∷ 0 ∷ []) 0 rest
going_starts rows next rest e = record {
  front = [];
  split = sym e;
  passed = pass-starts rows next (0 ∷ 0 ∷ 0 ∷ 0 ∷ []) (omega arith);
}

pub going-ends : (rows : List Row) (next : ℕ → ℕ) (seen : List ℕ) (greatest : ℕ) (rest : List Row) → Going rows next seen greatest rest
    → length rest ≡ 0 → sound_cells (cells_in rows) next ≡ true
going-ends rows next seen greatest rest g e =
    let q : length g.front ≡ length rows = omega (arith, ap length g.split, length-append g.front rest) in
    ordered-sound rows next seen greatest (rw q at g.passed)

-- The rest begins with a message's rows.
module _ (rows : List Row) (next : ℕ → ℕ) (seen : List ℕ) (greatest : ℕ) (rest : List Row) (g : Going rows next seen greatest rest)
    (run last : List Row) (s : rest ≡ run ++ last) (h : 0 < length run) (p : IsChunkByPrefix together rest (length run)) where
  abbrev at : ℕ
  at = length g.front

  rest-row : (k : ℕ) → get_or rest k blank_row ≡ whole_row rows (at + k)
  rest-row k = sym (get_or-append-add g.front rest k blank_row) ∙ ap (λ (x : List Row). get_or x (at + k) blank_row) (sym g.split)

  first-row : (d : Row) → get_or run 0 d ≡ whole_row rows at
  first-row d = get_or_default run 0 d blank_row h ∙ sym (get_or_append_left run last blank_row 0 h)
      ∙ ap (λ (x : List Row). get_or x 0 blank_row) (sym s) ∙ rest-row 0 ∙ ap (whole_row rows) (add-zero at)

  goes : (k : ℕ) → k + 1 < length run → message_goes_on (cell_at rows (at + k)) (cell_at rows (at + (k + 1))) ≡ true
  goes k l = rw (← row_cell rows (at + k) (rest-row k), ← row_cell rows (at + (k + 1)) (rest-row (k + 1))) (p.0 k blank_row l)

  long : at + length run ≤ length rows
  long = omega (arith, ap length g.split, length-append g.front rest, ap length s, length-append run last)

  whole : MessageRun rows at (at + length run)
  whole = record {
    after = omega arith;
    within = long;
    step = λ t l f. let q : at + (t - at) ≡ t = omega arith in
        let r : at + (t - at + 1) ≡ t + 1 = omega arith in
        rw (q, r) at (goes (t - at) (omega arith));
  }

  moved : {v : List ℕ} {m : ℕ} → Passed rows next v m (at + length run) → Going rows next v m last
  moved {v} {m} x = record {
    front = g.front ++ run;
    split = g.split ∙ ap (λ (y : List Row). g.front ++ y) s ∙ sym (append_assoc g.front run last);
    passed = subst (Passed rows next v m) (sym (length-append g.front run)) x;
  }

  -- An unused row stands alone.
  alone : (cell_at rows at).used ≡ 0 → length run ≡ 1
  unfolding message_goes_on
  alone u = cases (ltb 1 (length run))
      (λ y. let a = cell_at rows (at + 0) in
      let d = cell_at rows (at + (0 + 1)) in
      let f = and_right (mate a d) _ (and_right (not (eqb a.count 1)) _ (goes 0 (ltb-true _ _ y))) in
      let n : not (eqb a.used 0) ≡ true = and_left (not (eqb a.used 0)) _ (and_right (alike d a) _ f) in
      neither (not (eqb a.used 0)) n (rw (add-zero at, eq-eqb (cell_at rows at).used 0 u) refl))
      (λ y. let l = ltb-false _ _ y in omega arith)

  pub goes-unused : (d : Row) → (get_or run 0 d).cell.used ≡ 0 → Going rows next seen greatest last
  goes-unused d u =
      let z : (cell_at rows at).used ≡ 0 = sym (ap (λ (x : Cell). x.used) (row_cell rows at (first-row d))) ∙ u in
      moved (rw (alone z) (pass-unused rows next seen greatest at g.passed z))

  module _ {r : Row} (q : r ≡ whole_row rows at) where
    row-used : (r.cell.used ≡ 0 → ⊥) → eqb (cell_at rows at).used 0 ≡ false
    row-used u = ne_eqb _ 0 (λ z. u (ap (λ (x : Cell). x.used) (row_cell rows at q) ∙ z))

    row-due : {d : Bool} → d ≡ cond (eqb r.cell.used 1) (not (eqb (length run) r.cell.count)) (eqb (length run) r.cell.count) → d ≡ true
        → cond (eqb (cell_at rows at).used 1) (not (eqb (at + length run - at) (cell_at rows at).count))
        (eqb (at + length run - at) (cell_at rows at).count) ≡ true
    row-due e y = let m : at + length run - at ≡ length run = omega arith in rw (m, ← row_cell rows at q) (sym e ∙ y)

    pub goes-run : {k m : ℕ} {b d f : Bool} {v : List ℕ} → (r.cell.used ≡ 0 → ⊥)
        → b ≡ (limits r.cell && ahead_of_next next r.cell) → b ≡ true
        → d ≡ cond (eqb r.cell.used 1) (not (eqb (length run) r.cell.count)) (eqb (length run) r.cell.count) → d ≡ true
        → k ≡ key_part r.cell → f ≡ is_fresh seen greatest k → f ≡ true → v ≡ noted seen k → m ≡ max greatest k → Going rows next v m last
    goes-run u w y e z k f t n m =
        let c = row_cell rows at q in
        let key = k ∙ ap key_part c in
        moved (rw (n, m, key) (pass-run rows next seen greatest at g.passed (at + length run) whole (row-used u) (rw c at (sym w ∙ y))
        (row-due e z) (rw key at (sym f ∙ t))))

  pub goes-used : (d : Row) {k m : ℕ} {b due f : Bool} {v : List ℕ} → ((get_or run 0 d).cell.used ≡ 0 → ⊥)
      → b ≡ (limits (get_or run 0 d).cell && ahead_of_next next (get_or run 0 d).cell) → b ≡ true
      → due ≡ cond (eqb (get_or run 0 d).cell.used 1) (not (eqb (length run) (get_or run 0 d).cell.count))
      (eqb (length run) (get_or run 0 d).cell.count) → due ≡ true
      → k ≡ key_part (get_or run 0 d).cell → f ≡ is_fresh seen greatest k → f ≡ true → v ≡ noted seen k → m ≡ max greatest k
      → Going rows next v m last
  goes-used d u w y e z k f t n m = goes-run (first-row d) u w y e z k f t n m
