-- Numbers below n that pass a test, and the records of rows by their numbers.
-- Assumes nothing.
use Prim.Native.Nat.{ℕ, zero, suc, ◌+◌, ◌-◌, ◌<◌, ◌≤◌}
use mathlib.Core.Path.{◌≡◌, refl, sym, ◌∙◌, ap}
use mathlib.Core.Bool.{Bool, true, false, cond}
use mathlib.Core.List.{List, [], ◌∷◌, ◌++◌}
use mathlib.Core.Logic.{⊎_elim}
use native.Mathlib.Nat.{not-suc-le-zero, eq-or-lt_of_le, le_of_suc-le-suc}
use native.Mathlib.Numerals.{add-one}
use native.Mathlib.Omega.{arith}
use lib.Dec.{leb, eqb}
use lib.ListN.{length, take}
use lib.Seq.{take-length}
use borrow.Author.Tests.{leb-true, leb-false, eqb-true, eqb-false}
use Rattle.base.specs.Lists.{every, count_of, below}
use Rattle.std.specs.List.{list_all, range_with_len}
use Rattle.base.proofs.Choices.{cases, neither, and_left, and_right, and_both}
use Rattle.base.proofs.Lists.{below_at, below_all}
use Rattle.cells.specs.Cell.{Cell}
use Rattle.rows.specs.declared.Row.{Row}
use Rattle.rows.specs.Rows.{blank_row, cells_in, whole_row}
use Rattle.rows.proofs.Rows.{cells-more}
use Rattle.rows.proofs.ListMaps.{count-append, every_append}
use Rattle.sound_cells.specs.Sorted.{cell_at}
use Rattle.sound_cells.proofs.Counting.{same_truth}

-- A step up at each place from low to k is a way up between any two.
pub climb : (f : ℕ → ℕ) (low k : ℕ) → ((t : ℕ) → low ≤ t → t < k → f t < f (t + 1)) → (s t : ℕ) → low ≤ s → s < t → t ≤ k → f s < f t
climb f low k up s zero m l h = absurd (not-suc-le-zero l)
climb f low k up s (suc t) m l h =
    let e : f t < f (suc t) = rw (add-one t) at (up t (omega arith) (omega arith)) in
    ⊎_elim (λ q. rw q e) (λ lt. let r : f s < f t = climb f low k up s t m lt (omega arith) in omega arith)
    (eq-or-lt_of_le (le_of_suc-le-suc l))

-- How many numbers below n pass.
unfoldable pub count_below : (ℕ → Bool) → ℕ → ℕ
count_below p zero = 0
count_below p (suc i) = cond (p i) (suc (count_below p i)) (count_below p i)

module _ (p : ℕ → Bool) where
  pub all-fail : (i n : ℕ) {b : Bool} → i < n → b ≡ p i → b ≡ false → false ≡ below n p
  all-fail i n l t y = cases (below n p)
      (λ e. neither (p i) (below_at n p e i l) (sym t ∙ y))
      (λ e. sym e)

  -- A chain over the numbers.
  range-at : (a n : ℕ) → list_all p (range_with_len a n) ≡ true → (i : ℕ) → a ≤ i → i < a + n → p i ≡ true
  range-at a zero e i l h = absurd (omega arith)
  range-at a (suc n) e i l h = cases (eqb i a)
      (λ y. rw (eqb-true i a y) (and_left (p a) _ e))
      (λ y. let ne : i ≡ a → ⊥ = eqb-false i a y in range-at (a + 1) n (and_right (p a) _ e) i (omega arith) (omega arith))

  range-all : (a n : ℕ) → ((i : ℕ) → a ≤ i → i < a + n → p i ≡ true) → list_all p (range_with_len a n) ≡ true
  range-all a zero e = refl
  range-all a (suc n) e = and_both (p a) _ (e a (omega arith) (omega arith))
      (range-all (a + 1) n (λ i l h. e i (omega arith) (omega arith)))

  pub all-below : (n : ℕ) → list_all p (range_with_len 0 n) ≡ below n p
  all-below n = same_truth (list_all p (range_with_len 0 n)) (below n p)
      (λ e. below_all n p (λ i l. range-at 0 n e i (omega arith) (omega arith)))
      (λ e. range-all 0 n (λ i l h. below_at n p e i (omega arith)))

  pub count-no-number : (n : ℕ) → ((i : ℕ) → i < n → p i ≡ false) → count_below p n ≡ 0
  unfolding count_below
  count-no-number zero e = refl
  count-no-number (suc n) e = rw (e n (omega arith)) (count-no-number n (λ i l. e i (omega arith)))

  -- A number that passes alone.
  pub count-one-number : (i n : ℕ) → i < n → p i ≡ true → ((j : ℕ) → j < n → p j ≡ true → j ≡ i) → count_below p n ≡ 1
  unfolding count_below
  count-one-number i zero l y only = absurd (omega arith)
  count-one-number i (suc n) l y only = cases (p n)
      (λ t. let q = only n (omega arith) t in rw t (ap suc (count-no-number n (λ j h. cases (p j)
      (λ s. let z = only j (omega arith) s in absurd (omega arith))
      (λ s. s)))))
      (λ t. cases (eqb i n)
      (λ s. let q : i ≡ n = eqb-true i n s in neither (p n) (rw q at y) t)
      (λ s. let ne : i ≡ n → ⊥ = eqb-false i n s in rw t (count-one-number i n (omega arith) y (λ j h. only j (omega arith)))))

  pub count-within : (n : ℕ) → count_below p n ≤ n
  unfolding count_below
  count-within zero = omega arith
  count-within (suc n) = cases (p n)
      (λ t. let r = count-within n in rw t (omega arith))
      (λ t. let r = count-within n in rw t (omega arith))

  -- Those from a to b pass, and no others.
  pub count-span : (a b n : ℕ) → a ≤ b → b ≤ n → ((i : ℕ) → a ≤ i → i < b → p i ≡ true) → ((i : ℕ) → i < n → p i ≡ true → (a ≤ i) × (i < b))
      → count_below p n ≡ b - a
  unfolding count_below
  count-span a b zero l h here only = omega arith
  count-span a b (suc n) l h here only = cases (p n)
      (λ t. let r = only n (omega arith) t in
      let k = count-span a n n r.0 (omega arith) (λ i g f. here i g (omega (arith, r.1))) (λ i g y. ((only i (omega arith) y).0, g)) in
      rw t (omega (arith, k, r.0, r.1)))
      (λ t. cases (leb b n)
      (λ s. rw t (count-span a b n l (leb-true b n s) here (λ i g. only i (omega arith))))
      (λ s. let e : n < b = leb-false b n s in
      cases (leb a n)
      (λ u. neither (p n) (here n (leb-true a n u) e) t)
      (λ u. let f : n < a = leb-false a n u in
      rw (
        t,
        count-no-number n (λ i g. cases (p i)
            (λ y. absurd (omega (arith, (only i (omega arith) y).0)))
            (λ y. y)),
      ) (omega arith))))

pub count_same : (p q : ℕ → Bool) (n : ℕ) → ((i : ℕ) → i < n → p i ≡ q i) → count_below p n ≡ count_below q n
unfolding count_below
count_same p q zero e = refl
count_same p q (suc n) e = rw (e n (omega arith), count_same p q n (λ i l. e i (omega arith)))

-- The record of a row found at its number.
pub row_cell : (rows : List Row) (i : ℕ) {r : Row} → r ≡ whole_row rows i → r.cell ≡ cell_at rows i
unfolding cell_at
row_cell rows i e = ap (λ (x : Row). x.cell) e

module _ (rows : List Row) where
  next-cell : (i : ℕ) → i < length rows → cells_in (take (suc i) rows) ≡ cells_in (take i rows) ++ (cell_at rows i ∷ [])
  unfolding cell_at
  next-cell i l = rw (add-one i) at (cells-more rows i blank_row l)

  all-cells : {A : Type 0} (f : List Cell → A) → f (cells_in (take (length rows) rows)) ≡ f (cells_in rows)
  all-cells f = ap (λ (x : List Row). f (cells_in x)) (take-length rows)

  count-cells : (p : Cell → Bool) (i : ℕ) → i ≤ length rows → count_of p (cells_in (take i rows)) ≡ count_below (λ j. p (cell_at rows j)) i
  unfolding count_below count_of cells_in
  count-cells p zero h = refl
  count-cells p (suc i) h = rw (
    next-cell i (omega arith),
    count-append p (cells_in (take i rows)) (cell_at rows i ∷ []),
    count-cells p i (omega arith),
  ) (cases (p (cell_at rows i))
      (λ t. rw t (omega arith))
      (λ t. rw t (omega arith)))

  -- The records that pass, counted by their rows' numbers.
  pub count-rows : (p : Cell → Bool) → count_of p (cells_in rows) ≡ count_below (λ j. p (cell_at rows j)) (length rows)
  count-rows p = sym (all-cells (count_of p)) ∙ count-cells p (length rows) (omega arith)

  every-cell : (p : Cell → Bool) (i : ℕ) → i ≤ length rows → ((j : ℕ) → j < i → p (cell_at rows j) ≡ true)
      → every p (cells_in (take i rows)) ≡ true
  unfolding every cells_in
  every-cell p zero h e = refl
  every-cell p (suc i) h e = rw (
    next-cell i (omega arith),
    every_append p (cells_in (take i rows)) (cell_at rows i ∷ []),
    every-cell p i (omega arith) (λ j l. e j (omega arith)),
    e i (omega arith),
  )

  -- What each row's record passes, all records pass.
  pub every-row : (p : Cell → Bool) → ((j : ℕ) → j < length rows → p (cell_at rows j) ≡ true) → every p (cells_in rows) ≡ true
  every-row p e = sym (all-cells (every p)) ∙ every-cell p (length rows) (omega arith) e
