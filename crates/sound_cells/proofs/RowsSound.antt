-- Cells of one message, and what each used row must show for the cells to be sound: `rows-sound`.
-- Assumes nothing.
use Prim.Native.Nat.{ℕ, ◌<◌, ◌≤◌}
use mathlib.Core.Path.{◌≡◌, refl, sym, ◌∙◌}
use mathlib.Core.Bool.{true, false, cond, not}
use mathlib.Core.List.{List}
use native.Mathlib.Omega.{arith}
use lib.ListN.{length}
use lib.Dec.{leb, eqb}
use borrow.Author.Tests.{leb-true, eqb-true, eqb-false, eq-eqb}
use Rattle.base.specs.Lists.{count_of}
use Rattle.base.proofs.Choices.{cases, and_left, and_right, and_both}
use Rattle.cells.specs.Cell.{Cell, bears, at}
use Rattle.cells.specs.Sound.{key_of, limits, alike, sound_cells}
use Rattle.rows.specs.declared.Row.{Row}
use Rattle.rows.specs.Rows.{cells_in}
use Rattle.sound_cells.specs.Counted.{mate, twin, unlike, all_mates, ahead_of_next, counted_cell}
use Rattle.sound_cells.specs.Sorted.{cell_at}
use Rattle.sound_cells.proofs.Counting.{bears-used, bears-key, counted-sound}
use Rattle.sound_cells.proofs.Numbered.{count_below, count-no-number, count-one-number, count-rows, every-row}

module _ (c d : Cell) where
  pub mate-key : mate c d ≡ true → key_of d ≡ key_of c
  unfolding mate
  mate-key e = bears-key (key_of c) d e

  pub mate-used : mate c d ≡ true → eqb d.used 0 ≡ false
  unfolding mate
  mate-used e = bears-used (key_of c) d e

  pub twin-mate : twin c d ≡ true → mate c d ≡ true
  unfolding twin mate at
  twin-mate e = and_left (bears (key_of c) d) _ e

  pub twin-index : twin c d ≡ true → d.index ≡ c.index
  unfolding twin at
  twin-index e = eqb-true d.index c.index (and_right (bears (key_of c) d) _ e)

own_key : (c : Cell) → eqb c.used 0 ≡ false → limits c ≡ true → bears (key_of c) c ≡ true
unfolding key_of bears limits
own_key c e f =
    let le : c.used ≤ 3 = leb-true _ _ (and_left (leb c.used 3) _ f) in
    let n : c.used ≡ 0 → ⊥ = eqb-false _ _ e in
    cases (eqb c.used 1)
    (λ y. rw y (and_both _ _ y (eq-eqb c.id _ refl)))
    (λ y. cases (eqb c.used 2)
    (λ z. rw (y, z) (and_both _ _ z (and_both _ _ (eq-eqb c.channel _ refl) (eq-eqb c.order _ refl))))
    (λ z. rw (y, z) (let a : c.used ≡ 1 → ⊥ = eqb-false _ _ y in let b : c.used ≡ 2 → ⊥ = eqb-false _ _ z in
    and_both _ _ (eq-eqb c.used 3 (omega arith)) (eq-eqb c.turn _ refl))))

own-twin : (c : Cell) → eqb c.used 0 ≡ false → limits c ≡ true → twin c c ≡ true
unfolding twin at
own-twin c e f = and_both _ _ (own_key c e f) (eq-eqb c.index _ refl)

pub same-key-mate : (c d : Cell) → eqb d.used 0 ≡ false → limits d ≡ true → key_of d ≡ key_of c → mate c d ≡ true
unfolding mate
same-key-mate c d u l e = rw (← e) (own_key d u l)

-- Of a used row i: it is within the limits; no other row has its message and index; the rows of its message are like it, and are as many
-- as they must be.
module _ (rows : List Row) (next : ℕ → ℕ) where
  pub record Passing (i : ℕ) : Type 0 where
    pub limit : limits (cell_at rows i) ≡ true
    pub over : ahead_of_next next (cell_at rows i) ≡ true
    pub alone : (j : ℕ) → j < length rows → twin (cell_at rows i) (cell_at rows j) ≡ true → j ≡ i
    pub like : (j : ℕ) → j < length rows → mate (cell_at rows i) (cell_at rows j) ≡ true → alike (cell_at rows i) (cell_at rows j) ≡ true
    pub mates : ℕ
    pub counted : count_below (λ j. mate (cell_at rows i) (cell_at rows j)) (length rows) ≡ mates
    pub due : cond (eqb (cell_at rows i).used 1) (not (eqb mates (cell_at rows i).count)) (eqb mates (cell_at rows i).count) ≡ true

  module _ (i : ℕ) (l : i < length rows) (u : eqb (cell_at rows i).used 0 ≡ false) (p : Passing i) where
    one-twin : count_of (twin (cell_at rows i)) (cells_in rows) ≡ 1
    one-twin = count-rows rows (twin (cell_at rows i)) ∙ count-one-number (λ j. twin (cell_at rows i) (cell_at rows j)) i (length rows) l
        (own-twin (cell_at rows i) u p.limit) p.alone

    like-bears : (j : ℕ) → j < length rows → bears (key_of (cell_at rows i)) (cell_at rows j) ≡ true
        → alike (cell_at rows i) (cell_at rows j) ≡ true
    unfolding mate
    like-bears = p.like

    none-unlike : count_of (unlike (cell_at rows i)) (cells_in rows) ≡ 0
    unfolding unlike
    none-unlike = count-rows rows (unlike (cell_at rows i)) ∙ count-no-number (λ j. unlike (cell_at rows i) (cell_at rows j)) (length rows)
        (λ j h. cases (bears (key_of (cell_at rows i)) (cell_at rows j))
        (λ e. rw (e, like-bears j h e))
        (λ e. rw e))

    row-counted : counted_cell (cells_in rows) next (cell_at rows i) ≡ true
    unfolding counted_cell all_mates
    row-counted = rw (
      u,
      p.limit,
      one-twin,
      none-unlike,
      p.over,
      count-rows rows (mate (cell_at rows i)) ∙ p.counted,
      eq-eqb 1 1 refl,
      eq-eqb 0 0 refl,
    ) (and_both _ _ p.due refl)

  unused-counted : (i : ℕ) → eqb (cell_at rows i).used 0 ≡ true → counted_cell (cells_in rows) next (cell_at rows i) ≡ true
  unfolding counted_cell
  unused-counted i y = rw y

  pub rows-sound : ((i : ℕ) → i < length rows → eqb (cell_at rows i).used 0 ≡ false → Passing i) → sound_cells (cells_in rows) next ≡ true
  rows-sound all = sym (counted-sound (cells_in rows) next) ∙ every-row rows (counted_cell (cells_in rows) next)
      (λ i l. cases (eqb (cell_at rows i).used 0)
      (λ y. unused-counted i y)
      (λ y. row-counted i l y (all i l y)))
