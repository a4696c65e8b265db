-- Every decision looks at the records alone, never at a body: what code that has only the records computes.
-- Assumes nothing.
use Prim.Native.Nat.{ℕ, zero, suc}
use mathlib.Core.Path.{◌≡◌, refl, sym, ◌∙◌, ap}
use mathlib.Core.Bool.{Bool, true, false, cond, ◌||◌}
use mathlib.Core.List.{List, [], ◌∷◌}
use lib.ListN.{set}
use lib.Dec.{eqb}
use Rattle.base.specs.Lists.{any, count_of, below}
use Rattle.base.proofs.Choices.{cond-ap}
use Rattle.bare.specs.Frame.{Frame}
use Rattle.bare.specs.Bare.{conflict}
use Rattle.cells.specs.Records.{unused_at, change_cells, clash_cell, before_cell, earliest_cell}
use Rattle.cells.specs.Cell.{Cell, Slot, Key, held_as, bears, at, of, sits, is_free, is_open, is_ready, all_there, piece_in, clash}
use Rattle.cells.specs.Cell.{mark_cell, mark, empty_cell, empty_slot, change, map_if, turn_to, freed, put_slot}
use Rattle.cells.specs.Ages.{is_stale, dropped}
use Rattle.cells.specs.Datagram.{is_held, is_first, is_before, rank}
use Rattle.cells.specs.Take.{earliest}
use Rattle.cells.specs.Sound.{lacks_none}
use Rattle.cells.specs.Store.{cells_of}

pub any_cells : (p : Cell → Bool) (l : List Slot) → any p (cells_of l) ≡ any (λ s. p s.cell) l
unfolding any cells_of
any_cells p [] = refl
any_cells p (s ∷ l) = ap (λ (b : Bool). p s.cell || b) (any_cells p l)

pub count-cells : (p : Cell → Bool) (l : List Slot) → count_of p (cells_of l) ≡ count_of (λ s. p s.cell) l
unfolding count_of cells_of
count-cells p [] = refl
count-cells p (s ∷ l) = ap (λ (n : ℕ). cond (p s.cell) (suc n) n) (count-cells p l)

pub there-cells : (k : Key) (l : List Slot) (n : ℕ) → lacks_none k (cells_of l) n ≡ all_there k l n
unfolding lacks_none all_there below sits
there-cells k l zero = refl
there-cells k l (suc n) = rw (there-cells k l n, any_cells (at k n) l)

-- A change that reads only the record changes only the record.
cells-change : (q : Slot → Bool) (g : Slot → Slot) (p : Cell → Bool) (k : Cell → Cell) → ((s : Slot) → q s ≡ p s.cell)
    → ((s : Slot) → (g s).cell ≡ k s.cell) → (l : List Slot) → cells_of (map_if q g l) ≡ change_cells p k (cells_of l)
unfolding cells_of map_if change change_cells
cells-change q g p k e f [] = refl
cells-change q g p k e f (s ∷ l) =
    let a : (cond (q s) (g s) s).cell ≡ cond (p s.cell) (k s.cell) s.cell = cond-ap (λ (x : Slot). x.cell) (q s) (g s) s
    ∙ rw (e s, f s) in
    let b = cells-change q g p k e f l in
    cc (a, b)

pub cells-turn : (k : Key) (u t : ℕ) (l : List Slot) → cells_of (turn_to k u t l) ≡ change_cells (bears k) (mark_cell u t) (cells_of l)
unfolding turn_to of mark
cells-turn k u t l = cells-change (of k) (mark u t) (bears k) (mark_cell u t) (λ s. refl) (λ s. refl) l

pub cells-freed : (k : Key) (l : List Slot) → cells_of (freed k l) ≡ change_cells (bears k) (λ c. empty_cell) (cells_of l)
unfolding freed of empty_slot
cells-freed k l = cells-change (of k) (λ s. empty_slot) (bears k) (λ c. empty_cell) (λ s. refl) (λ s. refl) l

pub cells-dropped : (n : ℕ) (l : List Slot) → cells_of (dropped n l) ≡ change_cells (is_stale n) (λ c. empty_cell) (cells_of l)
unfolding dropped empty_slot
cells-dropped n l = cells-change (λ s. is_stale n s.cell) (λ s. empty_slot) (is_stale n) (λ c. empty_cell) (λ s. refl) (λ s. refl) l

pub cells-put : (x : Slot) (l : List Slot) → cells_of (put_slot x l) ≡ set (cells_of l) (unused_at (cells_of l)) x.cell
unfolding put_slot unused_at cells_of is_free
cells-put x [] = refl
cells-put x (s ∷ l) = go (is_free s) (cells-put x l)
  where
    go : (t : Bool) → cells_of (put_slot x l) ≡ set (cells_of l) (unused_at (cells_of l)) x.cell
        → cells_of (cond t (x ∷ l) (s ∷ put_slot x l))
        ≡ set (s.cell ∷ cells_of l) (cond t 0 (suc (unused_at (cells_of l)))) x.cell
    go true e = refl
    go false e = ap {B = List Cell} (λ r. s.cell ∷ r) e

pub clash-cells : (f : Frame) (l : List Slot) → any (clash f) l ≡ any (clash_cell f) (cells_of l)
unfolding clash clash_cell is_open conflict piece_in
clash-cells f l = sym (any_cells (clash_cell f) l)

pub held-cells : (c o : ℕ) (l : List Slot) → is_held c o l ≡ any (bears (held_as c o)) (cells_of l)
unfolding is_held of
held-cells c o l = sym (any_cells (bears (held_as c o)) l)

pub room-cells : (l : List Slot) → any is_free l ≡ any (λ c. eqb c.used 0) (cells_of l)
unfolding is_free
room-cells l = sym (any_cells (λ c. eqb c.used 0) l)

pub rank-cells : (l : List Slot) (t : ℕ) → rank l t ≡ count_of (before_cell t) (cells_of l)
unfolding rank is_before is_first is_ready before_cell
rank-cells l t = sym (count-cells (before_cell t) l)

pub earliest-cells : (l : List Slot) → earliest l ≡ earliest_cell (cells_of l)
unfolding earliest earliest_cell cells_of is_ready
earliest-cells [] = refl
earliest-cells (s ∷ l) = rw (earliest-cells l)
