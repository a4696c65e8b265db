-- Turns renumbered: the ready messages' turns become 0, 1, 2, .. in their order.
use Rattle.std.specs.Prelude.{ℕ, ◌+◌, ◌-◌, ◌%◌, ◌≤◌, ◌≡◌, min, max, Bool, true, false, cond, not, ◌&&◌, ◌||◌, List, map}
use Rattle.std.specs.Prelude.{ltb, leb, eqb, length, get_or, set}
use Rattle.base.specs.If.{if_eq, if_le}
use Rattle.base.specs.Limits.{max_cells}
use Rattle.base.specs.Lists.{every, count_of, only}
use Rattle.cells.specs.Cell.{Cell, ready_use}
use Rattle.cells.specs.Records.{first_cell, before_cell}
use Rattle.rows.specs.declared.Row.{Row}
use Rattle.rows.specs.Rows.{cells_in, mark_row, change_rows}
use Rattle.row_tests.specs.Uses.{uses}
use Rattle.row_ranks.specs.declared.Turns.{Turns}

-- A ready cell's turn becomes the number of ready messages before its own. More rows than document 01 has cells are left as they are.
unfoldable pub renumbered : List Row → List Row
renumbered rows =
    if_le (length rows) max_cells
    (change_rows (uses ready_use) (λ r. mark_row ready_use (count_of (before_cell r.cell.turn) (cells_in rows)) r) rows)
    rows

-- ---- how it is computed

-- with one more ready cell: the first cells' number, and of all ready cells the least and the greatest turn
unfoldable pub with_turn : Turns → Cell → Turns
with_turn t c = record {
  firsts = t.firsts + cond (eqb c.index 0) 1 0;
  least = min t.least c.turn;
  top = max t.top c.turn;
}

-- Marks for first cells, by their turns' remainders. A ready cell that is first has its mark set, and is new where it was not.
unfoldable pub mark_at : List Bool → Cell → ℕ
mark_at marks c = c.turn % length marks

unfoldable pub is_new : List Bool → Cell → Bool
is_new marks c = not (eqb c.index 0) || not (get_or marks (mark_at marks c) false)

unfoldable pub marked_with : List Bool → Cell → List Bool
marked_with marks c = cond (eqb c.index 0) (set marks (mark_at marks c) true) marks

-- Do first cells of different turns fill all from the least to the greatest? (The greatest is the less where no cell is ready.)
unfoldable pub gapless : Turns → Bool
gapless t = ltb t.top t.least || (ltb 0 t.firsts && eqb (t.top - t.least) (t.firsts - 1))

-- then each turn is so much above its rank
unfoldable pub excess : Turns → ℕ
excess t = cond (ltb t.top t.least) 0 t.least

unfoldable pub lower_row : ℕ → Row → Row
lower_row by r = mark_row ready_use (r.cell.turn - by) r

-- and none is written where that is 0
unfoldable pub lowered : ℕ → List Row → List Row
lowered by rows = if_eq by 0 rows (change_rows (uses ready_use) (lower_row by) rows)

-- a ready message's first cell of this turn, and a ready cell of a turn between these two
unfoldable pub first_of_turn : ℕ → Cell → Bool
first_of_turn turn c = first_cell c && eqb c.turn turn

unfoldable pub between : ℕ → ℕ → Cell → Bool
between least top c = not (uses ready_use c) || (leb least c.turn && leb c.turn top)

-- Is a ready cell's age 0? (It is in records that our calls left, but no rule says so.)
unfoldable pub ageless : Cell → Bool
ageless c = not (uses ready_use c) || eqb c.age 0

-- what a survey of the cells tells: first cells counted, each of another turn, the bounds of the ready cells' turns, and that their ages
-- are 0, as renumbering leaves them
pub record Surveyed (cs : List Cell) (t : Turns) : Type 0 where
  pub count : t.firsts ≡ count_of first_cell cs
  pub once : (v : ℕ) → count_of (first_of_turn v) cs ≤ 1
  pub within : every (between t.least t.top) cs ≡ true
  pub ages : every ageless cs ≡ true

-- the turns of the ready messages, each as its first record has it
unfoldable pub first_turns : List Cell → List ℕ
first_turns cs = map (λ (c : Cell). c.turn) (only first_cell cs)

unfoldable pub is_below : ℕ → ℕ → Bool
is_below t u = ltb u t

-- a row whose turn becomes the number of those turns that are below it
unfoldable pub rank_row : List ℕ → Row → Row
rank_row turns r = mark_row ready_use (count_of (is_below r.cell.turn) turns) r
