-- Rows, and the cells' records that they stand for.
use Rattle.std.specs.Prelude.{ℕ, Bool, cond, List, map, get_or}
use Rattle.cells.specs.Ages.{next_age, with_age}
use Rattle.cells.specs.Cell.{Cell, mark_cell, empty_cell}
use Rattle.rows.specs.declared.Row.{Row}

-- the record that a row stands for
abbrev pub cell_of : Row → Cell
cell_of r = r.cell

-- a record's row: its body stands in the store
abbrev pub stored_row : Cell → Row
stored_row c = record { cell = c; place = 0 }

unfoldable pub cells_in : List Row → List Cell
cells_in rows = map cell_of rows

-- a row with another use and turn
unfoldable pub mark_row : ℕ → ℕ → Row → Row
mark_row u t r = record { cell = mark_cell u t r.cell; place = r.place }

-- a row with another age, and one that grows older by a datagram
unfoldable pub age_row : ℕ → Row → Row
age_row a r = record { cell = with_age a r.cell; place = r.place }

unfoldable pub older_row : Row → Row
older_row r = age_row (next_age r.cell.age) r

-- the row of an unused cell
unfoldable pub blank_row : Row
blank_row = stored_row empty_cell

-- element i of the rows; a blank row where there is none
abbrev pub whole_row : List Row → ℕ → Row
whole_row rows i = get_or rows i blank_row

-- the rows whose records pass are changed
unfoldable pub change_row : (Cell → Bool) → (Row → Row) → Row → Row
change_row p g r = cond (p (cell_of r)) (g r) r

unfoldable pub change_rows : (Cell → Bool) → (Row → Row) → List Row → List Row
change_rows p g rows = map (change_row p g) rows
