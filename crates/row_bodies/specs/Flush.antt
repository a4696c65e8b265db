-- The bodies that stand in the bytes that are worked on, a datagram's or an image's, copied into the store, and the rows afterwards.
use Rattle.std.specs.Prelude.{ℕ, suc, ◌*◌, ◌-◌, cond, List, [], ◌∷◌, map, take, drop}
use Rattle.base.specs.Put.{put}
use Rattle.cells.specs.Store.{cell_size}
use Rattle.rows.specs.declared.Row.{Row}
use Rattle.rows.specs.Rows.{cell_of, stored_row, blank_row, change_row}
use Rattle.row_tests.specs.Uses.{uses}
use Rattle.row_slots.specs.Slots.{is_placed}
use Rattle.cells.specs.Cell.{released_use}

-- the store once the body of row i was copied, if the row has one in the bytes d
unfoldable pub flushed_row : ℕ → Row → List ℕ → List ℕ → List ℕ
flushed_row i r store d = cond (is_placed r) (put store (i * cell_size) (take r.cell.length (drop (r.place - 1) d))) store

-- and once those of rows i, i + 1, .. were
unfoldable pub flushed_rows : ℕ → List Row → List ℕ → List ℕ → List ℕ
flushed_rows i [] store d = store
flushed_rows i (r ∷ rs) store d = flushed_rows (suc i) rs (flushed_row i r store d) d

-- a row whose body stands in the store
unfoldable pub stored : Row → Row
stored r = stored_row (cell_of r)

-- a row afterwards: that of a joined message dropped late is free
unfoldable pub settled : Row → Row
settled r = stored (change_row (uses released_use) (λ _. blank_row) r)

unfoldable pub settled_rows : List Row → List Row
settled_rows rs = map settled rs
