-- Soundness told from entries in ascending order. An entry holds a cell's message and index, and the number of its row. Nothing is asked of
-- how the entries came about: where they pass these tests, the cells are sound (proofs/Certified.antt).
use Rattle.std.specs.Prelude.{ℕ, zero, suc, ◌+◌, ◌*◌, ◌/◌, ◌%◌, ◌-◌, Bool, cond, not, ◌&&◌, ◌||◌, List, ltb, eqb, length, get_or, set}
use Rattle.base.specs.Limits.{max_cells, max_frags}
use Rattle.base.specs.Lists.{below}
use Rattle.cells.specs.Cell.{Cell, Key, open_as, held_as, ready_as, open_use, unused_use}
use Rattle.cells.specs.Sound.{key_of, limits, alike}
use Rattle.rows.specs.declared.Row.{Row}
use Rattle.rows.specs.Rows.{whole_row}
use Rattle.sound_cells.specs.Counted.{mate, ahead_of_next}
use Rattle.sound_cells.specs.declared.order.entries.Place.{Place}

-- the record of row i; a blank one where there is none
unfoldable pub cell_at : List Row → ℕ → Cell
cell_at rows i = (whole_row rows i).cell

-- the places noted for row i; zeros where there are none
abbrev pub place_of : List Place → ℕ → Place
place_of places i = get_or places i (record { rank = 0; lead = 0 })

-- a message's key as a number; of a cell within the limits it has 34 bits
unfoldable pub key_number : Key → ℕ
key_number (open_as id) = 4294967296 + id
key_number (held_as channel order) = 8589934592 + (channel * 16777216 + order)
key_number (ready_as turn) = 12884901888 + turn

-- what an entry has of a cell's message, and of its index besides
unfoldable pub key_part : Cell → ℕ
key_part c = key_number (key_of c) % 4398046511104

unfoldable pub upper_part : Cell → ℕ
upper_part c = key_part c * max_frags + c.index % max_frags

-- of the entry at place t: message and index; the message; the row
abbrev pub upper_at : List ℕ → ℕ → ℕ
upper_at es t = get_or es t 0 / max_cells

abbrev pub key_at : List ℕ → ℕ → ℕ
key_at es t = get_or es t 0 / max_cells / max_frags

abbrev pub row_number_at : List ℕ → ℕ → ℕ
row_number_at es t = get_or es t 0 % max_cells

-- do the entries ascend from place t to the next?
abbrev pub rises : List ℕ → ℕ → Bool
rises es t = ltb (upper_at es t) (upper_at es (t + 1))

-- do they all?
unfoldable pub all_rise : List ℕ → Bool
all_rise es = below (length es - 1) (rises es)

-- is c, of row i, the cell of the entry at place p?
unfoldable pub is_own : List ℕ → ℕ → ℕ → Cell → Bool
is_own es p i c = ltb p (length es) && (eqb (upper_at es p) (upper_part c) && eqb (row_number_at es p) i)

-- do the entries of c's message begin after place q, with one of a cell that is like c?
unfoldable pub is_led : List Row → List ℕ → ℕ → Cell → Bool
is_led rows es q c =
    ltb q (length es - 1)
    && (not (eqb (key_at es q) (key_at es (q + 1)))
    && (eqb (key_at es (q + 1)) (key_part c)
    && (mate c (cell_at rows (row_number_at es (q + 1))) && alike c (cell_at rows (row_number_at es (q + 1))))))

-- both, with the places noted for row i, and all that is asked of the cell alone
unfoldable pub is_placed_entry : List Row → (ℕ → ℕ) → List ℕ → List Place → ℕ → Bool
is_placed_entry rows next es places i =
    eqb (cell_at rows i).used unused_use
    || ((limits (cell_at rows i) && ahead_of_next next (cell_at rows i))
    && (is_own es ((place_of places i).rank) i (cell_at rows i) && is_led rows es ((place_of places i).lead) (cell_at rows i)))

-- one more at place q, for a used cell
unfoldable pub counted : List ℕ → Cell → ℕ → List ℕ
counted counts c q = cond (eqb c.used unused_use) counts (set counts q (get_or counts q 0 + 1))

-- the used cells of the first i rows, counted at the places noted for them
unfoldable pub tallied : List Row → List Place → List ℕ → ℕ → List ℕ
tallied rows places counts zero = counts
tallied rows places counts (suc i) = counted (tallied rows places counts i) (cell_at rows i) ((place_of places i).lead)

-- is a cell's message whole or not, as it must be, by its count, where it has so many cells?
unfoldable pub due_cell : Cell → ℕ → Bool
due_cell c mates = eqb c.used unused_use || cond (eqb c.used open_use) (not (eqb mates c.count)) (eqb mates c.count)

-- is row i's?
unfoldable pub is_due : List Row → List Place → List ℕ → ℕ → Bool
is_due rows places counts i = due_cell (cell_at rows i) (get_or counts ((place_of places i).lead) 0)
