-- "Sound" of cells, asked by counting: a message's cells are all there exactly when they are as many as its count says
-- (proofs/Counting.antt).
use Rattle.std.specs.Prelude.{ℕ, Bool, cond, not, ◌&&◌, ◌||◌, List, ltb, eqb}
use Rattle.base.specs.Lists.{count_of}
use Rattle.cells.specs.Cell.{Cell, bears, at, held_use, open_use, unused_use}
use Rattle.cells.specs.Sound.{key_of, limits, alike}
use Rattle.sound_cells.specs.declared.Tally.{Tally}

-- a cell of c's message
unfoldable pub mate : Cell → Cell → Bool
mate c d = bears (key_of c) d

-- a cell of c's message that has c's index
unfoldable pub twin : Cell → Cell → Bool
twin c d = at (key_of c) c.index d

-- a cell of c's message that is not like c
unfoldable pub unlike : Cell → Cell → Bool
unlike c d = bears (key_of c) d && not (alike c d)

-- how many of each there are
unfoldable pub mates_of : List Cell → Cell → Tally
mates_of cs c = record { mates = count_of (mate c) cs; twins = count_of (twin c) cs; unlike = count_of (unlike c) cs }

-- are as many cells of c's message there as its count says?
unfoldable pub all_mates : List Cell → Cell → Bool
all_mates cs c = eqb (count_of (mate c) cs) c.count

-- held order numbers "exceed [the channel's] next"
unfoldable pub ahead_of_next : (ℕ → ℕ) → Cell → Bool
ahead_of_next next c = not (eqb c.used held_use) || ltb (next c.channel) c.order

-- `sound_cell` of cells/specs/Sound.antt, with counts in place of its other questions about the cells
unfoldable pub counted_cell : List Cell → (ℕ → ℕ) → Cell → Bool
counted_cell cs next c =
    eqb c.used unused_use
    || (limits c
    && (eqb (count_of (twin c) cs) 1
    && (eqb (count_of (unlike c) cs) 0
    && (cond (eqb c.used open_use) (not (all_mates cs c)) (all_mates cs c) && ahead_of_next next c))))
