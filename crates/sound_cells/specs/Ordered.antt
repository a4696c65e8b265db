-- Soundness told from the rows' own order, in one pass: the rows of a message stand one after the other, and its key has not occurred
-- before. Where all rows pass, the cells are sound (proofs/Ordered.antt); where one does not, nothing is told.
use Rattle.std.specs.Prelude.{ℕ, ◌+◌, ◌*◌, ◌/◌, ◌%◌, ◌^◌, Bool, cond, not, ◌&&◌, ◌||◌, List, ltb, leb, eqb, get_or, set}
use Rattle.base.specs.Limits.{numbers16, cell_bytes}
use Rattle.window.specs.Places.{bit}
use Rattle.cells.specs.Cell.{Cell, unused_use}
use Rattle.cells.specs.Sound.{alike}
use Rattle.sound_cells.specs.Counted.{mate}

-- is bit n, of 64, set? the number with this bit set
unfoldable pub has_bit : ℕ → ℕ → Bool
has_bit bits n = eqb (bit bits (n % 64)) 1

unfoldable pub with_bit : ℕ → ℕ → ℕ
with_bit bits n = cond (has_bit bits n) bits (bits + 2 ^ (n % 64))

-- Of the keys that occurred, as numbers (`key_part`), the greatest is known, and for each use a word with a bit of each: word 1 for open
-- messages, 2 for held and 3 for ready ones. A key's word and bit:
unfoldable pub word_of : ℕ → ℕ
word_of key = key / 4294967296 % 4

unfoldable pub mark_of : ℕ → ℕ
mark_of key = key % 64 + key / 16777216 % 64 * 7

-- A key has not occurred if it is greater than all that have, or if its bit is not among theirs.
unfoldable pub is_fresh : List ℕ → ℕ → ℕ → Bool
is_fresh seen greatest key = ltb greatest key || not (has_bit (get_or seen (word_of key) 0) (mark_of key))

-- the words once a key has occurred
unfoldable pub noted : List ℕ → ℕ → List ℕ
noted seen key = set seen (word_of key) (with_bit (get_or seen (word_of key) 0) (mark_of key))

-- is d one more cell of the message of a, the cell before it? (Of the limits, those that do not follow from its being like a.)
unfoldable pub message_goes_on : Cell → Cell → Bool
message_goes_on a d = not (eqb a.count 1) && (mate a d && (alike d a && (not (eqb a.used unused_use) && (ltb a.index d.index
    && (ltb d.index d.count && (leb d.length cell_bytes && ltb d.id numbers16))))))
