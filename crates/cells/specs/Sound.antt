-- "Sound means no more than this", as far as it speaks of cells and nexts (those on windows and unsent numbers: receiver/specs/Queue): a
-- test over the records.
use Rattle.std.specs.Prelude.{ℕ, ◌*◌, ◌≤◌, ◌<◌, Bool, cond, not, ◌&&◌, ◌||◌, List, length, ltb, leb, eqb}
use Rattle.base.specs.Limits.{numbers16, numbers24, max_ord_chans, memories, max_frags, max_cells, cell_bytes, max_age}
use Rattle.base.specs.Lists.{any, every, count_of, below}
use Rattle.bare.specs.Frame.{Frame}
use Rattle.cells.specs.Cell.{Cell, Key, open_as, held_as, ready_as, bears, at, held_use, open_use, ready_use, unused_use}

-- "each used cell belongs to one open, held or ready message": to which
unfoldable pub key_of : Cell → Key
key_of c = cond (eqb c.used open_use) (open_as c.id) (cond (eqb c.used held_use) (held_as c.channel c.order) (ready_as c.turn))

-- an open record's age (request 4); no rule looks at any other's
unfoldable pub age_of : Cell → ℕ
age_of c = cond (eqb c.used open_use) c.age 0

-- "values and body lengths obey the limits"; "the age kept for an id stops at 2^32"
unfoldable pub limits : Cell → Bool
limits c =
    leb c.used ready_use && (leb c.kind 7 && (ltb c.channel max_ord_chans && (ltb c.sequence numbers24 && (ltb c.order numbers24
    && (leb 1 c.count && (leb c.count max_frags && (ltb c.index c.count
    && (leb c.length cell_bytes && (ltb c.id numbers16 && leb (age_of c) max_age)))))))))

-- "the pieces of a message agree as in step 3"
unfoldable pub agree : Cell → Cell → Bool
agree c d = eqb c.count d.count && (eqb c.kind d.kind
    && (eqb c.sequence d.sequence && (eqb c.order d.order && eqb c.channel d.channel)))

-- and the open ones of an id have one age, "the age kept for an id"
unfoldable pub alike : Cell → Cell → Bool
alike c d = agree c d && eqb (age_of c) (age_of d)

-- are all indices below n there?
unfoldable pub lacks_none : Key → List Cell → ℕ → Bool
lacks_none k cs n = below n (λ i. any (at k i) cs)

-- A cell is unused (then nothing else of it is looked at); or it is within the limits, "under an index no other cell of [its message] has",
-- and is like the message's other cells; "held and ready messages lack no index", open ones do; held order numbers "exceed [the
-- channel's] next".
unfoldable pub sound_cell : List Cell → (ℕ → ℕ) → Cell → Bool
sound_cell cs next c =
    eqb c.used unused_use
    || (limits c
    && (eqb (count_of (at (key_of c) c.index) cs) 1
    && (every (λ d. not (bears (key_of c) d) || alike c d) cs
    && (cond (eqb c.used open_use) (not (lacks_none (key_of c) cs c.count)) (lacks_none (key_of c) cs c.count)
    && (not (eqb c.used held_use) || ltb (next c.channel) c.order)))))

-- "values .. obey the limits", of the receiver's own values: each channel's next is at most 2^24
abbrev pub sound_nexts : (ℕ → ℕ) → Bool
sound_nexts next = below max_ord_chans (λ c. leb (next c) numbers24)

-- each memory, the newest sequence number plus 1, is at most 2^24: likewise
abbrev pub sound_memories : (ℕ → ℕ) → Bool
sound_memories newest = below memories (λ m. leb (newest m) numbers24)

-- all cells are sound
abbrev pub sound_cells : List Cell → (ℕ → ℕ) → Bool
sound_cells cs next = every (sound_cell cs next) cs

unfoldable pub sound : List Cell → (ℕ → ℕ) → Bool
sound cs next = sound_cells cs next && sound_nexts next

-- "1 to 4,096 cells of 1,500 bytes"; "the store is exactly one cell for each record"
unfoldable pub lengths : ℕ → ℕ → Bool
lengths cells bytes = leb 1 cells && (leb cells max_cells && eqb bytes (cell_bytes * cells))

-- What the reading of a datagram gives of each frame: a kind of three bits, numbers of 24, an id of 16, a body no longer than a cell.
pub record Readable (f : Frame) : Type 0 where
  pub kind : f.kind ≤ 7
  pub sequence : f.sequence < numbers24
  pub order : f.order < numbers24
  pub id : f.id < numbers16
  pub body : length f.body ≤ cell_bytes
