-- Request 4, "Unfinished unreliable joins give their cells back": "the age kept for an id", "since whose last kept piece .. further
-- datagrams were accepted", which "stops at 2^32"; and the cells of the messages that the call drops.
use Rattle.std.specs.Prelude.{ℕ, suc, Bool, cond, not, ◌&&◌, List, ltb, eqb}
use Rattle.base.specs.Limits.{max_age}
use Rattle.bare.specs.Frame.{carries_reliable}
use Rattle.cells.specs.Cell.{Cell, Slot, open_as, of, is_open, empty_slot, map_if, open_use}

-- the age stands in each record of the id
unfoldable pub with_age : ℕ → Cell → Cell
with_age a c = record {
  used = c.used;
  id = c.id;
  index = c.index;
  length = c.length;
  kind = c.kind;
  channel = c.channel;
  count = c.count;
  sequence = c.sequence;
  order = c.order;
  turn = c.turn;
  age = a;
}

unfoldable pub aged : ℕ → Slot → Slot
aged a s = record { cell = with_age a s.cell; body = s.body }

-- one more datagram was accepted
unfoldable pub next_age : ℕ → ℕ
next_age a = cond (ltb a max_age) (suc a) max_age

-- each open id grows older by one
unfoldable pub grown : List Slot → List Slot
grown l = map_if is_open (λ s. aged (next_age s.cell.age) s) l

-- a piece of the id is kept: its age is 0
unfoldable pub renewed : ℕ → List Slot → List Slot
renewed id l = map_if (of (open_as id)) (aged 0) l

-- an open record: "whose kind carries no reliable number, and since whose last kept piece more than n further datagrams were accepted"
unfoldable pub is_stale : ℕ → Cell → Bool
is_stale n c = eqb c.used open_use && (not (carries_reliable c.kind) && ltb n c.age)

-- "is dropped": its cells become unused
unfoldable pub dropped : ℕ → List Slot → List Slot
dropped n l = map_if (λ s. is_stale n s.cell) (λ s. empty_slot) l
