-- Cells with their bodies (slots), the messages that they make up, and how a cell changes.
use Rattle.std.specs.Prelude.{ℕ, zero, suc, Bool, cond, ◌&&◌, List, [], ◌∷◌, ◌++◌, map, length, eqb}
use Rattle.std.proofs.Math.Option.{Option, none, some}
use Rattle.base.specs.Lists.{option, find, any, below}
use Rattle.bare.specs.Frame.{Frame, Piece, Message, piece_of}
use Rattle.bare.specs.Bare.{conflict}
use Rattle.cells.specs.declared.CellRecord.{CellRecord}

-- What a cell is used for (document 01's `use`; the field is `used`, since that is a word of the language): for nothing, for a piece of an
-- open, a held or a ready message; released, only while a datagram is worked on: of a joined message dropped late, "its cells free
-- afterwards".
abbrev pub unused_use : ℕ
unused_use = 0

abbrev pub open_use : ℕ
open_use = 1

abbrev pub held_use : ℕ
held_use = 2

abbrev pub ready_use : ℕ
ready_use = 3

abbrev pub released_use : ℕ
released_use = 4

-- "One record stands beside each cell". turn: where a ready message stands among the ready. age: that of an open id (specs/Ages).
abbrev pub Cell : Type 0
Cell = CellRecord

-- "one kept body each": a record with the body in its cell
pub record Slot : Type 0 where
  pub cell : Cell
  pub body : List ℕ

-- "each used cell belongs to one open, held or ready message": an open one is known by its id, a held one by channel and order number, a
-- ready one by its turn. (For then "open ids differ", "held order numbers differ within a channel" and "turns differ" say that a key's
-- cells are one message.)
pub data Key : Type 0 where
  open_as : ℕ → Key
  held_as : ℕ → ℕ → Key
  ready_as : ℕ → Key

-- is this a cell of that message? its cell of index i? The same of slots:
unfoldable pub bears : Key → Cell → Bool
bears (open_as id) c = eqb c.used open_use && eqb c.id id
bears (held_as ch o) c = eqb c.used held_use && (eqb c.channel ch && eqb c.order o)
bears (ready_as t) c = eqb c.used ready_use && eqb c.turn t

unfoldable pub at : Key → ℕ → Cell → Bool
at k i c = bears k c && eqb c.index i

unfoldable pub of : Key → Slot → Bool
of k s = bears k s.cell

unfoldable pub sits : Key → ℕ → Slot → Bool
sits k i s = at k i s.cell

unfoldable pub is_free : Slot → Bool
is_free s = eqb s.cell.used unused_use

unfoldable pub is_open : Slot → Bool
is_open s = eqb s.cell.used open_use

unfoldable pub is_ready : Slot → Bool
is_ready s = eqb s.cell.used ready_use

-- "the bodies joined by index", of the first n indices of a message
unfoldable pub join : Key → List Slot → ℕ → List ℕ
join k l zero = []
join k l (suc n) = join k l n ++ option (find (sits k n) l) [] (λ s. s.body)

-- "When all indices are there": are those below n?
unfoldable pub all_there : Key → List Slot → ℕ → Bool
all_there k l n = below n (λ i. any (sits k i) l)

-- the message under a key, "with kind, channel, order number and body": its cell of index 0 tells all but the body
unfoldable pub message_of : Slot → List ℕ → Message
message_of s body = record { kind = s.cell.kind; channel = s.cell.channel; order = s.cell.order; body = body }

unfoldable pub message_at : Key → List Slot → Option Message
message_at k l = option (find (sits k 0) l) none (λ s. some (message_of s (join k l s.cell.count)))

-- step 3's "drop if its open id has another count, kind, sequence, order number or channel, or has this index", asked of an open slot
unfoldable pub piece_in : Slot → Piece
piece_in s = record {
  id = s.cell.id;
  index = s.cell.index;
  count = s.cell.count;
  kind = s.cell.kind;
  sequence = s.cell.sequence;
  order = s.cell.order;
  channel = s.cell.channel;
  body = s.body;
}

unfoldable pub clash : Frame → Slot → Bool
clash f s = is_open s && conflict (piece_of f) (piece_in s)

-- a message becomes held or ready: its cells get use u, turn t and age 0, and keep the rest
unfoldable pub mark_cell : ℕ → ℕ → Cell → Cell
mark_cell u t c = record {
  used = u;
  id = c.id;
  index = c.index;
  length = c.length;
  kind = c.kind;
  channel = c.channel;
  count = c.count;
  sequence = c.sequence;
  order = c.order;
  turn = t;
  age = 0;
}

unfoldable pub mark : ℕ → ℕ → Slot → Slot
mark u t s = record { cell = mark_cell u t s.cell; body = s.body }

-- a cell that becomes unused gets the all-zero record (our choice)
unfoldable pub empty_cell : Cell
empty_cell = record {
  used = unused_use;
  id = 0;
  index = 0;
  length = 0;
  kind = 0;
  channel = 0;
  count = 0;
  sequence = 0;
  order = 0;
  turn = 0;
  age = 0;
}

unfoldable pub empty_slot : Slot
empty_slot = record { cell = empty_cell; body = [] }

unfoldable pub change : (Slot → Bool) → (Slot → Slot) → Slot → Slot
change p g s = cond (p s) (g s) s

unfoldable pub map_if : (Slot → Bool) → (Slot → Slot) → List Slot → List Slot
map_if p g l = map (change p g) l

-- all cells of a message get use u and turn t
unfoldable pub turn_to : Key → ℕ → ℕ → List Slot → List Slot
turn_to k u t l = map_if (of k) (mark u t) l

-- "A taken message frees its cells."
unfoldable pub freed : Key → List Slot → List Slot
freed k l = map_if (of k) (λ s. empty_slot) l

-- "which cell a body gets" is free in document 01; we choose the lowest-numbered unused one
unfoldable pub put_slot : Slot → List Slot → List Slot
put_slot x [] = []
put_slot x (s ∷ l) = cond (is_free s) (x ∷ l) (s ∷ put_slot x l)

-- a frame's slot: a whole frame is its message's only piece, index 0 of count 1 (its id is 0, as read)
unfoldable pub slot_of : Frame → ℕ → ℕ → Slot
slot_of f u t = record {
  cell = record {
    used = u;
    id = f.id;
    index = cond f.piece f.index 0;
    length = length f.body;
    kind = f.kind;
    channel = f.channel;
    count = cond f.piece f.count 1;
    sequence = f.sequence;
    order = f.order;
    turn = t;
    age = 0;
  };
  body = f.body;
}
