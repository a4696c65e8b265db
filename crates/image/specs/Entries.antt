-- What cells hold, as an image's entries: open pieces, held messages, ready messages.
use Rattle.std.specs.Prelude.{ℕ, zero, suc, ◌+◌, ◌*◌, List, [], ◌∷◌, ◌++◌, map}
use Rattle.base.specs.Limits.{numbers24, max_frags}
use Rattle.base.specs.Lists.{option, find, only}
use Rattle.base.specs.Sort.{sort_by}
use Rattle.cells.specs.Cell.{Slot, Key, sits, is_open}
use Rattle.cells.specs.Datagram.{is_first}
use Rattle.cells.specs.Room.{is_held_first}
use Rattle.cells.specs.Sound.{key_of}
use Rattle.image.specs.Image.{PieceEntry, MessageEntry}

unfoldable pub piece_entry : Slot → PieceEntry
piece_entry s = record {
  id = s.cell.id;
  index = s.cell.index;
  count = s.cell.count;
  kind = s.cell.kind;
  sequence = s.cell.sequence;
  order = s.cell.order;
  channel = s.cell.channel;
  age = s.cell.age;
  body = s.body;
}

-- "the bodies by index", of a message's first n indices
unfoldable pub bodies_of : Key → List Slot → ℕ → List (List ℕ)
bodies_of k l zero = []
bodies_of k l (suc n) = bodies_of k l n ++ (option (find (sits k n) l) [] (λ s. s.body) ∷ [])

-- the held or ready message whose slot of index 0 is s
unfoldable pub message_entry : List Slot → Slot → MessageEntry
message_entry l s = record {
  channel = s.cell.channel;
  order = s.cell.order;
  kind = s.cell.kind;
  bodies = bodies_of (key_of s.cell) l s.cell.count;
}

-- "pieces and held rise by their fields in turn": by id, then index; by channel, then order number. (An index is below 1,024, an order
-- number below 2^24; and no two entries agree in both.)
abbrev pub piece_rank : PieceEntry → ℕ
piece_rank e = e.id * max_frags + e.index

abbrev pub held_rank : MessageEntry → ℕ
held_rank e = e.channel * numbers24 + e.order

abbrev pub turn_of : Slot → ℕ
turn_of s = s.cell.turn

unfoldable pub pieces_in : List Slot → List PieceEntry
pieces_in l = sort_by piece_rank (map piece_entry (only is_open l))

unfoldable pub held_in : List Slot → List MessageEntry
held_in l = sort_by held_rank (map (message_entry l) (only is_held_first l))

-- "Ready ones stand earliest first"
unfoldable pub ready_in : List Slot → List MessageEntry
ready_in l = map (message_entry l) (sort_by turn_of (only is_first l))
