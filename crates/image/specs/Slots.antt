-- The cells that an image's entries restore to, "up to the choice of cells and turns": in the image's order from the first on, turns
-- 0, 1, ..; the others are unused.
use Rattle.std.specs.Prelude.{ℕ, zero, suc, ◌-◌, List, [], ◌∷◌, ◌++◌, map, length, get_or, replicate}
use Rattle.cells.specs.Cell.{Slot, empty_slot, open_use, held_use, ready_use}
use Rattle.image.specs.Image.{PieceEntry, MessageEntry, Image}

unfoldable pub piece_slot : PieceEntry → Slot
piece_slot e = record {
  cell = record {
    used = open_use;
    id = e.id;
    index = e.index;
    length = length e.body;
    kind = e.kind;
    channel = e.channel;
    count = e.count;
    sequence = e.sequence;
    order = e.order;
    turn = 0;
    age = e.age;
  };
  body = e.body;
}

-- index i of a held or ready message: use u, turn t. (Id, sequence number and age of such are not held.)
unfoldable pub part_slot : ℕ → ℕ → MessageEntry → ℕ → Slot
part_slot u t e i = record {
  cell = record {
    used = u;
    id = 0;
    index = i;
    length = length (get_or e.bodies i []);
    kind = e.kind;
    channel = e.channel;
    count = length e.bodies;
    sequence = 0;
    order = e.order;
    turn = t;
    age = 0;
  };
  body = get_or e.bodies i [];
}

unfoldable pub parts : ℕ → ℕ → MessageEntry → ℕ → List Slot
parts u t e zero = []
parts u t e (suc n) = parts u t e n ++ (part_slot u t e n ∷ [])

abbrev pub message_slots : ℕ → ℕ → MessageEntry → List Slot
message_slots u t e = parts u t e (length e.bodies)

unfoldable pub held_slots : List MessageEntry → List Slot
held_slots [] = []
held_slots (e ∷ es) = message_slots held_use 0 e ++ held_slots es

unfoldable pub ready_slots : ℕ → List MessageEntry → List Slot
ready_slots t [] = []
ready_slots t (e ∷ es) = message_slots ready_use t e ++ ready_slots (suc t) es

unfoldable pub used_slots : Image → List Slot
used_slots i = map piece_slot i.pieces ++ (held_slots i.held ++ ready_slots 0 i.ready)

-- of n cells
unfoldable pub slots_from : ℕ → Image → List Slot
slots_from n i = used_slots i ++ replicate (n - length (used_slots i)) empty_slot
