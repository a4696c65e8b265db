-- Which entries code restores: those whose values the records' fields hold, and which rise. (All others no sound receiver's save writes.)
use Rattle.std.specs.Prelude.{ℕ, suc, ◌≤◌, ◌<◌, ◌≡◌, List, [], ◌∷◌, ◌++◌, length, get_or}
use Rattle.base.specs.Limits.{max_frags, cell_bytes, max_ord_chans, memories, max_unsent}
use Rattle.cells.specs.Cell.{Slot, held_use, ready_use}
use Rattle.image.specs.Image.{PieceEntry, MessageEntry, Image}
use Rattle.image.specs.Entries.{piece_rank, held_rank}
use Rattle.image.specs.Slots.{piece_slot, message_slots}
use Rattle.receiver.specs.Save.{own_entry}
use Rattle.receiver.specs.Restore.{no_window}

-- the first number that 32 bits do not hold
abbrev pub numbers32 : ℕ
numbers32 = 4294967296

-- ---- entries one after the other: k is what the next entry goes by, and each entry makes cells
module _ {A : Type 0} (can : ℕ → A → Type 0) (next : ℕ → A → ℕ) where
  unfoldable pub Each : ℕ → List A → Type 0
  Each k [] = Unit {0}
  Each k (e ∷ es) = can k e × Each (next k e) es

module _ {A : Type 0} (cells : ℕ → A → List Slot) (next : ℕ → A → ℕ) where
  unfoldable pub cells_of_each : ℕ → List A → List Slot
  cells_of_each k [] = []
  cells_of_each k (e ∷ es) = cells k e ++ cells_of_each (next k e) es

-- ---- open pieces, by the least rank that the next one may have
pub record PieceFits (e : PieceEntry) : Type 0 where
  pub id : e.id < numbers32
  pub index : e.index < numbers32
  pub count : e.count < numbers32
  pub kind : e.kind < numbers32
  pub sequence : e.sequence < numbers32
  pub order : e.order < numbers32
  pub channel : e.channel < numbers32
  pub body : length e.body ≤ cell_bytes

abbrev pub PieceCan : ℕ → PieceEntry → Type 0
PieceCan least e = PieceFits e × (least ≤ piece_rank e)

abbrev pub piece_next : ℕ → PieceEntry → ℕ
piece_next least e = suc (piece_rank e)

abbrev pub piece_cells : ℕ → PieceEntry → List Slot
piece_cells least e = piece_slot e ∷ []

-- ---- a message's bodies, by their index
abbrev pub PartCan : ℕ → List ℕ → Type 0
PartCan i b = length b ≤ cell_bytes

abbrev pub part_next : ℕ → List ℕ → ℕ
part_next i b = suc i

-- the slot of body i of the message e, which is b
unfoldable pub part_with : ℕ → ℕ → MessageEntry → ℕ → List ℕ → Slot
part_with u t e i b = record {
  cell = record {
    used = u;
    id = 0;
    index = i;
    length = length b;
    kind = e.kind;
    channel = e.channel;
    count = length e.bodies;
    sequence = 0;
    order = e.order;
    turn = t;
    age = 0;
  };
  body = b;
}

abbrev pub part_cells : ℕ → ℕ → MessageEntry → ℕ → List ℕ → List Slot
part_cells u t e i b = part_with u t e i b ∷ []

-- ---- messages
pub record HeadFits (e : MessageEntry) : Type 0 where
  pub channel : e.channel < numbers32
  pub order : e.order < numbers32
  pub kind : e.kind < numbers32
  pub some : 1 ≤ length e.bodies
  pub few : length e.bodies ≤ max_frags

pub record MessageFits (e : MessageEntry) : Type 0 where
  pub head : HeadFits e
  pub bodies : Each PartCan part_next 0 e.bodies

-- held ones, by the least rank that the next one may have
abbrev pub HeldCan : ℕ → MessageEntry → Type 0
HeldCan least e = MessageFits e × (least ≤ held_rank e)

abbrev pub held_next : ℕ → MessageEntry → ℕ
held_next least e = suc (held_rank e)

abbrev pub held_cells : ℕ → MessageEntry → List Slot
held_cells least e = message_slots held_use 0 e

-- ready ones, by their turn
abbrev pub ReadyCan : ℕ → MessageEntry → Type 0
ReadyCan turn e = MessageFits e

abbrev pub ready_next : ℕ → MessageEntry → ℕ
ready_next turn e = suc turn

abbrev pub ready_cells : ℕ → MessageEntry → List Slot
ready_cells turn e = message_slots ready_use turn e

-- ---- what is kept beside the cells
-- unsent numbers, by the least that the next one may be
abbrev pub NumberCan : ℕ → ℕ → Type 0
NumberCan least n = (n < numbers32) × (least ≤ n)

abbrev pub number_next : ℕ → ℕ → ℕ
number_next least n = suc n

pub record FrontFits (i : Image) : Type 0 where
  pub profile : length i.profile ≡ 1
  pub windows : length i.windows ≡ 2
  pub channels : length i.channels ≡ memories
  pub few : length i.unsent ≤ max_unsent
  pub own : (get_or i.channels max_ord_chans (own_entry 0)).next ≡ 0
  pub profile-narrow : get_or i.profile 0 0 < numbers32
  pub low-narrow : (k : ℕ) → k < 2 → (get_or i.windows k no_window).low < numbers32
  pub next-narrow : (k : ℕ) → k < memories → (get_or i.channels k (own_entry 0)).next < numbers32
  pub memory-narrow : (k : ℕ) → k < memories → (get_or i.channels k (own_entry 0)).memory < numbers32
  pub unsent : Each NumberCan number_next 0 i.unsent

-- ---- the cells
pub record CellsFit (i : Image) : Type 0 where
  pub pieces : Each PieceCan piece_next 0 i.pieces
  pub held : Each HeldCan held_next 0 i.held
  pub ready : Each ReadyCan ready_next 0 i.ready
