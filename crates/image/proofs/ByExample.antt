-- Images on worked examples, written from the request's words: windows' places, an image's bytes, what cells that lie anyhow list, and the
-- cells that this restores to.
-- Assumes nothing.
use Prim.Native.Nat.{ℕ}
use mathlib.Core.Path.{◌≡◌, refl}
use mathlib.Core.Option.{none, some}
use mathlib.Core.List.{List, [], ◌∷◌, ◌++◌, flatten}
use lib.ListN.{take, replicate}
use Rattle.base.specs.Bytes.{be16, be32, be64, be16_bytes, be32_bytes, be64_bytes}
use Rattle.base.specs.If.{if_true, if_lt, if_le, if_eq}
use Rattle.base.specs.Lists.{find, only}
use Rattle.base.specs.Put.{and_then}
use Rattle.base.specs.Sort.{insert_by, sort_by}
use Rattle.window.specs.Places.{bit, place_set, set_place}
use Rattle.window.specs.Window.{new_window, accepted, advance, accept}
use Rattle.cells.specs.Cell.{Slot, bears, at, sits, is_open, is_ready, empty_cell, empty_slot}
use Rattle.cells.specs.Ages.{with_age, aged}
use Rattle.cells.specs.Datagram.{is_first}
use Rattle.cells.specs.Room.{is_held_first}
use Rattle.cells.specs.Sound.{key_of}
use Rattle.cells.proofs.Shown.{slot}
use Rattle.image.specs.Format.{exactly, number32, number64, both, formed, write_all, read_all, many, counted, section, body}
use Rattle.image.specs.Image.{Image, window_format, channel_format, four_numbers, piece_format, message_format, image_format}
use Rattle.image.specs.Image.{image_bytes, read_image}
use Rattle.image.specs.Windows.{eight, packed, window_entry, window_from}
use Rattle.image.specs.Entries.{piece_entry, bodies_of, message_entry, pieces_in, held_in, ready_in}
use Rattle.image.specs.Slots.{piece_slot, part_slot, parts, held_slots, ready_slots, used_slots, slots_from}

-- ---- "low, then 256 bytes, the place above low in the first's lowest bit"
-- 0, 2 and 10 are accepted: low is 1, the place above it is that of 2, and that of 10 is the ninth
pub place-first : window_entry (accept (accept (accept new_window 0) 2) 10) ≡ record { low = 1; places = 1 ∷ 1 ∷ replicate 254 0 }
unfolding if_true if_lt if_le if_eq bit place_set set_place new_window accepted advance accept eight packed window_entry
place-first = refl

-- A window's own bits go round, and an entry's places do not: above low 2,047 the places of 2,048 and 2,050 are the window's 0 and 2.
pub place-round : window_entry (record { low = 2047; bits = 5 ∷ replicate 255 0 }) ≡ record { low = 2047; places = 5 ∷ replicate 255 0 }
unfolding bit place_set eight packed window_entry
place-round = refl

-- Above low 0 the window's 0 is the place of 2,048, the last.
pub place-last : window_entry (record { low = 0; bits = 1 ∷ replicate 255 0 }) ≡ record { low = 0; places = replicate 255 0 ++ (128 ∷ []) }
unfolding bit place_set eight packed window_entry
place-last = refl

-- and back
pub places-back : window_from (record { low = 1; places = 1 ∷ 1 ∷ replicate 254 0 }) ≡ record { low = 1; bits = 4 ∷ 4 ∷ replicate 254 0 }
unfolding bit place_set eight packed window_from
places-back = refl

pub last-back : window_from (record { low = 0; places = replicate 255 0 ++ (128 ∷ []) }) ≡ record { low = 0; bits = 1 ∷ replicate 255 0 }
unfolding bit place_set eight packed window_from
last-back = refl

-- ---- the image's bytes
-- an entry in each section
unfoldable pub small : Image
small = record {
  profile = 1 ∷ [];
  windows = record { low = 2; places = 5 ∷ replicate 255 0 } ∷ [];
  channels = record { next = 6; memory = 7 } ∷ [];
  unsent = 258 ∷ [];
  pieces = record { id = 8; index = 9; count = 10; kind = 3; sequence = 11; order = 12; channel = 13; age = 14; body = 15 ∷ 16 ∷ [] } ∷ [];
  held = record { channel = 17; order = 18; kind = 7; bodies = (19 ∷ []) ∷ [] } ∷ [];
  ready = record { channel = 20; order = 21; kind = 2; bodies = [] ∷ (22 ∷ []) ∷ [] } ∷ [];
}

-- one entry, in 32 bits; a field of 64
unfoldable pub one : List ℕ
one = 0 ∷ 0 ∷ 0 ∷ 1 ∷ []

unfoldable pub field : ℕ → List ℕ
field n = replicate 7 0 ++ (n ∷ [])

-- "in this order, each after its 32-bit big-endian count of entries"; "Fields have 64 bits, big-endian; a body is its length, then its
-- bytes"
unfoldable pub small_bytes : List ℕ
small_bytes = flatten (one ∷ field 1
    ∷ one ∷ field 2 ∷ (5 ∷ replicate 255 0)
    ∷ one ∷ field 6 ∷ field 7
    ∷ one ∷ replicate 6 0 ∷ (1 ∷ 2 ∷ [])
    ∷ one ∷ field 8 ∷ field 9 ∷ field 10 ∷ field 3 ∷ field 11 ∷ field 12 ∷ field 13 ∷ field 14 ∷ field 2 ∷ (15 ∷ 16 ∷ [])
    ∷ one ∷ field 17 ∷ field 18 ∷ field 7 ∷ field 1 ∷ field 1 ∷ (19 ∷ [])
    ∷ one ∷ field 20 ∷ field 21 ∷ field 2 ∷ field 2 ∷ field 0 ∷ field 1 ∷ (22 ∷ [])
    ∷ [])

pub small-written : image_bytes small ≡ small_bytes
unfolding small small_bytes one field flatten be16_bytes be32_bytes be64_bytes and_then exactly number32 number64 both formed write_all many
    counted section body window_format channel_format four_numbers piece_format message_format image_format image_bytes
small-written = refl

-- read again; and "cut or with bytes after its last section"
pub small-read : (read_image small_bytes ≡ some small) × (read_image (take 487 small_bytes) ≡ none)
    × (read_image (small_bytes ++ (0 ∷ [])) ≡ none)
unfolding small small_bytes one field flatten be16 be32 be64 exactly number32 number64 both formed read_all many
    counted section body window_format channel_format four_numbers piece_format message_format image_format read_image
small-read = (refl, refl, refl)

-- ---- cells that lie anyhow
-- A ready message of turn 7; index 1 of a held message; a piece of id 6 of age 9; an unused cell, whose record says nothing; index 0 of the
-- held message; an earlier ready message, of turn 3; a piece of id 5; another held message, of a lower channel.
unfoldable pub anyhow : List Slot
anyhow = slot 3 1 0 0 0 1 0 0 7 (70 ∷ []) ∷ slot 2 8 1 7 2 2 0 9 0 (29 ∷ []) ∷ aged 9 (slot 1 6 0 1 1 3 11 2 0 (60 ∷ []))
    ∷ slot 0 1 1 1 1 1 1 1 1 [] ∷ slot 2 8 0 7 2 2 0 9 0 (28 ∷ []) ∷ slot 3 2 0 3 0 1 0 4 3 [] ∷ slot 1 5 1 3 1 3 0 6 0 (51 ∷ [])
    ∷ slot 2 4 0 3 1 1 0 10 0 (30 ∷ []) ∷ []

-- "pieces and held rise by their fields in turn", "the bodies by index", "Ready ones stand earliest first"
unfoldable pub listed : Image
listed = record {
  profile = [];
  windows = [];
  channels = [];
  unsent = [];
  pieces = record { id = 5; index = 1; count = 3; kind = 3; sequence = 0; order = 6; channel = 1; age = 0; body = 51 ∷ [] }
      ∷ record { id = 6; index = 0; count = 3; kind = 1; sequence = 11; order = 2; channel = 1; age = 9; body = 60 ∷ [] } ∷ [];
  held = record { channel = 1; order = 10; kind = 3; bodies = (30 ∷ []) ∷ [] }
      ∷ record { channel = 2; order = 9; kind = 7; bodies = (28 ∷ []) ∷ (29 ∷ []) ∷ [] } ∷ [];
  ready = record { channel = 0; order = 4; kind = 3; bodies = [] ∷ [] }
      ∷ record { channel = 0; order = 0; kind = 0; bodies = (70 ∷ []) ∷ [] } ∷ [];
}

pub anyhow-lists : (pieces_in anyhow ≡ listed.pieces) × (held_in anyhow ≡ listed.held) × (ready_in anyhow ≡ listed.ready)
unfolding anyhow listed slot with_age aged find only insert_by sort_by bears at sits is_open is_ready is_first is_held_first key_of
    piece_entry bodies_of message_entry pieces_in held_in ready_in
anyhow-lists = (refl, refl, refl)

-- "up to the choice of cells and turns": the same messages from the first cell on, turns 0 and 1; the rest of nine cells unused
pub listed-restores : slots_from 9 listed ≡ slot 1 5 1 3 1 3 0 6 0 (51 ∷ []) ∷ aged 9 (slot 1 6 0 1 1 3 11 2 0 (60 ∷ []))
    ∷ slot 2 0 0 3 1 1 0 10 0 (30 ∷ []) ∷ slot 2 0 0 7 2 2 0 9 0 (28 ∷ []) ∷ slot 2 0 1 7 2 2 0 9 0 (29 ∷ [])
    ∷ slot 3 0 0 3 0 1 0 4 0 [] ∷ slot 3 0 0 0 0 1 0 0 1 (70 ∷ []) ∷ empty_slot ∷ empty_slot ∷ []
unfolding listed slot with_age aged empty_cell empty_slot piece_slot part_slot parts held_slots ready_slots used_slots slots_from
listed-restores = refl
