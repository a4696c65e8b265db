-- An image: one value with the seven sections of request 5, "in this order", and its bytes.
use Rattle.std.specs.Prelude.{ℕ, cond, List, eqb, length}
use Rattle.std.proofs.Math.Option.{Option, none, some}
use Rattle.base.specs.Lists.{option}
use Rattle.image.specs.Format.{Got, Format, exactly, number64, both, formed, many, counted, section, body}

-- "low, then 256 bytes, the place above low in the first's lowest bit"
pub record WindowEntry : Type 0 where
  pub low : ℕ
  pub places : List ℕ

-- "next, sequenced memory plus 1 or 0 for none"
pub record ChannelEntry : Type 0 where
  pub next : ℕ
  pub memory : ℕ

-- "id, index, count, kind, sequence number, order number, channel, accepted datagrams since the id's last kept piece, body"
pub record PieceEntry : Type 0 where
  pub id : ℕ
  pub index : ℕ
  pub count : ℕ
  pub kind : ℕ
  pub sequence : ℕ
  pub order : ℕ
  pub channel : ℕ
  pub age : ℕ
  pub body : List ℕ

-- "channel, order number, kind, piece count, 1 if whole, then the bodies by index": there are as many bodies as the count says
pub record MessageEntry : Type 0 where
  pub channel : ℕ
  pub order : ℕ
  pub kind : ℕ
  pub bodies : List (List ℕ)

pub record Image : Type 0 where
  pub profile : List ℕ
  pub windows : List WindowEntry
  pub channels : List ChannelEntry
  pub unsent : List ℕ
  pub pieces : List PieceEntry
  pub held : List MessageEntry
  pub ready : List MessageEntry

-- ---- the entries' bytes: their fields in the order above
abbrev pub window_parts : WindowEntry → ℕ × List ℕ
window_parts w = (w.low, w.places)

abbrev pub window_of : ℕ × List ℕ → WindowEntry
window_of p = record { low = p.0; places = p.1 }

unfoldable pub window_format : Format WindowEntry
window_format = formed window_of window_parts (both number64 (exactly 256))

abbrev pub channel_parts : ChannelEntry → ℕ × ℕ
channel_parts c = (c.next, c.memory)

abbrev pub channel_of : ℕ × ℕ → ChannelEntry
channel_of p = record { next = p.0; memory = p.1 }

unfoldable pub channel_format : Format ChannelEntry
channel_format = formed channel_of channel_parts (both number64 number64)

-- the eight fields of a piece, and its body
abbrev pub Eight : Type 0
Eight = (ℕ × (ℕ × (ℕ × ℕ))) × (ℕ × (ℕ × (ℕ × ℕ)))

unfoldable pub four_numbers : Format (ℕ × (ℕ × (ℕ × ℕ)))
four_numbers = both number64 (both number64 (both number64 number64))

abbrev pub piece_parts : PieceEntry → Eight × List ℕ
piece_parts p = (((p.id, (p.index, (p.count, p.kind))), (p.sequence, (p.order, (p.channel, p.age)))), p.body)

abbrev pub piece_of : Eight × List ℕ → PieceEntry
piece_of t =
    record {
      id = t.0.0.0;
      index = t.0.0.1.0;
      count = t.0.0.1.1.0;
      kind = t.0.0.1.1.1;
      sequence = t.0.1.0;
      order = t.0.1.1.0;
      channel = t.0.1.1.1.0;
      age = t.0.1.1.1.1;
      body = t.1;
    }

unfoldable pub piece_format : Format PieceEntry
piece_format = formed piece_of piece_parts (both (both four_numbers four_numbers) body)

abbrev pub message_parts : MessageEntry → (ℕ × (ℕ × ℕ)) × List (List ℕ)
message_parts m = ((m.channel, (m.order, m.kind)), m.bodies)

abbrev pub message_of : (ℕ × (ℕ × ℕ)) × List (List ℕ) → MessageEntry
message_of t = record { channel = t.0.0; order = t.0.1.0; kind = t.0.1.1; bodies = t.1 }

unfoldable pub message_format : Format MessageEntry
message_format = formed message_of message_parts (both (both number64 (both number64 number64)) (counted number64 (many body)))

-- ---- the image's bytes: "these sections in this order, each after its 32-bit big-endian count of entries"
abbrev pub Sections : Type 0
Sections = List ℕ × (List WindowEntry × (List ChannelEntry × (List ℕ × (List PieceEntry × (List MessageEntry × List MessageEntry)))))

abbrev pub image_parts : Image → Sections
image_parts i = (i.profile, (i.windows, (i.channels, (i.unsent, (i.pieces, (i.held, i.ready))))))

abbrev pub image_with : Sections → Image
image_with t = record {
  profile = t.0;
  windows = t.1.0;
  channels = t.1.1.0;
  unsent = t.1.1.1.0;
  pieces = t.1.1.1.1.0;
  held = t.1.1.1.1.1.0;
  ready = t.1.1.1.1.1.1;
}

unfoldable pub image_format : Format Image
image_format =
    formed image_with image_parts
    (both (section number64)
    (both (section window_format)
    (both (section channel_format)
    (both (section number64)
    (both (section piece_format)
    (both (section message_format) (section message_format)))))))

unfoldable pub image_bytes : Image → List ℕ
image_bytes i = image_format.write i

-- "21 for an image cut or with bytes after its last section": none
abbrev pub whole : Got Image → Option Image
whole g = cond (eqb (length g.rest) 0) (some g.value) none

unfoldable pub read_image : List ℕ → Option Image
read_image s = option (image_format.read s) none whole
