-- Frames, pieces and messages.
use Rattle.std.specs.Prelude.{ℕ, Bool, ◌&&◌, ◌||◌, not, List, ltb, leb, eqb}
use Rattle.base.specs.Limits.{max_ord_chans, max_frags}
use Rattle.reliability.specs.Kinds.{has_reliable, has_sequence}

-- A frame as the reader gives it. "Uncarried fields are 0": those that its kind lacks, and count, id and index of a frame that is no piece.
pub record Frame : Type 0 where
  pub kind : ℕ
  pub reliable : ℕ
  pub sequence : ℕ
  pub order : ℕ
  pub channel : ℕ
  pub piece : Bool
  pub count : ℕ
  pub id : ℕ
  pub index : ℕ
  pub body : List ℕ

-- A piece that is kept under its open id: its frame without the reliable number.
pub record Piece : Type 0 where
  pub id : ℕ
  pub index : ℕ
  pub count : ℕ
  pub kind : ℕ
  pub sequence : ℕ
  pub order : ℕ
  pub channel : ℕ
  pub body : List ℕ

-- What is put into the line: "with kind, channel, order number and body".
pub record Message : Type 0 where
  pub kind : ℕ
  pub channel : ℕ
  pub order : ℕ
  pub body : List ℕ

-- "Reliable number: 2, 3, 4, 7", by the one table.
unfoldable pub carries_reliable : ℕ → Bool
carries_reliable k = has_reliable k

-- "Kinds 3 and 7": the ordered messages. (They are the kinds that carry a reliable and an order number and no sequence number:
-- proofs/OrderedKinds.antt.)
unfoldable pub ordered : ℕ → Bool
ordered k = eqb k 3 || eqb k 7

-- Kinds 1 and 4: the sequenced messages, "Sequence number: 1, 4", by the one table.
unfoldable pub sequenced : ℕ → Bool
sequenced k = has_sequence k

-- Step 2's limits: "channel 0 to 31; piece count 1 to 1,024 (`MAX_FRAGS`), index below it". Count 0 is over its limit too.
unfoldable pub in_limits : Frame → Bool
in_limits f = ltb f.channel max_ord_chans && (not f.piece || (leb 1 f.count && leb f.count max_frags && ltb f.index f.count))

-- what is kept of a frame that is a piece
unfoldable pub piece_of : Frame → Piece
piece_of f = record {
  id = f.id;
  index = f.index;
  count = f.count;
  kind = f.kind;
  sequence = f.sequence;
  order = f.order;
  channel = f.channel;
  body = f.body;
}

-- the message of a frame, with its own body or the joined one
unfoldable pub message : Frame → List ℕ → Message
message f body = record { kind = f.kind; channel = f.channel; order = f.order; body = body }
