-- What reading an ACK or NACK gives: document 01, "Bytes" and "Read ACK", header, then record by record.
use Rattle.std.specs.Prelude.{ℕ, zero, suc, ◌+◌, ◌-◌, Bool, true, false, List, [], ◌∷◌, get_or, length, Option, Some, None}
use Rattle.base.specs.If.{if_lt, if_le, if_eq}
use Rattle.base.specs.Answer.{Answer, refused, gives}
use Rattle.base.specs.Bytes.{be16, le24}
use Rattle.ack.specs.declared.Record.{Record}
use Rattle.ack.specs.declared.AckCursor.{AckCursor}
use Rattle.ack.specs.declared.Header.{Header}
use Rattle.ack.specs.declared.Step.{Step}
use Rattle.ack.specs.Records.{single, range, single_type, range_type, single_size, range_size}

-- "ACK: C0, NACK: A0"
abbrev pub ack_id : ℕ
ack_id = 0xC0

abbrev pub nack_id : ℕ
nack_id = 0xA0

-- first byte and record count
abbrev pub ack_header_size : ℕ
ack_header_size = 3

-- a cursor: where the next record stands, and how many are left
abbrev pub cursor : ℕ → ℕ → AckCursor
cursor at left = record { at = at; left = left }

-- what the header tells: which of the two it is, and where the records stand
abbrev pub header_of : List ℕ → Bool → Header
header_of s nack = record { nack = nack; records = cursor ack_header_size (be16 s 1) }

-- "1 cut; 3 first byte"
unfoldable pub read_header_of : List ℕ → Answer Header
read_header_of s =
    if_lt (length s) ack_header_size (refused 1)
    (if_eq (get_or s 0 0) ack_id (gives (header_of s false))
    (if_eq (get_or s 0 0) nack_id (gives (header_of s true)) (refused 3)))

-- what a step tells: a record, and the cursor after it; or that no record is left
abbrev pub next : Record → AckCursor → Option Step
next r c = Some (record { «record» = r; records = c })

abbrev pub none_left : Option Step
none_left = None

-- the Single or the Range at a place, if it is whole; left counts the records after it
unfoldable pub read_single : List ℕ → ℕ → ℕ → Answer (Option Step)
read_single s at left =
    if_lt (length s) (at + single_size) (refused 1)
    (gives (next (single (le24 s (at + 1))) (cursor (at + single_size) left)))

unfoldable pub read_range : List ℕ → ℕ → ℕ → Answer (Option Step)
read_range s at left =
    if_lt (length s) (at + range_size) (refused 1)
    (if_lt (le24 s (at + 4)) (le24 s (at + 1)) (refused 11)
    (gives (next (range (le24 s (at + 1)) (le24 s (at + 4))) (cursor (at + range_size) left))))

-- "1 cut; 10 record type, even as the last byte; 11 last below first"; "Bytes after the last record are ignored."
unfoldable pub read_record_of : List ℕ → AckCursor → Answer (Option Step)
read_record_of s c =
    if_eq c.left 0 (gives none_left)
    (if_le (length s) c.at (refused 1)
    (if_eq (get_or s c.at 0) single_type (read_single s c.at (c.left - 1))
    (if_eq (get_or s c.at 0) range_type (read_range s c.at (c.left - 1)) (refused 10))))

-- Reading step by step until a refusal or until no record is left, at most n records: the records, and the answer after them.
pub record Reading : Type 0 where
  pub records : List Record
  pub stop : Answer (Option Step)

unfoldable pub read_on : Answer (Option Step) → (AckCursor → Reading) → Reading
read_on (gives (Some step)) go = record { records = step.«record» ∷ (go step.records).records; stop = (go step.records).stop }
read_on (gives None) go = record { records = []; stop = gives none_left }
read_on (refused n) go = record { records = []; stop = refused n }

unfoldable pub read_all : ℕ → List ℕ → AckCursor → Reading
read_all zero s c = record { records = []; stop = read_record_of s c }
read_all (suc n) s c = read_on (read_record_of s c) (λ d. read_all n s d)
