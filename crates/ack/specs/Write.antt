-- What writing a list as ACK or NACK gives: document 01, "Bytes" and "Write ACK or NACK".
use Rattle.std.specs.Prelude.{ℕ, Bool, true, false, List, [], ◌∷◌, length}
use Rattle.base.specs.If.{if_true, if_lt, if_le}
use Rattle.base.specs.Answer.{Answer, refused, gives}
use Rattle.base.specs.Bytes.{be16_bytes}
use Rattle.base.specs.Limits.{numbers24, max_list}
use Rattle.base.specs.Put.{put, and_then}
use Rattle.ack.specs.Records.{runs, records_bytes}
use Rattle.ack.specs.Read.{ack_id, nack_id}

-- "ACK: C0, NACK: A0; record count, 16 bits big-endian"; the records
unfoldable pub id_of : Bool → ℕ
id_of nack = if_true nack nack_id ack_id

unfoldable pub ack_header_bytes : Bool → ℕ → List ℕ
ack_header_bytes nack count = id_of nack ∷ be16_bytes count

unfoldable pub list_bytes : Bool → List ℕ → List ℕ
list_bytes nack l = and_then (ack_header_bytes nack (length (runs l))) (records_bytes (runs l))

-- some number is 2^24 or more
unfoldable pub some_over : List ℕ → Bool
some_over [] = false
some_over (x ∷ xs) = if_le numbers24 x true (some_over xs)

-- "list too long or number of 2^24 or more"
unfoldable pub too_large : List ℕ → Bool
too_large l = if_lt max_list (length l) true (some_over l)

-- "strictly ascending"
unfoldable pub ascending : List ℕ → Bool
ascending [] = true
ascending (x ∷ []) = true
ascending (x ∷ y ∷ l) = if_lt x y (ascending (y ∷ l)) false

-- "13 list too long or number of 2^24 or more; 14 not strictly ascending; 12 output short": x, y or z by the first that holds, else w
unfoldable pub by_list_case : {A : Type 0} → ℕ → Bool → List ℕ → (x y z w : A) → A
by_list_case room nack l x y z w = if_true (too_large l) x (if_true (ascending l) (if_lt room (length (list_bytes nack l)) z w) y)

-- the answer, from the output's length: how many bytes are written
unfoldable pub write_list_of : ℕ → Bool → List ℕ → Answer ℕ
write_list_of room nack l = by_list_case room nack l (refused 13) (refused 14) (refused 12) (gives (length (list_bytes nack l)))

-- the output afterwards
unfoldable pub written_of : List ℕ → Bool → List ℕ → List ℕ
written_of out nack l = by_list_case (length out) nack l out out out (put out 0 (list_bytes nack l))
