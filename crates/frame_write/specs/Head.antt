-- A datagram's head, written: document 01, "Bytes", "Datagram: id 80 to 8D (written 84), number in 24 bits little-endian, frames", and the
-- call "Write a datagram's head, 84 and the number. 13 number of 2^24 or more; 12 below 4 bytes."
use Rattle.std.specs.Prelude.{ℕ, List, ◌∷◌, length}
use Rattle.base.specs.Answer.{Answer, refused, gives}
use Rattle.base.specs.Bytes.{le24_bytes}
use Rattle.base.specs.If.{if_lt, if_le}
use Rattle.base.specs.Limits.{numbers24}
use Rattle.base.specs.Put.{put}

-- "written 84"
abbrev pub head_id : ℕ
head_id = 0x84

-- the id and the number
abbrev pub head_size : ℕ
head_size = 4

-- "84 and the number"
unfoldable pub head_bytes : ℕ → List ℕ
head_bytes number = head_id ∷ le24_bytes number

-- x where 13 is due, y where 12 is, z where the head is written
unfoldable pub by_head : {A : Type 0} → ℕ → ℕ → A → A → A → A
by_head room number x y z = if_le numbers24 number x (if_lt room head_size y z)

-- the answer, for an output of `room` bytes; a head that is written gives no value
unfoldable pub write_head_of : ℕ → ℕ → Answer (Unit {0})
write_head_of room number = by_head room number (refused 13) (refused 12) (gives tt)

-- the output afterwards; a refusal leaves it as it was
unfoldable pub head_written_of : List ℕ → ℕ → List ℕ
head_written_of out number = by_head (length out) number out out (put out 0 (head_bytes number))
