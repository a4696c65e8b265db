-- The places of a window: "struct of low number and an array of 256 bytes for the accepted places". A place is a bit. Places go round:
-- 2,048 numbers in a row have each a place of their own.
use Rattle.std.specs.Prelude.{ℕ, ◌+◌, ◌-◌, ◌/◌, ◌%◌, ◌^◌, Bool, List, eqb, get_or, set}
use Rattle.base.specs.Limits.{window_places}

-- bit j of a byte, counted from the lowest
unfoldable pub bit : ℕ → ℕ → ℕ
bit byte j = byte / 2 ^ j % 2

-- the place of the number n: its byte, and which bit of it
abbrev pub place_byte : ℕ → ℕ
place_byte n = n % window_places / 8

abbrev pub place_bit : ℕ → ℕ
place_bit n = n % 8

unfoldable pub place_set : List ℕ → ℕ → Bool
place_set bits n = eqb (bit (get_or bits (place_byte n) 0) (place_bit n)) 1

-- the clear place of n set, and the set place of n cleared
unfoldable pub set_place : List ℕ → ℕ → List ℕ
set_place bits n = set bits (place_byte n) (get_or bits (place_byte n) 0 + 2 ^ place_bit n)

unfoldable pub clear_place : List ℕ → ℕ → List ℕ
clear_place bits n = set bits (place_byte n) (get_or bits (place_byte n) 0 - 2 ^ place_bit n)
