-- The window by words: what the code of the missing list works with. No promise to a caller speaks of it.
use Rattle.std.specs.Prelude.{ℕ, zero, suc, ◌+◌, ◌*◌, ◌/◌, ◌%◌, List, [], ◌∷◌, get_or}
use Rattle.base.specs.If.{if_true, if_eq}
use Rattle.window.specs.Places.{bit, place_byte, place_bit, place_set}

-- how many places a word has: those of this many numbers, the first of them a multiple of it
abbrev pub word_places : ℕ
word_places = 64

-- the place of n as a bit: 1 where it is set, else 0
unfoldable pub place_at : List ℕ → ℕ → ℕ
place_at bits n = bit (get_or bits (place_byte n) 0) (place_bit n)

-- the places of c numbers from n on, as the bits of one number: that of n is the lowest
unfoldable pub places_from : List ℕ → ℕ → ℕ → ℕ
places_from bits n zero = 0
places_from bits n (suc c) = places_from bits (suc n) c * 2 + place_at bits n

-- those of c numbers from n on whose places are clear, ascending
unfoldable pub clear_of : List ℕ → ℕ → ℕ → List ℕ
clear_of bits n zero = []
clear_of bits n (suc c) = let rest = clear_of bits (suc n) c in if_true (place_set bits n) rest (n ∷ rest)

-- those of c numbers from n on whose bits are 1, ascending: the bit of n is the lowest of x
unfoldable pub ones_from : ℕ → ℕ → ℕ → List ℕ
ones_from n zero x = []
ones_from n (suc c) x = let rest = ones_from (suc n) c (x / 2) in if_eq (x % 2) 1 (n ∷ rest) rest
