-- The order of numbers of 24 bits: the windows, receive and step 4 compare two such numbers, and count on from one, through these names.
use Rattle.std.specs.Prelude.{ℕ, ◌+◌, ◌-◌, Bool, ltb}

-- n comes before base
abbrev pub behind : ℕ → ℕ → Bool
behind base n = ltb n base

-- how far n stands after base
abbrev pub distance : ℕ → ℕ → ℕ
distance base n = n - base

-- the number that stands k after base, and the one that follows n
abbrev pub ahead : ℕ → ℕ → ℕ
ahead base k = base + k

abbrev pub following : ℕ → ℕ
following n = ahead n 1
