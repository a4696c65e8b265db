-- Checksums. What is kept of h is its rest, so that no step needs a bound on it.
use Rattle.std.specs.Prelude.{ℕ, ◌+◌, ◌*◌, ◌%◌, List}
use Rattle.std.specs.List.{fold}

-- the elements one after another, from h on
abbrev pub folded : (ℕ → ℕ → ℕ) → ℕ → List ℕ → ℕ
folded f h s = fold f h s

-- "h = (h * 257 + byte + 1) mod 4294967291 over the bytes, from h = 0"
abbrev pub mixed_with : ℕ → ℕ → ℕ
mixed_with h x = (h % 4294967291 * 257 + x + 1) % 4294967291

abbrev pub checksum_of : List ℕ → ℕ
checksum_of s = folded mixed_with 0 s

-- "from 1 on, for each byte h = (31 h + byte) mod 65521"
abbrev pub summed_with : ℕ → ℕ → ℕ
summed_with h x = (h % 65521 * 31 + x) % 65521

abbrev pub sum_of : List ℕ → ℕ
sum_of s = folded summed_with 1 s
