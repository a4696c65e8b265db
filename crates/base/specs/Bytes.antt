-- Numbers in bytes: document 01, "Bytes" ("16 bits big-endian", "24 bits little-endian each", "count (32), id (16), index (32),
-- big-endian").
-- Reading is total: past the end of a list a byte is 0, so only the calls' own tests speak of lengths.
use Rattle.std.specs.Prelude.{ℕ, ◌+◌, ◌*◌, ◌/◌, ◌%◌, ◌<◌, List, [], ◌∷◌, get_or}
use Rattle.base.specs.Put.{and_then}

-- the number at place p
unfoldable pub be16 : List ℕ → ℕ → ℕ
be16 s p = get_or s p 0 * 256 + get_or s (p + 1) 0

unfoldable pub be32 : List ℕ → ℕ → ℕ
be32 s p = be16 s p * 65536 + be16 s (p + 2)

-- an image's fields "have 64 bits, big-endian" (request 5)
unfoldable pub be64 : List ℕ → ℕ → ℕ
be64 s p = be32 s p * 4294967296 + be32 s (p + 4)

unfoldable pub le24 : List ℕ → ℕ → ℕ
le24 s p = get_or s p 0 + get_or s (p + 1) 0 * 256 + get_or s (p + 2) 0 * 65536

-- the bytes of a number
unfoldable pub be16_bytes : ℕ → List ℕ
be16_bytes x = x / 256 % 256 ∷ x % 256 ∷ []

unfoldable pub be32_bytes : ℕ → List ℕ
be32_bytes x = and_then (be16_bytes (x / 65536)) (be16_bytes x)

unfoldable pub be64_bytes : ℕ → List ℕ
be64_bytes x = and_then (be32_bytes (x / 4294967296)) (be32_bytes x)

unfoldable pub le24_bytes : ℕ → List ℕ
le24_bytes x = x % 256 ∷ x / 256 % 256 ∷ x / 65536 % 256 ∷ []

-- a list of bytes, as every slice of u8 is one
abbrev pub Bytes : List ℕ → Type 0
Bytes s = (i : ℕ) → get_or s i 0 < 256
