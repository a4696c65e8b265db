-- A pattern whose bytes repeat only after 65,536.
use Rattle.std.specs.Prelude.{ℕ, zero, suc, ◌+◌, ◌*◌, ◌%◌, ◌/◌, ◌^◌, List, [], ◌∷◌}

abbrev pub pattern_next : ℕ → ℕ
pattern_next x = (x * 5 + 1) % 2 ^ 16

-- n bytes: of each number after the seed the high one
unfoldable pub pattern_from : ℕ → ℕ → List ℕ
pattern_from zero seed = []
pattern_from (suc n) seed = pattern_next seed / 256 ∷ pattern_from n (pattern_next seed)
