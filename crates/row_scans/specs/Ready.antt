-- The message that a take would hand out, by its first record; and what a scan tells of a place.
use Rattle.std.specs.Prelude.{ℕ, ◌<◌, ◌≡◌, Bool, not, ◌&&◌, List, Option, MatchOption}
use Rattle.base.specs.Lists.{any}
use Rattle.cells.specs.Cell.{Cell}
use Rattle.cells.specs.Records.{before_cell, first_cell, index_of}

-- a ready message's first record; none of the ready messages has an earlier turn
unfoldable pub is_earliest : List Cell → Cell → Bool
is_earliest cs c = first_cell c && not (any (before_cell c.turn) cs)

-- the number of that record; as many as there are where none is ready
unfoldable pub first_ready : List Cell → ℕ
first_ready cs = index_of (is_earliest cs) cs

-- what a scan of n rows tells of place i, where i is n where none passes: the place, where there is one
abbrev pub FoundAt : Option ℕ → ℕ → ℕ → Type 0
FoundAt o i n = MatchOption o (i ≡ n) (λ k. (k < n) × (k ≡ i))
