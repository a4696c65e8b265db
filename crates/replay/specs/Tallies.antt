-- Stored answers counted, in numbers of 32 bits.
use Rattle.std.specs.Prelude.{ℕ, ◌+◌, ◌%◌, ◌^◌, Bool}
use Rattle.base.specs.If.{if_true}
use Rattle.replay.specs.declared.Tally.{Tally}

abbrev pub one_more : ℕ → ℕ
one_more n = (n + 1) % 2 ^ 32

unfoldable pub counted_in : Tally → Bool → Tally
counted_in t right =
    if_true right
    (record { answers = one_more t.answers; wrong = t.wrong })
    (record { answers = one_more t.answers; wrong = one_more t.wrong })
