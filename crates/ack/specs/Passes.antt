-- What the passes of `write_list` over the numbers promise: the record of a run, and the records counted.
use Rattle.std.specs.Prelude.{ℕ, ◌+◌, ◌-◌, Bool, List, length, get_or, eqb}
use Rattle.base.specs.If.{if_eq}
use Rattle.ack.specs.declared.Record.{Record}
use Rattle.ack.specs.declared.runs.Tally.{Tally}
use Rattle.ack.specs.Records.{single, range, records_size}

-- y is one above x
unfoldable pub is_next : ℕ → ℕ → Bool
is_next x y = eqb y (x + 1)

-- the record of a run: its number, or its first and its last
abbrev pub record_of : List ℕ → Record
record_of run = if_eq (length run) 1 (single (get_or run 0 0)) (range (get_or run 0 0) (get_or run (length run - 1) 0))

-- how many records there are, and how many bytes they take
unfoldable pub tally_of : List Record → Tally
tally_of rs = record { records = length rs; bytes = records_size rs }
