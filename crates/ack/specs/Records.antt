-- Records: document 01, "Bytes": "each record is a Single or a Range, as `Record` has it: 01 and a number, or 00 and first and last, both
-- included." "A set of numbers is written ascending, each run of two or more as one Range."
use Rattle.std.specs.Prelude.{ℕ, zero, suc, ◌+◌, ◌-◌, ◌<◌, List, [], ◌∷◌, ◌++◌}
use Rattle.base.specs.If.{if_eq}
use Rattle.base.specs.Bytes.{le24_bytes}
use Rattle.base.specs.Put.{and_then}
use Rattle.ack.specs.declared.Record.{Record}
use Rattle.ack.specs.declared.Record.TheVariants.{Single, Range}

-- the record of one number, and that of a first and a last
abbrev pub single : ℕ → Record
single x = Single (record { sequence = x })

abbrev pub range : ℕ → ℕ → Record
range x y = Range (record { start = x; end = y })

-- the type bytes
abbrev pub single_type : ℕ
single_type = 0x01

abbrev pub range_type : ℕ
range_type = 0x00

-- the sizes: the type byte and one number, or two
abbrev pub single_size : ℕ
single_size = 4

abbrev pub range_size : ℕ
range_size = 7

-- a record's first and last number
unfoldable pub first_of : Record → ℕ
first_of (Single r) = r.sequence
first_of (Range r) = r.start

unfoldable pub last_of : Record → ℕ
last_of (Single r) = r.sequence
last_of (Range r) = r.end

-- a record's bytes, and those of records one after another
unfoldable pub record_bytes : Record → List ℕ
record_bytes (Single r) = single_type ∷ le24_bytes r.sequence
record_bytes (Range r) = range_type ∷ and_then (le24_bytes r.start) (le24_bytes r.end)

unfoldable pub records_bytes : List Record → List ℕ
records_bytes [] = []
records_bytes (r ∷ rs) = and_then (record_bytes r) (records_bytes rs)

-- how many bytes they take
unfoldable pub record_size : Record → ℕ
record_size (Single r) = single_size
record_size (Range r) = range_size

unfoldable pub records_size : List Record → ℕ
records_size [] = 0
records_size (r ∷ rs) = record_size r + records_size rs

-- the numbers that records name: from the first to the last, both included
unfoldable pub count_up : ℕ → ℕ → List ℕ
count_up x zero = []
count_up x (suc n) = x ∷ count_up (suc x) n

unfoldable pub named : Record → List ℕ
named r = count_up (first_of r) (suc (last_of r) - first_of r)

unfoldable pub numbers_of : List Record → List ℕ
numbers_of [] = []
numbers_of (r ∷ rs) = named r ++ numbers_of rs

-- the runs of a list: a number joins the record after it where that begins one above
unfoldable pub grow : ℕ → List Record → List Record
grow x [] = single x ∷ []
grow x (r ∷ rs) = if_eq (first_of r) (suc x) (range x (last_of r) ∷ rs) (single x ∷ r ∷ rs)

unfoldable pub runs : List ℕ → List Record
runs [] = []
runs (x ∷ xs) = grow x (runs xs)

-- what the laws say of runs: a Range names two numbers or more ("each run of two or more as one Range")
unfoldable pub ProperRecord : Record → Type 0
ProperRecord (Single r) = Unit
ProperRecord (Range r) = r.start < r.end

unfoldable pub AllProper : List Record → Type 0
AllProper [] = Unit
AllProper (r ∷ rs) = ProperRecord r × AllProper rs

-- and the records ascend, with a number between a record's last and the next one's first, so that no two can be one Range
unfoldable pub Beyond : ℕ → List Record → Type 0
Beyond last [] = Unit
Beyond last (r ∷ rs) = suc last < first_of r

unfoldable pub Apart : List Record → Type 0
Apart [] = Unit
Apart (r ∷ rs) = Beyond (last_of r) rs × Apart rs
