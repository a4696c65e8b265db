-- What the exported functions return: the number of the refusal, or 0 where nothing is refused, and the values beside it, which are 0 on a
-- refusal.
use Rattle.std.specs.Prelude.{ℕ, Bool, true, false, Option, Some, None}
use Rattle.base.specs.Answer.{Answer, refused, gives}
use Rattle.window.specs.Window.{Insertion}
use Rattle.ack.specs.declared.Record.{Record}
use Rattle.ack.specs.declared.Record.TheVariants.{Single, Range}
use Rattle.ack.specs.declared.AckCursor.{AckCursor}
use Rattle.ack.specs.Records.{first_of, last_of}
use Rattle.ack.specs.declared.Header.{Header}
use Rattle.ack.specs.declared.Step.{Step}
use Rattle.ack.specs.Read.{cursor}
use Rattle.exports.specs.declared.WindowInsert.{WindowInsert}
use Rattle.exports.specs.declared.AckWritten.{AckWritten}
use Rattle.exports.specs.declared.AckHeaderFound.{AckHeaderFound}
use Rattle.exports.specs.declared.AckRecordFound.{AckRecordFound}

abbrev pub number_of : {A : Type 0} → Answer A → ℕ
number_of (refused number) = number
number_of (gives x) = 0

abbrev pub insert_told : Insertion → WindowInsert
insert_told r = record { number = number_of r.answer; window = r.window }

abbrev pub ack_told : Answer ℕ → AckWritten
ack_told (refused number) = record { number = number; len = 0 }
ack_told (gives len) = record { number = 0; len = len }

abbrev pub no_header : ℕ → AckHeaderFound
no_header number = record { number = number; nack = false; records = cursor 0 0 }

abbrev pub header_told : Answer Header → AckHeaderFound
header_told (refused number) = no_header number
header_told (gives h) = record { number = 0; nack = h.nack; records = h.records }

abbrev pub is_range : Record → Bool
is_range (Single r) = false
is_range (Range r) = true

abbrev pub no_record : ℕ → AckRecordFound
no_record number = record { number = number; found = false; range = false; first = 0; last = 0; records = cursor 0 0 }

-- a record and the cursor after it
abbrev pub found_told : Record → AckCursor → AckRecordFound
found_told r c = record { number = 0; found = true; range = is_range r; first = first_of r; last = last_of r; records = c }

-- where no record is left, nothing is refused and nothing is found
abbrev pub record_told : Answer (Option Step) → AckRecordFound
record_told (refused number) = no_record number
record_told (gives (Some step)) = found_told step.«record» step.records
record_told (gives None) = no_record 0
