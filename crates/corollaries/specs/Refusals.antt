-- What a call of a list answers, and the slice that it is lent.
use Rattle.std.specs.Prelude.{ℕ, ◌≡◌, true, List, [], length}
use Rattle.std.proofs.Math.Option.{none, some}
use Rattle.cells.specs.Sound.{lengths}
use Rattle.receiver.specs.Take.{take_of}
use Rattle.receiver.specs.Write.{write_unsent_of, write_missing_of}
use Rattle.receiver.specs.Save.{save_of}
use Rattle.receiver.specs.Calls.{Call, receive, take_with, write_unsent, write_missing, drop_unfinished, save, resume, outcome}
use Rattle.receiver.specs.Receiver.{Receiver}

-- the call is refused with this number
abbrev pub RefusedWith : Receiver → Call → ℕ → Type 0
RefusedWith x c n = (outcome x c).refusal ≡ some n

-- the slice that the call alone is lent, before and after: datagram, joining buffer or output; dropping the unfinished is lent none. A
-- resumption is two calls, and the second may be refused after the first wrote its output; so that is not spoken of here.
abbrev pub lent : Call → List ℕ
lent (receive d) = d
lent (take_with buffer) = buffer
lent (write_unsent out) = out
lent (write_missing out) = out
lent (drop_unfinished n) = []
lent (save out) = out
lent (resume out y) = []

abbrev pub lent_after : Receiver → Call → List ℕ
lent_after x (receive d) = d
lent_after x (take_with buffer) = (take_of x.queue x.records x.store buffer).joined
lent_after x (write_unsent out) = (write_unsent_of x.queue out).out
lent_after x (write_missing out) = (write_missing_of x.queue out).out
lent_after x (drop_unfinished n) = []
lent_after x (save out) = (save_of x.queue x.records x.store out).out
lent_after x (resume out y) = []

-- what a resumption restores into has the lengths that 9 asks for: 1 to 4,096 records, and a store of one cell for each
abbrev pub FitLengths : Call → Type 0
FitLengths (resume out y) = lengths (length y.records) (length y.store) ≡ true
FitLengths c = Unit {0}

-- "A datagram is accepted when receive gives it no refusal number"
abbrev pub IsAccepted : Receiver → List ℕ → Type 0
IsAccepted x d = (outcome x (receive d)).refusal ≡ none
