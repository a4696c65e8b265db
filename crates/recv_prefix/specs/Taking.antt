-- A take over the first of n records: their part of the store is looked at, and the lengths of all.
use Rattle.std.specs.Prelude.{ℕ, ◌*◌, List, ◌++◌, length, take}
use Rattle.base.specs.If.{if_true, if_le}
use Rattle.base.specs.Limits.{cell_bytes}
use Rattle.cells.specs.Cell.{Cell}
use Rattle.cells.specs.Sound.{lengths}
use Rattle.receiver.specs.declared.RecvQueue.{RecvQueue}
use Rattle.receiver.specs.Take.{TakeResult, take_refuses, take_of}

unfoldable pub take_first : RecvQueue → ℕ → List Cell → List ℕ → List ℕ → TakeResult
take_first q n first st buffer =
    if_true (lengths n (length st))
    (if_le (length first) n (take_of q first (take (cell_bytes * length first) st) buffer) (take_refuses first buffer 9))
    (take_refuses first buffer 9)

-- the records go on with these
unfoldable pub beside_taken : List Cell → TakeResult → TakeResult
beside_taken rest t = record { answer = t.answer; records = t.records ++ rest; joined = t.joined }
