-- A drop over the first of so many records: their part of the store is looked at, and the lengths of all.
use Rattle.std.specs.Prelude.{ℕ, ◌*◌, List, ◌++◌, length, take}
use Rattle.base.specs.If.{if_true, if_le}
use Rattle.base.specs.Limits.{cell_bytes}
use Rattle.cells.specs.Cell.{Cell}
use Rattle.cells.specs.Sound.{lengths}
use Rattle.receiver.specs.declared.RecvQueue.{RecvQueue}
use Rattle.receiver.specs.Drop.{DropResult, drop_refuses, drop_unfinished_of}

unfoldable pub drop_first : RecvQueue → ℕ → List Cell → List ℕ → ℕ → DropResult
drop_first q cells first st n =
    if_true (lengths cells (length st))
    (if_le (length first) cells (drop_unfinished_of q first (take (cell_bytes * length first) st) n) (drop_refuses first))
    (drop_refuses first)

-- the records go on with these
unfoldable pub beside_dropped : List Cell → DropResult → DropResult
beside_dropped rest x = record { answer = x.answer; records = x.records ++ rest }
