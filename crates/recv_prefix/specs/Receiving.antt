-- Receive over the first records of those that are lent: document 01's receive over these and their cells, the other cells beside them.
use Rattle.std.specs.Prelude.{ℕ, ◌*◌, List, ◌++◌, length, take, drop}
use Rattle.base.specs.If.{if_true, if_le}
use Rattle.base.specs.Limits.{cell_bytes}
use Rattle.cells.specs.Cell.{Cell}
use Rattle.cells.specs.Sound.{lengths}
use Rattle.receiver.specs.declared.RecvQueue.{RecvQueue}
use Rattle.receiver.specs.Receive.{Received, refused_result, receive_of}

-- the store goes on with these bytes
unfoldable pub with_rest : List ℕ → Received → Received
with_rest bytes r = record { answer = r.answer; queue = r.queue; records = r.records; store = r.store ++ bytes }

-- the records go on with these
unfoldable pub beside : List Cell → Received → Received
beside cs r = record { answer = r.answer; queue = r.queue; records = r.records ++ cs; store = r.store }

-- Receive over the first of n records: "9 slice lengths" is asked of all n and the whole store, all else of the first and their cells.
unfoldable pub receive_first : RecvQueue → ℕ → List Cell → List ℕ → List ℕ → Received
receive_first q n first st d =
    let bytes = cell_bytes * length first in
    if_true (lengths n (length st))
    (if_le (length first) n (with_rest (drop bytes st) (receive_of q first (take bytes st) d)) (refused_result q first st 9))
    (refused_result q first st 9)
