-- A take of a receiver that is lent by its parts, over the first k rows.
-- Assumes nothing.
use Prim.Native.Nat.{ℕ, ◌*◌, min}
use mathlib.Core.Path.{◌≡◌, ◌∙◌, ap}
use mathlib.Core.List.{List}
use lib.ListN.{length, take}
use Rattle.std.proofs.lemmas.List.{take_min}
use Rattle.base.specs.Limits.{cell_bytes}
use Rattle.rows.specs.declared.Row.{Row}
use Rattle.rows.specs.Rows.{cells_in}
use Rattle.receiver.specs.declared.RecvQueue.{RecvQueue}
use Rattle.receiver.specs.Take.{take_of}
use Rattle.recv_parts.specs.Fitted.{fitted}
use Rattle.recv_parts.proofs.Fits.{fitted-call}
use Rattle.recv_prefix.specs.Taking.{take_first}
use Rattle.recv_take.specs.Outcome.{RowsTaken, take_rows_of}

-- A take asks of the receiver only whether the call is sound.
fitted-takes : (q : RecvQueue) (cells : ℕ) (rows : List Row) (st out : List ℕ)
    → take_rows_of (fitted q) cells rows st out ≡ take_rows_of q cells rows st out
unfolding take_rows_of take_first take_of
fitted-takes q cells rows st out = rw (fitted-call q (cells_in rows) (take (cell_bytes * length (cells_in rows)) st))

pub parts_take : (q : RecvQueue) (cells k : ℕ) (rows : List Row) (st out : List ℕ) (x : RowsTaken)
    → x ≡ take_rows_of (fitted q) cells (take (min k (length rows)) rows) st out → x ≡ take_rows_of q cells (take k rows) st out
parts_take q cells k rows st out x e =
    e ∙ fitted-takes q cells (take (min k (length rows)) rows) st out
    ∙ ap (λ (rs : List Row). take_rows_of q cells rs st out) (take_min k rows)
