-- Demand 3's lists begin with "a receiver just made, of any number of cells": that is what make new gives, whatever the old receiver and
-- the old records were.
-- Assumes nothing.
use Prim.Native.Nat.{◌*◌}
use mathlib.Core.Path.{◌≡◌}
use mathlib.Core.Bool.{true}
use mathlib.Core.List.{List}
use lib.ListN.{length}
use borrow.Author.Tests.{le-leb, eq-eqb}
use Rattle.base.specs.Answer.{gives}
use Rattle.base.specs.If.{if_true}
use Rattle.base.specs.Limits.{max_cells, cell_bytes}
use Rattle.cells.specs.Cell.{Cell}
use Rattle.cells.specs.Sound.{lengths}
use Rattle.receiver.specs.declared.RecvQueue.{RecvQueue}
use Rattle.receiver.specs.Calls.{made}
use Rattle.receiver.specs.Claim.{Start, begun}
use Rattle.recv_new.specs.New.{make_new_of}

right-lengths : (s : Start) → lengths s.cells (length s.store) ≡ true
unfolding lengths
right-lengths s = rw (
  le-leb 1 s.cells s.some_cells,
  le-leb s.cells max_cells s.most-cells,
  eq-eqb (length s.store)
      (cell_bytes * s.cells) s.store_length,
)

pub made-new : (s : Start) (q : RecvQueue) (rs : List Cell) → length rs ≡ s.cells → make_new_of s.profile q rs s.store
    ≡ record { answer = gives tt; queue = (begun s).queue; records = (begun s).records }
unfolding make_new_of made if_true
made-new s q rs e = rw (e, right-lengths s)
