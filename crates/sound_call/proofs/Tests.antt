-- The tests of `is_sound`, one after the other.
-- Assumes nothing.
use mathlib.Core.Path.{◌≡◌}
use mathlib.Core.Bool.{Bool, true, false}
use mathlib.Core.List.{List}
use Prim.Native.Nat.{ℕ}
use lib.ListN.{length}
use Rattle.std.specs.Prelude.{Result}
use Rattle.std.specs.Result.{is_ok}
use Rattle.base.specs.declared.refusal.Refusal.{Refusal}
use Rattle.cells.specs.Sound.{sound_cells, lengths}
use Rattle.rows.specs.declared.Row.{Row}
use Rattle.rows.specs.Rows.{cells_in}
use Rattle.rows.proofs.Rows.{cells-length}
use Rattle.sound_queue.specs.Sound.{queue_sound_of}
use Rattle.sound_queue.proofs.Rules.{told_is_ok}
use Rattle.receiver.specs.declared.RecvQueue.{RecvQueue}
use Rattle.receiver.specs.Queue.{next_in, next_of}
use Rattle.receiver.specs.Receive.{sound_call}

module _ (q : RecvQueue) (rows : List Row) (st : List ℕ) where
  pub lengths_not : false ≡ lengths (length rows) (length st) → sound_call q (cells_in rows) st ≡ false
  unfolding sound_call
  lengths_not e = rw (cells-length rows, ← e)

  -- r is what the test of the receiver's own values told.
  module _ (fit : true ≡ lengths (length rows) (length st)) (r : Result Bool Refusal) (told : r ≡ queue_sound_of q) where
    pub queue_not : is_ok r ≡ false → sound_call q (cells_in rows) st ≡ false
    unfolding sound_call
    queue_not e = rw (cells-length rows, ← fit, ← told_is_ok q r told, e)

    pub cells_decide : is_ok r ≡ true → sound_call q (cells_in rows) st ≡ sound_cells (cells_in rows) (next_in q.channels)
    unfolding sound_call next_of
    cells_decide e = rw (cells-length rows, ← fit, ← told_is_ok q r told, e)

pub ruleset tests = (lengths_not, queue_not, cells_decide)
