use Prim.Native.Nat.{◌≤◌}
use mathlib.Core.Path.{◌≡◌}
use lib.ListN.{take}
use Rattle.base.specs.Lists.{count_of}
use Rattle.rows.specs.Rows.{cells_in}
use Rattle.recv_save.specs.Slots.{begins}
use Rattle.recv_save.proofs.slots.count_entries.Given as goal

abbrev pub invariant-loop-r : goal.invariant-loop-r
invariant-loop-r l = (l.n ≤ l.r-index) × (l.n ≡ count_of (begins l.used) (cells_in (take l.r-index l.rows)))
