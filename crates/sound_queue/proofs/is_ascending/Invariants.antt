use mathlib.Core.Path.{◌≡◌}
use mathlib.Core.Bool.{◌&&◌, not}
use Prim.Native.Nat.{◌-◌}
use lib.ListN.{drop}
use Rattle.ack.specs.Write.{ascending}
use Rattle.sound_queue.proofs.is_ascending.Given as goal

abbrev pub invariant-loop-i : goal.invariant-loop-i
invariant-loop-i l = (not l.falls && ascending (drop (l.i - 1) l.numbers)) ≡ ascending l.numbers
