use Prim.Native.Nat.{◌-◌}
use mathlib.Core.List.{◌++◌}
use mathlib.Core.Path.{◌≡◌}
use lib.ListN.{replicate}
use Rattle.image.specs.Windows.{packed}
use Rattle.recv_restore.proofs.Values.{turned}
use Rattle.recv_restore.proofs.front.window_at.Given as goal

abbrev pub invariant-loop-k : goal.invariant-loop-k
invariant-loop-k l = l.bits ≡ packed (turned l.places l.from) l.k ++ replicate (256 - l.k) 0
