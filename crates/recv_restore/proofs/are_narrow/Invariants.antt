use Prim.Native.Nat.{◌+◌, ◌*◌}
use mathlib.Core.Path.{◌≡◌}
use mathlib.Core.Bool.{true}
use lib.Dec.{ltb}
use Rattle.base.specs.Bytes.{be64}
use Rattle.base.specs.Lists.{below}
use Rattle.recv_restore.specs.Fits.{numbers32}
use Rattle.recv_restore.proofs.are_narrow.Given as goal

abbrev pub invariant-loop-i : goal.invariant-loop-i
invariant-loop-i l = below l.i (λ j. ltb (be64 l.s (l.p + 8 * j)) numbers32) ≡ true
