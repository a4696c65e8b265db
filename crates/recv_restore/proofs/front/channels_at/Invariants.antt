use Prim.Native.Nat.{◌-◌}
use mathlib.Core.List.{◌++◌}
use mathlib.Core.Path.{◌≡◌}
use lib.ListN.{replicate}
use Rattle.recv_restore.specs.Front.{channels_from}
use Rattle.recv_restore.proofs.Values.{zero_channel}
use Rattle.recv_restore.proofs.front.channels_at.Given as goal

abbrev pub invariant-loop-c : goal.invariant-loop-c
invariant-loop-c l = l.channels ≡ channels_from l.s l.c ++ replicate (32 - l.c) zero_channel
