use mathlib.Core.Path.{◌≡◌}
use mathlib.Core.List.{◌++◌}
use lib.ListN.{take, drop}
use Rattle.recv_channel.proofs.advance_each.Given as goal

-- the first c records are at their numbers
abbrev pub invariant-loop-c : goal.invariant-loop-c
invariant-loop-c l = l.channels ≡ take l.c l.numbers ++ drop l.c l.initial.channels
