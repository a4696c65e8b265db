use mathlib.Core.Path.{◌≡◌}
use lib.ListN.{length, take}
use Rattle.recv_parts.specs.Parts.{channels_of}
use Rattle.recv_parts.proofs.channels_of.Given as goal

-- the first c channels stand at their numbers
abbrev pub invariant-loop-c : goal.invariant-loop-c
invariant-loop-c l = (length l.channels ≡ 32) × (take l.c l.channels ≡ take l.c (channels_of l.nexts))
