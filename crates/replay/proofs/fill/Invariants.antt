use Rattle.std.proofs.Common.{◌≡◌, ◌-◌, ◌++◌, take, length}
use Rattle.replay.specs.Patterns.{pattern_from}
use Rattle.replay.proofs.fill.Given as goal

-- what is written, and what is still to be made, are the whole
abbrev pub invariant-loop-byte : goal.invariant-loop-byte
invariant-loop-byte l =
    pattern_from (length l.fn.out) l.fn.seed ≡ take l.byte-index l.out ++ pattern_from (length l.fn.out - l.byte-index) l.x
