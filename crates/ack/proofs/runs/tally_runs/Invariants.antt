use Rattle.std.specs.Slice.Iter.{chunk_by_rest}
use Rattle.ack.proofs.PassCases.{Counted}
use Rattle.ack.proofs.runs.tally_runs.Given as goal

abbrev pub invariant-loop-run : goal.invariant-loop-run
invariant-loop-run l =
    Counted l.numbers (chunk_by_rest l.run-iterator) l.records l.bytes
