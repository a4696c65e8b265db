use Rattle.std.specs.Slice.Iter.{chunk_by_rest}
use Rattle.ack.specs.Records.{records_bytes, runs}
use Rattle.base.proofs.Runs.{Left}
use Rattle.ack.proofs.runs.put_runs.Given as goal

abbrev pub invariant-loop-run : goal.invariant-loop-run
invariant-loop-run l =
    Left l.p (records_bytes (runs l.numbers)) l.initial.out l.q (records_bytes (runs (chunk_by_rest l.run-iterator))) l.out
