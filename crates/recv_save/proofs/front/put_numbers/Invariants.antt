use lib.ListN.{drop}
use Rattle.base.proofs.Runs.{Left}
use Rattle.recv_save.specs.Each.{each_bytes}
use Rattle.base.specs.Bytes.{be64_bytes}
use Rattle.recv_save.proofs.front.put_numbers.Given as goal

abbrev pub invariant-loop-n : goal.invariant-loop-n
invariant-loop-n l =
    Left l.to (each_bytes be64_bytes l.numbers) l.initial.out l.p (each_bytes be64_bytes (drop l.n-index l.numbers)) l.out
