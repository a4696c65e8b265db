use lib.ListN.{drop}
use Rattle.base.proofs.Runs.{Left}
use Rattle.recv_save.specs.Slots.{entries_from}
use Rattle.recv_save.proofs.slots.gather.Given as goal

abbrev pub invariant-loop-i : goal.invariant-loop-i
invariant-loop-i l = Left 0 (entries_from 0 l.rows) l.initial.entries l.k (entries_from l.i (drop l.i l.rows)) l.entries
