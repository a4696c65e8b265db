use lib.ListN.{drop}
use Rattle.base.proofs.Runs.{Left}
use Rattle.recv_save.specs.Each.{each_bytes}
use Rattle.recv_save.specs.Slots.{entry_bytes}
use Rattle.recv_save.proofs.slots.put_entries.Given as goal

abbrev pub invariant-loop-entry : goal.invariant-loop-entry
invariant-loop-entry l =
    Left l.to (each_bytes (entry_bytes l.used l.rows l.store) l.order) l.initial.out l.p
    (each_bytes (entry_bytes l.used l.rows l.store) (drop l.entry-index l.order)) l.out
