use Prim.Native.Nat.{◌+◌, ◌*◌, ◌≤◌}
use mathlib.Core.Path.{◌≡◌}
use lib.ListN.{drop, length}
use Rattle.recv_save.specs.Each.{each_bytes}
use Rattle.recv_save.specs.Slots.{entry_bytes}
use Rattle.recv_save.proofs.slots.entries_len.Given as goal

abbrev pub invariant-loop-entry : goal.invariant-loop-entry
invariant-loop-entry l =
    (l.n ≤ 1572 * l.entry-index) × (l.n + length (each_bytes (entry_bytes l.used l.rows l.store) (drop l.entry-index l.order))
    ≡ length (each_bytes (entry_bytes l.used l.rows l.store) l.order))
