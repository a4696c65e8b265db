use Rattle.base.proofs.Puts.{run-then}
use Rattle.recv_save.specs.Slots.{section_bytes}
use Rattle.recv_save.proofs.slots.put_section.Goals as goal

pub returns : goal.returns
unfolding section_bytes
returns c = run-then _ _ _ _ _ _ _ _ (rw c.count_entries.ensures at c.put32-a.ensures) c.put_entries.ensures
