use Rattle.base.proofs.Puts.{run-then}
use Rattle.recv_save.specs.Front.{channels_bytes}
use Rattle.recv_save.proofs.front.put_all_channels.Goals as goal

pub returns : goal.returns
unfolding channels_bytes
returns c = run-then _ _ _ _ _ _ _ _ c.put32-a.ensures (run-then _ _ _ _ _ _ _ _ c.put_channels-b.ensures c.put_pair.ensures)
