use Rattle.recv_save.proofs.PutCases.{places-none, places-next}
use Rattle.recv_save.proofs.front.put_places.Goals as goal

pub loop-k-init : goal.loop-k-init
loop-k-init c = places-none _ _ _

pub loop-k-preserved : goal.loop-k-preserved
loop-k-preserved c = places-next _ _ _ _ _ _ _ _ _ c.loop-k.invariant c.put-p.ensures c.byte.ensures
