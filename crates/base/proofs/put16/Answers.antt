use Rattle.base.specs.Bytes.{be16_bytes}
use Rattle.base.proofs.Puts.{run-cons}
use Rattle.base.proofs.put16.Goals as goal

pub returns : goal.returns
unfolding be16_bytes
returns c = let e = c.to_be_bytes.ensures in run-cons _ _ _ _ _ _ _ _ (rw e at c.put-a.ensures) (rw e at c.put.ensures)
