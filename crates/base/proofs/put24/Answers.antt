use Rattle.base.specs.Bytes.{le24_bytes}
use Rattle.base.proofs.Puts.{run-cons}
use Rattle.base.proofs.put24.Goals as goal

pub returns : goal.returns
unfolding le24_bytes
returns c =
    let e = c.to_le_bytes.ensures in
    run-cons _ _ _ _ _ _ _ _ (rw e at c.put-a.ensures) (run-cons _ _ _ _ _ _ _ _ (rw e at c.put-b.ensures) (rw e at c.put.ensures))
