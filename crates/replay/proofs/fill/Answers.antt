use Rattle.replay.proofs.Filled.{filled, filled-whole}
use Rattle.replay.proofs.fill.Goals as goal

pub loop-byte-preserved : goal.loop-byte-preserved
loop-byte-preserved c =
    filled _ _ _ _ _ _ _ c.loop-byte-test.true c.loop-byte.auto.out c.to_be_bytes.ensures c.loop-byte.invariant

pub returns : goal.returns
returns c = filled-whole _ _ _ _ _ c.loop-byte.auto.out c.loop-byte-test.false c.loop-byte.invariant
