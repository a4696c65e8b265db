use Rattle.sound_cells.proofs.Tests.{twin-is, unlike-is}
use Rattle.sound_cells.proofs.Scans.{tally-starts, tally-more, tally-end}
use Rattle.sound_cells.proofs.count_mates.Goals as goal

pub loop-r-init : goal.loop-r-init
loop-r-init c = let z = c.default-t.ensures in tally-starts _ _ c.default-t.result z.0 z.1.0 z.1.1

pub loop-r-preserved : goal.loop-r-preserved
loop-r-preserved c = let m = c.is_mate-mate.ensures in
    tally-more _ _ _ _ c.loop-r.invariant c.loop-r-test.true m (twin-is _ _ m) (unlike-is _ _ m c.is_like.ensures) c.from.ensures
    c.from-in-loop-r.ensures c.from-in-loop-r-2.ensures

pub returns : goal.returns
returns c = tally-end _ _ _ c.loop-r.invariant c.loop-r-test.false
