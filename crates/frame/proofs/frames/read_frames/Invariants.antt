use Prim.Native.Nat.{◌-◌}
use lib.ListN.{length}
use Rattle.frame.proofs.FramesCases.{Passed}
use Rattle.frame.proofs.frames.read_frames.Given as goal

abbrev pub invariant-loop-span : goal.invariant-loop-span
invariant-loop-span l = Passed l.p l.s l.at l.place l.count

abbrev pub decreases-loop-span : goal.decreases-loop-span
decreases-loop-span l = length l.s - l.place
