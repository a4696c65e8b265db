use Rattle.std.proofs.Common.{◌≡◌, ◌++◌, map, take, drop}
use Rattle.recv_queue.proofs.convert.Given as goal

abbrev pub invariant-loop-i : goal.invariant-loop-i
invariant-loop-i g l = (f : _ → _) → ((a : _) (b : _) → g.B.From.from_gives a b → b ≡ f a)
    → l.to ≡ map f (take l.i l.from) ++ drop l.i l.fn.to
