use mathlib.Core.Path.{◌≡◌}
use Prim.Native.Nat.{◌-◌}
use Rattle.base.specs.Limits.{window_places}
use Rattle.window.specs.Window.{window_of, advance}
use Rattle.window.proofs.advanced.Given as goal

abbrev pub invariant-loop-n : goal.invariant-loop-n
invariant-loop-n l = advance (l.end - l.n) (window_of l.n l.bits) ≡ advance window_places (window_of l.low l.initial.bits)
