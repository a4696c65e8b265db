use mathlib.Core.Path.{◌≡◌}
use Rattle.base.specs.Limits.{window_places}
use Rattle.window.specs.Window.{window_of}
use Rattle.window.specs.Missing.{highest}
use Rattle.missing_plain.proofs.highest.Given as goal

abbrev pub invariant-loop-k : goal.invariant-loop-k
invariant-loop-k l = highest (window_of l.low l.bits) l.k ≡ highest (window_of l.low l.bits) window_places
