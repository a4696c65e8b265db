use mathlib.Core.Path.{◌≡◌}
use mathlib.Core.Bool.{false}
use Prim.Native.Nat.{ℕ, ◌*◌, ◌<◌, ◌≤◌}
use Rattle.window.specs.Places.{place_set}
use Rattle.window.specs.Words.{word_places}
use Rattle.window.proofs.words.highest.Given as goal

abbrev pub invariant-loop-j : goal.invariant-loop-j
invariant-loop-j l = (x : ℕ) → l.first ≤ x → l.j * word_places ≤ x → x < l.end → place_set l.bits x ≡ false
