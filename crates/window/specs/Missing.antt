-- Document 01: "Missing numbers are the datagram numbers never accepted below the highest accepted; none before the first."
use Rattle.std.specs.Prelude.{ℕ, zero, suc, ◌-◌, List, [], ◌∷◌, min}
use Rattle.base.specs.If.{if_true}
use Rattle.base.specs.Limits.{numbers24, window_places}
use Rattle.base.specs.Put.{and_then}
use Rattle.base.specs.Numbers.{ahead}
use Rattle.window.specs.Places.{place_set}
use Rattle.window.specs.Window.{accepted}
use Rattle.window.specs.declared.ReliableWindow.{ReliableWindow}

-- how far above low the highest accepted number stands, of those up to k above it; 0 where none of their places is set
unfoldable pub highest : ReliableWindow → ℕ → ℕ
highest w zero = 0
highest w (suc k) = let below = highest w k in if_true (place_set w.bits (ahead w.low (suc k))) (suc k) below

-- n where it was never accepted
unfoldable pub unless_accepted : ReliableWindow → ℕ → List ℕ
unless_accepted w n = if_true (accepted w n) [] (n ∷ [])

-- the numbers never accepted of the first k from low on, ascending
unfoldable pub missing_of : ReliableWindow → ℕ → List ℕ
missing_of w zero = []
missing_of w (suc k) = and_then (missing_of w k) (unless_accepted w (ahead w.low k))

-- how many numbers from low on may be missing: those below the highest accepted. Numbers of 2^24 or more are no datagram numbers and are
-- never named, not even where low is one or a place beyond is set.
abbrev pub searched : ReliableWindow → ℕ
searched w = min (highest w window_places) (numbers24 - w.low)

unfoldable pub missing : ReliableWindow → List ℕ
missing w = missing_of w (searched w)
