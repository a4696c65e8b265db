-- What holds of each window that inserts make: document 01's "values .. obey the limits", as far as it speaks of a window.
use Rattle.std.specs.Prelude.{ℕ, ◌<◌, ◌≤◌, false, ◌≡◌, length}
use Rattle.base.specs.Limits.{numbers24, window_places}
use Rattle.base.specs.Numbers.{ahead}
use Rattle.window.specs.Places.{place_set}
use Rattle.window.specs.declared.ReliableWindow.{ReliableWindow}

-- the type's own fact, which each value of the struct has: 256 bytes
abbrev pub Sized : ReliableWindow → Type 0
Sized w = length w.bits ≡ 256

-- low is at most 2^24, and a place whose number would be 2^24 or more is clear
pub record Proper (w : ReliableWindow) : Type 0 where
  pub sized : Sized w
  pub low_limit : w.low ≤ numbers24
  pub places_limit : (n : ℕ) → w.low < n → n ≤ ahead w.low window_places → numbers24 ≤ n → place_set w.bits n ≡ false
