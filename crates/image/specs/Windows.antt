-- A window as it stands in an image: "low, then 256 bytes, the place above low in the first's lowest bit".
use Rattle.std.specs.Prelude.{ℕ, zero, suc, ◌+◌, ◌*◌, ◌-◌, ◌%◌, Bool, cond, List, [], ◌∷◌, ◌++◌}
use Rattle.base.specs.Limits.{window_places}
use Rattle.window.specs.declared.ReliableWindow.{ReliableWindow}
use Rattle.window.specs.Places.{place_set}
use Rattle.image.specs.Image.{WindowEntry}

-- eight places in a byte, the first in its lowest bit
unfoldable pub eight : (ℕ → Bool) → ℕ → ℕ
eight place p =
    cond (place p) 1 0 + cond (place (p + 1)) 2 0 + cond (place (p + 2)) 4 0 + cond (place (p + 3)) 8 0
    + cond (place (p + 4)) 16 0 + cond (place (p + 5)) 32 0 + cond (place (p + 6)) 64 0 + cond (place (p + 7)) 128 0

-- the first n bytes of places
unfoldable pub packed : (ℕ → Bool) → ℕ → List ℕ
packed place zero = []
packed place (suc n) = packed place n ++ (eight place (8 * n) ∷ [])

-- the k-th place of the entry is that of low + 1 + k
unfoldable pub window_entry : ReliableWindow → WindowEntry
window_entry w = record { low = w.low; places = packed (λ k. place_set w.bits (w.low + 1 + k)) 256 }

-- the window of an entry: number n, of those above low, has place n - low - 1 of the entry's; both go round after 2,048
unfoldable pub window_from : WindowEntry → ReliableWindow
window_from e = record {
  low = e.low;
  bits = packed (λ n. place_set e.places (n + window_places - (e.low + 1) % window_places)) 256;
}
