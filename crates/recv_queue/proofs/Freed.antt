-- A turn of `free_where`, which leaves record i as it was, or unused.
-- Assumes nothing.
use Prim.Native.Nat.{ℕ, ◌+◌, ◌<◌}
use mathlib.Core.Path.{◌≡◌}
use mathlib.Core.Bool.{Bool, true, false}
use mathlib.Core.List.{List, ◌++◌, map}
use lib.ListN.{length, get_or, set, take, drop}
use native.Mathlib.Omega.{arith}
use Rattle.std.proofs.lemmas.List.{get_or_default}
use Rattle.std.proofs.lemmas.List.Edits.{map_over_more}
use Rattle.cells.specs.Cell.{Cell, empty_cell}
use Rattle.row_slots.specs.First.{blank}
use Rattle.recv_queue.specs.Records.{record_left_by}

-- The first i records are freed where they pass, and b is what the test gave of the next.
module _ (p : Cell → Bool) (old now : List Cell) (i : ℕ) (so : now ≡ map (record_left_by p) (take i old) ++ drop i old) (b : Bool)
    (test : b ≡ p (get_or now i blank)) (l : i < length old) (m : length now ≡ length old) where
  more : (c : Cell) → record_left_by p (get_or now i blank) ≡ c
      → set now i c ≡ map (record_left_by p) (take (i + 1) old) ++ drop (i + 1) old
  more c e = rw (← e) (map_over_more (record_left_by p) old now i (get_or now i blank) l so
      (get_or_default now i blank (get_or now i blank) (omega arith)))

  pub freed_here : (c : Cell) → c ≡ blank → b ≡ true → set now i c ≡ map (record_left_by p) (take (i + 1) old) ++ drop (i + 1) old
  unfolding record_left_by empty_cell
  freed_here c is e = more c (rw (← test, e, is))

  pub freed_left : b ≡ false → set now i (get_or now i blank) ≡ map (record_left_by p) (take (i + 1) old) ++ drop (i + 1) old
  unfolding record_left_by
  freed_left e = more (get_or now i blank) (rw (← test, e))
