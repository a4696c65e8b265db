-- Unused records at the end do not matter to soundness.
-- Assumes nothing.
use Prim.Native.Nat.{ℕ, ◌+◌, ◌*◌, ◌≤◌}
use mathlib.Core.Path.{◌≡◌, refl, ◌∙◌}
use mathlib.Core.Bool.{Bool, true, false, not, ◌&&◌, ◌||◌}
use mathlib.Core.List.{List, [], ◌∷◌, ◌++◌}
use native.Mathlib.Omega.{arith}
use lib.Dec.{leb}
use lib.ListN.{length, take, length-append}
use lib.Seq.{length-take-le}
use borrow.Author.Tests.{leb-true, eqb-true, eq-eqb, le-leb}
use Rattle.base.specs.Limits.{max_cells, cell_bytes}
use Rattle.base.specs.Lists.{every}
use Rattle.base.proofs.Choices.{and_left, and_right, and_both}
use Rattle.base.proofs.Lists.{every-mem, every-all}
use Rattle.rows.proofs.ListMaps.{every_append}
use Rattle.cells.specs.Cell.{Cell, bears, at}
use Rattle.cells.specs.Sound.{key_of, alike, sound_cell, sound_cells, lengths}
use Rattle.receiver.specs.declared.RecvQueue.{RecvQueue}
use Rattle.receiver.specs.Queue.{next_of}
use Rattle.receiver.specs.Receive.{sound_call}
use Rattle.recv_prefix.specs.First.{is_unused}
use Rattle.recv_prefix.proofs.Unused.{bears-unused, at-unused, count-first, lacks-first}

and_yes : (a b : Bool) → b ≡ true → (a && b) ≡ a
and_yes true b e = e
and_yes false b e = refl

every-same : (p q : Cell → Bool) (cs : List Cell) → ((c : Cell) → p c ≡ q c) → every p cs ≡ every q cs
unfolding every
every-same p q [] h = refl
every-same p q (c ∷ cs) h = rw (h c, every-same p q cs h)

module _ (first rest : List Cell) (unused : every is_unused rest ≡ true) where
  alike-first : (c : Cell) → every (λ d. not (bears (key_of c) d) || alike c d) (first ++ rest)
      ≡ every (λ d. not (bears (key_of c) d) || alike c d) first
  alike-first c =
      every_append (λ d. not (bears (key_of c) d) || alike c d) first rest
      ∙ and_yes _ _ (every-all (λ d. not (bears (key_of c) d) || alike c d) rest
      (λ d m. rw (bears-unused (key_of c) d (every-mem is_unused rest unused d m))))

  cell-first : (next : ℕ → ℕ) (c : Cell) → sound_cell (first ++ rest) next c ≡ sound_cell first next c
  unfolding sound_cell
  cell-first next c = rw (
    count-first rest unused (at (key_of c) c.index) (at-unused (key_of c) c.index) first,
    alike-first c,
    lacks-first rest unused (key_of c) first c.count,
  )

  unused-sound : (next : ℕ → ℕ) (c : Cell) → is_unused c ≡ true → sound_cell (first ++ rest) next c ≡ true
  unfolding sound_cell is_unused
  unused-sound next c e = rw e

  cells-first : (next : ℕ → ℕ) → sound_cells (first ++ rest) next ≡ sound_cells first next
  cells-first next =
      every_append (sound_cell (first ++ rest) next) first rest
      ∙ and_yes _ _ (every-all (sound_cell (first ++ rest) next) rest (λ c m. unused-sound next c (every-mem is_unused rest unused c m)))
      ∙ every-same (sound_cell (first ++ rest) next) (sound_cell first next) first (cell-first next)

module _ (first rest : List Cell) (st : List ℕ) (fit : lengths (length first + length rest) (length st) ≡ true) where
  -- the store is one cell for each record
  pub store_long : length st ≡ cell_bytes * (length first + length rest)
  unfolding lengths
  store_long = eqb-true _ _ (and_right (leb (length first + length rest) max_cells) _
      (and_right (leb 1 (length first + length rest)) _ fit))

  few : length first + length rest ≤ max_cells
  unfolding lengths
  few = leb-true _ _ (and_left (leb (length first + length rest) max_cells) _ (and_right (leb 1 (length first + length rest)) _ fit))

  -- the part of the store that the first records have
  pub part-long : length (take (cell_bytes * length first) st) ≡ cell_bytes * length first
  part-long = let a = store_long in length-take-le (cell_bytes * length first) st (omega arith)

  part-fits : 1 ≤ length first → lengths (length first) (length (take (cell_bytes * length first) st)) ≡ true
  unfolding lengths
  part-fits some = let a = few in and_both _ _ (le-leb _ _ some) (and_both _ _ (le-leb (length first) max_cells (omega arith))
      (eq-eqb _ _ part-long))

-- Records are as sound as the first ones over their part of the store, where those after them are unused.
pub sound-first : (q : RecvQueue) (first rest : List Cell) (st : List ℕ) → every is_unused rest ≡ true → 1 ≤ length first
    → lengths (length first + length rest) (length st) ≡ true
    → sound_call q (first ++ rest) st ≡ sound_call q first (take (cell_bytes * length first) st)
unfolding sound_call
sound-first q first rest st unused some fit = rw (
  length-append first rest,
  fit,
  part-fits first rest st fit some,
  cells-first first rest
      unused (next_of q),
)
