-- The tests of entries, in the code's ways.
-- Assumes nothing.
use Prim.Native.Nat.{ℕ, ◌+◌, ◌-◌, ◌*◌, ◌/◌, ◌%◌, ◌<◌, ◌≤◌}
use mathlib.Core.Path.{◌≡◌, refl, sym, ◌∙◌, ap}
use mathlib.Core.Bool.{Bool, true, false}
use mathlib.Core.List.{List}
use native.Mathlib.Numerals.{add-one}
use native.Mathlib.Omega.{arith}
use lib.Dec.{ltb}
use lib.ListN.{length, get_or, take, drop}
use lib.Seq.{take_all}
use borrow.Author.Tests.{eq-eqb, ne_eqb}
use Rattle.base.specs.Limits.{max_cells}
use Rattle.base.specs.Lists.{below}
use Rattle.base.proofs.Choices.{neither}
use Rattle.base.proofs.Lists.{below_all}
use Rattle.std.specs.List.{IsAllAdjacentAnswer}
use Rattle.cells.specs.Cell.{Cell}
use Rattle.cells.specs.Sound.{key_of, sound_cells}
use Rattle.rows.specs.declared.Row.{Row}
use Rattle.rows.specs.Rows.{cells_in, whole_row}
use Rattle.receiver.specs.declared.Channel.{Channel}
use Rattle.receiver.specs.Queue.{next_in}
use Rattle.sound_cells.specs.declared.order.entries.Place.{Place}
use Rattle.sound_cells.specs.Sorted.{place_of, key_number, key_part}
use Rattle.sound_cells.specs.Sorted.{rises, all_rise}
use Rattle.sound_cells.specs.Sorted.{is_placed_entry, counted, tallied, is_due}
use Rattle.sound_cells.proofs.Numbered.{all-fail, row_cell}
use Rattle.sound_cells.proofs.Tallies.{tallied-within}
use Rattle.sound_cells.proofs.Certified.{certified-sound}

-- A cell's part of an entry.
module _ (c : Cell) where
  pub key-open : c.used ≡ 1 → ((4294967296 + c.id) % 4398046511104 ≡ key_part c)
      × ((4294967296 + c.id) % 4398046511104 < 4398046511104)
  unfolding key_part key_number key_of
  key-open u = (rw (eq-eqb c.used 1 u), omega arith)

  pub key-held : (c.used ≡ 1 → ⊥) → c.used ≡ 2 → ((8589934592 + (c.channel * 16777216 + c.order)) % 4398046511104 ≡ key_part c)
      × ((8589934592 + (c.channel * 16777216 + c.order)) % 4398046511104 < 4398046511104)
  unfolding key_part key_number key_of
  key-held n u = (rw (ne_eqb c.used 1 n, eq-eqb c.used 2 u), omega arith)

  pub key-ready : (c.used ≡ 1 → ⊥) → (c.used ≡ 2 → ⊥) → ((12884901888 + c.turn) % 4398046511104 ≡ key_part c)
      × ((12884901888 + c.turn) % 4398046511104 < 4398046511104)
  unfolding key_part key_number key_of
  key-ready n m = (rw (ne_eqb c.used 1 n, ne_eqb c.used 2 m), omega arith)

pub ruleset keys = (key-open, key-held, key-ready)

-- What `is_sorted_by` tells of the entries.
pub all-rise-is : (es : List ℕ) (b : Bool) → IsAllAdjacentAnswer (λ x y r. r ≡ ltb (x / 4096) (y / 4096)) es b → b ≡ all_rise es
unfolding all_rise
all-rise-is es true h = sym (below_all (length es - 1) (rises es) (λ t l. sym (h t 0 (omega arith))))
all-rise-is es false h = all-fail (rises es) h.0 (length es - 1) (omega (arith, h.1)) (h.2 0) refl

-- The counts of the first i rows.
module _ (rows : List Row) (places : List Place) (start : List ℕ) (i : ℕ) {counts : List ℕ} (e : counts ≡ tallied rows places start i) where
  pub tally-more : {new : List ℕ} {r : Row} {p : Place} → r ≡ whole_row rows i → p ≡ place_of places i
      → new ≡ counted counts r.cell p.lead → new
      ≡ tallied rows places start (i + 1)
  unfolding tallied
  tally-more f g h = rw (add-one i, ← e, ← row_cell rows i f, ← g) h

  pub tally-low : (q : ℕ) → ((g : ℕ) → get_or start g 0 ≡ 0) → i ≤ max_cells → get_or counts q 0 ≤ max_cells
  tally-low q none l = rw e (let w = tallied-within rows places start none i q in omega arith)

  pub tally-ends : (n : ℕ) → i ≤ n → n ≤ i → counts ≡ tallied rows places start n
  tally-ends n l g = let same : i ≡ n = omega arith in e ∙ ap (tallied rows places start) same

pub tally-starts : (rows : List Row) (places : List Place) (start : List ℕ) → start ≡ tallied rows places start 0
unfolding tallied
tally-starts rows places start = refl

pub ruleset tallying = (tally-starts, tally-low, tally-ends)

-- What is told where a test fails, and where all pass.
pub nothing-told : {X : Type 0} → false ≡ true → X
nothing-told e = neither false e refl

pub told-true : {b s : Bool} → (b ≡ true → s ≡ true) → b ≡ true → true ≡ s
told-true f e = sym (f e)

-- A slice made anew is the same.
pub told-anew : (rows : List Row) (channels : List Channel) {b : Bool}
    → b ≡ sound_cells (cells_in (take (length rows - 0) (drop 0 rows))) (next_in (take (length channels - 0) (drop 0 channels)))
    → b ≡ sound_cells (cells_in rows) (next_in channels)
told-anew rows channels e = rw (take_all (length rows - 0) rows (omega arith), take_all (length channels - 0) channels (omega arith)) at e

pub ruleset told = (told-true, told-anew)

pub all_tests : (rows : List Row) (next : ℕ → ℕ) (es : List ℕ) (places : List Place) (start : List ℕ) {place due : Bool}
    {counts : List ℕ} → ((g : ℕ) → get_or start g 0 ≡ 0) → length es ≤ length start + 1 → all_rise es ≡ true
    → place ≡ below (length rows) (is_placed_entry rows next es places) → place ≡ true → counts ≡ tallied rows places start (length rows)
    → due ≡ below (length rows) (is_due rows places counts) → due ≡ true → sound_cells (cells_in rows) next ≡ true
unfolding all_rise
all_tests rows next es places start none room a b b' c d d' =
    certified-sound rows next es places a (sym b ∙ b') start none (omega arith)
    (ap (λ (l : List ℕ). below (length rows) (is_due rows places l)) (sym c) ∙ sym d ∙ d')
