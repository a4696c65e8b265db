-- The tests of all rows: the counts of one cell's message, and a test that every row passes.
-- Assumes nothing.
use Prim.Native.Nat.{ℕ, ◌+◌, ◌<◌, ◌≤◌}
use mathlib.Core.Path.{◌≡◌, refl, ◌∙◌, ap}
use mathlib.Core.Bool.{Bool, ◌&&◌}
use mathlib.Core.List.{List, [], ◌∷◌}
use mir.Val.{bool_byte}
use native.Mathlib.Omega.{arith}
use lib.ListN.{length, take, get_or}
use lib.Seq.{take_all}
use Rattle.std.specs.List.{list_all}
use Rattle.base.specs.Lists.{every, count_of}
use Rattle.cells.specs.Cell.{Cell}
use Rattle.cells.specs.Sound.{sound_cells}
use Rattle.rows.specs.declared.Row.{Row}
use Rattle.rows.specs.Rows.{cells_in}
use Rattle.rows.proofs.Tests.{byte-le, count_none, count-step}
use Rattle.sound_cells.specs.declared.Tally.{Tally}
use Rattle.sound_cells.specs.Counted.{mate, twin, unlike, mates_of, counted_cell}
use Rattle.sound_cells.proofs.Counting.{counted-sound}

-- The three counts of the first i rows.
pub record Tallied (a : Cell) (rows : List Row) (i : ℕ) (t : Tally) : Type 0 where
  pub few : (t.mates ≤ i) × (t.twins ≤ i) × (t.unlike ≤ i)
  pub mates : t.mates ≡ count_of (mate a) (cells_in (take i rows))
  pub twins : t.twins ≡ count_of (twin a) (cells_in (take i rows))
  pub unlike : t.unlike ≡ count_of (unlike a) (cells_in (take i rows))

pub tally-starts : (a : Cell) (rows : List Row) (t : Tally) → t.mates ≡ 0 → t.twins ≡ 0 → t.unlike ≡ 0 → Tallied a rows 0 t
tally-starts a rows t m n k = record {
  few = (omega (arith, m), omega (arith, n), omega (arith, k));
  mates = m ∙ count_none (mate a);
  twins = n ∙ count_none (twin a);
  unlike = k ∙ count_none (unlike a);
}

-- One row more: x, y and z tell whether it is a mate, a twin and unlike.
pub tally-more : (a : Cell) (rows : List Row) (i : ℕ) (d : Row) {t : Tally} (h : Tallied a rows i t) (l : i < length rows)
    {x y z : Bool} {m n k : ℕ}
    → x ≡ mate a (get_or rows i d).cell → y ≡ twin a (get_or rows i d).cell → z ≡ unlike a (get_or rows i d).cell
    → m ≡ bool_byte x → n ≡ bool_byte y → k ≡ bool_byte z
    → Tallied a rows (i + 1) (record { mates = t.mates + m; twins = t.twins + n; unlike = t.unlike + k })
tally-more a rows i d h l {x} {y} {z} e f g m n k = record {
  few = (omega (arith, h.few.0, m, byte-le x), omega (arith, h.few.1, n, byte-le y), omega (arith, h.few.2, k, byte-le z));
  mates = count-step (mate a) rows i d l e m h.mates;
  twins = count-step (twin a) rows i d l f n h.twins;
  unlike = count-step (unlike a) rows i d l g k h.unlike;
}

pub tally-end : (a : Cell) (rows : List Row) (i : ℕ) {t : Tally} → Tallied a rows i t → length rows ≤ i → t ≡ mates_of (cells_in rows) a
unfolding mates_of
tally-end a rows i h l = let e = take_all i rows l in
    λ k. record { mates = (rw e at h.mates) k; twins = (rw e at h.twins) k; unlike = (rw e at h.unlike) k }

module _ (p : Cell → Bool) where
  every-is : (rows : List Row) → list_all (λ r. p r.cell) rows ≡ every p (cells_in rows)
  unfolding every cells_in
  every-is [] = refl
  every-is (r ∷ rows) = ap (λ (b : Bool). p r.cell && b) (every-is rows)

-- Do all rows pass the test by counts?
pub all-sound : (rows : List Row) (next : ℕ → ℕ) {b : Bool} → b ≡ list_all (λ r. counted_cell (cells_in rows) next r.cell) rows → b
    ≡ sound_cells (cells_in rows) next
all-sound rows next e = e ∙ every-is (counted_cell (cells_in rows) next) rows ∙ counted-sound (cells_in rows) next
