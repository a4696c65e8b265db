-- The call of request 4: what it drops, frees and leaves.
-- Assumes nothing.
use Prim.Native.Nat.{ℕ, ◌+◌, ◌-◌, ◌^◌, ◌≤◌, ◌<◌}
use mathlib.Core.Path.{◌≡◌, refl, sym, ◌∙◌, ap}
use mathlib.Core.Bool.{Bool, true, false, cond}
use mathlib.Core.List.{List}
use native.Mathlib.Omega.{arith}
use lib.ListN.{length, get_or, length-map, get_or-map}
use lib.Dec.{eqb}
use Rattle.base.specs.Answer.{Answer, refused, gives}
use Rattle.base.specs.If.{if_true}
use Rattle.base.specs.Lists.{count_of}
use Rattle.base.proofs.Choices.{cond-ap}
use Rattle.cells.specs.Cell.{Cell, Slot, is_free, empty_cell, empty_slot, unused_use}
use Rattle.cells.specs.Ages.{is_stale, dropped}
use Rattle.cells.specs.Records.{change_cells}
use Rattle.cells.specs.Store.{slots_of, cells_of}
use Rattle.cells.proofs.Dropping.{stale-less, dropped-at, dropped-free, dropped-fewer, dropped-none-stale, dropped-again}
use Rattle.cells.proofs.Records.{count-cells, cells-dropped}
use Rattle.cells.proofs.SoundKept.{drop-sound}
use Rattle.cells.proofs.Store.{cells-slots}
use Rattle.receiver.specs.declared.RecvQueue.{RecvQueue}
use Rattle.receiver.specs.Queue.{next_of}
use Rattle.receiver.specs.Receive.{sound_call}
use Rattle.receiver.specs.Drop.{DropResult, drop_refuses, drop_gives, drop_unfinished_of}
use Rattle.receiver.specs.Calls.{drop_unfinished, drop_outcome, outcome}
use Rattle.receiver.specs.Receiver.{Receiver}
use Rattle.receiver.proofs.AnswerCases.{by-true}
use Rattle.receiver.proofs.Receives.{cells-sound, other-records}

-- the records without those of the unfinished messages that n drops
abbrev pub kept_past : ℕ → List Cell → List Cell
kept_past n rs = (drop_gives n rs).records

abbrev is_unused : Cell → Bool
is_unused c = eqb c.used unused_use

-- The greatest n of a call drops only what every n drops.
pub greatest-drops-least : (n : ℕ) (c : Cell) → n < 2 ^ 32 → is_stale (2 ^ 32 - 1) c ≡ true → is_stale n c ≡ true
greatest-drops-least n c lt = stale-less n (2 ^ 32 - 1) c (omega arith)

-- ---- the records left are those of the slots left, and so are their laws (cells/proofs/Dropping)
cell-at : (l : List Slot) (i : ℕ) → get_or (cells_of l) i empty_cell ≡ (get_or l i empty_slot).cell
unfolding cells_of empty_slot
cell-at l i = get_or-map (λ (s : Slot). s.cell) l i empty_slot

unused-count : (l : List Slot) → count_of is_unused (cells_of l) ≡ count_of is_free l
unfolding is_free
unused-count l = count-cells is_unused l

module _ (rs : List Cell) (st : List ℕ) (n : ℕ) where
  abbrev l : List Slot
  l = slots_of rs st

  kept-is : cells_of (dropped n l) ≡ kept_past n rs
  kept-is = cells-dropped n l ∙ ap (kept_past n) (cells-slots rs st)

  stale-count : (k : ℕ) → count_of (is_stale k) rs ≡ count_of (λ s. is_stale k s.cell) l
  stale-count k = ap (count_of (is_stale k)) (sym (cells-slots rs st)) ∙ count-cells (is_stale k) l

  kept-length : length (kept_past n rs) ≡ length rs
  unfolding change_cells
  kept-length = length-map rs (λ (c : Cell). cond (is_stale n c) empty_cell c)

  -- record i afterwards
  kept-at : (i : ℕ) → get_or (kept_past n rs) i empty_cell ≡ cond (is_stale n (get_or rs i empty_cell)) empty_cell (get_or rs i empty_cell)
  unfolding empty_slot
  kept-at i = ap (λ (cs : List Cell). get_or cs i empty_cell) (sym kept-is)
      ∙ (cell-at (dropped n l) i ∙ (ap (λ (s : Slot). s.cell) (dropped-at n l i)
      ∙ (cond-ap (λ (s : Slot). s.cell) (is_stale n (get_or l i empty_slot).cell) empty_slot (get_or l i empty_slot)
      ∙ ap (λ (c : Cell). cond (is_stale n c) empty_cell c)
      (sym (cell-at l i) ∙ ap (λ (cs : List Cell). get_or cs i empty_cell) (cells-slots rs st)))))

  kept-unused : count_of is_unused (kept_past n rs) ≡ count_of is_unused rs + count_of (is_stale n) rs
  kept-unused = rw (← kept-is, unused-count (dropped n l), stale-count n, dropped-free n l)
      (ap (λ (m : ℕ). m + count_of (λ s. is_stale n s.cell) l)
      (sym (unused-count l) ∙ ap (count_of is_unused) (cells-slots rs st)))

  none-counted : (k : ℕ) → n ≤ k → count_of (is_stale k) (kept_past n rs) ≡ 0
  none-counted k le = rw (← kept-is) (count-cells (is_stale k) (dropped n l) ∙ dropped-none-stale n k l le)

  none-changed : (k : ℕ) → n ≤ k → kept_past k (kept_past n rs) ≡ kept_past n rs
  none-changed k le = rw (← kept-is) (sym (cells-dropped k (dropped n l)) ∙ ap cells_of (dropped-again n k l le))

  fewer-counted : (k : ℕ) → n ≤ k → count_of (is_stale k) rs ≤ count_of (is_stale n) rs
  fewer-counted k le = rw (stale-count k, stale-count n) (dropped-fewer n k l le)

-- ---- the call
module _ (q : RecvQueue) (rs : List Cell) (st : List ℕ) (n : ℕ) where
  -- It refuses by 9 and changes nothing, or receiver, records and store are sound.
  pub drop-ways : (P : DropResult → Type 0) → (sound_call q rs st ≡ false → P (drop_refuses rs))
      → (sound_call q rs st ≡ true → P (drop_gives n rs)) → P (drop_unfinished_of q rs st n)
  unfolding drop_unfinished_of
  drop-ways P bad good = by-true P (sound_call q rs st) good bad

  -- Then what it leaves is sound, too.
  pub kept-sound : sound_call q rs st ≡ true → sound_call q (kept_past n rs) st ≡ true
  kept-sound s = other-records q rs st s (kept_past n rs) (kept-length rs st n)
      (rw (kept-is rs st n) at
      (drop-sound (next_of q) (slots_of rs st) n (rw (cells-slots rs st) (cells-sound q rs st s))))

  -- It refuses by 9 alone.
  pub refuses-9-alone : (number : ℕ) → (drop_unfinished_of q rs st n).answer ≡ refused number → (number ≡ 9) × (sound_call q rs st ≡ false)
  refuses-9-alone number = drop-ways (λ (r : DropResult). r.answer ≡ refused number → (number ≡ 9) × (sound_call q rs st ≡ false))
      (λ s e. (cc, s)) (λ s e. absurd (let z : ◌≡◌ {A = ℕ} 0 1 = cc in omega arith))

  -- The records that it does not drop stay as they are, and all do at a refusal;
  pub others-stay : (i : ℕ) → is_stale n (get_or rs i empty_cell) ≡ false
      → get_or (drop_unfinished_of q rs st n).records i empty_cell ≡ get_or rs i empty_cell
  others-stay i e = drop-ways (λ (r : DropResult). get_or r.records i empty_cell ≡ get_or rs i empty_cell) (λ s. refl)
      (λ s. kept-at rs st n i ∙ rw e)

  module _ (m : ℕ) (e : (drop_unfinished_of q rs st n).answer ≡ gives m) where
    given : (sound_call q rs st ≡ true) × (drop_unfinished_of q rs st n ≡ drop_gives n rs)
    given = drop-ways (λ (r : DropResult). r.answer ≡ gives m → (sound_call q rs st ≡ true) × (r ≡ drop_gives n rs))
        (λ s f. absurd (let z : ◌≡◌ {A = ℕ} 0 1 = cc in omega arith)) (λ s f. (s, refl)) e

    answer-is : count_of (is_stale n) rs ≡ m
    answer-is = let f : ◌≡◌ {A = Answer ℕ} (gives (count_of (is_stale n) rs)) (gives m) = rw given.1 at e in cc

    -- those that it drops become unused,
    pub stale-become-unused : (i : ℕ) → is_stale n (get_or rs i empty_cell) ≡ true
        → get_or (drop_unfinished_of q rs st n).records i empty_cell ≡ empty_cell
    stale-become-unused i t = rw given.1 (kept-at rs st n i ∙ rw t)

    -- and as many more are unused as it answers.
    pub frees-its-answer : count_of is_unused (drop_unfinished_of q rs st n).records ≡ count_of is_unused rs + m
    frees-its-answer = rw given.1 (kept-unused rs st n ∙ rw answer-is)

    -- Once more, with this n or a larger one, frees none and leaves the records as they are.
    pub again-frees-none : (k : ℕ) → n ≤ k → drop_unfinished_of q (drop_unfinished_of q rs st n).records st k
        ≡ record { answer = gives 0; records = (drop_unfinished_of q rs st n).records }
    unfolding drop_unfinished_of if_true
    again-frees-none k le = rw given.1 (rw (kept-sound given.0, none-counted rs st n k le, none-changed rs st n k le))

-- A larger number frees no more.
pub larger-frees-fewer : (q : RecvQueue) (rs : List Cell) (st : List ℕ) (n k a b : ℕ) → n ≤ k
    → (drop_unfinished_of q rs st n).answer ≡ gives a → (drop_unfinished_of q rs st k).answer ≡ gives b → b ≤ a
larger-frees-fewer q rs st n k a b le e f = rw (← answer-is q rs st n a e, ← answer-is q rs st k b f) (fewer-counted rs st n k le)

-- Receiver and store stay.
pub drop-leaves : (x : Receiver) (n : ℕ) → ((outcome x (drop_unfinished n)).left.queue ≡ x.queue)
    × ((outcome x (drop_unfinished n)).left.store ≡ x.store)
unfolding outcome drop_outcome
drop-leaves x n = (refl, refl)
