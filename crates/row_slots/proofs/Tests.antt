-- Every test on the slots of rows is a test on the rows' records.
-- Assumes nothing.
use Prim.Native.Nat.{ℕ, suc}
use mathlib.Core.Path.{◌≡◌, refl, sym, ◌∙◌, ap}
use mathlib.Core.Bool.{Bool, true, false, cond, ◌||◌}
use mathlib.Core.List.{List, [], ◌∷◌, map}
use native.Mathlib.Omega.{arith}
use lib.Dec.{ltb, eqb}
use lib.ListN.{length, length-map}
use borrow.Author.Tests.{ltb-true, ltb-false, lt-ltb, le-ltb}
use Rattle.base.proofs.Choices.{cases, neither}
use Rattle.base.specs.Lists.{any, count_of}
use Rattle.bare.specs.Frame.{Frame, piece_of}
use Rattle.bare.specs.Bare.{conflict}
use Rattle.cells.specs.Cell.{Cell, Slot, Key, held_as, bears, of, is_free, clash, slot_of, piece_in}
use Rattle.cells.specs.Records.{unused_at, clash_cell, clashes}
use Rattle.cells.specs.Datagram.{is_held}
use Rattle.cells.proofs.Records.{clash-cells, held-cells, room-cells, count-cells}
use Rattle.rows.specs.declared.Row.{Row}
use Rattle.rows.specs.Rows.{cell_of}
use Rattle.row_slots.specs.Slots.{slots_in}
use Rattle.row_slots.proofs.Meaning.{cells_in}
use Rattle.base.proofs.Counts.{count-ext}

-- A piece's test beside a record is that of its own record.
pub clash-records : (f : Frame) (c : Cell) → f.piece ≡ true → clash_cell f c ≡ clashes (slot_of f 1 0).cell c
unfolding clash_cell clashes conflict piece_of piece_in slot_of
clash-records f c e = rw (chosen f.piece f.index 0 e, chosen f.piece f.count 1 e)
  where
    chosen : (t : Bool) (x y : ℕ) → t ≡ true → cond t x y ≡ x
    chosen true x y e = refl
    chosen false x y e = neither false e refl

-- An unused record is there exactly if the lowest unused one is below the number of records.
pub unused-below : (cs : List Cell) → any (λ c. eqb c.used 0) cs ≡ ltb (unused_at cs) (length cs)
unfolding any unused_at
unused-below [] = sym (le-ltb 0 0 (omega arith))
unused-below (c ∷ cs) = go (eqb c.used 0) (unused-below cs)
  where
    go : (t : Bool) → any (λ c. eqb c.used 0) cs ≡ ltb (unused_at cs) (length cs) → (t || any (λ c. eqb c.used 0) cs)
        ≡ ltb (cond t 0 (suc (unused_at cs))) (suc (length cs))
    go true e = sym (lt-ltb 0 (suc (length cs)) (omega arith))
    go false e = e ∙ cases (ltb (unused_at cs) (length cs))
        (λ t. let p = ltb-true (unused_at cs) (length cs) t in t ∙ sym (lt-ltb (suc (unused_at cs)) (suc (length cs)) (omega arith)))
        (λ t. let p = ltb-false (unused_at cs) (length cs) t in t ∙ sym (le-ltb (suc (unused_at cs)) (suc (length cs)) (omega arith)))

module _ (rs : List Row) (st d : List ℕ) where
  -- May the frame not be kept beside the open messages?
  pub clash-rows : (f : Frame) → any (clash f) (slots_in rs st d) ≡ any (clash_cell f) (map cell_of rs)
  clash-rows f = clash-cells f (slots_in rs st d) ∙ ap (any (clash_cell f)) (cells_in rs st d)

  -- The same for a piece, by its own record.
  pub piece-clash-rows : (f : Frame) → f.piece ≡ true → any (clash f) (slots_in rs st d) ≡ any (clashes (slot_of f 1 0).cell)
      (map cell_of rs)
  piece-clash-rows f e = clash-rows f ∙ ap (λ (p : Cell → Bool). any p (map cell_of rs)) (λ i c. clash-records f c e i)

  -- Is the message of channel c and number o held?
  pub held_rows : (c o : ℕ) → is_held c o (slots_in rs st d) ≡ any (bears (held_as c o)) (map cell_of rs)
  held_rows c o = held-cells c o (slots_in rs st d) ∙ ap (any (bears (held_as c o))) (cells_in rs st d)

  -- Is there an unused slot?
  pub room-rows : any is_free (slots_in rs st d) ≡ any (λ c. eqb c.used 0) (map cell_of rs)
  room-rows = room-cells (slots_in rs st d) ∙ ap (any (λ (c : Cell). eqb c.used 0)) (cells_in rs st d)

  -- It is there exactly if the lowest unused row is below the number of rows.
  pub room-below : any is_free (slots_in rs st d) ≡ ltb (unused_at (map cell_of rs)) (length rs)
  room-below = room-rows ∙ (unused-below (map cell_of rs) ∙ ap (ltb (unused_at (map cell_of rs))) (length-map rs cell_of))

  -- A count of slots by their records.
  pub count-rows : (p : Cell → Bool) (q : Slot → Bool) → ((s : Slot) → q s ≡ p s.cell) → count_of q (slots_in rs st d)
      ≡ count_of p (map cell_of rs)
  count-rows p q e = count-ext q (λ s. p s.cell) (slots_in rs st d) (λ s m. e s)
      ∙ (sym (count-cells p (slots_in rs st d)) ∙ ap (count_of p) (cells_in rs st d))

  -- How many slots a message has, how many messages are ready, how many of them before turn t.
  pub of-rows : (k : Key) → count_of (of k) (slots_in rs st d) ≡ count_of (bears k) (map cell_of rs)
  unfolding of
  of-rows k = count-rows (bears k) (of k) (λ s. refl)
