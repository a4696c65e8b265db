-- Whether a message is complete, found by counting its records.
-- Assumes nothing.
use Prim.Native.Nat.{ℕ, ◌<◌}
use mathlib.Core.Path.{◌≡◌, refl, sym, subst}
use mathlib.Core.Logic.{◌⊎◌, inl, inr}
use mathlib.Core.Bool.{Bool, true, false, cond, not, ◌&&◌, ◌||◌}
use mathlib.Core.List.{List, map, Memᴰ}
use lib.Dec.{ltb, leb, eqb}
use borrow.Author.Tests.{ltb-true}
use Rattle.base.specs.Limits.{max_ord_chans, max_frags}
use Rattle.base.proofs.Choices.{neither, and_right}
use Rattle.base.specs.Lists.{any, count_of}
use Rattle.bare.specs.Frame.{Frame, in_limits}
use Rattle.cells.specs.Cell.{Slot, open_use, open_as, bears, of, is_free, all_there, clash, put_slot, slot_of}
use Rattle.cells.proofs.Moves.{put-unique}
use Rattle.rows.specs.declared.Row.{Row}
use Rattle.rows.specs.Rows.{cell_of}
use Rattle.row_slots.specs.Slots.{slots_in}
use Rattle.cells.proofs.Counting.{all-there-counted}
use Rattle.row_slots.proofs.Tests.{of-rows}
use Rattle.cells.proofs.FrameSlot.{agrees-no-clash, fresh-piece}
use Rattle.cells.proofs.PutSlot.{mem-put}
use Rattle.cells.proofs.SoundCore.{Core}
use Rattle.cells.proofs.Keys.{key-used}

-- A piece within the limits has an index below its count.
piece-index : (f : Frame) → in_limits f ≡ true → f.piece ≡ true → (slot_of f open_use 0).cell.index < f.count
unfolding in_limits slot_of
piece-index f e p = go f.piece p (and_right (ltb f.channel max_ord_chans) _ e)
  where
    go : (t : Bool) → t ≡ true → (not t || (leb 1 f.count && leb f.count max_frags && ltb f.index f.count)) ≡ true
        → cond t f.index 0 < f.count
    go true t e = ltb-true f.index f.count (and_right (leb 1 f.count && leb f.count max_frags) _ e)
    go false t e = neither false t refl

-- A piece was put beside slots with which it does not clash: its message has all indices exactly if it has as many slots as the piece says.
pub piece-counted : (f : Frame) (l : List Slot) → Core l → in_limits f ≡ true → f.piece ≡ true → any (clash f) l ≡ false → any is_free l
    ≡ true
    → all_there (open_as f.id) (put_slot (slot_of f open_use 0) l) f.count
    ≡ eqb (count_of (of (open_as f.id)) (put_slot (slot_of f open_use 0) l))
    f.count
piece-counted f l v lim e c room = all-there-counted (open_as f.id) (put_slot (slot_of f open_use 0) l) f.count
    (put-unique (slot_of f open_use 0) l room (fresh-piece f l e c) v.unique (open_as f.id))
    (λ s m y. small s y (mem-put (slot_of f open_use 0) l s m))
  where
    small : (s : Slot) → of (open_as f.id) s ≡ true → (s ≡ slot_of f open_use 0) ⊎ Memᴰ s l → s.cell.index < f.count
    small s y (inl q) = subst (λ (x : Slot). x.cell.index < f.count) (sym q) (piece-index f lim e)
    small s y (inr i) = subst (λ (n : ℕ). s.cell.index < n) (agrees-no-clash f l c s i y).count
        (v.bounds s i (key-used (open_as f.id) s y)).index

-- The same of rows: the records of the piece's id are counted.
pub piece-complete : (f : Frame) (l : List Slot) (rs : List Row) (st d : List ℕ) → slots_in rs st d ≡ put_slot (slot_of f open_use 0) l
    → Core l → in_limits f ≡ true → f.piece ≡ true → any (clash f) l ≡ false → any is_free l ≡ true
    → all_there (open_as f.id) (slots_in rs st d) f.count ≡ eqb (count_of (bears (open_as f.id)) (map cell_of rs)) f.count
piece-complete f l rs st d q v lim e c room = rw (← of-rows rs st d (open_as f.id), q) (piece-counted f l v lim e c room)
