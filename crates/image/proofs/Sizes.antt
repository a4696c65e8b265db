-- The cells restored from an image: their bodies have the lengths that the records say and fit into cells, and there are as many as asked
-- for.
-- Assumes nothing.
use Prim.Native.Nat.{ℕ, suc, ◌-◌, ◌≤◌}
use mathlib.Core.Path.{◌≡◌, refl, sym, ◌∙◌, subst}
use mathlib.Core.Bool.{false}
use mathlib.Core.List.{Memᴰ}
use native.Mathlib.Omega.{arith}
use lib.ListN.{length, length-append, length-replicate}
use borrow.Author.Tests.{eqb-true}
use Rattle.base.proofs.Choices.{neither}
use Rattle.cells.specs.Cell.{Slot, is_free, empty_slot}
use Rattle.cells.specs.Store.{cell_size}
use Rattle.cells.proofs.Keys.{used-free}
use Rattle.cells.proofs.SoundCore.{Bounds}
use Rattle.cells.proofs.Store.{Sized, AllSized, empty-sized}
use Rattle.image.specs.Image.{PieceEntry, MessageEntry, Image}
use Rattle.image.specs.Slots.{piece_slot, part_slot, used_slots, slots_from}
use Rattle.image.proofs.Members.{From, piece, held, ready, unused, slots-from}
use Rattle.image.proofs.Again.{piece-used, part-used}

piece-sized : (s : Slot) (e : PieceEntry) → s ≡ piece_slot e → Bounds s → Sized s
piece-sized s e q b = subst Sized (sym q) (go (subst Bounds q b))
  where
    go : Bounds (piece_slot e) → Sized (piece_slot e)
    go b = unfold piece_slot is_free cell_size in record { none = λ f. neither false f refl; exact = λ f. refl; fits = λ f. b.length }

part-sized : (s : Slot) (u t : ℕ) (e : MessageEntry) (j : ℕ) → s ≡ part_slot (suc u) t e j → Bounds s → Sized s
part-sized s u t e j q b = subst Sized (sym q) (go (subst Bounds q b))
  where
    go : Bounds (part_slot (suc u) t e j) → Sized (part_slot (suc u) t e j)
    go b = unfold part_slot is_free cell_size in record {
      none = λ f. absurd (let z = eqb-true (suc u) 0 f in omega arith);
      exact = λ f. refl;
      fits = λ f. b.length;
    }

-- of bounded cells
pub from-sized : (n : ℕ) (i : Image) → ((s : Slot) → Memᴰ s (slots_from n i) → is_free s ≡ false → Bounds s) → AllSized (slots_from n i)
from-sized n i h s m = go (slots-from i n s m)
  where
    go : From i s → Sized s
    go (piece e me q) = piece-sized s e q (h s m (used-free s 1 (piece-used s e q) (λ z. omega arith)))
    go (held e me j lt q) = part-sized s 1 0 e j q (h s m (used-free s 2 (part-used s 2 0 e j q) (λ z. omega arith)))
    go (ready k kt j lt q) = part-sized s 2 k _ j q (h s m (used-free s 3 (part-used s 3 k _ j q) (λ z. omega arith)))
    go (unused q) = subst Sized (sym q) empty-sized

pub slots-many : (n : ℕ) (i : Image) → length (used_slots i) ≤ n → length (slots_from n i) ≡ n
unfolding slots_from
slots-many n i le = length-append (used_slots i) _ ∙ (let e = length-replicate (n - length (used_slots i)) empty_slot in omega arith)
