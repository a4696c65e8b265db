-- Where the cells of a restored receiver come from.
-- Assumes nothing.
use Prim.Native.Nat.{ℕ, zero, suc, ◌+◌, ◌-◌, ◌<◌}
use mathlib.Core.Path.{◌≡◌, refl, sym, ◌∙◌, ap, subst}
use mathlib.Core.Logic.{◌⊎◌, inl, inr}
use mathlib.Core.List.Memᴰ
use mathlib.Core.List.{List, [], ◌∷◌, ◌++◌, map, Memᴰ}
use native.Mathlib.Omega.{arith}
use lib.Dec.{eqb}
use lib.ListN.{length, get_or, replicate}
use borrow.Author.Tests.{eqb-true, eqb-false}
use Rattle.base.proofs.Choices.{cases}
use Rattle.base.proofs.Lists.{mem-replicate}
use Rattle.cells.specs.Cell.{Slot, empty_slot}
use Rattle.image.specs.Image.{PieceEntry, MessageEntry, Image}
use Rattle.image.specs.Slots.{piece_slot, part_slot, parts, held_slots, ready_slots, used_slots, slots_from}

abbrev pub no_entry : MessageEntry
no_entry = record { channel = 0; order = 0; kind = 0; bodies = [] }

-- ---- one message
module _ (u t : ℕ) (e : MessageEntry) where
  pub from-parts : (n : ℕ) (s : Slot) → Memᴰ s (parts u t e n) → (i : ℕ) × (i < n) × (s ≡ part_slot u t e i)
  unfolding parts
  from-parts zero s m = absurd (Memᴰ.not-nil m)
  from-parts (suc n) s m = go (Memᴰ.append_cases (parts u t e n) m) (λ m'. from-parts n s m')
    where
      go : Memᴰ s (parts u t e n) ⊎ Memᴰ s (part_slot u t e n ∷ []) → (Memᴰ s (parts u t e n) → (i : ℕ) × (i < n) × (s ≡ part_slot u t e i))
          → (i : ℕ) × (i < suc n) × (s ≡ part_slot u t e i)
      go (inl m) rest = let r = rest m in let lt = r.1 in (r.0, omega arith, r.2)
      go (inr m) rest = (n, omega arith, Memᴰ.eq_of_singleton m)

  in-parts : (n i : ℕ) → i < n → Memᴰ (part_slot u t e i) (parts u t e n)
  unfolding parts
  in-parts zero i lt = absurd (omega arith)
  in-parts (suc n) i lt = cases (eqb i n)
      (λ y. Memᴰ.append_right (parts u t e n) (Memᴰ.head (ap (part_slot u t e) (eqb-true i n y))))
      (λ y. let ne : i ≡ n → ⊥ = eqb-false i n y in Memᴰ.append_left (part_slot u t e n ∷ []) (in-parts n i (omega arith)))

-- ---- held messages
pub from-held : (es : List MessageEntry) (s : Slot) → Memᴰ s (held_slots es) → (e : MessageEntry) × Memᴰ e es × (i : ℕ)
    × (i < length e.bodies) × (s ≡ part_slot 2 0 e i)
unfolding held_slots
from-held [] s m = absurd (Memᴰ.not-nil m)
from-held (e ∷ es) s m = go (Memᴰ.append_cases (parts 2 0 e (length e.bodies)) m) (λ m'. from-held es s m')
  where
    go : Memᴰ s (parts 2 0 e (length e.bodies)) ⊎ Memᴰ s (held_slots es)
        → (Memᴰ s (held_slots es) → (e : MessageEntry) × Memᴰ e es × (i : ℕ) × (i < length e.bodies) × (s ≡ part_slot 2 0 e i))
        → (f : MessageEntry) × Memᴰ f (e ∷ es) × (i : ℕ) × (i < length f.bodies) × (s ≡ part_slot 2 0 f i)
    go (inl m) rest = let r = from-parts 2 0 e (length e.bodies) s m in (e, Memᴰ.head refl, r.0, r.1, r.2)
    go (inr m) rest = let r = rest m in (r.0, Memᴰ.tail r.1, r.2, r.3, r.4)

in-held : (es : List MessageEntry) (e : MessageEntry) → Memᴰ e es → (i : ℕ) → i < length e.bodies
    → Memᴰ (part_slot 2 0 e i) (held_slots es)
unfolding held_slots
in-held [] e m i lt = absurd (Memᴰ.not-nil m)
in-held (f ∷ es) e m i lt = go (Memᴰ.cases_cons m) (λ m'. in-held es e m' i lt)
  where
    go : (e ≡ f) ⊎ Memᴰ e es → (Memᴰ e es → Memᴰ (part_slot 2 0 e i) (held_slots es))
        → Memᴰ (part_slot 2 0 e i) (parts 2 0 f (length f.bodies) ++ held_slots es)
    go (inl q) rest = Memᴰ.append_left (held_slots es) (Memᴰ.cast (ap (λ (x : MessageEntry). part_slot 2 0 x i) q)
        (in-parts 2 0 f (length f.bodies) i (subst (λ (x : MessageEntry). i < length x.bodies) q lt)))
    go (inr m) rest = Memᴰ.append_right (parts 2 0 f (length f.bodies)) (rest m)

-- ---- ready messages: the k-th has turn t + k
pub from-ready : (t : ℕ) (es : List MessageEntry) (s : Slot) → Memᴰ s (ready_slots t es) → (k : ℕ) × (k < length es) × (i : ℕ)
    × (i < length (get_or es k no_entry).bodies) × (s ≡ part_slot 3 (t + k) (get_or es k no_entry) i)
unfolding ready_slots
from-ready t [] s m = absurd (Memᴰ.not-nil m)
from-ready t (e ∷ es) s m = go (Memᴰ.append_cases (parts 3 t e (length e.bodies)) m) (λ m'. from-ready (suc t) es s m')
  where
    go : Memᴰ s (parts 3 t e (length e.bodies)) ⊎ Memᴰ s (ready_slots (suc t) es)
        → (Memᴰ s (ready_slots (suc t) es) → (k : ℕ) × (k < length es) × (i : ℕ) × (i < length (get_or es k no_entry).bodies)
        × (s ≡ part_slot 3 (suc t + k) (get_or es k no_entry) i))
        → (k : ℕ) × (k < suc (length es)) × (i : ℕ) × (i < length (get_or (e ∷ es) k no_entry).bodies)
        × (s ≡ part_slot 3 (t + k) (get_or (e ∷ es) k no_entry) i)
    go (inl m) rest = let r = from-parts 3 t e (length e.bodies) s m in
        (0, omega arith, r.0, r.1, r.2 ∙ ap (λ (u : ℕ). part_slot 3 u e r.0) (omega arith))
    go (inr m) rest = let r = rest m in let lt = r.1 in
        (suc r.0, omega arith, r.2, r.3, r.4 ∙ ap (λ (u : ℕ). part_slot 3 u (get_or es r.0 no_entry) r.2) (omega arith))

in-ready : (t : ℕ) (es : List MessageEntry) (k : ℕ) → k < length es → (i : ℕ) → i < length (get_or es k no_entry).bodies
    → Memᴰ (part_slot 3 (t + k) (get_or es k no_entry) i) (ready_slots t es)
unfolding ready_slots
in-ready t [] k lt i j = absurd (omega arith)
in-ready t (e ∷ es) zero lt i j =
    Memᴰ.append_left (ready_slots (suc t) es) (Memᴰ.cast (ap (λ (u : ℕ). part_slot 3 u e i) (omega arith))
    (in-parts 3 t e (length e.bodies) i j))
in-ready t (e ∷ es) (suc k) lt i j =
    Memᴰ.append_right (parts 3 t e (length e.bodies)) (Memᴰ.cast (ap (λ (u : ℕ). part_slot 3 u (get_or es k no_entry) i) (omega arith))
    (in-ready (suc t) es k (omega arith) i j))

-- ---- all cells
pub data From (i : Image) (s : Slot) : Type 0 where
  piece : (e : PieceEntry) → Memᴰ e i.pieces → s ≡ piece_slot e → From i s
  held : (e : MessageEntry) → Memᴰ e i.held → (j : ℕ) → j < length e.bodies → s ≡ part_slot 2 0 e j → From i s
  ready : (k : ℕ) → k < length i.ready → (j : ℕ) → j < length (get_or i.ready k no_entry).bodies
      → s ≡ part_slot 3 k (get_or i.ready k no_entry) j → From i s
  unused : s ≡ empty_slot → From i s

module _ (i : Image) where
  used-from : (s : Slot) → Memᴰ s (used_slots i) → From i s
  unfolding used_slots
  used-from s m = go (Memᴰ.append_cases (map piece_slot i.pieces) m)
    where
      later : Memᴰ s (held_slots i.held) ⊎ Memᴰ s (ready_slots 0 i.ready) → From i s
      later (inl m) = let r = from-held i.held s m in held r.0 r.1 r.2 r.3 r.4
      later (inr m) = let r = from-ready 0 i.ready s m in
          ready r.0 r.1 r.2 r.3 (r.4 ∙ ap (λ (u : ℕ). part_slot 3 u (get_or i.ready r.0 no_entry) r.2) (omega arith))

      go : Memᴰ s (map piece_slot i.pieces) ⊎ Memᴰ s (held_slots i.held ++ ready_slots 0 i.ready) → From i s
      go (inl m) = let r = Memᴰ.of_map piece_slot i.pieces m in piece r.0 r.1 (sym r.2)
      go (inr m) = later (Memᴰ.append_cases (held_slots i.held) m)

  pub slots-from : (n : ℕ) (s : Slot) → Memᴰ s (slots_from n i) → From i s
  unfolding slots_from
  slots-from n s m = go (Memᴰ.append_cases (used_slots i) m)
    where
      go : Memᴰ s (used_slots i) ⊎ Memᴰ s (replicate (n - length (used_slots i)) empty_slot) → From i s
      go (inl m) = used-from s m
      go (inr m) = unused (mem-replicate empty_slot s (n - length (used_slots i)) m)

  pub piece-there : (n : ℕ) (e : PieceEntry) → Memᴰ e i.pieces → Memᴰ (piece_slot e) (slots_from n i)
  unfolding slots_from used_slots
  piece-there n e m = Memᴰ.append_left _ (Memᴰ.append_left _ (Memᴰ.map piece_slot m))

  pub held-there : (n : ℕ) (e : MessageEntry) → Memᴰ e i.held → (j : ℕ) → j < length e.bodies → Memᴰ (part_slot 2 0 e j) (slots_from n i)
  unfolding slots_from used_slots
  held-there n e m j lt = Memᴰ.append_left _ (Memᴰ.append_right (map piece_slot i.pieces) (Memᴰ.append_left _ (in-held i.held e m j lt)))

  pub ready-there : (n k : ℕ) → k < length i.ready → (j : ℕ) → j < length (get_or i.ready k no_entry).bodies
      → Memᴰ (part_slot 3 k (get_or i.ready k no_entry) j) (slots_from n i)
  unfolding slots_from used_slots
  ready-there n k kt j lt =
      Memᴰ.append_left _ (Memᴰ.append_right (map piece_slot i.pieces) (Memᴰ.append_right (held_slots i.held)
      (Memᴰ.cast (ap (λ (u : ℕ). part_slot 3 u (get_or i.ready k no_entry) j) (omega arith)) (in-ready 0 i.ready k kt j lt))))
