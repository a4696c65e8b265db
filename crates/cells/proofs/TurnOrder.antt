-- Takes go by the order of the turns alone: other turns in the same order hand out the same messages.
-- Assumes nothing.
use Prim.Native.Nat.{ℕ, zero, suc, ◌<◌}
use mathlib.Core.Path.{◌≡◌, refl, sym, ◌∙◌, ap, subst}
use mathlib.Core.Logic.{◌⊎◌, inl, inr}
use mathlib.Core.Bool.{Bool, true, false, cond}
use mathlib.Core.Option.{Option, none, some}
use mathlib.Core.List.Memᴰ
use mathlib.Core.List.{List, [], ◌∷◌, map, Memᴰ}
use native.Mathlib.Omega.{arith}
use lib.ListN.{length, length-map}
use lib.Dec.{ltb, eqb}
use borrow.Author.Tests.{ltb-true, ltb-false, lt-ltb, le-ltb, eqb-true, eqb-false, eq-eqb, ne_eqb}
use Rattle.base.specs.Lists.{option}
use Rattle.base.proofs.Choices.{by_bool, cases, case_option, neither}
use Rattle.base.proofs.Lists.{map-map}
use Rattle.cells.specs.Cell.{Slot, Key, ready_as, of, is_ready, message_at, mark_cell, mark, empty_cell, empty_slot, change, map_if, freed}
use Rattle.cells.specs.Take.{lower, earliest, taking, drain_in, drain}
use Rattle.cells.proofs.Keys.{use_of, of_other, of-ready, shown, Carried, carried-message, carried_other}
use Rattle.cells.proofs.Moves.{of-mark, of-mark-ready}

-- A ready slot gets the turn that ρ gives for its own.
unfoldable pub retime : (ℕ → ℕ) → Slot → Slot
retime ρ = change is_ready (λ s. mark 3 (ρ s.cell.turn) s)

-- ρ keeps the order of the ready slots' turns.
abbrev pub Rising : (ℕ → ℕ) → List Slot → Type 0
Rising ρ l = (s x : Slot) → Memᴰ s l → Memᴰ x l → is_ready s ≡ true → is_ready x ≡ true → s.cell.turn < x.cell.turn
    → ρ s.cell.turn < ρ x.cell.turn

ready-mark : (t : ℕ) (s : Slot) → is_ready (mark 3 t s) ≡ true
unfolding is_ready mark mark_cell
ready-mark t s = refl

turn-mark : (u t : ℕ) (s : Slot) → (mark u t s).cell.turn ≡ t
unfolding mark mark_cell
turn-mark u t s = refl

pub ready-used : (s : Slot) → is_ready s ≡ true → s.cell.used ≡ 3
unfolding is_ready
ready-used s e = eqb-true _ _ e

module _ (ρ : ℕ → ℕ) where
  pub retime-yes : (s : Slot) → is_ready s ≡ true → retime ρ s ≡ mark 3 (ρ s.cell.turn) s
  unfolding retime change
  retime-yes s e = rw e

  pub retime-no : (s : Slot) → is_ready s ≡ false → retime ρ s ≡ s
  unfolding retime change
  retime-no s e = rw e

  retime-ready : (s : Slot) → is_ready (retime ρ s) ≡ is_ready s
  retime-ready s = cases (is_ready s) (λ y. ap is_ready (retime-yes s y) ∙ (ready-mark _ s ∙ sym y)) (λ y. ap is_ready (retime-no s y))

  -- A message that is not ready keeps its cells.
  pub retime-other : (l : List Slot) (k : Key) → (use_of k ≡ 3 → ⊥) → Carried k k (retime ρ) l
  unfolding retime
  retime-other l k ne = carried_other k is_ready (λ s. mark 3 (ρ s.cell.turn) s) l
      (λ s m y. (of_other k s (λ q. ne (sym q ∙ ready-used s y)), of-mark k 3 (ρ s.cell.turn) s (λ q. ne (sym q))))

  module _ (l : List Slot) (up : Rising ρ l) where
    -- ρ tells the ready slots' turns apart.
    retime-equal : (s x : Slot) → Memᴰ s l → Memᴰ x l → is_ready s ≡ true → is_ready x ≡ true → eqb (ρ s.cell.turn)
        (ρ x.cell.turn) ≡ eqb s.cell.turn x.cell.turn
    retime-equal s x m i e f = cases (eqb s.cell.turn x.cell.turn)
        (λ y. same y)
        (λ y. ne_eqb _ _ (λ q. apart (eqb-false _ _ y) q) ∙ sym y)
      where
        same : eqb s.cell.turn x.cell.turn ≡ true → eqb (ρ s.cell.turn) (ρ x.cell.turn)
            ≡ eqb s.cell.turn x.cell.turn
        same y = eq-eqb _ _ (ap ρ (eqb-true _ _ y)) ∙ sym y

        apart : (s.cell.turn ≡ x.cell.turn → ⊥) → ρ s.cell.turn ≡ ρ x.cell.turn → ⊥
        apart ne q = cases (ltb s.cell.turn x.cell.turn)
            (λ y. let p = up s x m i e f (ltb-true _ _ y) in omega arith)
            (λ y. let a = ltb-false s.cell.turn x.cell.turn y in let p = up x s i m f e (omega arith) in omega arith)

    -- The ready message of slot x's turn is found under its new turn.
    pub retime-carried : (x : Slot) → Memᴰ x l → is_ready x ≡ true → Carried (ready_as x.cell.turn) (ready_as (ρ x.cell.turn))
        (retime ρ) l
    unfolding retime change shown mark mark_cell
    retime-carried x i f = record {
      moved = λ s m. cases (is_ready s)
          (λ y. rw (y, of-ready x.cell.turn s, y) (of-mark-ready (ρ s.cell.turn) (ρ x.cell.turn) s ∙ retime-equal s x m i y f))
          (λ y. rw (y, of-ready (ρ x.cell.turn) s, of-ready x.cell.turn s, y));
      same = λ s m e. by_bool (λ (z : Slot). shown z ≡ shown s) (is_ready s) (λ y. refl) (λ y. refl);
    }

pub empty-ready : is_ready empty_slot ≡ false
unfolding is_ready empty_slot empty_cell
empty-ready = refl

-- A slot that is still ready was not freed.
ready-left : (k : Key) (l : List Slot) (s : Slot) → Memᴰ s (freed k l) → is_ready s ≡ true → Memᴰ s l
unfolding freed map_if change
ready-left k l s m e = let a = Memᴰ.of_map (change (of k) (λ s. empty_slot)) l m in go (of k a.0) a.0 a.1 a.2
  where
    go : (t : Bool) (x : Slot) → Memᴰ x l → cond t empty_slot x ≡ s → Memᴰ s l
    go true x i q = neither (is_ready s) e (ap is_ready (sym q) ∙ empty-ready)
    go false x i q = subst (λ (z : Slot). Memᴰ z l) q i

-- The lower of two turns is one of them.
lower-either : (t : ℕ) (o : Option ℕ) → (lower t o ≡ t) ⊎ (o ≡ some (lower t o))
unfolding lower
lower-either t none = inl refl
lower-either t (some u) = by_bool (λ (x : ℕ). (x ≡ t) ⊎ (some u ≡ some x)) (ltb u t) (λ y. inr refl) (λ y. inl refl)

-- The earliest turn is a ready slot's.
pub earliest-ready : (l : List Slot) (t : ℕ) → earliest l ≡ some t → (s : Slot) × Memᴰ s l × (is_ready s ≡ true) × (s.cell.turn ≡ t)
unfolding earliest
earliest-ready [] t e = absurd (let z : ◌≡◌ {A = ℕ} 0 1 = cc in omega arith)
earliest-ready (x ∷ l) t e = go (is_ready x) refl e (λ q. later (earliest-ready l t q))
  where
    later : (s : Slot) × Memᴰ s l × (is_ready s ≡ true) × (s.cell.turn ≡ t) → (s : Slot) × Memᴰ s (x ∷ l) × (is_ready s ≡ true)
        × (s.cell.turn ≡ t)
    later r = (r.0, Memᴰ.tail r.1, r.2, r.3)

    here : is_ready x ≡ true → lower x.cell.turn (earliest l) ≡ t → (lower x.cell.turn (earliest l) ≡ x.cell.turn) ⊎
        (earliest l ≡ some (lower x.cell.turn (earliest l))) → (earliest l ≡ some t → (s : Slot) × Memᴰ s (x ∷ l)
        × (is_ready s ≡ true) × (s.cell.turn ≡ t))
        → (s : Slot) × Memᴰ s (x ∷ l) × (is_ready s ≡ true) × (s.cell.turn ≡ t)
    here y q (inl p) rest = (x, Memᴰ.head refl, y, sym p ∙ q)
    here y q (inr p) rest = rest (p ∙ ap {B = Option ℕ} some q)

    go : (b : Bool) → is_ready x ≡ b → cond b (some (lower x.cell.turn (earliest l))) (earliest l) ≡ some t
        → (earliest l ≡ some t → (s : Slot) × Memᴰ s (x ∷ l) × (is_ready s ≡ true) × (s.cell.turn ≡ t))
        → (s : Slot) × Memᴰ s (x ∷ l) × (is_ready s ≡ true) × (s.cell.turn ≡ t)
    go true y e rest = let q : lower x.cell.turn (earliest l) ≡ t = cc in here y q (lower-either x.cell.turn (earliest l)) rest
    go false y e rest = rest e

module _ (ρ : ℕ → ℕ) where
  lower-retime : (t u : ℕ) → (t < u → ρ t < ρ u) → (u < t → ρ u < ρ t) → lower (ρ t) (some (ρ u)) ≡ ρ (lower t (some u))
  unfolding lower
  lower-retime t u f g = cases (ltb u t)
      (λ y. rw (y, lt-ltb (ρ u) (ρ t) (g (ltb-true u t y))))
      (λ y. cases (eqb t u)
      (λ z. rw (← eqb-true t u z) (by_bool (λ (x : ℕ). x ≡ ρ (cond (ltb t t) t t)) (ltb (ρ t) (ρ t)) (λ w. both (ltb t t))
      (λ w. both (ltb t t))))
      (λ z. let ne : t ≡ u → ⊥ = eqb-false t u z in
      let a = ltb-false u t y in
      let p = f (omega arith) in
      rw (y, le-ltb (ρ u) (ρ t) (omega arith))))
    where
      both : (b : Bool) → ρ t ≡ ρ (cond b t t)
      both true = refl
      both false = refl

  earliest-retime : (l : List Slot) → Rising ρ l → earliest (map (retime ρ) l) ≡ option (earliest l) none (λ t. some (ρ t))
  unfolding earliest lower
  earliest-retime [] up = refl
  earliest-retime (x ∷ l) up =
      let rest = earliest-retime l (λ s z m i. up s z (Memᴰ.tail m) (Memᴰ.tail i)) in
      cases (is_ready x)
      (λ y. rw (retime-ready ρ x, y, retime-yes ρ x y, turn-mark 3 (ρ x.cell.turn) x, rest) (first (earliest l) refl y))
      (λ y. rw (retime-ready ρ x, y) rest)
    where
      first : (o : Option ℕ) → earliest l ≡ o → is_ready x ≡ true
          → ◌≡◌ {A = Option ℕ} (some (lower (ρ x.cell.turn) (option o none (λ t. some (ρ t))))) (some (ρ (lower x.cell.turn o)))
      first none q y = refl
      first (some u) q y =
          let r = earliest-ready l u q in
          ap {B = Option ℕ} some (rw (← r.3) (lower-retime x.cell.turn r.0.cell.turn
          (up x r.0 (Memᴰ.head refl) (Memᴰ.tail r.1) y r.2)
          (up r.0 x (Memᴰ.tail r.1) (Memᴰ.head refl) r.2 y)))

  -- A slot that is freed under the old turn is freed under the new one.
  freed-one : (l : List Slot) → Rising ρ l → (x : Slot) → Memᴰ x l → is_ready x ≡ true → (s : Slot) → Memᴰ s l
      → change (of (ready_as (ρ x.cell.turn))) (λ s. empty_slot) (retime ρ s)
      ≡ retime ρ (change (of (ready_as x.cell.turn)) (λ s. empty_slot) s)
  unfolding change
  freed-one l up x i f s m = cases (is_ready s)
      (λ y. rw (
        retime-yes ρ s y,
        of-mark-ready (ρ s.cell.turn) (ρ x.cell.turn) s,
        retime-equal ρ l up s x m i y f,
        of-ready x.cell.turn s,
        y,
      ) (by_test (eqb s.cell.turn x.cell.turn) y))
      (λ y. rw (retime-no ρ s y, of-ready (ρ x.cell.turn) s, of-ready x.cell.turn s, y) (sym (retime-no ρ s y)))
    where
      by_test : (b : Bool) → is_ready s ≡ true → cond b empty_slot (mark 3 (ρ s.cell.turn) s) ≡ retime ρ (cond b empty_slot s)
      by_test true y = sym (retime-no ρ empty_slot empty-ready)
      by_test false y = sym (retime-yes ρ s y)

  freed-retime : (l : List Slot) → Rising ρ l → (x : Slot) → Memᴰ x l → is_ready x ≡ true → freed (ready_as (ρ x.cell.turn))
      (map (retime ρ) l) ≡ map (retime ρ) (freed (ready_as x.cell.turn) l)
  unfolding freed map_if
  freed-retime l up x i f = map-map (change (of (ready_as (ρ x.cell.turn))) (λ s. empty_slot)) (retime ρ)
      (change (of (ready_as x.cell.turn)) (λ s. empty_slot)) (retime ρ) l (freed-one l up x i f)

  freed-rising : (l : List Slot) (k : Key) → Rising ρ l → Rising ρ (freed k l)
  freed-rising l k up s x m i e f = up s x (ready-left k l s m e) (ready-left k l x i f) e f

  -- The least turn's message goes, in both, and the turns of the rest are in the same order still.
  drain-retime : (n : ℕ) (l : List Slot) → Rising ρ l → drain_in n (map (retime ρ) l) ≡ drain_in n l
  unfolding drain_in taking
  drain-retime zero l up = refl
  drain-retime (suc n) l up = case_option (earliest l)
      (λ e. rw (earliest-retime l up, e))
      (λ t e. let r = earliest-ready l t e in
      let c = retime-carried ρ l up r.0 r.1 r.2 in
      rw (earliest-retime l up, e, ← r.3, carried-message c) (case_option (message_at (ready_as r.0.cell.turn) l)
      (λ z. rw z)
      (λ m z. rw (
        z,
        freed-retime l up r.0 r.1 r.2,
        drain-retime n (freed (ready_as r.0.cell.turn) l)
            (freed-rising l (ready_as r.0.cell.turn) up),
      ))))

-- Takes until 20 hand out the same from slots whose turns were changed in their order.
pub drain-by-order : (ρ : ℕ → ℕ) (l : List Slot) → Rising ρ l → drain (map (retime ρ) l) ≡ drain l
unfolding drain
drain-by-order ρ l up = rw (length-map l (retime ρ)) (drain-retime ρ (length l) l up)
