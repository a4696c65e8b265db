-- A slot put where there is room: what is found, counted and left then.
-- Assumes nothing.
use Prim.Native.Nat.{suc, ◌+◌}
use mathlib.Core.Path.{◌≡◌, refl, ap}
use mathlib.Core.Logic.{◌⊎◌, inl, inr}
use mathlib.Core.Bool.{Bool, true, false, cond, ◌||◌, true≢false, false≢true}
use mathlib.Core.Option.{some}
use mathlib.Core.List.Memᴰ
use mathlib.Core.List.{List, [], ◌∷◌, Memᴰ}
use native.Mathlib.Omega.{arith}
use lib.ListN.{length}
use Rattle.base.specs.Lists.{find, any, count_of}
use Rattle.base.proofs.Choices.{cases, or_right}
use Rattle.cells.specs.Cell.{Slot, is_free, put_slot}

-- A slot put where there is room: a test that no unused slot passes.
module _ (p : Slot → Bool) (x : Slot) (blind : (s : Slot) → is_free s ≡ true → p s ≡ false) where
  pub any-put : (l : List Slot) → any is_free l ≡ true → any p (put_slot x l) ≡ (p x || any p l)
  unfolding any put_slot
  any-put [] r = absurd (false≢true r)
  any-put (s ∷ l) r = go (is_free s) refl r (λ r'. any-put l r')
    where
      swap : (u a b c : Bool) → c ≡ (a || b) → (u || c) ≡ (a || (u || b))
      swap true true b c e = refl
      swap true false b c e = refl
      swap false true b c e = e
      swap false false b c e = e

      go : (t : Bool) → is_free s ≡ t → (t || any is_free l) ≡ true → (any is_free l ≡ true → any p (put_slot x l) ≡ (p x || any p l))
          → any p (cond t (x ∷ l) (s ∷ put_slot x l)) ≡ (p x || (p s || any p l))
      go true t r k = rw (blind s t)
      go false t r k = swap (p s) (p x) (any p l) (any p (put_slot x l)) (k r)

  pub find-put : (l : List Slot) → any is_free l ≡ true → (p x ≡ true → any p l ≡ false) → find p (put_slot x l)
      ≡ cond (p x) (some x) (find p l)
  unfolding any find put_slot
  find-put [] r h = absurd (false≢true r)
  find-put (s ∷ l) r h = go (is_free s) refl r (λ r' h'. find-put l r' h')
    where
      later : (u : Bool) → p s ≡ u → (p x ≡ true → (u || any p l) ≡ false) → find p (put_slot x l) ≡ cond (p x) (some x) (find p l)
          → cond u (some s) (find p (put_slot x l)) ≡ cond (p x) (some x) (cond u (some s) (find p l))
      later true u h e = cases (p x) (λ t. absurd (true≢false (h t))) (λ t. rw t)
      later false u h e = e

      go : (t : Bool) → is_free s ≡ t → (t || any is_free l) ≡ true
          → (any is_free l ≡ true → (p x ≡ true → any p l ≡ false) → find p (put_slot x l) ≡ cond (p x) (some x) (find p l))
          → find p (cond t (x ∷ l) (s ∷ put_slot x l)) ≡ cond (p x) (some x) (cond (p s) (some s) (find p l))
      go true t r k = rw (blind s t)
      go false t r k = later (p s) refl h (k r (λ t'. or_right (p s) _ (h t')))

  pub count-put : (l : List Slot) → any is_free l ≡ true → count_of p (put_slot x l) ≡ cond (p x) 1 0 + count_of p l
  unfolding any count_of put_slot
  count-put [] r = absurd (false≢true r)
  count-put (s ∷ l) r = go (is_free s) refl r (λ r'. count-put l r')
    where
      later : (u v : Bool) → count_of p (put_slot x l) ≡ cond v 1 0 + count_of p l → cond u (suc (count_of p (put_slot x l)))
          (count_of p (put_slot x l)) ≡ cond v 1 0 + cond u (suc (count_of p l)) (count_of p l)
      later true true e = omega arith
      later true false e = omega arith
      later false true e = omega arith
      later false false e = omega arith

      now : (v : Bool) → cond v (suc (count_of p l)) (count_of p l) ≡ cond v 1 0 + count_of p l
      now true = omega arith
      now false = omega arith

      go : (t : Bool) → is_free s ≡ t → (t || any is_free l) ≡ true
          → (any is_free l ≡ true → count_of p (put_slot x l) ≡ cond (p x) 1 0 + count_of p l)
          → count_of p (cond t (x ∷ l) (s ∷ put_slot x l))
          ≡ cond (p x) 1 0 + cond (p s) (suc (count_of p l)) (count_of p l)
      go true t r k = rw (blind s t) (now (p x))
      go false t r k = later (p s) (p x) (k r)

pub mem-put : (x : Slot) (l : List Slot) (s : Slot) → Memᴰ s (put_slot x l) → (s ≡ x) ⊎ Memᴰ s l
unfolding put_slot
mem-put x [] s m = absurd (Memᴰ.not-nil m)
mem-put x (y ∷ l) s m = go (is_free y) m (λ m'. mem-put x l s m')
  where
    up : (s ≡ x) ⊎ Memᴰ s l → (s ≡ x) ⊎ Memᴰ s (y ∷ l)
    up (inl e) = inl e
    up (inr m) = inr (Memᴰ.tail m)

    later : (s ≡ y) ⊎ Memᴰ s (put_slot x l) → (Memᴰ s (put_slot x l) → (s ≡ x) ⊎ Memᴰ s l) → (s ≡ x) ⊎ Memᴰ s (y ∷ l)
    later (inl e) k = inr (Memᴰ.head e)
    later (inr m) k = up (k m)

    go : (t : Bool) → Memᴰ s (cond t (x ∷ l) (y ∷ put_slot x l)) → (Memᴰ s (put_slot x l) → (s ≡ x) ⊎ Memᴰ s l)
        → (s ≡ x) ⊎ Memᴰ s (y ∷ l)
    go true m k = up (Memᴰ.cases_cons m)
    go false m k = later (Memᴰ.cases_cons m) k

pub put-length : (x : Slot) (l : List Slot) → length (put_slot x l) ≡ length l
unfolding put_slot
put-length x [] = refl
put-length x (s ∷ l) = go (is_free s) (put-length x l)
  where
    go : (t : Bool) → length (put_slot x l) ≡ length l → length (cond t (x ∷ l) (s ∷ put_slot x l)) ≡ suc (length l)
    go true e = refl
    go false e = ap suc e

pub free-put : (x : Slot) (l : List Slot) → any is_free l ≡ true → is_free x ≡ false
    → count_of is_free l ≡ suc (count_of is_free (put_slot x l))
unfolding any count_of put_slot
free-put x [] r e = absurd (false≢true r)
free-put x (s ∷ l) r e = go (is_free s) refl r (λ r'. free-put x l r' e)
  where
    go : (t : Bool) → is_free s ≡ t → (t || any is_free l) ≡ true
        → (any is_free l ≡ true → count_of is_free l ≡ suc (count_of is_free (put_slot x l)))
        → cond t (suc (count_of is_free l)) (count_of is_free l)
        ≡ suc (count_of is_free (cond t (x ∷ l) (s ∷ put_slot x l)))
    go true t r k = rw e
    go false t r k = rw t (k r)
