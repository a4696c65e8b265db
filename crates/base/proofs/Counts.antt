-- Laws of `count_of`.
-- Assumes nothing.
use Prim.Native.Nat.{suc, ◌+◌, ◌≤◌, ◌<◌}
use mathlib.Core.Path.{◌≡◌, refl, sym, ◌∙◌, ap}
use mathlib.Core.Logic.{◌⊎◌, inl, inr}
use mathlib.Core.Bool.{Bool, true, false, cond, not, ◌&&◌, ◌||◌, true≢false, false≢true}
use mathlib.Core.List.Memᴰ
use mathlib.Core.List.{List, [], ◌∷◌, map, Memᴰ}
use native.Mathlib.Omega.{arith}
use lib.ListN.{length}
use Rattle.base.specs.Lists.{any, count_of, without}
use Rattle.base.proofs.Choices.{cases, or_left, or_right, neither}

module _ {A : Type 0} where
  pub count_map : (p q : A → Bool) (h : A → A) (l : List A) → ((x : A) → Memᴰ x l → p (h x) ≡ q x) → count_of p (map h l) ≡ count_of q l
  unfolding count_of
  count_map p q h [] e = refl
  count_map p q h (x ∷ l) e =
      let a = e x (Memᴰ.head refl) in
      let r = count_map p q h l (λ y m. e y (Memᴰ.tail m)) in
      rw (a, r)

  pub count-le-map : (p q : A → Bool) (h : A → A) (l : List A) → ((x : A) → Memᴰ x l → p (h x) ≡ true → q x ≡ true)
      → count_of p (map h l) ≤ count_of q l
  unfolding count_of
  count-le-map p q h [] e = omega arith
  count-le-map p q h (x ∷ l) e = go (p (h x)) refl (q x) refl (count-le-map p q h l (λ y m. e y (Memᴰ.tail m)))
    where
      go : (t : Bool) → p (h x) ≡ t → (u : Bool) → q x ≡ u → count_of p (map h l) ≤ count_of q l → cond t (suc (count_of p (map h l)))
          (count_of p (map h l)) ≤ cond u (suc (count_of q l)) (count_of q l)
      go true t true u r = omega arith
      go true t false u r = neither (q x) (e x (Memᴰ.head refl) t) u
      go false t true u r = omega arith
      go false t false u r = omega arith

  -- It falls where an element that passed does not pass any more.
  pub count-lt-map : (p q : A → Bool) (h : A → A) (l : List A) → ((x : A) → Memᴰ x l → p (h x) ≡ true → q x ≡ true) → (y : A)
      → Memᴰ y l → q y ≡ true → p (h y) ≡ false → count_of p (map h l) < count_of q l
  unfolding count_of
  count-lt-map p q h [] e y m f g = absurd (Memᴰ.not-nil m)
  count-lt-map p q h (x ∷ l) e y m f g = go (Memᴰ.cases_cons m) (p (h x)) refl (q x) refl
      (count-le-map p q h l (λ y m. e y (Memᴰ.tail m))) (λ m'. count-lt-map p q h l (λ y m. e y (Memᴰ.tail m)) y m' f g)
    where
      go : (y ≡ x) ⊎ Memᴰ y l → (t : Bool) → p (h x) ≡ t → (u : Bool) → q x ≡ u → count_of p (map h l) ≤ count_of q l
          → (Memᴰ y l → count_of p (map h l) < count_of q l) → cond t (suc (count_of p (map h l))) (count_of p (map h l)) < cond u
          (suc (count_of q l)) (count_of q l)
      go (inl s) true t u u' r k = neither (p (h x)) t (ap (λ (z : A). p (h z)) (sym s) ∙ g)
      go (inl s) false t true u r k = omega arith
      go (inl s) false t false u r k = neither (q x) (ap q (sym s) ∙ f) u
      go (inr m) true t true u r k = let z = k m in omega arith
      go (inr m) true t false u r k = neither (q x) (e x (Memᴰ.head refl) t) u
      go (inr m) false t true u r k = let z = k m in omega arith
      go (inr m) false t false u r k = k m

  pub count-ext : (p q : A → Bool) (l : List A) → ((x : A) → Memᴰ x l → p x ≡ q x) → count_of p l ≡ count_of q l
  unfolding count_of
  count-ext p q [] e = refl
  count-ext p q (x ∷ l) e = rw (e x (Memᴰ.head refl), count-ext p q l (λ y m. e y (Memᴰ.tail m)))

  pub count_none : (p : A → Bool) (l : List A) → any p l ≡ false → count_of p l ≡ 0
  unfolding count_of any
  count_none p [] e = refl
  count_none p (x ∷ l) e = rw (or_left (p x) _ e) (count_none p l (or_right (p x) _ e))

  pub count-some : (p : A → Bool) (l : List A) → any p l ≡ true → 1 ≤ count_of p l
  unfolding count_of any
  count-some p [] e = absurd (false≢true e)
  count-some p (x ∷ l) e = go (p x) e (λ t. count-some p l t)
    where
      go : (t : Bool) → (t || any p l) ≡ true → (any p l ≡ true → 1 ≤ count_of p l) → 1 ≤ cond t (suc (count_of p l)) (count_of p l)
      go true e r = omega arith
      go false e r = r e

  pub count-length : (p : A → Bool) (l : List A) → count_of p l ≤ length l
  unfolding count_of
  count-length p [] = omega arith
  count-length p (x ∷ l) = go (p x) (count-length p l)
    where
      go : (t : Bool) → count_of p l ≤ length l → cond t (suc (count_of p l)) (count_of p l) ≤ suc (length l)
      go true r = omega arith
      go false r = omega arith

  -- Two tests of which no element passes both.
  pub count-split : (p q r : A → Bool) (l : List A) → ((x : A) → (p x ≡ (q x || r x)) × ((q x && r x) ≡ false)) → count_of p l
      ≡ count_of q l + count_of r l
  unfolding count_of
  count-split p q r [] e = refl
  count-split p q r (x ∷ l) e = rw (e x).0 (go (q x) (r x) (e x).1 (count-split p q r l e))
    where
      go : (t u : Bool) → (t && u) ≡ false → count_of p l ≡ count_of q l + count_of r l → cond (t || u) (suc (count_of p l)) (count_of p l)
          ≡ cond t (suc (count_of q l)) (count_of q l) + cond u (suc (count_of r l)) (count_of r l)
      go true true e k = absurd (true≢false e)
      go true false e k = omega arith
      go false true e k = omega arith
      go false false e k = k

  pub count-lt : (p q : A → Bool) (l : List A) → ((x : A) → Memᴰ x l → p x ≡ true → q x ≡ true) → (y : A) → Memᴰ y l → q y ≡ true
      → p y ≡ false → count_of p l < count_of q l
  count-lt p q l e y m a b = rw (map_same l) at (count-lt-map p q (λ x. x) l e y m a b)
    where
      map_same : (l : List A) → map (λ (x : A). x) l ≡ l
      map_same [] = refl
      map_same (x ∷ l) = ap {B = List A} (λ r. x ∷ r) (map_same l)

  pub count-both : (p : A → Bool) (l : List A) → length l ≡ count_of p l + count_of (λ x. not (p x)) l
  unfolding count_of
  count-both p [] = refl
  count-both p (x ∷ l) = go (p x) (count-both p l)
    where
      go : (t : Bool) → length l ≡ count_of p l + count_of (λ x. not (p x)) l
          → suc (length l) ≡ cond t (suc (count_of p l)) (count_of p l) +
          cond (not t) (suc (count_of (λ x. not (p x)) l)) (count_of (λ x. not (p x)) l)
      go true e = omega arith
      go false e = omega arith

  -- Of a list without those that pass q: what passes p, and did not pass q.
  pub count-without : (p q : A → Bool) (l : List A) → count_of p (without q l) ≡ count_of (λ x. p x && not (q x)) l
  unfolding count_of without
  count-without p q [] = refl
  count-without p q (x ∷ l) = go (q x) (p x) refl (count-without p q l)
    where
      go : (t u : Bool) → p x ≡ u → count_of p (without q l) ≡ count_of (λ x. p x && not (q x)) l
          → count_of p (cond t (without q l) (x ∷ without q l))
          ≡ cond (u && not t) (suc (count_of (λ x. p x && not (q x)) l)) (count_of (λ x. p x && not (q x)) l)
      go true true y e = e
      go true false y e = e
      go false true y e = rw y (ap suc e)
      go false false y e = rw (y, e)

-- Where as many pass in the one list as in the other, any passes in both or in neither.
pub any-counted : {A B : Type 0} (p : A → Bool) (q : B → Bool) (l : List A) (m : List B) → count_of p l ≡ count_of q m → any p l ≡ any q m
any-counted p q l m e = cases (any p l)
    (λ y. cases (any q m) (λ z. y ∙ sym z)
    (λ z. let a = count-some p l y in let b = count_none q m z in absurd (omega arith)))
    (λ y. cases (any q m) (λ z. let a = count_none p l y in let b = count-some q m z in absurd (omega arith))
    (λ z. y ∙ sym z))
