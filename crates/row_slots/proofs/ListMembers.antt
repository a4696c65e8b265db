-- General facts of lists: membership after `set`, `take` and `get_or`, and a test that all elements pass.
-- Assumes nothing.
use Prim.Native.Nat.{ℕ, zero, suc, ◌<◌}
use mathlib.Core.Path.{◌≡◌, refl, ap}
use mathlib.Core.Logic.{◌⊎◌, inl, inr}
use mathlib.Core.Bool.{Bool, true}
use mathlib.Core.List.Memᴰ
use mathlib.Core.List.{List, [], ◌∷◌, Memᴰ}
use native.Mathlib.Omega.{arith}
use lib.ListN.{length, take, get_or, set}
use Rattle.base.specs.Lists.{count_of}

module _ {A : Type 0} where
  -- An element of a list with one element set is that one, or was there.
  pub mem-set : (l : List A) (i : ℕ) (a x : A) → Memᴰ x (set l i a) → (x ≡ a) ⊎ Memᴰ x l
  mem-set [] i a x m = inr m
  mem-set (y ∷ l) zero a x m = go (Memᴰ.cases_cons m)
    where
      go : (x ≡ a) ⊎ Memᴰ x l → (x ≡ a) ⊎ Memᴰ x (y ∷ l)
      go (inl q) = inl q
      go (inr k) = inr (Memᴰ.tail k)
  mem-set (y ∷ l) (suc i) a x m = go (Memᴰ.cases_cons m) (λ k. mem-set l i a x k)
    where
      later : (x ≡ a) ⊎ Memᴰ x l → (x ≡ a) ⊎ Memᴰ x (y ∷ l)
      later (inl q) = inl q
      later (inr k) = inr (Memᴰ.tail k)

      go : (x ≡ y) ⊎ Memᴰ x (set l i a) → (Memᴰ x (set l i a) → (x ≡ a) ⊎ Memᴰ x l) → (x ≡ a) ⊎ Memᴰ x (y ∷ l)
      go (inl q) rest = inr (Memᴰ.head q)
      go (inr k) rest = later (rest k)

  pub mem-take : (i : ℕ) (l : List A) (x : A) → Memᴰ x (take i l) → Memᴰ x l
  mem-take zero l x m = absurd (Memᴰ.not-nil m)
  mem-take (suc i) [] x m = m
  mem-take (suc i) (y ∷ l) x m = go (Memᴰ.cases_cons m) (λ k. mem-take i l x k)
    where
      go : (x ≡ y) ⊎ Memᴰ x (take i l) → (Memᴰ x (take i l) → Memᴰ x l) → Memᴰ x (y ∷ l)
      go (inl q) rest = Memᴰ.head q
      go (inr k) rest = Memᴰ.tail (rest k)

  pub mem-get_d : (l : List A) (i : ℕ) (d : A) → i < length l → Memᴰ (get_or l i d) l
  mem-get_d [] i d lt = absurd (omega arith)
  mem-get_d (x ∷ l) zero d lt = Memᴰ.head refl
  mem-get_d (x ∷ l) (suc i) d lt = Memᴰ.tail (mem-get_d l i d (omega arith))

  -- A test that all elements pass counts them all.
  pub count-all : (p : A → Bool) (l : List A) → ((x : A) → Memᴰ x l → p x ≡ true) → count_of p l ≡ length l
  unfolding count_of
  count-all p [] h = refl
  count-all p (x ∷ l) h = rw (h x (Memᴰ.head refl)) (ap suc (count-all p l (λ y m. h y (Memᴰ.tail m))))
