-- Sorted and rising lists, as the save meets them.
-- Assumes nothing.
use Prim.Native.Nat.{ℕ, ◌<◌}
use mathlib.Core.Path.{◌≡◌, refl, ◌∙◌, ap}
use mathlib.Core.Bool.{Bool, true, false, cond}
use mathlib.Core.List.Memᴰ
use mathlib.Core.List.{List, [], ◌∷◌, map, Memᴰ}
use native.Mathlib.Omega.{arith}
use lib.Dec.{ltb}
use borrow.Author.Tests.{ltb-true, ltb-false, lt-ltb, le-ltb}
use Rattle.base.specs.Lists.{only}
use Rattle.base.specs.Sort.{insert_by, sort_by}
use Rattle.base.proofs.Choices.{cases, neither}
use Rattle.base.proofs.Sorts.{only-in, Rising, Apart}
use Rattle.receiver.specs.Queue.{insert_unsent}
use Rattle.receiver.specs.Write.{sorted}
use Rattle.recv_acks.proofs.Sorted.{sorted-member}

module _ {A : Type 0} where
  -- ---- what passes
  pub only-only : (p q : A → Bool) (l : List A) → ((x : A) → p x ≡ true → q x ≡ true) → only p (only q l) ≡ only p l
  unfolding only
  only-only p q [] h = refl
  only-only p q (x ∷ l) h = go (p x) refl (q x) refl (only-only p q l h)
    where
      go : (t : Bool) → p x ≡ t → (u : Bool) → q x ≡ u → only p (only q l) ≡ only p l
          → only p (cond u (x ∷ only q l) (only q l)) ≡ cond t (x ∷ only p l) (only p l)
      go true t true u r = rw (t, r)
      go true t false u r = neither (q x) (h x t) u
      go false t true u r = rw (t, r)
      go false t false u r = r

  -- ---- numbers that differ
  module _ (m n : A → ℕ) where
    pub apart-finer : (l : List A) → ((x y : A) → Memᴰ x l → Memᴰ y l → n x ≡ n y → m x ≡ m y) → Apart m l → Apart n l
    apart-finer [] h a = tt
    apart-finer (x ∷ l) h a =
        (λ y i e. a.0 y i (h y x (Memᴰ.tail i) (Memᴰ.head refl) e), apart-finer l (λ y z i j. h y z (Memᴰ.tail i) (Memᴰ.tail j)) a.1)

    pub rising-finer : (l : List A) → ((x y : A) → Memᴰ x l → Memᴰ y l → m x < m y → n x < n y) → Rising m l → Rising n l
    rising-finer [] h a = tt
    rising-finer (x ∷ l) h a =
        (λ y i. h x y (Memᴰ.head refl) (Memᴰ.tail i) (a.0 y i), rising-finer l (λ y z i j. h y z (Memᴰ.tail i) (Memᴰ.tail j)) a.1)

  module _ (n : A → ℕ) (p : A → Bool) where
    pub apart-sub : (l : List A) → Apart n l → Apart n (only p l)
    unfolding only
    apart-sub [] a = tt
    apart-sub (x ∷ l) a = go (p x) (apart-sub l a.1)
      where
        go : (t : Bool) → Apart n (only p l) → Apart n (cond t (x ∷ only p l) (only p l))
        go true r = (λ y i. a.0 y (only-in p l y i).0, r)
        go false r = r

    pub rising-sub : (l : List A) → Rising n l → Rising n (only p l)
    unfolding only
    rising-sub [] a = tt
    rising-sub (x ∷ l) a = go (p x) (rising-sub l a.1)
      where
        go : (t : Bool) → Rising n (only p l) → Rising n (cond t (x ∷ only p l) (only p l))
        go true r = (λ y i. a.0 y (only-in p l y i).0, r)
        go false r = r

module _ {A B : Type 0} (f : A → B) where
  pub apart-unmap : (n : B → ℕ) (l : List A) → Apart n (map f l) → Apart (λ x. n (f x)) l
  apart-unmap n [] a = tt
  apart-unmap n (x ∷ l) a = (λ y i. a.0 (f y) (Memᴰ.map f i), apart-unmap n l a.1)

-- numbers that ascend as those of what they stand for
module _ {B : Type 0} (f : ℕ → B) (n : B → ℕ) where
  insert-sorted : (x : ℕ) (l : List ℕ) → ((y : ℕ) → Memᴰ y l → ltb x y ≡ ltb (n (f x)) (n (f y)))
      → map f (insert_unsent x l) ≡ insert_by n (f x) (map f l)
  unfolding insert_unsent insert_by
  insert-sorted x [] h = refl
  insert-sorted x (y ∷ l) h = rw (h y (Memᴰ.head refl)) (go (ltb (n (f x)) (n (f y))) (insert-sorted x l (λ z i. h z (Memᴰ.tail i))))
    where
      go : (t : Bool) → map f (insert_unsent x l) ≡ insert_by n (f x) (map f l)
          → map f (cond t (x ∷ y ∷ l) (y ∷ insert_unsent x l)) ≡ cond t (f x ∷ f y ∷ map f l) (f y ∷ insert_by n (f x) (map f l))
      go true e = refl
      go false e = ap {B = List B} (λ r. f y ∷ r) e

  pub map-sorted : (l : List ℕ) → ((x y : ℕ) → Memᴰ x l → Memᴰ y l → n (f x) < n (f y) → x < y) → Apart (λ x. n (f x)) l
      → map f (sorted l) ≡ sort_by n (map f l)
  unfolding sorted sort_by
  map-sorted [] h a = refl
  map-sorted (x ∷ l) h a =
      insert-sorted x (sorted l) (λ y i. same y ((sorted-member y l).0 i))
      ∙ ap (insert_by n (f x)) (map-sorted l (λ y z i j. h y z (Memᴰ.tail i) (Memᴰ.tail j)) a.1)
    where
      same : (y : ℕ) → Memᴰ y l → ltb x y ≡ ltb (n (f x)) (n (f y))
      same y i = cases (ltb (n (f x)) (n (f y)))
          (λ t. rw t (lt-ltb x y (h x y (Memᴰ.head refl) (Memᴰ.tail i) (ltb-true (n (f x)) (n (f y)) t))))
          (λ t. let le = ltb-false (n (f x)) (n (f y)) t in
          let ne = a.0 y i in
          let lt : n (f y) < n (f x) = omega arith in
          let k = h y x (Memᴰ.tail i) (Memᴰ.head refl) lt in
          rw t (le-ltb x y (omega arith)))
