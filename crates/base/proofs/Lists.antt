-- Laws of `find`, `any`, `every`, `without` and `only`, by membership.
-- Assumes nothing.
use Prim.Native.Nat.{ℕ, zero, suc, ◌≤◌, ◌<◌}
use mathlib.Core.Path.{◌≡◌, refl, sym, ◌∙◌, ap}
use mathlib.Core.Logic.{◌⊎◌, inl, inr}
use mathlib.Core.Bool.{Bool, true, false, cond, ◌&&◌, ◌||◌, true≢false, false≢true}
use mathlib.Core.Option.{Option, none, some}
use mathlib.Core.List.Memᴰ
use mathlib.Core.List.{List, [], ◌∷◌, ◌++◌, map, append-nil, Memᴰ}
use native.Mathlib.Omega.{arith}
use lib.ListN.{length, get_or, replicate}
use lib.Dec.{eqb}
use borrow.Author.Tests.{eqb-true, eqb-false}
use Rattle.base.specs.Lists.{option, find, any, every, without, only, pairs, below}
use Rattle.base.proofs.Choices.{cases, case_option, and_left, and_right, and_both, neither}

module _ {A : Type 0} where
  pub find-some : (p : A → Bool) (l : List A) {x : A} → find p l ≡ some x → Memᴰ x l × (p x ≡ true)
  unfolding find
  find-some p [] e = absurd (let z : ◌≡◌ {A = ℕ} 0 1 = cc in omega arith)
  find-some p (y ∷ ys) {x} e = go (p y) refl e (λ e'. find-some p ys e')
    where
      go : (t : Bool) → p y ≡ t → cond t (some y) (find p ys) ≡ some x → (find p ys ≡ some x → Memᴰ x ys × (p x ≡ true))
          → Memᴰ x (y ∷ ys) × (p x ≡ true)
      go true t e rest = let q : x ≡ y = cc in (Memᴰ.head q, ap p q ∙ t)
      go false t e rest = (Memᴰ.tail (rest e).0, (rest e).1)

  pub find_none : (p : A → Bool) (l : List A) → find p l ≡ none → (x : A) → Memᴰ x l → p x ≡ false
  unfolding find
  find_none p [] e x m = absurd (Memᴰ.not-nil m)
  find_none p (y ∷ ys) e x m = go (p y) refl e (λ e' m'. find_none p ys e' x m') (Memᴰ.cases_cons m)
    where
      go : (t : Bool) → p y ≡ t → cond t (some y) (find p ys) ≡ none → (find p ys ≡ none → Memᴰ x ys → p x ≡ false)
          → (x ≡ y) ⊎ Memᴰ x ys → p x ≡ false
      go true t e rest c = absurd (let z : ◌≡◌ {A = ℕ} 0 1 = cc in omega arith)
      go false t e rest (inl q) = ap p q ∙ t
      go false t e rest (inr m') = rest e m'

  pub any-true : (p : A → Bool) (l : List A) → any p l ≡ true → (x : A) × Memᴰ x l × (p x ≡ true)
  unfolding any
  any-true p [] e = absurd (false≢true e)
  any-true p (y ∷ ys) e = go (p y) refl e (λ e'. any-true p ys e')
    where
      go : (t : Bool) → p y ≡ t → (t || any p ys) ≡ true → (any p ys ≡ true → (x : A) × Memᴰ x ys × (p x ≡ true)) → (x : A)
          × Memᴰ x (y ∷ ys) × (p x ≡ true)
      go true t e rest = (y, Memᴰ.head refl, t)
      go false t e rest = let r = rest e in (r.0, Memᴰ.tail r.1, r.2)

  pub any_false : (p : A → Bool) (l : List A) → any p l ≡ false → (x : A) → Memᴰ x l → p x ≡ false
  unfolding any
  any_false p [] e x m = absurd (Memᴰ.not-nil m)
  any_false p (y ∷ ys) e x m = go (p y) refl e (λ e' m'. any_false p ys e' x m') (Memᴰ.cases_cons m)
    where
      go : (t : Bool) → p y ≡ t → (t || any p ys) ≡ false → (any p ys ≡ false → Memᴰ x ys → p x ≡ false) → (x ≡ y) ⊎ Memᴰ x ys
          → p x ≡ false
      go true t e rest c = absurd (true≢false e)
      go false t e rest (inl q) = ap p q ∙ t
      go false t e rest (inr m') = rest e m'

  pub without-mem : (p : A → Bool) (l : List A) (x : A) → Memᴰ x (without p l) → Memᴰ x l × (p x ≡ false)
  unfolding without
  without-mem p [] x m = absurd (Memᴰ.not-nil m)
  without-mem p (y ∷ ys) x m = go (p y) refl m (λ m'. without-mem p ys x m')
    where
      here : p y ≡ false → (x ≡ y) ⊎ Memᴰ x (without p ys) → (Memᴰ x (without p ys) → Memᴰ x ys × (p x ≡ false))
          → Memᴰ x (y ∷ ys) × (p x ≡ false)
      here t (inl q) rest = (Memᴰ.head q, ap p q ∙ t)
      here t (inr m') rest = (Memᴰ.tail (rest m').0, (rest m').1)

      go : (t : Bool) → p y ≡ t → Memᴰ x (cond t (without p ys) (y ∷ without p ys))
          → (Memᴰ x (without p ys) → Memᴰ x ys × (p x ≡ false)) → Memᴰ x (y ∷ ys) × (p x ≡ false)
      go true t m rest = (Memᴰ.tail (rest m).0, (rest m).1)
      go false t m rest = here t (Memᴰ.cases_cons m) rest

  pub mem-without : (p : A → Bool) (l : List A) (x : A) → Memᴰ x l → p x ≡ false → Memᴰ x (without p l)
  unfolding without
  mem-without p [] x m e = m
  mem-without p (y ∷ ys) x m e = go (p y) refl (Memᴰ.cases_cons m) (λ m'. mem-without p ys x m' e)
    where
      go : (t : Bool) → p y ≡ t → (x ≡ y) ⊎ Memᴰ x ys → (Memᴰ x ys → Memᴰ x (without p ys))
          → Memᴰ x (cond t (without p ys) (y ∷ without p ys))
      go true t (inl q) rest = neither (p y) t (sym (ap p q) ∙ e)
      go true t (inr m') rest = rest m'
      go false t (inl q) rest = Memᴰ.head q
      go false t (inr m') rest = Memᴰ.tail (rest m')

  -- What a test finds is not changed by taking out elements that it fails.
  pub find-without : (p q : A → Bool) (l : List A) → ((x : A) → Memᴰ x l → q x ≡ true → p x ≡ false) → find p (without q l) ≡ find p l
  unfolding find without
  find-without p q [] h = refl
  find-without p q (y ∷ ys) h = go (q y) refl (find-without p q ys (λ x m. h x (Memᴰ.tail m)))
    where
      go : (t : Bool) → q y ≡ t → find p (without q ys) ≡ find p ys → find p (cond t (without q ys) (y ∷ without q ys)) ≡ find p (y ∷ ys)
      go true t r = rw (h y (Memᴰ.head refl) t) r
      go false t r = ap (cond (p y) (some y)) r

  pub length-without-le : (p : A → Bool) (l : List A) → length (without p l) ≤ length l
  unfolding without
  length-without-le p [] = omega arith
  length-without-le p (y ∷ ys) = go (p y) (length-without-le p ys)
    where
      go : (t : Bool) → length (without p ys) ≤ length ys → length (cond t (without p ys) (y ∷ without p ys)) ≤ suc (length ys)
      go true r = omega arith
      go false r = omega arith

  pub length-without-lt : (p : A → Bool) (l : List A) (x : A) → Memᴰ x l → p x ≡ true → length (without p l) < length l
  unfolding without
  length-without-lt p [] x m e = absurd (Memᴰ.not-nil m)
  length-without-lt p (y ∷ ys) x m e = go (p y) refl (Memᴰ.cases_cons m) (λ m'. length-without-lt p ys x m' e) (length-without-le p ys)
    where
      go : (t : Bool) → p y ≡ t → (x ≡ y) ⊎ Memᴰ x ys → (Memᴰ x ys → length (without p ys) < length ys) → length (without p ys) ≤
          length ys → length (cond t (without p ys) (y ∷ without p ys)) < suc (length ys)
      go true t c rest le = omega arith
      go false t (inl q) rest le = neither (p y) (sym (ap p q) ∙ e) t
      go false t (inr m') rest le = let r : length (without p ys) < length ys = rest m' in omega arith

  pub only-append : (p : A → Bool) (l r : List A) → only p (l ++ r) ≡ only p l ++ only p r
  unfolding only
  only-append p [] r = refl
  only-append p (y ∷ ys) r = go (p y) (only-append p ys r)
    where
      go : (t : Bool) → only p (ys ++ r) ≡ only p ys ++ only p r → cond t (y ∷ only p (ys ++ r)) (only p (ys ++ r)) ≡ cond t (y ∷ only p ys)
          (only p ys) ++ only p r
      go true e = ap {B = List A} (λ s. y ∷ s) e
      go false e = e

  -- One more element at the end, passing or failing.
  pub only-pass : (p : A → Bool) (l : List A) (x : A) → p x ≡ true → only p (l ++ (x ∷ [])) ≡ only p l ++ (x ∷ [])
  unfolding only
  only-pass p l x e = rw (only-append, e)

  pub only-fail : (p : A → Bool) (l : List A) (x : A) → p x ≡ false → only p (l ++ (x ∷ [])) ≡ only p l
  unfolding only
  only-fail p l x e = rw (only-append, e) (append-nil (only p l))

  pub any-mem : (p : A → Bool) (l : List A) (x : A) → Memᴰ x l → p x ≡ true → any p l ≡ true
  any-mem p l x m e = cases (any p l) (λ t. t) (λ t. neither (p x) e (any_false p l t x m))

  pub any-all : (p : A → Bool) (l : List A) → ((x : A) → Memᴰ x l → p x ≡ false) → any p l ≡ false
  any-all p l h = cases (any p l) (λ t. let r = any-true p l t in neither (p r.0) r.2 (h r.0 r.1)) (λ t. t)

  pub any-find : (p : A → Bool) (l : List A) → any p l ≡ option (find p l) false (λ x. true)
  unfolding any find
  any-find p [] = refl
  any-find p (x ∷ l) = go (p x) (any-find p l)
    where
      go : (t : Bool) → any p l ≡ option (find p l) false (λ x. true) → (t || any p l) ≡ option (cond t (some x) (find p l)) false
          (λ x. true)
      go true e = refl
      go false e = e

  pub find-no : (p : A → Bool) (l : List A) → any p l ≡ false → find p l ≡ none
  find-no p l e = case_option (find p l) (λ t. t) (λ x t. let i = find-some p l t in neither (p x) i.1 (any_false p l e x i.0))

  -- A test after a change of every element.
  pub any-map : (p q : A → Bool) (h : A → A) (l : List A) → ((x : A) → Memᴰ x l → p (h x) ≡ q x) → any p (map h l) ≡ any q l
  unfolding any
  any-map p q h [] e = refl
  any-map p q h (x ∷ l) e =
      let a = e x (Memᴰ.head refl) in
      let r = any-map p q h l (λ y m. e y (Memᴰ.tail m)) in
      rw (a, r)

  -- What is found, as far as v shows it.
  pub find-map : {B : Type 0} (v : A → B) (p q : A → Bool) (h : A → A) (l : List A) → ((x : A) → Memᴰ x l → p (h x) ≡ q x)
      → ((x : A) → Memᴰ x l → q x ≡ true → v (h x) ≡ v x)
      → option (find p (map h l)) none (λ x. some (v x)) ≡ option (find q l) none (λ x. some (v x))
  unfolding find
  find-map v p q h [] e s = refl
  find-map {B} v p q h (x ∷ l) e s = rw (e x (Memᴰ.head refl))
      (go (q x) refl (find-map v p q h l (λ y m. e y (Memᴰ.tail m)) (λ y m. s y (Memᴰ.tail m))))
    where
      go : (t : Bool) → q x ≡ t → option (find p (map h l)) none (λ x. some (v x)) ≡ option (find q l) none (λ x. some (v x))
          → ◌≡◌ {A = Option B} (option (cond t (some (h x)) (find p (map h l))) none (λ x. some (v x)))
          (option (cond t (some x) (find q l)) none (λ x. some (v x)))
      go true t r = ap {B = Option B} some (s x (Memᴰ.head refl) t)
      go false t r = r

  pub every-mem : (p : A → Bool) (l : List A) → every p l ≡ true → (x : A) → Memᴰ x l → p x ≡ true
  unfolding every
  every-mem p [] e x i = absurd (Memᴰ.not-nil i)
  every-mem p (y ∷ ys) e x i = go (Memᴰ.cases_cons i) (λ j. every-mem p ys (and_right (p y) _ e) x j)
    where
      go : (x ≡ y) ⊎ Memᴰ x ys → (Memᴰ x ys → p x ≡ true) → p x ≡ true
      go (inl q) rest = ap p q ∙ and_left (p y) _ e
      go (inr j) rest = rest j

  pub every-all : (p : A → Bool) (l : List A) → ((x : A) → Memᴰ x l → p x ≡ true) → every p l ≡ true
  unfolding every
  every-all p [] h = refl
  every-all p (x ∷ l) h = and_both _ _ (h x (Memᴰ.head refl)) (every-all p l (λ y m. h y (Memᴰ.tail m)))

  pub pairs-mem : (p : A → A → Bool) (l : List A) → pairs p l ≡ true → (x y : A) → Memᴰ x l → Memᴰ y l → (x ≡ y) ⊎ (p x y ≡ true)
  unfolding pairs
  pairs-mem p [] e x y i j = absurd (Memᴰ.not-nil i)
  pairs-mem p (z ∷ zs) e x y i j = go (Memᴰ.cases_cons i) (Memᴰ.cases_cons j)
      (λ i' j'. pairs-mem p zs (and_right (every (λ y. p z y && p y z) zs) _ e) x y i' j')
    where
      both : (w : A) → Memᴰ w zs → (p z w && p w z) ≡ true
      both w k = every-mem (λ y. p z y && p y z) zs (and_left _ (pairs p zs) e) w k

      go : (x ≡ z) ⊎ Memᴰ x zs → (y ≡ z) ⊎ Memᴰ y zs → (Memᴰ x zs → Memᴰ y zs → (x ≡ y) ⊎ (p x y ≡ true))
          → (x ≡ y) ⊎ (p x y ≡ true)
      go (inl q) (inl r) rest = inl (q ∙ sym r)
      go (inl q) (inr k) rest = inr (rw q (and_left (p z y) _ (both y k)))
      go (inr k) (inl r) rest = inr (rw r (and_right (p z x) _ (both x k)))
      go (inr k) (inr m) rest = rest k m

  pub mem-replicate : (x y : A) (n : ℕ) → Memᴰ y (replicate n x) → y ≡ x
  mem-replicate x y zero m = absurd (Memᴰ.not-nil m)
  mem-replicate x y (suc n) m = go (Memᴰ.cases_cons m) (λ i. mem-replicate x y n i)
    where
      go : (y ≡ x) ⊎ Memᴰ y (replicate n x) → (Memᴰ y (replicate n x) → y ≡ x) → y ≡ x
      go (inl q) k = q
      go (inr i) k = k i

  pub any-replicate : (p : A → Bool) (x : A) (n : ℕ) → p x ≡ false → any p (replicate n x) ≡ false
  any-replicate p x n e = any-all p (replicate n x) (λ y m. ap p (mem-replicate x y n m) ∙ e)

  pub length-positive : {x : A} (l : List A) → Memᴰ x l → 0 < length l
  length-positive [] m = absurd (Memᴰ.not-nil m)
  length-positive (y ∷ ys) m = omega arith

  -- An element's place, and the element at a place.
  pub place-of : (d : A) (l : List A) (x : A) → Memᴰ x l → (j : ℕ) × (j < length l) × (get_or l j d ≡ x)
  place-of d [] x m = absurd (Memᴰ.not-nil m)
  place-of d (y ∷ l) x m = go (Memᴰ.cases_cons m) (λ i. place-of d l x i)
    where
      go : (x ≡ y) ⊎ Memᴰ x l → (Memᴰ x l → (j : ℕ) × (j < length l) × (get_or l j d ≡ x)) → (j : ℕ) × (j < suc (length l))
          × (get_or (y ∷ l) j d ≡ x)
      go (inl q) rest = (0, omega arith, sym q)
      go (inr i) rest = let r = rest i in let lt = r.1 in (suc r.0, omega arith, r.2)

  pub at-place : (d : A) (l : List A) (k : ℕ) → k < length l → Memᴰ (get_or l k d) l
  at-place d [] k lt = absurd (omega arith)
  at-place d (x ∷ l) zero lt = Memᴰ.head refl
  at-place d (x ∷ l) (suc k) lt = Memᴰ.tail (at-place d l k (omega arith))

  -- Two changes after each other, where they come to the same for every element.
  pub map-map : (f g h k : A → A) (l : List A) → ((x : A) → Memᴰ x l → f (g x) ≡ k (h x)) → map f (map g l) ≡ map k (map h l)
  map-map f g h k [] e = refl
  map-map f g h k (x ∷ l) e =
      let a = e x (Memᴰ.head refl) in
      let b = map-map f g h k l (λ y m. e y (Memᴰ.tail m)) in
      cc

-- The numbers below n.
pub below_at : (n : ℕ) (p : ℕ → Bool) → below n p ≡ true → (i : ℕ) → i < n → p i ≡ true
unfolding below
below_at zero p e i lt = absurd (omega arith)
below_at (suc n) p e i lt = cases (eqb i n)
    (λ t. rw (eqb-true i n t) (and_right (below n p) _ e))
    (λ t. let ne : i ≡ n → ⊥ = eqb-false i n t in below_at n p (and_left (below n p) _ e) i (omega arith))

pub below_all : (n : ℕ) (p : ℕ → Bool) → ((i : ℕ) → i < n → p i ≡ true) → below n p ≡ true
unfolding below
below_all zero p h = refl
below_all (suc n) p h = and_both _ _ (below_all n p (λ i lt. h i (omega arith))) (h n (omega arith))
