-- Lists that rise by a number of their elements: sorting makes them, and two with the same members are equal.
-- Assumes nothing.
use Prim.Native.Nat.{ℕ, zero, suc, ◌+◌, ◌≤◌, ◌<◌}
use mathlib.Core.Path.{◌≡◌, refl, sym, ◌∙◌, ap, subst}
use mathlib.Core.Logic.{◌⊎◌, inl, inr}
use mathlib.Core.Bool.{Bool, true, false, cond, ◌&&◌}
use mathlib.Core.Option.{Option, none, some}
use mathlib.Core.List.Memᴰ
use mathlib.Core.List.{List, [], ◌∷◌, ◌++◌, map, append-nil, Memᴰ}
use native.Mathlib.Omega.{arith}
use lib.Dec.{ltb, eqb}
use lib.ListN.{length, length-append}
use borrow.Author.Tests.{ltb-true, ltb-false, le-ltb, lt-ltb, eqb-true, eq-eqb}
use Rattle.base.specs.Lists.{option, find, any, only, count_of}
use Rattle.base.proofs.Choices.{by_bool, cases, case_option, neither, and_left, and_right, and_both}
use Rattle.base.proofs.Lists.{find-some, find_none, any-mem, any-all}
use Rattle.base.proofs.Counts.{count_none, count-some}
use Rattle.base.specs.Sort.{insert_by, sort_by}

module _ {A : Type 0} where
  -- ---- what passes a test
  pub only-in : (p : A → Bool) (l : List A) (x : A) → Memᴰ x (only p l) → Memᴰ x l × (p x ≡ true)
  unfolding only
  only-in p [] x m = absurd (Memᴰ.not-nil m)
  only-in p (y ∷ l) x m = go (p y) refl m (λ m'. only-in p l x m')
    where
      here : p y ≡ true → (x ≡ y) ⊎ Memᴰ x (only p l) → (Memᴰ x (only p l) → Memᴰ x l × (p x ≡ true)) → Memᴰ x (y ∷ l) × (p x ≡ true)
      here t (inl q) rest = (Memᴰ.head q, ap p q ∙ t)
      here t (inr m') rest = (Memᴰ.tail (rest m').0, (rest m').1)

      go : (t : Bool) → p y ≡ t → Memᴰ x (cond t (y ∷ only p l) (only p l)) → (Memᴰ x (only p l) → Memᴰ x l × (p x ≡ true))
          → Memᴰ x (y ∷ l) × (p x ≡ true)
      go true t m rest = here t (Memᴰ.cases_cons m) rest
      go false t m rest = (Memᴰ.tail (rest m).0, (rest m).1)

  pub in-only : (p : A → Bool) (l : List A) (x : A) → Memᴰ x l → p x ≡ true → Memᴰ x (only p l)
  unfolding only
  in-only p [] x m e = m
  in-only p (y ∷ l) x m e = go (p y) refl (Memᴰ.cases_cons m) (λ m'. in-only p l x m' e)
    where
      go : (t : Bool) → p y ≡ t → (x ≡ y) ⊎ Memᴰ x l → (Memᴰ x l → Memᴰ x (only p l)) → Memᴰ x (cond t (y ∷ only p l) (only p l))
      go true t (inl q) rest = Memᴰ.head q
      go true t (inr m') rest = Memᴰ.tail (rest m')
      go false t (inl q) rest = neither (p y) (sym (ap p q) ∙ e) t
      go false t (inr m') rest = rest m'

  pub only-all : (p : A → Bool) (l : List A) → ((x : A) → Memᴰ x l → p x ≡ true) → only p l ≡ l
  unfolding only
  only-all p [] h = refl
  only-all p (x ∷ l) h = rw (h x (Memᴰ.head refl)) (ap {B = List A} (λ r. x ∷ r) (only-all p l (λ y m. h y (Memᴰ.tail m))))

  pub only_none : (p : A → Bool) (l : List A) → ((x : A) → Memᴰ x l → p x ≡ false) → only p l ≡ []
  unfolding only
  only_none p [] h = refl
  only_none p (x ∷ l) h = rw (h x (Memᴰ.head refl)) (only_none p l (λ y m. h y (Memᴰ.tail m)))

  pub only-few : (p : A → Bool) (l : List A) → length (only p l) ≤ length l
  unfolding only
  only-few p [] = omega arith
  only-few p (x ∷ l) = go (p x) (only-few p l)
    where
      go : (t : Bool) → length (only p l) ≤ length l → length (cond t (x ∷ only p l) (only p l)) ≤ suc (length l)
      go true r = omega arith
      go false r = omega arith

  pub only-many : (p : A → Bool) (l : List A) → length (only p l) ≡ count_of p l
  unfolding only count_of
  only-many p [] = refl
  only-many p (x ∷ l) = go (p x) (only-many p l)
    where
      go : (t : Bool) → length (only p l) ≡ count_of p l → length (cond t (x ∷ only p l) (only p l))
          ≡ cond t (suc (count_of p l)) (count_of p l)
      go true e = ap suc e
      go false e = e

  pub count-append : (p : A → Bool) (l r : List A) → count_of p (l ++ r) ≡ count_of p l + count_of p r
  unfolding count_of
  count-append p [] r = omega arith
  count-append p (x ∷ l) r = go (p x) (count-append p l r)
    where
      go : (t : Bool) → count_of p (l ++ r) ≡ count_of p l + count_of p r → cond t (suc (count_of p (l ++ r))) (count_of p (l ++ r))
          ≡ cond t (suc (count_of p l)) (count_of p l) + count_of p r
      go true e = omega arith
      go false e = e

  -- the one element that passes is found
  pub find-only : (p : A → Bool) (l : List A) (x : A) → Memᴰ x l → p x ≡ true → ((y : A) → Memᴰ y l → p y ≡ true → y ≡ x)
      → find p l ≡ some x
  find-only p l x m e h = case_option (find p l)
      (λ t. neither (p x) e (find_none p l t x m))
      (λ y t. let r = find-some p l t in t ∙ ap {B = Option A} some (h y r.0 r.1))

  -- an element that passes where at most one does is the one found
  count-two : (p : A → Bool) (l : List A) (x : A) → Memᴰ x l → p x ≡ true → count_of p l ≤ 1 → find p l ≡ some x
  unfolding count_of find
  count-two p [] x m e c = absurd (Memᴰ.not-nil m)
  count-two p (y ∷ l) x m e c = go (p y) refl (Memᴰ.cases_cons m) c (λ m' c'. count-two p l x m' e c')
    where
      go : (t : Bool) → p y ≡ t → (x ≡ y) ⊎ Memᴰ x l → cond t (suc (count_of p l)) (count_of p l) ≤ 1
          → (Memᴰ x l → count_of p l ≤ 1 → find p l ≡ some x) → cond t (some y) (find p l) ≡ some x
      go true t (inl q) c rest = ap {B = Option A} some (sym q)
      go true t (inr m') c rest = let n : 1 ≤ count_of p l = count-some p l (any-mem p l x m' e) in absurd (omega arith)
      go false t (inl q) c rest = neither (p y) (sym (ap p q) ∙ e) t
      go false t (inr m') c rest = rest m' c

  pub find-unique : (p : A → Bool) (l : List A) (x : A) → Memᴰ x l → p x ≡ true → count_of p l ≤ 1 → find p l ≡ some x
  find-unique = count-two

  pub unique-same : (p : A → Bool) (l : List A) (x y : A) → Memᴰ x l → Memᴰ y l → p x ≡ true → p y ≡ true → count_of p l ≤ 1 → x ≡ y
  unique-same p l x y m n e f c = let a = count-two p l x m e c in let b = count-two p l y n f c in cc

  -- fewer pass a narrower test
  pub count-le : (p q : A → Bool) (l : List A) → ((x : A) → Memᴰ x l → p x ≡ true → q x ≡ true) → count_of p l ≤ count_of q l
  unfolding count_of
  count-le p q [] h = omega arith
  count-le p q (x ∷ l) h = go (p x) refl (q x) refl (count-le p q l (λ y m. h y (Memᴰ.tail m)))
    where
      go : (t : Bool) → p x ≡ t → (u : Bool) → q x ≡ u → count_of p l ≤ count_of q l
          → cond t (suc (count_of p l)) (count_of p l) ≤ cond u (suc (count_of q l)) (count_of q l)
      go true t true u r = omega arith
      go true t false u r = neither (q x) (h x (Memᴰ.head refl) t) u
      go false t true u r = omega arith
      go false t false u r = r

-- ---- rising lists
module _ {A : Type 0} (number : A → ℕ) where
  -- each element is below all later ones; no two have the same number
  abbrev pub Rising : List A → Type 0
  Rising [] = Unit {0}
  Rising (x ∷ l) = ((y : A) → Memᴰ y l → number x < number y) × Rising l

  abbrev pub Apart : List A → Type 0
  Apart [] = Unit {0}
  Apart (x ∷ l) = ((y : A) → Memᴰ y l → number y ≡ number x → ⊥) × Apart l

  pub rising-append : (l r : List A) → Rising l → Rising r → ((x y : A) → Memᴰ x l → Memᴰ y r → number x < number y) → Rising (l ++ r)
  rising-append [] r a b h = b
  rising-append (x ∷ l) r a b h = (λ y m. go y (Memᴰ.append_cases l m), rising-append l r a.1 b (λ u v m n. h u v (Memᴰ.tail m) n))
    where
      go : (y : A) → Memᴰ y l ⊎ Memᴰ y r → number x < number y
      go y (inl m) = a.0 y m
      go y (inr m) = h x y (Memᴰ.head refl) m

  -- in a rising list the number tells the element
  pub rising-same : (l : List A) → Rising l → (x y : A) → Memᴰ x l → Memᴰ y l → number x ≡ number y → x ≡ y
  rising-same [] a x y m n e = absurd (Memᴰ.not-nil m)
  rising-same (z ∷ l) a x y m n e = go (Memᴰ.cases_cons m) (Memᴰ.cases_cons n) (λ i j. rising-same l a.1 x y i j e)
    where
      go : (x ≡ z) ⊎ Memᴰ x l → (y ≡ z) ⊎ Memᴰ y l → (Memᴰ x l → Memᴰ y l → x ≡ y) → x ≡ y
      go (inl p) (inl q) rest = p ∙ sym q
      go (inl p) (inr j) rest = let h = a.0 y j in let u : number x ≡ number z = ap number p in absurd (omega arith)
      go (inr i) (inl q) rest = let h = a.0 x i in let u : number y ≡ number z = ap number q in absurd (omega arith)
      go (inr i) (inr j) rest = rest i j

  -- and a test that elements of one number alone pass, one passes at most
  pub rising-count : (p : A → Bool) (l : List A) → Rising l → ((x y : A) → Memᴰ x l → Memᴰ y l → p x ≡ true → p y ≡ true
      → number x ≡ number y) → count_of p l ≤ 1
  unfolding count_of
  rising-count p [] a h = omega arith
  rising-count p (x ∷ l) a h = go (p x) refl (rising-count p l a.1 (λ u v m n. h u v (Memᴰ.tail m) (Memᴰ.tail n)))
    where
      go : (t : Bool) → p x ≡ t → count_of p l ≤ 1 → cond t (suc (count_of p l)) (count_of p l) ≤ 1
      go true t r = let z = count_none p l (any-all p l (λ y m. cases (p y) (λ u. let e = h x y (Memᴰ.head refl) (Memᴰ.tail m) t u in
          let b = a.0 y m in absurd (omega arith)) (λ u. u))) in omega arith
      go false t r = r

  -- ---- two rising lists with the same members
  pub rising-unique : (l r : List A) → Rising l → Rising r → ((x : A) → Memᴰ x l → Memᴰ x r) → ((x : A) → Memᴰ x r → Memᴰ x l) → l ≡ r
  rising-unique [] [] a b f g = refl
  rising-unique [] (y ∷ r) a b f g = absurd (Memᴰ.not-nil (g y (Memᴰ.head refl)))
  rising-unique (x ∷ l) [] a b f g = absurd (Memᴰ.not-nil (f x (Memᴰ.head refl)))
  rising-unique (x ∷ l) (y ∷ r) a b f g =
      let e = first (Memᴰ.cases_cons (f x (Memᴰ.head refl))) (Memᴰ.cases_cons (g y (Memᴰ.head refl))) in
      let t = rising-unique l r a.1 b.1 (λ z m. forth e z m (Memᴰ.cases_cons (f z (Memᴰ.tail m))))
      (λ z m. back e z m (Memᴰ.cases_cons (g z (Memᴰ.tail m)))) in
      cc (e, t)
    where
      first : (x ≡ y) ⊎ Memᴰ x r → (y ≡ x) ⊎ Memᴰ y l → x ≡ y
      first (inl q) d = q
      first (inr m) (inl q) = sym q
      first (inr m) (inr n) = let h = a.0 y n in let k = b.0 x m in absurd (omega arith)

      forth : x ≡ y → (z : A) → Memᴰ z l → (z ≡ y) ⊎ Memᴰ z r → Memᴰ z r
      forth e z m (inl q) = let h = a.0 z m in let u : number z ≡ number x = ap number (q ∙ sym e) in absurd (omega arith)
      forth e z m (inr n) = n

      back : x ≡ y → (z : A) → Memᴰ z r → (z ≡ x) ⊎ Memᴰ z l → Memᴰ z l
      back e z m (inl q) = let h = b.0 z m in let u : number z ≡ number y = ap number (q ∙ e) in absurd (omega arith)
      back e z m (inr n) = n

  -- ---- sorting
  pub in_insert : (x : A) (l : List A) (y : A) → (y ≡ x) ⊎ Memᴰ y l → Memᴰ y (insert_by number x l)
  unfolding insert_by
  in_insert x [] y (inl q) = Memᴰ.head q
  in_insert x [] y (inr m) = absurd (Memᴰ.not-nil m)
  in_insert x (z ∷ l) y d = go (ltb (number x) (number z)) d (λ d'. in_insert x l y d')
    where
      later : (y ≡ z) ⊎ Memᴰ y l → ((y ≡ x) ⊎ Memᴰ y l → Memᴰ y (insert_by number x l)) → Memᴰ y (z ∷ insert_by number x l)
      later (inl q) rest = Memᴰ.head q
      later (inr m) rest = Memᴰ.tail (rest (inr m))

      go : (t : Bool) → (y ≡ x) ⊎ Memᴰ y (z ∷ l) → ((y ≡ x) ⊎ Memᴰ y l → Memᴰ y (insert_by number x l))
          → Memᴰ y (cond t (x ∷ z ∷ l) (z ∷ insert_by number x l))
      go true (inl q) rest = Memᴰ.head q
      go true (inr m) rest = Memᴰ.tail m
      go false (inl q) rest = Memᴰ.tail (rest (inl q))
      go false (inr m) rest = later (Memᴰ.cases_cons m) rest

  pub insert-in : (x : A) (l : List A) (y : A) → Memᴰ y (insert_by number x l) → (y ≡ x) ⊎ Memᴰ y l
  unfolding insert_by
  insert-in x [] y m = Memᴰ.cases_cons m
  insert-in x (z ∷ l) y m = go (ltb (number x) (number z)) m (λ m'. insert-in x l y m')
    where
      deeper : (y ≡ x) ⊎ Memᴰ y l → (y ≡ x) ⊎ Memᴰ y (z ∷ l)
      deeper (inl q) = inl q
      deeper (inr m) = inr (Memᴰ.tail m)

      later : (y ≡ z) ⊎ Memᴰ y (insert_by number x l) → (Memᴰ y (insert_by number x l) → (y ≡ x) ⊎ Memᴰ y l) → (y ≡ x) ⊎ Memᴰ y (z ∷ l)
      later (inl q) rest = inr (Memᴰ.head q)
      later (inr m) rest = deeper (rest m)

      go : (t : Bool) → Memᴰ y (cond t (x ∷ z ∷ l) (z ∷ insert_by number x l)) → (Memᴰ y (insert_by number x l) → (y ≡ x) ⊎ Memᴰ y l)
          → (y ≡ x) ⊎ Memᴰ y (z ∷ l)
      go true m rest = Memᴰ.cases_cons m
      go false m rest = later (Memᴰ.cases_cons m) rest

  pub in-sort : (l : List A) (y : A) → Memᴰ y l → Memᴰ y (sort_by number l)
  unfolding sort_by
  in-sort [] y m = m
  in-sort (x ∷ l) y m = in_insert x (sort_by number l) y (go (Memᴰ.cases_cons m) (λ m'. in-sort l y m'))
    where
      go : (y ≡ x) ⊎ Memᴰ y l → (Memᴰ y l → Memᴰ y (sort_by number l)) → (y ≡ x) ⊎ Memᴰ y (sort_by number l)
      go (inl q) rest = inl q
      go (inr m) rest = inr (rest m)

  pub sort-in : (l : List A) (y : A) → Memᴰ y (sort_by number l) → Memᴰ y l
  unfolding sort_by
  sort-in [] y m = m
  sort-in (x ∷ l) y m = go (insert-in x (sort_by number l) y m) (λ m'. sort-in l y m')
    where
      go : (y ≡ x) ⊎ Memᴰ y (sort_by number l) → (Memᴰ y (sort_by number l) → Memᴰ y l) → Memᴰ y (x ∷ l)
      go (inl q) rest = Memᴰ.head q
      go (inr m) rest = Memᴰ.tail (rest m)

  rising-insert : (x : A) (l : List A) → Rising l → ((y : A) → Memᴰ y l → number y ≡ number x → ⊥) → Rising (insert_by number x l)
  unfolding insert_by
  rising-insert x [] a h = (λ y m. absurd (Memᴰ.not-nil m), tt)
  rising-insert x (z ∷ l) a h = go (ltb (number x) (number z)) refl (rising-insert x l a.1 (λ y m. h y (Memᴰ.tail m)))
    where
      over : number x < number z → (y : A) → (y ≡ z) ⊎ Memᴰ y l → number x < number y
      over lt y (inl q) = let u : number y ≡ number z = ap number q in omega arith
      over lt y (inr m) = let u = a.0 y m in omega arith

      go : (t : Bool) → ltb (number x) (number z) ≡ t → Rising (insert_by number x l)
          → Rising (cond t (x ∷ z ∷ l) (z ∷ insert_by number x l))
      go true t r = (λ y m. over (ltb-true (number x) (number z) t) y (Memᴰ.cases_cons m), a)
      go false t r = (λ y m. under y (insert-in x l y m), r)
        where
          under : (y : A) → (y ≡ x) ⊎ Memᴰ y l → number z < number y
          under y (inl q) = let le : number z ≤ number x = ltb-false (number x) (number z) t in let ne = h z (Memᴰ.head refl) in
              let u : number y ≡ number x = ap number q in omega arith
          under y (inr m) = a.0 y m

  pub sort-rising : (l : List A) → Apart l → Rising (sort_by number l)
  unfolding sort_by
  sort-rising [] a = tt
  sort-rising (x ∷ l) a = rising-insert x (sort_by number l) (sort-rising l a.1) (λ y m. a.0 y (sort-in l y m))

  -- a rising list is sorted
  insert-first : (x : A) (l : List A) → ((y : A) → Memᴰ y l → number x < number y) → insert_by number x l ≡ x ∷ l
  unfolding insert_by
  insert-first x [] h = refl
  insert-first x (z ∷ l) h = rw (lt-ltb (number x) (number z) (h z (Memᴰ.head refl)))

  pub sort_sorted : (l : List A) → Rising l → sort_by number l ≡ l
  unfolding sort_by
  sort_sorted [] a = refl
  sort_sorted (x ∷ l) a = rw (sort_sorted l a.1) (insert-first x l a.0)

  insert-length : (x : A) (l : List A) → length (insert_by number x l) ≡ suc (length l)
  unfolding insert_by
  insert-length x [] = refl
  insert-length x (y ∷ l) = by_bool (λ (r : List A). length r ≡ suc (suc (length l))) (ltb (number x) (number y)) (λ t. refl)
      (λ t. ap suc (insert-length x l))

  pub sort-length : (l : List A) → length (sort_by number l) ≡ length l
  unfolding sort_by
  sort-length [] = refl
  sort-length (x ∷ l) = insert-length x (sort_by number l) ∙ ap suc (sort-length l)

  -- as many pass a test as before
  insert-count : (p : A → Bool) (x : A) (l : List A) → count_of p (insert_by number x l) ≡ count_of p (x ∷ l)
  unfolding insert_by count_of
  insert-count p x [] = refl
  insert-count p x (y ∷ l) = by_bool (λ (r : List A). count_of p r ≡ count_of p (x ∷ y ∷ l)) (ltb (number x) (number y)) (λ t. refl)
      (λ t. ap (λ (n : ℕ). cond (p y) (suc n) n) (insert-count p x l) ∙ swap (p x) (p y) (count_of p l))
    where
      swap : (a b : Bool) (n : ℕ) → cond b (suc (cond a (suc n) n)) (cond a (suc n) n) ≡ cond a (suc (cond b (suc n) n)) (cond b (suc n) n)
      swap true true n = refl
      swap true false n = refl
      swap false true n = refl
      swap false false n = refl

  pub sort-count : (p : A → Bool) (l : List A) → count_of p (sort_by number l) ≡ count_of p l
  unfolding sort_by count_of
  sort-count p [] = refl
  sort-count p (x ∷ l) = insert-count p x (sort_by number l) ∙ ap (λ (n : ℕ). cond (p x) (suc n) n) (sort-count p l)

  -- ---- elements that pass a test, whose numbers differ
  pub apart-only : (p : A → Bool) (l : List A) → ((x : A) → Memᴰ x l → p x ≡ true → count_of (λ y. p y && eqb (number y) (number x)) l ≤ 1)
      → Apart (only p l)
  unfolding only count_of
  apart-only p [] h = tt
  apart-only p (x ∷ l) h = go (p x) refl (apart-only p l (λ y m e. let c = h y (Memᴰ.tail m) e in fewer y c))
    where
      fewer : (y : A) → cond (p x && eqb (number x) (number y)) (suc (count_of (λ z. p z && eqb (number z) (number y)) l))
          (count_of (λ z. p z && eqb (number z) (number y)) l) ≤ 1
          → count_of (λ z. p z && eqb (number z) (number y)) l ≤ 1
      fewer y = cut (p x && eqb (number x) (number y))
        where
          cut : (b : Bool) → cond b (suc (count_of (λ z. p z && eqb (number z) (number y)) l))
              (count_of (λ z. p z && eqb (number z) (number y)) l) ≤ 1 → count_of (λ z. p z && eqb (number z) (number y)) l ≤ 1
          cut true c = omega arith
          cut false c = c

      away : p x ≡ true → (y : A) → Memᴰ y (only p l) → number y ≡ number x → ⊥
      away t y m e =
          let i = only-in p l y m in
          let s : 1 ≤ count_of (λ z. p z && eqb (number z) (number x)) l =
          count-some _ l (any-mem _ l y i.0 (and_both (p y) _ i.1 (eq-eqb _ _ e))) in
          let c = h x (Memᴰ.head refl) t in
          absurd (twice (p x && eqb (number x) (number x)) (and_both (p x) _ t (eq-eqb (number x) (number x) refl)) c s)
        where
          twice : (b : Bool) → b ≡ true → cond b (suc (count_of (λ z. p z && eqb (number z) (number x)) l))
              (count_of (λ z. p z && eqb (number z) (number x)) l) ≤ 1 → 1 ≤ count_of (λ z. p z && eqb (number z) (number x)) l → ⊥
          twice true e c s = omega arith
          twice false e c s = neither false e refl

      go : (t : Bool) → p x ≡ t → Apart (only p l) → Apart (cond t (x ∷ only p l) (only p l))
      go true t r = (away t, r)
      go false t r = r

-- numbers kept through a change of form
pub apart-map : {A B : Type 0} (f : A → B) (m : A → ℕ) (n : B → ℕ) (l : List A) → ((x : A) → Memᴰ x l → n (f x) ≡ m x) → Apart m l
    → Apart n (map f l)
apart-map f m n [] h a = tt
apart-map {A} {B} f m n (x ∷ l) h a = (away, apart-map f m n l (λ y i. h y (Memᴰ.tail i)) a.1)
  where
    away : (y : B) → Memᴰ y (map f l) → n y ≡ n (f x) → ⊥
    away y i e =
        let b = Memᴰ.of_map f l i in
        let u : n (f b.0) ≡ n y = ap n b.2 in
        let v = h b.0 (Memᴰ.tail b.1) in
        let w = h x (Memᴰ.head refl) in
        a.0 b.0 b.1 (omega arith)

pub rising-map : {A B : Type 0} (f : A → B) (m : A → ℕ) (n : B → ℕ) (l : List A) → ((x : A) → Memᴰ x l → n (f x) ≡ m x) → Rising m l
    → Rising n (map f l)
rising-map f m n [] h a = tt
rising-map {A} {B} f m n (x ∷ l) h a = (over, rising-map f m n l (λ y i. h y (Memᴰ.tail i)) a.1)
  where
    over : (y : B) → Memᴰ y (map f l) → n (f x) < n y
    over y i =
        let b = Memᴰ.of_map f l i in
        let u : n (f b.0) ≡ n y = ap n b.2 in
        let v = h b.0 (Memᴰ.tail b.1) in
        let w = h x (Memᴰ.head refl) in
        let lt = a.0 b.0 b.1 in
        omega arith

insert-map : {A B : Type 0} (f : A → B) (n : B → ℕ) (x : A) (l : List A)
    → insert_by n (f x) (map f l) ≡ map f (insert_by (λ y. n (f y)) x l)
unfolding insert_by
insert-map f n x [] = refl
insert-map {A} {B} f n x (y ∷ l) = by_bool (λ (r : List A). cond (ltb (n (f x)) (n (f y))) (f x ∷ f y ∷ map f l)
    (f y ∷ insert_by n (f x) (map f l)) ≡ map f r) (ltb (n (f x)) (n (f y))) (λ t. rw t)
    (λ t. rw t (ap {B = List B} (λ r. f y ∷ r) (insert-map f n x l)))

pub sort-map : {A B : Type 0} (f : A → B) (n : B → ℕ) (l : List A) → sort_by n (map f l) ≡ map f (sort_by (λ y. n (f y)) l)
unfolding sort_by
sort-map f n [] = refl
sort-map f n (x ∷ l) = ap (insert_by n (f x)) (sort-map f n l) ∙ insert-map f n x (sort_by (λ y. n (f y)) l)
