-- Elements under indices: how many bear one below a number, and when every index is borne.
-- Assumes nothing.
use Prim.Native.Nat.{ℕ, zero, suc, ◌+◌, ◌≤◌, ◌<◌}
use mathlib.Core.Path.{◌≡◌, refl, sym, ◌∙◌, ap}
use mathlib.Core.Bool.{Bool, true, false, ◌&&◌, ◌||◌, and-false, and-or_distrib_left}
use mathlib.Core.List.{List, Memᴰ}
use native.Mathlib.Omega.{arith}
use lib.Dec.{ltb, eqb}
use borrow.Author.Tests.{ltb-true, ltb-false, lt-ltb, le-ltb, eqb-true, eqb-false, eq-eqb, ne_eqb}
use Rattle.base.specs.Lists.{any, count_of, below}
use Rattle.base.proofs.Choices.{cases}
use Rattle.base.proofs.Lists.{any-all}
use Rattle.base.proofs.Counts.{count-ext, count_none, count-some, count-split}

pub ltb-suc : (t k T : ℕ) → T ≡ suc k → ltb t T ≡ (ltb t k || eqb t k)
ltb-suc t k T e = cases (ltb t k)
    (λ y. let p = ltb-true t k y in rw (y, lt-ltb t T (omega arith)))
    (λ y. let p = ltb-false t k y in cases (eqb t k)
    (λ z. let q = eqb-true t k z in rw (y, z, lt-ltb t T (omega arith)))
    (λ z. let q : t ≡ k → ⊥ = eqb-false t k z in rw (y, z, le-ltb t T (omega arith))))

-- c of n indices, and the next one where t: all of suc n?
one_more : (c k n : ℕ) (t : Bool) → c ≤ n → k ≤ 1 → (t ≡ true → 1 ≤ k) → (t ≡ false → k ≡ 0) → (d : ℕ) → d ≡ c + k → (eqb c n && t)
    ≡ eqb d (suc n)
one_more c k n true le one there gone d e = let y = there refl in cases (eqb c n)
    (λ z. let p = eqb-true c n z in rw z (sym (eq-eqb d (suc n) (omega arith))))
    (λ z. let p : c ≡ n → ⊥ = eqb-false c n z in rw z (sym (ne_eqb d (suc n) (λ w. p (omega arith)))))
one_more c k n false le one there gone d e = let y = gone refl in and-false (eqb c n) ∙ sym (ne_eqb d (suc n) (λ w. omega arith))

module _ {A : Type 0} (q : A → Bool) (index : A → ℕ) (l : List A) where
  -- One index more: those below it, and those at it.
  pub count-below-suc : (n T : ℕ) → T ≡ suc n
      → count_of (λ x. q x && ltb (index x) T) l ≡ count_of (λ x. q x && ltb (index x) n) l + count_of
      (λ x. q x && eqb (index x) n) l
  count-below-suc n T e = count-split (λ x. q x && ltb (index x) T) (λ x. q x && ltb (index x) n) (λ x. q x && eqb (index x) n) l
      (λ x. (rw (ltb-suc (index x) n T e) (and-or_distrib_left (q x) (ltb (index x) n) (eqb (index x) n)), apart x))
    where
      differ : (a b c : Bool) → (b && c) ≡ false → ((a && b) && (a && c)) ≡ false
      differ true b c e = e
      differ false b c e = refl

      apart : (x : A) → ((q x && ltb (index x) n) && (q x && eqb (index x) n)) ≡ false
      apart x = differ (q x) (ltb (index x) n) (eqb (index x) n) (cases (ltb (index x) n)
          (λ y. let p = ltb-true (index x) n y in rw (y, ne_eqb (index x) n (λ z. omega arith)))
          (λ y. rw y))

  module _ (once : (i : ℕ) → count_of (λ x. q x && eqb (index x) i) l ≤ 1) where
    few-below : (n : ℕ) → count_of (λ x. q x && ltb (index x) n) l ≤ n
    few-below zero = rw (count_none (λ x. q x && ltb (index x) 0) l
        (any-all (λ x. q x && ltb (index x) 0) l (λ x m. rw (le-ltb (index x) 0 (omega arith)) (and-false (q x))))) (omega arith)
    few-below (suc n) = let a = few-below n in let b = once n in let c = count-below-suc n (suc n) refl in omega arith

    all-below : (n : ℕ) → below n (λ i. any (λ x. q x && eqb (index x) i) l) ≡ eqb (count_of (λ x. q x && ltb (index x) n) l) n
    unfolding below
    all-below zero = let a = few-below zero in sym (eq-eqb (count_of (λ x. q x && ltb (index x) 0) l) 0 (omega arith))
    all-below (suc n) = rw (all-below n) (one_more (count_of (λ x. q x && ltb (index x) n) l) (count_of (λ x. q x && eqb (index x) n) l) n
        (any (λ x. q x && eqb (index x) n) l)
        (few-below n) (once n) (count-some (λ x. q x && eqb (index x) n) l) (count_none (λ x. q x && eqb (index x) n) l) _
        (count-below-suc n (suc n) refl))

    -- Different indices below n, as many as n, are all of them; and fewer are not.
    pub indices-all : (n : ℕ) → ((x : A) → Memᴰ x l → q x ≡ true → index x < n) → below n (λ i. any (λ x. q x && eqb (index x) i) l)
        ≡ eqb (count_of q l) n
    indices-all n within = all-below n ∙ ap (λ (c : ℕ). eqb c n) (count-ext (λ x. q x && ltb (index x) n) q l (λ x m. cases (q x)
        (λ y. rw (y, lt-ltb (index x) n (within x m y)))
        (λ y. rw y)))
