-- Lists each of whose elements has a property of its place.
-- Assumes nothing.
use Prim.Native.Nat.{ℕ, zero, suc, ◌<◌}
use mathlib.Core.Path.{◌≡◌}
use mathlib.Core.List.{List, [], ◌∷◌, ◌++◌}
use native.Mathlib.Omega.{arith}
use lib.ListN.{length, get_or, get_or-append, length-append}
use lib.Seq.{get_or_at}
use lib.Dec.{eqb}
use borrow.Author.Tests.{eqb-true, eqb-false}
use Rattle.base.proofs.Choices.{cases}

module _ {A : Type 0} where
  -- A list of k elements, of which each, with its place, has P: such a list grows at its end.
  abbrev pub EachAt : (ℕ → A → Type 0) → ℕ → List A → Type 0
  EachAt P zero l = l ≡ []
  EachAt P (suc k) l = (front : List A) × (x : A) × EachAt P k front × P k x × (l ≡ front ++ (x ∷ []))

  pub EachAt-map : {P Q : ℕ → A → Type 0} → ((k : ℕ) (x : A) → P k x → Q k x) → (k : ℕ) (l : List A) → EachAt P k l → EachAt Q k l
  EachAt-map h zero l e = e
  EachAt-map h (suc k) l r = (r.0, r.1, EachAt-map h k r.0 r.2, h k r.1 r.3, r.4)

  pub EachAt-length : (P : ℕ → A → Type 0) (k : ℕ) (l : List A) → EachAt P k l → length l ≡ k
  EachAt-length P zero l e = rw e
  EachAt-length P (suc k) l r = let e = EachAt-length P k r.0 r.2 in rw (r.4, length-append) (omega arith)

  -- The element at a place has P there.
  pub EachAt-get : (P : ℕ → A → Type 0) (k : ℕ) (l : List A) → EachAt P k l → (i : ℕ) → i < k → (d : A) → P i (get_or l i d)
  EachAt-get P zero l r i lt d = absurd (omega arith)
  EachAt-get P (suc k) l r i lt d = cases (eqb i k)
      (λ t. let q : i ≡ k = eqb-true _ _ t in rw (r.4, q, get_or_at r.0 r.1 [] d k n) r.3)
      (λ t. let ne : i ≡ k → ⊥ = eqb-false _ _ t in
      let lt' : i < k = omega arith in
      rw (r.4, get_or-append r.0 (r.1 ∷ []) d i (rw n lt')) (EachAt-get P k r.0 r.2 i lt' d))
    where
      n : length r.0 ≡ k
      n = EachAt-length P k r.0 r.2

  pub EachAt-at : (P : ℕ → A → Type 0) (k : ℕ) (l : List A) → EachAt P k l → (i : ℕ) → i < k → (x : A) × P i x
  EachAt-at P zero l r i lt = absurd (omega arith)
  EachAt-at P (suc k) l r i lt = cases (eqb i k)
      (λ t. (r.1, rw (eqb-true i k t) r.3))
      (λ t. let ne : i ≡ k → ⊥ = eqb-false _ _ t in EachAt-at P k r.0 r.2 i (omega arith))
