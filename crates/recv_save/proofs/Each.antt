-- The bytes of a list's elements, as a loop writes them.
-- Assumes nothing.
use Prim.Native.Nat.{ℕ, zero, suc, ◌+◌, ◌<◌, ◌≤◌}
use mathlib.Core.Path.{◌≡◌, refl, ap}
use mathlib.Core.List.{List, [], ◌∷◌}
use native.Mathlib.Omega.{arith}
use native.Mathlib.Numerals.{add-one}
use lib.ListN.{length, get_or, drop, length-append}
use lib.Seq.{drop-cons}
use Rattle.base.specs.If.{if_eq}
use Rattle.base.specs.Put.{and_then, Run}
use Rattle.base.proofs.Puts.{run_none, run-then}
use Rattle.base.proofs.Runs.{Left, left_less, left-none, run-eq-no}
use Rattle.recv_save.specs.Each.{each_bytes}

drop-nil : {A : Type 0} (n : ℕ) → drop {A = A} n [] ≡ []
drop-nil zero = refl
drop-nil (suc n) = refl

pub past-end : {A : Type 0} (n : ℕ) (xs : List A) → length xs ≤ n → drop n xs ≡ []
past-end n [] h = drop-nil n
past-end zero (x ∷ xs) h = absurd (omega arith)
past-end (suc n) (x ∷ xs) h = past-end n xs (omega arith)

module _ {A : Type 0} (p : ℕ) (f : A → List ℕ) (xs : List A) (l : List ℕ) where
  pub each-start : Left p (each_bytes f xs) l p (each_bytes f (drop 0 xs)) l
  each-start = record { next = refl; is = refl }

  pub each-next : (d : A) (i q : ℕ) (m : List ℕ) (r : ℕ) (M : List ℕ) → i < length xs
      → Left p (each_bytes f xs) l q (each_bytes f (drop i xs)) m → Run q (f (get_or xs i d)) m r M
      → Left p (each_bytes f xs) l r (each_bytes f (drop (i + 1) xs)) M
  unfolding each_bytes
  each-next d i q m r M h a b =
      let a' : Left p (each_bytes f xs) l q (and_then (f (get_or xs i d)) (each_bytes f (drop (suc i) xs))) m = rw
      (drop-cons xs i d h) at a in
      rw (add-one i) (left_less p (each_bytes f xs) l q (f (get_or xs i d)) (each_bytes f (drop (suc i) xs)) m r M b a')

  pub each-end : (n q : ℕ) (m : List ℕ) → length xs ≤ n → Left p (each_bytes f xs) l q (each_bytes f (drop n xs)) m
      → Run p (each_bytes f xs) l q m
  unfolding each_bytes
  each-end n q m h a = left-none p (each_bytes f xs) l q (each_bytes f (drop n xs)) m (ap (each_bytes f) (past-end n xs h)) a

module _ {A : Type 0} (f : A → List ℕ) (xs : List A) where
  pub each-len : (d : A) (i : ℕ) → i < length xs
      → length (each_bytes f (drop i xs)) ≡ length (f (get_or xs i d)) + length (each_bytes f (drop (i + 1) xs))
  unfolding each_bytes and_then
  each-len d i h = rw (drop-cons xs i d h, add-one i) (length-append (f (get_or xs i d)) (each_bytes f (drop (suc i) xs)))

  pub each-len-end : (n : ℕ) → length xs ≤ n → length (each_bytes f (drop n xs)) ≡ 0
  unfolding each_bytes
  each-len-end n h = rw (past-end n xs h)

-- ---- runs, as the code finds their facts
pub run_skip : (p : ℕ) (xs ys l : List ℕ) (i q : ℕ) (m : List ℕ) → (i ≡ 0 → ⊥) → Run p ys l q m
    → Run p (and_then (if_eq i 0 xs []) ys) l q m
run_skip p xs ys l i q m n a = run-then p _ ys l p l q m (run-eq-no p xs [] l p l i 0 n (run_none p [] l refl)) a
