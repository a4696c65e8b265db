-- Entries that rise, one by one and as a list.
-- Assumes nothing.
use Prim.Native.Nat.{ℕ, suc, ◌≤◌, ◌<◌}
use mathlib.Core.Path.{◌≡◌, refl, sym, subst}
use mathlib.Core.Logic.{◌⊎◌, inl, inr}
use mathlib.Core.List.Memᴰ
use mathlib.Core.List.{List, [], ◌∷◌, Memᴰ}
use native.Mathlib.Omega.{arith}
use lib.ListN.{length, get_or}
use Rattle.base.proofs.Sorts.{Rising}
use Rattle.recv_restore.specs.Fits.{Each}

-- entries that fit, each of a number that is at least k, and the next ones above it
module _ {A : Type 0} (Fit : A → Type 0) (number : A → ℕ) where
  abbrev Can : ℕ → A → Type 0
  Can k e = Fit e × (k ≤ number e)

  abbrev next : ℕ → A → ℕ
  next k e = suc (number e)

  pub each-fit : (k : ℕ) (es : List A) → Each Can next k es → (e : A) → Memᴰ e es → Fit e × (k ≤ number e)
  unfolding Each
  each-fit k [] h e m = absurd (Memᴰ.not-nil m)
  each-fit k (x ∷ es) h e m = go (Memᴰ.cases_cons m) (λ n. each-fit (suc (number x)) es h.1 e n)
    where
      go : (e ≡ x) ⊎ Memᴰ e es → (Memᴰ e es → Fit e × (suc (number x) ≤ number e)) → Fit e × (k ≤ number e)
      go (inl q) r = subst (λ (y : A). Fit y × (k ≤ number y)) (sym q) h.0
      go (inr n) r = let a = r n in let b = h.0.1 in let c = a.1 in (a.0, omega arith)

  pub each-rising : (k : ℕ) (es : List A) → Each Can next k es → Rising number es
  unfolding Each
  each-rising k [] h = tt
  each-rising k (x ∷ es) h = (λ y m. let a = (each-fit (suc (number x)) es h.1 y m).1 in omega arith, each-rising (suc (number x)) es h.1)

  pub rising-each : (k : ℕ) (es : List A) → Rising number es → ((e : A) → Memᴰ e es → Fit e × (k ≤ number e)) → Each Can next k es
  unfolding Each
  rising-each k [] r f = tt
  rising-each k (x ∷ es) r f = (
    f x (Memᴰ.head refl),
    rising-each (suc (number x)) es r.1 (λ y m. let lt = r.0 y m in ((f y (Memᴰ.tail m)).0, omega arith)),
  )

-- entries of which each fits
module _ {A : Type 0} (Fit : A → Type 0) where
  pub all-fit : (k : ℕ) (es : List A) → Each (λ k e. Fit e) (λ k e. suc k) k es → (e : A) → Memᴰ e es → Fit e
  unfolding Each
  all-fit k [] h e m = absurd (Memᴰ.not-nil m)
  all-fit k (x ∷ es) h e m = go (Memᴰ.cases_cons m) (λ n. all-fit (suc k) es h.1 e n)
    where
      go : (e ≡ x) ⊎ Memᴰ e es → (Memᴰ e es → Fit e) → Fit e
      go (inl q) r = subst Fit (sym q) h.0
      go (inr n) r = r n

  pub fit-all : (d : A) (k : ℕ) (es : List A) → ((j : ℕ) → j < length es → Fit (get_or es j d)) → Each (λ k e. Fit e) (λ k e. suc k) k es
  unfolding Each
  fit-all d k [] f = tt
  fit-all d k (x ∷ es) f = (f 0 (omega arith), fit-all d (suc k) es (λ j lt. f (suc j) (omega arith)))
