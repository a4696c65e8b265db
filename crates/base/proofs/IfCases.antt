-- A choice taken apart: what holds of both arms, each under its test, holds of the choice.
-- Assumes nothing.
use mathlib.Core.Bool.{Bool, true, false}
use mathlib.Core.Logic.{◌⊎◌, inl, inr}
use mathlib.Core.Path.{◌≡◌, refl}
use Prim.Native.Nat.{ℕ, ◌<◌, ◌≤◌}
use lib.Dec.{ltb, leb}
use borrow.Author.Tests.{ltb-true, ltb-false, leb-true, leb-false}
use Rattle.base.specs.If.{if_true, if_lt, if_le}

module _ {A : Type 0} (P : A → Type 0) (x y : A) where
  pub true-both : (b : Bool) → (b ≡ true → P x) → (b ≡ false → P y) → P (if_true b x y)
  unfolding if_true
  true-both true f g = f refl
  true-both false f g = g refl

  pub lt_both : (a b : ℕ) → (a < b → P x) → (b ≤ a → P y) → P (if_lt a b x y)
  unfolding if_lt
  lt_both a b f g = true-both (ltb a b) (λ t. f (ltb-true a b t)) (λ t. g (ltb-false a b t))

  pub le-both : (a b : ℕ) → (a ≤ b → P x) → (b < a → P y) → P (if_le a b x y)
  unfolding if_le
  le-both a b f g = true-both (leb a b) (λ t. f (leb-true a b t)) (λ t. g (leb-false a b t))

-- the same for a proof that starts from the choice's value
module _ {A : Type 0} (a b : ℕ) (x y : A) where
  pub lt-cases : ((a < b) × (if_lt a b x y ≡ x)) ⊎ ((b ≤ a) × (if_lt a b x y ≡ y))
  lt-cases = lt_both (λ (r : A). ((a < b) × (r ≡ x)) ⊎ ((b ≤ a) × (r ≡ y))) x y a b (λ h. inl (h, refl)) (λ h. inr (h, refl))

  pub le-cases : ((a ≤ b) × (if_le a b x y ≡ x)) ⊎ ((b < a) × (if_le a b x y ≡ y))
  le-cases = le-both (λ (r : A). ((a ≤ b) × (r ≡ x)) ⊎ ((b < a) × (r ≡ y))) x y a b (λ h. inl (h, refl)) (λ h. inr (h, refl))
