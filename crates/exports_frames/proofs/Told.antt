-- An answer under a profile that is asked for by number: the call's own where the number is a profile's, else 9.
-- Assumes nothing.
use mathlib.Core.Path.{◌≡◌, ◌∙◌, ap, refl}
use Prim.Native.Nat.{ℕ}
use Rattle.std.specs.Prelude.{Result, Ok, Err, MatchResult, IsOkAnd}
use Rattle.base.specs.Answer.{Answer, refused, gives}
use Rattle.base.specs.Refusals.{number_of, answer}
use Rattle.base.specs.declared.refusal.Refusal.{Refusal}
use Rattle.base.specs.If.{if_lt}
use Rattle.base.specs.Limits.{profiles}
use Rattle.base.proofs.Ifs.{lt_yes, lt_no}
use Rattle.reliability.specs.declared.Profile.{Profile}
use Rattle.reliability.specs.Profiles.{profile_of, profile_named}
use Rattle.reliability.proofs.Laws.{named-told, refused-told}
use Rattle.exports_frames.specs.Frames.{under_profile}

-- what goes by the number's profile, where there is one; y stands for the other numbers
module _ (n : ℕ) {A : Type 0} (F : Profile → A) (y : A) where
  pub by-known : (p : Profile) → gives p ≡ profile_named n → F p ≡ if_lt n profiles (F (profile_of n)) y
  by-known p e = let h = named-told n p e in lt_yes _ _ _ _ _ h.0 (ap F h.1)

  pub by-unknown : (m : ℕ) → refused m ≡ profile_named n → y ≡ if_lt n profiles (F (profile_of n)) y
  by-unknown m e = lt_no _ _ _ _ _ (refused-told n m e).0 refl

module _ (n : ℕ) {A : Type 0} (F : Profile → Answer A) where
  pub known : (p : Profile) → gives p ≡ profile_named n → F p ≡ under_profile n (F (profile_of n))
  unfolding under_profile
  known p e = by-known n F (refused 9) p e

  pub unknown : (m : ℕ) → refused m ≡ profile_named n → refused m ≡ under_profile n (F (profile_of n))
  unfolding under_profile
  unknown m e = ap refused (refused-told n m e).1 ∙ by-unknown n F (refused 9) m e

  -- the answer of a call that is made under the profile that the number names
  pub asked : (r : Result Profile Refusal) (a : Result A Refusal) (Q : Profile → Type 0) → answer r ≡ profile_named n
      → MatchResult r Q (λ e. a ≡ Err e) → ((p : Profile) → Q p → answer a ≡ F p) → answer a ≡ under_profile n (F (profile_of n))
  asked (Ok p) a Q e q h = h p q ∙ known p e
  asked (Err m) a Q e q h = rw q (unknown (number_of m) e)

  -- the same of a call that refuses nothing
  pub asked-all : (r : Result Profile Refusal) (a : Result A Refusal) (Q : Profile → A → Type 0) → answer r ≡ profile_named n
      → MatchResult r (λ p. IsOkAnd a (Q p)) (λ e. a ≡ Err e) → ((p : Profile) (x : A) → Q p x → gives x ≡ F p)
      → answer a ≡ under_profile n (F (profile_of n))
  asked-all (Ok p) (Ok x) Q e q h = h p x q ∙ known p e
  asked-all (Ok p) (Err m) Q e q h = absurd q
  asked-all (Err m) a Q e q h = rw q (unknown (number_of m) e)
