-- Make new for the profile of a number: the number is a profile's, or none's.
-- Assumes nothing.
use mathlib.Core.Path.{◌≡◌, sym, ap}
use mathlib.Core.Logic.{◌⊎◌, inl, inr}
use mathlib.Core.List.{List}
use Prim.Native.Nat.{ℕ, ◌<◌, ◌≤◌}
use Rattle.std.specs.Prelude.{Ok, Err}
use Rattle.std.proofs.lemmas.Result.{err_from_is_err_and}
use Rattle.base.specs.declared.refusal.Refusal.{Refusal}
use Rattle.base.specs.Answer.{gives, refused}
use Rattle.base.specs.Refusals as Refusals
use Rattle.base.specs.Refusals.{answer}
use Rattle.base.specs.Limits.{profiles}
use Rattle.base.proofs.Ifs.{lt_yes, lt_no}
use Rattle.base.proofs.IfCases.{lt-cases}
use Rattle.reliability.specs.declared.Profile.{Profile}
use Rattle.reliability.specs.Profiles.{profile_of, profile_named}
use Rattle.cells.specs.Cell.{Cell}
use Rattle.receiver.specs.declared.RecvQueue.{RecvQueue}
use Rattle.recv_new.specs.New.{make_new_of}
use Rattle.exports_queue.specs.Receiver.{make_numbered_of}

module _ (n : ℕ) (q : RecvQueue) (rs : List Cell) (st : List ℕ) where
  abbrev Named : Type 0
  Named = ((n < profiles) × (profile_named n ≡ gives (profile_of n))) ⊎ ((profiles ≤ n) × (profile_named n ≡ refused 9))

  named : Named
  unfolding profile_named
  named = lt-cases n profiles (gives (profile_of n)) (refused 9)

  pub made : (p : Profile) → answer (Ok p) ≡ profile_named n → make_numbered_of n q rs st ≡ make_new_of p q rs st
  unfolding make_numbered_of
  made p is = by named
    where
      by : Named → make_numbered_of n q rs st ≡ make_new_of p q rs st
      by (inl (less, e)) =
          let same : p ≡ profile_of n = cc in
          sym (lt_yes n profiles _ _ _ less (ap (λ (k : Profile). make_new_of k q rs st) same))
      by (inr (none, e)) = cc

  pub not_made : (r : Refusal) → answer (Err r) ≡ profile_named n
      → make_numbered_of n q rs st ≡ record { answer = refused (Refusals.number_of r); queue = q; records = rs }
  unfolding make_numbered_of
  not_made r is = by named
    where
      by : Named → make_numbered_of n q rs st ≡ record { answer = refused (Refusals.number_of r); queue = q; records = rs }
      by (inl (less, e)) = cc
      by (inr (none, e)) =
          let nine : Refusals.number_of r ≡ 9 = cc in
          sym (lt_no n profiles _ _ _ none (λ i. record { answer = refused (nine i); queue = q; records = rs }))

pub ruleset ways = (made, not_made, err_from_is_err_and)
