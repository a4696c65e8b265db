-- What a sequence number that is remembered changes.
--     next-remembered, newest-remembered, profile-remembered, remembered-length
-- Assumes nothing.
use Prim.Native.Nat.{ℕ, ◌+◌, ◌≤◌, ◌<◌}
use mathlib.Core.Path.{◌≡◌, refl, sym, ◌∙◌, ap}
use native.Mathlib.Omega.{arith}
use lib.Dec.{eqb}
use lib.ListN.{length, get_or}
use Rattle.base.specs.Limits.{numbers24, max_ord_chans, memories}
use Rattle.base.proofs.Choices.{cases}
use Rattle.base.proofs.Ifs.{lt_yes}
use Rattle.reliability.specs.declared.Profile.{Profile}
use Rattle.reliability.specs.declared.Profile.TheVariants.{Console, Cpp}
use Rattle.bare.specs.Bare.{memory_of, noted}
use Rattle.receiver.specs.declared.Nexts.{Nexts}
use Rattle.receiver.specs.Queue.{new_channel}
use Rattle.receiver.specs.Parts.{next_at, newest_at, with_newest}
use Rattle.receiver.proofs.NextsSet.{newest-channel, newest-own, newest-past}
use Rattle.receiver.proofs.NextsSet.{noted-length, next-noted, profile-noted, noted-is}
use Rattle.recv_memory.specs.Remembered.{remembered}

-- the memory of a channel that there is
pub memory-within : (p : Profile) (kind channel : ℕ) → channel < max_ord_chans → memory_of p kind channel < memories
unfolding memory_of
memory-within Console kind channel lt = cases (eqb kind 1) (λ t. rw t (omega arith)) (λ t. rw t (omega arith))
memory-within Cpp kind channel lt = omega arith

-- ---- where a memory stands, as the code finds it
module _ (n : Nexts) (m : ℕ) (long : length n.channels ≡ 32) where
  pub newest_channel : (x : ℕ) → m < length n.channels → x ≡ (get_or n.channels m new_channel).newest → x ≡ newest_at n m
  newest_channel x h e = e ∙ sym (newest-channel n long m (omega arith))

  pub newest_own : m ≡ 32 → n.newest ≡ newest_at n m
  newest_own e = rw e (sym (newest-own n long))

  pub newest_none : length n.channels ≤ m → (m ≡ 32 → ⊥) → 0 ≡ newest_at n m
  newest_none h ne = sym (newest-past n long m (omega arith))

-- ---- what is remembered: memory m is `noted`, and neither a next nor the profile is touched
module _ (n : Nexts) (m s : ℕ) (small : s < numbers24) where
  is_set : remembered m s n ≡ with_newest m (s + 1) n
  unfolding remembered
  is_set = sym (lt_yes _ _ _ _ _ small refl)

  pub remembered-length : length (remembered m s n).channels ≡ length n.channels
  remembered-length = ap (λ (x : Nexts). length x.channels) is_set ∙ noted-length n m (s + 1)

  pub next-remembered : next_at (remembered m s n) ≡ next_at n
  next-remembered = ap next_at is_set ∙ next-noted n m (s + 1)

  pub profile-remembered : (remembered m s n).profile ≡ n.profile
  profile-remembered = ap (λ (x : Nexts). x.profile) is_set ∙ profile-noted n m (s + 1)

  pub newest-remembered : length n.channels ≡ max_ord_chans → m < memories → newest_at (remembered m s n) ≡ noted m s (newest_at n)
  newest-remembered long within = ap newest_at is_set ∙ noted-is n long m s within
