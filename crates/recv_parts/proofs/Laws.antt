-- The numbers of a list, and the channels made of them one by one.
--     number_there, number_past      as the code reads them
--     own_is, profile_is             the receiver's own memory, and the profile
--     one_more, all_made             one more channel stands at its numbers; all do
-- Assumes nothing.
use Prim.Native.Nat.{ℕ, ◌+◌, ◌*◌, ◌≤◌, ◌<◌}
use mathlib.Core.Path.{◌≡◌, refl, sym, ◌∙◌, ap}
use mathlib.Core.List.{List, [], ◌∷◌, ◌++◌}
use native.Mathlib.Omega.{arith}
use lib.ListN.{length, get_or, set, take, length-take, get_or-eq_default}
use lib.Seq.{get_or-take, take_all}
use Rattle.std.proofs.lemmas.List.{take_more, take_more_set}
use Rattle.base.specs.Limits.{max_ord_chans}
use Rattle.receiver.specs.declared.Channel.{Channel}
use Rattle.receiver.specs.Queue.{new_channel}
use Rattle.receiver.specs.Parts.{channel_with}
use Rattle.recv_parts.specs.Parts.{many_nexts, profile_place, channels_of, next_at, newest_at, profile_at}
use Rattle.recv_parts.proofs.ByParts.{next-at, newest-at, place-channel, place-past, channels-of-at, channels-of-length}

module _ (ns : List ℕ) (place : ℕ) where
  pub number_there : place < many_nexts → (r : ℕ) → r ≡ get_or ns place 0 → r ≡ get_or (take many_nexts ns) place 0
  number_there h r e = e ∙ sym (get_or-take many_nexts ns place 0 h)

  pub number_past : many_nexts ≤ place → 0 ≡ get_or (take many_nexts ns) place 0
  number_past h = sym (get_or-eq_default (take many_nexts ns) 0 (past (simp length-take (omega arith))))
    where
      past : length (take many_nexts ns) ≤ many_nexts → length (take many_nexts ns) ≤ place
      past l = omega arith

pub own_is : (ns : List ℕ) → get_or (take many_nexts ns) 64 0 ≡ newest_at ns max_ord_chans
unfolding newest_at
own_is ns = ap (λ (i : ℕ). get_or (take many_nexts ns) i 0) (sym (place-past max_ord_chans (omega arith)))

pub profile_is : (ns : List ℕ) → get_or (take many_nexts ns) profile_place 0 ≡ profile_at ns
unfolding profile_at
profile_is ns = refl

pub ruleset places = (own_is, profile_is)

-- ---- the first c channels stand at their numbers
module _ (cs : List Channel) (ns : List ℕ) (c : ℕ) (e : take c cs ≡ take c (channels_of ns)) where
  abbrev number : ℕ → ℕ
  number i = get_or (take many_nexts ns) i 0

  next : c < max_ord_chans → number (2 * c) ≡ next_at ns c
  next h = get_or-take many_nexts ns (2 * c) 0 (omega arith) ∙ sym (next-at ns c h)

  newest : c < max_ord_chans → number (2 * c + 1) ≡ newest_at ns c
  newest h = get_or-take many_nexts ns (2 * c + 1) 0 (omega arith) ∙ sym (newest-at ns c (omega arith)
      ∙ ap (λ (i : ℕ). get_or ns i 0) (place-channel c h))

  pub one_more : (x : Channel) → c < max_ord_chans → c < length cs → x ≡ channel_with (number (2 * c)) (number (2 * c + 1))
      → take (c + 1) (set cs c x) ≡ take (c + 1) (channels_of ns)
  one_more x h l f = take_more_set cs c x l
      ∙ rw (e, is) (sym (take_more (channels_of ns) c new_channel (omega (arith, channels-of-length ns))))
    where
      is : x ≡ get_or (channels_of ns) c new_channel
      is = f ∙ (λ i. channel_with (next h i) (newest h i)) ∙ sym (channels-of-at ns c h)

  pub all_made : length cs ≡ max_ord_chans → max_ord_chans ≤ c → cs ≡ channels_of ns
  all_made l h = sym (take_all c cs (omega arith)) ∙ e ∙ take_all c (channels_of ns) (omega (arith, channels-of-length ns))
