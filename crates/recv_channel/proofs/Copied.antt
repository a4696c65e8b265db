-- A receiver's nexts and memories as they are copied into a list, one channel after the other.
--     Filled, fill_more, filled_all      the first i channels' are there, then all
-- Assumes nothing.
use mathlib.Core.Path.{◌≡◌, sym, ◌∙◌, subst}
use Prim.Native.Nat.{ℕ, ◌+◌, ◌*◌, ◌<◌, ◌≤◌}
use native.Mathlib.Omega.{arith}
use native.Mathlib.Nat.{eq-or-lt_of_le}
use mathlib.Core.Logic.{◌⊎◌, inl, inr}
use mathlib.Core.List.{List}
use lib.ListN.{length, set, get_or, length-set}
use lib.Seq.{get_or-set_same, get_or-set_other, ext_get_or}
use Rattle.receiver.specs.declared.Channel.{Channel}
use Rattle.receiver.specs.Queue.{new_channel}
use Rattle.recv_parts.specs.Parts.{nexts_in, memory_place}
use Rattle.recv_parts.proofs.ByParts.{SomePlace, place-channel, place-past, place-some, nexts-in-next, nexts-in-newest, nexts-in-own}
use Rattle.recv_parts.proofs.ByParts.{nexts-in-profile, nexts-in-long}

-- the first i nexts and memories are the first i channels'
pub record Filled (cs : List Channel) (i : ℕ) (ns : List ℕ) : Type 0 where
  pub few : i ≤ 32
  pub long : length ns ≡ 66
  pub nexts : (j : ℕ) → j < i → get_or ns (2 * j) 0 ≡ (get_or cs j new_channel).next
  pub memories : (j : ℕ) → j < i → get_or ns (2 * j + 1) 0 ≡ (get_or cs j new_channel).newest

pub fill_more : (cs : List Channel) (i : ℕ) (ns : List ℕ) (n m : ℕ) → Filled cs i ns → i < 32 → n ≡ (get_or cs i new_channel).next
    → m ≡ (get_or cs i new_channel).newest → Filled cs (i + 1) (set (set ns (2 * i) n) (2 * i + 1) m)
fill_more cs i ns n m f l e g = record {
  few = omega arith;
  long = length-set (set ns (2 * i) n) (2 * i + 1) m ∙ length-set ns (2 * i) n ∙ f.long;
  nexts = λ j k. get_or-set_other (set ns (2 * i) n) (2 * i + 1) (2 * j) m 0 (λ s. omega arith) ∙ next j (eq-or-lt_of_le (omega arith));
  memories = λ j k. memory j (eq-or-lt_of_le (omega arith));
}
  where
    next : (j : ℕ) → (j ≡ i) ⊎ (j < i) → get_or (set ns (2 * i) n) (2 * j) 0 ≡ (get_or cs j new_channel).next
    next j (inl s) = rw (s, get_or-set_same ns (2 * i) n 0 (omega (arith, f.long))) e
    next j (inr k) = get_or-set_other ns (2 * i) (2 * j) n 0 (λ s. omega arith) ∙ f.nexts j k

    memory : (j : ℕ) → (j ≡ i) ⊎ (j < i) → get_or (set (set ns (2 * i) n) (2 * i + 1) m) (2 * j + 1) 0 ≡ (get_or cs j new_channel).newest
    memory j (inl s) = rw (s, get_or-set_same (set ns (2 * i) n) (2 * i + 1) m 0 (omega (arith, f.long, length-set ns (2 * i) n))) g
    memory j (inr k) = get_or-set_other (set ns (2 * i) n) (2 * i + 1) (2 * j + 1) m 0 (λ s. omega arith)
        ∙ get_or-set_other ns (2 * i) (2 * j + 1) n 0 (λ s. omega arith) ∙ f.memories j k

pub filled_all : (cs : List Channel) (own p : ℕ) (ns : List ℕ) (i : ℕ) → length cs ≡ 32 → 32 ≤ i → Filled cs i ns
    → set (set ns 64 own) 65 p ≡ nexts_in cs own p
filled_all cs own p ns i c le f = ext_get_or 0 all (nexts_in cs own p) (long ∙ sym (nexts-in-long cs own p c))
    (λ j l. at j (place-some j (omega (arith, long))))
  where
    all : List ℕ
    all = set (set ns 64 own) 65 p

    long : length all ≡ 66
    long = length-set (set ns 64 own) 65 p ∙ length-set ns 64 own ∙ f.long

    -- places other than the last two
    kept : (j : ℕ) → j < 64 → get_or all j 0 ≡ get_or ns j 0
    kept j l = get_or-set_other (set ns 64 own) 65 j p 0 (λ s. omega arith) ∙ get_or-set_other ns 64 j own 0 (λ s. omega arith)

    own_at : get_or all 64 0 ≡ own
    own_at = get_or-set_other (set ns 64 own) 65 64 p 0 (λ s. omega arith) ∙ get_or-set_same ns 64 own 0 (omega (arith, f.long))

    profile-at : get_or all 65 0 ≡ p
    profile-at = get_or-set_same (set ns 64 own) 65 p 0 (omega (arith, f.long, length-set ns 64 own))

    memory : (m : ℕ) → (m ≡ 32) ⊎ (m < 32) → get_or all (memory_place m) 0 ≡ get_or (nexts_in cs own p) (memory_place m) 0
    memory m (inl e) = rw (e, place-past 32 (omega arith)) (own_at
        ∙ sym (subst (λ (k : ℕ). get_or (nexts_in cs own p) (2 * k) 0 ≡ own) c (nexts-in-own cs own p)))
    memory m (inr l) = rw (place-channel m l) (kept (2 * m + 1) (omega arith) ∙ f.memories m (omega arith)
        ∙ sym (nexts-in-newest cs own p m (omega (arith, c))))

    at : (j : ℕ) → SomePlace j → get_or all j 0 ≡ get_or (nexts_in cs own p) j 0
    at j (inl q) = let h = q.1 in rw q.2 (kept (2 * q.0) (omega arith) ∙ f.nexts q.0 (omega arith)
        ∙ sym (nexts-in-next cs own p q.0 (omega (arith, c))))
    at j (inr (inl q)) = let h = q.1 in rw q.2 (memory q.0 (eq-or-lt_of_le (omega arith)))
    at j (inr (inr e)) = rw e (profile-at
        ∙ sym (subst (λ (k : ℕ). get_or (nexts_in cs own p) (2 * k + 1) 0 ≡ p) c (nexts-in-profile cs own p)))
