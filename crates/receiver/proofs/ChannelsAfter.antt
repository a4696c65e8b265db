-- The channels after a datagram: as many as before, each at its next and its memory.
--     channels-length, channels-at                      what they are
--     memory-in, memory-own, memory-past                the memories that a receiver with such channels has
--     next-after, newest-after                          so it says what the receiver with cells has
-- Assumes nothing.
use Prim.Native.Nat.{ℕ, zero, suc, ◌+◌, ◌≤◌, ◌<◌}
use mathlib.Core.Path.{◌≡◌, refl, sym, ◌∙◌, ap}
use mathlib.Core.List.{List, [], ◌∷◌, map}
use native.Mathlib.Omega.{arith}
use native.Mathlib.Nat.{add-zero, zero-add}
use lib.ListN.{length, get_or, length-append, length-map, get_or-append, get_or-eq_default, get_or-map}
use lib.Seq.{get_or_at}
use lib.Dec.{ltb, eqb}
use borrow.Author.Tests.{ltb-true, ltb-false, eqb-true, eqb-false}
use Rattle.base.proofs.Choices.{cases}
use Rattle.receiver.specs.declared.Channel.{Channel}
use Rattle.receiver.specs.Queue.{new_channel, next_in, memories_in}
use Rattle.receiver.specs.Parts.{channel_with}
use Rattle.receiver.specs.Receive.{channels_after}

abbrev newest_number : Channel → ℕ
newest_number c = c.newest

module _ (next newest : ℕ → ℕ) where
  pub channels-length : (k : ℕ) (l : List Channel) → length (channels_after next newest k l) ≡ length l
  unfolding channels_after
  channels-length k [] = refl
  channels-length k (x ∷ l) = ap suc (channels-length (1 + k) l)

  pub channels-at : (k : ℕ) (l : List Channel) (c : ℕ) → c < length l → get_or (channels_after next newest k l) c new_channel
      ≡ channel_with (next (k + c)) (newest (k + c))
  unfolding channels_after
  channels-at k [] c lt = absurd (omega arith)
  channels-at k (x ∷ l) zero lt = ap (λ (i : ℕ). channel_with (next i) (newest i)) (sym (add-zero k))
  channels-at k (x ∷ l) (suc c) lt =
      let e : 1 + k + c ≡ k + suc c = omega arith in channels-at (1 + k) l c (omega arith)
      ∙ ap (λ (i : ℕ). channel_with (next i) (newest i)) e

-- The memories of channels: the channels' own, the last one, none past it.
module _ (cs : List Channel) (own : ℕ) where
  pub memory-in : (m : ℕ) → m < length cs → get_or (memories_in cs own) m 0 ≡ (get_or cs m new_channel).newest
  unfolding memories_in
  memory-in m h = get_or-append (map newest_number cs) (own ∷ []) 0 m (let e = length-map cs newest_number in omega arith)
      ∙ get_or-map newest_number cs m new_channel

  pub memory-own : (m : ℕ) → length cs ≡ m → get_or (memories_in cs own) m 0 ≡ own
  unfolding memories_in
  memory-own m e = get_or_at (map newest_number cs) own [] 0 m (length-map cs newest_number ∙ e)

  pub memories-long : length (memories_in cs own) ≡ length cs + 1
  unfolding memories_in
  memories-long = length-append (map newest_number cs) (own ∷ []) ∙ ap (λ (n : ℕ). n + 1) (length-map cs newest_number)

  pub memory-past : (m : ℕ) → length cs < m → get_or (memories_in cs own) m 0 ≡ 0
  memory-past m h = get_or-eq_default (memories_in cs own) 0 (let e = memories-long in omega arith)

module _ (next newest : ℕ → ℕ) (l : List Channel) where
  -- Where there is no next number past the last channel, the array says all of them.
  pub next-after : ((c : ℕ) → length l ≤ c → next c ≡ 0) → next_in (channels_after next newest 0 l) ≡ next
  unfolding next_in
  next-after past = λ i c. at c i
    where
      at : (c : ℕ) → (get_or (channels_after next newest 0 l) c new_channel).next ≡ next c
      at c = cases (ltb c (length l))
          (λ t. ap (λ (x : Channel). x.next) (channels-at next newest 0 l c (ltb-true c (length l) t)) ∙ ap next (zero-add c))
          (λ t. let ge : length l ≤ c = ltb-false c (length l) t in
          ap (λ (x : Channel). x.next) (get_or-eq_default (channels_after next newest 0 l) new_channel
          (let n = channels-length next newest 0 l in omega arith)) ∙ sym (past c ge))

  -- Likewise the memories, of which the last is the receiver's own.
  pub newest-after : (k : ℕ) → length l ≡ k → ((m : ℕ) → k < m → newest m ≡ 0)
      → (λ (m : ℕ). get_or (memories_in (channels_after next newest 0 l) (newest k)) m 0) ≡ newest
  newest-after k long past = λ i m. at m i
    where
      after : List Channel
      after = channels_after next newest 0 l

      many : length after ≡ k
      many = channels-length next newest 0 l ∙ long

      at : (m : ℕ) → get_or (memories_in (channels_after next newest 0 l) (newest k)) m 0 ≡ newest m
      at m = cases (ltb m k)
          (λ t. let lt : m < k = ltb-true m k t in
          memory-in after (newest k) m (omega (arith, many))
          ∙ (ap (λ (x : Channel). x.newest) (channels-at next newest 0 l m (omega (arith, long))) ∙ ap newest (zero-add m)))
          (λ t. let ge : k ≤ m = ltb-false m k t in
          cases (eqb k m)
          (λ u. let e = eqb-true k m u in memory-own after (newest k) m (many ∙ e) ∙ ap newest e)
          (λ u. let ne : k ≡ m → ⊥ = eqb-false k m u in
          memory-past after (newest k) m (omega (arith, many)) ∙ sym (past m (omega arith))))
