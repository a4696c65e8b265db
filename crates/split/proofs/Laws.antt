-- What a split is: the laws of `split_of` and `part_of`, over every length and mtu.
-- Assumes nothing.
use mathlib.Core.Logic.{◌↔◌}
use mathlib.Core.Path.{◌≡◌, ◌∙◌, sym, refl}
use mathlib.Core.List.{List}
use Prim.Native.Nat.{ℕ, zero, suc, ◌-◌, ◌*◌, ◌<◌, ◌≤◌, min}
use native.Mathlib.Nat.{suc-mul, zero-mul}
use native.Mathlib.Omega.{arith}
use lib.ListN.{length, take, length-take, length-drop}
use lib.Seq.{take_all, take-add}
use Rattle.base.specs.Answer.{Answer, refused, gives}
use Rattle.base.specs.If.{if_le}
use Rattle.base.specs.Limits.{min_mtu, max_mtu, max_frags}
use Rattle.base.proofs.Ifs.{lt_no, le_yes, le-no}
use Rattle.split.specs.Split.{chunk, count, part_of, part_length, first_parts, Splits, split_of}
use Rattle.base.proofs.IfCases.{lt_both, le-both}
use Rattle.split.proofs.Chunks.{start-within, chunks-hold, two-or-more}

-- ---- one length and mtu
-- what holds of each refusal, and of the count where none is due, holds of the answer
pub split-cases : (n mtu k : ℕ) (P : Answer ℕ → Type 0) → P (refused 16) → P (refused 17) → P (refused 18) → P (refused 19)
    → (Splits n mtu → k < count n mtu → P (gives (count n mtu))) → P (split_of n mtu k)
unfolding split_of
split-cases n mtu k P p16 p17 p18 p19 p =
    lt_both P _ _ mtu min_mtu (λ h. p16)
    (λ least. lt_both P _ _ max_mtu mtu (λ h. p16)
    (λ most. le-both P _ _ n (chunk mtu) (λ h. p17)
    (λ over. lt_both P _ _ max_frags (count n mtu) (λ h. p18)
    (λ few. le-both P _ _ (count n mtu) k (λ h. p19)
    (λ h. p (record { least = least; most = most; over = over; few = few }) h)))))

-- where the split is not refused
pub record Splitting (n mtu k pieces : ℕ) : Type 0 where
  pub splits : Splits n mtu
  pub there : k < count n mtu
  pub counted : pieces ≡ count n mtu

unfoldable Told : ℕ → ℕ → ℕ → Answer ℕ → Type 0
Told n mtu k (refused number) = Unit
Told n mtu k (gives pieces) = Splitting n mtu k pieces

pub splitting : (n mtu k pieces : ℕ) → gives pieces ≡ split_of n mtu k → Splitting n mtu k pieces
unfolding Told
splitting n mtu k pieces e = rw (← e) at (split-cases n mtu k (Told n mtu k) tt tt tt tt
    (λ s h. record { splits = s; there = h; counted = refl }))

module _ (n mtu : ℕ) (s : Splits n mtu) where
  positive : 0 < chunk mtu
  positive = omega arith

  -- a split has 2 to 1,024 pieces
  pub count-in-range : (2 ≤ count n mtu) × (count n mtu ≤ max_frags)
  count-in-range = (two-or-more n (chunk mtu) positive s.over, s.few)

  -- where none of 16, 17 and 18 is due, k decides
  by_index : (k : ℕ) (r : Answer ℕ) → r ≡ if_le (count n mtu) k (refused 19) (gives (count n mtu)) → split_of n mtu k ≡ r
  unfolding split_of
  by_index k r e =
      sym (lt_no _ _ _ _ _ s.least (lt_no _ _ _ _ _ s.most (le-no _ _ _ _ _ s.over (lt_no _ _ _ _ _ s.few e))))

  -- every k below the count has its piece
  pub piece-given : (k : ℕ) → k < count n mtu → split_of n mtu k ≡ gives (count n mtu)
  piece-given k h = by_index k _ (le-no _ _ _ _ _ h refl)

  -- and every other k is refused by 19
  pub piece-beyond : (k : ℕ) → count n mtu ≤ k → split_of n mtu k ≡ refused 19
  piece-beyond k h = by_index k _ (le_yes _ _ _ _ _ h refl)

  -- 19 is given exactly from the count on
  pub beyond-exactly : (k : ℕ) → (split_of n mtu k ≡ refused 19) ↔ (count n mtu ≤ k)
  beyond-exactly k = (only, piece-beyond k)
    where
      only : split_of n mtu k ≡ refused 19 → count n mtu ≤ k
      only e =
          let no : k < count n mtu → ⊥ = λ h. let g = piece-given k h in let z : ◌≡◌ {A = ℕ} 0 1 = cc in omega arith in
          omega arith

-- ---- the parts of a split
-- a part's length is the one that its definition says
pub part-long : (s : List ℕ) (mtu k : ℕ) → length (part_of s mtu k) ≡ part_length (length s) mtu k
unfolding part_of part_length
part-long s mtu k = simp (length-take, length-drop)

module _ (s : List ℕ) (mtu : ℕ) (ok : Splits (length s) mtu) where
  -- every piece starts within the data
  pub starts-within : (k : ℕ) → k < count (length s) mtu → k * chunk mtu < length s
  starts-within = start-within (length s) (chunk mtu) (positive (length s) mtu ok)

  -- all pieces but the last are one chunk long
  pub full-part : (k : ℕ) → suc k < count (length s) mtu → length (part_of s mtu k) ≡ chunk mtu
  unfolding part_length
  full-part k h =
      let t : suc k * chunk mtu < length s = starts-within (suc k) h in
      let l : length (part_of s mtu k) ≡ min (chunk mtu) (length s - k * chunk mtu) = part-long s mtu k in
      omega (arith, suc-mul k (chunk mtu))

  -- the last one is 1 to one chunk long
  pub last-part : (k : ℕ) → suc k ≡ count (length s) mtu → (1 ≤ length (part_of s mtu k)) × (length (part_of s mtu k) ≤ chunk mtu)
  unfolding part_length
  last-part k e =
      let t : k * chunk mtu < length s = starts-within k (omega arith) in
      let l : length (part_of s mtu k) ≡ min (chunk mtu) (length s - k * chunk mtu) = part-long s mtu k in
      omega arith

  first-parts : (m : ℕ) → m ≤ count (length s) mtu → first_parts s mtu m ≡ take (m * chunk mtu) s
  unfolding first_parts part_of
  first-parts zero h = rw zero-mul
  first-parts (suc m) h = rw (first-parts m (omega arith), suc-mul) (sym (take-add (m * chunk mtu) (chunk mtu) s))

  -- the parts of pieces 0 to the last, in order, joined, are the data
  pub parts_join : first_parts s mtu (count (length s) mtu) ≡ s
  parts_join = first-parts (count (length s) mtu) (omega arith) ∙ take_all _ s (chunks-hold (length s) (chunk mtu) (omega arith))
