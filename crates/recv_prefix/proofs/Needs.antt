-- The numbers of records that a receive and a take work on.
-- Assumes nothing.
use mathlib.Core.Path.{◌≡◌, refl, sym, ◌∙◌}
use Prim.Native.Nat.{ℕ, ◌+◌, ◌<◌, ◌≤◌, min}
use native.Mathlib.Omega.{arith}
use mathlib.Core.Bool.{true, false}
use mathlib.Core.List.{List}
use lib.Dec.{ltb, leb}
use lib.ListN.{length}
use borrow.Author.Tests.{ltb-true, ltb-false, leb-true}
use Rattle.base.specs.If.{if_true, if_lt}
use Rattle.base.specs.Limits.{max_cells, min_datagram}
use Rattle.base.proofs.Choices.{cases, and_left, and_right}
use Rattle.base.proofs.Ifs.{lt_yes, lt_no}
use Rattle.reliability.specs.declared.Profile.{Profile}
use Rattle.frame.specs.declared.FramesRead.{FramesRead}
use Rattle.frame.specs.Frames.{frames_of, read_frames_of}
use Rattle.cells.specs.Sound.{lengths}
use Rattle.recv_prefix.specs.Needs.{receive_needs, take_needs}

-- where the lengths fit there is at least one cell, and no more than a receiver may have
some_cells : (cells bytes : ℕ) → lengths cells bytes ≡ true → 1 ≤ cells
unfolding lengths
some_cells cells bytes t = leb-true 1 cells (and_left _ _ t)

most-cells : (cells bytes : ℕ) → lengths cells bytes ≡ true → cells ≤ max_cells
unfolding lengths
most-cells cells bytes t = leb-true cells max_cells (and_left _ _ (and_right (leb 1 cells) _ t))

-- `needed`, of the count of the frames read
pub room-read : (p : Profile) (used cells k : ℕ) (d : List ℕ) (r : FramesRead) → r ≡ read_frames_of p d min_datagram
    → k ≡ min cells (used + r.count + 1) → k ≡ min cells (used + length (frames_of p d min_datagram) + 1)
unfolding read_frames_of
room-read p used cells k d r e h = h ∙ rw e

-- ---- receive

module _ (p : Profile) (used cells bytes : ℕ) (d : List ℕ) (k : ℕ) (is : k ≡ receive_needs p used cells bytes d) where
  abbrev frames : ℕ
  frames = length (frames_of p d min_datagram)

  receive_fit : lengths cells bytes ≡ true → k ≡ min cells (used + frames + 1)
  unfolding receive_needs if_true
  receive_fit t = is ∙ rw t

  pub receive-none : lengths cells bytes ≡ false → k ≡ 0
  unfolding receive_needs if_true
  receive-none t = is ∙ rw t

  -- one record at least, those up to the last used one, and room for each frame where there are more
  pub receive-some : lengths cells bytes ≡ true → used ≤ cells → (1 ≤ k) × (used ≤ k) × (k ≤ cells) × (k < cells → used + frames < k)
  receive-some t l =
      let some : 1 ≤ cells = some_cells cells bytes t in
      let e : k ≡ min cells (used + frames + 1) = receive_fit t in
      (omega arith, omega arith, omega arith, λ h. omega arith)

  pub receive-few : used ≤ cells → (k ≤ cells) × (k ≤ max_cells)
  receive-few l = cases (lengths cells bytes)
      (λ t. let most : cells ≤ max_cells = most-cells cells bytes t in let h : k ≤ cells = (receive-some t l).2 in (h, omega arith))
      (λ t. let e : k ≡ 0 = receive-none t in (omega arith, omega arith))

-- ---- take

module _ (used cells bytes k : ℕ) (is : k ≡ take_needs used cells bytes) where
  take-fit : lengths cells bytes ≡ true → k ≡ if_lt used 1 1 used
  unfolding take_needs if_true
  take-fit t = is ∙ rw t

  pub take_none : lengths cells bytes ≡ false → k ≡ 0
  unfolding take_needs if_true
  take_none t = is ∙ rw t

  pub take-some : lengths cells bytes ≡ true → used ≤ cells → (1 ≤ k) × (used ≤ k) × (k ≤ cells)
  take-some t l =
      let some : 1 ≤ cells = some_cells cells bytes t in
      cases (ltb used 1)
      (λ s. let h : used < 1 = ltb-true used 1 s in let e : k ≡ 1 = take-fit t ∙ sym (lt_yes used 1 1 1 used h refl) in
      (omega arith, omega arith, omega arith))
      (λ s. let h : 1 ≤ used = ltb-false used 1 s in let e : k ≡ used = take-fit t ∙ sym (lt_no used 1 used 1 used h refl) in
      (omega arith, omega arith, omega arith))

  pub take-few : used ≤ cells → (k ≤ cells) × (k ≤ max_cells)
  take-few l = cases (lengths cells bytes)
      (λ t. let most : cells ≤ max_cells = most-cells cells bytes t in let h : k ≤ cells = (take-some t l).2 in (h, omega arith))
      (λ t. let e : k ≡ 0 = take_none t in (omega arith, omega arith))
