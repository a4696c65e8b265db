-- What `accepted` says of a number, by where the number stands: below low, at low, within the places, above them.
-- Assumes nothing.
use mathlib.Core.Path.{◌≡◌, ◌∙◌, sym, refl}
use mathlib.Core.Bool.{Bool, true, false, true≢false}
use mathlib.Core.List.{List}
use Prim.Native.Nat.{ℕ, ◌+◌, ◌-◌, ◌<◌, ◌≤◌}
use native.Mathlib.Decide.{ℕ_discrete, dec_lt}
use native.Mathlib.Omega.{arith}
use borrow.Author.Tests.{lt-ltb, le-ltb}
use Rattle.base.specs.Limits.{window_places}
use Rattle.base.proofs.Ifs.{true-yes, true-no, le_yes, le-no, eq_yes, eq_no}
use Rattle.base.specs.Numbers.{distance}
use Rattle.window.specs.Places.{place_set}
use Rattle.window.specs.Window.{window_of, accepted}
use Rattle.window.specs.declared.ReliableWindow.{ReliableWindow}

module _ (w : ReliableWindow) (m : ℕ) where
  pub accepted-below : m < w.low → accepted w m ≡ true
  unfolding accepted
  accepted-below h = sym (true-yes _ _ _ _ (lt-ltb _ _ h) refl)

  pub accepted-low : m ≡ w.low → accepted w m ≡ false
  unfolding accepted
  accepted-low h =
      let a : w.low ≤ m = omega arith in
      sym (true-no _ _ _ _ (le-ltb _ _ a) (eq_yes _ _ _ _ _ h refl))

  pub accepted-place : w.low < m → m ≤ w.low + window_places → accepted w m ≡ place_set w.bits m
  unfolding accepted
  accepted-place h k =
      let a : w.low ≤ m = omega arith in
      let d : m ≡ w.low → ⊥ = omega arith in
      let b : m - w.low ≤ window_places = omega arith in
      sym (true-no _ _ _ _ (le-ltb _ _ a) (eq_no _ _ _ _ _ d (le_yes _ _ _ _ _ b refl)))

  pub accepted-above : w.low + window_places < m → accepted w m ≡ false
  unfolding accepted
  accepted-above h =
      let a : w.low ≤ m = omega arith in
      let d : m ≡ w.low → ⊥ = omega arith in
      let b : window_places < m - w.low = omega arith in
      sym (true-no _ _ _ _ (le-ltb _ _ a) (eq_no _ _ _ _ _ d (le-no _ _ _ _ _ b refl)))

-- a number not accepted is not below low
module _ (w : ReliableWindow) (n : ℕ) where
  pub low-le : accepted w n ≡ false → w.low ≤ n
  low-le t = go (dec_lt n w.low)
    where
      go : Dec (n < w.low) → w.low ≤ n
      go (yes h) = absurd (true≢false (sym (accepted-below w n h) ∙ t))
      go (no h) = omega arith

-- and its place, if it has one, is clear: of a window by its parts, as the code has it
module _ (low : ℕ) (bits : List ℕ) (n : ℕ) where
  pub not_behind : (b : Bool) → b ≡ accepted (window_of low bits) n → b ≡ false → low ≤ n
  not_behind b e f = low-le (window_of low bits) n (sym e ∙ f)

  pub place_clear : accepted (window_of low bits) n ≡ false → distance low n ≤ window_places → (n ≡ low → ⊥) → place_set bits n ≡ false
  place_clear t h d =
      let a : low ≤ n = low-le (window_of low bits) n t in
      sym (accepted-place (window_of low bits) n (omega arith) (omega arith)) ∙ t

-- a fact on m holds if it holds in each of the five zones where m may stand
pub zones : (P : Type 0) (low m : ℕ) → (m < low → P) → (m ≡ low → P) → (low < m → m < low + window_places → P)
    → (m ≡ low + window_places → P)
    → (low + window_places < m → P) → P
zones P low m a b c d e = go (dec_lt m low) (ℕ_discrete m low) (dec_lt m (low + window_places)) (ℕ_discrete m (low + window_places))
  where
    go : Dec (m < low) → Dec (m ≡ low) → Dec (m < low + window_places) → Dec (m ≡ low + window_places) → P
    go (yes h) y z u = a h
    go (no h) (yes y) z u = b y
    go (no h) (no y) (yes z) u = c (omega arith) z
    go (no h) (no y) (no z) (yes u) = d u
    go (no h) (no y) (no z) (no u) = e (omega arith)
