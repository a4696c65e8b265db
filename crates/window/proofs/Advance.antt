-- Low passes accepted numbers, and what is accepted stays the same.
-- Assumes nothing.
use mathlib.Core.Path.{◌≡◌, ◌∙◌, sym, refl}
use mathlib.Core.Bool.{Bool, true, false}
use Prim.Native.Nat.{ℕ, zero, suc, ◌+◌, ◌%◌, ◌<◌, ◌≤◌}
use native.Mathlib.Decide.{ℕ_discrete}
use native.Mathlib.Nat.{le_refl}
use native.Mathlib.Omega.{arith}
use lib.ListN.{length-set}
use Rattle.base.specs.If.{if_true, if_lt}
use Rattle.base.specs.Limits.{window_places}
use Rattle.base.proofs.Ifs.{lt_yes, lt_no}
use Rattle.window.specs.Places.{place_set, clear_place}
use Rattle.window.specs.Window.{accepted, advance, passed}
use Rattle.window.specs.Proper.{Sized}
use Rattle.window.specs.declared.ReliableWindow.{ReliableWindow}
use Rattle.window.proofs.Places.{same_place, clear-same, clear-other}
use Rattle.window.proofs.Accepted.{accepted-below, accepted-low, accepted-place, accepted-above, zones}

-- what is accepted while low moves: all below it, and of the 2,048 numbers from low itself on those whose place is set
pub moving : ReliableWindow → ℕ → Bool
moving w m = if_lt m w.low true (if_lt m (w.low + window_places) (place_set w.bits m) false)

module _ (w : ReliableWindow) (m : ℕ) where
  pub moving-below : m < w.low → moving w m ≡ true
  unfolding moving
  moving-below h = sym (lt_yes _ _ _ _ _ h refl)

  pub moving-place : w.low ≤ m → m < w.low + window_places → moving w m ≡ place_set w.bits m
  unfolding moving
  moving-place h k = sym (lt_no _ _ _ _ _ h (lt_yes _ _ _ _ _ k refl))

  pub moving-above : w.low + window_places ≤ m → moving w m ≡ false
  unfolding moving
  moving-above h = let a : w.low ≤ m = omega arith in sym (lt_no _ _ _ _ _ a (lt_no _ _ _ _ _ h refl))

-- at a clear place low has come to rest
rest : (w : ReliableWindow) (m : ℕ) → place_set w.bits w.low ≡ false → accepted w m ≡ moving w m
rest w m z =
    zones (accepted w m ≡ moving w m) w.low m
    (λ h. accepted-below w m h ∙ sym (moving-below w m h))
    (λ h. accepted-low w m h ∙ sym (moving-place w m (omega arith) (omega arith) ∙ same_place w.bits m w.low (omega arith) ∙ z))
    (λ h k. accepted-place w m h (omega arith) ∙ sym (moving-place w m (omega arith) k))
    (λ h. accepted-place w m (omega arith) (omega arith) ∙ same_place w.bits m w.low (omega arith) ∙ z
    ∙ sym (moving-above w m (omega arith)))
    (λ h. accepted-above w m h ∙ sym (moving-above w m (omega arith)))

-- one number passed
pass : (w : ReliableWindow) (m : ℕ) → Sized w → place_set w.bits w.low ≡ true → moving (passed w) m ≡ moving w m
pass w m s z =
    zones (moving (passed w) m ≡ moving w m) w.low m
    (λ h. moving-below (passed w) m (omega arith) ∙ sym (moving-below w m h))
    (λ h. moving-below (passed w) m (omega arith) ∙ sym (moving-place w m (omega arith) (omega arith) ∙ same_place w.bits m w.low
    (omega arith) ∙ z))
    (λ h k. moving-place (passed w) m (omega arith) (omega arith) ∙ clear-other w.bits w.low s z m (omega arith)
    ∙ sym (moving-place w m (omega arith) k))
    (λ h. moving-place (passed w) m (omega arith) (omega arith) ∙ clear-same w.bits w.low s z m (omega arith)
    ∙ sym (moving-above w m (omega arith)))
    (λ h. moving-above (passed w) m (omega arith) ∙ sym (moving-above w m (omega arith)))

-- the places passed since base are clear
Clear : ℕ → ReliableWindow → Type 0
Clear base w = (x : ℕ) → base ≤ x → x < w.low → place_set w.bits x ≡ false

clear-on : (base : ℕ) (w : ReliableWindow) → Sized w → place_set w.bits w.low ≡ true → Clear base w → Clear base (passed w)
unfolding Clear
clear-on base w s z c x p q = go (ℕ_discrete (x % window_places) (w.low % window_places))
  where
    go : Dec (x % window_places ≡ w.low % window_places) → place_set (clear_place w.bits w.low) x ≡ false
    go (yes e) = clear-same w.bits w.low s z x e
    go (no d) = clear-other w.bits w.low s z x d ∙ c x p (let n : x ≡ w.low → ⊥ = λ e. d (rw e) in omega arith)

passed-sized : (w : ReliableWindow) → Sized w → Sized (passed w)
unfolding clear_place
passed-sized w s = simp length-set s

-- low was base at first, and k of the 2,048 turns are left: with none left, the place of low is that of base, which was passed
advance-left : (k : ℕ) (w : ReliableWindow) (base m : ℕ) → Sized w → w.low + k ≡ base + window_places → Clear base w
    → accepted (advance k w) m ≡ moving w m
unfolding advance Clear if_true
advance-left zero w base m s l c = rest w m (same_place w.bits w.low base (omega arith) ∙ c base (le_refl base) (omega arith))
advance-left (suc k) w base m s l c =
    go (place_set w.bits w.low) refl (λ d. advance-left k (passed w) base m (passed-sized w s) (omega arith) d)
  where
    go : (t : Bool) → place_set w.bits w.low ≡ t → (Clear base (passed w) → accepted (advance k (passed w)) m ≡ moving (passed w) m)
        → accepted (if_true t (advance k (passed w)) w) m ≡ moving w m
    go true z later = later (clear-on base w s z c) ∙ pass w m s z
    go false z later = rest w m z

-- 2,048 turns are enough for low to come to rest
pub advance-keeps-accepted : (w : ReliableWindow) (m : ℕ) → Sized w → accepted (advance window_places w) m ≡ moving w m
unfolding Clear
advance-keeps-accepted w m s = advance-left window_places w w.low m s refl (λ x p q. absurd (omega arith))

pub advance-sized : (k : ℕ) (w : ReliableWindow) → Sized w → Sized (advance k w)
unfolding advance if_true
advance-sized zero w s = s
advance-sized (suc k) w s = go (place_set w.bits w.low) (advance-sized k (passed w) (passed-sized w s))
  where
    go : (t : Bool) → Sized (advance k (passed w)) → Sized (if_true t (advance k (passed w)) w)
    go true later = later
    go false later = s
