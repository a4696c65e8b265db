-- The turns of the plain form's loops, with the facts as the code finds them.
-- Assumes nothing.
use mathlib.Core.Path.{◌≡◌, ◌∙◌, sym, refl}
use mathlib.Core.Bool.{Bool, true, false}
use mathlib.Core.List.{List, [], ◌∷◌}
use Prim.Native.Nat.{ℕ, zero, suc, ◌+◌, ◌-◌, ◌<◌, ◌≤◌}
use native.Mathlib.Nat.{not-suc-le-zero}
use native.Mathlib.Numerals.{add-one, sub-one}
use native.Mathlib.Omega.{arith}
use Rattle.base.specs.If.{if_true}
use Rattle.base.specs.Put.{Run}
use Rattle.base.proofs.Ifs.{by-yes, by-no}
use Rattle.base.proofs.Puts.{run_none, run-then}
use Rattle.base.specs.Numbers.{ahead}
use Rattle.window.specs.Places.{place_set}
use Rattle.window.specs.Window.{window_of, accepted}
use Rattle.window.specs.Missing.{highest, unless_accepted, missing_of, searched, missing}
use Rattle.window.specs.declared.ReliableWindow.{ReliableWindow}

-- ---- the highest accepted number: the scan ends at a set place, or with no place left
pub scan-set : (k low : ℕ) (bits : List ℕ) (t : ℕ) (b : Bool) → 0 < k → b ≡ place_set bits (low + k) → b ≡ true
    → highest (window_of low bits) k ≡ t → k ≡ t
unfolding highest if_true
scan-set zero low bits t b z p q e = absurd (not-suc-le-zero z)
scan-set (suc k) low bits t b z p q e = rw (sym p ∙ q) at e

pub scan-clear : (k low : ℕ) (bits : List ℕ) (t : ℕ) (b : Bool) → 0 < k → b ≡ place_set bits (low + k) → b ≡ false
    → highest (window_of low bits) k ≡ t → highest (window_of low bits) (k - 1) ≡ t
unfolding highest if_true
scan-clear zero low bits t b z p q e = absurd (not-suc-le-zero z)
scan-clear (suc k) low bits t b z p q e = rw sub-one (rw (sym p ∙ q) at e)

pub scan-done : (k : ℕ) (w : ReliableWindow) (t : ℕ) → k ≤ 0 → highest w k ≡ t → 0 ≡ t
unfolding highest
scan-done k w t h e = let z : k ≡ 0 = omega arith in (rw z at e)

-- ---- the missing numbers, one after another, up to the highest and below the limit
module _ (w : ReliableWindow) (k : ℕ) (b : Bool) (e : b ≡ accepted w (ahead w.low k)) (l : List ℕ) (q : ℕ) (L : List ℕ)
    (a : Run 0 (missing_of w k) l q L) where
  more : (r : ℕ) (M : List ℕ) → Run q (unless_accepted w (ahead w.low k)) L r M → Run 0 (missing_of w (k + 1)) l r M
  unfolding missing_of
  more r M c = rw add-one (run-then 0 (missing_of w k) _ l q L r M a c)

  pub run-accepted : b ≡ true → Run 0 (missing_of w (k + 1)) l q L
  unfolding unless_accepted
  run-accepted t = more q L (run_none q _ L (sym (by-yes _ b _ _ _ e t refl)))

  pub run-missing : b ≡ false → (r : ℕ) (M : List ℕ) → Run q (ahead w.low k ∷ []) L r M → Run 0 (missing_of w (k + 1)) l r M
  unfolding unless_accepted
  run-missing t r M c = more r M (rw (by-no _ b (ahead w.low k ∷ []) [] (ahead w.low k ∷ []) e t refl) at c)

pub run_end : (w : ReliableWindow) (k : ℕ) (l : List ℕ) (q : ℕ) (L : List ℕ) → k ≡ searched w → Run 0 (missing_of w k) l q L
    → Run 0 (missing w) l q L
unfolding missing
run_end w k l q L f r = rw f at r
