-- The turns of the window's loops, with the facts as the code finds them.
-- Assumes nothing.
use mathlib.Core.Path.{◌≡◌, ◌∙◌, sym, ap}
use mathlib.Core.Bool.{Bool, true, false}
use mathlib.Core.List.{List}
use Prim.Native.Nat.{ℕ, suc, ◌+◌, ◌-◌, ◌<◌, ◌≤◌}
use native.Mathlib.Omega.{arith}
use Rattle.base.specs.If.{if_true}
use Rattle.base.specs.Limits.{numbers24, window_places}
use Rattle.base.specs.Put.{Run}
use Rattle.base.proofs.Ifs.{eq_yes, eq_no}
use Rattle.base.proofs.Puts.{run_none}
use Rattle.base.specs.Numbers.{following}
use Rattle.window.specs.Places.{place_set, set_place, clear_place}
use Rattle.window.specs.Window.{window_of, advance, accept}
use Rattle.window.specs.Missing.{missing_of, searched, missing}
use Rattle.window.specs.declared.ReliableWindow.{ReliableWindow}

-- ---- low moves past accepted numbers: the loop ends with no turn left, or at a clear place; a set place is passed
module _ (end n : ℕ) (bits : List ℕ) (t : ReliableWindow) (e : advance (end - n) (window_of n bits) ≡ t) where
  pub advance-none : end ≤ n → n ≤ end → window_of end bits ≡ t
  unfolding advance
  advance-none h k =
      let d : n ≡ end = omega arith in
      let z : end - end ≡ 0 = omega arith in
      rw (d, z) at e

  module _ (h : n < end) (r : Bool) (q : r ≡ place_set bits n) where
    turns : end - n ≡ suc (end - (n + 1))
    turns = omega arith

    pub advance-clear : r ≡ false → window_of n bits ≡ t
    unfolding advance if_true
    advance-clear p = rw (turns, sym q ∙ p) at e

    pub advance-set : (cleared : List ℕ) → r ≡ true → cleared ≡ clear_place bits n → advance (end - (n + 1)) (window_of (n + 1) cleared) ≡ t
    unfolding advance if_true
    advance-set cleared p c = rw c (rw (turns, sym q ∙ p) at e)

-- ---- a number is accepted
pub accept_low : (w v : ReliableWindow) (n a : ℕ) → n ≡ w.low → a ≡ following n → v
    ≡ advance window_places (record { low = a; bits = w.bits }) → v ≡ accept w n
unfolding accept
accept_low w v n a h e f = eq_yes _ _ _ _ _ h (rw e at f)

pub accept_above : (low n : ℕ) (bits m : List ℕ) → (n ≡ low → ⊥) → m ≡ set_place bits n → window_of low m ≡ accept (window_of low bits) n
unfolding accept
accept_above low n bits m h e = eq_no _ _ _ _ _ h (ap (window_of low) e)

-- ---- nothing is missing where low is past the limit
pub run-past-limit : (w : ReliableWindow) (l : List ℕ) → numbers24 ≤ w.low → Run 0 (missing w) l 0 l
unfolding missing missing_of
run-past-limit w l h =
    let n : searched w ≡ 0 = omega arith in
    run_none 0 _ l (ap (missing_of w) n)
