-- Lists of numbers from a place on, and their first numbers: what loops over the unsent numbers need.
-- Assumes nothing.
use mathlib.Core.Path.{◌≡◌, sym}
use mathlib.Core.List.{List, [], ◌∷◌}
use Prim.Native.Nat.{ℕ, zero, suc, ◌+◌, ◌-◌, ◌<◌}
use native.Mathlib.Nat.{sub-zero}
use native.Mathlib.Numerals.{add-one}
use native.Mathlib.Omega.{arith}
use lib.ListN.{length, get_or, take, drop, length-drop}
use lib.Seq.{drop-cons, take_all, take-nil}

pub from-here : (l : List ℕ) (i : ℕ) → i < length l → drop i l ≡ get_or l i 0 ∷ drop (i + 1) l
from-here l i h = rw add-one (drop-cons l i 0 h)

-- a part from a place on is what stands there
pub part-from : (l : List ℕ) (i : ℕ) → take (length l - i) (drop i l) ≡ drop i l
part-from l i = take_all (length l - i) (drop i l) (rw length-drop (omega arith))

-- the first k but for the first p of them
pub drop-take : (p k : ℕ) (l : List ℕ) → drop p (take k l) ≡ take (k - p) (drop p l)
drop-take zero k l = rw sub-zero
drop-take (suc p) zero l = let z : zero - suc p ≡ 0 = omega arith in rw z
drop-take (suc p) (suc k) [] = sym (take-nil (suc k - suc p))
drop-take (suc p) (suc k) (x ∷ l) = let z : suc k - suc p ≡ k - p = omega arith in rw z (drop-take p k l)
