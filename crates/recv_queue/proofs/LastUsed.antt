-- Records that are all unused can be passed over at the end: the turns of `up_to_used`.
-- Assumes nothing.
use mathlib.Core.Path.{◌≡◌, refl, sym, ◌∙◌, ap}
use Prim.Native.Nat.{ℕ, zero, suc, ◌+◌, ◌-◌, ◌<◌, ◌≤◌}
use native.Mathlib.Omega.{arith}
use native.Mathlib.Numerals.{unary_clauses}
use mathlib.Core.Bool.{Bool, true, false, ◌&&◌, and-true}
use mathlib.Core.List.{List, [], ◌∷◌}
use mathlib.Core.Logic.{◌⊎◌, inl, inr}
use lib.ListN.{length, get_or, take, drop, length-drop, drop_of_length-le}
use lib.Seq.{get_or-drop, get_or-take, length-take-le, drop-cons}
use Rattle.std.specs.List.{fold}
use Rattle.base.specs.Lists.{every}
use Rattle.base.proofs.Choices.{and_left, and_right}
use Rattle.cells.specs.Cell.{Cell}
use Rattle.row_slots.specs.First.{blank}
use Rattle.recv_prefix.specs.First.{is_unused}
use Rattle.recv_prefix.specs.Needs.{used_in, last_used}
use Rattle.recv_prefix.proofs.Used.{used-none}

-- ---- all are unused

-- a fold that begins with a, and asks of each
pub folded : (a : Bool) (rs : List Cell) → fold (λ b r. b && is_unused r) a rs ≡ (a && every is_unused rs)
unfolding every
folded true [] = refl
folded false [] = refl
folded true (r ∷ rs) = folded (is_unused r) rs
folded false (r ∷ rs) = folded false rs

unused_at : (rs : List Cell) (i : ℕ) → every is_unused rs ≡ true → i < length rs → is_unused (get_or rs i blank) ≡ true
unfolding every
unused_at [] i e l = absurd (omega arith)
unused_at (r ∷ rs) zero e l = and_left (is_unused r) (every is_unused rs) e
unused_at (r ∷ rs) (suc i) e l = unused_at rs i (and_right (is_unused r) (every is_unused rs) e) (omega arith)

-- ---- the last used record

-- what is used of the first n is so of the list's first m, too
used-first : (rs : List Cell) (m n : ℕ) → n ≤ m → used_in (take m rs) n ≡ used_in rs n
unfolding used_in
used-first rs m zero l = refl
used-first rs m (suc n) l = rw (get_or-take m rs n blank (omega arith), used-first rs m n (omega arith)) refl

-- none of the next k is used
used-past : (rs : List Cell) (n k : ℕ) → n + k ≤ length rs → every is_unused (drop n rs) ≡ true → used_in rs (n + k) ≡ used_in rs n
unfolding used_in
used-past rs n zero l e = ap (used_in rs) (let z : n + 0 ≡ n = omega arith in z)
used-past rs n (suc k) l e =
    let s : n + suc k ≡ suc (n + k) = omega arith in
    let u : is_unused (get_or rs (n + k) blank) ≡ true =
    rw (← get_or-drop n rs k blank) (unused_at (drop n rs) k e (omega (arith, length-drop n rs))) in
    ap (used_in rs) s ∙ rw u (used-past rs n k (omega arith) e)

-- those after the first n are unused
pub last_passed : (rs front : List Cell) (n : ℕ) → n ≤ length rs → front ≡ take n rs → every is_unused (drop n rs) ≡ true → last_used front
    ≡ last_used rs
unfolding last_used
last_passed rs front n l is e =
    let k : n + (length rs - n) ≡ length rs = omega arith in
    ap last_used is ∙ (ap (used_in (take n rs)) (length-take-le n rs l) ∙ (used-first rs n n (omega arith)
    ∙ (sym (used-past rs n (length rs - n) (omega arith) e) ∙ ap (used_in rs) k)))

-- ---- the end

last-one : (rs : List Cell) (n : ℕ) → length rs ≡ suc n → every is_unused (drop n rs) ≡ false → used_in rs (suc n) ≡ suc n
unfolding every used_in
last-one rs n long e =
    let none : drop (suc n) rs ≡ [] = drop_of_length-le rs {i = suc n} (omega arith) in
    let c : Cell = get_or rs n blank in
    let last : drop n rs ≡ c ∷ [] = drop-cons rs n blank (omega arith) ∙ ap (λ (l : List Cell). c ∷ l) none in
    let u : is_unused c ≡ false = sym (and-true (is_unused c)) ∙ (sym (ap (every is_unused) last) ∙ e) in
    rw u refl

-- the last of n records is used, or there is none
found-at : (rs : List Cell) (n : ℕ) → length rs ≡ n → (n < 1) ⊎ (every is_unused (drop (n - 1) rs) ≡ false) → n ≡ used_in rs n
found-at rs zero long h = sym (used-none rs)
found-at rs (suc n) long (inl l) = absurd (omega arith)
found-at rs (suc n) long (inr e) = sym (last-one rs n long (simp unary_clauses at e))

pub last_found : (rs : List Cell) → (length rs < 1) ⊎ (every is_unused (drop (length rs - 1) rs) ≡ false) → length rs ≡ last_used rs
unfolding last_used
last_found rs h = found-at rs (length rs) refl h
