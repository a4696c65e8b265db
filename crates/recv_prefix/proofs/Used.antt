-- The records after the last used one are unused; so a call need not look at them, as long as the first ones have room for each frame.
-- Assumes nothing.
use mathlib.Core.Path.{◌≡◌, refl, subst}
use Prim.Native.Nat.{ℕ, zero, suc, ◌+◌, ◌<◌, ◌≤◌}
use native.Mathlib.Nat.{eq-or-lt_of_le}
use native.Mathlib.Omega.{arith}
use mathlib.Core.Logic.{◌⊎◌, inl, inr}
use mathlib.Core.Bool.{Bool, true, cond}
use mathlib.Core.List.{List, [], ◌∷◌}
use lib.ListN.{length, get_or, take, drop, length-drop}
use lib.Seq.{get_or-drop, get_or-take, length-take-le}
use Rattle.base.specs.Lists.{every, count_of}
use Rattle.base.proofs.Choices.{by_bool, cases, and_left, and_right, and_both}
use Rattle.cells.specs.Cell.{Cell}
use Rattle.row_slots.specs.First.{blank}
use Rattle.recv_prefix.specs.First.{is_unused}
use Rattle.recv_prefix.specs.Needs.{used_in, last_used}

pub used-none : (rs : List Cell) → used_in rs 0 ≡ 0
unfolding used_in
used-none rs = refl

-- ---- what is past the last used one

used-within : (rs : List Cell) (n : ℕ) → used_in rs n ≤ n
unfolding used_in
used-within rs zero = omega arith
used-within rs (suc n) = let h : used_in rs n ≤ n = used-within rs n in by_bool (λ (z : ℕ). z ≤ suc n) (is_unused (get_or rs n blank))
    (λ t. omega arith) (λ t. omega arith)

pub last_within : (rs : List Cell) → last_used rs ≤ length rs
unfolding last_used
last_within rs = used-within rs (length rs)

past-used : (rs : List Cell) (n i : ℕ) → used_in rs n ≤ i → i < n → is_unused (get_or rs i blank) ≡ true
unfolding used_in
past-used rs zero i l m = absurd (omega arith)
past-used rs (suc n) i l m = cases (is_unused (get_or rs n blank))
    (λ t. by t (λ j. past-used rs n i (subst (λ (b : Bool). cond b (used_in rs n) (suc n) ≤ i) t l) j) (eq-or-lt_of_le (omega arith)))
    (λ t. absurd (let k : suc n ≤ i = subst (λ (b : Bool). cond b (used_in rs n) (suc n) ≤ i) t l in omega arith))
  where
    by : is_unused (get_or rs n blank) ≡ true → (i < n → is_unused (get_or rs i blank) ≡ true) → (i ≡ n) ⊎ (i < n)
        → is_unused (get_or rs i blank) ≡ true
    by t f (inl e) = rw (e, t)
    by t f (inr j) = f j

every-at : {A : Type 0} (p : A → Bool) (d : A) (l : List A) → ((i : ℕ) → i < length l → p (get_or l i d) ≡ true) → every p l ≡ true
unfolding every
every-at p d [] h = refl
every-at p d (x ∷ l) h = and_both (p x) (every p l) (h 0 (omega arith)) (every-at p d l (λ i m. h (suc i) (omega arith)))

-- The records from the k-th on are unused.
pub rest-unused : (rs : List Cell) (k : ℕ) → last_used rs ≤ k → every is_unused (drop k rs) ≡ true
unfolding last_used
rest-unused rs k l = every-at is_unused blank (drop k rs) (λ i m.
    rw (get_or-drop k rs i blank) (past-used rs (length rs) (k + i) (omega arith) (omega (arith, length-drop k rs))))

-- and so are those of the first k from the last used one on
part-unused : (rs : List Cell) (k : ℕ) → k ≤ length rs → every is_unused (drop (last_used rs) (take k rs)) ≡ true
unfolding last_used
part-unused rs k l = every-at is_unused blank (drop (last_used rs) (take k rs)) (λ i m.
    let long : length (take k rs) ≡ k = length-take-le k rs l in
    let small : used_in rs (length rs) + i < k = omega (arith, length-drop (used_in rs (length rs)) (take k rs)) in
    rw (get_or-drop (used_in rs (length rs)) (take k rs) i blank, get_or-take k rs (used_in rs (length rs) + i) blank small)
    (past-used rs (length rs) (used_in rs (length rs) + i) (omega arith) (omega arith)))

count-more : (p : Cell → Bool) (c : Cell) (l : List Cell) → count_of p l ≤ count_of p (c ∷ l)
unfolding count_of
count-more p c l = by_bool (λ (z : ℕ). count_of p l ≤ z) (p c) (λ t. omega arith) (λ t. omega arith)

count-every : (p : Cell → Bool) (l : List Cell) → every p l ≡ true → count_of p l ≡ length l
unfolding count_of every
count-every p [] h = refl
count-every p (c ∷ l) h = rw (and_left (p c) (every p l) h, count-every p l (and_right (p c) (every p l) h))

count_past : (p : Cell → Bool) (n : ℕ) (l : List Cell) → every p (drop n l) ≡ true → length l ≤ n + count_of p l
count_past p zero l h = omega (arith, count-every p l h)
count_past p (suc n) [] h = omega arith
count_past p (suc n) (c ∷ l) h = omega (arith, count_past p n l h, count-more p c l)

-- how many of the first k records are unused, at least
pub unused-count : (rs : List Cell) (k : ℕ) → k ≤ length rs → k ≤ last_used rs + count_of is_unused (take k rs)
unused-count rs k l =
    let long : length (take k rs) ≡ k = length-take-le k rs l in
    omega (arith, count_past is_unused (last_used rs) (take k rs) (part-unused rs k l))
