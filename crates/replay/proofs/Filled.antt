-- A turn of `fill`, which writes the next byte of the pattern, and its end.
-- Assumes nothing.
use Rattle.std.proofs.Common.{◌≡◌, ℕ, suc, ◌+◌, ◌-◌, ◌*◌, ◌/◌, ◌%◌, ◌<◌, ◌≤◌, List, [], ◌∷◌, ◌++◌, length, take}
use Rattle.std.proofs.Common.{slice_set, slice_index_or, refl, sym, ap, ◌∙◌, arith}
use Rattle.std.proofs.lemmas.List.{take_more_set, take_all, append_assoc, append-nil}
use Rattle.replay.specs.Patterns.{pattern_next, pattern_from}

next : (x : ℕ) → (x * 5 % 65536 + 1) % 65536 ≡ pattern_next x
next x = omega arith

high : (x : ℕ) → (x * 5 % 65536 + 1) % 65536 / 256 % 256 ≡ pattern_next x / 256
high x = omega arith

one-more : (n i x : ℕ) → i < n → pattern_from (n - i) x ≡ pattern_next x / 256 ∷ pattern_from (n - (i + 1)) (pattern_next x)
unfolding pattern_from
one-more n i x l = let h : n - i ≡ suc (n - (i + 1)) = omega arith in ap (λ k. pattern_from k x) h

pub filled : (all out bytes : List ℕ) (n i x b : ℕ) → i < n → length out ≡ n
    → bytes ≡ (x * 5 % 65536 + 1) % 65536 / 256 % 256 ∷ b ∷ []
    → all ≡ take i out ++ pattern_from (n - i) x
    → all ≡ take (i + 1) (slice_set out i (slice_index_or bytes 0 0)) ++ pattern_from (n - (i + 1)) ((x * 5 % 65536 + 1) % 65536)
filled all out bytes n i x b l long is so =
    let byte : slice_index_or bytes 0 0 ≡ pattern_next x / 256 = ap (λ s. slice_index_or s 0 0) is ∙ high x in
    let front = take_more_set out i (slice_index_or bytes 0 0) (omega (arith, l, long)) in
    let whole = append_assoc (take i out) (pattern_next x / 256 ∷ []) (pattern_from (n - (i + 1)) (pattern_next x)) in
    so ∙ rw (next x, front, byte, one-more n i x l, whole) refl

pub filled-whole : (all out : List ℕ) (n i x : ℕ) → length out ≡ n → n ≤ i → all ≡ take i out ++ pattern_from (n - i) x → out ≡ all
unfolding pattern_from
filled-whole all out n i x long end so =
    let none : n - i ≡ 0 = omega arith in
    let h : length out ≤ i = omega (arith, long, end) in
    sym (so ∙ rw (none, take_all i out h) (append-nil out))
