-- Bytes that stand in a list from a place on: the one relation by which both round trips go. Writing makes a frame's bytes stand, and
-- reading at that place finds the numbers back; a frame's bytes stand where it was read.
-- Assumes nothing.
use mathlib.Core.Path.{◌≡◌, ◌∙◌, sym}
use mathlib.Core.List.{List, [], ◌∷◌, ◌++◌}
use Prim.Native.Nat.{ℕ, zero, suc, ◌+◌, ◌-◌, ◌/◌, ◌%◌, ◌<◌, ◌≤◌}
use native.Mathlib.Nat.{add-zero, add_assoc}
use native.Mathlib.Decide.{dec_lt}
use native.Mathlib.Omega.{arith}
use lib.Dec.{lit<}
use lib.ListN.{length, get_or, take, drop, length-append, length-drop, get_or-append}
use lib.Seq.{get_or-append-add, get_or-take, get_or-drop, length-take-le, ext_get_or}
use Rattle.base.specs.Bytes.{be16, be32, le24, be16_bytes, be32_bytes, le24_bytes, Bytes}
use Rattle.base.specs.Limits.{numbers24}
use Rattle.base.specs.Put.{put, and_then}
use Rattle.base.proofs.Digits.{digits24, d24-0, d24-1, d24-2, d16-0, d16-1}
use Rattle.base.proofs.Puts.{put_in}
use Rattle.frame.proofs.Bounds.{be16-small}

-- the bytes xs stand in s from place p on
pub record Stands (s : List ℕ) (p : ℕ) (xs : List ℕ) : Type 0 where
  pub each : (i : ℕ) → i < length xs → get_or s (p + i) 0 ≡ get_or xs i 0

-- what was stored stands
pub put-stands : (l : List ℕ) (p : ℕ) (bs : List ℕ) → p + length bs ≤ length l → Stands (put l p bs) p bs
put-stands l p bs h = record { each = λ i k. put_in l p bs i h k }

-- what stands is what is there
pub stands-there : (s : List ℕ) (p : ℕ) (xs : List ℕ) → Stands s p xs → p + length xs ≤ length s → take (length xs) (drop p s) ≡ xs
stands-there s p xs a h =
    let n : length (take (length xs) (drop p s)) ≡ length xs = length-take-le (length xs) (drop p s) (simp length-drop (omega arith)) in
    ext_get_or 0 _ _ n
    (λ i k.
    let k' : i < length xs = omega arith in
    get_or-take (length xs) (drop p s) i 0 k' ∙ get_or-drop p s i 0 ∙ a.each i k')

-- one run of bytes after another
module _ (s : List ℕ) (p : ℕ) (xs ys : List ℕ) where
  pub stands-first : Stands s p (and_then xs ys) → Stands s p xs
  unfolding and_then
  stands-first a = record { each = λ i h. a.each i (rw length-append (omega arith)) ∙ get_or-append xs ys 0 i h }

  pub stands-next : Stands s p (and_then xs ys) → Stands s (p + length xs) ys
  unfolding and_then
  stands-next a = record {
    each = λ i h. rw add_assoc (a.each (length xs + i) (rw length-append (omega arith)) ∙ get_or-append-add xs ys i 0);
  }

  pub stands-both : Stands s p xs → Stands s (p + length xs) ys → Stands s p (and_then xs ys)
  unfolding and_then
  stands-both a b = record { each = λ i h. go i (rw length-append at h) (dec_lt i (length xs)) }
    where
      go : (i : ℕ) → i < length xs + length ys → Dec (i < length xs) → get_or s (p + i) 0 ≡ get_or (xs ++ ys) i 0
      go i h (yes k) = a.each i k ∙ sym (get_or-append xs ys 0 i k)
      go i h (no k) =
          let j : ℕ = i - length xs in
          let e : i ≡ length xs + j = omega arith in
          rw (e, ← add_assoc p (length xs) j) (b.each j (omega arith) ∙ sym (get_or-append-add xs ys j 0))

pub stands_one : (s : List ℕ) (p x : ℕ) → get_or s p 0 ≡ x → Stands s p (x ∷ [])
stands_one s p x e = record { each = one }
  where
    one : (i : ℕ) → i < 1 → get_or s (p + i) 0 ≡ get_or (x ∷ []) i 0
    one zero h = rw add-zero e
    one (suc i) h = absurd (omega arith)

pub one-stands : (s : List ℕ) (p x : ℕ) → Stands s p (x ∷ []) → get_or s p 0 ≡ x
one-stands s p x a = rw add-zero at (a.each 0 (lit< tt))

-- ---- where a number's bytes stand, the number is read
module _ (s : List ℕ) (p x : ℕ) where
  pub le24-stands : x < numbers24 → Stands s p (le24_bytes x) → le24 s p ≡ x
  unfolding le24 le24_bytes
  le24-stands h a =
      let a0 : get_or s p 0 ≡ x % 256 = rw add-zero at (a.each 0 (lit< tt)) in
      rw (a0, a.each 1 (lit< tt), a.each 2 (lit< tt)) (digits24 x h)

  pub be16-stands : Stands s p (be16_bytes x) → be16 s p ≡ x % 65536
  unfolding be16 be16_bytes
  be16-stands a =
      let a0 : get_or s p 0 ≡ x / 256 % 256 = rw add-zero at (a.each 0 (lit< tt)) in
      rw (a0, a.each 1 (lit< tt)) (omega arith)

pub be32-stands : (s : List ℕ) (p x : ℕ) → x < 4294967296 → Stands s p (be32_bytes x) → be32 s p ≡ x
unfolding be32 be32_bytes
be32-stands s p x h a =
    let high : be16 s p ≡ x / 65536 % 65536 = be16-stands s p (x / 65536) (stands-first s p (be16_bytes (x / 65536)) (be16_bytes x) a) in
    let low : be16 s (p + 2) ≡ x % 65536 = be16-stands s (p + 2) x (two (stands-next s p (be16_bytes (x / 65536)) (be16_bytes x) a)) in
    omega arith
  where
    two : Stands s (p + length (be16_bytes (x / 65536))) (be16_bytes x) → Stands s (p + 2) (be16_bytes x)
    two b = unfold be16_bytes in b

-- ---- where a number was read, its bytes stand
module _ (s : List ℕ) (by : Bytes s) (p : ℕ) where
  pub le24-again : Stands s p (le24_bytes (le24 s p))
  unfolding le24 le24_bytes
  le24-again = record { each = at }
    where
      at : (i : ℕ) → i < 3 → get_or s (p + i) 0 ≡ get_or (le24_bytes (le24 s p)) i 0
      at zero h = rw add-zero (sym (d24-0 _ _ _ (by p) (by (p + 1)) (by (p + 2))))
      at (suc zero) h = sym (d24-1 _ _ _ (by p) (by (p + 1)) (by (p + 2)))
      at (suc (suc zero)) h = sym (d24-2 _ _ _ (by p) (by (p + 1)) (by (p + 2)))
      at (suc (suc (suc i))) h = absurd (omega arith)

  pub be16-again : Stands s p (be16_bytes (be16 s p))
  unfolding be16 be16_bytes
  be16-again = record { each = at }
    where
      at : (i : ℕ) → i < 2 → get_or s (p + i) 0 ≡ get_or (be16_bytes (be16 s p)) i 0
      at zero h = rw add-zero (sym (d16-0 _ _ (by p) (by (p + 1))))
      at (suc zero) h = sym (d16-1 _ _ (by p) (by (p + 1)))
      at (suc (suc i)) h = absurd (omega arith)

module _ (s : List ℕ) (by : Bytes s) (p : ℕ) where
  pub be32-again : Stands s p (be32_bytes (be32 s p))
  unfolding be32 be32_bytes be16_bytes
  be32-again =
      let a : be16 s p < 65536 = be16-small s by p in
      let b : be16 s (p + 2) < 65536 = be16-small s by (p + 2) in
      let high : be32 s p / 65536 ≡ be16 s p = omega arith in
      stands-both s p _ _ (rw high (be16-again s by p)) (rw (low0, low1) (be16-again s by (p + 2)))
    where
      low0 : be32 s p / 256 % 256 ≡ be16 s (p + 2) / 256 % 256
      low0 = unfold be32 in omega arith

      low1 : be32 s p % 256 ≡ be16 s (p + 2) % 256
      low1 = unfold be32 in omega arith
