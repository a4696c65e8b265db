-- The laws of a word's bits: the places of numbers one after another as one number, read from bytes; and the numbers whose bits are 1.
-- Assumes nothing.
use mathlib.Core.Path.{◌≡◌, ◌∙◌, sym, ap, refl}
use mathlib.Core.List.{List, [], ◌∷◌, ◌++◌}
use Prim.Native.Nat.{ℕ, zero, suc, ◌+◌, ◌-◌, ◌*◌, ◌/◌, ◌%◌, ◌^◌, ◌<◌, ◌≤◌, min}
use native.Mathlib.Nat.{le_refl, add_comm, add-zero, zero-add, suc-add, mul-one, mul_assoc, pow-suc}
use native.Mathlib.Decide.{ℕ_discrete, dec_lt}
use native.Mathlib.Omega.{arith}
use mir.Syntax.{w64}
use lib.Bits.{bit_and, and_step, and_self}
use lib.Count.{count_trailing_zeros}
use lib.ListN.{length, get_or, take, drop, replicate, length-drop, get_or-append, get_or-eq_default, get_or-replicate}
use lib.Seq.{take_all, get_or-drop, get_or-append_right}
use lib.Pow.{pow-add, high_ones, pow_mono, pow_pos}
use Rattle.std.specs.Int.{bit_at, byte_worth, sum_through, from_le_bytes}
use Rattle.std.proofs.lemmas.Nat.{and_comm}
use Rattle.std.proofs.lemmas.Nat.Bits.{bit_at-suc, same_from_bits_below, ones_shr, ones_shl, and_high_mask}
use Rattle.base.specs.Bytes.{Bytes}
use Rattle.base.specs.Put.{Run}
use Rattle.base.proofs.Puts.{put-split}
use Rattle.base.specs.If.{if_true, if_eq}
use Rattle.base.proofs.Ifs.{eq_yes, eq_no}
use Rattle.window.specs.Places.{bit, place_byte, place_bit}
use Rattle.window.specs.Words.{word_places, place_at, places_from, ones_from}
use Rattle.window.proofs.Bits.{bit-small}

bytes-pow : (k : ℕ) → 256 ^ suc k ≡ 2 ^ (8 * k + 8)
bytes-pow zero = refl
bytes-pow (suc k) =
    let d : 8 * suc k + 8 ≡ 8 + (8 * k + 8) = omega arith in
    rw (d, pow-add) (omega (arith, pow-suc 256 (suc k), bytes-pow k))

-- ---- the places of c numbers from n on
module _ (bits : List ℕ) where
  pub place-small : (n : ℕ) → place_at bits n < 2
  unfolding place_at
  place-small n = bit-small (get_or bits (place_byte n) 0) (place_bit n)

  pub places-small : (n c : ℕ) → places_from bits n c < 2 ^ c
  unfolding places_from
  places-small n zero = le_refl 1
  places-small n (suc c) = omega (arith, pow-suc 2 c, places-small (suc n) c, place-small n)

  -- those of the first a, and above them those of the others
  pub places-join : (n a c : ℕ) → places_from bits n (a + c) ≡ places_from bits (n + a) c * 2 ^ a + places_from bits n a
  unfolding places_from
  places-join n zero c = rw (zero-add, add-zero, mul-one, add-zero)
  places-join n (suc a) c =
      let e : n + suc a ≡ suc n + a = omega arith in
      let p : places_from bits (suc n + a) c * 2 ^ suc a ≡ places_from bits (suc n + a) c * 2 ^ a * 2 =
      ap (λ (x : ℕ). places_from bits (suc n + a) c * x) (pow-suc 2 a) ∙ sym (mul_assoc (places_from bits (suc n + a) c) (2 ^ a) 2) in
      rw (suc-add, e) (omega (arith, places-join (suc n) a c))

  -- its bits are the places
  pub places-bit : (n c i : ℕ) → i < c → bit_at (places_from bits n c) i ≡ place_at bits (n + i)
  unfolding places_from
  places-bit n zero i h = absurd (omega arith)
  places-bit n (suc c) zero h = rw add-zero (omega (arith, place-small n))
  places-bit n (suc c) (suc i) h =
      let e : places_from bits n (suc c) / 2 ≡ places_from bits (suc n) c = omega (arith, place-small n) in
      let f : suc n + i ≡ n + suc i = omega arith in
      bit_at-suc (places_from bits n (suc c)) i ∙ rw (e, ← f) (places-bit (suc n) c i (omega arith))

  -- ---- a byte has the places of eight numbers, and the bytes of a word those of all its numbers
  module _ (small : Bytes bits) where
    in-byte : (n : ℕ) → n % 8 ≡ 0 → places_from bits n 8 ≡ get_or bits (place_byte n) 0
    unfolding place_at bit
    in-byte n z =
        same_from_bits_below 8 (places_from bits n 8) (get_or bits (place_byte n) 0) (places-small n 8) (small (place_byte n)) (λ i h.
        let e : (n + i) % 2048 / 8 ≡ n % 2048 / 8 = omega arith in
        let f : (n + i) % 8 ≡ i = omega arith in
        places-bit n 8 i h ∙ rw (e, f))

    module _ (n at : ℕ) (xs : List ℕ) (z : n % word_places ≡ 0) (e : at ≡ place_byte n)
        (each : (i : ℕ) → i < 8 → get_or xs i 0 ≡ get_or bits (at + i) 0) where
      through : (k : ℕ) → k < 8 → sum_through (λ i. byte_worth i (get_or xs i 0)) k ≡ places_from bits n (8 * k + 8)
      through zero h = each 0 h ∙ rw (add-zero, e) (sym (in-byte n (omega arith)))
      through (suc k) h =
          let d : 8 * suc k + 8 ≡ 8 * k + 8 + 8 = omega arith in
          let a : n + (8 * k + 8) ≡ n + 8 * suc k = omega arith in
          let f : at + suc k ≡ place_byte (n + 8 * suc k) = omega arith in
          let b = in-byte (n + 8 * suc k) (omega arith) in
          rw (through k (omega arith), each (suc k) h, d, places-join n (8 * k + 8) 8, a, b, ← f, bytes-pow k)
          (add_comm _ _)

      pub word-is : (x : ℕ) → x ≡ from_le_bytes w64 xs → x ≡ places_from bits n word_places
      word-is x f = f ∙ through 7 (omega arith)

-- the bytes of a word that ends past the bits: they are stored over zeros
filled : (rest out : List ℕ) (q i : ℕ) → length rest ≤ 8 → Run 0 rest (replicate 8 0) q out → i < 8 → get_or out i 0 ≡ get_or rest i 0
filled rest out q i h r l = go (dec_lt i (length rest))
  where
    zeros : List ℕ
    zeros = drop (0 + length rest) (replicate 8 0)

    is : out ≡ rest ++ zeros
    is = r.is ∙ put-split (replicate 8 0) 0 rest (omega arith)

    go : Dec (i < length rest) → get_or out i 0 ≡ get_or rest i 0
    go (yes m) = rw is (get_or-append rest zeros 0 i m)
    go (no m) =
        let d : length rest ≤ i = omega arith in
        rw (is, get_or-append_right rest zeros i 0 d, get_or-drop, get_or-eq_default rest 0 d)
        (get_or-replicate {A = ℕ} 8 (0 + length rest + (i - length rest)) 0 0 (omega arith))

pub cut-bytes : (bits out : List ℕ) (at k q : ℕ) → k ≡ min at (length bits) → length bits < at + 8
    → Run 0 (take (length bits - k) (drop k bits)) (replicate 8 0) q out → (i : ℕ) → i < 8 → get_or out i 0 ≡ get_or bits (at + i) 0
cut-bytes bits out at k q e h r i l =
    let n : length (drop k bits) ≤ length bits - k = omega (arith, length-drop k bits) in
    filled (drop k bits) out q i (omega arith) (rw (take_all (length bits - k) (drop k bits) n) at r) l ∙ get_or-drop k bits i 0
    ∙ go (dec_lt at (length bits))
  where
    go : Dec (at < length bits) → get_or bits (k + i) 0 ≡ get_or bits (at + i) 0
    go (yes m) = let d : k ≡ at = omega arith in rw d
    go (no m) = rw (get_or-eq_default bits 0 {n = k + i} (omega arith), get_or-eq_default bits 0 {n = at + i} (omega arith))

-- ---- the bits of a word from lo on and below hi
pub mask_is : (f t a b : ℕ) → a ≡ word_places - t → b ≡ f → f < word_places → f ≤ t
    → bit_and ((2 ^ 64 - 1) * 2 ^ b % 2 ^ 64) ((2 ^ 64 - 1) / 2 ^ a) ≡ 2 ^ min word_places t - 2 ^ f
mask_is f t a b d e h k =
    let u : ℕ = 64 - a in
    let p : u ≡ min word_places t = omega arith in
    let q : u - f + f ≡ min word_places t = omega arith in
    let r : 2 ^ u - 1 < 2 ^ 64 = omega (arith, pow_mono {i = u} {j = 64} (omega arith), pow_pos u) in
    let g = and_comm (2 ^ 64 - 2 ^ f) (2 ^ u - 1) ∙ and_high_mask 64 f (omega arith) (2 ^ u - 1) r in
    rw (e, ones_shr 64 a (omega arith), ones_shl 64 f (omega arith), g, ones_shr u f (omega arith))
    (sym (high_ones (u - f) f) ∙ rw q)

-- ---- the numbers whose bits are 1
pub ones_none : (n c : ℕ) → ones_from n c 0 ≡ []
unfolding ones_from if_eq if_true
ones_none n zero = refl
ones_none n (suc c) = ones_none (suc n) c

-- the lowest of them, and the rest
module _ (n c x : ℕ) where
  pub ones_odd : x % 2 ≡ 1 → ones_from n (suc c) x ≡ n ∷ ones_from (suc n) c (x / 2)
  unfolding ones_from
  ones_odd h = sym (eq_yes (x % 2) 1 _ _ _ h refl)

  pub ones-even : x % 2 ≡ 0 → ones_from n (suc c) x ≡ ones_from (suc n) c (x / 2)
  unfolding ones_from
  ones-even h = let d : x % 2 ≡ 1 → ⊥ = omega arith in sym (eq_no (x % 2) 1 _ _ _ d refl)

-- a number without its lowest 1: its bits above the lowest are those of the number, or of its half without that half's lowest 1
module _ (x : ℕ) where
  rest-odd : x % 2 ≡ 1 → (bit_and x (x - 1) % 2 ≡ 0) × (bit_and x (x - 1) / 2 ≡ x / 2)
  rest-odd h =
      let e : (x - 1) / 2 ≡ x / 2 = omega arith in
      let f : (x - 1) % 2 ≡ 0 = omega arith in
      let y : bit_and x (x - 1) ≡ x / 2 * 2 + 0 = and_step x (x - 1) ∙ rw (h, e, f, and_self) in
      (omega arith, omega arith)

  rest-even : x % 2 ≡ 0 → 0 < x → (bit_and x (x - 1) % 2 ≡ 0) × (bit_and x (x - 1) / 2 ≡ bit_and (x / 2) (x / 2 - 1))
  rest-even h k =
      let e : (x - 1) / 2 ≡ x / 2 - 1 = omega arith in
      let f : (x - 1) % 2 ≡ 1 = omega arith in
      let y : bit_and x (x - 1) ≡ bit_and (x / 2) (x / 2 - 1) * 2 + 0 = and_step x (x - 1) ∙ rw (h, e, f) in
      (omega arith, omega arith)

pub ones-lowest : (n c x : ℕ) → 0 < x → x < 2 ^ c → ones_from n c x ≡ (n + count_trailing_zeros c x) ∷ ones_from n c (bit_and x (x - 1))
unfolding count_trailing_zeros
ones-lowest n zero x h k = absurd (omega arith)
ones-lowest n (suc c) x h k = go (ℕ_discrete (x % 2) 1) (ones-lowest (suc n) c (x / 2))
  where
    go : Dec (x % 2 ≡ 1)
        → (0 < x / 2 → x / 2 < 2 ^ c → ones_from (suc n) c (x / 2)
        ≡ (suc n + count_trailing_zeros c (x / 2)) ∷ ones_from (suc n) c (bit_and (x / 2) (x / 2 - 1)))
        → ones_from n (suc c) x ≡ (n + count_trailing_zeros (suc c) x) ∷ ones_from n (suc c) (bit_and x (x - 1))
    go (yes o) later =
        let r = rest-odd x o in
        rw (ones_odd n c x o, ones-even n c (bit_and x (x - 1)) r.0, r.1, o, add-zero)
    go (no o) later =
        let e : x % 2 ≡ 0 = omega arith in
        let r = rest-even x e h in
        let s : suc n + count_trailing_zeros c (x / 2) ≡ n + suc (count_trailing_zeros c (x / 2)) = omega arith in
        rw (ones-even n c x e, ones-even n c (bit_and x (x - 1)) r.0, r.1, e)
        (later (omega arith) (omega (arith, pow-suc 2 c)) ∙ ap (λ (m : ℕ). m ∷ ones_from (suc n) c (bit_and (x / 2) (x / 2 - 1))) s)
