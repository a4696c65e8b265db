-- A window restored from its entry accepts the same numbers; an entry of 256 bytes is its window's; and windows that accept the same have
-- the same entry.
-- Assumes nothing.
use Prim.Native.Nat.{ℕ, zero, suc, ◌+◌, ◌-◌, ◌*◌, ◌/◌, ◌%◌, ◌^◌, ◌≤◌, ◌<◌}
use mathlib.Core.Path.{◌≡◌, refl, sym, ◌∙◌, ap, subst}
use mathlib.Core.Bool.{Bool, true, false, cond}
use mathlib.Core.List.{List, []}
use native.Mathlib.Omega.{arith}
use lib.Dec.{ltb, leb, eqb}
use lib.ListN.{length, get_or, length-append, get_or-append, get_or-eq_default}
use lib.Seq.{get_or_at, ext_get_or}
use Rattle.base.specs.Bytes.{Bytes}
use borrow.Author.Tests.{ltb-true, ltb-false, le-ltb, leb-true, le-leb, eqb-true, eqb-false, ne_eqb}
use Rattle.base.specs.If.{if_true, if_eq, if_le}
use Rattle.base.specs.Limits.{window_places}
use Rattle.base.proofs.Choices.{cases, neither}
use Rattle.window.specs.declared.ReliableWindow.{ReliableWindow}
use Rattle.window.specs.Places.{bit, place_set}
use Rattle.window.specs.Window.{accepted}
use Rattle.window.specs.Proper.{Sized, Proper}
use Rattle.window.proofs.Laws.{low_first, proper-accepted, accepted-proper}
use Rattle.image.specs.Image.{WindowEntry}
use Rattle.image.specs.Windows.{eight, packed, window_entry, window_from}

-- ---- eight places in a byte
value : Bool → ℕ
value b = cond b 1 0

scaled : (b : Bool) (m : ℕ) → cond b m 0 ≡ m * value b
unfolding value
scaled true m = omega arith
scaled false m = omega arith

value-small : (b : Bool) → value b ≤ 1
unfolding value
value-small true = omega arith
value-small false = omega arith

value-is : (b : Bool) → eqb (value b) 1 ≡ b
unfolding value
value-is true = refl
value-is false = refl

-- the digits of a number in base 2
digits8 : (n a b c d e f g h : ℕ) → n ≡ a + 2 * b + 4 * c + 8 * d + 16 * e + 32 * f + 64 * g + 128 * h
    → a ≤ 1 → b ≤ 1 → c ≤ 1 → d ≤ 1 → e ≤ 1 → f ≤ 1 → g ≤ 1 → h ≤ 1
    → (n / 1 % 2 ≡ a) × (n / 2 % 2 ≡ b) × (n / 4 % 2 ≡ c) × (n / 8 % 2 ≡ d) × (n / 16 % 2 ≡ e) × (n / 32 % 2 ≡ f) × (n / 64 % 2 ≡ g)
    × (n / 128 % 2 ≡ h)
digits8 n a b c d e f g h q la lb lc ld le lf lg lh =
    (omega arith, omega arith, omega arith, omega arith, omega arith, omega arith, omega arith, omega arith)

module _ (place : ℕ → Bool) (p : ℕ) where
  eight_is : eight place p ≡ value (place p) + 2 * value (place (p + 1)) + 4 * value (place (p + 2)) + 8 * value (place (p + 3))
      + 16 * value (place (p + 4)) + 32 * value (place (p + 5)) + 64 * value (place (p + 6)) + 128 * value (place (p + 7))
  unfolding eight
  eight_is = omega (
    arith,
    scaled (place p) 1,
    scaled (place (p + 1)) 2,
    scaled (place (p + 2)) 4,
    scaled (place (p + 3)) 8,
    scaled (place (p + 4)) 16,
    scaled (place (p + 5)) 32,
    scaled (place (p + 6)) 64,
    scaled (place (p + 7)) 128,
  )

  small : (j : ℕ) → value (place (p + j)) ≤ 1
  small j = value-small (place (p + j))

  digit : (j q : ℕ) → q ≡ 2 ^ j → eight place p / q % 2 ≡ value (place (p + j)) → eqb (bit (eight place p) j) 1 ≡ place (p + j)
  unfolding bit
  digit j q e d = ap (λ (m : ℕ). eqb (eight place p / m % 2) 1) (sym e) ∙ (ap (λ (m : ℕ). eqb m 1) d ∙ value-is (place (p + j)))

  eight-bit : (j : ℕ) → j < 8 → eqb (bit (eight place p) j) 1 ≡ place (p + j)
  eight-bit = go (digits8 (eight place p) _ _ _ _ _ _ _ _ eight_is (value-small (place p)) (small 1) (small 2) (small 3) (small 4) (small 5)
      (small 6) (small 7))
    where
      n : ℕ
      n = eight place p

      v : ℕ → ℕ
      v j = value (place (p + j))

      go : (n / 1 % 2 ≡ value (place p)) × (n / 2 % 2 ≡ v 1) × (n / 4 % 2 ≡ v 2) × (n / 8 % 2 ≡ v 3) × (n / 16 % 2 ≡ v 4)
          × (n / 32 % 2 ≡ v 5) × (n / 64 % 2 ≡ v 6) × (n / 128 % 2 ≡ v 7) → (j : ℕ) → j < 8 → eqb (bit (eight place p) j) 1 ≡ place (p + j)
      go d zero lt = digit 0 1 refl (d.0 ∙ ap (λ (m : ℕ). value (place m)) (omega arith))
      go d (suc zero) lt = digit 1 2 refl d.1
      go d (suc (suc zero)) lt = digit 2 4 refl d.2
      go d (suc (suc (suc zero))) lt = digit 3 8 refl d.3
      go d (suc (suc (suc (suc zero)))) lt = digit 4 16 refl d.4
      go d (suc (suc (suc (suc (suc zero))))) lt = digit 5 32 refl d.5
      go d (suc (suc (suc (suc (suc (suc zero)))))) lt = digit 6 64 refl d.6
      go d (suc (suc (suc (suc (suc (suc (suc zero))))))) lt = digit 7 128 refl d.7
      go d (suc (suc (suc (suc (suc (suc (suc (suc j)))))))) lt = absurd (omega arith)

-- ---- bytes of places
module _ (place : ℕ → Bool) where
  pub packed-length : (n : ℕ) → length (packed place n) ≡ n
  unfolding packed
  packed-length zero = refl
  packed-length (suc n) = length-append (packed place n) _ ∙ (let e = packed-length n in omega arith)

  packed-at : (n j : ℕ) → j < n → get_or (packed place n) j 0 ≡ eight place (8 * j)
  unfolding packed
  packed-at zero j lt = absurd (omega arith)
  packed-at (suc n) j lt = cases (eqb j n)
      (λ y. rw (eqb-true j n y) (get_or_at (packed place n) (eight place (8 * n)) [] 0 n (packed-length n)))
      (λ y. let ne : j ≡ n → ⊥ = eqb-false j n y in get_or-append (packed place n) _ 0 j (let e = packed-length n in omega arith)
      ∙ packed-at n j (omega arith))

  -- the place of a number in 256 packed bytes
  packed-place : (n : ℕ) → place_set (packed place 256) n ≡ place (n % window_places)
  unfolding place_set
  packed-place n =
      rw (packed-at 256 (n % window_places / 8) (omega arith)) (eight-bit place (8 * (n % window_places / 8)) (n % 8) (omega arith)
      ∙ ap place (omega arith))

packed-ext : (f g : ℕ → Bool) (n : ℕ) → ((k : ℕ) → k < 8 * n → f k ≡ g k) → packed f n ≡ packed g n
unfolding packed eight
packed-ext f g zero h = refl
packed-ext f g (suc n) h =
    rw (
      packed-ext f g n (λ k lt. h k (omega arith)),
      h (8 * n) (omega arith),
      h (8 * n + 1) (omega arith),
      h (8 * n + 2) (omega arith),
      h (8 * n + 3) (omega arith),
      h (8 * n + 4) (omega arith),
      h (8 * n + 5) (omega arith),
      h (8 * n + 6) (omega arith),
      h (8 * n + 7) (omega arith),
    )

-- ---- a window
module _ (w : ReliableWindow) where
  -- the places above low are the same
  place-above : (k : ℕ) → k < window_places → place_set (window_from (window_entry w)).bits (w.low + 1 + k)
      ≡ place_set w.bits (w.low + 1 + k)
  unfolding window_from window_entry
  place-above k lt =
      packed-place _ (w.low + 1 + k) ∙ (packed-place (λ k. place_set w.bits (w.low + 1 + k)) _
      ∙ ap (λ (m : ℕ). place_set w.bits (w.low + 1 + m)) (round w.low k lt))
    where
      round : (low k : ℕ) → k < window_places → ((low + 1 + k) % window_places + window_places - (low + 1) % window_places) % window_places
          ≡ k
      round low k lt = omega arith

  pub window-again : window_entry (window_from (window_entry w)) ≡ window_entry w
  unfolding window_entry
  window-again = λ i. record { low = same i; places = places i }
    where
      same : (window_from (window_entry w)).low ≡ w.low
      same = unfold window_from window_entry in refl

      places : packed (λ k. place_set (window_from (window_entry w)).bits ((window_from (window_entry w)).low + 1 + k)) 256
          ≡ packed (λ k. place_set w.bits (w.low + 1 + k)) 256
      places = packed-ext _ _ 256 (λ k lt. unfold window_from window_entry in place-above k (omega arith))

  pub window-accepts : (n : ℕ) → accepted (window_from (window_entry w)) n ≡ accepted w n
  unfolding accepted if_true if_eq if_le window_from window_entry
  window-accepts n = cases (ltb n w.low) (λ y. rw y)
      (λ y. rw y (cases (eqb n w.low) (λ z. rw z) (λ z. rw z (cases (leb (n - w.low) window_places) (λ t. rw t (at y z t)) (λ t. rw t)))))
    where
      at : ltb n w.low ≡ false → eqb n w.low ≡ false → leb (n - w.low) window_places ≡ true
          → place_set (window_from (window_entry w)).bits n ≡ place_set w.bits n
      at y z t =
          let a : w.low ≤ n = ltb-false n w.low y in
          let b : n ≡ w.low → ⊥ = eqb-false n w.low z in
          let c : n - w.low ≤ window_places = leb-true (n - w.low) window_places t in
          let e : w.low + 1 + (n - w.low - 1) ≡ n = omega arith in
          subst (λ (m : ℕ). place_set (window_from (window_entry w)).bits m ≡ place_set w.bits m) e
          (place-above (n - w.low - 1) (omega arith))

  window-sized : Sized (window_from (window_entry w))
  unfolding window_from
  window-sized = packed-length _ 256

  pub window-kept : Proper w → Proper (window_from (window_entry w))
  window-kept p = accepted-proper (window_from (window_entry w)) window-sized (λ m a. proper-accepted w p m (sym (window-accepts m) ∙ a))

-- ---- bytes that are packed places
packed-again : (bytes : List ℕ) → length bytes ≡ 256 → Bytes bytes → packed (place_set bytes) 256 ≡ bytes
packed-again bytes len by = ext_get_or 0 _ bytes (packed-length (place_set bytes) 256 ∙ sym len)
    (λ j lt. packed-at (place_set bytes) 256 j (let e = packed-length (place_set bytes) 256 in omega arith)
    ∙ whole j (let e = packed-length (place_set bytes) 256 in omega arith))
  where
    is-bit : (n : ℕ) → value (eqb (n % 2) 1) ≡ n % 2
    is-bit n = cases (eqb (n % 2) 1) (λ y. rw y (let e = eqb-true (n % 2) 1 y in one e))
        (λ y. rw y (let ne : n % 2 ≡ 1 → ⊥ = eqb-false (n % 2) 1 y in none ne))
      where
        one : n % 2 ≡ 1 → value true ≡ n % 2
        one e = unfold value in omega arith

        none : (n % 2 ≡ 1 → ⊥) → value false ≡ n % 2
        none ne = unfold value in omega arith

    digit-of : (j r q : ℕ) → j < 256 → r < 8 → q ≡ 2 ^ r → value (place_set bytes (8 * j + r)) ≡ get_or bytes j 0 / q % 2
    digit-of j r q lt few e = unfold place_set bit in
        (ap (λ (m : ℕ). value (eqb (get_or bytes m 0 / 2 ^ ((8 * j + r) % 8) % 2) 1)) at
        ∙ (ap (λ (m : ℕ). value (eqb (get_or bytes j 0 / 2 ^ m % 2) 1)) bits
        ∙ (is-bit (get_or bytes j 0 / 2 ^ r) ∙ ap (λ (m : ℕ). get_or bytes j 0 / m % 2) (sym e))))
      where
        at : (8 * j + r) % window_places / 8 ≡ j
        at = omega arith

        bits : (8 * j + r) % 8 ≡ r
        bits = omega arith

    whole : (j : ℕ) → j < 256 → eight (place_set bytes) (8 * j) ≡ get_or bytes j 0
    whole j lt =
        let x = by j in
        let a = eight_is (place_set bytes) (8 * j) in
        let z : value (place_set bytes (8 * j)) ≡ get_or bytes j 0 / 1 % 2 = ap (λ (m : ℕ). value (place_set bytes m)) (omega arith)
        ∙ digit-of j 0 1 lt (omega arith) refl in
        let b = digit-of j 1 2 lt (omega arith) refl in
        let c = digit-of j 2 4 lt (omega arith) refl in
        let d = digit-of j 3 8 lt (omega arith) refl in
        let e = digit-of j 4 16 lt (omega arith) refl in
        let f = digit-of j 5 32 lt (omega arith) refl in
        let g = digit-of j 6 64 lt (omega arith) refl in
        let h = digit-of j 7 128 lt (omega arith) refl in
        a ∙ (rw (z, b, c, d, e, f, g, h) (sum (get_or bytes j 0) x))
      where
        sum : (x : ℕ) → x < 256 → x / 1 % 2 + 2 * (x / 2 % 2) + 4 * (x / 4 % 2) + 8 * (x / 8 % 2) + 16 * (x / 16 % 2) + 32 *
            (x / 32 % 2) + 64 * (x / 64 % 2) + 128 * (x / 128 % 2) ≡ x
        sum x lt = chain x _ _ _ _ _ _ _ _ (x / 2) (x / 4) (x / 8) (x / 16) (x / 32) (x / 64) (x / 128) (omega arith) (omega arith)
            (omega arith) (omega arith) (omega arith) (omega arith) (omega arith) (omega arith)
          where
            chain : (x a b c d e f g h y1 y2 y3 y4 y5 y6 y7 : ℕ) → x ≡ a + 2 * y1 → y1 ≡ b + 2 * y2 → y2 ≡ c + 2 * y3 → y3 ≡ d + 2 * y4
                → y4 ≡ e + 2 * y5 → y5 ≡ f + 2 * y6 → y6 ≡ g + 2 * y7 → y7 ≡ h
                → a + 2 * b + 4 * c + 8 * d + 16 * e + 32 * f + 64 * g + 128 * h ≡ x
            chain x a b c d e f g h y1 y2 y3 y4 y5 y6 y7 p q r s t u v w = omega arith

-- an entry of 256 bytes is the entry of its window
pub entry-again : (e : WindowEntry) → length e.places ≡ 256 → Bytes e.places → window_entry (window_from e) ≡ e
unfolding window_entry
entry-again e len by = λ i. record { low = low i; places = places i }
  where
    low : (window_from e).low ≡ e.low
    low = unfold window_from in refl

    round : (m k : ℕ) → m % window_places ≡ k → k < window_places → place_set e.places m ≡ place_set e.places k
    round m k q lt = unfold place_set in
        (let a : m % window_places / 8 ≡ k % window_places / 8 = omega arith in
        let b : m % 8 ≡ k % 8 = omega arith in
        rw (a, b))

    places : packed (λ k. place_set (window_from e).bits ((window_from e).low + 1 + k)) 256 ≡ e.places
    places = packed-ext (λ k. place_set (window_from e).bits ((window_from e).low + 1 + k)) (place_set e.places) 256
        (λ k lt. one k (omega arith)) ∙ packed-again e.places len by
      where
        back : (m k : ℕ) → k < window_places → ((m + 1 + k) % window_places + window_places - (m + 1) % window_places) % window_places ≡ k
        back m k lt = omega arith

        one : (k : ℕ) → k < window_places → place_set (window_from e).bits ((window_from e).low + 1 + k) ≡ place_set e.places k
        one k lt = unfold window_from in
            (packed-place (λ n. place_set e.places (n + window_places - (e.low + 1) % window_places)) (e.low + 1 + k)
            ∙ round ((e.low + 1 + k) % window_places + window_places - (e.low + 1) % window_places) k (back e.low k lt) lt)

-- packed places are bytes
pub bytes_packed : (place : ℕ → Bool) (n : ℕ) → Bytes (packed place n)
bytes_packed place n j = cases (ltb j n)
    (λ y. rw (packed-at place n j (ltb-true j n y)) (small-eight (8 * j)))
    (λ y. let e = packed-length place n in let le : n ≤ j = ltb-false j n y in let past : length (packed place n) ≤ j = omega arith in
    rw (get_or-eq_default (packed place n) 0 past) (omega arith))
  where
    small-eight : (p : ℕ) → eight place p < 256
    small-eight p =
        let e = eight_is place p in
        let a = value-small (place p) in let b = small place p 1 in let c = small place p 2 in let d = small place p 3 in
        let f = small place p 4 in let g = small place p 5 in let h = small place p 6 in let i = small place p 7 in
        omega arith

-- ---- windows that accept the same have the same entry
module _ (w w' : ReliableWindow) (e : (n : ℕ) → accepted w n ≡ accepted w' n) where
  low-same : w.low ≡ w'.low
  low-same = cases (ltb w.low w'.low)
      (λ y. neither (accepted w w.low) (e w.low ∙ (low_first w').1 w.low (ltb-true w.low w'.low y)) (low_first w).0)
      (λ y. cases (ltb w'.low w.low)
      (λ z. neither (accepted w' w'.low) (sym (e w'.low) ∙ (low_first w).1 w'.low (ltb-true w'.low w.low z)) (low_first w').0)
      (λ z. let a : w'.low ≤ w.low = ltb-false w.low w'.low y in let b : w.low ≤ w'.low = ltb-false w'.low w.low z in omega arith))

  pub entry-same : window_entry w ≡ window_entry w'
  unfolding window_entry
  entry-same = λ i. record { low = low-same i; places = places i }
    where
      accepted-place : (w : ReliableWindow) (k : ℕ) → k < window_places → accepted w (w.low + 1 + k) ≡ place_set w.bits (w.low + 1 + k)
      accepted-place w k lt = unfold accepted if_true if_eq if_le in rw (
        le-ltb (w.low + 1 + k) w.low (omega arith),
        ne_eqb (w.low + 1 + k) w.low (λ q. omega arith),
        le-leb (w.low + 1 + k - w.low) window_places (omega arith),
      )

      places : packed (λ k. place_set w.bits (w.low + 1 + k)) 256 ≡ packed (λ k. place_set w'.bits (w'.low + 1 + k)) 256
      places = packed-ext _ _ 256 (λ k lt. sym (accepted-place w k (omega arith))
          ∙ (e (w.low + 1 + k) ∙ (ap (λ (m : ℕ). accepted w' (m + 1 + k)) low-same ∙ accepted-place w' k (omega arith))))
