-- What is known of the keys that occurred: a fresh one is none of them.
-- Assumes nothing.
use Prim.Native.Nat.{ℕ, max, ◌+◌, ◌%◌, ◌^◌, ◌<◌, ◌≤◌}
use mathlib.Core.Path.{◌≡◌, refl, ◌∙◌}
use mathlib.Core.Bool.{Bool, true, false, not}
use mathlib.Core.List.{List}
use native.Mathlib.Omega.{arith}
use lib.Dec.{ltb, eqb}
use lib.Bits.{bit_or, or_add_and}
use lib.ListN.{length, get_or, set, length-set}
use lib.Seq.{get_or-set_same, get_or-set_other}
use borrow.Author.Tests.{ltb-true, eqb-true, eqb-false, eq-eqb}
use Rattle.std.proofs.lemmas.Nat.Bits.{and_pow}
use Rattle.base.proofs.Choices.{cases, neither}
use Rattle.window.specs.Places.{bit}
use Rattle.window.proofs.Bits.{bit-small, bit-set, bit-set-other}
use Rattle.sound_cells.specs.Ordered.{has_bit, with_bit, word_of, mark_of, is_fresh, noted}

module _ (b : ℕ) where
  clear : (n : ℕ) → has_bit b n ≡ false → bit b (n % 64) ≡ 0
  unfolding has_bit
  clear n e = let f : bit b (n % 64) ≡ 1 → ⊥ = eqb-false _ _ e in omega (arith, bit-small b (n % 64))

  pub with-set : (n : ℕ) {r : Bool} → r ≡ has_bit b n → r ≡ true → b ≡ with_bit b n
  unfolding with_bit
  with-set n e y = rw (← e, y)

  pub with-clear : (n : ℕ) {p : ℕ} {r : Bool} → r ≡ has_bit b n → r ≡ false → p ≡ 2 ^ (n % 64) → b + p ≡ with_bit b n
  unfolding with_bit
  with-clear n e y q = rw (← e, y, q)

  -- The bit is set by `|`.
  pub or-bit : (n : ℕ) {p : ℕ} → p ≡ 2 ^ (n % 64) → bit_or b p ≡ with_bit b n
  unfolding has_bit bit
  or-bit n q = rw q (let e = and_pow b (n % 64) in let o = or_add_and b (2 ^ (n % 64)) in
      cases (has_bit b n)
      (λ y. let s : bit b (n % 64) ≡ 1 = eqb-true _ _ y in (omega (arith, o, rw s at e)) ∙ with-set n refl y)
      (λ y. (omega (arith, o, rw (clear n y) at e)) ∙ with-clear n refl y refl))

  now-set : (n : ℕ) → has_bit b n ≡ false → has_bit (b + 2 ^ (n % 64)) n ≡ true
  unfolding has_bit
  now-set n y = eq-eqb _ 1 (bit-set b (n % 64) (clear n y))

  with-own : (n : ℕ) → has_bit (with_bit b n) n ≡ true
  with-own n = cases (has_bit b n)
      (λ y. rw (← with-set n refl y) y)
      (λ y. rw (← with-clear n refl y refl) (now-set n y))

  still-set : (n m : ℕ) → has_bit b m ≡ true → has_bit b n ≡ false → has_bit (b + 2 ^ (n % 64)) m ≡ true
  unfolding has_bit
  still-set n m e y = cases (eqb (m % 64) (n % 64))
      (λ z. let q : m % 64 ≡ n % 64 = eqb-true _ _ z in neither (eqb (bit b (n % 64)) 1) (rw q at e) y)
      (λ z. rw (bit-set-other b (m % 64) (n % 64) (eqb-false _ _ z) (clear n y)) e)

  with-keeps : (n m : ℕ) → has_bit b m ≡ true → has_bit (with_bit b n) m ≡ true
  with-keeps n m e = cases (has_bit b n)
      (λ y. rw (← with-set n refl y) e)
      (λ y. rw (← with-clear n refl y refl) (still-set n m e y))

-- A key that occurred.
pub record Told (seen : List ℕ) (greatest key : ℕ) : Type 0 where
  pub low : key ≤ greatest
  pub marked : has_bit (get_or seen (word_of key) 0) (mark_of key) ≡ true

word-small : (key : ℕ) → word_of key < 4
unfolding word_of
word-small key = omega arith

module _ (seen : List ℕ) (greatest key : ℕ) where
  pub fresh-new : is_fresh seen greatest key ≡ true → Told seen greatest key → ⊥
  unfolding is_fresh
  fresh-new e h = cases (ltb greatest key)
      (λ y. omega (arith, ltb-true greatest key y, h.low))
      (λ y. let f : not (has_bit (get_or seen (word_of key) 0) (mark_of key)) ≡ true = rw y at e in neither false (rw h.marked at f) refl)

  pub noted-room : 4 ≤ length seen → 4 ≤ length (noted seen key)
  unfolding noted
  noted-room room = omega (arith, length-set seen (word_of key) (with_bit (get_or seen (word_of key) 0) (mark_of key)))

  module _ (room : 4 ≤ length seen) where
    own : get_or (set seen (word_of key) (with_bit (get_or seen (word_of key) 0) (mark_of key))) (word_of key) 0
        ≡ with_bit (get_or seen (word_of key) 0) (mark_of key)
    own = get_or-set_same seen (word_of key) _ 0 (omega (arith, word-small key))

    pub noted-own : Told (noted seen key) (max greatest key) key
    unfolding noted
    noted-own = record { low = omega arith; marked = rw own (with-own (get_or seen (word_of key) 0) (mark_of key)) }

    pub noted-keeps : (other : ℕ) → Told seen greatest other → Told (noted seen key) (max greatest key) other
    unfolding noted
    noted-keeps other h = record {
      low = omega (arith, h.low);
      marked = cases (eqb (word_of other) (word_of key))
          (λ y. let q : word_of other ≡ word_of key = eqb-true _ _ y in
          rw (q, own) (with-keeps (get_or seen (word_of key) 0) (mark_of key) (mark_of other) (rw q at h.marked)))
          (λ y. rw (get_or-set_other seen (word_of key) (word_of other) _ 0 (eqb-false _ _ y)) h.marked);
    }
