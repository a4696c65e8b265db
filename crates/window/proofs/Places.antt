-- What setting or clearing the place of one number does to the places of all.
-- Assumes nothing.
use mathlib.Core.Path.{◌≡◌, ◌∙◌, sym, ap}
use mathlib.Core.Bool.{true, false}
use mathlib.Core.List.{List}
use Prim.Native.Nat.{ℕ, ◌%◌, ◌^◌, ◌<◌, ◌≤◌}
use native.Mathlib.Decide.{ℕ_discrete}
use native.Mathlib.Nat.{zero-div}
use native.Mathlib.Omega.{arith}
use lib.Bits.{bit_xor}
use lib.Dec.{eqb}
use lib.ListN.{get_or, set, length, get_or-replicate}
use lib.Seq.{get_or-set_same, get_or-set_other, set_out}
use borrow.Author.Tests.{eqb-true, eqb-false}
use Rattle.base.specs.Limits.{window_places}
use Rattle.window.specs.Places.{bit, place_byte, place_bit, place_set, set_place, clear_place}
use Rattle.window.specs.Window.{new_window}
use Rattle.window.proofs.Bits.{bit-small, turn-set, turn-clear, bit-set, bit-set-other, bit-clear, bit-clear-other}

-- numbers that are 2,048 apart have one place
pub same_place : (bits : List ℕ) (m n : ℕ) → m % window_places ≡ n % window_places → place_set bits m ≡ place_set bits n
unfolding place_set
same_place bits m n e = let f : m % 8 ≡ n % 8 = omega arith in rw (e, f)

-- all places of a new window are clear
pub new-clear : (n : ℕ) → place_set new_window.bits n ≡ false
unfolding new_window place_set bit
new-clear n = rw (get_or-replicate {A = ℕ} 256 (place_byte n) 0 0 (omega arith), zero-div (2 ^ place_bit n))

module _ (bits : List ℕ) (n : ℕ) where
  pub is_set : place_set bits n ≡ true → bit (get_or bits (place_byte n) 0) (place_bit n) ≡ 1
  unfolding place_set
  is_set t = eqb-true _ 1 t

  pub is-clear : place_set bits n ≡ false → bit (get_or bits (place_byte n) 0) (place_bit n) ≡ 0
  unfolding place_set
  is-clear t =
      let d : bit (get_or bits (place_byte n) 0) (place_bit n) ≡ 1 → ⊥ = eqb-false _ 1 t in
      omega (arith, bit-small (get_or bits (place_byte n) 0) (place_bit n))

-- the place turned, with the facts as the code finds them; one past the end is not stored
module _ (bits : List ℕ) (n at : ℕ) (e : at ≡ place_byte n) where
  module _ (p : ℕ) (q : p ≡ 2 ^ place_bit n) where
    pub turn-sets : place_set bits n ≡ false → set bits at (bit_xor (get_or bits at 0) p) ≡ set_place bits n
    unfolding set_place
    turn-sets t = rw (e, q, turn-set _ _ (is-clear bits n t))

    pub turn-clears : place_set bits n ≡ true → set bits at (bit_xor (get_or bits at 0) p) ≡ clear_place bits n
    unfolding clear_place
    turn-clears t = rw (e, q, turn-clear _ _ (is_set bits n t))

  module _ (past : length bits ≤ at) where
    pub set_past : bits ≡ set_place bits n
    unfolding set_place
    set_past = sym (set_out bits (place_byte n) _ (rw e at past))

    pub clear_past : bits ≡ clear_place bits n
    unfolding clear_place
    clear_past = sym (set_out bits (place_byte n) _ (rw e at past))

module _ (bits : List ℕ) (n : ℕ) (long : length bits ≡ 256) where
  store_same : (v : ℕ) → place_set (set bits (place_byte n) v) n ≡ eqb (bit v (place_bit n)) 1
  unfolding place_set
  store_same v = let h : place_byte n < length bits = omega arith in rw (get_or-set_same bits (place_byte n) v 0 h)

  store_other : (v m : ℕ) → (m % window_places ≡ n % window_places → ⊥)
      → ((i : ℕ) → (i ≡ place_bit n → ⊥) → bit v i ≡ bit (get_or bits (place_byte n) 0) i) → place_set (set bits (place_byte n) v) m
      ≡ place_set bits m
  unfolding place_set
  store_other v m d k = go (ℕ_discrete (place_byte m) (place_byte n))
    where
      go : Dec (place_byte m ≡ place_byte n) → place_set (set bits (place_byte n) v) m ≡ place_set bits m
      go (yes e) =
          let h : place_byte n < length bits = omega arith in
          rw (e, get_or-set_same bits (place_byte n) v 0 h, k (place_bit m) (λ f. d (omega arith)))
      go (no e) = rw (get_or-set_other bits (place_byte n) (place_byte m) v 0 e)

  pub set_same : place_set bits n ≡ false → (m : ℕ) → m % window_places ≡ n % window_places → place_set (set_place bits n) m ≡ true
  unfolding set_place
  set_same z m e = same_place (set_place bits n) m n e ∙ store_same _ ∙ ap (λ (x : ℕ). eqb x 1) (bit-set _ _ (is-clear bits n z))

  pub set_other : place_set bits n ≡ false → (m : ℕ) → (m % window_places ≡ n % window_places → ⊥) → place_set (set_place bits n) m
      ≡ place_set bits m
  unfolding set_place
  set_other z m d = store_other _ m d (λ i e. bit-set-other _ i (place_bit n) e (is-clear bits n z))

  pub clear-same : place_set bits n ≡ true → (m : ℕ) → m % window_places ≡ n % window_places → place_set (clear_place bits n) m ≡ false
  unfolding clear_place
  clear-same z m e = same_place (clear_place bits n) m n e ∙ store_same _ ∙ ap (λ (x : ℕ). eqb x 1) (bit-clear _ _ (is_set bits n z))

  pub clear-other : place_set bits n ≡ true → (m : ℕ) → (m % window_places ≡ n % window_places → ⊥) → place_set (clear_place bits n) m
      ≡ place_set bits m
  unfolding clear_place
  clear-other z m d = store_other _ m d (λ i e. bit-clear-other _ i (place_bit n) e (is_set bits n z))
