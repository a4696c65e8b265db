-- The laws of insert: which answer it gives, and what is accepted afterwards.
-- Assumes nothing.
use mathlib.Core.Path.{◌≡◌, ◌∙◌, sym, refl}
use mathlib.Core.Bool.{Bool, true, false, ◌||◌}
use Prim.Native.Nat.{ℕ, ◌+◌, ◌-◌, ◌<◌, ◌≤◌}
use native.Mathlib.Decide.{ℕ_discrete, dec_lt}
use native.Mathlib.Omega.{arith}
use lib.Dec.{eqb}
use lib.ListN.{length-set}
use borrow.Author.Tests.{eq-eqb, ne_eqb}
use Rattle.base.specs.Limits.{numbers24, window_places}
use Rattle.base.proofs.Ifs.{true-yes, true-no, lt_yes, lt_no, le_yes, le-no, eq_yes, eq_no}
use Rattle.base.specs.Numbers.{following}
use Rattle.window.specs.Places.{place_set, set_place}
use Rattle.window.specs.Window.{accepted, advance, with_place, accept, Insertion, refuse, give, insert_of}
use Rattle.window.specs.Proper.{Sized}
use Rattle.window.specs.declared.ReliableWindow.{ReliableWindow}
use Rattle.window.proofs.Places.{set_same, set_other}
use Rattle.window.proofs.Accepted.{accepted-below, accepted-low, accepted-place, accepted-above, low-le, place_clear, zones}
use Rattle.window.proofs.Advance.{moving, moving-below, moving-place, moving-above, advance-keeps-accepted, advance-sized}

-- ---- the four ways of an insert, for every window
module _ (w : ReliableWindow) (n : ℕ) where
  pub insert-too-large : numbers24 ≤ n → insert_of w n ≡ refuse 13 w
  unfolding insert_of
  insert-too-large h = sym (le_yes _ _ _ _ _ h refl)

  pub insert-old : n < numbers24 → accepted w n ≡ true → insert_of w n ≡ refuse 4 w
  unfolding insert_of
  insert-old h t = sym (le-no _ _ _ _ _ h (true-yes _ _ _ _ t refl))

  pub insert-beyond : n < numbers24 → w.low + window_places < n → insert_of w n ≡ refuse 5 w
  unfolding insert_of
  insert-beyond h k =
      let d : window_places < n - w.low = omega arith in
      sym (le-no _ _ _ _ _ h (true-no _ _ _ _ (accepted-above w n k) (lt_yes _ _ _ _ _ d refl)))

  pub insert-new : n < numbers24 → accepted w n ≡ false → n ≤ w.low + window_places → insert_of w n ≡ give (accept w n)
  unfolding insert_of
  insert-new h t k =
      let d : n - w.low ≤ window_places = omega arith in
      sym (le-no _ _ _ _ _ h (true-no _ _ _ _ t (lt_no _ _ _ _ _ d refl)))

  -- what holds on each way holds of the insert
  pub insert-ways : (P : Insertion → Type 0) → (numbers24 ≤ n → P (refuse 13 w)) → (n < numbers24 → accepted w n ≡ true → P (refuse 4 w))
      → (n < numbers24 → accepted w n ≡ false → w.low + window_places < n → P (refuse 5 w))
      → (n < numbers24 → accepted w n ≡ false → n ≤ w.low + window_places → P (give (accept w n))) → P (insert_of w n)
  insert-ways P a b c d = go (dec_lt n numbers24) (accepted w n) refl (dec_lt (w.low + window_places) n)
    where
      go : Dec (n < numbers24) → (t : Bool) → accepted w n ≡ t → Dec (w.low + window_places < n) → P (insert_of w n)
      go (no h) t e k = let h' : numbers24 ≤ n = omega arith in rw (insert-too-large h') (a h')
      go (yes h) true e k = rw (insert-old h e) (b h e)
      go (yes h) false e (yes k) = rw (insert-beyond h k) (c h e k)
      go (yes h) false e (no k) = let k' : n ≤ w.low + window_places = omega arith in rw (insert-new h e k') (d h e k')

-- ---- a number is accepted
pub not-n : (m n : ℕ) (x : Bool) → (m ≡ n → ⊥) → eqb m n || x ≡ x
not-n m n x h = rw (ne_eqb m n h)

pub is-n : (m n : ℕ) (x : Bool) → m ≡ n → eqb m n || x ≡ true
is-n m n x h = rw (eq-eqb m n h)

-- n is low: what is accepted from n + 1 on, before low moves
after-low : (w : ReliableWindow) (n m : ℕ) → n ≡ w.low → moving (record { low = following n; bits = w.bits }) m
    ≡ (eqb m n || accepted w m)
after-low w n m d =
    let v : ReliableWindow = record { low = following n; bits = w.bits } in
    zones (moving v m ≡ (eqb m n || accepted w m)) w.low m
    (λ h. moving-below v m (omega arith) ∙ sym (not-n m n _ (omega arith) ∙ accepted-below w m h))
    (λ h. moving-below v m (omega arith) ∙ sym (is-n m n _ (omega arith)))
    (λ h k. moving-place v m (omega arith) (omega arith) ∙ sym (not-n m n _ (omega arith) ∙ accepted-place w m h (omega arith)))
    (λ h. moving-place v m (omega arith) (omega arith) ∙ sym (not-n m n _ (omega arith) ∙ accepted-place w m (omega arith) (omega arith)))
    (λ h. moving-above v m (omega arith) ∙ sym (not-n m n _ (omega arith) ∙ accepted-above w m h))

-- n is above low, and its place clear
with-place-accepts : (w : ReliableWindow) (n m : ℕ) → Sized w → w.low < n → n ≤ w.low + window_places → place_set w.bits n ≡ false
    → accepted (with_place w n) m ≡ (eqb m n || accepted w m)
with-place-accepts w n m s p q z =
    zones (accepted (with_place w n) m ≡ (eqb m n || accepted w m)) w.low m
    (λ h. accepted-below (with_place w n) m h ∙ sym (not-n m n _ (omega arith) ∙ accepted-below w m h))
    (λ h. accepted-low (with_place w n) m h ∙ sym (not-n m n _ (omega arith) ∙ accepted-low w m h))
    (λ h k. within h (omega arith) (ℕ_discrete m n))
    (λ h. within (omega arith) (omega arith) (ℕ_discrete m n))
    (λ h. accepted-above (with_place w n) m h ∙ sym (not-n m n _ (omega arith) ∙ accepted-above w m h))
  where
    within : w.low < m → m ≤ w.low + window_places → Dec (m ≡ n) → accepted (with_place w n) m ≡ (eqb m n || accepted w m)
    within h k (yes e) = accepted-place (with_place w n) m h k ∙ set_same w.bits n s z m (omega arith) ∙ sym (is-n m n _ e)
    within h k (no d) = accepted-place (with_place w n) m h k ∙ set_other w.bits n s z m (omega arith)
        ∙ sym (not-n m n _ d ∙ accepted-place w m h k)

module _ (w : ReliableWindow) (n : ℕ) where
  accept-is-low : n ≡ w.low → accept w n ≡ advance window_places (record { low = following n; bits = w.bits })
  unfolding accept
  accept-is-low h = sym (eq_yes _ _ _ _ _ h refl)

  accept-is-place : (n ≡ w.low → ⊥) → accept w n ≡ with_place w n
  unfolding accept
  accept-is-place h = sym (eq_no _ _ _ _ _ h refl)

  pub accept-accepts : (m : ℕ) → Sized w → accepted w n ≡ false → n ≤ w.low + window_places → accepted (accept w n) m
      ≡ (eqb m n || accepted w m)
  accept-accepts m s t k = go (ℕ_discrete n w.low)
    where
      go : Dec (n ≡ w.low) → accepted (accept w n) m ≡ (eqb m n || accepted w m)
      go (yes e) = rw (accept-is-low e) (advance-keeps-accepted (record { low = following n; bits = w.bits }) m s ∙ after-low w n m e)
      go (no d) =
          let l : w.low ≤ n = low-le w n t in
          rw (accept-is-place d) (with-place-accepts w n m s (omega arith) k (place_clear w.low w.bits n t (omega arith) d))

  pub accept-sized : Sized w → Sized (accept w n)
  unfolding set_place
  accept-sized s = go (ℕ_discrete n w.low)
    where
      go : Dec (n ≡ w.low) → Sized (accept w n)
      go (yes e) = rw (accept-is-low e) (advance-sized window_places (record { low = following n; bits = w.bits }) s)
      go (no d) = rw (accept-is-place d) (simp length-set s)
