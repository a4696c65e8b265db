-- The laws of the missing list: which numbers it has, that they ascend, and how many they are.
-- Assumes nothing.
use mathlib.Core.Path.{◌≡◌, ◌∙◌, sym, ap, refl, subst}
use mathlib.Core.Bool.{Bool, true, false, true≢false}
use mathlib.Core.Logic.{◌↔◌, ◌⊎◌, inl, inr}
use mathlib.Core.List.Memᴰ
use mathlib.Core.List.{List, [], ◌∷◌, ◌++◌, append-nil, Memᴰ}
use Prim.Native.Nat.{ℕ, zero, suc, ◌+◌, ◌-◌, ◌<◌, ◌≤◌, zero-le}
use native.Mathlib.Nat.{le_refl, not-suc-le-zero, add-suc}
use native.Mathlib.Decide.{ℕ_discrete, dec_lt}
use native.Mathlib.Omega.{arith}
use lib.ListN.{length, get_or, length-append, get_or-append}
use lib.Seq.{get_or-append_seam}
use Rattle.base.specs.If.{if_true}
use Rattle.base.specs.Limits.{numbers24, window_places}
use Rattle.base.specs.Put.{and_then}
use Rattle.window.specs.Places.{place_set}
use Rattle.window.specs.Window.{accepted}
use Rattle.window.specs.Missing.{highest, unless_accepted, missing_of, searched, missing}
use Rattle.window.specs.Proper.{Proper}
use Rattle.window.specs.declared.ReliableWindow.{ReliableWindow}
use Rattle.window.proofs.Accepted.{accepted-place, accepted-above, low-le}
use Rattle.window.proofs.Laws.{low_first, proper-accepted}

-- ---- the highest accepted number
module _ (w : ReliableWindow) where
  pub highest-within : (k : ℕ) → highest w k ≤ k
  unfolding highest if_true
  highest-within zero = le_refl 0
  highest-within (suc k) = go (place_set w.bits (w.low + suc k)) (highest-within k)
    where
      go : (t : Bool) → highest w k ≤ k → if_true t (suc k) (highest w k) ≤ suc k
      go true h = le_refl (suc k)
      go false h = omega arith

  highest-set : (k : ℕ) → 0 < highest w k → place_set w.bits (w.low + highest w k) ≡ true
  unfolding highest if_true
  highest-set zero = λ h. absurd (not-suc-le-zero h)
  highest-set (suc k) = go (place_set w.bits (w.low + suc k)) refl (highest-set k)
    where
      go : (t : Bool) → place_set w.bits (w.low + suc k) ≡ t → (0 < highest w k → place_set w.bits (w.low + highest w k) ≡ true)
          → 0 < if_true t (suc k) (highest w k) → place_set w.bits (w.low + if_true t (suc k) (highest w k)) ≡ true
      go true e later h = e
      go false e later h = later h

  above-highest : (k i : ℕ) → i ≤ k → highest w k < i → place_set w.bits (w.low + i) ≡ false
  unfolding highest if_true
  above-highest zero i h = λ l. absurd (omega arith)
  above-highest (suc k) i h = go (place_set w.bits (w.low + suc k)) refl (ℕ_discrete i (suc k)) (above-highest k i)
    where
      go : (t : Bool) → place_set w.bits (w.low + suc k) ≡ t → Dec (i ≡ suc k)
          → (i ≤ k → highest w k < i → place_set w.bits (w.low + i) ≡ false)
          → if_true t (suc k) (highest w k) < i → place_set w.bits (w.low + i) ≡ false
      go true e d later l = absurd (omega arith)
      go false e (yes d) later l = rw d e
      go false e (no d) later l = later (omega arith) l

  -- it is the only one that is set, or 0, and has none above it that is set
  pub highest-is : (k h : ℕ) → h ≤ k → (0 < h → place_set w.bits (w.low + h) ≡ true)
      → ((i : ℕ) → h < i → i ≤ k → place_set w.bits (w.low + i) ≡ false) → h ≡ highest w k
  highest-is k h l s c = go (dec_lt h (highest w k)) (dec_lt (highest w k) h)
    where
      go : Dec (h < highest w k) → Dec (highest w k < h) → h ≡ highest w k
      go (yes a) b = absurd (true≢false (sym (highest-set k (omega arith)) ∙ c (highest w k) a (highest-within k)))
      go (no a) (yes b) = absurd (true≢false (sym (s (omega arith)) ∙ above-highest k h l b))
      go (no a) (no b) = omega arith

-- an accepted number above low is at most the highest, and the highest is accepted
module _ (w : ReliableWindow) where
  pub accepted-within-highest : (x : ℕ) → w.low < x → accepted w x ≡ true → x ≤ w.low + highest w window_places
  accepted-within-highest x h t = go (dec_lt (w.low + highest w window_places) x)
    where
      never : accepted w x ≡ false → x ≤ w.low + highest w window_places
      never f = absurd (true≢false (sym t ∙ f))

      go : Dec (w.low + highest w window_places < x) → x ≤ w.low + highest w window_places
      go (no k) = omega arith
      go (yes k) = far (dec_lt (w.low + window_places) x)
        where
          far : Dec (w.low + window_places < x) → x ≤ w.low + highest w window_places
          far (yes b) = never (accepted-above w x b)
          far (no b) =
              let e : w.low + (x - w.low) ≡ x = omega arith in
              never (accepted-place w x h (omega arith) ∙ (rw e at (above-highest w window_places (x - w.low) (omega arith) (omega arith))))

  pub highest-accepted : 0 < highest w window_places → accepted w (w.low + highest w window_places) ≡ true
  highest-accepted h =
      let k : highest w window_places ≤ window_places = highest-within w window_places in
      accepted-place w (w.low + highest w window_places) (omega arith) (omega arith) ∙ highest-set w window_places h

-- ---- the numbers never accepted of the first k from low on
module _ (w : ReliableWindow) where
  one-member : (n m : ℕ) → Memᴰ m (unless_accepted w n) ↔ (m ≡ n) × (accepted w m ≡ false)
  unfolding unless_accepted if_true
  one-member n m = (go (accepted w n) refl, λ e. back (accepted w n) (ap (accepted w) (sym e.0) ∙ e.1) e.0)
    where
      go : (t : Bool) → accepted w n ≡ t → Memᴰ m (if_true t [] (n ∷ [])) → (m ≡ n) × (accepted w m ≡ false)
      go true e i = absurd (Memᴰ.not-nil i)
      go false e i = let d : m ≡ n = Memᴰ.eq_of_singleton i in (d, ap (accepted w) d ∙ e)

      back : (t : Bool) → t ≡ false → m ≡ n → Memᴰ m (if_true t [] (n ∷ []))
      back true e d = absurd (true≢false e)
      back false e d = Memᴰ.head d

  -- what a member of the list is
  abbrev Lacking : ℕ → ℕ → Type 0
  Lacking k m = (w.low ≤ m) × (m < w.low + k) × (accepted w m ≡ false)

  member_of : (k m : ℕ) → Memᴰ m (missing_of w k) ↔ Lacking k m
  unfolding missing_of and_then
  member_of zero m = (λ i. absurd (Memᴰ.not-nil i), λ e. absurd (omega arith))
  member_of (suc k) m = (
    λ i. there (member_of k m).0 (Memᴰ.append_cases (missing_of w k) i),
    back (member_of k m).1
        (ℕ_discrete m (w.low + k)),
  )
    where
      there : (Memᴰ m (missing_of w k) → Lacking k m) → Memᴰ m (missing_of w k) ⊎ Memᴰ m (unless_accepted w (w.low + k))
          → Lacking (suc k) m
      there later (inl i) = let e : Lacking k m = later i in (e.0, omega arith, e.2)
      there later (inr i) = let e : (m ≡ w.low + k) × (accepted w m ≡ false) = (one-member (w.low + k) m).0 i in
          (omega arith, omega arith, e.1)

      back : (Lacking k m → Memᴰ m (missing_of w k)) → Dec (m ≡ w.low + k) → Lacking (suc k) m
          → Memᴰ m (missing_of w k ++ unless_accepted w (w.low + k))
      back later (yes d) e = Memᴰ.append_right (missing_of w k) ((one-member (w.low + k) m).1 (d, e.2))
      back later (no d) e = Memᴰ.append_left (unless_accepted w (w.low + k)) (later (e.0, omega arith, e.2))

  length-one : (n : ℕ) → length (unless_accepted w n) ≤ 1
  unfolding unless_accepted if_true
  length-one n = go (accepted w n)
    where
      go : (t : Bool) → length (if_true t [] (n ∷ [])) ≤ 1
      go true = zero-le
      go false = le_refl 1

  length-of : (k : ℕ) → length (missing_of w k) ≤ k
  unfolding missing_of and_then
  length-of zero = le_refl 0
  length-of (suc k) = simp length-append (omega (arith, length-of k, length-one (w.low + k)))

-- a list ascends, and all its numbers are below b
record Ascends (l : List ℕ) (b : ℕ) : Type 0 where
  below : (i : ℕ) → i < length l → get_or l i 0 < b
  rises : (i j : ℕ) → i < j → j < length l → get_or l i 0 < get_or l j 0

ascends-wider : (l : List ℕ) (b : ℕ) → Ascends l b → Ascends l (suc b)
ascends-wider l b a = record { below = λ i h. omega (arith, a.below i h); rises = a.rises }

ascends-one : (l : List ℕ) (b : ℕ) → Ascends l b → Ascends (l ++ (b ∷ [])) (suc b)
ascends-one l b a = record {
  below = λ i h. below i (dec_lt i (length l)) (simp length-append at h);
  rises = λ i j h k. rises i j h (dec_lt j (length l)) (simp length-append at k);
}
  where
    old : (i : ℕ) → i < length l → get_or (l ++ (b ∷ [])) i 0 ≡ get_or l i 0
    old i h = get_or-append l (b ∷ []) 0 i h

    last : (i : ℕ) → i ≡ length l → get_or (l ++ (b ∷ [])) i 0 ≡ b
    last i e = rw e (get_or-append_seam l b [] 0)

    below : (i : ℕ) → Dec (i < length l) → i < length l + 1 → get_or (l ++ (b ∷ [])) i 0 < suc b
    below i (yes h) k = omega (arith, old i h, a.below i h)
    below i (no h) k = omega (arith, last i (omega arith))

    rises : (i j : ℕ) → i < j → Dec (j < length l) → j < length l + 1 → get_or (l ++ (b ∷ [])) i 0 < get_or (l ++ (b ∷ [])) j 0
    rises i j h (yes k) q = omega (arith, old i (omega arith), old j k, a.rises i j h k)
    rises i j h (no k) q = omega (arith, old i (omega arith), last j (omega arith), a.below i (omega arith))

ascends-of : (w : ReliableWindow) (k : ℕ) → Ascends (missing_of w k) (w.low + k)
unfolding missing_of and_then unless_accepted if_true
ascends-of w zero = record { below = λ i h. absurd (not-suc-le-zero h); rises = λ i j h k. absurd (not-suc-le-zero k) }
ascends-of w (suc k) = rw add-suc (go (accepted w (w.low + k)) (ascends-of w k))
  where
    go : (t : Bool) → Ascends (missing_of w k) (w.low + k) → Ascends (missing_of w k ++ if_true t [] ((w.low + k) ∷ [])) (suc (w.low + k))
    go true a = rw append-nil (ascends-wider (missing_of w k) (w.low + k) a)
    go false a = ascends-one (missing_of w k) (w.low + k) a

-- ---- the missing list
module _ (w : ReliableWindow) where
  searched-highest : searched w ≤ highest w window_places
  searched-highest = omega arith

  -- m is missing exactly where it was never accepted and some number above it was
  pub missing-member : Proper w → (m : ℕ) → Memᴰ m (missing w) ↔ (accepted w m ≡ false) × ((x : ℕ) × (m < x) × (accepted w x ≡ true))
  unfolding missing
  missing-member p m = (λ i. there ((member_of w (searched w) m).0 i), λ e. (member_of w (searched w) m).1 (back e))
    where
      there : Lacking w (searched w) m → (accepted w m ≡ false) × ((x : ℕ) × (m < x) × (accepted w x ≡ true))
      there e = let h = searched-highest in (e.2, (w.low + highest w window_places, omega arith, highest-accepted w (omega arith)))

      back : (accepted w m ≡ false) × ((x : ℕ) × (m < x) × (accepted w x ≡ true)) → Lacking w (searched w) m
      back e =
          let l : w.low ≤ m = low-le w m e.0 in
          let a : e.1.0 ≤ w.low + highest w window_places = accepted-within-highest w e.1.0 (omega arith) e.1.2 in
          let b : e.1.0 < numbers24 = proper-accepted w p e.1.0 e.1.2 in
          let s : m - w.low < searched w = omega arith in
          (l, omega arith, e.0)

  -- the missing numbers ascend
  pub missing-ascends : (i j : ℕ) → i < j → j < length (missing w) → get_or (missing w) i 0 < get_or (missing w) j 0
  unfolding missing
  missing-ascends i j h q = (ascends-of w (searched w)).rises i j h q

  -- they are at most 2,048
  pub missing-length : length (missing w) ≤ window_places
  unfolding missing
  missing-length = omega (arith, length-of w (searched w), searched-highest, highest-within w window_places)

  -- each is below 2^24, in every window
  pub missing-limit : (m : ℕ) → Memᴰ m (missing w) → m < numbers24
  unfolding missing
  missing-limit m i =
      let e : Lacking w (searched w) m = (member_of w (searched w) m).0 i in
      omega arith

  -- none is missing exactly where no number above low is accepted
  pub missing-none : Proper w → missing w ≡ [] ↔ ((x : ℕ) → w.low < x → accepted w x ≡ false)
  missing-none p = (λ e x h. none e x h (accepted w x) refl, λ f. empty (missing w) (λ m i. some f m i))
    where
      none : missing w ≡ [] → (x : ℕ) → w.low < x → (t : Bool) → accepted w x ≡ t → t ≡ false
      none e x h true t =
          absurd (Memᴰ.not-nil (subst (λ (l : List ℕ). Memᴰ w.low l) e
          ((missing-member p w.low).1 ((low_first w).0, (x, h, t)))))
      none e x h false t = refl

      some : ((x : ℕ) → w.low < x → accepted w x ≡ false) → (m : ℕ) → Memᴰ m (missing w) → ⊥
      some f m i =
          let e = (missing-member p m).0 i in
          let l : w.low ≤ m = low-le w m e.0 in
          true≢false (sym e.1.2 ∙ f e.1.0 (omega (arith, e.1.1)))

      empty : (l : List ℕ) → ((m : ℕ) → Memᴰ m l → ⊥) → l ≡ []
      empty [] f = refl
      empty (x ∷ l) f = absurd (f x (Memᴰ.head refl))
