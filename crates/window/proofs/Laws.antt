-- The laws of insert that others cite.
-- Assumes nothing.
use mathlib.Core.Path.{◌≡◌, ◌∙◌, sym, refl}
use mathlib.Core.Bool.{Bool, true, false, true≢false, ◌||◌}
use mathlib.Core.Logic.{◌↔◌}
use Prim.Native.Nat.{ℕ, ◌+◌, ◌<◌, ◌≤◌}
use native.Mathlib.Nat.{le_refl, lt_irrefl}
use native.Mathlib.Decide.{dec_lt}
use native.Mathlib.Omega.{arith}
use lib.Dec.{eqb}
use lib.ListN.{length-replicate}
use Rattle.base.specs.Answer.{Answer, refused, gives}
use Rattle.base.specs.Limits.{numbers24, window_places}
use Rattle.window.specs.Places.{place_set}
use Rattle.window.specs.Window.{new_window, accepted, Insertion, insert_of}
use Rattle.window.specs.Proper.{Sized, Proper}
use Rattle.window.specs.declared.ReliableWindow.{ReliableWindow}
use Rattle.window.proofs.Accepted.{accepted-below, accepted-low, accepted-place, accepted-above, zones}
use Rattle.window.proofs.Places.{new-clear}
use Rattle.window.proofs.Inserts.{insert-ways, accept-accepts, accept-sized}

-- ---- the answer, for every window
other-number : {A X : Type 0} (a b : ℕ) → (a ≡ b → ⊥) → ◌≡◌ {A = Answer A} (refused a) (refused b) → X
other-number a b d e = absurd (d (cc))

never-refused : {A X : Type 0} (x : A) (b : ℕ) → gives x ≡ refused b → X
never-refused x b e = absurd (let z : ◌≡◌ {A = ℕ} 0 1 = cc in omega arith)

module _ (w : ReliableWindow) (n : ℕ) where
  -- 13 exactly for a number of 2^24 or more
  pub answer-13 : (insert_of w n).answer ≡ refused 13 ↔ numbers24 ≤ n
  answer-13 =
      insert-ways w n (λ (r : Insertion). r.answer ≡ refused 13 ↔ numbers24 ≤ n)
      (λ h. (λ e. h, λ k. refl))
      (λ h t. (other-number 4 13 (omega arith), λ k. absurd (omega arith)))
      (λ h t b. (other-number 5 13 (omega arith), λ k. absurd (omega arith)))
      (λ h t b. (never-refused tt 13, λ k. absurd (omega arith)))

  -- 4 exactly for another that was accepted before
  pub answer-4 : (insert_of w n).answer ≡ refused 4 ↔ (n < numbers24) × (accepted w n ≡ true)
  answer-4 =
      insert-ways w n (λ (r : Insertion). r.answer ≡ refused 4 ↔ (n < numbers24) × (accepted w n ≡ true))
      (λ h. (other-number 13 4 (omega arith), λ k. absurd (omega arith)))
      (λ h t. (λ e. (h, t), λ k. refl))
      (λ h t b. (other-number 5 4 (omega arith), λ k. absurd (true≢false (sym k.1 ∙ t))))
      (λ h t b. (never-refused tt 4, λ k. absurd (true≢false (sym k.1 ∙ t))))

  -- 5 exactly for another above low + 2,048
  pub answer-5 : (insert_of w n).answer ≡ refused 5 ↔ (n < numbers24) × (w.low + window_places < n)
  answer-5 =
      insert-ways w n (λ (r : Insertion). r.answer ≡ refused 5 ↔ (n < numbers24) × (w.low + window_places < n))
      (λ h. (other-number 13 5 (omega arith), λ k. absurd (omega arith)))
      (λ h t. (other-number 4 5 (omega arith), λ k. absurd (true≢false (sym t ∙ accepted-above w n k.1))))
      (λ h t b. (λ e. (h, b), λ k. refl))
      (λ h t b. (never-refused tt 5, λ k. absurd (omega arith)))

  -- all others are accepted
  pub answer-given : (insert_of w n).answer ≡ gives tt ↔ (n < numbers24) × (accepted w n ≡ false) × (n ≤ w.low + window_places)
  answer-given =
      insert-ways w n (λ (r : Insertion). r.answer ≡ gives tt ↔ (n < numbers24) × (accepted w n ≡ false) × (n ≤ w.low + window_places))
      (λ h. (λ e. never-refused tt 13 (sym e), λ k. absurd (omega arith)))
      (λ h t. (λ e. never-refused tt 4 (sym e), λ k. absurd (true≢false (sym t ∙ k.1))))
      (λ h t b. (λ e. never-refused tt 5 (sym e), λ k. absurd (omega arith)))
      (λ h t b. (λ e. (h, t, b), λ k. refl))

  -- a refusal returns the window as it was
  pub refusal-keeps-window : (number : ℕ) → (insert_of w n).answer ≡ refused number → (insert_of w n).window ≡ w
  refusal-keeps-window number =
      insert-ways w n (λ (r : Insertion). r.answer ≡ refused number → r.window ≡ w)
      (λ h e. refl)
      (λ h t e. refl)
      (λ h t b e. refl)
      (λ h t b. never-refused tt number)

-- the number 2,048 above low is taken, unless it was accepted before or is 2^24 or more
pub reach-given : (w : ReliableWindow) → w.low + window_places < numbers24 → accepted w (w.low + window_places) ≡ false
    → (insert_of w (w.low + window_places)).answer ≡ gives tt
reach-given w h t = (answer-given w (w.low + window_places)).1 (h, t, le_refl (w.low + window_places))

-- the number after that one gets 5
pub past-reach-5 : (w : ReliableWindow) → w.low + window_places + 1 < numbers24
    → (insert_of w (w.low + window_places + 1)).answer ≡ refused 5
past-reach-5 w h = (answer-5 w (w.low + window_places + 1)).1 (h, omega arith)

-- ---- what is accepted, for every window of 256 bytes
-- low is the smallest number never accepted
pub low_first : (w : ReliableWindow) → (accepted w w.low ≡ false) × ((m : ℕ) → m < w.low → accepted w m ≡ true)
low_first w = (accepted-low w w.low refl, λ m h. accepted-below w m h)

-- after an insert that was not refused, accepted are the number inserted and those accepted before
pub insert-accepts : (w : ReliableWindow) (n m : ℕ) → Sized w → (insert_of w n).answer ≡ gives tt → accepted (insert_of w n).window m
    ≡ (eqb m n || accepted w m)
insert-accepts w n m s =
    insert-ways w n (λ (r : Insertion). r.answer ≡ gives tt → accepted r.window m ≡ (eqb m n || accepted w m))
    (λ h e. never-refused tt 13 (sym e))
    (λ h t e. never-refused tt 4 (sym e))
    (λ h t b e. never-refused tt 5 (sym e))
    (λ h t b e. accept-accepts w n m s t b)

-- a window of 256 bytes stays one
pub insert-sized : (w : ReliableWindow) (n : ℕ) → Sized w → Sized (insert_of w n).window
insert-sized w n s = insert-ways w n (λ (r : Insertion). Sized r.window) (λ h. s) (λ h t. s) (λ h t b. s) (λ h t b. accept-sized w n s)

-- nothing was accepted at first
pub new-accepts-none : (m : ℕ) → accepted new_window m ≡ false
unfolding new_window
new-accepts-none m =
    zones (accepted new_window m ≡ false) 0 m
    (λ h. absurd (omega arith))
    (λ h. accepted-low new_window m h)
    (λ h k. accepted-place new_window m h (omega arith) ∙ new-clear m)
    (λ h. accepted-place new_window m (omega arith) (omega arith) ∙ new-clear m)
    (λ h. accepted-above new_window m h)

-- ---- numbers of 2^24 or more
-- every number that a proper window accepted is below 2^24
pub proper-accepted : (w : ReliableWindow) → Proper w → (m : ℕ) → accepted w m ≡ true → m < numbers24
proper-accepted w p m t = go (dec_lt m numbers24)
  where
    never : accepted w m ≡ false → m < numbers24
    never f = absurd (true≢false (sym t ∙ f))

    go : Dec (m < numbers24) → m < numbers24
    go (yes h) = h
    go (no h) =
        let l : w.low ≤ numbers24 = p.low_limit in
        zones (m < numbers24) w.low m
        (λ k. omega arith)
        (λ k. never (accepted-low w m k))
        (λ k q. never (accepted-place w m k (omega arith) ∙ p.places_limit m k (omega arith) (omega arith)))
        (λ k. never (accepted-place w m (omega arith) (omega arith) ∙ p.places_limit m (omega arith) (omega arith) (omega arith)))
        (λ k. never (accepted-above w m k))

-- a window of which that holds is proper
pub accepted-proper : (w : ReliableWindow) → Sized w → ((m : ℕ) → accepted w m ≡ true → m < numbers24) → Proper w
accepted-proper w s b = record { sized = s; low_limit = low_limit; places_limit = places_limit }
  where
    low_limit : w.low ≤ numbers24
    low_limit = go (dec_lt numbers24 w.low)
      where
        go : Dec (numbers24 < w.low) → w.low ≤ numbers24
        go (yes h) = absurd (lt_irrefl numbers24 (b numbers24 (accepted-below w numbers24 h)))
        go (no h) = omega arith

    places_limit : (n : ℕ) → w.low < n → n ≤ w.low + window_places → numbers24 ≤ n → place_set w.bits n ≡ false
    places_limit n h k l = go (place_set w.bits n) refl
      where
        go : (t : Bool) → place_set w.bits n ≡ t → t ≡ false
        go true e = absurd (lt_irrefl numbers24 (let z : n < numbers24 = b n (accepted-place w n h k ∙ e) in omega arith))
        go false e = refl

-- a new window is proper
pub new-proper : Proper new_window
unfolding new_window
new-proper =
    accepted-proper new_window (length-replicate {A = ℕ} 256 0) (λ m t. absurd (true≢false (sym t ∙ new-accepts-none m)))
