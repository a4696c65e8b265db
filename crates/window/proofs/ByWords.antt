-- The missing list and the highest accepted number, word by word, with the facts as the code finds them.
-- Assumes nothing.
use mathlib.Core.Path.{◌≡◌, ◌∙◌, sym, ap, refl}
use mathlib.Core.Bool.{Bool, true, false}
use mathlib.Core.List.{List, [], ◌∷◌, ◌++◌}
use Prim.Native.Nat.{ℕ, zero, suc, ◌+◌, ◌-◌, ◌*◌, ◌/◌, ◌%◌, ◌^◌, ◌<◌, ◌≤◌, min}
use native.Mathlib.Nat.{le_refl, add-zero, zero-add, suc-add, pow-suc}
use native.Mathlib.Decide.{dec_lt}
use native.Mathlib.Omega.{arith}
use mir.Syntax.{w64}
use lib.Bits.{bit_and}
use lib.Count.{count_trailing_zeros}
use Rattle.std.specs.Int.{bit_at, bit_not}
use Rattle.std.proofs.lemmas.Nat.Bits.{bit_at_lowest, bit_at-suc, bit_at-zero, bit_at-lt, bit_at_and, bit_at_not, bit_at_above}
use Rattle.std.proofs.lemmas.Nat.Bits.{bit_at_cat_high}
use Rattle.std.proofs.lemmas.Nat.Bits.{bit_at_mask_inside, bit_at_mask_below, bit_at_mask_above, same_from_bits}
use Rattle.base.specs.If.{if_true}
use Rattle.base.specs.Limits.{numbers24, window_places}
use Rattle.base.specs.Put.{and_then, Run}
use Rattle.base.proofs.Puts.{run_none, run-then, run-cons}
use Rattle.base.proofs.Runs.{Left, left_less, left-none}
use Rattle.window.specs.Places.{place_set}
use Rattle.window.specs.Window.{window_of, accepted}
use Rattle.window.specs.Missing.{highest, unless_accepted, missing_of, searched, missing}
use Rattle.window.specs.Words.{word_places, place_at, places_from, clear_of, ones_from}
use Rattle.window.specs.declared.ReliableWindow.{ReliableWindow}
use Rattle.window.proofs.Accepted.{accepted-low, accepted-place}
use Rattle.window.proofs.Missing.{highest-within, highest-is}
use Rattle.window.proofs.Places.{is_set, is-clear}
use Rattle.window.proofs.WordBits.{places-small, places-bit, ones_none, ones_odd, ones-even, ones-lowest}

-- ---- the numbers whose places are clear
module _ (bits : List ℕ) where
  place-one : (n : ℕ) → place_set bits n ≡ true → place_at bits n ≡ 1
  unfolding place_at
  place-one n t = is_set bits n t

  place-zero : (n : ℕ) → place_set bits n ≡ false → place_at bits n ≡ 0
  unfolding place_at
  place-zero n t = is-clear bits n t

  clear-join : (n a c : ℕ) → clear_of bits n (a + c) ≡ clear_of bits n a ++ clear_of bits (n + a) c
  unfolding clear_of if_true
  clear-join n zero c = rw (zero-add, add-zero)
  clear-join n (suc a) c =
      let e : n + suc a ≡ suc n + a = omega arith in
      rw (suc-add, e) (go (place_set bits n) (clear-join (suc n) a c))
    where
      go : (t : Bool) → clear_of bits (suc n) (a + c) ≡ clear_of bits (suc n) a ++ clear_of bits (suc n + a) c
          → if_true t (clear_of bits (suc n) (a + c)) (n ∷ clear_of bits (suc n) (a + c))
          ≡ if_true t (clear_of bits (suc n) a) (n ∷ clear_of bits (suc n) a) ++ clear_of bits (suc n + a) c
      go true h = h
      go false h = ap (λ (l : List ℕ). n ∷ l) h

  clear_none : (n : ℕ) → clear_of bits n 0 ≡ []
  unfolding clear_of
  clear_none n = refl

  clear-last : (n c : ℕ) → clear_of bits n (suc c) ≡ clear_of bits n c ++ if_true (place_set bits (n + c)) [] ((n + c) ∷ [])
  unfolding clear_of
  clear-last n c = let d : suc c ≡ c + 1 = omega arith in ap (clear_of bits n) d ∙ clear-join n c 1

  -- they are the numbers of the bits that are 1, where the d bits from lo on are 1 for the clear places and all others are 0
  ones-low : (n d k x : ℕ) → ((i : ℕ) → i < d → bit_at x i ≡ 1 - place_at bits (n + i)) → ((i : ℕ) → d ≤ i → bit_at x i ≡ 0)
      → ones_from n (d + k) x ≡ clear_of bits n d
  unfolding clear_of if_true
  ones-low n zero k x g h =
      let z : x ≡ 0 = same_from_bits x 0 (λ i. h i (omega arith) ∙ sym (bit_at-zero i)) in
      rw (z, zero-add) (ones_none n k)
  ones-low n (suc d) k x g h =
      rw suc-add (go (place_set bits n) refl
      (ones-low (suc n) d k (x / 2) (λ i l. half i (g (suc i) (omega arith))) (λ i l. sym (bit_at-suc x i) ∙ h (suc i) (omega arith))))
    where
      half : (i : ℕ) → bit_at x (suc i) ≡ 1 - place_at bits (n + suc i) → bit_at (x / 2) i ≡ 1 - place_at bits (suc n + i)
      half i e = let m : n + suc i ≡ suc n + i = omega arith in rw (← m) (sym (bit_at-suc x i) ∙ e)

      first : x % 2 ≡ 1 - place_at bits n
      first = let e = g zero (omega arith) in sym (bit_at_lowest x) ∙ rw add-zero at e

      go : (t : Bool) → place_set bits n ≡ t → ones_from (suc n) (d + k) (x / 2) ≡ clear_of bits (suc n) d
          → ones_from n (suc (d + k)) x ≡ if_true t (clear_of bits (suc n) d) (n ∷ clear_of bits (suc n) d)
      go true t e = ones-even n (d + k) x (omega (arith, first, place-one n t)) ∙ e
      go false t e = ones_odd n (d + k) x (omega (arith, first, place-zero n t)) ∙ ap (λ (l : List ℕ). n ∷ l) e

  ones-clear : (n lo d k x : ℕ) → ((i : ℕ) → i < lo → bit_at x i ≡ 0)
      → ((i : ℕ) → lo ≤ i → i < lo + d → bit_at x i ≡ 1 - place_at bits (n + i)) → ((i : ℕ) → lo + d ≤ i → bit_at x i ≡ 0)
      → ones_from n (lo + (d + k)) x ≡ clear_of bits (n + lo) d
  ones-clear n zero d k x f g h =
      rw (zero-add, add-zero) (ones-low n d k x (λ i l. g i (omega arith) (omega arith)) (λ i l. h i (omega arith)))
  ones-clear n (suc lo) d k x f g h =
      let z : x % 2 ≡ 0 = sym (bit_at_lowest x) ∙ f zero (omega arith) in
      let e : n + suc lo ≡ suc n + lo = omega arith in
      rw (suc-add, e) (ones-even n (lo + (d + k)) x z ∙ ones-clear (suc n) lo d k (x / 2)
      (λ i l. sym (bit_at-suc x i) ∙ f (suc i) (omega arith))
      (λ i l m. let q : suc n + i ≡ n + suc i = omega arith in rw q (sym (bit_at-suc x i) ∙ g (suc i) (omega arith) (omega arith)))
      (λ i l. sym (bit_at-suc x i) ∙ h (suc i) (omega arith)))

-- ---- put one by one, the lowest first
module _ (p n : ℕ) (bs l : List ℕ) (x q : ℕ) (L : List ℕ) (a : Left p bs l q (ones_from n word_places x) L) where
  pub lowest-put : 0 < x → x < 2 ^ 64 → (r : ℕ) (M : List ℕ) → Run q ((n + count_trailing_zeros word_places x) ∷ []) L r M
      → Left p bs l r (ones_from n word_places (bit_and x (x - 1))) M
  unfolding and_then
  lowest-put h f r M b =
      let y = rw (ones-lowest n word_places x h f) at a in
      left_less p bs l q ((n + count_trailing_zeros word_places x) ∷ []) (ones_from n word_places (bit_and x (x - 1))) L r M b y

  pub all-put : x ≤ 0 → Run p bs l q L
  all-put h = let z : x ≡ 0 = omega arith in left-none p bs l q _ L (rw z (ones_none n word_places)) a

-- ---- a word w of the places from n on, and m, which has the bits from lo on and below hi
module _ (bits : List ℕ) (n lo hi m w : ℕ) (o : lo ≤ hi) (t : hi ≤ word_places) (e : m ≡ 2 ^ hi - 2 ^ lo)
    (f : w ≡ places_from bits n word_places) where
  inside : (v i : ℕ) → lo ≤ i → i < hi → bit_at (bit_and m v) i ≡ bit_at v i
  inside v i a b = rw e (omega (arith, bit_at_and (2 ^ hi - 2 ^ lo) v i, bit_at_mask_inside lo hi i a b, bit_at-lt v i))

  below : (v i : ℕ) → i < lo → bit_at (bit_and m v) i ≡ 0
  below v i a = rw e (omega (arith, bit_at_and (2 ^ hi - 2 ^ lo) v i, bit_at_mask_below lo hi i a))

  above : (v i : ℕ) → hi ≤ i → bit_at (bit_and m v) i ≡ 0
  above v i a = rw e (omega (arith, bit_at_and (2 ^ hi - 2 ^ lo) v i, bit_at_mask_above lo hi i a))

  -- the numbers whose places are clear
  pub word-clear : ones_from n word_places (bit_and m (bit_not w64 w)) ≡ clear_of bits (n + lo) (hi - lo)
  word-clear =
      let d : word_places ≡ lo + (hi - lo + (word_places - hi)) = omega arith in
      ap (λ (c : ℕ). ones_from n c (bit_and m (bit_not w64 w))) d
      ∙ ones-clear bits n lo (hi - lo) (word_places - hi) (bit_and m (bit_not w64 w)) (below (bit_not w64 w))
      (λ i a b. inside (bit_not w64 w) i a (omega arith) ∙ bit_at_not w64 w i (rw f (places-small bits n word_places)) (omega arith)
      ∙ rw (f, places-bit bits n word_places i (omega arith)))
      (λ i a. above (bit_not w64 w) i (omega arith))

  -- those whose places are set
  pub word_set : (i : ℕ) → lo ≤ i → i < hi → bit_at (bit_and m w) i ≡ place_at bits (n + i)
  word_set i a b = inside w i a b ∙ rw (f, places-bit bits n word_places i (omega arith))

-- ---- the numbers above low, word by word: the first of from..to, those before the word n
pub above-none : (bits : List ℕ) (from k p : ℕ) (l : List ℕ) → k ≡ 0 → Run p (clear_of bits from k) l p l
above-none bits from k p l e = run_none p (clear_of bits from k) l (rw e (clear_none bits from))

module _ (bits : List ℕ) (from to p : ℕ) (l : List ℕ) where
  pub above-more : (j m w q : ℕ) (L : List ℕ) (r : ℕ) (M : List ℕ) → from < (j + 1) * word_places → j * word_places < to → from ≤ to
      → m ≡ 2 ^ min word_places (to - j * word_places) - 2 ^ (from - j * word_places) → w ≡ places_from bits (j * word_places) word_places
      → Run p (clear_of bits from (min (j * word_places) to - from)) l q L
      → Run q (ones_from (j * word_places) word_places (bit_and m (bit_not w64 w))) L r M
      → Run p (clear_of bits from (min ((j + 1) * word_places) to - from)) l r M
  unfolding and_then
  above-more j m w q L r M k h o e f a b =
      let n : ℕ = j * word_places in
      let c : ℕ = min word_places (to - n) - (from - n) in
      let d : min ((j + 1) * word_places) to - from ≡ min n to - from + c = omega arith in
      let g : from + (min n to - from) ≡ n + (from - n) = omega arith in
      let y = rw (word-clear bits n (from - n) (min word_places (to - n)) m w (omega arith) (omega arith) e f) at b in
      rw (d, clear-join bits from (min n to - from) c, g)
      (run-then p (clear_of bits from (min n to - from)) (clear_of bits (n + (from - n)) c) l q L r M a y)

module _ (w : ReliableWindow) where
  missing-clear : (c : ℕ) → c ≤ window_places → missing_of w (suc c) ≡ w.low ∷ clear_of w.bits (w.low + 1) c
  unfolding missing_of and_then unless_accepted if_true
  missing-clear zero h = rw (add-zero, accepted-low w w.low refl, clear_none)
  missing-clear (suc c) h =
      let n : w.low + suc c ≡ w.low + 1 + c = omega arith in
      let a : accepted w (w.low + suc c) ≡ place_set w.bits (w.low + 1 + c) =
      accepted-place w (w.low + suc c) (omega arith) (omega arith) ∙ ap (place_set w.bits) n in
      rw (missing-clear c (omega arith), a, n, clear-last w.bits (w.low + 1) c)

  -- the whole list: low, and the clear ones above it; or nothing
  module _ (h end : ℕ) (f : h ≡ highest w window_places) (g : end ≡ min h (numbers24 - w.low)) where
    end_is : end ≡ min (highest w window_places) (numbers24 - w.low)
    end_is = rw f at g

    pub end-small : end ≤ window_places
    end-small =
        omega (arith, highest-within w window_places, end_is)

    pub list-empty : end ≡ 0 → (l : List ℕ) → Run 0 (missing w) l 0 l
    unfolding missing missing_of
    list-empty z l = run_none 0 _ l (ap (missing_of w) (sym end_is ∙ z))

    pub list-whole : (end ≡ 0 → ⊥) → (l : List ℕ) (q : ℕ) (L : List ℕ) (r : ℕ) (M : List ℕ) → Run 0 (w.low ∷ []) l q L
        → Run q (clear_of w.bits (w.low + 1) (end - 1)) L r M → Run 0 (missing w) l r M
    unfolding missing
    list-whole z l q L r M a b =
        let d : searched w ≡ suc (end - 1) = omega (arith, end_is) in
        rw (d, missing-clear (end - 1) (omega (arith, end-small)))
        (run-cons 0 w.low (clear_of w.bits (w.low + 1) (end - 1)) l q L r M a b)

-- ---- the highest accepted number, word by word from the last one down: s is the set places of from..to of the word n
module _ (bits : List ℕ) (x : ℕ) where
  clear-place_set : place_at bits x ≡ 0 → place_set bits x ≡ false
  clear-place_set e = go (place_set bits x) refl
    where
      go : (t : Bool) → place_set bits x ≡ t → t ≡ false
      go true f = absurd (omega (arith, place-one bits x f))
      go false f = refl

  set-place_set : place_at bits x ≡ 1 → place_set bits x ≡ true
  set-place_set e = go (place_set bits x) refl
    where
      go : (t : Bool) → place_set bits x ≡ t → t ≡ true
      go true f = refl
      go false f = absurd (omega (arith, place-zero bits x f))

module _ (bits : List ℕ) (low n m w s : ℕ) (k : low + 1 < n + word_places) (h : n < low + 1 + window_places)
    (e : m ≡ 2 ^ min word_places (low + 1 + window_places - n) - 2 ^ (low + 1 - n)) (f : w ≡ places_from bits n word_places)
    (g : s ≡ bit_and m w)
    (after : (x : ℕ) → low + 1 ≤ x → n + word_places ≤ x → x < low + 1 + window_places → place_set bits x ≡ false) where
  kept : (i : ℕ) → low + 1 ≤ n + i → n + i < low + 1 + window_places → i < word_places → bit_at s i ≡ place_at bits (n + i)
  kept i a b c = rw g (word_set bits n _ _ m w (omega arith) (omega arith) e f i (omega arith) (omega arith))

  before : (i : ℕ) → n + i < low + 1 → bit_at s i ≡ 0
  before i a = rw g (below bits n _ _ m w (omega arith) (omega arith) e f w i (omega arith))

  beyond : (i : ℕ) → low + 1 + window_places ≤ n + i → bit_at s i ≡ 0
  beyond i a = rw g (above bits n _ _ m w (omega arith) (omega arith) e f w i (omega arith))

  -- the places of this word and of those above it are clear, where no bit of it from i on is 1
  clear-on : (i : ℕ) → ((j : ℕ) → i ≤ j → bit_at s j ≡ 0) → (x : ℕ) → low + 1 ≤ x → n + i ≤ x → x < low + 1 + window_places
      → place_set bits x ≡ false
  clear-on i z x a b c = go (dec_lt x (n + word_places))
    where
      go : Dec (x < n + word_places) → place_set bits x ≡ false
      go (yes l) =
          let y : n + (x - n) ≡ x = omega arith in
          let p = kept (x - n) (omega arith) (omega arith) (omega arith) in
          clear-place_set bits x (sym (rw y at p) ∙ z (x - n) (omega arith))
      go (no l) = after x a (omega arith) c

  pub highest-on : s ≡ 0 → (x : ℕ) → low + 1 ≤ x → n ≤ x → x < low + 1 + window_places → place_set bits x ≡ false
  highest-on z x a b c = clear-on 0 (λ j _. rw z (bit_at-zero j)) x a (omega arith) c

  module _ (t : ℕ) (lower : 2 ^ t ≤ s) (upper : s < 2 * 2 ^ t) (short : t < word_places) where
    top : bit_at s t ≡ 1
    top =
        let d : 1 * 2 ^ t + (s - 2 ^ t) ≡ s = omega arith in
        let z : t - t ≡ 0 = omega arith in
        let p = bit_at_cat_high 1 t (s - 2 ^ t) t (omega arith) (le_refl t) in
        rw d at (rw z at p)

    pub found-above : low < n + t
    found-above = go (dec_lt (n + t) (low + 1))
      where
        go : Dec (n + t < low + 1) → low < n + t
        go (yes l) = absurd (omega (arith, top, before t l))
        go (no l) = omega arith

    found-within : n + t < low + 1 + window_places
    found-within = go (dec_lt (n + t) (low + 1 + window_places))
      where
        go : Dec (n + t < low + 1 + window_places) → n + t < low + 1 + window_places
        go (yes l) = l
        go (no l) = absurd (omega (arith, top, beyond t (omega arith)))

    pub highest-found : n + t - low ≡ highest (window_of low bits) window_places
    highest-found =
        let y : low + (n + t - low) ≡ n + t = omega (arith, found-above) in
        let u : s < 2 ^ suc t = omega (arith, pow-suc 2 t) in
        highest-is (window_of low bits) window_places (n + t - low) (omega (arith, found-within))
        (λ _. rw y (set-place_set bits (n + t) (sym (kept t (omega (arith, found-above)) found-within short) ∙ top)))
        (λ i a b. clear-on (suc t) (λ j q. bit_at_above s (suc t) j u q) (low + i) (omega arith) (omega arith) (omega arith))

pub highest-none : (bits : List ℕ) (low k : ℕ) → k ≤ low + 1
    → ((x : ℕ) → low + 1 ≤ x → k ≤ x → x < low + 1 + window_places → place_set bits x ≡ false)
    → 0 ≡ highest (window_of low bits) window_places
highest-none bits low k h c =
    highest-is (window_of low bits) window_places 0 (omega arith) (λ a. absurd (omega arith))
    (λ i a b. c (low + i) (omega arith) (omega arith) (omega arith))
