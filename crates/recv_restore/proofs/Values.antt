-- The receiver's own values, read at fixed places.
-- Assumes nothing.
use Prim.Native.Nat.{ℕ, zero, suc, ◌+◌, ◌*◌, ◌-◌, ◌%◌, ◌≤◌, ◌<◌}
use mathlib.Core.Path.{◌≡◌, refl, sym, ◌∙◌, ap}
use mathlib.Core.Bool.{Bool, true, cond}
use mathlib.Core.List.{List, [], ◌∷◌, ◌++◌, map, map-append, append_assoc, append-nil}
use native.Mathlib.Omega.{arith}
use lib.Dec.{ltb}
use lib.ListN.{length, take, drop, set, replicate, length-map}
use Rattle.std.specs.Prelude.{Some}
use Rattle.base.specs.Bytes.{be64}
use Rattle.base.specs.Lists.{below}
use Rattle.window.specs.declared.ReliableWindow.{ReliableWindow}
use Rattle.window.specs.Places.{place_set}
use Rattle.image.specs.Windows.{eight, packed, window_from}
use Rattle.image.proofs.Windows.{packed-length}
use Rattle.image_read.specs.At.{place_after, values_at, window_at, channel_at}
use Rattle.receiver.specs.declared.Channel.{Channel}
use Rattle.receiver.specs.Restore.{channel_from}
use Rattle.recv_restore.specs.Fits.{Each, NumberCan, number_next}
use Rattle.recv_restore.specs.Front.{channels_from, numbers_at, Unsent}
use Rattle.recv_restore.proofs.Rows.{set-after}
use Rattle.recv_restore.proofs.Pieces.{narrow-at}
use Rattle.recv_restore.proofs.Messages.{values-length}

-- an array filled from its beginning
pub array-more : {A : Type 0} (done : List A) (n i : ℕ) (d x : A) → length done ≡ i → i < n
    → set (done ++ replicate (n - i) d) i x ≡ (done ++ (x ∷ [])) ++ replicate (n - (i + 1)) d
array-more done n i d x e lt =
    let k : n - i ≡ suc (n - (i + 1)) = omega arith in
    ap (λ (m : ℕ). set (done ++ replicate m d) i x) k
    ∙ (ap (λ (m : ℕ). set (done ++ (d ∷ replicate (n - (i + 1)) d)) m x) (sym e)
    ∙ (set-after done d (replicate (n - (i + 1)) d) x ∙ sym (append_assoc done (x ∷ []) (replicate (n - (i + 1)) d))))

-- values of k bytes each
module _ {A : Type 0} (at : ℕ → A) (k : ℕ) where
  pub place-fixed : (n p : ℕ) → place_after (λ q. q + k) n p ≡ p + k * n
  unfolding place_after
  place-fixed zero p = omega arith
  place-fixed (suc n) p = place-fixed n (p + k) ∙ omega arith

  pub values-more : (n p : ℕ) → values_at at (λ q. q + k) (n + 1) p ≡ values_at at (λ q. q + k) n p ++ (at (p + k * n) ∷ [])
  unfolding values_at
  values-more n p = let e : n + 1 ≡ suc n = omega arith in ap (λ (m : ℕ). values_at at (λ q. q + k) m p) e ∙ go n p
    where
      go : (n p : ℕ) → values_at at (λ q. q + k) (suc n) p ≡ values_at at (λ q. q + k) n p ++ (at (p + k * n) ∷ [])
      go zero p = let e : p ≡ p + k * 0 = omega arith in ap (λ (q : ℕ). at q ∷ []) e
      go (suc n) p = let e : p + k + k * n ≡ p + k * suc n = omega arith in
          ap {B = List A} (λ l. at p ∷ l) (go n (p + k) ∙ ap (λ (q : ℕ). values_at at (λ q. q + k) n (p + k) ++ (at q ∷ [])) e)

-- ---- a window's places
eight-from : (P : ℕ → Bool) (a b : ℕ) → eight P (a + b) ≡ eight (λ n. P (a + n)) b
unfolding eight
eight-from P a b = λ t.
    cond (P (a + b)) 1 0 + cond (P (q 1 t)) 2 0 + cond (P (q 2 t)) 4 0 + cond (P (q 3 t)) 8 0
    + cond (P (q 4 t)) 16 0 + cond (P (q 5 t)) 32 0 + cond (P (q 6 t)) 64 0 + cond (P (q 7 t)) 128 0
  where
    q : (j : ℕ) → a + b + j ≡ a + (b + j)
    q j = omega arith

module _ (places : List ℕ) (from : ℕ) where
  abbrev pub turned : ℕ → Bool
  turned n = place_set places (from + n)

  pub bits-begin : replicate 256 0 ≡ packed turned 0 ++ replicate (256 - 0) 0
  unfolding packed
  bits-begin = refl

  pub bits-more : (k : ℕ) (bits : List ℕ) → bits ≡ packed turned k ++ replicate (256 - k) 0 → k < 256 → (b : ℕ) → b
      ≡ eight (place_set places) (from + 8 * k)
      → set bits k b ≡ packed turned (k + 1) ++ replicate (256 - (k + 1)) 0
  bits-more k bits e lt b is = ap (λ (l : List ℕ). set l k b) e ∙ (array-more (packed turned k) 256 k 0 b (packed-length turned k) lt
      ∙ ap (λ (l : List ℕ). l ++ replicate (256 - (k + 1)) 0) more)
    where
      more : packed turned k ++ (b ∷ []) ≡ packed turned (k + 1)
      more = let n : suc k ≡ k + 1 = omega arith in
          ap (λ (x : ℕ). packed turned k ++ (x ∷ [])) (is ∙ eight-from (place_set places) from (8 * k)) ∙ (one ∙ ap (packed turned) n)
        where
          one : packed turned k ++ (eight turned (8 * k) ∷ []) ≡ packed turned (suc k)
          one = unfold packed in refl

pub window-is : (s : List ℕ) (p low from : ℕ) (bits : List ℕ) (k : ℕ) → low ≡ be64 s p → from ≡ 2048 - (low % 2048 + 1) % 2048
    → (m : ℕ) → m ≡ 256 → bits ≡ packed (turned (take m (drop (p + 8) s)) from) k ++ replicate (256 - k) 0 → 256 ≤ k → k ≤ 256
    → ◌≡◌ {A = ReliableWindow} (record { low = low; bits = bits }) (window_from (window_at s p))
unfolding window_from window_at
window-is s p low from bits k e f m many is ge le = λ t. record { low = e t; bits = all t }
  where
    places : List ℕ
    places = take 256 (drop (p + 8) s)

    shift : (n : ℕ) → from + n ≡ n + 2048 - (be64 s p + 1) % 2048
    shift n = let m : (low % 2048 + 1) % 2048 ≡ (be64 s p + 1) % 2048 = omega arith in omega arith

    all : bits ≡ packed (λ n. place_set places (n + 2048 - (be64 s p + 1) % 2048)) 256
    all =
        let q : k ≡ 256 = omega arith in
        is ∙ (ap (λ (z : ℕ). packed (turned (take z (drop (p + 8) s)) from) k ++ replicate (256 - k) 0) many)
        ∙ (ap (λ (m : ℕ). packed (turned places from) m ++ replicate (256 - m) 0) q ∙ (append-nil (packed (turned places from) 256)
        ∙ (λ t. packed (λ n. place_set places (shift n t)) 256)))

-- ---- channels
abbrev pub zero_channel : Channel
zero_channel = record { next = 0; newest = 0 }

pub channels-begin : (s : List ℕ) → replicate 32 zero_channel ≡ channels_from s 0 ++ replicate (32 - 0) zero_channel
unfolding channels_from values_at
channels-begin s = refl

module _ (s : List ℕ) (narrow : below 66 (λ i. ltb (be64 s (548 + 8 * i)) 4294967296) ≡ true) where
  pub channels-more : (c : ℕ) (l : List Channel) → l ≡ channels_from s c ++ replicate (32 - c) zero_channel → c < 32 → (a b : ℕ)
      → (be64 s (548 + 16 * c) < 4294967296 → a ≡ be64 s (548 + 16 * c)) → (be64 s (556 + 16 * c) < 4294967296 → b ≡ be64 s (556 + 16 * c))
      → set l c (record { next = a; newest = b }) ≡ channels_from s (c + 1) ++ replicate (32 - (c + 1)) zero_channel
  channels-more c l e lt a b f g = ap (λ (m : List Channel). set m c (record { next = a; newest = b })) e
      ∙ (array-more (channels_from s c) 32 c zero_channel (record { next = a; newest = b }) many lt
      ∙ ap (λ (m : List Channel). m ++ replicate (32 - (c + 1)) zero_channel) more)
    where
      many : length (channels_from s c) ≡ c
      many = unfold channels_from in length-map (values_at (channel_at s) (λ p. p + 16) c 548) channel_from
          ∙ values-length (channel_at s) (λ p. p + 16) c 548

      one : ◌≡◌ {A = Channel} (record { next = a; newest = b }) (channel_from (channel_at s (548 + 16 * c)))
      one = unfold channel_at in
          let x = f (narrow-at s 548 66 (2 * c) (548 + 16 * c) narrow (omega arith) (omega arith)) in
          let y = g (narrow-at s 548 66 (2 * c + 1) (556 + 16 * c) narrow (omega arith) (omega arith)) in
          let q : 556 + 16 * c ≡ 548 + 16 * c + 8 = omega arith in
          λ t. record { next = x t; newest = (y ∙ ap (be64 s) q) t }

      more : channels_from s c ++ (record { next = a; newest = b } ∷ []) ≡ channels_from s (c + 1)
      more = unfold channels_from in ap (λ (x : Channel). map channel_from (values_at (channel_at s) (λ p. p + 16) c 548) ++ (x ∷ [])) one
          ∙ (sym (map-append channel_from (values_at (channel_at s) (λ p. p + 16) c 548) (channel_at s (548 + 16 * c) ∷ []))
          ∙ ap (map channel_from) (sym (values-more (channel_at s) 16 c 548)))

pub channels-end : (s : List ℕ) (c : ℕ) (l : List Channel) → l ≡ channels_from s c ++ replicate (32 - c) zero_channel → 32 ≤ c → c ≤ 32
    → l ≡ channels_from s 32
channels-end s c l e ge le = let q : c ≡ 32 = omega arith in
    e ∙ (ap (λ (m : ℕ). channels_from s m ++ replicate (32 - m) zero_channel) q ∙ append-nil (channels_from s 32))

-- ---- unsent numbers
-- i of n were read
pub record Reading (s : List ℕ) (n i least : ℕ) (l : List ℕ) : Type 0 where
  pub forth : Each NumberCan number_next 0 (numbers_at s n) → Each NumberCan number_next least
      (values_at (be64 s) (λ p. p + 8) (n - i) (1080 + 8 * i))
  pub back : Each NumberCan number_next least (values_at (be64 s) (λ p. p + 8) (n - i) (1080 + 8 * i))
      → Each NumberCan number_next 0 (numbers_at s n)
  pub array : l ≡ numbers_at s i ++ replicate (1024 - i) 0

module _ (s : List ℕ) (n : ℕ) where
  pub reading-begins : Reading s n 0 0 (replicate 1024 0)
  unfolding numbers_at values_at
  reading-begins = record {
    forth = let e : n ≡ n - 0 = omega arith in λ h. rw (← e) h;
    back = let e : n - 0 ≡ n = omega arith in λ h. rw e at h;
    array = refl;
  }

  module _ (i least : ℕ) (l : List ℕ) (g : Reading s n i least l) (lt : i < n) where
    one : n - i ≡ suc (n - (i + 1))
    one = omega arith

    next : 1080 + 8 * i + 8 ≡ 1080 + 8 * (i + 1)
    next = omega arith

    split : values_at (be64 s) (λ p. p + 8) (n - i) (1080 + 8 * i)
        ≡ be64 s (1080 + 8 * i) ∷ values_at (be64 s) (λ p. p + 8) (n - (i + 1)) (1080 + 8 * (i + 1))
    split = ap (λ (m : ℕ). values_at (be64 s) (λ p. p + 8) m (1080 + 8 * i)) one
        ∙ (unfold values_at in ap (λ (q : ℕ). be64 s (1080 + 8 * i) ∷ values_at (be64 s) (λ p. p + 8) (n - (i + 1)) q) next)

    abbrev Rest : Type 0
    Rest = Each NumberCan number_next least (be64 s (1080 + 8 * i) ∷ values_at (be64 s) (λ p. p + 8) (n - (i + 1)) (1080 + 8 * (i + 1)))

    pub reading-stops : ((be64 s (1080 + 8 * i) < 4294967296) × (least ≤ be64 s (1080 + 8 * i)) → ⊥)
        → Each NumberCan number_next 0 (numbers_at s n) → ⊥
    unfolding Each
    reading-stops h a = let r : Rest = rw split at (g.forth a) in h r.0

    pub reading-on : i < 1024 → be64 s (1080 + 8 * i) < 4294967296 → least ≤ be64 s (1080 + 8 * i) → (x : ℕ)
        → (be64 s (1080 + 8 * i) < 4294967296 → x ≡ be64 s (1080 + 8 * i))
        → (k : ℕ) → k ≡ suc (be64 s (1080 + 8 * i)) → Reading s n (i + 1) k (set l i x)
    unfolding Each
    reading-on few small le x e k is = record {
      forth = λ a. let r : Rest = rw split at (g.forth a) in rw is r.1;
      back = λ r. g.back (rw split ((small, le), rw is at r));
      array = ap (λ (m : List ℕ). set m i x) g.array ∙ (array-more (numbers_at s i) 1024 i 0 x many few
          ∙ ap (λ (m : List ℕ). m ++ replicate (1024 - (i + 1)) 0) more);
    }
      where
        many : length (numbers_at s i) ≡ i
        many = unfold numbers_at in values-length (be64 s) (λ p. p + 8) i 1080

        more : numbers_at s i ++ (x ∷ []) ≡ numbers_at s (i + 1)
        more = unfold numbers_at in ap (λ (y : ℕ). values_at (be64 s) (λ p. p + 8) i 1080 ++ (y ∷ [])) (e small)
            ∙ sym (values-more (be64 s) 8 i 1080)

  pub reading-ends : (i least : ℕ) (l : List ℕ) → Reading s n i least l → n ≤ i → i ≤ n → Unsent s n (Some l)
  unfolding Unsent Each values_at
  reading-ends i least l g ge le =
      let q : i ≡ n = omega arith in
      let z : n - i ≡ 0 = omega arith in
      (g.back (rw z tt), g.array ∙ ap (λ (m : ℕ). numbers_at s m ++ replicate (1024 - m) 0) q)
