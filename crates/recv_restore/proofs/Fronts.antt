-- An image's first sections, where they have as many entries as a receiver: all stand at fixed places.
-- Assumes nothing.
use Prim.Native.Nat.{ℕ, zero, suc, ◌+◌, ◌*◌, ◌-◌, ◌/◌, ◌%◌, ◌<◌}
use mathlib.Core.Path.{◌≡◌, refl, sym, ◌∙◌, ap, subst}
use mathlib.Core.Bool.{Bool, true, ◌&&◌, false≢true}
use mathlib.Core.List.{List, ◌∷◌, ◌++◌, map}
use native.Mathlib.Omega.{arith}
use native.Mathlib.Decide.{dec_lt}
use lib.Dec.{ltb, leb, eqb}
use lib.ListN.{length, take, get_or, replicate}
use borrow.Author.Tests.{ltb-true, lt-ltb, leb-true, le-leb, eqb-true, eq-eqb}
use Rattle.base.specs.Bytes.{be32, be64}
use Rattle.base.specs.Limits.{max_ord_chans}
use Rattle.base.specs.Lists.{below}
use Rattle.base.proofs.Choices.{and_left, and_right, and_both}
use Rattle.base.proofs.Lists.{below_all}
use Rattle.image.specs.Image.{WindowEntry, ChannelEntry}
use Rattle.image.specs.Windows.{window_from}
use Rattle.window.specs.declared.ReliableWindow.{ReliableWindow}
use Rattle.image_read.specs.At.{place_after, values_at, window_at, channel_at, section_at, section_end}
use Rattle.image_read.specs.At.{windows_place, channels_place, unsent_place, pieces_place, image_at}
use Rattle.receiver.specs.declared.Channel.{Channel}
use Rattle.receiver.specs.declared.RecvQueue.{RecvQueue}
use Rattle.receiver.specs.Save.{own_entry}
use Rattle.receiver.specs.Restore.{no_window, channel_from, queue_from}
use Rattle.recv_restore.specs.Fits.{Each, NumberCan, number_next, FrontFits}
use Rattle.recv_restore.specs.Filling.{TestOf}
use Rattle.recv_restore.specs.Front.{Counts, Narrow, channels_from, numbers_at}
use Rattle.recv_restore.proofs.Pieces.{narrow-at}
use Rattle.recv_restore.proofs.Messages.{values-length}
use Rattle.recv_restore.proofs.Values.{place-fixed}

-- ---- values one after the other
module _ {A : Type 0} (at : ℕ → A) (k : ℕ) (d : A) where
  values-get : (n p i : ℕ) → i < n → get_or (values_at at (λ q. q + k) n p) i d ≡ at (p + k * i)
  unfolding values_at
  values-get zero p i lt = absurd (omega arith)
  values-get (suc n) p zero lt = let e : p ≡ p + k * 0 = omega arith in ap at e
  values-get (suc n) p (suc i) lt = let e : p + k + k * i ≡ p + k * suc i = omega arith in values-get n (p + k) i (omega arith) ∙ ap at e

take-values : {A : Type 0} (at : ℕ → A) (end : ℕ → ℕ) (n m p : ℕ) → take n (values_at at end (n + m) p) ≡ values_at at end n p
unfolding values_at
take-values at end zero m p = refl
take-values {A} at end (suc n) m p =
    let e : suc n + m ≡ suc (n + m) = omega arith in
    ap (λ (x : ℕ). take (suc n) (values_at at end x p)) e ∙ ap {B = List A} (λ l. at p ∷ l) (take-values at end n m (end p))

module _ (s : List ℕ) where
  -- ---- where the sections stand
  at-windows : be32 s 0 ≡ 1 → windows_place s ≡ 12
  unfolding windows_place section_end
  at-windows e = ap (λ (n : ℕ). place_after (λ p. p + 8) n 4) e ∙ place-fixed (be64 s) 8 1 4

  at-channels : be32 s 0 ≡ 1 → be32 s 12 ≡ 2 → channels_place s ≡ 544
  unfolding channels_place section_end
  at-channels a b = ap (section_end s (λ p. p + 264)) (at-windows a)
      ∙ (ap (λ (n : ℕ). place_after (λ p. p + 264) n 16) b ∙ place-fixed (be64 s) 264 2 16)

  at-unsent : be32 s 0 ≡ 1 → be32 s 12 ≡ 2 → be32 s 544 ≡ 33 → unsent_place s ≡ 1076
  unfolding unsent_place section_end
  at-unsent a b c = ap (section_end s (λ p. p + 16)) (at-channels a b)
      ∙ (ap (λ (n : ℕ). place_after (λ p. p + 16) n 548) c ∙ place-fixed (be64 s) 16 33 548)

  pub at-pieces : Counts s → pieces_place s ≡ 1080 + 8 * be32 s 1076
  unfolding pieces_place section_end
  at-pieces c = ap (section_end s (λ p. p + 8)) (at-unsent c.profile c.windows c.channels) ∙ place-fixed (be64 s) 8 (be32 s 1076) 1080

  -- ---- what they say
  profile-is : (image_at s).profile ≡ values_at (be64 s) (λ p. p + 8) (be32 s 0) 4
  unfolding image_at section_at
  profile-is = refl

  windows-is : be32 s 0 ≡ 1 → (image_at s).windows ≡ values_at (window_at s) (λ p. p + 264) (be32 s 12) 16
  unfolding image_at section_at
  windows-is a = ap (section_at s (window_at s) (λ p. p + 264)) (at-windows a)

  channels-is : be32 s 0 ≡ 1 → be32 s 12 ≡ 2 → (image_at s).channels ≡ values_at (channel_at s) (λ p. p + 16) (be32 s 544) 548
  unfolding image_at section_at
  channels-is a b = ap (section_at s (channel_at s) (λ p. p + 16)) (at-channels a b)

  unsent-is : be32 s 0 ≡ 1 → be32 s 12 ≡ 2 → be32 s 544 ≡ 33 → (image_at s).unsent ≡ numbers_at s (be32 s 1076)
  unfolding image_at section_at numbers_at
  unsent-is a b c = ap (section_at s (be64 s) (λ p. p + 8)) (at-unsent a b c)

  -- ---- what the front asks
  module _ (f : FrontFits (image_at s)) where
    one-profile : be32 s 0 ≡ 1
    one-profile = sym (ap length profile-is ∙ values-length (be64 s) (λ p. p + 8) (be32 s 0) 4) ∙ f.profile

    two-windows : be32 s 12 ≡ 2
    two-windows = sym (ap length (windows-is one-profile) ∙ values-length (window_at s) (λ p. p + 264) (be32 s 12) 16) ∙ f.windows

    all-channels : be32 s 544 ≡ 33
    all-channels = sym (ap length (channels-is one-profile two-windows) ∙ values-length (channel_at s) (λ p. p + 16) (be32 s 544) 548)
        ∙ f.channels

    many-unsent : length (image_at s).unsent ≡ be32 s 1076
    many-unsent = ap length (unsent-is one-profile two-windows all-channels)
        ∙ (unfold numbers_at in values-length (be64 s) (λ p. p + 8) (be32 s 1076) 1080)

    pub front-counts : Counts s
    front-counts = record {
      profile = one-profile;
      windows = two-windows;
      channels = all-channels;
      unsent = let few = f.few in omega (arith, many-unsent);
    }

    pub front-unsent : Each NumberCan number_next 0 (numbers_at s (be32 s 1076))
    front-unsent = subst (Each NumberCan number_next 0) (unsent-is one-profile two-windows all-channels) f.unsent

  module _ (c : Counts s) where
    profile-one : get_or (image_at s).profile 0 0 ≡ be64 s 4
    profile-one = ap (λ (l : List ℕ). get_or l 0 0) profile-is ∙ values-get (be64 s) 8 0 (be32 s 0) 4 0 (let a = c.profile in omega arith)

    window-k : (k : ℕ) → k < 2 → get_or (image_at s).windows k no_window ≡ window_at s (16 + 264 * k)
    window-k k lt = ap (λ (l : List WindowEntry). get_or l k no_window) (windows-is c.profile)
        ∙ values-get (window_at s) 264 no_window (be32 s 12) 16 k (let a = c.windows in omega arith)

    channel-k : (k : ℕ) → k < 33 → get_or (image_at s).channels k (own_entry 0) ≡ channel_at s (548 + 16 * k)
    channel-k k lt = ap (λ (l : List ChannelEntry). get_or l k (own_entry 0)) (channels-is c.profile c.windows)
        ∙ values-get (channel_at s) 16 (own_entry 0) (be32 s 544) 548 k (let a = c.channels in omega arith)

    low-is : (p : ℕ) → (window_at s p).low ≡ be64 s p
    unfolding window_at
    low-is p = refl

    next-is : (p : ℕ) → (channel_at s p).next ≡ be64 s p
    unfolding channel_at
    next-is p = refl

    memory-is : (p : ℕ) → (channel_at s p).memory ≡ be64 s (p + 8)
    unfolding channel_at
    memory-is p = refl

    low-k : (k : ℕ) → k < 2 → (get_or (image_at s).windows k no_window).low ≡ be64 s (16 + 264 * k)
    low-k k lt = ap (λ (w : WindowEntry). w.low) (window-k k lt) ∙ low-is (16 + 264 * k)

    next-k : (k : ℕ) → k < 33 → (get_or (image_at s).channels k (own_entry 0)).next ≡ be64 s (548 + 16 * k)
    next-k k lt = ap (λ (e : ChannelEntry). e.next) (channel-k k lt) ∙ next-is (548 + 16 * k)

    memory-k : (k : ℕ) → k < 33 → (get_or (image_at s).channels k (own_entry 0)).memory ≡ be64 s (548 + 16 * k + 8)
    memory-k k lt = ap (λ (e : ChannelEntry). e.memory) (channel-k k lt) ∙ memory-is (548 + 16 * k)

    pub front-narrow : FrontFits (image_at s) → Narrow s
    front-narrow f = record {
      profile = let a = f.profile-narrow in omega (arith, profile-one);
      datagrams = let a = f.low-narrow 0 (omega arith) in omega (arith, low-k 0 (omega arith));
      reliables = let a = f.low-narrow 1 (omega arith) in omega (arith, low-k 1 (omega arith));
      channels = below_all 66 (λ i. ltb (be64 s (548 + 8 * i)) 4294967296) each;
      own = sym (next-k 32 (omega arith)) ∙ f.own;
    }
      where
        each : (i : ℕ) → i < 66 → ltb (be64 s (548 + 8 * i)) 4294967296 ≡ true
        each i lt = lt-ltb _ _ (go (dec_lt (i % 2) 1))
          where
            k : i / 2 < 33
            k = omega arith

            go : Dec (i % 2 < 1) → be64 s (548 + 8 * i) < 4294967296
            go (yes even) =
                let q : 548 + 16 * (i / 2) ≡ 548 + 8 * i = omega arith in
                let a = f.next-narrow (i / 2) k in
                subst (λ (x : ℕ). x < 4294967296) (next-k (i / 2) k ∙ ap (be64 s) q) a
            go (no odd) =
                let q : 548 + 16 * (i / 2) + 8 ≡ 548 + 8 * i = omega arith in
                let a = f.memory-narrow (i / 2) k in
                subst (λ (x : ℕ). x < 4294967296) (memory-k (i / 2) k ∙ ap (be64 s) q) a

    module _ (w : Narrow s) where
      pub front-made : Each NumberCan number_next 0 (numbers_at s (be32 s 1076)) → FrontFits (image_at s)
      front-made u = record {
        profile = ap length profile-is ∙ (values-length (be64 s) (λ p. p + 8) (be32 s 0) 4 ∙ c.profile);
        windows = ap length (windows-is c.profile) ∙ (values-length (window_at s) (λ p. p + 264) (be32 s 12) 16 ∙ c.windows);
        channels = ap length (channels-is c.profile c.windows) ∙ (values-length (channel_at s) (λ p. p + 16) (be32 s 544) 548 ∙ c.channels);
        few = let a = c.unsent in omega (arith, many);
        own = next-k 32 (omega arith) ∙ w.own;
        profile-narrow = let a = w.profile in omega (arith, profile-one);
        low-narrow = low;
        next-narrow = λ k lt. subst (λ (x : ℕ). x < 4294967296) (sym (next-k k lt))
            (narrow-at s 548 66 (2 * k) (548 + 16 * k) w.channels (omega arith) (omega arith));
        memory-narrow = λ k lt. subst (λ (x : ℕ). x < 4294967296) (sym (memory-k k lt))
            (narrow-at s 548 66 (2 * k + 1) (548 + 16 * k + 8) w.channels (omega arith) (omega arith));
        unsent = subst (Each NumberCan number_next 0) (sym (unsent-is c.profile c.windows c.channels)) u;
      }
        where
          many : length (image_at s).unsent ≡ be32 s 1076
          many = ap length (unsent-is c.profile c.windows c.channels)
              ∙ (unfold numbers_at in values-length (be64 s) (λ p. p + 8) (be32 s 1076) 1080)

          low : (k : ℕ) → k < 2 → (get_or (image_at s).windows k no_window).low < 4294967296
          low zero lt = let a = w.datagrams in omega (arith, low-k 0 (omega arith))
          low (suc zero) lt = let a = w.reliables in omega (arith, low-k 1 (omega arith))
          low (suc (suc k)) lt = absurd (omega arith)

      pub queue-made : (d r : ReliableWindow) (cs : List Channel) (us : List ℕ) (n newest profile : ℕ) → d ≡ window_from (window_at s 16)
          → r ≡ window_from (window_at s 280) → cs ≡ channels_from s 32 → n ≡ be32 s 1076 → us ≡ numbers_at s n ++ replicate (1024 - n) 0
          → (be64 s 1068 < 4294967296 → newest ≡ be64 s 1068) → (be64 s 4 < 4294967296 → profile ≡ be64 s 4)
          → ◌≡◌ {A = RecvQueue} (record {
            datagrams = d;
            reliables = r;
            channels = cs;
            unsent = us;
            pending = n;
            newest = newest;
            profile = profile;
          }) (queue_from (image_at s))
      unfolding queue_from
      queue-made d r cs us n newest profile e1 e2 e3 e4 e5 e6 e7 = λ t. record {
        datagrams = (e1 ∙ ap window_from (sym (window-k 0 (omega arith)))) t;
        reliables = (e2 ∙ ap window_from (sym (window-k 1 (omega arith)))) t;
        channels = (e3 ∙ chans) t;
        unsent = (e5 ∙ numbers) t;
        pending = (e4 ∙ sym many) t;
        newest = (e6 small ∙ sym (memory-k 32 (omega arith))) t;
        profile = (e7 w.profile ∙ sym profile-one) t;
      }
        where
          small : be64 s 1068 < 4294967296
          small = narrow-at s 548 66 65 1068 w.channels (omega arith) (omega arith)

          many : length (image_at s).unsent ≡ be32 s 1076
          many = ap length (unsent-is c.profile c.windows c.channels)
              ∙ (unfold numbers_at in values-length (be64 s) (λ p. p + 8) (be32 s 1076) 1080)

          numbers : numbers_at s n ++ replicate (1024 - n) 0 ≡ (image_at s).unsent ++ replicate (1024 - length (image_at s).unsent) 0
          numbers = ap (λ (m : ℕ). numbers_at s m ++ replicate (1024 - m) 0) e4
              ∙ (ap (λ (l : List ℕ). l ++ replicate (1024 - be32 s 1076) 0) (sym (unsent-is c.profile c.windows c.channels))
              ∙ ap (λ (m : ℕ). (image_at s).unsent ++ replicate (1024 - m) 0) (sym many))

          chans : channels_from s 32 ≡ map channel_from (take max_ord_chans (image_at s).channels)
          chans = unfold channels_from in ap (map channel_from) (sym (ap (take 32) (channels-is c.profile c.windows
              ∙ ap (λ (m : ℕ). values_at (channel_at s) (λ p. p + 16) m 548) c.channels)
              ∙ take-values (channel_at s) (λ p. p + 16) 32 1 548))

-- ---- the code's tests
module _ (s : List ℕ) where
  pub counts-tested : (a b c n : ℕ) → a ≡ be32 s 0 → b ≡ be32 s 12 → c ≡ be32 s 544 → n ≡ be32 s 1076
      → TestOf (((eqb a 1 && eqb b 2) && eqb c 33) && leb n 1024) (Counts s)
  unfolding TestOf
  counts-tested a b c n e1 e2 e3 e4 = (
    λ t.
        let l3 = and_left ((eqb a 1 && eqb b 2) && eqb c 33) (leb n 1024) t in
        let l2 = and_left (eqb a 1 && eqb b 2) (eqb c 33) l3 in
        record {
          profile = sym e1 ∙ eqb-true a 1 (and_left (eqb a 1) (eqb b 2) l2);
          windows = sym e2 ∙ eqb-true b 2 (and_right (eqb a 1) (eqb b 2) l2);
          channels = sym e3 ∙ eqb-true c 33 (and_right (eqb a 1 && eqb b 2) (eqb c 33) l3);
          unsent = let le = leb-true n 1024 (and_right ((eqb a 1 && eqb b 2) && eqb c 33) (leb n 1024) t) in omega arith;
        },
    λ t k. false≢true (sym t ∙ and_both _ _ (and_both _ _ (and_both _ _ (eq-eqb a 1 (e1 ∙ k.profile)) (eq-eqb b 2 (e2 ∙ k.windows)))
        (eq-eqb c 33 (e3 ∙ k.channels))) (le-leb n 1024 (let u = k.unsent in omega arith))),
  )

  pub values-tested : (a b c d : Bool) (n : ℕ) → a ≡ ltb (be64 s 4) 4294967296 → b ≡ ltb (be64 s 16) 4294967296 → c
      ≡ ltb (be64 s 280) 4294967296
      → d ≡ below 66 (λ i. ltb (be64 s (548 + 8 * i)) 4294967296) → n ≡ be64 s 1060 → TestOf ((((a && b) && c) && d) && eqb n 0) (Narrow s)
  unfolding TestOf
  values-tested a b c d n e1 e2 e3 e4 e5 = (
    λ t.
        let l4 = and_left (((a && b) && c) && d) (eqb n 0) t in
        let l3 = and_left ((a && b) && c) d l4 in
        let l2 = and_left (a && b) c l3 in
        record {
          profile = ltb-true _ _ (sym e1 ∙ and_left a b l2);
          datagrams = ltb-true _ _ (sym e2 ∙ and_right a b l2);
          reliables = ltb-true _ _ (sym e3 ∙ and_right (a && b) c l3);
          channels = sym e4 ∙ and_right ((a && b) && c) d l4;
          own = sym e5 ∙ eqb-true n 0 (and_right (((a && b) && c) && d) (eqb n 0) t);
        },
    λ t k. false≢true (sym t ∙ and_both _ _ (and_both _ _ (and_both _ _
        (and_both _ _ (e1 ∙ lt-ltb _ _ k.profile) (e2 ∙ lt-ltb _ _ k.datagrams))
        (e3 ∙ lt-ltb _ _ k.reliables)) (e4 ∙ k.channels)) (eq-eqb n 0 (e5 ∙ k.own))),
  )
