-- The cells of held or ready messages, in the order of their ranks, are message by message its pieces by index.
-- Assumes nothing.
use Prim.Native.Nat.{ℕ, zero, suc, ◌+◌, ◌*◌, ◌≤◌, ◌<◌}
use mathlib.Core.Path.{◌≡◌, refl, sym, ◌∙◌, ap, subst}
use mathlib.Core.Logic.{◌⊎◌, inl, inr}
use mathlib.Core.Bool.{Bool, true}
use mathlib.Core.Option.{some}
use mathlib.Core.List.Memᴰ
use mathlib.Core.List.{List, [], ◌∷◌, ◌++◌, Memᴰ}
use native.Mathlib.Omega.{arith}
use lib.Dec.{eqb}
use borrow.Author.Tests.{eqb-true, eqb-false, eq-eqb}
use Rattle.base.specs.Limits.{max_frags}
use Rattle.base.specs.Lists.{option, find, any, only}
use Rattle.base.proofs.Choices.{cases}
use Rattle.base.proofs.Lists.{any-true, below_at}
use Rattle.base.proofs.Sorts.{find-only, unique-same, only-in, in-only, Rising, rising-append, rising-unique}
use Rattle.cells.specs.Cell.{Slot, Key, sits, all_there, empty_slot}
use Rattle.cells.specs.Sound.{key_of}
use Rattle.cells.proofs.Keys.{of-used, used-free, sits-is}
use Rattle.cells.proofs.SoundCore.{Core}
use Rattle.recv_save.specs.Slots.{key_rank}
use Rattle.recv_save.proofs.Orders.{rising-sub}
use Rattle.recv_save.proofs.Ranks.{of-key, sits-key, key-back, rank_of, rank-is, numbers-same, is_used, used-some, not-free-used}
use Rattle.recv_save.proofs.Ranks.{in_order, its-bounds, its-use}
use Rattle.recv_save.proofs.Ranks.{order-rising, order-in, in-the-order}

-- the cells of a use; the messages' first cells, in order
abbrev pub has_use : ℕ → Slot → Bool
has_use u s = eqb s.cell.used u

pub record Firsts (u : ℕ) (l firsts : List Slot) : Type 0 where
  pub rises : Rising (λ (s : Slot). key_rank s.cell) firsts
  pub within : (s : Slot) → Memᴰ s firsts → Memᴰ s l × (s.cell.used ≡ u) × (s.cell.index ≡ 0)
  pub all : (s : Slot) → Memᴰ s l → s.cell.used ≡ u → s.cell.index ≡ 0 → Memᴰ s firsts

module _ (l : List Slot) where
  -- the cell of an index of a message; of its first n indices
  unfoldable pub found : Key → ℕ → Slot
  found k i = option (find (sits k i) l) empty_slot (λ s. s)

  unfoldable pub pieces_to : Key → ℕ → List Slot
  pieces_to k zero = []
  pieces_to k (suc n) = pieces_to k n ++ (found k n ∷ [])

  unfoldable pub message_by : List Slot → List Slot
  message_by [] = []
  message_by (s ∷ r) = pieces_to (key_of s.cell) s.cell.count ++ message_by r

  pieces-in : (k : Key) (n : ℕ) (x : Slot) → Memᴰ x (pieces_to k n) → (i : ℕ) × (i < n) × (x ≡ found k i)
  unfolding pieces_to
  pieces-in k zero x m = absurd (Memᴰ.not-nil m)
  pieces-in k (suc n) x m = go (Memᴰ.append_cases (pieces_to k n) m) (λ m'. pieces-in k n x m')
    where
      go : Memᴰ x (pieces_to k n) ⊎ Memᴰ x (found k n ∷ []) → (Memᴰ x (pieces_to k n) → (i : ℕ) × (i < n) × (x ≡ found k i))
          → (i : ℕ) × (i < suc n) × (x ≡ found k i)
      go (inl m) rest = let r = rest m in let lt = r.1 in (r.0, omega arith, r.2)
      go (inr m) rest = (n, omega arith, Memᴰ.eq_of_singleton m)

  in-pieces : (k : Key) (n i : ℕ) → i < n → Memᴰ (found k i) (pieces_to k n)
  unfolding pieces_to
  in-pieces k zero i lt = absurd (omega arith)
  in-pieces k (suc n) i lt = cases (eqb i n)
      (λ y. Memᴰ.append_right (pieces_to k n) (Memᴰ.head (ap (found k) (eqb-true i n y))))
      (λ y. let ne : i ≡ n → ⊥ = eqb-false i n y in Memᴰ.append_left (found k n ∷ []) (in-pieces k n i (omega arith)))

  messages-in : (firsts : List Slot) (x : Slot) → Memᴰ x (message_by firsts)
      → (s : Slot) × Memᴰ s firsts × Memᴰ x (pieces_to (key_of s.cell) s.cell.count)
  unfolding message_by
  messages-in [] x m = absurd (Memᴰ.not-nil m)
  messages-in (s ∷ r) x m = go (Memᴰ.append_cases (pieces_to (key_of s.cell) s.cell.count) m) (λ m'. messages-in r x m')
    where
      go : Memᴰ x (pieces_to (key_of s.cell) s.cell.count) ⊎ Memᴰ x (message_by r)
          → (Memᴰ x (message_by r) → (s : Slot) × Memᴰ s r × Memᴰ x (pieces_to (key_of s.cell) s.cell.count))
          → (t : Slot) × Memᴰ t (s ∷ r) × Memᴰ x (pieces_to (key_of t.cell) t.cell.count)
      go (inl m) rest = (s, Memᴰ.head refl, m)
      go (inr m) rest = let q = rest m in (q.0, Memᴰ.tail q.1, q.2)

  in-messages : (firsts : List Slot) (s x : Slot) → Memᴰ s firsts → Memᴰ x (pieces_to (key_of s.cell) s.cell.count)
      → Memᴰ x (message_by firsts)
  unfolding message_by
  in-messages [] s x m n = absurd (Memᴰ.not-nil m)
  in-messages (t ∷ r) s x m n = go (Memᴰ.cases_cons m) (λ m'. in-messages r s x m' n)
    where
      go : (s ≡ t) ⊎ Memᴰ s r → (Memᴰ s r → Memᴰ x (message_by r)) → Memᴰ x (pieces_to (key_of t.cell) t.cell.count ++ message_by r)
      go (inl q) rest = Memᴰ.append_left (message_by r) (subst (λ (z : Slot). Memᴰ x (pieces_to (key_of z.cell) z.cell.count)) q n)
      go (inr m) rest = Memᴰ.append_right (pieces_to (key_of t.cell) t.cell.count) (rest m)

  module _ (v : Core l) (few : (s : Slot) → Memᴰ s l → s.cell.used ≤ 3) where
    -- the one cell of an index
    pub found-is : (k : Key) (i : ℕ) (x : Slot) → Memᴰ x l → sits k i x ≡ true → find (sits k i) l ≡ some x
    found-is k i x m e = find-only (sits k i) l x m e (λ y n g. unique-same (sits k i) l y x n m g e (v.unique k i))

    pub found-same : (k : Key) (i : ℕ) (x : Slot) → Memᴰ x l → sits k i x ≡ true → found k i ≡ x
    unfolding found
    found-same k i x m e = rw (found-is k i x m e)

    -- a cell of a closed message: all indices of the message are there
    module _ (f : Slot) (m : Memᴰ f l) (e : is_used f ≡ true) (closed : f.cell.used ≡ 1 → ⊥) where
      pub there : (i : ℕ) → i < f.cell.count → (x : Slot) × Memᴰ x l × (sits (key_of f.cell) i x ≡ true) × (found (key_of f.cell) i ≡ x)
      unfolding all_there
      there i lt =
          let o = of-key f (its-use l v few f m e) in
          let u = of-used (key_of f.cell) f o in
          let full = v.full (key_of f.cell) (λ q. closed (u ∙ q)) f m o in
          let a = any-true (sits (key_of f.cell) i) l (below_at f.cell.count (λ i. any (sits (key_of f.cell) i) l) full i lt) in
          (a.0, a.1, a.2, found-same (key_of f.cell) i a.0 a.1 a.2)

      -- its cell of an index is used as it is, and its rank goes by the index
      pub piece-is : (i : ℕ) → i < f.cell.count → Memᴰ (found (key_of f.cell) i) l × (is_used (found (key_of f.cell) i) ≡ true)
          × ((found (key_of f.cell) i).cell.used ≡ f.cell.used) × ((found (key_of f.cell) i).cell.index ≡ i)
          × (rank_of (found (key_of f.cell) i) ≡ key_rank f.cell * max_frags + i)
      piece-is i lt =
          let t = there i lt in
          let o = of-key f (its-use l v few f m e) in
          let p = sits-is (key_of f.cell) i t.0 t.2 in
          let w : t.0.cell.used ≡ f.cell.used = of-used (key_of f.cell) t.0 p.0 ∙ sym (of-used (key_of f.cell) f o) in
          let y : is_used t.0 ≡ true = not-free-used t.0 (used-free t.0 f.cell.used w (used-some f e)) in
          let b = its-bounds l v few t.0 t.1 y in
          let n = numbers-same t.0 f b (its-bounds l v few f m e) (its-use l v few t.0 t.1 y) (its-use l v few f m e)
          (key-back (key_of f.cell) t.0 p.0) in
          let r : rank_of t.0 ≡ key_rank f.cell * max_frags + i = rank-is t.0 b ∙ rw (n, p.1) in
          rw t.3 (t.1, y, w, p.1, r)

      pub pieces-rise : (n : ℕ) → n ≤ f.cell.count → Rising rank_of (pieces_to (key_of f.cell) n)
      unfolding pieces_to
      pieces-rise zero le = tt
      pieces-rise (suc n) le =
          rising-append rank_of (pieces_to (key_of f.cell) n) (found (key_of f.cell) n ∷ []) (pieces-rise n (omega arith))
          ((λ y i. absurd (Memᴰ.not-nil i)), tt)
          (λ x y i j. below x y (pieces-in (key_of f.cell) n x i) (Memᴰ.eq_of_singleton j))
        where
          below : (x y : Slot) → (i : ℕ) × (i < n) × (x ≡ found (key_of f.cell) i) → y ≡ found (key_of f.cell) n → rank_of x < rank_of y
          below x y a q =
              let lt = a.1 in
              let i : a.0 < f.cell.count = omega arith in
              let p = (piece-is a.0 i).4 in
              let r = (piece-is n (omega arith)).4 in
              rw (a.2, q, p, r) (omega arith)

    module _ (u : ℕ) (closed : u ≡ 1 → ⊥) (some-use : u ≡ 0 → ⊥) where
      its-used : (s : Slot) → s.cell.used ≡ u → is_used s ≡ true
      its-used s q = not-free-used s (used-free s u q some-use)

      module _ (firsts : List Slot) (w : (s : Slot) → Memᴰ s firsts → Memᴰ s l × (s.cell.used ≡ u) × (s.cell.index ≡ 0)) where
        one : (s : Slot) → Memᴰ s firsts → (x : Slot) → Memᴰ x (pieces_to (key_of s.cell) s.cell.count)
            → Memᴰ x l × (is_used x ≡ true) × (x.cell.used ≡ u)
            × ((i : ℕ) × (i < max_frags) × (rank_of x ≡ key_rank s.cell * max_frags + i))
        one s m x i =
            let a = w s m in
            let y = its-used s a.1 in
            let p = pieces-in (key_of s.cell) s.cell.count x i in
            let r = piece-is s a.0 y (λ q. closed (sym a.1 ∙ q)) p.0 p.1 in
            let b = (its-bounds l v few s a.0 y).count in
            let lt = p.1 in
            rw p.2 (r.0, r.1, r.2 ∙ a.1, (p.0, omega arith, r.4))

      messages-rise : (firsts : List Slot) → ((s : Slot) → Memᴰ s firsts → Memᴰ s l × (s.cell.used ≡ u) × (s.cell.index ≡ 0))
          → Rising (λ (s : Slot). key_rank s.cell) firsts → Rising rank_of (message_by firsts)
      unfolding message_by
      messages-rise [] w a = tt
      messages-rise (s ∷ r) w a =
          let m = w s (Memᴰ.head refl) in
          rising-append rank_of (pieces_to (key_of s.cell) s.cell.count) (message_by r)
          (pieces-rise s m.0 (its-used s m.1) (λ q. closed (sym m.1 ∙ q)) s.cell.count (omega arith))
          (messages-rise r (λ t i. w t (Memᴰ.tail i)) a.1)
          (λ x y i j. after x y i (messages-in r y j))
        where
          after : (x y : Slot) → Memᴰ x (pieces_to (key_of s.cell) s.cell.count)
              → (t : Slot) × Memᴰ t r × Memᴰ y (pieces_to (key_of t.cell) t.cell.count) → rank_of x < rank_of y
          after x y i q =
              let p = (one (s ∷ r) w s (Memᴰ.head refl) x i).3 in
              let z = (one (s ∷ r) w q.0 (Memᴰ.tail q.1) y q.2).3 in
              let k = a.0 q.0 q.1 in
              let e = p.2 in
              let g = z.2 in
              let h = p.1 in
              omega arith

      -- ---- the two lists
      module _ (firsts : List Slot) (g : Firsts u l firsts) where
        there-in : (x : Slot) → Memᴰ x (only (has_use u) (in_order l)) → Memᴰ x (message_by firsts)
        there-in x m =
            let a = only-in (has_use u) (in_order l) x m in
            let b = order-in l v few x a.0 in
            let c : x.cell.used ≡ u = eqb-true x.cell.used u a.1 in
            let d = its-bounds l v few x b.0 b.1 in
            let i = d.index in
            let t = there x b.0 b.1 (λ q. closed (sym c ∙ q)) 0 (omega arith) in
            let p = sits-is (key_of x.cell) 0 t.0 t.2 in
            let o = of-key x (its-use l v few x b.0 b.1) in
            let y : t.0.cell.used ≡ u = of-used (key_of x.cell) t.0 p.0 ∙ (sym (of-used (key_of x.cell) x o) ∙ c) in
            let f = g.all t.0 t.1 y p.1 in
            let k : key_of t.0.cell ≡ key_of x.cell = key-back (key_of x.cell) t.0 p.0 in
            let n : t.0.cell.count ≡ x.cell.count = (v.alike (key_of x.cell) t.0 x t.1 b.0 p.0 o).count in
            let s = found-same (key_of x.cell) x.cell.index x b.0 (sits-key x (its-use l v few x b.0 b.1)) in
            in-messages firsts t.0 x f (rw (k, n) (subst (λ (z : Slot). Memᴰ z (pieces_to (key_of x.cell) x.cell.count)) s
            (in-pieces (key_of x.cell) x.cell.count x.cell.index i)))

        here-in : (x : Slot) → Memᴰ x (message_by firsts) → Memᴰ x (only (has_use u) (in_order l))
        here-in x m =
            let a = messages-in firsts x m in
            let b = one firsts g.within a.0 a.1 x a.2 in
            in-only (has_use u) (in_order l) x (in-the-order l v few x b.0 b.1) (eq-eqb x.cell.used u b.2)

        pub messages-are : only (has_use u) (in_order l) ≡ message_by firsts
        messages-are =
            rising-unique rank_of (only (has_use u) (in_order l)) (message_by firsts)
            (rising-sub rank_of (has_use u) (in_order l) (order-rising l v few))
            (messages-rise firsts g.within g.rises) there-in here-in
