-- An image of sound cells needs as many cells as are in use.
-- Assumes nothing.
use Prim.Native.Nat.{ℕ, zero, suc, ◌+◌, ◌*◌, ◌≤◌, ◌<◌}
use mathlib.Core.Path.{◌≡◌, refl, sym, ◌∙◌, ap, subst}
use mathlib.Core.Logic.{◌⊎◌, inl, inr}
use mathlib.Core.Bool.{Bool, true, false, not, ◌&&◌, ◌||◌}
use mathlib.Core.List.Memᴰ
use mathlib.Core.List.{List, [], ◌∷◌, ◌++◌, map, Memᴰ}
use native.Mathlib.Omega.{arith}
use lib.Dec.{eqb}
use lib.ListN.{length, length-append, length-map}
use borrow.Author.Tests.{eqb-true, eqb-false, eq-eqb, ne_eqb}
use Rattle.base.specs.Limits.{max_frags, numbers24}
use Rattle.base.specs.Lists.{only, count_of}
use Rattle.base.specs.Sort.{sort_by}
use Rattle.base.proofs.Choices.{cases, and_left, and_right, and_both}
use Rattle.base.proofs.Lists.{any-true, below_at}
use Rattle.base.proofs.Counts.{count-ext, count-split}
use Rattle.base.proofs.Sorts.{only-in, in-only, only-many, count-le, Rising, Apart, rising-append, rising-map, rising-unique}
use Rattle.base.proofs.Sorts.{in-sort, sort-in, sort-rising, sort-length, sort-map, apart-only}
use Rattle.cells.specs.Cell.{Slot, Key, held_as, ready_as, bears, of, sits, is_free, is_open, is_ready, all_there}
use Rattle.cells.specs.Datagram.{is_first}
use Rattle.cells.specs.Room.{is_held_first}
use Rattle.cells.specs.Sound.{key_of}
use Rattle.cells.proofs.Keys.{use_of, of-used, sits-is, sits-of, key-used, ready_of}
use Rattle.cells.proofs.Moves.{of-held}
use Rattle.cells.proofs.SoundCore.{Bounds}
use Rattle.cells.proofs.SoundRest.{Rest}
use Rattle.image.specs.Image.{MessageEntry, Image}
use Rattle.image.specs.Entries.{piece_entry, message_entry, piece_rank, held_rank, turn_of, pieces_in, held_in, ready_in}
use Rattle.image.specs.Slots.{piece_slot, parts, held_slots, ready_slots, used_slots}
use Rattle.image.proofs.Again.{self}
use Rattle.image.proofs.Sections.{bodies-length}

abbrev itself : ℕ → ℕ
itself n = n

-- ---- the n numbers from b on
unfoldable steps : ℕ → ℕ → List ℕ
steps b zero = []
steps b (suc n) = steps b n ++ ((b + n) ∷ [])

module _ (b : ℕ) where
  steps-in : (n x : ℕ) → Memᴰ x (steps b n) → (j : ℕ) × (j < n) × (x ≡ b + j)
  unfolding steps
  steps-in zero x m = absurd (Memᴰ.not-nil m)
  steps-in (suc n) x m = go (Memᴰ.append_cases (steps b n) m) (λ i. steps-in n x i)
    where
      go : Memᴰ x (steps b n) ⊎ Memᴰ x ((b + n) ∷ []) → (Memᴰ x (steps b n) → (j : ℕ) × (j < n) × (x ≡ b + j))
          → (j : ℕ) × (j < suc n) × (x ≡ b + j)
      go (inl m) rest = let r = rest m in let lt = r.1 in (r.0, omega arith, r.2)
      go (inr m) rest = (n, omega arith, Memᴰ.eq_of_singleton m)

  in-steps : (n j : ℕ) → j < n → Memᴰ (b + j) (steps b n)
  unfolding steps
  in-steps zero j lt = absurd (omega arith)
  in-steps (suc n) j lt = cases (eqb j n)
      (λ y. Memᴰ.append_right (steps b n) (Memᴰ.head (ap (λ (k : ℕ). b + k) (eqb-true j n y))))
      (λ y. let ne : j ≡ n → ⊥ = eqb-false j n y in Memᴰ.append_left ((b + n) ∷ []) (in-steps n j (omega arith)))

  steps-rise : (n : ℕ) → Rising itself (steps b n)
  unfolding steps
  steps-rise zero = tt
  steps-rise (suc n) = rising-append itself (steps b n) ((b + n) ∷ []) (steps-rise n) ((λ y m. absurd (Memᴰ.not-nil m)), tt)
      (λ x y m k. let a = steps-in n x m in let q : y ≡ b + n = Memᴰ.eq_of_singleton k in let p = a.2 in let lt = a.1 in omega arith)

  steps-many : (n : ℕ) → length (steps b n) ≡ n
  unfolding steps
  steps-many zero = refl
  steps-many (suc n) = length-append (steps b n) ((b + n) ∷ []) ∙ (let e = steps-many n in omega arith)

unfoldable pub total : List Slot → ℕ
total [] = 0
total (f ∷ fs) = f.cell.count + total fs

-- ---- for each first cell of a message a number for each of its cells, by the message's rank and the index
module _ (rank : Slot → ℕ) where
  unfoldable spread : List Slot → List ℕ
  spread [] = []
  spread (f ∷ fs) = steps (rank f * max_frags) f.cell.count ++ spread fs

  spread-many : (fs : List Slot) → length (spread fs) ≡ total fs
  unfolding spread total
  spread-many [] = refl
  spread-many (f ∷ fs) = length-append (steps (rank f * max_frags) f.cell.count) (spread fs)
      ∙ (let a = steps-many (rank f * max_frags) f.cell.count in let b = spread-many fs in omega arith)

  spread-in : (fs : List Slot) (x : ℕ) → Memᴰ x (spread fs)
      → (f : Slot) × Memᴰ f fs × (j : ℕ) × (j < f.cell.count) × (x ≡ rank f * max_frags + j)
  unfolding spread
  spread-in [] x m = absurd (Memᴰ.not-nil m)
  spread-in (f ∷ fs) x m = go (Memᴰ.append_cases (steps (rank f * max_frags) f.cell.count) m) (λ i. spread-in fs x i)
    where
      go : Memᴰ x (steps (rank f * max_frags) f.cell.count) ⊎ Memᴰ x (spread fs)
          → (Memᴰ x (spread fs) → (g : Slot) × Memᴰ g fs × (j : ℕ) × (j < g.cell.count) × (x ≡ rank g * max_frags + j))
          → (g : Slot) × Memᴰ g (f ∷ fs) × (j : ℕ) × (j < g.cell.count) × (x ≡ rank g * max_frags + j)
      go (inl m) rest = let r = steps-in (rank f * max_frags) f.cell.count x m in (f, Memᴰ.head refl, r.0, r.1, r.2)
      go (inr m) rest = let r = rest m in (r.0, Memᴰ.tail r.1, r.2, r.3, r.4)

  in-spread : (fs : List Slot) (f : Slot) → Memᴰ f fs → (j : ℕ) → j < f.cell.count → Memᴰ (rank f * max_frags + j) (spread fs)
  unfolding spread
  in-spread [] f m j lt = absurd (Memᴰ.not-nil m)
  in-spread (g ∷ fs) f m j lt = go (Memᴰ.cases_cons m) (λ i. in-spread fs f i j lt)
    where
      go : (f ≡ g) ⊎ Memᴰ f fs → (Memᴰ f fs → Memᴰ (rank f * max_frags + j) (spread fs))
          → Memᴰ (rank f * max_frags + j) (steps (rank g * max_frags) g.cell.count ++ spread fs)
      go (inl q) rest = Memᴰ.append_left (spread fs)
          (subst (λ (h : Slot). Memᴰ (rank f * max_frags + j) (steps (rank h * max_frags) h.cell.count))
          q (in-steps (rank f * max_frags) f.cell.count j lt))
      go (inr m) rest = Memᴰ.append_right (steps (rank g * max_frags) g.cell.count) (rest m)

  spread-rise : (fs : List Slot) → Rising rank fs → ((f : Slot) → Memᴰ f fs → f.cell.count ≤ max_frags) → Rising itself (spread fs)
  unfolding spread
  spread-rise [] a h = tt
  spread-rise (f ∷ fs) a h =
      rising-append itself (steps (rank f * max_frags) f.cell.count) (spread fs) (steps-rise (rank f * max_frags) f.cell.count)
      (spread-rise fs a.1 (λ g m. h g (Memᴰ.tail m)))
      (λ x y m k. let b = steps-in (rank f * max_frags) f.cell.count x m in
      let c = spread-in fs y k in
      let few = h f (Memᴰ.head refl) in
      let lt = b.1 in
      apart (rank f) (rank c.0) b.0 c.2 x y (a.0 c.0 c.1) (omega arith) b.2 c.4)
    where
      apart : (a b i j x y : ℕ) → a < b → i < max_frags → x ≡ a * max_frags + i → y ≡ b * max_frags + j → x < y
      apart a b i j x y lt few p q = omega arith

-- ---- the cells of one use are those of the messages
module _ (next : ℕ → ℕ) (l : List Slot) (v : Rest next l) (p : Slot → Bool) (rank : Slot → ℕ) (key : Slot → Key)
    (own : (s : Slot) → p s ≡ true → of (key s) s ≡ true) (shut : (s : Slot) → use_of (key s) ≡ 1 → ⊥)
    (back : (s x : Slot) → of (key s) x ≡ true → (p x ≡ true) × (rank x ≡ rank s))
    (told : (s x : Slot) → Bounds s → Bounds x → rank x ≡ rank s → key x ≡ key s) where
  abbrev pub first : Slot → Bool
  first s = p s && eqb s.cell.index 0

  abbrev pub number : Slot → ℕ
  number s = rank s * max_frags + s.cell.index

  bounds : (s : Slot) → Memᴰ s l → p s ≡ true → Bounds s
  bounds s m y = v.core.bounds s m (key-used (key s) s (own s y))

  -- a message's cell of an index
  there : (s : Slot) → Memᴰ s l → p s ≡ true → (j : ℕ) → j < s.cell.count
      → (f : Slot) × Memᴰ f l × (p f ≡ true) × (rank f ≡ rank s) × (f.cell.index ≡ j) × (f.cell.count ≡ s.cell.count)
  unfolding all_there
  there s m y j lt =
      let o = own s y in
      let a = any-true (sits (key s) j) l (below_at s.cell.count _ (v.core.full (key s) (shut s) s m o) j lt) in
      let b = sits-is (key s) j a.0 a.2 in
      let c = back s a.0 b.0 in
      (a.0, a.1, c.0, c.1, b.1, (v.core.alike (key s) a.0 s a.1 m b.0 o).count)

  firsts-apart : Apart rank (only first l)
  firsts-apart = apart-only rank first l (λ x m e. fewer x m e)
    where
      fewer : (x : Slot) → Memᴰ x l → first x ≡ true → count_of (λ z. first z && eqb (rank z) (rank x)) l ≤ 1
      fewer x m e =
          let a = v.core.unique (key x) 0 in
          let b = count-le (λ z. first z && eqb (rank z) (rank x)) (sits (key x) 0) l (λ z k t. here z k t) in omega arith
        where
          here : (z : Slot) → Memᴰ z l → (first z && eqb (rank z) (rank x)) ≡ true → sits (key x) 0 z ≡ true
          here z k t =
              let f = and_left (first z) _ t in
              let y = and_left (p z) _ f in
              let q = told x z (bounds x m (and_left (p x) _ e)) (bounds z k y) (eqb-true _ _ (and_right (first z) _ t)) in
              sits-of (key x) 0 z ∙ and_both _ _ (subst (λ (d : Key). of d z ≡ true) q (own z y)) (and_right (p z) _ f)

  all-apart : Apart number (only p l)
  all-apart = apart-only number p l (λ x m e. fewer x m e)
    where
      fewer : (x : Slot) → Memᴰ x l → p x ≡ true → count_of (λ z. p z && eqb (number z) (number x)) l ≤ 1
      fewer x m e =
          let a = v.core.unique (key x) x.cell.index in
          let b = count-le (λ z. p z && eqb (number z) (number x)) (sits (key x) x.cell.index) l (λ z k t. here z k t) in omega arith
        where
          here : (z : Slot) → Memᴰ z l → (p z && eqb (number z) (number x)) ≡ true → sits (key x) x.cell.index z ≡ true
          here z k t =
              let y = and_left (p z) _ t in
              let b = bounds x m e in
              let c = bounds z k y in
              let i = b.index in let n = b.count in let j = c.index in let o = c.count in
              let w : number z ≡ number x = eqb-true _ _ (and_right (p z) _ t) in
              let q = told x z b c (omega arith) in
              let r : z.cell.index ≡ x.cell.index = omega arith in
              sits-of (key x) x.cell.index z ∙ and_both _ _ (subst (λ (d : Key). of d z ≡ true) q (own z y)) (eq-eqb _ _ r)

  abbrev pub firsts : List Slot
  firsts = sort_by rank (only first l)

  abbrev pub cells : List Slot
  cells = sort_by number (only p l)

  first-of : (s : Slot) → Memᴰ s firsts → Memᴰ s l × (p s ≡ true)
  first-of s m = let a = only-in first l s (sort-in rank (only first l) s m) in (a.0, and_left (p s) _ a.1)

  cell-of : (s : Slot) → Memᴰ s cells → Memᴰ s l × (p s ≡ true)
  cell-of s m = only-in p l s (sort-in number (only p l) s m)

  same-numbers : map number cells ≡ spread rank firsts
  same-numbers = rising-unique itself (map number cells) (spread rank firsts)
      (rising-map number number itself cells (λ x m. refl) (sort-rising number (only p l) all-apart))
      (spread-rise rank firsts (sort-rising rank (only first l) firsts-apart)
      (λ f m. let a = first-of f m in (bounds f a.0 a.1).count))
      (λ x m. let a = Memᴰ.of_map number cells m in let b = cell-of a.0 a.1 in Memᴰ.cast (sym a.2) (into a.0 b.0 b.1))
      (λ x m. let a = spread-in rank firsts x m in let b = first-of a.0 a.1 in out x a.0 b.0 b.1 a.2 a.3 a.4)
    where
      into : (s : Slot) → Memᴰ s l → p s ≡ true → Memᴰ (number s) (spread rank firsts)
      into s m y =
          let b = bounds s m y in
          let f = there s m y 0 (let c = b.some-count in omega arith) in
          let c = f.5 in
          let i = b.index in
          subst (λ (r : ℕ). Memᴰ (r * max_frags + s.cell.index) (spread rank firsts)) f.3
          (in-spread rank firsts f.0 (in-sort rank (only first l) f.0 (in-only first l f.0 f.1 (and_both _ _ f.2 (eq-eqb _ _ f.4))))
          s.cell.index (omega arith))

      out : (x : ℕ) (f : Slot) → Memᴰ f l → p f ≡ true → (j : ℕ) → j < f.cell.count → x ≡ rank f * max_frags + j → Memᴰ x (map number cells)
      out x f m y j lt q =
          let s = there f m y j lt in
          let a = s.3 in
          let b = s.4 in
          let e : x ≡ number s.0 = q ∙ rw (a, b) in
          Memᴰ.cast e (Memᴰ.map number (in-sort number (only p l) s.0 (in-only p l s.0 s.1 s.2)))

  -- the messages' counts come to the number of cells
  pub counts-come : total firsts ≡ count_of p l
  counts-come = sym (spread-many rank firsts) ∙ (ap length (sym same-numbers)
      ∙ (length-map cells number ∙ (sort-length number (only p l) ∙ only-many p l)))

-- ---- held messages, and ready ones
is_held : Slot → Bool
is_held s = eqb s.cell.used 2

abbrev order_rank : Slot → ℕ
order_rank s = s.cell.channel * numbers24 + s.cell.order

parts-many : (u t : ℕ) (e : MessageEntry) (n : ℕ) → length (parts u t e n) ≡ n
unfolding parts
parts-many u t e zero = refl
parts-many u t e (suc n) = length-append (parts u t e n) _ ∙ (let a = parts-many u t e n in omega arith)

bodies-many : (l : List Slot) (s : Slot) → length (message_entry l s).bodies ≡ s.cell.count
unfolding message_entry
bodies-many l s = bodies-length (key_of s.cell) l s.cell.count

held-length : (l fs : List Slot) → length (held_slots (map (message_entry l) fs)) ≡ total fs
unfolding held_slots total
held-length l [] = refl
held-length l (f ∷ fs) = length-append (parts 2 0 (message_entry l f) (length (message_entry l f).bodies)) _
    ∙ (let a = parts-many 2 0 (message_entry l f) (length (message_entry l f).bodies) in
    let b = bodies-many l f in let c = held-length l fs in omega arith)

ready-length : (l : List Slot) (t : ℕ) (fs : List Slot) → length (ready_slots t (map (message_entry l) fs)) ≡ total fs
unfolding ready_slots total
ready-length l t [] = refl
ready-length l t (f ∷ fs) = length-append (parts 3 t (message_entry l f) (length (message_entry l f).bodies)) _
    ∙ (let a = parts-many 3 t (message_entry l f) (length (message_entry l f).bodies) in
    let b = bodies-many l f in let c = ready-length l (suc t) fs in omega arith)

module _ (next : ℕ → ℕ) (l : List Slot) (v : Rest next l) where
  pieces-many : length (pieces_in l) ≡ count_of is_open l
  unfolding pieces_in
  pieces-many = sort-length piece_rank (map piece_entry (only is_open l))
      ∙ (length-map (only is_open l) piece_entry ∙ only-many is_open l)

  held-many : length (held_slots (held_in l)) ≡ count_of is_held l
  unfolding held_in is_held_first is_held
  held-many = ap (λ (m : List MessageEntry). length (held_slots m)) (sort-map (message_entry l) held_rank (only is_held_first l))
      ∙ (held-length l (sort_by (λ s. held_rank (message_entry l s)) (only is_held_first l))
      ∙ (unfold message_entry in counts-come next l v is_held order_rank (λ s. held_as s.cell.channel s.cell.order)
      own (λ s q. omega arith) back told))
    where
      own : (s : Slot) → is_held s ≡ true → of (held_as s.cell.channel s.cell.order) s ≡ true
      own s y = unfold of bears in and_both _ _ y (and_both _ _ (self s.cell.channel) (self s.cell.order))

      back : (s x : Slot) → of (held_as s.cell.channel s.cell.order) x ≡ true → (is_held x ≡ true) × (order_rank x ≡ order_rank s)
      back s x y = let a = of-held s.cell.channel s.cell.order x y in
          (eq-eqb _ _ (of-used (held_as s.cell.channel s.cell.order) x y), rw (a.0, a.1))

      told : (s x : Slot) → Bounds s → Bounds x → order_rank x ≡ order_rank s
          → held_as x.cell.channel x.cell.order ≡ held_as s.cell.channel s.cell.order
      told s x b c q =
          let i = b.order in let j = c.order in
          let d : x.cell.channel ≡ s.cell.channel = omega arith in
          let e : x.cell.order ≡ s.cell.order = omega arith in
          cc

  ready-many : length (ready_slots 0 (ready_in l)) ≡ count_of is_ready l
  unfolding ready_in is_first
  ready-many = ready-length l 0 (sort_by turn_of (only is_first l))
      ∙ counts-come next l v is_ready turn_of (λ s. ready_as s.cell.turn) own (λ s q. omega arith) back (λ s x b c q. ap ready_as q)
    where
      own : (s : Slot) → is_ready s ≡ true → of (ready_as s.cell.turn) s ≡ true
      own s y = unfold of bears is_ready in and_both _ _ y (self s.cell.turn)

      back : (s x : Slot) → of (ready_as s.cell.turn) x ≡ true → (is_ready x ≡ true) × (turn_of x ≡ turn_of s)
      back s x y = ready_of s.cell.turn x y

  uses : count_of (λ s. not (is_free s)) l ≡ count_of is_open l + (count_of is_held l + count_of is_ready l)
  unfolding is_free is_open is_held is_ready
  uses = count-ext (λ s. not (is_free s)) (λ s. is_open s || (is_held s || is_ready s)) l (λ s m. each s.cell.used (v.uses s m))
      ∙ (count-split (λ s. is_open s || (is_held s || is_ready s)) is_open (λ s. is_held s || is_ready s) l (λ s. (refl, one s.cell.used))
      ∙ ap (λ (n : ℕ). count_of is_open l + n) (count-split (λ s. is_held s || is_ready s) is_held is_ready l
      (λ s. (refl, two s.cell.used))))
    where
      each : (u : ℕ) → u ≤ 3 → not (eqb u 0) ≡ (eqb u 1 || (eqb u 2 || eqb u 3))
      each zero le = refl
      each (suc zero) le = refl
      each (suc (suc zero)) le = refl
      each (suc (suc (suc zero))) le = refl
      each (suc (suc (suc (suc u)))) le = absurd (omega arith)

      one : (u : ℕ) → (eqb u 1 && (eqb u 2 || eqb u 3)) ≡ false
      one u = cases (eqb u 1)
          (λ y. let q = eqb-true u 1 y in rw (y, ne_eqb u 2 (λ z. omega arith), ne_eqb u 3 (λ z. omega arith)))
          (λ y. rw y)

      two : (u : ℕ) → (eqb u 2 && eqb u 3) ≡ false
      two u = cases (eqb u 2) (λ y. let q = eqb-true u 2 y in rw (y, ne_eqb u 3 (λ z. omega arith))) (λ y. rw y)

  -- The cells that an image of these needs are as many as are in use.
  pub used-many : (i : Image) → i.pieces ≡ pieces_in l → i.held ≡ held_in l → i.ready ≡ ready_in l
      → length (used_slots i) ≡ count_of (λ s. not (is_free s)) l
  unfolding used_slots
  used-many i p h r =
      let a = length-append (map piece_slot i.pieces) (held_slots i.held ++ ready_slots 0 i.ready) in
      let b = length-append (held_slots i.held) (ready_slots 0 i.ready) in
      let c = length-map i.pieces piece_slot in
      let d : length i.pieces ≡ count_of is_open l = ap length p ∙ pieces-many in
      let e : length (held_slots i.held) ≡ count_of is_held l
      = ap (λ (m : List MessageEntry). length (held_slots m)) h ∙ held-many in
      let f : length (ready_slots 0 i.ready) ≡ count_of is_ready l
      = ap (λ (m : List MessageEntry). length (ready_slots 0 m)) r ∙ ready-many in
      let g = uses in
      omega arith
