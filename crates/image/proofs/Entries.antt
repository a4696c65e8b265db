-- What soundness says of an image's pieces and messages; and that it makes the restored cells sound.
-- Assumes nothing.
use Prim.Native.Nat.{ℕ, zero, suc, ◌+◌, ◌-◌, ◌*◌, ◌≤◌, ◌<◌}
use mathlib.Core.Path.{◌≡◌, refl, sym, ◌∙◌, ap, subst}
use mathlib.Core.Bool.{true, false}
use mathlib.Core.List.Memᴰ
use mathlib.Core.List.{List, [], ◌∷◌, ◌++◌, map, Memᴰ}
use native.Mathlib.Omega.{arith}
use lib.Dec.{eqb}
use lib.ListN.{length, get_or, replicate}
use borrow.Author.Tests.{eqb-true}
use Rattle.base.specs.Limits.{numbers24, max_frags, max_ord_chans, max_age}
use Rattle.base.specs.Lists.{option, find, any, count_of, below}
use Rattle.base.proofs.Choices.{cases, case_option, neither}
use Rattle.base.proofs.Lists.{any-mem, any-all, any-true, below_all, below_at, find-some, find_none, mem-replicate}
use Rattle.base.proofs.Counts.{count_none}
use Rattle.cells.specs.Cell.{Slot, Key, open_as, held_as, ready_as, of, sits, is_free, is_open, all_there}
use Rattle.cells.specs.Cell.{empty_slot}
use Rattle.cells.proofs.Keys.{use_of, of-used, sits-is, ready_of, empty_of, empty-free, sits-not}
use Rattle.cells.proofs.Pieces.{open_of}
use Rattle.cells.proofs.Moves.{of-held}
use Rattle.cells.proofs.Ready.{Unique}
use Rattle.cells.proofs.SoundCore.{Bounds, Agreeing, Lack}
use Rattle.cells.proofs.SoundRest.{Rest}
use Rattle.cells.proofs.AgedAs.{AgedAs}
use Rattle.image.specs.Image.{PieceEntry, MessageEntry, Image}
use Rattle.image.specs.Entries.{piece_rank, held_rank}
use Rattle.image.specs.Slots.{piece_slot, part_slot, parts, held_slots, ready_slots, used_slots, slots_from}
use Rattle.base.proofs.Sorts.{Rising, rising-map, rising-append, rising-count, count-append, rising-same}
use Rattle.image.proofs.Members.{no_entry, From, piece, held, ready, unused, slots-from, held-there, ready-there, from-parts}
use Rattle.image.proofs.Members.{from-held, from-ready}
use Rattle.image.proofs.Again.{Rises, piece-used, part-used, empty-used, part-fields, piece-fields, self, held-sits, ready-sits}
use Rattle.image.proofs.Again.{open-use}

-- An image's entries within the limits: pieces of an id agree, have one age and lack an index, held messages are ahead.
pub record Entries (next : ℕ → ℕ) (i : Image) : Type 0 where
  pub pieces : (e : PieceEntry) → Memᴰ e i.pieces → Bounds (piece_slot e)
  pub alike : (e f : PieceEntry) → Memᴰ e i.pieces → Memᴰ f i.pieces → e.id ≡ f.id → Agreeing (piece_slot e) (piece_slot f)
  pub aged : (e f : PieceEntry) → Memᴰ e i.pieces → Memᴰ f i.pieces → e.id ≡ f.id → e.age ≡ f.age
  pub age : (e : PieceEntry) → Memᴰ e i.pieces → e.age ≤ max_age
  pub lacking : (e : PieceEntry) → Memᴰ e i.pieces → (j : ℕ) × (j < e.count) × ((f : PieceEntry) → Memᴰ f i.pieces → f.id ≡ e.id
      → f.index ≡ j → ⊥)
  pub held : (e : MessageEntry) → Memᴰ e i.held → (j : ℕ) → j < length e.bodies → Bounds (part_slot 2 0 e j)
  pub ahead : (e : MessageEntry) → Memᴰ e i.held → next e.channel < e.order
  pub ready : (k : ℕ) → k < length i.ready → (j : ℕ) → j < length (get_or i.ready k no_entry).bodies
      → Bounds (part_slot 3 k (get_or i.ready k no_entry) j)
  pub nexts : (c : ℕ) → c < max_ord_chans → next c ≤ numbers24

-- the age of an id, by its first piece
unfoldable pub age_in : List PieceEntry → ℕ → ℕ
age_in l id = option (find (λ (e : PieceEntry). eqb e.id id) l) 0 (λ e. e.age)

-- ---- no two cells of a message have one index
abbrev open_number : Slot → ℕ
open_number s = s.cell.id * max_frags + s.cell.index

abbrev held_number : Slot → ℕ
held_number s = (s.cell.channel * numbers24 + s.cell.order) * max_frags + s.cell.index

abbrev ready_number : Slot → ℕ
ready_number s = s.cell.turn * max_frags + s.cell.index

parts-rise : (number : Slot → ℕ) (u t : ℕ) (e : MessageEntry) (base : ℕ) → ((j : ℕ) → number (part_slot u t e j) ≡ base + j) → (n : ℕ)
    → Rising number (parts u t e n)
unfolding parts
parts-rise number u t e base h zero = tt
parts-rise number u t e base h (suc n) =
    rising-append number (parts u t e n) (part_slot u t e n ∷ []) (parts-rise number u t e base h n) ((λ y m. absurd (Memᴰ.not-nil m)), tt)
    (λ x y m k. let a = from-parts u t e n x m in
    let p : number x ≡ base + a.0 = ap number a.2 ∙ h a.0 in
    let q : number y ≡ base + n = ap number (Memᴰ.eq_of_singleton k) ∙ h n in
    let lt = a.1 in
    omega arith)

held-number : (e : MessageEntry) (j : ℕ) → held_number (part_slot 2 0 e j) ≡ held_rank e * max_frags + j
unfolding part_slot
held-number e j = refl

ready-number : (t : ℕ) (e : MessageEntry) (j : ℕ) → ready_number (part_slot 3 t e j) ≡ t * max_frags + j
unfolding part_slot
ready-number t e j = refl

held-rise : (es : List MessageEntry) → Rising held_rank es → ((e : MessageEntry) → Memᴰ e es → length e.bodies ≤ max_frags)
    → Rising held_number (held_slots es)
unfolding held_slots
held-rise [] a h = tt
held-rise (e ∷ es) a h =
    rising-append held_number (parts 2 0 e (length e.bodies)) (held_slots es)
    (parts-rise held_number 2 0 e (held_rank e * max_frags) (held-number e) (length e.bodies))
    (held-rise es a.1 (λ f m. h f (Memᴰ.tail m)))
    (λ x y m k. let b = from-parts 2 0 e (length e.bodies) x m in
    let c = from-held es y k in
    let p : held_number x ≡ held_rank e * max_frags + b.0 = ap held_number b.2 ∙ held-number e b.0 in
    let q : held_number y ≡ held_rank c.0 * max_frags + c.2 = ap held_number c.4 ∙ held-number c.0 c.2 in
    let lt = b.1 in
    let few = h e (Memᴰ.head refl) in
    let less : held_rank e < held_rank c.0 = a.0 c.0 c.1 in
    apart (held_rank e) (held_rank c.0) b.0 c.2 (held_number x) (held_number y) less (omega arith) p q)
  where
    apart : (a b i j x y : ℕ) → a < b → i < max_frags → x ≡ a * max_frags + i → y ≡ b * max_frags + j → x < y
    apart a b i j x y lt few p q = omega arith

ready-rise : (t : ℕ) (es : List MessageEntry) → ((k : ℕ) → k < length es → length (get_or es k no_entry).bodies ≤ max_frags)
    → Rising ready_number (ready_slots t es)
unfolding ready_slots
ready-rise t [] h = tt
ready-rise t (e ∷ es) h =
    rising-append ready_number (parts 3 t e (length e.bodies)) (ready_slots (suc t) es)
    (parts-rise ready_number 3 t e (t * max_frags) (ready-number t e) (length e.bodies))
    (ready-rise (suc t) es (λ k lt. h (suc k) (omega arith)))
    (λ x y m k. let b = from-parts 3 t e (length e.bodies) x m in
    let c = from-ready (suc t) es y k in
    let p : ready_number x ≡ t * max_frags + b.0 = ap ready_number b.2 ∙ ready-number t e b.0 in
    let q : ready_number y ≡ (suc t + c.0) * max_frags + c.2 = ap ready_number c.4
    ∙ ready-number (suc t + c.0) (get_or es c.0 no_entry) c.2 in
    let lt = b.1 in
    let few : length e.bodies ≤ max_frags = h 0 (omega arith) in
    apart t (suc t + c.0) b.0 c.2 (ready_number x) (ready_number y) (omega arith) (omega arith) p q)
  where
    apart : (a b i j x y : ℕ) → a < b → i < max_frags → x ≡ a * max_frags + i → y ≡ b * max_frags + j → x < y
    apart a b i j x y lt few p q = omega arith

module _ (next : ℕ → ℕ) (n : ℕ) (i : Image) (r : Rises i) (v : Entries next i) where
  held-few : (e : MessageEntry) → Memᴰ e i.held → length e.bodies ≤ max_frags
  unfolding part_slot
  held-few e m = (v.held e m 0 (r.some-held e m)).count

  ready-few : (k : ℕ) → k < length i.ready → length (get_or i.ready k no_entry).bodies ≤ max_frags
  unfolding part_slot
  ready-few k lt = go (length (get_or i.ready k no_entry).bodies) refl
    where
      go : (c : ℕ) → length (get_or i.ready k no_entry).bodies ≡ c → c ≤ max_frags
      go zero e = omega arith
      go (suc c) e = let b : length (get_or i.ready k no_entry).bodies ≤ max_frags = (v.ready k lt 0 (omega arith)).count in omega arith

  none-there : (k : Key) (j : ℕ) (l : List Slot) → ((s : Slot) → Memᴰ s l → s.cell.used ≡ use_of k → ⊥) → count_of (sits k j) l ≡ 0
  none-there k j l h = count_none (sits k j) l
      (any-all (sits k j) l (λ s m. cases (sits k j s) (λ y. absurd (h s m (of-used k s (sits-is k j s y).0))) (λ y. y)))

  no-piece : (k : Key) (j : ℕ) → (1 ≡ use_of k → ⊥) → count_of (sits k j) (map piece_slot i.pieces) ≡ 0
  no-piece k j ne = none-there k j _ (λ s m u. let a = Memᴰ.of_map piece_slot i.pieces m in ne (sym (piece-used s a.0 (sym a.2)) ∙ u))

  no-held : (k : Key) (j : ℕ) → (2 ≡ use_of k → ⊥) → count_of (sits k j) (held_slots i.held) ≡ 0
  no-held k j ne = none-there k j _ (λ s m u. let a = from-held i.held s m in ne (sym (part-used s 2 0 a.0 a.2 a.4) ∙ u))

  no-ready : (k : Key) (j : ℕ) → (3 ≡ use_of k → ⊥) → count_of (sits k j) (ready_slots 0 i.ready) ≡ 0
  no-ready k j ne = none-there k j _ (λ s m u. let a = from-ready 0 i.ready s m in
      ne (sym (part-used s 3 (0 + a.0) (get_or i.ready a.0 no_entry) a.2 a.4) ∙ u))

  no-empty : (k : Key) (j : ℕ) → count_of (sits k j) (replicate (n - length (used_slots i)) empty_slot) ≡ 0
  no-empty k j = count_none (sits k j) _
      (any-all (sits k j) _ (λ s m. ap (sits k j) (mem-replicate empty_slot s (n - length (used_slots i)) m)
      ∙ sits-not k j empty_slot (empty_of k)))

  count-parts : (k : Key) (j : ℕ) → count_of (sits k j) (slots_from n i) ≡ count_of (sits k j) (map piece_slot i.pieces) +
      (count_of (sits k j) (held_slots i.held) + count_of (sits k j) (ready_slots 0 i.ready))
  unfolding slots_from used_slots
  count-parts k j =
      count-append (sits k j) (used_slots i) (replicate (n - length (used_slots i)) empty_slot)
      ∙ (rw (no-empty k j) (omega (
        arith,
        count-append (sits k j) (map piece_slot i.pieces) (held_slots i.held ++ ready_slots 0 i.ready),
        count-append (sits k j) (held_slots i.held) (ready_slots 0 i.ready),
      )))

  slots-unique : Unique (slots_from n i)
  slots-unique (open_as id) j =
      let a = count-parts (open_as id) j in
      let b = no-held (open_as id) j (λ q. omega arith) in
      let c = no-ready (open_as id) j (λ q. omega arith) in
      let d = rising-count open_number (sits (open_as id) j) (map piece_slot i.pieces)
      (rising-map piece_slot piece_rank open_number i.pieces (λ e m. unfold piece_slot in refl) r.pieces) same in
      omega arith
    where
      same : (x y : Slot) → Memᴰ x (map piece_slot i.pieces) → Memᴰ y (map piece_slot i.pieces) → sits (open_as id) j x ≡ true
          → sits (open_as id) j y ≡ true → open_number x ≡ open_number y
      same x y mx my px py =
          let a = sits-is (open_as id) j x px in
          let b = sits-is (open_as id) j y py in
          let c = open_of id x a.0 in
          let d = open_of id y b.0 in
          let e : x.cell.id ≡ y.cell.id = cc in
          let f : x.cell.index ≡ y.cell.index = cc in
          rw (e, f)
  slots-unique (held_as ch o) j =
      let a = count-parts (held_as ch o) j in
      let b = no-piece (held_as ch o) j (λ q. omega arith) in
      let c = no-ready (held_as ch o) j (λ q. omega arith) in
      let d = rising-count held_number (sits (held_as ch o) j) (held_slots i.held) (held-rise i.held r.held held-few) same in
      omega arith
    where
      same : (x y : Slot) → Memᴰ x (held_slots i.held) → Memᴰ y (held_slots i.held) → sits (held_as ch o) j x ≡ true
          → sits (held_as ch o) j y ≡ true → held_number x ≡ held_number y
      same x y mx my px py =
          let a = sits-is (held_as ch o) j x px in
          let b = sits-is (held_as ch o) j y py in
          let c = of-held ch o x a.0 in
          let d = of-held ch o y b.0 in
          let e : x.cell.channel ≡ y.cell.channel = cc in
          let f : x.cell.index ≡ y.cell.index = cc in
          let g : x.cell.order ≡ y.cell.order = cc in
          rw (e, f, g)
  slots-unique (ready_as t) j =
      let a = count-parts (ready_as t) j in
      let b = no-piece (ready_as t) j (λ q. omega arith) in
      let c = no-held (ready_as t) j (λ q. omega arith) in
      let d = rising-count ready_number (sits (ready_as t) j) (ready_slots 0 i.ready) (ready-rise 0 i.ready ready-few) same in
      omega arith
    where
      same : (x y : Slot) → Memᴰ x (ready_slots 0 i.ready) → Memᴰ y (ready_slots 0 i.ready) → sits (ready_as t) j x ≡ true
          → sits (ready_as t) j y ≡ true → ready_number x ≡ ready_number y
      same x y mx my px py =
          let a = sits-is (ready_as t) j x px in
          let b = sits-is (ready_as t) j y py in
          let c = ready_of t x a.0 in
          let d = ready_of t y b.0 in
          let e : x.cell.turn ≡ y.cell.turn = cc in
          let f : x.cell.index ≡ y.cell.index = cc in
          rw (e, f)

  -- ---- every cell is within the limits, and agrees with the others of its message
  slots-bounds : (s : Slot) → Memᴰ s (slots_from n i) → is_free s ≡ false → Bounds s
  slots-bounds s m f = go (slots-from i n s m)
    where
      go : From i s → Bounds s
      go (piece e me q) = subst Bounds (sym q) (v.pieces e me)
      go (held e me j lt q) = subst Bounds (sym q) (v.held e me j lt)
      go (ready k kt j lt q) = subst Bounds (sym q) (v.ready k kt j lt)
      go (unused q) = neither (is_free s) (ap is_free q ∙ empty-free) f

  slots-uses : (s : Slot) → Memᴰ s (slots_from n i) → s.cell.used ≤ 3
  slots-uses s m = go (slots-from i n s m)
    where
      go : From i s → s.cell.used ≤ 3
      go (piece e me q) = let u = piece-used s e q in omega arith
      go (held e me j lt q) = let u = part-used s 2 0 e j q in omega arith
      go (ready k kt j lt q) = let u = part-used s 3 k _ j q in omega arith
      go (unused q) = let u = empty-used s q in omega arith

  parts-agree : (u t u' t' : ℕ) (e : MessageEntry) (j j' : ℕ) → Agreeing (part_slot u t e j) (part_slot u' t' e j')
  unfolding part_slot
  parts-agree u t u' t' e j j' = record { count = refl; kind = refl; sequence = refl; order = refl; channel = refl }

  agreed : (s s' x x' : Slot) → s ≡ x → s' ≡ x' → Agreeing x x' → Agreeing s s'
  agreed s s' x x' p q a = subst (λ (z : Slot). Agreeing z s') (sym p) (subst (λ (z : Slot). Agreeing x z) (sym q) a)

  -- the entry that a cell of a key comes from
  of-piece : (id : ℕ) (s : Slot) → Memᴰ s (slots_from n i) → of (open_as id) s ≡ true → (e : PieceEntry) × Memᴰ e i.pieces
      × (s ≡ piece_slot e) × (e.id ≡ id)
  of-piece id s m o = go (slots-from i n s m)
    where
      u : s.cell.used ≡ 1
      u = of-used (open_as id) s o

      go : From i s → (e : PieceEntry) × Memᴰ e i.pieces × (s ≡ piece_slot e) × (e.id ≡ id)
      go (piece e me q) = (e, me, q, sym (piece-fields s e q).0 ∙ (open_of id s o).1)
      go (held e me j lt q) = absurd (omega (arith, u, part-used s 2 0 e j q))
      go (ready k kt j lt q) = absurd (omega (arith, u, part-used s 3 k (get_or i.ready k no_entry) j q))
      go (unused q) = absurd (omega (arith, u, empty-used s q))

  of-held-entry : (c o : ℕ) (s : Slot) → Memᴰ s (slots_from n i) → of (held_as c o) s ≡ true → (e : MessageEntry) × Memᴰ e i.held
      × (j : ℕ) × (j < length e.bodies) × (s ≡ part_slot 2 0 e j) × (e.channel ≡ c) × (e.order ≡ o)
  of-held-entry c o s m h = go (slots-from i n s m)
    where
      u : s.cell.used ≡ 2
      u = of-used (held_as c o) s h

      go : From i s → (e : MessageEntry) × Memᴰ e i.held × (j : ℕ) × (j < length e.bodies) × (s ≡ part_slot 2 0 e j) × (e.channel ≡ c)
          × (e.order ≡ o)
      go (piece e me q) = absurd (omega (arith, u, piece-used s e q))
      go (held e me j lt q) = let x = part-fields s 2 0 e j q in let y = of-held c o s h in (e, me, j, lt, q, sym x.0 ∙ y.0, sym x.1 ∙ y.1)
      go (ready k kt j lt q) = absurd (omega (arith, u, part-used s 3 k (get_or i.ready k no_entry) j q))
      go (unused q) = absurd (omega (arith, u, empty-used s q))

  pub of-ready-entry : (t : ℕ) (s : Slot) → Memᴰ s (slots_from n i) → of (ready_as t) s ≡ true → (t < length i.ready) × (j : ℕ)
      × (j < length (get_or i.ready t no_entry).bodies) × (s ≡ part_slot 3 t (get_or i.ready t no_entry) j)
  of-ready-entry t s m h = go (slots-from i n s m)
    where
      u : s.cell.used ≡ 3
      u = of-used (ready_as t) s h

      go : From i s → (t < length i.ready) × (j : ℕ) × (j < length (get_or i.ready t no_entry).bodies)
          × (s ≡ part_slot 3 t (get_or i.ready t no_entry) j)
      go (piece e me q) = absurd (omega (arith, u, piece-used s e q))
      go (held e me j lt q) = absurd (omega (arith, u, part-used s 2 0 e j q))
      go (ready k kt j lt q) =
          let x : k ≡ t = sym (part-fields s 3 k (get_or i.ready k no_entry) j q).3 ∙ (ready_of t s h).1 in (
            omega arith,
            j,
            subst (λ (z : ℕ). j < length (get_or i.ready z no_entry).bodies) x lt,
            subst (λ (z : ℕ). s ≡ part_slot 3 z (get_or i.ready z no_entry) j) x q,
          )
      go (unused q) = absurd (omega (arith, u, empty-used s q))

  slots-alike : (k : Key) (s s' : Slot) → Memᴰ s (slots_from n i) → Memᴰ s' (slots_from n i) → of k s ≡ true → of k s' ≡ true
      → Agreeing s s'
  slots-alike (open_as id) s s' m m' o o' =
      let a = of-piece id s m o in
      let b = of-piece id s' m' o' in
      agreed s s' _ _ a.2 b.2 (v.alike a.0 b.0 a.1 b.1 (a.3 ∙ sym b.3))
  slots-alike (held_as c o) s s' m m' p p' =
      let a = of-held-entry c o s m p in
      let b = of-held-entry c o s' m' p' in
      let e = rising-same held_rank i.held r.held b.0 a.0 b.1 a.1 (let x = a.5 in let y = a.6 in let z = b.5 in let w = b.6 in
      omega arith) in
      agreed s s' (part_slot 2 0 a.0 a.2) (part_slot 2 0 a.0 b.2) a.4 (b.4 ∙ ap (λ (z : MessageEntry). part_slot 2 0 z b.2) e)
      (parts-agree 2 0 2 0 a.0 a.2 b.2)
  slots-alike (ready_as t) s s' m m' p p' =
      let a = of-ready-entry t s m p in
      let b = of-ready-entry t s' m' p' in
      agreed s s' _ _ a.3 b.3 (parts-agree 3 t 3 t (get_or i.ready t no_entry) a.1 b.1)

  part_count : (s : Slot) (u t : ℕ) (e : MessageEntry) (j : ℕ) → s ≡ part_slot u t e j → s.cell.count ≡ length e.bodies
  unfolding part_slot
  part_count s u t e j q = ap (λ (z : Slot). z.cell.count) q

  slots-full : (k : Key) → (use_of k ≡ 1 → ⊥) → (s : Slot) → Memᴰ s (slots_from n i) → of k s ≡ true
      → all_there k (slots_from n i) s.cell.count ≡ true
  unfolding all_there
  slots-full (open_as id) ne s m o = absurd (ne refl)
  slots-full (held_as c o) ne s m p =
      let a = of-held-entry c o s m p in
      let q = part_count s 2 0 a.0 a.2 a.4 in
      below_all s.cell.count _ (λ j lt. any-mem (sits (held_as c o) j) (slots_from n i) (part_slot 2 0 a.0 j)
      (held-there i n a.0 a.1 j (omega arith)) (cc (held-sits a.0 j, a.5, a.6)))
  slots-full (ready_as t) ne s m p =
      let a = of-ready-entry t s m p in
      let q = part_count s 3 t (get_or i.ready t no_entry) a.1 a.3 in
      below_all s.cell.count _ (λ j lt. any-mem (sits (ready_as t) j) (slots_from n i) (part_slot 3 t (get_or i.ready t no_entry) j)
      (ready-there i n t a.0 j (omega arith)) (ready-sits t (get_or i.ready t no_entry) j))

  piece-count : (s : Slot) (e : PieceEntry) → s ≡ piece_slot e → s.cell.count ≡ e.count
  unfolding piece_slot
  piece-count s e q = ap (λ (z : Slot). z.cell.count) q

  slots-lack : Lack (slots_from n i)
  unfolding all_there
  slots-lack id s m o = cases (below s.cell.count (λ j. any (sits (open_as id) j) (slots_from n i))) (λ y. absurd (missing y)) (λ y. y)
    where
      missing : below s.cell.count (λ j. any (sits (open_as id) j) (slots_from n i)) ≡ true → ⊥
      missing y =
          let a = of-piece id s m o in
          let g = v.lacking a.0 a.1 in
          let c = piece-count s a.0 a.2 in
          let lt = g.1 in
          let t = any-true (sits (open_as id) g.0) (slots_from n i) (below_at s.cell.count _ y g.0 (omega arith)) in
          clash a.0 a.3 g.0 g.2 t.0 t.1 t.2
        where
          clash : (e : PieceEntry) → e.id ≡ id → (j : ℕ) → ((f : PieceEntry) → Memᴰ f i.pieces → f.id ≡ e.id → f.index ≡ j → ⊥) → (x : Slot)
              → Memᴰ x (slots_from n i) → sits (open_as id) j x ≡ true → ⊥
          clash e q j g x mx px =
              let w = sits-is (open_as id) j x px in
              let b = of-piece id x mx w.0 in
              g b.0 b.1 (b.3 ∙ sym q) (sym (piece-fields x b.0 b.2).1 ∙ w.1)

  -- The cells restored from such an image are sound.
  pub restored-rest : Rest next (slots_from n i)
  restored-rest = record {
    core = record { bounds = slots-bounds; unique = slots-unique; alike = slots-alike; full = slots-full };
    uses = slots-uses;
    lack = slots-lack;
    ahead = λ c o y. let t = any-true (of (held_as c o)) (slots_from n i) y in
        let a = of-held-entry c o t.0 t.1 t.2 in
        subst (λ (z : ℕ). next c < z) a.6 (subst (λ (z : ℕ). next z < a.0.order) a.5 (v.ahead a.0 a.1));
    nexts = v.nexts;
  }

  -- And their open cells have the ages that the entries say.
  pub restored-aged : AgedAs (age_in i.pieces) (slots_from n i)
  unfolding age_in
  restored-aged = record { is = λ s m o. go s o (slots-from i n s m); small = small }
    where
      same : (e : PieceEntry) → Memᴰ e i.pieces → e.age ≡ age_in i.pieces e.id
      same e m = case_option (find (λ f. eqb f.id e.id) i.pieces)
          (λ y. neither (eqb e.id e.id) (self e.id) (find_none (λ f. eqb f.id e.id) i.pieces y e m))
          (λ f y. rw y (let a = find-some (λ f. eqb f.id e.id) i.pieces y in v.aged e f m a.0 (sym (eqb-true f.id e.id a.1))))

      small : (id : ℕ) → age_in i.pieces id ≤ max_age
      small id = case_option (find (λ f. eqb f.id id) i.pieces)
          (λ y. rw y (omega arith))
          (λ f y. rw y (v.age f (find-some (λ f. eqb f.id id) i.pieces y).0))

      age-of : (s : Slot) (e : PieceEntry) → s ≡ piece_slot e → (s.cell.age ≡ e.age) × (s.cell.id ≡ e.id)
      age-of s e q = unfold piece_slot in (ap (λ (z : Slot). z.cell.age) q, ap (λ (z : Slot). z.cell.id) q)

      go : (s : Slot) → is_open s ≡ true → From i s → s.cell.age ≡ age_in i.pieces s.cell.id
      go s o (piece e me q) = let a = age-of s e q in a.0 ∙ (same e me ∙ ap (age_in i.pieces) (sym a.1))
      go s o (held e me j lt q) = absurd (omega (arith, open-use s o, part-used s 2 0 e j q))
      go s o (ready k kt j lt q) = absurd (omega (arith, open-use s o, part-used s 3 k (get_or i.ready k no_entry) j q))
      go s o (unused q) = absurd (omega (arith, open-use s o, empty-used s q))
