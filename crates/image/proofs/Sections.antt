-- The pieces and messages that a sound receiver's image lists: which they are, that they rise, and that they are within the limits.
-- Assumes nothing.
use Prim.Native.Nat.{ℕ, zero, suc, ◌+◌, ◌*◌, ◌≤◌, ◌<◌}
use mathlib.Core.Path.{◌≡◌, refl, sym, ◌∙◌, ap, subst}
use mathlib.Core.Bool.{Bool, true, false, cond, ◌&&◌}
use mathlib.Core.List.Memᴰ
use mathlib.Core.List.{List, [], map, Memᴰ}
use native.Mathlib.Omega.{arith}
use lib.Dec.{eqb}
use lib.ListN.{length, get_or, length-append, get_or-append}
use lib.Seq.{get_or_at}
use borrow.Author.Tests.{eqb-true, eqb-false}
use Rattle.base.specs.Limits.{numbers24, max_frags, cell_bytes, max_age}
use Rattle.base.specs.Lists.{option, find, any, only, count_of, below}
use Rattle.base.proofs.Choices.{cases, case_option, and_left, and_right, and_both, neither}
use Rattle.base.proofs.Lists.{any-mem, find-some, at-place}
use Rattle.cells.specs.Cell.{Slot, Key, open_as, held_as, ready_as, bears, at, of, sits, is_free, is_open, is_ready, all_there}
use Rattle.cells.specs.Datagram.{is_first}
use Rattle.cells.specs.Room.{is_held_first}
use Rattle.cells.specs.Sound.{key_of}
use Rattle.cells.specs.Store.{cell_size}
use Rattle.cells.proofs.Keys.{sits-is, key-used}
use Rattle.cells.proofs.SoundCore.{Bounds, Agreeing}
use Rattle.cells.proofs.SoundRest.{Rest}
use Rattle.cells.proofs.AgedAs.{AgedAs}
use Rattle.cells.proofs.Store.{AllSized}
use Rattle.image.specs.Image.{PieceEntry, MessageEntry, Image}
use Rattle.base.specs.Sort.{sort_by}
use Rattle.image.specs.Entries.{piece_entry, bodies_of, message_entry, piece_rank, held_rank, turn_of, pieces_in, held_in, ready_in}
use Rattle.image.specs.Slots.{piece_slot, part_slot}
use Rattle.base.proofs.Sorts.{only-in, in-only, count-le, Rising, Apart, in-sort, sort-in, sort-rising, apart-only, apart-map}
use Rattle.image.proofs.Members.{no_entry}
use Rattle.image.proofs.Again.{Rises, self}
use Rattle.image.proofs.Entries.{Entries}

-- ---- a message's bodies
pub bodies-length : (k : Key) (l : List Slot) (n : ℕ) → length (bodies_of k l n) ≡ n
unfolding bodies_of
bodies-length k l zero = refl
bodies-length k l (suc n) = length-append (bodies_of k l n) _ ∙ (let e = bodies-length k l n in omega arith)

bodies-at : (k : Key) (l : List Slot) (n j : ℕ) → j < n → get_or (bodies_of k l n) j [] ≡ option (find (sits k j) l) [] (λ s. s.body)
unfolding bodies_of
bodies-at k l zero j lt = absurd (omega arith)
bodies-at k l (suc n) j lt = cases (eqb j n)
    (λ y. let q = eqb-true j n y in
    rw q (get_or_at (bodies_of k l n) (option (find (sits k n) l) [] (λ s. s.body)) [] [] n (bodies-length k l n)))
    (λ y. let ne : j ≡ n → ⊥ = eqb-false j n y in
    get_or-append (bodies_of k l n) _ [] j (let e = bodies-length k l n in omega arith) ∙ bodies-at k l n j (omega arith))

-- ---- keys of first cells
pub first-held : (s : Slot) → is_held_first s ≡ true → (sits (held_as s.cell.channel s.cell.order) 0 s ≡ true)
    × (key_of s.cell ≡ held_as s.cell.channel s.cell.order)
unfolding is_held_first sits at bears key_of
first-held s e =
    let a = and_left (eqb s.cell.used 2) _ e in
    let b = and_right (eqb s.cell.used 2) _ e in
    let u : s.cell.used ≡ 2 = eqb-true _ _ a in
    (and_both _ _ (and_both _ _ a (and_both _ _ (self s.cell.channel) (self s.cell.order))) b, two s.cell.used u)
  where
    two : (u : ℕ) → u ≡ 2 → cond (eqb u 1) (open_as s.cell.id) (cond (eqb u 2) (held_as s.cell.channel s.cell.order) (ready_as s.cell.turn))
        ≡ held_as s.cell.channel s.cell.order
    two u q = rw q

pub first-ready : (s : Slot) → is_first s ≡ true → (sits (ready_as s.cell.turn) 0 s ≡ true) × (key_of s.cell ≡ ready_as s.cell.turn)
unfolding is_first is_ready sits at bears key_of
first-ready s e =
    let a = and_left (eqb s.cell.used 3) _ e in
    let b = and_right (eqb s.cell.used 3) _ e in
    let u : s.cell.used ≡ 3 = eqb-true _ _ a in
    (and_both _ _ (and_both _ _ a (self s.cell.turn)) b, three s.cell.used u)
  where
    three : (u : ℕ) → u ≡ 3 → cond (eqb u 1) (open_as s.cell.id)
        (cond (eqb u 2) (held_as s.cell.channel s.cell.order) (ready_as s.cell.turn)) ≡ ready_as s.cell.turn
    three u q = rw q

pub open-key : (s : Slot) → is_open s ≡ true → sits (open_as s.cell.id) s.cell.index s ≡ true
unfolding is_open sits at bears
open-key s e = and_both _ _ (and_both _ _ e (self s.cell.id)) (self s.cell.index)

pub message-fields : (l : List Slot) (s : Slot) → ((message_entry l s).channel ≡ s.cell.channel)
    × ((message_entry l s).order ≡ s.cell.order) × ((message_entry l s).kind ≡ s.cell.kind)
    × ((message_entry l s).bodies ≡ bodies_of (key_of s.cell) l s.cell.count)
unfolding message_entry
message-fields l s = (refl, refl, refl, refl)

-- ---- members of the three lists
module _ (l : List Slot) where
  pub pieces-from : (e : PieceEntry) → Memᴰ e (pieces_in l) → (s : Slot) × Memᴰ s l × (is_open s ≡ true) × (e ≡ piece_entry s)
  unfolding pieces_in
  pieces-from e m =
      let a = Memᴰ.of_map piece_entry (only is_open l) (sort-in piece_rank (map piece_entry (only is_open l)) e m) in
      let b = only-in is_open l a.0 a.1 in
      (a.0, b.0, b.1, sym a.2)

  pub in-pieces : (s : Slot) → Memᴰ s l → is_open s ≡ true → Memᴰ (piece_entry s) (pieces_in l)
  unfolding pieces_in
  in-pieces s m e = in-sort piece_rank (map piece_entry (only is_open l)) (piece_entry s) (Memᴰ.map piece_entry (in-only is_open l s m e))

  pub held-from : (e : MessageEntry) → Memᴰ e (held_in l) → (s : Slot) × Memᴰ s l × (is_held_first s ≡ true) × (e ≡ message_entry l s)
  unfolding held_in
  held-from e m =
      let a = Memᴰ.of_map (message_entry l) (only is_held_first l) (sort-in held_rank (map (message_entry l) (only is_held_first l)) e m) in
      let b = only-in is_held_first l a.0 a.1 in
      (a.0, b.0, b.1, sym a.2)

  pub in-held : (s : Slot) → Memᴰ s l → is_held_first s ≡ true → Memᴰ (message_entry l s) (held_in l)
  unfolding held_in
  in-held s m e = in-sort held_rank (map (message_entry l) (only is_held_first l)) (message_entry l s)
      (Memᴰ.map (message_entry l) (in-only is_held_first l s m e))

  ready-from : (e : MessageEntry) → Memᴰ e (ready_in l) → (s : Slot) × Memᴰ s l × (is_first s ≡ true) × (e ≡ message_entry l s)
  unfolding ready_in
  ready-from e m =
      let a = Memᴰ.of_map (message_entry l) (sort_by turn_of (only is_first l)) m in
      let b = only-in is_first l a.0 (sort-in turn_of (only is_first l) a.0 a.1) in
      (a.0, b.0, b.1, sym a.2)

below_false : (n : ℕ) (p : ℕ → Bool) → below n p ≡ false → (j : ℕ) × (j < n) × (p j ≡ false)
unfolding below
below_false zero p e = neither true refl e
below_false (suc n) p e = go (below n p) refl (λ e'. below_false n p e') e
  where
    go : (b : Bool) → below n p ≡ b → (below n p ≡ false → (j : ℕ) × (j < n) × (p j ≡ false)) → (b && p n) ≡ false
        → (j : ℕ) × (j < suc n) × (p j ≡ false)
    go true b rest e = (n, omega arith, e)
    go false b rest e = let r = rest b in let lt = r.1 in (r.0, omega arith, r.2)

module _ (next : ℕ → ℕ) (l : List Slot) (v : Rest next l) where
  used-bounds : (s : Slot) → Memᴰ s l → (k : Key) (j : ℕ) → sits k j s ≡ true → Bounds s
  used-bounds s m k j e = v.core.bounds s m (key-used k s (sits-is k j s e).0)

  -- ---- they rise
  pieces-apart : Apart piece_rank (map piece_entry (only is_open l))
  pieces-apart = apart-map piece_entry number piece_rank (only is_open l) (λ s m. unfold piece_entry in refl)
      (apart-only number is_open l (λ x m e. fewer x m e))
    where
      number : Slot → ℕ
      number s = s.cell.id * max_frags + s.cell.index

      same : (x y : Slot) → Memᴰ x l → Memᴰ y l → is_open x ≡ true → is_open y ≡ true → number y ≡ number x → (y.cell.id ≡ x.cell.id)
          × (y.cell.index ≡ x.cell.index)
      same x y m k e f q =
          let a = used-bounds x m _ _ (open-key x e) in
          let b = used-bounds y k _ _ (open-key y f) in
          let c = a.index in let d = a.count in let g = b.index in let h = b.count in
          (omega arith, omega arith)

      fewer : (x : Slot) → Memᴰ x l → is_open x ≡ true → count_of (λ y. is_open y && eqb (number y) (number x)) l ≤ 1
      fewer x m e =
          let a = v.core.unique (open_as x.cell.id) x.cell.index in
          let b = count-le (λ y. is_open y && eqb (number y) (number x)) (sits (open_as x.cell.id) x.cell.index) l
          (λ y k t. let f = and_left (is_open y) _ t in
          let s = same x y m k e f (eqb-true _ _ (and_right (is_open y) _ t)) in
          subst (λ (d : ℕ). sits (open_as d) x.cell.index y ≡ true) s.0 (subst (λ (d : ℕ). sits (open_as y.cell.id) d y ≡ true) s.1
          (open-key y f))) in
          omega arith

  pub pieces-rise : Rising piece_rank (pieces_in l)
  unfolding pieces_in
  pieces-rise = sort-rising piece_rank (map piece_entry (only is_open l)) pieces-apart

  held-apart : Apart held_rank (map (message_entry l) (only is_held_first l))
  held-apart = apart-map (message_entry l) number held_rank (only is_held_first l) (λ s m. unfold message_entry in refl)
      (apart-only number is_held_first l (λ x m e. fewer x m e))
    where
      number : Slot → ℕ
      number s = s.cell.channel * numbers24 + s.cell.order

      same : (x y : Slot) → Memᴰ x l → Memᴰ y l → is_held_first x ≡ true → is_held_first y ≡ true → number y ≡ number x
          → (y.cell.channel ≡ x.cell.channel) × (y.cell.order ≡ x.cell.order)
      same x y m k e f q =
          let a = used-bounds x m _ _ (first-held x e).0 in
          let b = used-bounds y k _ _ (first-held y f).0 in
          let c = a.order in let d = b.order in
          (omega arith, omega arith)

      fewer : (x : Slot) → Memᴰ x l → is_held_first x ≡ true → count_of (λ y. is_held_first y && eqb (number y) (number x)) l ≤ 1
      fewer x m e =
          let a = v.core.unique (held_as x.cell.channel x.cell.order) 0 in
          let b = count-le (λ y. is_held_first y && eqb (number y) (number x)) (sits (held_as x.cell.channel x.cell.order) 0) l
          (λ y k t. let f = and_left (is_held_first y) _ t in
          let s = same x y m k e f (eqb-true _ _ (and_right (is_held_first y) _ t)) in
          subst (λ (d : ℕ). sits (held_as d x.cell.order) 0 y ≡ true) s.0 (subst (λ (d : ℕ). sits (held_as y.cell.channel d) 0 y ≡ true) s.1
          (first-held y f).0)) in
          omega arith

  pub held-rise : Rising held_rank (held_in l)
  unfolding held_in
  held-rise = sort-rising held_rank (map (message_entry l) (only is_held_first l)) held-apart

  pub turns-apart : Apart turn_of (only is_first l)
  turns-apart = apart-only turn_of is_first l (λ x m e. fewer x m e)
    where
      fewer : (x : Slot) → Memᴰ x l → is_first x ≡ true → count_of (λ y. is_first y && eqb (turn_of y) (turn_of x)) l ≤ 1
      fewer x m e =
          let a = v.core.unique (ready_as x.cell.turn) 0 in
          let b = count-le (λ y. is_first y && eqb (turn_of y) (turn_of x)) (sits (ready_as x.cell.turn) 0) l
          (λ y k t. subst (λ (d : ℕ). sits (ready_as d) 0 y ≡ true) (eqb-true _ _ (and_right (is_first y) _ t))
          (first-ready y (and_left (is_first y) _ t)).0) in
          omega arith

-- ---- within the limits
module _ (next : ℕ → ℕ) (l : List Slot) (v : Rest next l) (z : AllSized l) where
  body-short : (k : Key) (n j : ℕ) → j < n → length (get_or (bodies_of k l n) j []) ≤ cell_bytes
  body-short k n j lt = rw (bodies-at k l n j lt) (case_option (find (sits k j) l) (λ e. rw e (omega arith))
      (λ s e. rw e (let f = find-some (sits k j) l e in short s f.0 (key-used k s (sits-is k j s f.1).0))))
    where
      short : (s : Slot) → Memᴰ s l → is_free s ≡ false → length s.body ≤ cell_bytes
      short s m e = unfold cell_size in (z s m).fits e

  message-bounds : (s : Slot) → Memᴰ s l → (k : Key) → sits k 0 s ≡ true → (u t : ℕ) → u ≤ 4 → (j : ℕ)
      → j < length (message_entry l s).bodies → Bounds (part_slot u t (message_entry l s) j)
  unfolding message_entry part_slot
  message-bounds s m k e u t le j lt =
      let b = used-bounds next l v s m k 0 e in
      let n = bodies-length (key_of s.cell) l s.cell.count in
      record {
        used = le;
        kind = b.kind;
        channel = b.channel;
        sequence = omega arith;
        order = b.order;
        some-count = let c = b.some-count in omega arith;
        count = let c = b.count in omega arith;
        index = lt;
        length = body-short (key_of s.cell) s.cell.count j (omega arith);
        id = omega arith;
      }

  message-some : (s : Slot) → Memᴰ s l → (k : Key) → sits k 0 s ≡ true → 1 ≤ length (message_entry l s).bodies
  unfolding message_entry
  message-some s m k e = let b = (used-bounds next l v s m k 0 e).some-count in let n = bodies-length (key_of s.cell) l s.cell.count in
      omega arith

  piece-bounds : (s : Slot) → Memᴰ s l → is_open s ≡ true → Bounds (piece_slot (piece_entry s))
  unfolding piece_slot piece_entry cell_size
  piece-bounds s m e =
      let b = used-bounds next l v s m _ _ (open-key s e) in
      record {
        used = omega arith;
        kind = b.kind;
        channel = b.channel;
        sequence = b.sequence;
        order = b.order;
        some-count = b.some-count;
        count = b.count;
        index = b.index;
        length = (z s m).fits (key-used (open_as s.cell.id) s (sits-is _ _ s (open-key s e)).0);
        id = b.id;
      }

  piece-agree : (s s' : Slot) → Agreeing s s' → Agreeing (piece_slot (piece_entry s)) (piece_slot (piece_entry s'))
  unfolding piece_slot piece_entry
  piece-agree s s' a = record { count = a.count; kind = a.kind; sequence = a.sequence; order = a.order; channel = a.channel }

  piece-like : (s s' : Slot) → Memᴰ s l → Memᴰ s' l → is_open s ≡ true → is_open s' ≡ true → (piece_entry s).id ≡ (piece_entry s').id
      → Agreeing (piece_slot (piece_entry s)) (piece_slot (piece_entry s'))
  unfolding piece_entry
  piece-like s s' m m' e e' q =
      piece-agree s s' (v.core.alike (open_as s'.cell.id) s s' m m'
      (subst (λ (d : ℕ). of (open_as d) s ≡ true) q (sits-is _ _ s (open-key s e)).0) (sits-is _ _ s' (open-key s' e')).0)

  piece-lacks : (s : Slot) → Memᴰ s l → is_open s ≡ true → (j : ℕ) × (j < (piece_entry s).count) × ((f : PieceEntry) → Memᴰ f (pieces_in l)
      → f.id ≡ (piece_entry s).id → f.index ≡ j → ⊥)
  unfolding piece_entry all_there
  piece-lacks s m e =
      let a = below_false s.cell.count (λ j. any (sits (open_as s.cell.id) j) l) (v.lack s.cell.id s m (sits-is _ _ s (open-key s e)).0) in
      (a.0, a.1, λ f k p q. never a.0 a.2 f (pieces-from l f k) p q)
    where
      never : (j : ℕ) → any (sits (open_as s.cell.id) j) l ≡ false → (f : PieceEntry) → (s : Slot) × Memᴰ s l × (is_open s ≡ true)
          × (f ≡ piece_entry s) → f.id ≡ s.cell.id → f.index ≡ j → ⊥
      never j empty f b p q =
          let x : b.0.cell.id ≡ s.cell.id = sym (ap (λ (y : PieceEntry). y.id) b.3) ∙ p in
          let y : b.0.cell.index ≡ j = sym (ap (λ (y : PieceEntry). y.index) b.3) ∙ q in
          let o = open-key b.0 b.2 in
          neither (any (sits (open_as s.cell.id) j) l)
          (any-mem (sits (open_as s.cell.id) j) l b.0 b.1 (subst (λ (d : ℕ). sits (open_as s.cell.id) d b.0 ≡ true) y
          (subst (λ (d : ℕ). sits (open_as d) b.0.cell.index b.0 ≡ true) x o))) empty

  -- ---- an image with these lists
  module _ (i : Image) (p : i.pieces ≡ pieces_in l) (h : i.held ≡ held_in l) (d : i.ready ≡ ready_in l) where
    pub image-rises : Rises i
    image-rises = record {
      pieces = rw p (pieces-rise next l v);
      held = rw h (held-rise next l v);
      some-held = λ e m. let a = held-from l e (rw h at m) in
          subst (λ (e : MessageEntry). 1 ≤ length e.bodies) (sym a.3) (message-some a.0 a.1 _ (first-held a.0 a.2).0);
      some-ready = λ e m. let a = ready-from l e (rw d at m) in
          subst (λ (e : MessageEntry). 1 ≤ length e.bodies) (sym a.3) (message-some a.0 a.1 _ (first-ready a.0 a.2).0);
    }

    -- the pieces' ages are those of the cells
    age-of : {F : ℕ → ℕ} → AgedAs F l → (e : PieceEntry) (s : Slot) → Memᴰ s l → is_open s ≡ true → e ≡ piece_entry s → e.age ≡ F e.id
    unfolding piece_entry
    age-of {F} w e s m o q = ap (λ (y : PieceEntry). y.age) q ∙ (w.is s m o ∙ ap (λ (y : PieceEntry). F y.id) (sym q))

    pub image-entries : {F : ℕ → ℕ} → AgedAs F l → Entries next i
    image-entries {F} w = record {
      pieces = λ e m. let a = pieces-from l e (rw p at m) in
          subst (λ (e : PieceEntry). Bounds (piece_slot e)) (sym a.3) (piece-bounds a.0 a.1 a.2);
      aged = λ e f m n q. let a = pieces-from l e (rw p at m) in let b = pieces-from l f (rw p at n) in
          same-age e f a.0 b.0 a.1 b.1 a.2 b.2 a.3 b.3 q;
      age = λ e m. let a = pieces-from l e (rw p at m) in young e a.0 a.1 a.2 a.3;
      alike = λ e f m n q. let a = pieces-from l e (rw p at m) in let b = pieces-from l f (rw p at n) in
          agree e f a.0 b.0 a.3 b.3 q (piece-like a.0 b.0 a.1 b.1 a.2 b.2);
      lacking = λ e m. let a = pieces-from l e (rw p at m) in lacks e a.0 a.3 (piece-lacks a.0 a.1 a.2);
      held = λ e m. let a = held-from l e (rw h at m) in
          subst (λ (e : MessageEntry). (j : ℕ) → j < length e.bodies → Bounds (part_slot 2 0 e j)) (sym a.3)
          (λ j lt. message-bounds a.0 a.1 _ (first-held a.0 a.2).0 2 0 (omega arith) j lt);
      ahead = λ e m. let a = held-from l e (rw h at m) in
          subst (λ (e : MessageEntry). next e.channel < e.order) (sym a.3) (over a.0 a.1 a.2);
      ready = λ k lt. let a = ready-from l (get_or i.ready k no_entry)
          (subst (λ (r : List MessageEntry). Memᴰ (get_or i.ready k no_entry) r) d (at-place no_entry i.ready k lt)) in
          subst (λ (e : MessageEntry). (j : ℕ) → j < length e.bodies → Bounds (part_slot 3 k e j)) (sym a.3)
          (λ j jt. message-bounds a.0 a.1 _ (first-ready a.0 a.2).0 3 k (omega arith) j jt);
      nexts = v.nexts;
    }
      where
        same-age : (e f : PieceEntry) (s s' : Slot) → Memᴰ s l → Memᴰ s' l → is_open s ≡ true → is_open s' ≡ true → e ≡ piece_entry s
            → f ≡ piece_entry s' → e.id ≡ f.id → e.age ≡ f.age
        same-age e f s s' m m' o o' q q' r = age-of w e s m o q ∙ (ap F r ∙ sym (age-of w f s' m' o' q'))

        young : (e : PieceEntry) (s : Slot) → Memᴰ s l → is_open s ≡ true → e ≡ piece_entry s → e.age ≤ max_age
        young e s m o q = rw (age-of w e s m o q) (w.small e.id)

        agree : (e f : PieceEntry) (s s' : Slot) → e ≡ piece_entry s → f ≡ piece_entry s' → e.id ≡ f.id
            → ((piece_entry s).id ≡ (piece_entry s').id → Agreeing (piece_slot (piece_entry s)) (piece_slot (piece_entry s')))
            → Agreeing (piece_slot e) (piece_slot f)
        agree e f s s' q q' r g =
            subst (λ (x : PieceEntry). Agreeing (piece_slot x) (piece_slot f)) (sym q)
            (subst (λ (x : PieceEntry). Agreeing (piece_slot (piece_entry s)) (piece_slot x)) (sym q')
            (g (sym (ap (λ (x : PieceEntry). x.id) q) ∙ (r ∙ ap (λ (x : PieceEntry). x.id) q'))))

        lacks : (e : PieceEntry) (s : Slot) → e ≡ piece_entry s → (j : ℕ) × (j < (piece_entry s).count)
            × ((f : PieceEntry) → Memᴰ f (pieces_in l) → f.id ≡ (piece_entry s).id → f.index ≡ j → ⊥)
            → (j : ℕ) × (j < e.count) × ((f : PieceEntry) → Memᴰ f i.pieces → f.id ≡ e.id → f.index ≡ j → ⊥)
        lacks e s q a = (
          a.0,
          subst (λ (x : PieceEntry). a.0 < x.count) (sym q) a.1,
          λ f m u w. a.2 f (rw p at m) (u ∙ ap (λ (x : PieceEntry). x.id) q) w,
        )

        over : (s : Slot) → Memᴰ s l → is_held_first s ≡ true → next (message_entry l s).channel < (message_entry l s).order
        over s m e = unfold message_entry in
            v.ahead s.cell.channel s.cell.order (any-mem (of (held_as s.cell.channel s.cell.order)) l s m
            (sits-is _ _ s (first-held s e).0).0)
