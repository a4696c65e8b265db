-- The cells restored from an image hold what it says: its pieces, held and ready messages.
-- Assumes nothing.
use Prim.Native.Nat.{ℕ, zero, suc, ◌+◌, ◌-◌, ◌≤◌, ◌<◌}
use mathlib.Core.Path.{◌≡◌, refl, sym, ◌∙◌, ap}
use mathlib.Core.Logic.{◌⊎◌, inl, inr}
use mathlib.Core.Bool.{Bool, true, false}
use mathlib.Core.Option.{some}
use mathlib.Core.List.Memᴰ
use mathlib.Core.List.{List, [], ◌∷◌, ◌++◌, map, append-nil, Memᴰ}
use native.Mathlib.Omega.{arith}
use lib.Dec.{eqb}
use lib.ListN.{length, get_or, take, replicate}
use lib.Seq.{take-suc, take-length}
use borrow.Author.Tests.{eqb-true, eq-eqb, ne_eqb}
use Rattle.base.specs.Lists.{find, only}
use Rattle.base.proofs.Choices.{cases, and_left, and_both}
use Rattle.base.proofs.Lists.{only-append, mem-replicate}
use Rattle.cells.specs.Cell.{Slot, Key, held_as, ready_as, bears, at, sits, is_open, is_ready, empty_slot, empty_cell}
use Rattle.cells.specs.Datagram.{is_first}
use Rattle.cells.specs.Room.{is_held_first}
use Rattle.cells.specs.Sound.{key_of}
use Rattle.cells.proofs.Keys.{use_of, of-used, sits-is, ready_of}
use Rattle.cells.proofs.Moves.{of-held}
use Rattle.image.specs.Image.{PieceEntry, MessageEntry, Image}
use Rattle.base.specs.Sort.{sort_by}
use Rattle.image.specs.Entries.{piece_entry, bodies_of, message_entry, piece_rank, held_rank, turn_of, pieces_in, held_in, ready_in}
use Rattle.image.specs.Slots.{piece_slot, part_slot, parts, held_slots, ready_slots, used_slots, slots_from}
use Rattle.base.proofs.Sorts.{only-all, only_none, find-only, Rising, rising-same, sort_sorted}
use Rattle.image.proofs.Members.{no_entry, From, piece, held, ready, unused, slots-from, held-there, ready-there}
use Rattle.image.proofs.Members.{from-held, from-ready}

-- ---- what a cell is used for, by where it comes from
pub piece-used : (s : Slot) (e : PieceEntry) → s ≡ piece_slot e → s.cell.used ≡ 1
unfolding piece_slot
piece-used s e q = ap (λ (z : Slot). z.cell.used) q

pub part-used : (s : Slot) (u t : ℕ) (e : MessageEntry) (j : ℕ) → s ≡ part_slot u t e j → s.cell.used ≡ u
unfolding part_slot
part-used s u t e j q = ap (λ (z : Slot). z.cell.used) q

pub empty-used : (s : Slot) → s ≡ empty_slot → s.cell.used ≡ 0
unfolding empty_slot empty_cell
empty-used s q = ap (λ (z : Slot). z.cell.used) q

-- ---- lists' bodies
module _ (k : Key) (l : List Slot) (bs : List (List ℕ)) (there : (j : ℕ) → j < length bs → (s : Slot) × (find (sits k j) l ≡ some s)
    × (s.body ≡ get_or bs j [])) where
  bodies-take : (n : ℕ) → n ≤ length bs → bodies_of k l n ≡ take n bs
  unfolding bodies_of
  bodies-take zero le = refl
  bodies-take (suc n) le =
      let s = there n (omega arith) in
      rw (take-suc bs n [] (omega arith), bodies-take n (omega arith), s.1, s.2)

  bodies-are : bodies_of k l (length bs) ≡ bs
  bodies-are = bodies-take (length bs) (omega arith) ∙ take-length bs

-- An image as a save writes it, as far as order goes: entries rise, and messages have bodies.
pub record Rises (i : Image) : Type 0 where
  pub pieces : Rising piece_rank i.pieces
  pub held : Rising held_rank i.held
  pub some-held : (e : MessageEntry) → Memᴰ e i.held → 1 ≤ length e.bodies
  pub some-ready : (e : MessageEntry) → Memᴰ e i.ready → 1 ≤ length e.bodies

pub self : (x : ℕ) → eqb x x ≡ true
self x = eq-eqb x x refl

-- a use that a key's cells do not have
other-use : {X : Type 0} (k : Key) (j : ℕ) (s : Slot) (u : ℕ) → sits k j s ≡ true → s.cell.used ≡ u → (u ≡ use_of k → ⊥) → X
other-use k j s u p q ne = absurd (ne (sym q ∙ of-used k s (sits-is k j s p).0))

pub part-fields : (s : Slot) (u t : ℕ) (e : MessageEntry) (j : ℕ) → s ≡ part_slot u t e j → (s.cell.channel ≡ e.channel)
    × (s.cell.order ≡ e.order) × (s.cell.index ≡ j) × (s.cell.turn ≡ t)
unfolding part_slot
part-fields s u t e j q = (
  ap (λ (z : Slot). z.cell.channel) q,
  ap (λ (z : Slot). z.cell.order) q,
  ap (λ (z : Slot). z.cell.index) q,
  ap (λ (z : Slot). z.cell.turn) q,
)

pub piece-fields : (s : Slot) (e : PieceEntry) → s ≡ piece_slot e → (s.cell.id ≡ e.id) × (s.cell.index ≡ e.index)
unfolding piece_slot
piece-fields s e q = (ap (λ (z : Slot). z.cell.id) q, ap (λ (z : Slot). z.cell.index) q)

pub held-sits : (e : MessageEntry) (j : ℕ) → sits (held_as e.channel e.order) j (part_slot 2 0 e j) ≡ true
unfolding sits at bears part_slot
held-sits e j = and_both _ _ (and_both _ _ (self e.channel) (self e.order)) (self j)

pub ready-sits : (t : ℕ) (e : MessageEntry) (j : ℕ) → sits (ready_as t) j (part_slot 3 t e j) ≡ true
unfolding sits at bears part_slot
ready-sits t e j = and_both _ _ (self t) (self j)

module _ (n : ℕ) (i : Image) (r : Rises i) where
  -- ---- lookups
  held-is : (e : MessageEntry) → Memᴰ e i.held → (c o j : ℕ) → e.channel ≡ c → e.order ≡ o → (y : Slot) → Memᴰ y (slots_from n i)
      → sits (held_as c o) j y ≡ true → y ≡ part_slot 2 0 e j
  held-is e m c o j p p' y my py = go (slots-from i n y my)
    where
      go : From i y → y ≡ part_slot 2 0 e j
      go (piece f mf q) = other-use (held_as c o) j y 1 py (piece-used y f q) (λ u. omega arith)
      go (held f mf j' lt q) =
          let a = sits-is (held_as c o) j y py in
          let b = of-held c o y a.0 in
          let x = part-fields y 2 0 f j' q in
          let ec : f.channel ≡ e.channel = cc in
          let eo : f.order ≡ e.order = cc in
          let ej : j' ≡ j = cc in
          let ef = rising-same held_rank i.held r.held f e mf m (rw (ec, eo)) in
          q ∙ cc
      go (ready k kt j' lt q) = other-use (held_as c o) j y 3 py (part-used y 3 k _ j' q) (λ u. omega arith)
      go (unused q) = other-use (held_as c o) j y 0 py (empty-used y q) (λ u. omega arith)

  find-held : (e : MessageEntry) → Memᴰ e i.held → (j : ℕ) → j < length e.bodies
      → find (sits (held_as e.channel e.order) j) (slots_from n i) ≡ some (part_slot 2 0 e j)
  find-held e m j lt = find-only _ (slots_from n i) (part_slot 2 0 e j) (held-there i n e m j lt) (held-sits e j)
      (held-is e m e.channel e.order j refl refl)

  ready-is : (k j : ℕ) (y : Slot) → Memᴰ y (slots_from n i) → sits (ready_as k) j y ≡ true
      → y ≡ part_slot 3 k (get_or i.ready k no_entry) j
  ready-is k j y my py = go (slots-from i n y my)
    where
      go : From i y → y ≡ part_slot 3 k (get_or i.ready k no_entry) j
      go (piece f mf q) = other-use (ready_as k) j y 1 py (piece-used y f q) (λ u. omega arith)
      go (held f mf j' lt q) = other-use (ready_as k) j y 2 py (part-used y 2 0 f j' q) (λ u. omega arith)
      go (ready k' kt j' lt q) =
          let a = sits-is (ready_as k) j y py in
          let b = ready_of k y a.0 in
          let x = part-fields y 3 k' (get_or i.ready k' no_entry) j' q in
          let ek : k' ≡ k = cc in
          let ej : j' ≡ j = cc in
          q ∙ cc
      go (unused q) = other-use (ready_as k) j y 0 py (empty-used y q) (λ u. omega arith)

  pub find-ready : (k : ℕ) → k < length i.ready → (j : ℕ) → j < length (get_or i.ready k no_entry).bodies
      → find (sits (ready_as k) j) (slots_from n i) ≡ some (part_slot 3 k (get_or i.ready k no_entry) j)
  find-ready k kt j lt = find-only _ (slots_from n i) _ (ready-there i n k kt j lt) (ready-sits k (get_or i.ready k no_entry) j)
      (ready-is k j)

-- ---- the three sections
-- a message's first cell, and the others
firsts : (p : Slot → Bool) (u t : ℕ) (e : MessageEntry) → p (part_slot u t e 0) ≡ true → ((j : ℕ) → p (part_slot u t e (suc j)) ≡ false)
    → (n : ℕ) → only p (parts u t e (suc n)) ≡ part_slot u t e 0 ∷ []
unfolding parts only
firsts p u t e y z zero = rw y
firsts p u t e y z (suc n) = only-append p (parts u t e (suc n)) (part_slot u t e (suc n) ∷ []) ∙ rw (firsts p u t e y z n, z n)

firsts-of : (p : Slot → Bool) (u t : ℕ) (e : MessageEntry) → p (part_slot u t e 0) ≡ true → ((j : ℕ) → p (part_slot u t e (suc j)) ≡ false)
    → (n : ℕ) → 1 ≤ n → only p (parts u t e n) ≡ part_slot u t e 0 ∷ []
firsts-of p u t e y z zero le = absurd (omega arith)
firsts-of p u t e y z (suc n) le = firsts p u t e y z n

held-firsts : (es : List MessageEntry) → ((e : MessageEntry) → Memᴰ e es → 1 ≤ length e.bodies) → only is_held_first (held_slots es)
    ≡ map (λ (e : MessageEntry). part_slot 2 0 e 0) es
unfolding held_slots only is_held_first part_slot
held-firsts [] h = refl
held-firsts (e ∷ es) h =
    only-append is_held_first (parts 2 0 e (length e.bodies)) (held_slots es)
    ∙ rw (
      firsts-of is_held_first 2 0 e refl (λ j. ne_eqb (suc j) 0 (λ q. omega arith)) (length e.bodies) (h e (Memᴰ.head refl)),
      held-firsts es (λ f m. h f (Memᴰ.tail m)),
    )

-- the ready messages' first cells, with their turns from t on
unfoldable ready_firsts : ℕ → List MessageEntry → List Slot
ready_firsts t [] = []
ready_firsts t (e ∷ es) = part_slot 3 t e 0 ∷ ready_firsts (suc t) es

ready-firsts : (t : ℕ) (es : List MessageEntry) → ((e : MessageEntry) → Memᴰ e es → 1 ≤ length e.bodies) → only is_first (ready_slots t es)
    ≡ ready_firsts t es
unfolding ready_slots only is_first is_ready part_slot ready_firsts
ready-firsts t [] h = refl
ready-firsts t (e ∷ es) h =
    only-append is_first (parts 3 t e (length e.bodies)) (ready_slots (suc t) es)
    ∙ rw (
      firsts-of is_first 3 t e refl (λ j. ne_eqb (suc j) 0 (λ q. omega arith)) (length e.bodies) (h e (Memᴰ.head refl)),
      ready-firsts (suc t) es (λ f m. h f (Memᴰ.tail m)),
    )

only-split : (p : Slot → Bool) (n : ℕ) (i : Image) → p empty_slot ≡ false → only p (slots_from n i) ≡ only p (map piece_slot i.pieces)
    ++ (only p (held_slots i.held) ++ only p (ready_slots 0 i.ready))
unfolding slots_from used_slots
only-split p n i e = only-append p (used_slots i) (replicate (n - length (used_slots i)) empty_slot)
    ∙ (rw (only_none p (replicate (n - length (used_slots i)) empty_slot) none-empty) (append-nil (only p (used_slots i))
    ∙ (only-append p (map piece_slot i.pieces) _ ∙ rw (only-append p (held_slots i.held) (ready_slots 0 i.ready)))))
  where
    none-empty : (s : Slot) → Memᴰ s (replicate (n - length (used_slots i)) empty_slot) → p s ≡ false
    none-empty s m = ap p (mem-replicate empty_slot s (n - length (used_slots i)) m) ∙ e

-- a test of use u fails on cells of another
module _ (p : Slot → Bool) (u : ℕ) (uses : (s : Slot) → p s ≡ true → s.cell.used ≡ u) where
  fails : (s : Slot) (v : ℕ) → s.cell.used ≡ v → (v ≡ u → ⊥) → p s ≡ false
  fails s v e ne = cases (p s) (λ y. absurd (ne (sym e ∙ uses s y))) (λ y. y)

  no_pieces : (es : List PieceEntry) → (1 ≡ u → ⊥) → only p (map piece_slot es) ≡ []
  no_pieces es ne = only_none p (map piece_slot es) (λ s m. let a = Memᴰ.of_map piece_slot es m in
      fails s 1 (piece-used s a.0 (sym a.2)) ne)

  no-held : (es : List MessageEntry) → (2 ≡ u → ⊥) → only p (held_slots es) ≡ []
  no-held es ne = only_none p (held_slots es) (λ s m. let a = from-held es s m in fails s 2 (part-used s 2 0 a.0 a.2 a.4) ne)

  no-ready : (t : ℕ) (es : List MessageEntry) → (3 ≡ u → ⊥) → only p (ready_slots t es) ≡ []
  no-ready t es ne = only_none p (ready_slots t es) (λ s m. let a = from-ready t es s m in
      fails s 3 (part-used s 3 (t + a.0) (get_or es a.0 no_entry) a.2 a.4) ne)

pub open-use : (s : Slot) → is_open s ≡ true → s.cell.used ≡ 1
unfolding is_open
open-use s e = eqb-true _ _ e

use-open : (s : Slot) → s.cell.used ≡ 1 → is_open s ≡ true
unfolding is_open
use-open s e = eq-eqb _ _ e

held-use : (s : Slot) → is_held_first s ≡ true → s.cell.used ≡ 2
unfolding is_held_first
held-use s e = eqb-true _ _ (and_left (eqb s.cell.used 2) _ e)

first-use : (s : Slot) → is_first s ≡ true → s.cell.used ≡ 3
unfolding is_first is_ready
first-use s e = eqb-true _ _ (and_left (eqb s.cell.used 3) _ e)

map_same : {A : Type 0} (f : A → A) (l : List A) → ((x : A) → Memᴰ x l → f x ≡ x) → map f l ≡ l
map_same f [] h = refl
map_same f (x ∷ l) h = let a = h x (Memᴰ.head refl) in let b = map_same f l (λ y m. h y (Memᴰ.tail m)) in cc

pub map_of : {A B C : Type 0} (f : B → C) (g : A → B) (l : List A) → map f (map g l) ≡ map (λ x. f (g x)) l
map_of f g [] = refl
map_of {A} {B} {C} f g (x ∷ l) = ap {B = List C} (λ r. f (g x) ∷ r) (map_of f g l)

module _ (n : ℕ) (i : Image) (r : Rises i) where
  only-open : only is_open (slots_from n i) ≡ map piece_slot i.pieces
  only-open =
      only-split is_open n i (unfold is_open empty_slot empty_cell in refl)
      ∙ (rw (no-held is_open 1 open-use i.held (λ q. omega arith), no-ready is_open 1 open-use 0 i.ready (λ q. omega arith))
      (append-nil (only is_open (map piece_slot i.pieces)) ∙ only-all is_open (map piece_slot i.pieces) all-open))
    where
      all-open : (s : Slot) → Memᴰ s (map piece_slot i.pieces) → is_open s ≡ true
      all-open s m = let a = Memᴰ.of_map piece_slot i.pieces m in use-open s (piece-used s a.0 (sym a.2))

  only-held : only is_held_first (slots_from n i) ≡ map (λ (e : MessageEntry). part_slot 2 0 e 0) i.held
  only-held =
      only-split is_held_first n i (unfold is_held_first empty_slot empty_cell in refl)
      ∙ (rw (no_pieces is_held_first 2 held-use i.pieces (λ q. omega arith), no-ready is_held_first 2 held-use 0 i.ready (λ q. omega arith))
      (append-nil (only is_held_first (held_slots i.held)) ∙ held-firsts i.held r.some-held))

  only-ready : only is_first (slots_from n i) ≡ ready_firsts 0 i.ready
  only-ready =
      only-split is_first n i (unfold is_first is_ready empty_slot empty_cell in refl)
      ∙ (rw (no_pieces is_first 3 first-use i.pieces (λ q. omega arith), no-held is_first 3 first-use i.held (λ q. omega arith))
      (ready-firsts 0 i.ready r.some-ready))

  pub pieces-again : pieces_in (slots_from n i) ≡ i.pieces
  unfolding pieces_in
  pieces-again =
      ap (λ (l : List Slot). sort_by piece_rank (map piece_entry l)) only-open
      ∙ (ap (sort_by piece_rank) (map_of piece_entry piece_slot i.pieces ∙ map_same (λ e. piece_entry (piece_slot e)) i.pieces one)
      ∙ sort_sorted piece_rank i.pieces r.pieces)
    where
      one : (e : PieceEntry) → Memᴰ e i.pieces → piece_entry (piece_slot e) ≡ e
      one e m = unfold piece_entry piece_slot in refl

  pub held-again : held_in (slots_from n i) ≡ i.held
  unfolding held_in
  held-again =
      ap (λ (l : List Slot). sort_by held_rank (map (message_entry (slots_from n i)) l)) only-held
      ∙ (ap (sort_by held_rank) (map_of (message_entry (slots_from n i)) (λ (e : MessageEntry). part_slot 2 0 e 0) i.held
      ∙ map_same (λ e. message_entry (slots_from n i) (part_slot 2 0 e 0)) i.held (λ e m. one e m))
      ∙ sort_sorted held_rank i.held r.held)
    where
      one : (e : MessageEntry) → Memᴰ e i.held → message_entry (slots_from n i) (part_slot 2 0 e 0) ≡ e
      one e m = unfold message_entry part_slot key_of in
          (let b : bodies_of (held_as e.channel e.order) (slots_from n i) (length e.bodies) ≡ e.bodies
          = bodies-are (held_as e.channel e.order) (slots_from n i) e.bodies
          (λ j lt. (part_slot 2 0 e j, find-held n i r e m j lt, refl)) in
          λ k. record { channel = e.channel; order = e.order; kind = e.kind; bodies = b k })

  -- the first cells' turns rise
  turns-from : (t : ℕ) (es : List MessageEntry) (s : Slot) → Memᴰ s (ready_firsts t es) → t ≤ turn_of s
  unfolding ready_firsts part_slot
  turns-from t [] s m = absurd (Memᴰ.not-nil m)
  turns-from t (e ∷ es) s m = go (Memᴰ.cases_cons m) (λ m'. turns-from (suc t) es s m')
    where
      go : (s ≡ part_slot 3 t e 0) ⊎ Memᴰ s (ready_firsts (suc t) es) → (Memᴰ s (ready_firsts (suc t) es) → suc t ≤ turn_of s)
          → t ≤ turn_of s
      go (inl q) rest = let u : turn_of s ≡ t = ap (λ (z : Slot). z.cell.turn) q in omega arith
      go (inr m) rest = let u = rest m in omega arith

  turns-rise : (t : ℕ) (es : List MessageEntry) → Rising turn_of (ready_firsts t es)
  unfolding ready_firsts part_slot
  turns-rise t [] = tt
  turns-rise t (e ∷ es) = (λ s m. let u = turns-from (suc t) es s m in omega arith, turns-rise (suc t) es)

  entries-of : (t : ℕ) (es : List MessageEntry)
      → ((k : ℕ) → k < length es → message_entry (slots_from n i) (part_slot 3 (t + k) (get_or es k no_entry) 0) ≡ get_or es k no_entry)
      → map (message_entry (slots_from n i)) (ready_firsts t es) ≡ es
  unfolding ready_firsts
  entries-of t [] h = refl
  entries-of t (e ∷ es) h =
      let a : message_entry (slots_from n i) (part_slot 3 t e 0) ≡ e = ap (λ (u : ℕ). message_entry (slots_from n i) (part_slot 3 u e 0))
      (omega arith) ∙ h 0 (omega arith) in
      let b = entries-of (suc t) es (λ k lt. ap (λ (u : ℕ). message_entry (slots_from n i) (part_slot 3 u (get_or es k no_entry) 0))
      (omega arith) ∙ h (suc k) (omega arith)) in
      cc

  pub ready-again : ready_in (slots_from n i) ≡ i.ready
  unfolding ready_in
  ready-again =
      ap (λ (l : List Slot). map (message_entry (slots_from n i)) (sort_by turn_of l)) only-ready
      ∙ (ap (map (message_entry (slots_from n i))) (sort_sorted turn_of (ready_firsts 0 i.ready) (turns-rise 0 i.ready))
      ∙ entries-of 0 i.ready (λ k lt. ap (λ (u : ℕ). message_entry (slots_from n i) (part_slot 3 u (get_or i.ready k no_entry) 0))
      (omega arith) ∙ one k lt (get_or i.ready k no_entry) refl))
    where
      one : (k : ℕ) → k < length i.ready → (e : MessageEntry) → e ≡ get_or i.ready k no_entry
          → message_entry (slots_from n i) (part_slot 3 k e 0) ≡ e
      one k lt e q = unfold message_entry part_slot key_of in
          (let b : bodies_of (ready_as k) (slots_from n i) (length e.bodies) ≡ e.bodies
          = bodies-are (ready_as k) (slots_from n i) e.bodies
          (λ j jt. (part_slot 3 k e j, rw q (find-ready n i r k lt j (rw q at jt)), refl)) in
          λ z. record { channel = e.channel; order = e.order; kind = e.kind; bodies = b z })
