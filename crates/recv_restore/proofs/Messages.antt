-- Held and ready messages: their bodies' rows, and all of one.
-- Assumes nothing.
use Prim.Native.Nat.{ℕ, zero, suc, ◌+◌, ◌*◌, ◌≤◌, ◌<◌}
use mathlib.Core.Path.{◌≡◌, refl, sym, ◌∙◌, ap, subst}
use mathlib.Core.Bool.{Bool, true, false, ◌&&◌, false≢true}
use mathlib.Core.List.{List, [], ◌∷◌, ◌++◌, append_assoc, append-nil}
use native.Mathlib.Omega.{arith}
use lib.Dec.{ltb, leb}
use lib.ListN.{length, drop, get_or, length-append}
use lib.Seq.{drop-cons}
use Rattle.std.proofs.lemmas.List.{drop_all}
use borrow.Author.Tests.{leb-true, lt-ltb, le-leb}
use Rattle.std.specs.Prelude.{Option, Some, None}
use Rattle.base.specs.Bytes.{be64}
use Rattle.base.specs.Lists.{below}
use Rattle.base.proofs.Choices.{and_left, and_right, and_both}
use Rattle.base.proofs.Lists.{below_all}
use Rattle.cells.specs.Cell.{Cell, Slot}
use Rattle.cells.specs.Store.{cell_size}
use Rattle.image.specs.Image.{MessageEntry}
use Rattle.image.specs.Entries.{held_rank}
use Rattle.image.specs.Slots.{part_slot, parts, message_slots}
use Rattle.rows.specs.declared.Row.{Row}
use Rattle.image_read.specs.At.{place_after, values_at, body_at, body_end, message_at, message_end}
use Rattle.recv_restore.specs.Fits.{Each, cells_of_each, PartCan, part_next, part_with, part_cells, HeadFits, MessageFits, HeldCan}
use Rattle.recv_restore.specs.Filling.{TestOf, RowOf, PutRow, Fills}
use Rattle.recv_restore.specs.declared.filling.Filled.{Filled}
use Rattle.recv_restore.proofs.Rows.{put-fills}
use Rattle.recv_restore.proofs.Pieces.{narrow-at, body-length, body-again}

-- ---- the head
pub values-length : {A : Type 0} (at : ℕ → A) (end : ℕ → ℕ) (n p : ℕ) → length (values_at at end n p) ≡ n
unfolding values_at
values-length at end zero p = refl
values-length at end (suc n) p = ap suc (values-length at end n (end p))

pub bodies-many : (s : List ℕ) (p : ℕ) → length (message_at s p).bodies ≡ be64 s (p + 24)
unfolding message_at
bodies-many s p = values-length (body_at s) (body_end s) (be64 s (p + 24)) (p + 32)

module _ (s : List ℕ) (p : ℕ) where
  test : ℕ → Bool
  test j = ltb (be64 s (p + 8 * j)) 4294967296

  number : (q i : ℕ) → p + 8 * i ≡ q → be64 s q < 4294967296 → test i ≡ true
  unfolding test
  number q i e lt = lt-ltb _ _ (rw e lt)

  three : HeadFits (message_at s p) → (i : ℕ) → i < 3 → test i ≡ true
  unfolding message_at
  three f zero lt = number p 0 (omega arith) f.channel
  three f (suc zero) lt = number (p + 8) 1 (omega arith) f.order
  three f (suc (suc zero)) lt = number (p + 16) 2 (omega arith) f.kind
  three f (suc (suc (suc i))) lt = absurd (omega arith)

  head-made : be64 s p < 4294967296 → be64 s (p + 8) < 4294967296 → be64 s (p + 16) < 4294967296 → 1 ≤ length (message_at s p).bodies
      → length (message_at s p).bodies ≤ 1024 → HeadFits (message_at s p)
  unfolding message_at
  head-made a b c lo hi = record { channel = a; order = b; kind = c; some = lo; few = hi }

  pub head-tested : (n : ℕ) → n ≡ be64 s (p + 24) → (b : Bool) → b ≡ below 3 (λ j. ltb (be64 s (p + 8 * j)) 4294967296) → (most : ℕ)
      → most ≡ 1024 → TestOf ((b && leb 1 n) && leb n most) (HeadFits (message_at s p))
  unfolding TestOf test
  head-tested n e b is most m = (there, back)
    where
      many : length (message_at s p).bodies ≡ n
      many = bodies-many s p ∙ sym e

      there : ((b && leb 1 n) && leb n most) ≡ true → HeadFits (message_at s p)
      there t =
          let both = and_left (b && leb 1 n) (leb n most) t in
          let all = sym is ∙ and_left b (leb 1 n) both in
          let lo = leb-true 1 n (and_right b (leb 1 n) both) in
          let hi = leb-true n most (and_right (b && leb 1 n) (leb n most) t) in
          head-made (narrow-at s p 3 0 p all (omega arith) (omega arith)) (narrow-at s p 3 1 (p + 8) all (omega arith) (omega arith))
          (narrow-at s p 3 2 (p + 16) all (omega arith) (omega arith)) (omega (arith, many)) (omega (arith, many))

      back : ((b && leb 1 n) && leb n most) ≡ false → HeadFits (message_at s p) → ⊥
      back t f =
          let lo = f.some in
          let hi = f.few in
          let all : b ≡ true = is ∙ below_all 3 test (three f) in
          false≢true (sym t ∙ and_both (b && leb 1 n) (leb n most) (and_both b (leb 1 n) all (le-leb 1 n (omega (arith, many))))
          (le-leb n most (omega (arith, many))))

-- ---- a body's row
module _ (s : List ℕ) (m p index u t : ℕ) (f : HeadFits (message_at s m)) (within : body_end s p ≤ length s) where
  body-is : length (body_at s p) ≡ be64 s p
  body-is = body-length s p within

  pub part-row-is : PartCan index (body_at s p) → (kind channel count len order place : ℕ)
      → (be64 s (m + 16) < 4294967296 → kind ≡ be64 s (m + 16)) → (be64 s m < 4294967296 → channel ≡ be64 s m)
      → (be64 s (m + 24) < 4294967296 → count ≡ be64 s (m + 24)) → (be64 s p < 4294967296 → len ≡ be64 s p)
      → (be64 s (m + 8) < 4294967296 → order ≡ be64 s (m + 8)) → place ≡ p + 9
      → RowOf s (p + 8) (part_with u t (message_at s m) index (body_at s p)) (record {
        cell = record {
          used = u;
          kind = kind;
          channel = channel;
          id = 0;
          index = index;
          count = count;
          length = len;
          sequence = 0;
          order = order;
          turn = t;
          age = 0;
        };
        place = place;
      })
  unfolding part_with
  part-row-is can kind channel count len order place e1 e2 e3 e4 e5 e6 =
      let many = bodies-many s m in
      let few = f.few in
      let a1 : kind ≡ (message_at s m).kind = unfold message_at in e1 f.kind in
      let a2 : channel ≡ (message_at s m).channel = unfold message_at in e2 f.channel in
      let a3 : count ≡ length (message_at s m).bodies = e3 (omega arith) ∙ sym many in
      let a4 : len ≡ length (body_at s p) = e4 (omega (arith, body-is)) ∙ sym body-is in
      let a5 : order ≡ (message_at s m).order = unfold message_at in e5 f.order in
      record {
        cell = λ k. record {
          used = u;
          kind = a1 k;
          channel = a2 k;
          id = 0;
          index = index;
          count = a3 k;
          length = a4 k;
          sequence = 0;
          order = a5 k;
          turn = t;
          age = 0;
        };
        place = omega arith;
        body = body-again s p (p + 8) refl within;
      }

  -- put
  module _ (rows : List Row) (at : Filled) where
    pub part-put : (used : 0 < u) → at.place ≡ p → PartCan index (body_at s p) → (row : Row)
        → RowOf s (p + 8) (part_with u t (message_at s m) index (body_at s p)) row → (rows' : List Row) (g : Option Filled)
        → PutRow rows at row (p + 8 + row.cell.length) rows' g
        → Fills 1508 (PartCan index (body_at s p)) (part_cells u t (message_at s m) index (body_at s p)) (body_end s p) s rows at rows' g
    unfolding part_with cell_size
    part-put used same can row w rows' g h =
        let n : row.cell.length ≡ length (body_at s p) = ap (λ (z : Cell). z.length) w.cell in
        let len = body-is in
        let end : body_end s p ≡ p + 8 + be64 s p = unfold body_end in refl in
        put-fills 1508 (PartCan index (body_at s p)) (part_with u t (message_at s m) index (body_at s p)) (p + 8)
        (body_end s p) s rows at row rows' g
        can w (λ z. omega arith) can (omega arith) (p + 8 + row.cell.length) (omega arith) (omega arith) h

-- ---- a message
-- its bodies' slots, one by one
module _ (u t : ℕ) (e : MessageEntry) where
  slots-from : (n k : ℕ) → n + k ≡ length e.bodies → parts u t e k ++ cells_of_each (part_cells u t e) part_next k (drop k e.bodies)
      ≡ message_slots u t e
  unfolding parts cells_of_each
  slots-from zero k q = ap (λ (l : List (List ℕ)). parts u t e k ++ cells_of_each (part_cells u t e) part_next k l)
      (drop_all k e.bodies (omega arith))
      ∙ (append-nil (parts u t e k) ∙ (let q' : k ≡ length e.bodies = omega arith in ap (parts u t e) q'))
  slots-from (suc n) k q =
      let lt : k < length e.bodies = omega arith in
      ap (λ (l : List (List ℕ)). parts u t e k ++ cells_of_each (part_cells u t e) part_next k l) (drop-cons e.bodies k [] lt)
      ∙ (sym (append_assoc (parts u t e k) (part_with u t e k (get_or e.bodies k []) ∷ [])
      (cells_of_each (part_cells u t e) part_next (suc k) (drop (suc k) e.bodies)))
      ∙ (ap (λ (x : Slot). (parts u t e k ++ (x ∷ [])) ++ cells_of_each (part_cells u t e) part_next (suc k) (drop (suc k) e.bodies))
      (one k)
      ∙ slots-from n (suc k) (omega arith)))
    where
      one : (k : ℕ) → part_with u t e k (get_or e.bodies k []) ≡ part_slot u t e k
      one k = unfold part_with part_slot in refl

  pub parts-length : (n : ℕ) → length (parts u t e n) ≡ n
  unfolding parts
  parts-length zero = refl
  parts-length (suc n) = length-append (parts u t e n) (part_slot u t e n ∷ []) ∙ (let a = parts-length n in omega arith)

  pub slots-same : cells_of_each (part_cells u t e) part_next 0 e.bodies ≡ message_slots u t e
  unfolding parts
  slots-same = slots-from (length e.bodies) 0 (omega arith)

module _ (u t : ℕ) (s : List ℕ) (rows : List Row) (at from : Filled) (rows' : List Row) (n : ℕ) where
  pub message-put : (g : Option Filled) → HeadFits (message_at s at.place) → from ≡ record { place = at.place + 32; used = at.used }
      → (be64 s (at.place + 24) < 4294967296 → n ≡ be64 s (at.place + 24))
      → Fills 1508 (Each PartCan part_next 0 (values_at (body_at s) (body_end s) n from.place))
      (cells_of_each (part_cells u t (message_at s at.place)) part_next 0 (values_at (body_at s) (body_end s) n from.place))
      (place_after (body_end s) n from.place) s rows from rows' g
      → Fills 1600 (MessageFits (message_at s at.place)) (message_slots u t (message_at s at.place))
      (message_end s at.place) s rows at rows' g
  unfolding Fills
  message-put g f e k h = go g (subst (λ (b : List (List ℕ)). Fills 1508 (Each PartCan part_next 0 b)
      (cells_of_each (part_cells u t (message_at s at.place)) part_next 0 b)
      (place_after (body_end s) n from.place) s rows from rows' g) bodies h)
    where
      many : n ≡ be64 s (at.place + 24)
      many = k (let a = bodies-many s at.place in let b = f.few in omega arith)

      used : from.used ≡ at.used
      used = ap (λ (z : Filled). z.used) e

      place : from.place ≡ at.place + 32
      place = ap (λ (z : Filled). z.place) e

      bodies : values_at (body_at s) (body_end s) n from.place ≡ (message_at s at.place).bodies
      bodies = unfold message_at in λ j. values_at (body_at s) (body_end s) (many j) (place j)

      ends : place_after (body_end s) n from.place ≡ message_end s at.place
      ends = unfold message_end in λ j. place_after (body_end s) (many j) (place j)

      go : (g : Option Filled) → Fills 1508 (Each PartCan part_next 0 (message_at s at.place).bodies)
          (cells_of_each (part_cells u t (message_at s at.place)) part_next 0 (message_at s at.place).bodies)
          (place_after (body_end s) n from.place) s rows from rows' g
          → Fills 1600 (MessageFits (message_at s at.place)) (message_slots u t (message_at s at.place))
          (message_end s at.place) s rows at rows' g
      go g h = fill g (rw (slots-same u t (message_at s at.place)) at h)
        where
          fill : (g : Option Filled) → Fills 1508 (Each PartCan part_next 0 (message_at s at.place).bodies)
              (message_slots u t (message_at s at.place))
              (place_after (body_end s) n from.place) s rows from rows' g
              → Fills 1600 (MessageFits (message_at s at.place)) (message_slots u t (message_at s at.place))
              (message_end s at.place) s rows at rows' g
          fill None h = λ mf room. h mf.bodies (omega (arith, used))
          fill (Some x) h =
              let b = f.some in
              let q = h.used in
              let near = h.near in
              record {
                may = record { head = f; bodies = h.may };
                used = omega (arith, used);
                room = h.room;
                many = h.many;
                place = h.place ∙ ends;
                near = omega (arith, place, parts-length u t (message_at s at.place) (length (message_at s at.place).bodies));
                rowed = λ l le v. h.rowed l (omega (arith, used)) v;
              }

-- ---- the rank of a held message
module _ (s : List ℕ) (p : ℕ) where
  pub held-ranked : (r : ℕ) → (be64 s p < 4294967296 → be64 s (p + 8) < 4294967296 → r ≡ be64 s p * 16777216 + be64 s (p + 8))
      → HeadFits (message_at s p)
      → r ≡ held_rank (message_at s p)
  unfolding message_at
  held-ranked r h f = h f.channel f.order

  pub low-held : (r least : ℕ) → (be64 s p < 4294967296 → be64 s (p + 8) < 4294967296 → r ≡ be64 s p * 16777216 + be64 s (p + 8))
      → r < least
      → HeldCan least (message_at s p) → ⊥
  low-held r least h lt c = let e = held-ranked r h c.0.head in let le = c.1 in omega arith

module _ (s : List ℕ) (rows rows' : List Row) (at : Filled) (cells : List Slot) (end least : ℕ) where
  pub held-put : (r : ℕ) → (be64 s at.place < 4294967296 → be64 s (at.place + 8) < 4294967296 → r
      ≡ be64 s at.place * 16777216 + be64 s (at.place + 8)) → least ≤ r
      → (g : Option Filled) → Fills 1600 (MessageFits (message_at s at.place)) cells end s rows at rows' g
      → Fills 1600 (HeldCan least (message_at s at.place)) cells end s rows at rows' g
  unfolding Fills
  held-put r e le None h = λ c room. h c.0 room
  held-put r e le (Some x) h = record {
    may = (h.may, subst (λ (y : ℕ). least ≤ y) (held-ranked s at.place r e h.may.head) le);
    used = h.used;
    room = h.room;
    many = h.many;
    place = h.place;
    near = h.near;
    rowed = h.rowed;
  }

-- what the bodies' loop asks
pub message-within : (s : List ℕ) (p n : ℕ) → HeadFits (message_at s p) → (be64 s (p + 24) < 4294967296 → n ≡ be64 s (p + 24))
    → message_end s p ≤ length s → place_after (body_end s) n (p + 32) ≤ length s
unfolding message_end
message-within s p n f e le =
    let a = bodies-many s p in
    let b = f.few in
    let many = e (omega arith) in
    rw many le
