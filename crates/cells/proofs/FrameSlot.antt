-- The slot of a frame: the keys that it bears, and what it agrees with.
-- Assumes nothing.
use Prim.Native.Nat.{ℕ}
use mathlib.Core.Path.{◌≡◌, refl, sym, ◌∙◌, subst}
use mathlib.Core.Logic.{◌⊎◌, inl, inr}
use mathlib.Core.Bool.{Bool, true, false, not, ◌&&◌, ◌||◌}
use mathlib.Core.List.{List, Memᴰ}
use native.Mathlib.Omega.{arith}
use lib.Dec.{eqb}
use borrow.Author.Tests.{eqb-true, eq-eqb, ne_eqb, not-false}
use Rattle.base.specs.Lists.{any}
use Rattle.base.proofs.Choices.{and_left, and_right, or_left, neither}
use Rattle.bare.specs.Frame.{Frame, piece_of, message}
use Rattle.bare.specs.Bare.{is_at, conflict}
use Rattle.bare.proofs.Tests.{is_at-true}
use Rattle.cells.specs.Cell.{Slot, Key, open_as, held_as, ready_as, bears, of, sits, is_free, is_open, message_of, piece_in, clash}
use Rattle.cells.specs.Cell.{put_slot}
use Rattle.cells.specs.Cell.{slot_of}
use Rattle.cells.proofs.PutSlot.{mem-put}
use Rattle.cells.proofs.Keys.{use_of, of_other, sits-not, sits-is, none-sits}
use Rattle.cells.proofs.Pieces.{open_of, no-clash, fresh-open}
use Rattle.cells.proofs.Ready.{Unique}
use Rattle.cells.proofs.Moves.{put-unique}
use Rattle.cells.proofs.Cascade.{is_open-used}

pub of-slot-held : (f : Frame) (t c k : ℕ) (body : List ℕ) → of (held_as c k) (slot_of f 2 t) ≡ is_at c k (message f body)
unfolding of bears slot_of is_at message
of-slot-held f t c k body = refl

pub of-slot-ready : (f : Frame) (T t : ℕ) → of (ready_as t) (slot_of f 3 T) ≡ eqb T t
unfolding of bears slot_of
of-slot-ready f T t = refl

pub of-slot-other : (f : Frame) (u t : ℕ) (k : Key) → (u ≡ use_of k → ⊥) → of k (slot_of f u t) ≡ false
unfolding slot_of
of-slot-other f u t k ne = of_other k (slot_of f u t) ne

pub slot-index : (f : Frame) (u t : ℕ) → f.piece ≡ false → (slot_of f u t).cell.index ≡ 0
unfolding slot_of
slot-index f u t e = rw e

pub slot-count : (f : Frame) (u t : ℕ) → f.piece ≡ false → (slot_of f u t).cell.count ≡ 1
unfolding slot_of
slot-count f u t e = rw e

pub slot-message : (f : Frame) (u t : ℕ) → message_of (slot_of f u t) (slot_of f u t).body ≡ message f f.body
unfolding slot_of message_of message
slot-message f u t = refl

pub slot-open : (f : Frame) (u t : ℕ) → (u ≡ 1 → ⊥) → is_open (slot_of f u t) ≡ false
unfolding slot_of
slot-open f u t ne = is_open-used (slot_of f u t) u refl ne

pub slot-free : (f : Frame) (u t : ℕ) → (u ≡ 0 → ⊥) → is_free (slot_of f u t) ≡ false
unfolding is_free slot_of
slot-free f u t ne = ne_eqb u 0 ne

pub put-fresh : (x : Slot) (l : List Slot) → any is_free l ≡ true → ((k : Key) → of k x ≡ true → any (of k) l ≡ false) → Unique l
    → Unique (put_slot x l)
put-fresh x l room h u = put-unique x l room (λ k i y. none-sits k i l (h k (sits-is k i x y).0)) u

pub fresh-held : (f : Frame) (l : List Slot) → any (of (held_as f.channel f.order)) l ≡ false → (k : Key) → of k (slot_of f 2 0) ≡ true
    → any (of k) l ≡ false
unfolding message
fresh-held f l away (open_as id) y = neither (of (open_as id) (slot_of f 2 0)) y (of-slot-other f 2 0 (open_as id) (λ q. omega arith))
fresh-held f l away (held_as c k) y = let r = is_at-true c k (message f f.body) (sym (of-slot-held f 0 c k f.body) ∙ y) in
    rw (← r.0, ← r.1) away
fresh-held f l away (ready_as t) y = neither (of (ready_as t) (slot_of f 2 0)) y (of-slot-other f 2 0 (ready_as t) (λ q. omega arith))

pub fresh-ready : (f : Frame) (T : ℕ) (l : List Slot) → any (of (ready_as T)) l ≡ false → (k : Key) → of k (slot_of f 3 T) ≡ true
    → any (of k) l ≡ false
fresh-ready f T l away (open_as id) y = neither (of (open_as id) (slot_of f 3 T)) y (of-slot-other f 3 T (open_as id) (λ q. omega arith))
fresh-ready f T l away (held_as c k) y = neither (of (held_as c k) (slot_of f 3 T)) y (of-slot-other f 3 T (held_as c k) (λ q. omega arith))
fresh-ready f T l away (ready_as t) y = rw (← eqb-true T t (sym (of-slot-ready f T t) ∙ y)) away

-- A piece put.
pub fresh-piece : (f : Frame) (l : List Slot) → f.piece ≡ true → any (clash f) l ≡ false → (k : Key) (i : ℕ) → sits k i (slot_of f 1 0)
    ≡ true → any (sits k i) l ≡ false
fresh-piece f l e c (open_as id) i y = fresh-open f l e c id i y
fresh-piece f l e c (held_as d k) i y = neither (sits (held_as d k) i (slot_of f 1 0)) y
    (sits-not (held_as d k) i (slot_of f 1 0) (of-slot-other f 1 0 (held_as d k) (λ q. omega arith)))
fresh-piece f l e c (ready_as t) i y = neither (sits (ready_as t) i (slot_of f 1 0)) y
    (sits-not (ready_as t) i (slot_of f 1 0) (of-slot-other f 1 0 (ready_as t) (λ q. omega arith)))

-- The slots of a piece's id agree with it.
pub record Agrees (f : Frame) (s : Slot) : Type 0 where
  pub count : s.cell.count ≡ f.count
  pub kind : s.cell.kind ≡ f.kind
  pub sequence : s.cell.sequence ≡ f.sequence
  pub order : s.cell.order ≡ f.order
  pub channel : s.cell.channel ≡ f.channel

all-five : (a b c d e x : Bool) → (not (a && b && c && d && e) || x) ≡ false → (a ≡ true) × (b ≡ true) × (c ≡ true) × (d ≡ true)
    × (e ≡ true)
all-five a b c d e x h =
    let p₄ = not-false (a && b && c && d && e) (or_left (not (a && b && c && d && e)) x h) in
    let p₃ = and_left (a && b && c && d) e p₄ in
    let p₂ = and_left (a && b && c) d p₃ in
    let p₁ = and_left (a && b) c p₂ in
    (and_left a b p₁, and_right a b p₁, and_right (a && b) c p₂, and_right (a && b && c) d p₃, and_right (a && b && c && d) e p₄)

pub agrees-no-clash : (f : Frame) (l : List Slot) → any (clash f) l ≡ false → (s : Slot) → Memᴰ s l → of (open_as f.id) s ≡ true
    → Agrees f s
unfolding conflict piece_of piece_in
agrees-no-clash f l e s m o =
    let c = no-clash f l e s m o in
    let i = open_of f.id s o in
    let d = rw (eq-eqb _ _ i.1) at c in
    let g = all-five (eqb s.cell.count f.count) (eqb s.cell.kind f.kind) (eqb s.cell.sequence f.sequence)
    (eqb s.cell.order f.order) (eqb s.cell.channel f.channel) (eqb s.cell.index f.index) d in
    record {
      count = eqb-true _ _ g.0;
      kind = eqb-true _ _ g.1;
      sequence = eqb-true _ _ g.2;
      order = eqb-true _ _ g.3;
      channel = eqb-true _ _ g.4;
    }

pub agrees-new : (f : Frame) (u t : ℕ) → f.piece ≡ true → Agrees f (slot_of f u t)
unfolding slot_of
agrees-new f u t e = record { count = rw e; kind = refl; sequence = refl; order = refl; channel = refl }

pub agrees-put : (f : Frame) (l : List Slot) → f.piece ≡ true → any (clash f) l ≡ false → (s : Slot)
    → Memᴰ s (put_slot (slot_of f 1 0) l) → of (open_as f.id) s ≡ true → Agrees f s
agrees-put f l e c s m o = go (mem-put (slot_of f 1 0) l s m)
  where
    go : (s ≡ slot_of f 1 0) ⊎ Memᴰ s l → Agrees f s
    go (inl q) = subst (Agrees f) (sym q) (agrees-new f 1 0 e)
    go (inr i) = agrees-no-clash f l c s i o
