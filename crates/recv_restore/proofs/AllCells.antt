-- All cells of an image: open pieces, then held, then ready messages.
-- Assumes nothing.
use Prim.Native.Nat.{ℕ, suc, ◌+◌, ◌≤◌}
use mathlib.Core.Path.{◌≡◌, refl, ◌∙◌, ap, subst}
use mathlib.Core.List.{List, [], ◌∷◌, ◌++◌, map, append_assoc}
use native.Mathlib.Omega.{arith}
use lib.ListN.{length, length-append}
use Rattle.std.specs.Prelude.{Option, Some, None}
use Rattle.base.specs.Bytes.{be32}
use Rattle.cells.specs.Cell.{Slot}
use Rattle.image.specs.Image.{PieceEntry, MessageEntry, Image}
use Rattle.image.specs.Slots.{piece_slot, held_slots, ready_slots, used_slots}
use Rattle.rows.specs.declared.Row.{Row}
use Rattle.image_read.specs.At.{place_after, values_at, piece_at, piece_end, message_at, message_end, section_at, section_end}
use Rattle.image_read.specs.At.{pieces_place, held_place, ready_place, image_at}
use Rattle.recv_restore.specs.Fits.{Each, cells_of_each, PieceCan, piece_next, piece_cells, HeldCan, held_next, held_cells, ReadyCan}
use Rattle.recv_restore.specs.Fits.{ready_next, ready_cells}
use Rattle.recv_restore.specs.Filling.{Rowed, Put, Fills, Cells}
use Rattle.recv_restore.specs.declared.filling.Filled.{Filled}

pub pieces-are : (k : ℕ) (es : List PieceEntry) → cells_of_each piece_cells piece_next k es ≡ map piece_slot es
unfolding cells_of_each
pieces-are k [] = refl
pieces-are k (e ∷ es) = ap {B = List Slot} (λ l. piece_slot e ∷ l) (pieces-are (piece_next k e) es)

pub held-are : (k : ℕ) (es : List MessageEntry) → cells_of_each held_cells held_next k es ≡ held_slots es
unfolding cells_of_each held_slots
held-are k [] = refl
held-are k (e ∷ es) = ap (λ (l : List Slot). held_cells k e ++ l) (held-are (held_next k e) es)

pub ready-are : (t : ℕ) (es : List MessageEntry) → cells_of_each ready_cells ready_next t es ≡ ready_slots t es
unfolding cells_of_each ready_slots
ready-are t [] = refl
ready-are t (e ∷ es) = ap (λ (l : List Slot). ready_cells t e ++ l) (ready-are (suc t) es)

-- a section's entries, where its count was read and its place is known
module _ {A : Type 0} (can : ℕ → A → Type 0) (next : ℕ → A → ℕ) (cells : ℕ → A → List Slot) (at : ℕ → A) (end : ℕ → ℕ) where
  pub section-fill : (s : List ℕ) (rows : List Row) (from : Filled) (rows' : List Row) (r : Option Filled) (n p place : ℕ) → p ≡ place
      → from.place ≡ p + 4 → n ≡ be32 s p → (es : List A) → section_at s at end place ≡ es → (slots : List Slot)
      → cells_of_each cells next 0 es ≡ slots
      → (last : ℕ) → section_end s end place ≡ last
      → Fills 1600 (Each can next 0 (values_at at end n from.place)) (cells_of_each cells next 0 (values_at at end n from.place))
      (place_after end n from.place) s rows from rows' r
      → Fills 1600 (Each can next 0 es) slots last s rows from rows' r
  section-fill s rows from rows' r n p place e1 e2 e3 es e4 slots e5 last e6 h =
      subst (λ (z : ℕ). Fills 1600 (Each can next 0 es) slots z s rows from rows' r) ends
      (subst (λ (z : List Slot). Fills 1600 (Each can next 0 es) z (place_after end n from.place) s rows from rows' r) e5
      (subst (λ (z : List A). Fills 1600 (Each can next 0 z) (cells_of_each cells next 0 z)
      (place_after end n from.place) s rows from rows' r) entries h))
    where
      count : n ≡ be32 s place
      count = e3 ∙ ap (be32 s) e1

      begin : from.place ≡ place + 4
      begin = e2 ∙ ap (λ (q : ℕ). q + 4) e1

      first : values_at at end n from.place ≡ section_at s at end place
      first = unfold section_at in λ t. values_at at end (count t) (begin t)

      entries : values_at at end n from.place ≡ es
      entries = first ∙ e4

      section : place_after end n from.place ≡ section_end s end place
      section = unfold section_end in λ t. place_after end (count t) (begin t)

      ends : place_after end n from.place ≡ last
      ends = section ∙ e6

pub section-within : (end : ℕ → ℕ) (s : List ℕ) (n p q place last : ℕ) → p ≡ place → q ≡ p + 4 → n ≡ be32 s p → section_end s end place
    ≡ last → last ≤ length s
    → place_after end n q ≤ length s
unfolding section_end
section-within end s n p q place last e1 e2 e3 e4 le =
    let e : place_after end n q ≡ last = (λ t. place_after end ((e3 ∙ ap (be32 s) e1) t) ((e2 ∙ ap (λ (x : ℕ). x + 4) e1) t)) ∙ e4 in
    omega arith

module _ (s : List ℕ) where
  pub to-held : section_end s (piece_end s) (pieces_place s) ≡ held_place s
  unfolding held_place
  to-held = refl

  pub to-ready : section_end s (message_end s) (held_place s) ≡ ready_place s
  unfolding ready_place
  to-ready = refl

  pub pieces-at : section_at s (piece_at s) (piece_end s) (pieces_place s) ≡ (image_at s).pieces
  unfolding image_at
  pieces-at = refl

  pub held-at : section_at s (message_at s) (message_end s) (held_place s) ≡ (image_at s).held
  unfolding image_at
  held-at = refl

  pub ready-at : section_at s (message_at s) (message_end s) (ready_place s) ≡ (image_at s).ready
  unfolding image_at
  ready-at = refl

module _ (s : List ℕ) (rows : List Row) (from : Filled) (rows' : List Row) (r : Option Filled) (n p : ℕ) where
  pub open-fill : p ≡ pieces_place s → from.place ≡ p + 4 → n ≡ be32 s p
      → Fills 1600 (Each PieceCan piece_next 0 (values_at (piece_at s) (piece_end s) n from.place))
      (cells_of_each piece_cells piece_next 0 (values_at (piece_at s) (piece_end s) n from.place))
      (place_after (piece_end s) n from.place) s rows from rows' r
      → Fills 1600 (Each PieceCan piece_next 0 (image_at s).pieces) (map piece_slot (image_at s).pieces) (held_place s) s rows from rows' r
  open-fill e1 e2 e3 h = section-fill PieceCan piece_next piece_cells (piece_at s) (piece_end s) s rows from rows' r n p
      (pieces_place s) e1 e2 e3
      (image_at s).pieces (pieces-at s) (map piece_slot (image_at s).pieces) (pieces-are 0 (image_at s).pieces) (held_place s) (to-held s) h

  pub held-fill : p ≡ held_place s → from.place ≡ p + 4 → n ≡ be32 s p
      → Fills 1600 (Each HeldCan held_next 0 (values_at (message_at s) (message_end s) n from.place))
      (cells_of_each held_cells held_next 0 (values_at (message_at s) (message_end s) n from.place))
      (place_after (message_end s) n from.place) s rows from rows' r
      → Fills 1600 (Each HeldCan held_next 0 (image_at s).held) (held_slots (image_at s).held) (ready_place s) s rows from rows' r
  held-fill e1 e2 e3 h = section-fill HeldCan held_next held_cells (message_at s) (message_end s) s rows from rows' r n p
      (held_place s) e1 e2 e3
      (image_at s).held (held-at s) (held_slots (image_at s).held) (held-are 0 (image_at s).held) (ready_place s) (to-ready s) h

  pub ready-fill : p ≡ ready_place s → from.place ≡ p + 4 → n ≡ be32 s p
      → Fills 1600 (Each ReadyCan ready_next 0 (values_at (message_at s) (message_end s) n from.place))
      (cells_of_each ready_cells ready_next 0 (values_at (message_at s) (message_end s) n from.place))
      (place_after (message_end s) n from.place) s rows from rows' r
      → Fills 1600 (Each ReadyCan ready_next 0 (image_at s).ready) (ready_slots 0 (image_at s).ready)
      (section_end s (message_end s) (ready_place s)) s rows from rows' r
  ready-fill e1 e2 e3 h = section-fill ReadyCan ready_next ready_cells (message_at s) (message_end s) s rows from rows' r n p
      (ready_place s) e1 e2 e3
      (image_at s).ready (ready-at s) (ready_slots 0 (image_at s).ready) (ready-are 0 (image_at s).ready)
      (section_end s (message_end s) (ready_place s)) refl h

-- ---- all three
module _ (i : Image) (s : List ℕ) (rows : List Row) (p : ℕ) where
  abbrev start : Filled
  start = record { place = p + 4; used = 0 }

  abbrev behind : Filled → Filled
  behind f = record { place = f.place + 4; used = f.used }

  many : length (used_slots i) ≡ length (map piece_slot i.pieces) + (length (held_slots i.held) + length (ready_slots 0 i.ready))
  unfolding used_slots
  many = omega (
    arith,
    length-append (map piece_slot i.pieces) (held_slots i.held ++ ready_slots 0 i.ready),
    length-append (held_slots i.held) (ready_slots 0 i.ready),
  )

  module _ (last1 last2 last3 : ℕ) where
    pub no-pieces : (rows1 : List Row) → Fills 1600 (Each PieceCan piece_next 0 i.pieces)
        (map piece_slot i.pieces) last1 s rows start rows1 None
        → Cells i s rows rows1 None
    unfolding Fills Cells
    no-pieces rows1 h = λ c room. h c.pieces (omega (arith, many))

    module _ (rows1 : List Row) (a : Filled) (u : Put 1600 (Each PieceCan piece_next 0 i.pieces)
        (map piece_slot i.pieces) last1 s rows start rows1 a) where
      pub no-held : (rows2 : List Row) → Fills 1600 (Each HeldCan held_next 0 i.held) (held_slots i.held) last2 s rows1
          (behind a) rows2 None
          → Cells i s rows rows2 None
      unfolding Fills Cells
      no-held rows2 h = λ c room. h c.held (omega (arith, many, u.used, u.many))

      module _ (rows2 : List Row) (b : Filled) (v : Put 1600 (Each HeldCan held_next 0 i.held) (held_slots i.held) last2 s rows1
          (behind a) rows2 b) where
        pub all-cells : (rows3 : List Row) (r : Option Filled)
            → Fills 1600 (Each ReadyCan ready_next 0 i.ready) (ready_slots 0 i.ready) last3 s rows2 (behind b) rows3 r
            → Cells i s rows rows3 r
        unfolding Fills Cells
        all-cells rows3 None h = λ c room. h c.ready (omega (arith, many, u.used, u.many, v.used, v.many))
        all-cells rows3 (Some f) h = (
          record { pieces = u.may; held = v.may; ready = h.may },
          (
            omega (arith, many, u.used, u.many, v.used, v.many, h.used, h.room),
            λ w. whole (h.rowed (map piece_slot i.pieces ++ held_slots i.held)
                (omega (arith, length-append (map piece_slot i.pieces) (held_slots i.held), u.used, v.used))
                (v.rowed (map piece_slot i.pieces) (omega (arith, u.used)) (u.rowed [] (omega arith) w))),
          ),
        )
          where
            whole : Rowed s rows3 ((map piece_slot i.pieces ++ held_slots i.held) ++ ready_slots 0 i.ready) → Rowed s rows3 (used_slots i)
            whole w = unfold used_slots in rw (← append_assoc (map piece_slot i.pieces) (held_slots i.held) (ready_slots 0 i.ready)) w
