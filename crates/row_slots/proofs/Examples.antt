-- Rows over a store and a datagram, computed.
-- Assumes nothing.
use Prim.Native.Nat.{ℕ}
use mathlib.Core.Path.{◌≡◌, refl}
use mathlib.Core.List.{List, [], ◌∷◌, map}
use Rattle.cells.specs.Cell.{Slot, empty_cell}
use Rattle.cells.specs.Store.{cell_size}
use Rattle.rows.specs.declared.Row.{Row}
use Rattle.rows.specs.Rows.{blank_row}
use Rattle.row_slots.specs.Slots.{row_bytes, row_body, slot_in, slots_in, is_placed, flushed_cell, flushed}

-- A row in use, of a body of two bytes.
two : ℕ → Row
two place = record { cell = record empty_cell { used = 3; kind = 2; count = 1; length = 2 }; place = place }

bodies : List Row → List ℕ → List ℕ → List (List ℕ)
bodies rs st d = map (λ (s : Slot). s.body) (slots_in rs st d)

store : List ℕ
store = 11 ∷ 12 ∷ 13 ∷ []

sent : List ℕ
sent = 51 ∷ 52 ∷ 53 ∷ 54 ∷ []

-- Place 0 is the store's cell; place 1 is the datagram's first byte, place 3 its third.
in-store : bodies (two 0 ∷ []) store sent ≡ (11 ∷ 12 ∷ []) ∷ []
unfolding bodies two empty_cell store sent slots_in slot_in row_body row_bytes
in-store = refl

in-datagram : bodies (two 1 ∷ two 3 ∷ blank_row ∷ []) store sent ≡ (51 ∷ 52 ∷ []) ∷ (53 ∷ 54 ∷ []) ∷ [] ∷ []
unfolding bodies two empty_cell store sent slots_in slot_in row_body row_bytes blank_row
in-datagram = refl

-- After acceptance the body lies over the first bytes of its cell; a body of the store, and an unused row, write nothing.
copied : flushed (two 3 ∷ []) store sent ≡ 53 ∷ 54 ∷ 13 ∷ []
unfolding two empty_cell store sent flushed flushed_cell is_placed row_body row_bytes cell_size
copied = refl

kept : flushed (two 0 ∷ blank_row ∷ []) store sent ≡ store
unfolding two empty_cell store sent flushed flushed_cell is_placed blank_row cell_size
kept = refl
