-- The records and the store: slots read off them, and the store with the slots' bodies laid over it.
use Rattle.std.specs.Prelude.{ℕ, cond, List, [], ◌∷◌, ◌++◌, map, eqb, length, take, drop}
use Rattle.base.specs.Limits.{cell_bytes}
use Rattle.cells.specs.Cell.{Cell, Slot, is_free, unused_use}

-- "cells of 1,500 bytes"
unfoldable pub cell_size : ℕ
cell_size = cell_bytes

-- the first bytes of its cell, as many as the record's length says; an unused cell has no body
unfoldable pub cell_body : Cell → List ℕ → List ℕ
cell_body c store = cond (eqb c.used unused_use) [] (take c.length store)

unfoldable pub slots_of : List Cell → List ℕ → List Slot
slots_of [] store = []
slots_of (c ∷ cs) store = record { cell = c; body = cell_body c store } ∷ slots_of cs (drop cell_size store)

unfoldable pub cells_of : List Slot → List Cell
cells_of l = map (λ (s : Slot). s.cell) l

-- a body lies over the first bytes of its cell; "bytes it doesn't write keep their value"
unfoldable pub laid : Slot → List ℕ → List ℕ
laid s bytes = cond (is_free s) bytes (s.body ++ drop (length s.body) bytes)

unfoldable pub store_of : List ℕ → List Slot → List ℕ
store_of store [] = store
store_of store (s ∷ l) = laid s (take cell_size store) ++ store_of (drop cell_size store) l
