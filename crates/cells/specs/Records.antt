-- What the receiver decides and changes, as functions of the records alone: what code that has only the records computes.
use Rattle.std.specs.Prelude.{ℕ, suc, Bool, cond, ◌&&◌, List, [], ◌∷◌, map, ltb, eqb}
use Rattle.std.proofs.Math.Option.{Option, none, some}
use Rattle.bare.specs.Frame.{Frame, piece_of}
use Rattle.bare.specs.Bare.{conflict}
use Rattle.cells.specs.Cell.{Cell, piece_in, open_use, ready_use, unused_use}
use Rattle.cells.specs.Take.{lower}

-- The lowest-numbered unused record.
unfoldable pub unused_at : List Cell → ℕ
unused_at [] = 0
unused_at (c ∷ cs) = cond (eqb c.used unused_use) 0 (suc (unused_at cs))

unfoldable pub change_cells : (Cell → Bool) → (Cell → Cell) → List Cell → List Cell
change_cells p g cs = map (λ (c : Cell). cond (p c) (g c) c) cs

unfoldable pub clash_cell : Frame → Cell → Bool
clash_cell f c = eqb c.used open_use && conflict (piece_of f) (piece_in (record { cell = c; body = [] }))

unfoldable pub before_cell : ℕ → Cell → Bool
before_cell t c = (eqb c.used ready_use && eqb c.index 0) && ltb c.turn t

unfoldable pub earliest_cell : List Cell → Option ℕ
earliest_cell [] = none
earliest_cell (c ∷ cs) = cond (eqb c.used ready_use) (some (lower c.turn (earliest_cell cs))) (earliest_cell cs)

-- The same for a frame's own record: may it not be kept beside this one?
unfoldable pub clashes : Cell → Cell → Bool
clashes a c = eqb c.used open_use && conflict (piece_in (record { cell = a; body = [] })) (piece_in (record { cell = c; body = [] }))

-- A ready message's first record.
unfoldable pub first_cell : Cell → Bool
first_cell c = eqb c.used ready_use && eqb c.index 0

-- The number of the first record that passes; as many as there are where none does.
unfoldable pub index_of : (Cell → Bool) → List Cell → ℕ
index_of p [] = 0
index_of p (c ∷ cs) = cond (p c) 0 (suc (index_of p cs))
