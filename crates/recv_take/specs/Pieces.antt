-- The pieces of the ready message of turn t, by their records cs and the store st.
use Rattle.std.specs.Prelude.{ℕ, zero, suc, ◌*◌, ◌≤◌, ◌<◌, ◌≡◌, true, List, [], length, take, drop}
use Rattle.base.specs.Limits.{cell_bytes, max_frags}
use Rattle.base.specs.Lists.{option, find, any}
use Rattle.base.specs.Put.{and_then}
use Rattle.cells.specs.Cell.{Cell, ready_as, at, empty_cell, message_at}
use Rattle.cells.specs.Records.{index_of}
use Rattle.cells.specs.Store.{slots_of}
use Rattle.receiver.specs.Take.{TakeResult, take_refuses, handed}

-- the record of the piece of index i; the all-zero record where there is none
unfoldable pub piece_at : ℕ → List Cell → ℕ → Cell
piece_at t cs i = option (find (at (ready_as t) i) cs) empty_cell (λ c. c)

-- its bytes in the store
unfoldable pub piece_bytes : ℕ → List Cell → List ℕ → ℕ → List ℕ
piece_bytes t cs st i = take (piece_at t cs i).length (drop (index_of (at (ready_as t) i) cs * cell_bytes) st)

-- "the bodies joined by index", of the first n pieces
unfoldable pub joined_to : ℕ → List Cell → List ℕ → ℕ → List ℕ
joined_to t cs st zero = []
joined_to t cs st (suc n) = and_then (joined_to t cs st n) (piece_bytes t cs st n)

-- What soundness says of a piece's record.
pub record PieceFits (c : Cell) : Type 0 where
  pub kind : c.kind < 256
  pub channel : c.channel < 256
  pub count : c.count ≤ max_frags
  pub length : c.length ≤ cell_bytes

-- each piece's record obeys this; so does the all-zero record
abbrev pub AllWithin : ℕ → List Cell → Type 0
AllWithin t cs = (i : ℕ) → PieceFits (piece_at t cs i)

-- What soundness says of the message that is to be taken: its first piece is there, its pieces are within the limits, and each has its
-- cell.
pub record Takeable (t : ℕ) (cs : List Cell) (st : List ℕ) : Type 0 where
  pub first : any (at (ready_as t) 0) cs ≡ true
  pub within : AllWithin t cs
  pub store : length st ≡ cell_bytes * length cs

-- the message of turn t handed out: `take_of` when the records are sound and t is the earliest turn
unfoldable pub take_turn : ℕ → List Cell → List ℕ → List ℕ → TakeResult
take_turn t rs st buffer =
    option (message_at (ready_as t) (slots_of rs st)) (take_refuses rs buffer 20)
    (λ m. option (find (at (ready_as t) 0) rs) (take_refuses rs buffer 20) (λ first. handed rs st buffer t m first))
