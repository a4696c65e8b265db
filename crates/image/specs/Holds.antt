-- What cells hold, whichever cells and turns they are: "Equal receivers, wherever their cells lie" (request 5), of cells alone. The id,
-- sequence number and age of a held or ready message are not held.
use Rattle.std.specs.Prelude.{ℕ, ◌≡◌, List}
use Rattle.std.proofs.Math.Option.{Option, none, some}
use Rattle.base.specs.Lists.{option, find}
use Rattle.cells.specs.Cell.{Slot, open_as, held_as, sits}
use Rattle.image.specs.Image.{PieceEntry, MessageEntry}
use Rattle.image.specs.Entries.{piece_entry, message_entry, ready_in}

-- the open piece under an id and index, with the id's age; the held message under a channel and order number, body by body
unfoldable pub open_at : ℕ → ℕ → List Slot → Option PieceEntry
open_at id i l = option (find (sits (open_as id) i) l) none (λ s. some (piece_entry s))

unfoldable pub held_at : ℕ → ℕ → List Slot → Option MessageEntry
held_at c o l = option (find (sits (held_as c o) 0) l) none (λ s. some (message_entry l s))

-- and the ready messages in their order
pub record SameSlots (l m : List Slot) : Type 0 where
  pub pieces : (id i : ℕ) → open_at id i l ≡ open_at id i m
  pub held : (c o : ℕ) → held_at c o l ≡ held_at c o m
  pub ready : ready_in l ≡ ready_in m
