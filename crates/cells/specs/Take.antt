-- "Take, earliest ready first." "A taken message frees its cells."
use Rattle.std.specs.Prelude.{ℕ, zero, suc, cond, List, [], ◌∷◌, ltb, length}
use Rattle.std.proofs.Math.Option.{Option, none, some}
use Rattle.base.specs.Lists.{option}
use Rattle.bare.specs.Frame.{Message}
use Rattle.cells.specs.Cell.{Slot, ready_as, is_ready, message_at, freed}

-- the least turn of a ready slot; none: "20 none ready"
unfoldable pub lower : ℕ → Option ℕ → ℕ
lower t o = option o t (λ u. cond (ltb u t) u t)

unfoldable pub earliest : List Slot → Option ℕ
earliest [] = none
earliest (s ∷ l) = cond (is_ready s) (some (lower s.cell.turn (earliest l))) (earliest l)

-- what a take with a joining buffer long enough hands out and leaves
pub record Taken : Type 0 where
  pub message : Message
  pub slots : List Slot

unfoldable pub taking : List Slot → Option Taken
taking l = option (earliest l) none (λ t. option (message_at (ready_as t) l) none
    (λ m. some (record { message = m; slots = freed (ready_as t) l })))

-- "those that takes with a joining buffer long enough would hand out until 20": at most n, and there are no more than slots
unfoldable pub drain_in : ℕ → List Slot → List Message
drain_in zero l = []
drain_in (suc n) l = option (taking l) [] (λ t. t.message ∷ drain_in n t.slots)

unfoldable pub drain : List Slot → List Message
drain l = drain_in (length l) l
