-- Refusal 8's condition, and the bare receiver that a state stands for.
use Rattle.std.specs.Prelude.{ℕ, ◌+◌, Bool, cond, not, ◌&&◌, List, [], ◌∷◌, map, ltb, eqb, length}
use Rattle.base.specs.Lists.{any, count_of, only}
use Rattle.bare.specs.Frame.{Frame, Message, piece_of, message, in_limits}
use Rattle.bare.specs.Bare.{Bare, deliver, conflict, seen_before, step}
use Rattle.cells.specs.Cell.{Slot, held_as, is_free, is_open, join, message_of, piece_in, held_use}
use Rattle.cells.specs.Datagram.{State}
use Rattle.cells.specs.Take.{drain}

-- The open pieces, the held messages (one for each cell of index 0 in use 2), and as the line what takes would hand out.
unfoldable pub is_held_first : Slot → Bool
is_held_first s = eqb s.cell.used held_use && eqb s.cell.index 0

unfoldable pub held_in : List Slot → Slot → Message
held_in l s = message_of s (join (held_as s.cell.channel s.cell.order) l s.cell.count)

unfoldable pub bare_of : State → Bare
bare_of s = record {
  accepted = s.accepted;
  pieces = map piece_in (only is_open s.slots);
  out = record {
    profile = s.profile;
    next = s.next;
    newest = s.newest;
    held = map (held_in s.slots) (only is_held_first s.slots);
    line = drain s.slots;
  };
}

-- "bodies not dropped as frames": kept by steps 1 to 3 and, if whole, by step 4 ("a joined message dropped late still counts")
unfoldable pub kept_as_frame : Bare → Frame → Bool
kept_as_frame b f = not (seen_before f b.accepted) && (in_limits f && cond f.piece (not (any (conflict (piece_of f)) b.pieces))
    (eqb (deliver f.sequence (message f f.body) b.out).dropped 0))

unfoldable pub bodies : Bare → List Frame → ℕ
bodies b [] = 0
bodies b (f ∷ fs) = cond (kept_as_frame b f) 1 0 + bodies (step b f).after fs

-- "8 cells in use before plus bodies not dropped as frames exceed all cells"
unfoldable pub exceeds : Bare → List Slot → List Frame → Bool
exceeds b l fs = ltb (length l) (count_of (λ s. not (is_free s)) l + bodies b fs)
