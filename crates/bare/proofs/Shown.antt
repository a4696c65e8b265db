-- Frames and runs for the worked examples: the definitions compute.
-- Assumes nothing.
use Prim.Native.Nat.{ℕ}
use mathlib.Core.Bool.{true, false}
use mathlib.Core.List.{List, [], ◌∷◌, map}
use Rattle.base.specs.Lists.{find, any, count_of, without}
use Rattle.reliability.specs.declared.Profile.{Profile}
use Rattle.reliability.specs.declared.Profile.TheVariants.{Console}
use Rattle.bare.specs.Frame.{Frame, Message, carries_reliable, ordered, sequenced, in_limits, piece_of, message}
use Rattle.bare.specs.Bare.{new, is_at, bump, emit, follow, quiet, hold, append, queue, memory_of, older, noted, remember}
use Rattle.bare.specs.Bare.{ready, sequence, deliver, conflict, is_piece_at, has_id}
use Rattle.bare.specs.Bare.{joined, keep, assemble, seen_before, accept_reliable, drop_in, finish, step, feed}
use Rattle.bare.specs.Unfinished.{Dated, new_dated, keeps_piece, dated_at, last_after, receive_dated, since, is_stale, drop_stale}
use Rattle.bare.specs.Unfinished.{stale_pieces, Event, datagram, drop_past, happens, after_events}
use Rattle.bare.specs.Order.{line_for}

-- A whole frame of a kind: its reliable number, channel and order number, and one byte as its body.
unfoldable pub whole-frame : ℕ → ℕ → ℕ → ℕ → ℕ → Frame
whole-frame kind reliable channel order byte = record {
  kind = kind;
  reliable = reliable;
  sequence = 0;
  order = order;
  channel = channel;
  piece = false;
  count = 0;
  id = 0;
  index = 0;
  body = byte ∷ [];
}

-- A piece of a kind: its reliable number, channel and order number; count, id and index; and one byte.
unfoldable pub piece-frame : ℕ → ℕ → ℕ → ℕ → ℕ → ℕ → ℕ → ℕ → Frame
piece-frame kind reliable channel order count id index byte = record {
  kind = kind;
  reliable = reliable;
  sequence = 0;
  order = order;
  channel = channel;
  piece = true;
  count = count;
  id = id;
  index = index;
  body = byte ∷ [];
}

-- A message of the line: kind, channel, order number, body.
unfoldable pub msg : ℕ → ℕ → ℕ → List ℕ → Message
msg kind channel order body = record { kind = kind; channel = channel; order = order; body = body }

-- A piece of kind 0, as scene previews are sent: count, id and index, and one byte.
unfoldable pub preview : ℕ → ℕ → ℕ → ℕ → Frame
preview count id index byte = piece-frame 0 0 0 0 count id index byte

-- A datagram with one frame.
unfoldable pub alone : Frame → Event
alone f = datagram (f ∷ [])

-- What was seen of a new receiver to which some events happened, one after another: what each gave, and the line.
pub record Seen : Type 0 where
  pub answers : List (List ℕ)
  pub line : List Message

-- A datagram gives messages made ready and frames dropped,
unfoldable pub gave : ℕ → ℕ → List ℕ
gave ready dropped = ready ∷ dropped ∷ []

-- and a call of request 4 how many cells it freed, one for each piece.
unfoldable pub freed : ℕ → List ℕ
freed pieces = pieces ∷ []

unfoldable pub seen : List (List ℕ) → List Message → Seen
seen answers line = record { answers = answers; line = line }

unfoldable pub answer_of : Dated → Event → List ℕ
answer_of d (datagram fs) = gave (feed d.bare fs).ready (feed d.bare fs).dropped
answer_of d (drop_past n) = freed (stale_pieces n d)

unfoldable pub answers_of : Dated → List Event → List (List ℕ)
answers_of d [] = []
answers_of d (e ∷ es) = answer_of d e ∷ answers_of (happens e d) es

-- A run for one profile. `unfolding run_events` opens every definition that a run computes with, and so does `unfolding run_as` or `run`.
unfoldable pub run_events : Profile → List Event → Seen
unfolding whole-frame piece-frame preview alone msg gave freed seen answer_of answers_of find any without count_of carries_reliable ordered
    sequenced is_at bump emit follow quiet hold append queue memory_of older noted remember ready sequence deliver piece_of conflict
    is_piece_at has_id joined message keep assemble in_limits accept_reliable seen_before drop_in finish step feed new new_dated keeps_piece
    dated_at last_after receive_dated since is_stale drop_stale stale_pieces happens after_events line_for
run_events p es = seen (answers_of (new_dated p) es) (line_for p es)

-- Datagrams alone.
unfoldable pub run_as : Profile → List (List Frame) → Seen
unfolding run_events
run_as p ds = run_events p (map datagram ds)

-- Document 01's frames are the consoles'.
unfoldable pub run : List (List Frame) → Seen
unfolding run_as
run ds = run_as Console ds
