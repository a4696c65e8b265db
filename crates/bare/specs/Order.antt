-- Demand 3 for one list: what the line has of an ordered channel.
use Rattle.std.specs.Prelude.{ℕ, ◌<◌, ◌≡◌, Bool, ◌&&◌, eqb, length, get_or}
use mathlib.Core.List.{List, Memᴰ}
use Rattle.base.specs.Lists.{only}
use Rattle.reliability.specs.declared.Profile.{Profile}
use Rattle.bare.specs.Frame.{Frame, Message, ordered}
use Rattle.bare.specs.Unfinished.{new_dated, Event, after_events, frames_of}
use Rattle.bare.specs.Book.{Written, Arrived}

-- the ordered messages of channel c
unfoldable pub on_channel : ℕ → Message → Bool
on_channel c m = ordered m.kind && eqb m.channel c

-- "the line" for what a list told the bare receiver: the frames read, in the order they were read, and among them each drop that was not
-- refused, with its n; "The bare receiver has its list's profile" (request 2)
unfoldable pub line_for : Profile → List Event → List Message
line_for p es = (after_events (new_dated p) es).bare.out.line

-- "of the ordered messages (kinds 3 and 7) each line has, per channel"
unfoldable pub line_of : Profile → ℕ → List Event → List Message
line_of p c es = only (on_channel c) (line_for p es)

-- "If all frames .. stand in one sender's book"
abbrev pub Within : (Frame → Type 0) → List Frame → Type 0
Within B fs = (f : Frame) → Memᴰ f fs → B f

-- "arrived" by the frames read
abbrev pub HasArrived : (Frame → Type 0) → List Frame → ℕ → ℕ → Type 0
HasArrived B fs c o = Arrived B (λ f. Memᴰ f fs) c o

-- "exactly those before the first order number not arrived, in order, once each": there is such a first number, the line of the channel is
-- as long as that, and at place o stands the book's message o. Under either profile, and with whatever drops that were not refused, each
-- with its n, among the datagrams.
pub record InOrder (p : Profile) (B : Frame → Type 0) (es : List Event) (c : ℕ) : Type 0 where
  pub first_absent : ℕ
  pub absent : HasArrived B (frames_of es) c first_absent → ⊥
  pub before : (o : ℕ) → o < first_absent → HasArrived B (frames_of es) c o
  pub long : length (line_of p c es) ≡ first_absent
  pub at : (o : ℕ) → o < first_absent → (d : Message) → Written B c o (get_or (line_of p c es) o d)
