-- A datagram's frames on the cells: document 01's four steps ("A datagram's frames, in order"; with request 1, late sequenced messages) on
-- a working state, and the turns and freed cells; with request 4, the ages of open ids.
use Rattle.std.specs.Prelude.{ℕ, zero, suc, Bool, true, false, cond, ◌&&◌, ◌||◌, List, [], ◌∷◌, ltb, eqb, length}
use Rattle.base.specs.Numbers.{behind}
use Rattle.base.specs.Lists.{any, count_of}
use Rattle.reliability.specs.declared.Profile.{Profile}
use Rattle.bare.specs.Frame.{Frame, ordered, sequenced, in_limits}
use Rattle.bare.specs.Bare.{bump, memory_of, older, noted, accept_reliable, seen_before}
use Rattle.cells.specs.Cell.{Slot, open_as, held_as, of, is_free, is_ready, all_there, clash, mark, empty_slot, map_if, turn_to, put_slot}
use Rattle.cells.specs.Cell.{slot_of, held_use, open_use, ready_use, released_use}
use Rattle.cells.specs.Ages.{grown, renewed}

-- What stays between two calls, as far as the four steps go: the profile, the reliable numbers accepted, each channel's next, the memories
-- of newest sequence numbers and the slots.
pub record State : Type 0 where
  pub profile : Profile
  pub accepted : ℕ → Bool
  pub next : ℕ → ℕ
  pub newest : ℕ → ℕ
  pub slots : List Slot

-- "The answer reports messages made ready, frames dropped"
pub record Counts : Type 0 where
  pub ready : ℕ
  pub dropped : ℕ

-- A datagram at work: the turn of the next message made ready; full: a body found no cell, which is refusal 8.
pub record Work : Type 0 where
  pub state : State
  pub counts : Counts
  pub turn : ℕ
  pub full : Bool

-- with other slots; a datagram at work with another state
abbrev pub with_slots : List Slot → State → State
with_slots l s = record { profile = s.profile; accepted = s.accepted; next = s.next; newest = s.newest; slots = l }

abbrev pub on_state : State → Work → Work
on_state s w = record { state = s; counts = w.counts; turn = w.turn; full = w.full }

-- other slots; the channel's next raised; the frame's sequence number remembered; its reliable number accepted
unfoldable pub place : List Slot → Work → Work
place l w = on_state (with_slots l w.state) w

unfoldable pub rise : ℕ → Work → Work
rise c w = on_state (record {
  profile = w.state.profile;
  accepted = w.state.accepted;
  next = bump c w.state.next;
  newest = w.state.newest;
  slots = w.state.slots;
}) w

unfoldable pub remember_in : Frame → Work → Work
remember_in f w = on_state (record {
  profile = w.state.profile;
  accepted = w.state.accepted;
  next = w.state.next;
  newest = noted (memory_of w.state.profile f.kind f.channel) f.sequence w.state.newest;
  slots = w.state.slots;
}) w

unfoldable pub accept_in : Frame → Work → Work
accept_in f w = on_state (record {
  profile = w.state.profile;
  accepted = accept_reliable f w.state.accepted;
  next = w.state.next;
  newest = w.state.newest;
  slots = w.state.slots;
}) w

-- a frame dropped; other slots, by which a message is made ready; room run out
unfoldable pub drop_one : Work → Work
drop_one w = record {
  state = w.state;
  counts = record { ready = w.counts.ready; dropped = suc w.counts.dropped };
  turn = w.turn;
  full = w.full;
}

unfoldable pub made : List Slot → Work → Work
made l w = record {
  state = with_slots l w.state;
  counts = record { ready = suc w.counts.ready; dropped = w.counts.dropped };
  turn = suc w.turn;
  full = w.full;
}

unfoldable pub fill_up : Work → Work
fill_up w = record { state = w.state; counts = w.counts; turn = w.turn; full = true }

unfoldable pub is_held : ℕ → ℕ → List Slot → Bool
is_held c o l = any (of (held_as c o)) l

-- "a held message of that number follows in the same way": it is made ready and next rises, as long as there is one
unfoldable pub go_on : ℕ → Work → Work
go_on c w = rise c (made (turn_to (held_as c (w.state.next c)) ready_use w.turn w.state.slots) w)

-- at most n of them, and there are no more than slots
unfoldable pub cascade : ℕ → ℕ → Work → Work
cascade zero c w = w
cascade (suc n) c w = let r = cascade n c (go_on c w) in cond (is_held c (w.state.next c) w.state.slots) r w

-- "the channel's next then rises by one", and what follows
unfoldable pub follows : ℕ → Work → Work
follows c w = cascade (length w.state.slots) c (rise c w)

-- "Kinds 3 and 7: order number below the channel's next, or held: drop" (late). "Above: hold" (early). "Equal: ready, with the held ones
-- that follow" (due). Sequenced kinds: "at or below [the memory] is dropped in step 4" (late), else ready, and remembered (newer).
-- "Other kinds: ready" (free).
pub data Fate : Type 0 where
  late early due newer free : Fate

unfoldable pub fate : ℕ → ℕ → ℕ → ℕ → Work → Fate
fate kind c o n w =
    let s = w.state in
    cond (ordered kind) (cond (behind (s.next c) o || is_held c o s.slots) late (cond (eqb o (s.next c)) due early))
    (cond (sequenced kind) (cond (older s.newest (memory_of s.profile kind c) n) late newer) free)

unfoldable pub fate_of : Frame → Work → Fate
fate_of f w = fate f.kind f.channel f.order f.sequence w

-- "bodies not dropped as frames": each needs a cell that was unused before the datagram (a late join's cells have use 4, so they are not
-- free yet).
unfoldable pub roomy : Work → Work → Work
roomy w r = cond (any is_free w.state.slots) r (fill_up w)

-- a whole frame made ready, where there is room
unfoldable pub readied : Frame → Work → Work
readied f w = roomy w (made (put_slot (slot_of f ready_use w.turn) w.state.slots) w)

-- "A whole frame is a message at once": its slot is put as step 4 says.
unfoldable pub whole : Fate → Frame → Work → Work
whole late f w = drop_one w
whole early f w = roomy w (place (put_slot (slot_of f held_use 0) w.state.slots) w)
whole due f w = roomy w (follows f.channel (made (put_slot (slot_of f ready_use w.turn) w.state.slots) w))
whole newer f w = readied f (remember_in f w)
whole free f w = readied f w

-- A joined message's slots are there already; "joining closes the id": they are open no more. "a joined message dropped in 4 counts one"
unfoldable pub joins : Fate → Frame → Work → Work
joins late f w = drop_one (place (turn_to (open_as f.id) released_use 0 w.state.slots) w)
joins early f w = place (turn_to (open_as f.id) held_use 0 w.state.slots) w
joins due f w = follows f.channel (made (turn_to (open_as f.id) ready_use w.turn w.state.slots) w)
joins newer f w = made (turn_to (open_as f.id) ready_use w.turn w.state.slots) (remember_in f w)
joins free f w = made (turn_to (open_as f.id) ready_use w.turn w.state.slots) w

-- "Else keep. When all indices are there, the bodies joined by index are one message."
unfoldable pub kept : Frame → Work → Work
kept f w = let j = joins (fate_of f w) f w in cond (all_there (open_as f.id) w.state.slots f.count) j w

unfoldable pub put_piece : Frame → Work → Work
put_piece f w = roomy w (kept f (place (put_slot (slot_of f open_use 0) w.state.slots) w))

-- its id's age is 0 (request 4)
unfoldable pub renew : Frame → Work → Work
renew f w = place (renewed f.id w.state.slots) w

unfoldable pub piece : Frame → Work → Work
piece f w = cond (any (clash f) w.state.slots) (drop_one w) (put_piece f (renew f w))

unfoldable pub keep_in : Frame → Work → Work
keep_in f w = cond f.piece (piece f w) (whole (fate_of f w) f w)

-- "Reliable number accepted before: drop. Else accept it. Channel, count or index over its limit: drop."
unfoldable pub frame : Work → Frame → Work
frame w f = cond (seen_before f w.state.accepted) (drop_one w) (cond (in_limits f) (keep_in f (accept_in f w)) (drop_one (accept_in f w)))

unfoldable pub frames : Work → List Frame → Work
frames w [] = w
frames w (f ∷ fs) = frames (frame w f) fs

-- the ready messages' turns become 0, 1, 2, .. in their order (our choice, so that no turn ever overflows): as many as have an earlier one
unfoldable pub is_first : Slot → Bool
is_first s = is_ready s && eqb s.cell.index 0

unfoldable pub is_before : ℕ → Slot → Bool
is_before t s = is_first s && ltb s.cell.turn t

unfoldable pub rank : List Slot → ℕ → ℕ
rank l t = count_of (is_before t) l

unfoldable pub renumber : List Slot → List Slot
renumber l = map_if is_ready (λ s. mark ready_use (rank l s.cell.turn) s) l

-- "its cells free afterwards"
unfoldable pub sweep : List Slot → List Slot
sweep l = map_if (λ s. eqb s.cell.used released_use) (λ s. empty_slot) l

unfoldable pub begin : State → Work
begin s = record {
  state = with_slots (renumber s.slots) s;
  counts = record { ready = 0; dropped = 0 };
  turn = count_of is_first s.slots;
  full = false;
}

unfoldable pub end : Work → State
end w = with_slots (sweep w.state.slots) w.state

-- each open id is one older, before the frames (request 4); one of which a piece is kept then gets age 0 (`renew`)
unfoldable pub grow : Work → Work
grow w = place (grown w.state.slots) w

unfoldable pub datagram : State → List Frame → Work
datagram s fs = frames (grow (begin s)) fs
