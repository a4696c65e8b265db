-- Slots and runs for the worked examples: the definitions compute.
-- Assumes nothing.
use Prim.Native.Nat.{ℕ}
use mathlib.Core.Bool.{Bool, false, cond}
use mathlib.Core.List.{List, [], ◌∷◌}
use lib.ListN.{length, replicate}
use Rattle.base.specs.Lists.{option, find, any, every, count_of, without, only, below}
use Rattle.reliability.specs.declared.Profile.{Profile}
use Rattle.reliability.specs.declared.Profile.TheVariants.{Console}
use Rattle.bare.specs.Frame.{Frame, Message, carries_reliable, ordered, sequenced, in_limits, piece_of, message}
use Rattle.bare.specs.Bare.{new, is_at, bump, emit, follow, quiet, hold, append, queue, memory_of, older, noted, ready, sequence, deliver}
use Rattle.bare.specs.Bare as bare
use Rattle.bare.specs.Bare.{conflict, is_piece_at, has_id, joined, keep, assemble, seen_before, accept_reliable, drop_in, finish, step}
use Rattle.bare.specs.Bare.{feed}
use Rattle.bare.proofs.Shown.{whole-frame, piece-frame, msg}
use Rattle.cells.specs.Cell.{Slot, bears, at, of, sits, is_free, is_open, is_ready, join, all_there, message_of, message_at, piece_in}
use Rattle.cells.specs.Cell.{clash}
use Rattle.cells.specs.Cell.{mark_cell, mark, empty_cell, empty_slot, change, map_if, turn_to, freed, put_slot, slot_of}
use Rattle.cells.specs.Ages.{with_age, aged, next_age, grown, renewed, is_stale, dropped}
use Rattle.cells.specs.Datagram.{drop_one, fill_up, place, made, rise, accept_in, is_held, go_on, cascade, follows, fate, fate_of, roomy}
use Rattle.cells.specs.Datagram.{remember_in, readied, whole, joins, kept, put_piece, renew, piece, keep_in, frame, frames, is_first}
use Rattle.cells.specs.Datagram.{is_before, rank, renumber, sweep, begin, State, with_slots, end, grow, datagram}
use Rattle.cells.specs.Take.{lower, earliest, taking, drain_in, drain}
use Rattle.cells.specs.Sound.{key_of, age_of, limits, agree, alike, lacks_none, sound_cell, sound, lengths}
use Rattle.cells.specs.Store.{cell_size, cell_body, slots_of, cells_of, laid, store_of}

-- A slot by its record's fields and its body; the length is the body's, the age 0.
unfoldable pub slot : ℕ → ℕ → ℕ → ℕ → ℕ → ℕ → ℕ → ℕ → ℕ → List ℕ → Slot
slot used id index kind channel count sequence order turn body = record {
  cell = record {
    used = used;
    id = id;
    index = index;
    length = length body;
    kind = kind;
    channel = channel;
    count = count;
    sequence = sequence;
    order = order;
    turn = turn;
    age = 0;
  };
  body = body;
}

-- Cells of an open piece of kind 3 (id, index, count, order number, byte), and of messages of one piece: held and ready (turn, kind, order
-- number, byte).
unfoldable pub open-cell : ℕ → ℕ → ℕ → ℕ → ℕ → Slot
open-cell id index count order byte = slot 1 id index 3 0 count 0 order 0 (byte ∷ [])

unfoldable pub held-cell : ℕ → ℕ → Slot
held-cell order byte = slot 2 0 0 3 0 1 0 order 0 (byte ∷ [])

unfoldable pub ready-cell : ℕ → ℕ → ℕ → ℕ → Slot
ready-cell turn kind order byte = slot 3 0 0 kind 0 1 0 order turn (byte ∷ [])

-- The frame with sequence number n.
unfoldable pub numbered : ℕ → Frame → Frame
numbered n f = record {
  kind = f.kind;
  reliable = f.reliable;
  sequence = n;
  order = f.order;
  channel = f.channel;
  piece = f.piece;
  count = f.count;
  id = f.id;
  index = f.index;
  body = f.body;
}

-- A call on slots: a datagram's frames, a take with a joining buffer long enough, or request 4's drop with its n.
pub data SlotCall : Type 0 where
  receive : List Frame → SlotCall
  take : SlotCall
  drop_past : ℕ → SlotCall

-- What a call was told: messages made ready and frames dropped; a message; the cells that it freed; or a refusal's number.
pub data Told : Type 0 where
  gave : ℕ → ℕ → Told
  took : Message → Told
  gave_back : ℕ → Told
  refused : ℕ → Told

-- That, and the slots after the call.
pub record Seen : Type 0 where
  pub told : Told
  pub slots : List Slot

unfoldable pub saw : Told → List Slot → Seen
saw told slots = record { told = told; slots = slots }

unfoldable pub telling : State → SlotCall → Told
telling s (receive fs) = cond (datagram s fs).full (refused 8) (gave (datagram s fs).counts.ready (datagram s fs).counts.dropped)
telling s take = option (taking s.slots) (refused 20) (λ t. took t.message)
telling s (drop_past n) = gave_back (count_of (λ x. is_stale n x.cell) s.slots)

-- "A refusal returns its number and the state unchanged"
unfoldable pub state_after : State → SlotCall → State
state_after s (receive fs) = cond (datagram s fs).full s (end (datagram s fs))
state_after s take = option (taking s.slots) s (λ t. with_slots t.slots s)
state_after s (drop_past n) = with_slots (dropped n s.slots) s

unfoldable pub seeing : State → List SlotCall → List Seen
seeing s [] = []
seeing s (c ∷ cs) = saw (telling s c) (state_after s c).slots ∷ seeing (state_after s c) cs

-- Nothing accepted or remembered, every channel's next at c, and these slots, in a profile; in document 01's.
unfoldable pub state_as : Profile → ℕ → List Slot → State
state_as p c l = record { profile = p; accepted = λ n. false; next = λ d. c; newest = λ m. 0; slots = l }

unfoldable pub state_at : ℕ → List Slot → State
state_at c l = state_as Console c l

-- The calls of a list, from a receiver just made of n cells. `unfolding run` opens every definition that a run computes with.
unfoldable pub run : ℕ → List SlotCall → List Seen
unfolding slot open-cell held-cell ready-cell saw telling state_after seeing state_as state_at whole-frame piece-frame numbered msg every
    key_of age_of limits agree alike lacks_none below sound_cell sound lengths find any without only carries_reliable ordered sequenced
    is_at bump emit follow quiet hold append queue memory_of older noted bare.remember ready sequence deliver message keep assemble joined
    drop_in finish step feed new piece_of conflict is_piece_at has_id in_limits accept_reliable seen_before bears at of sits is_free is_open
    is_ready count_of join all_there message_of message_at piece_in clash mark mark_cell empty_cell empty_slot change map_if turn_to freed
    put_slot slot_of drop_one fill_up place made rise accept_in is_held go_on cascade remember_in fate fate_of follows roomy readied whole
    joins kept put_piece renew piece keep_in frame frames is_first is_before rank renumber sweep begin end grow with_age aged next_age
    grown renewed is_stale dropped datagram lower earliest taking drain_in drain cell_size cell_body slots_of cells_of laid store_of
run n cs = seeing (state_at 0 (replicate n empty_slot)) cs

-- The same in a profile.
unfoldable pub run_as : Profile → ℕ → List SlotCall → List Seen
run_as p n cs = seeing (state_as p 0 (replicate n empty_slot)) cs

-- From any slots, with every channel's next at c.
unfoldable pub run_from : ℕ → List Slot → List SlotCall → List Seen
run_from c l cs = seeing (state_at c l) cs

-- Are these slots' records sound, with every channel's next at c?
unfoldable pub sound_at : ℕ → List Slot → Bool
sound_at c l = sound (cells_of l) (λ d. c)
