-- Demand 3, one claim over every two lists of calls, each from a receiver just made.
use Rattle.std.specs.Prelude.{ℕ, ◌*◌, ◌^◌, ◌≤◌, ◌<◌, ◌≡◌, Bool, ◌&&◌, length}
use Rattle.std.proofs.Math.Option.{some}
use mathlib.Core.List.{List, ◌++◌, Memᴰ}
use Rattle.base.specs.Bytes.{Bytes}
use Rattle.base.specs.Limits.{max_cells, cell_bytes}
use Rattle.base.specs.Lists.{count_of}
use Rattle.reliability.specs.declared.Profile.{Profile}
use Rattle.bare.specs.Frame.{Frame, Piece, Message}
use Rattle.bare.specs.Unfinished.{new_dated, Event, after_events, frames_of}
use Rattle.bare.specs.Book.{Book}
use Rattle.bare.specs.Order.{line_for, line_of, Within, HasArrived, InOrder}
use Rattle.cells.specs.Cell.{is_open, piece_in}
use Rattle.cells.specs.Store.{slots_of}
use Rattle.receiver.specs.Receiver.{Receiver}
use Rattle.receiver.specs.Calls.{Call, receive, take_with, drop_unfinished, made, Outcome, outcome, after_all, handed_out}
use Rattle.receiver.specs.Calls.{done_by, still_out, drained, events_of, bare_answers}

-- a receiver just made: of either profile (request 2), 1 to 4,096 cells, over any store of one cell for each
pub record Start : Type 0 where
  pub profile : Profile
  pub cells : ℕ
  pub store : List ℕ
  pub some_cells : 1 ≤ cells
  pub most-cells : cells ≤ max_cells
  pub store_length : length store ≡ cell_bytes * cells

abbrev pub begun : Start → Receiver
begun s = made s.profile s.cells s.store

-- The claim's premise on a list of calls: its datagrams are bytes, "may hold anything" that bytes can, and "n has 32 bits" (request 4).
-- (The code is lent such alone, by their types.)
pub record Typed (cs : List Call) : Type 0 where
  pub bytes : (d : List ℕ) → Memᴰ (receive d) cs → Bytes d
  pub numbers : (n : ℕ) → Memᴰ (drop_unfinished n) cs → n < 2 ^ 32

-- What holds of one list, whose calls go by any outcome.
module _ (by : Receiver → Call → Outcome) (s : Start) (cs : List Call) where
  -- what the list told the bare receiver, and all frames of its accepted datagrams
  abbrev pub told_by : List Event
  told_by = events_of (done_by by (begun s) cs)

  abbrev pub read_by : List Frame
  read_by = frames_of told_by

  -- the receiver that the list leaves when all that is ready was taken, too
  abbrev pub left_by : Receiver
  left_by = drained by (after_all by (begun s) cs)

  pub record OneList : Type 0 where
    -- "book or no book, the bodies that a list's takes handed out, and would still hand out, are those in document 01's line for its
    -- accepted datagrams, in its order" (with kind, channel and order number)
    pub line : line_for s.profile told_by ≡ handed_out by (begun s) cs ++ still_out by (after_all by (begun s) cs)
    -- ".. would hand out until 20": the next take gets it, with whatever buffer
    pub until_20 : (buffer : List ℕ) → (by left_by (take_with buffer)).refusal ≡ some 20
    -- "An accepted datagram's counts of ready and dropped are those that its frames gave here." And at a drop the bare receiver drops as
    -- many pieces as cells were freed
    pub counts : done_by by (begun s) cs ≡ bare_answers (new_dated s.profile) (done_by by (begun s) cs)
    -- "document 01's bare receiver drops the same unfinished messages": after every list, so after every drop, the open pieces in the
    -- cells are the bare receiver's, as any test counts them
    pub unfinished : (p : Piece → Bool) → count_of p (after_events (new_dated s.profile) told_by).bare.pieces
        ≡ count_of (λ x. is_open x && p (piece_in x))
        (slots_of (after_all by (begun s) cs).records (after_all by (begun s) cs).store)

-- Two lists may differ in their profile: the ordered kinds are the same in both.
pub record Claim (s t : Start) (cs ds : List Call) : Type 1 where
  pub first : OneList outcome s cs
  pub second : OneList outcome t ds
  -- "If all frames of both lists' accepted datagrams stand in one sender's book, then .. each line has, per channel, exactly those before
  -- the first order number not arrived, in order, once each"
  pub ordered : (B : Frame → Type 0) → Book B → Within B (read_by outcome s cs) → Within B (read_by outcome t ds)
      → (c : ℕ) → InOrder s.profile B (told_by outcome s cs) c × InOrder t.profile B (told_by outcome t ds) c
  -- "and where all that arrived of a channel in the first list also arrived in the second, the first's begin the second's"
  pub begin : (B : Frame → Type 0) → Book B → Within B (read_by outcome s cs) → Within B (read_by outcome t ds) → (c : ℕ)
      → ((o : ℕ) → HasArrived B (read_by outcome s cs) c o → HasArrived B (read_by outcome t ds) c o)
      → (rest : List Message) × (line_of t.profile c (told_by outcome t ds) ≡ line_of s.profile c (told_by outcome s cs) ++ rest)
