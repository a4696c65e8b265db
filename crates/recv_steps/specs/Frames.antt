-- All frames of a datagram put through the four steps.
use Rattle.std.specs.Prelude.{ℕ, ◌≤◌, ◌≡◌, false, cond, List, length, Result, Ok, Err}
use Rattle.std.proofs.Math.Option.{none, some}
use Rattle.base.specs.declared.refusal.Refusal.{Refusal}
use Rattle.base.specs.declared.refusal.Refusal.TheVariants.{ReliableBeyond}
use Rattle.base.specs.Limits.{max_ord_chans, max_cells, max_datagram}
use Rattle.window.specs.declared.ReliableWindow.{ReliableWindow}
use Rattle.window.specs.Window.{accepted, Insertion, give, insert_of}
use Rattle.frame.specs.declared.Placed.{Placed}
use Rattle.bare.specs.Frame.{carries_reliable}
use Rattle.cells.specs.Datagram.{frames}
use Rattle.cells.proofs.SoundCascade.{Sound}
use Rattle.rows.specs.declared.Row.{Row}
use Rattle.row_slots.specs.Slots.{slots_in, AllFit}
use Rattle.receiver.specs.declared.Nexts.{Nexts}
use Rattle.receiver.specs.Parts.{next_at}
use Rattle.receiver.specs.Receive.{frames_in, accept_all, bytes_left}
use Rattle.recv_steps.specs.declared.Tally.{Tally}
use Rattle.recv_steps.specs.declared.Framed.{Framed}
use Rattle.recv_steps.specs.Work.{work_of}

-- a frame's reliable number inserted; a frame without one leaves the window as it is
unfoldable pub number_in : ReliableWindow → Placed → Insertion
number_in w p = cond (carries_reliable p.frame.kind) (insert_of w p.frame.reliable) (give w)

-- What holds when a datagram's frames begin: no refusal before 7 applies.
pub record Begun (w : ReliableWindow) (ns : Nexts) (rs : List Row) (turn : ℕ) (d : List ℕ) : Type 0 where
  pub short : length d ≤ max_datagram
  pub few : length rs ≤ max_cells
  pub nexts : length ns.channels ≡ max_ord_chans
  pub sound : (store : List ℕ) → Sound (next_at ns) (slots_in rs store d) turn
  pub fits : AllFit d rs
  pub first : turn ≤ max_cells

-- the counts that they begin with
abbrev pub begun_tally : ℕ → Tally
begun_tally turn = record { turn = turn; ready = 0; dropped = 0; full = false }

-- What holds when they are done: the working state is that of the definition, so is the window of reliable numbers, there is a next for
-- each channel, and the profile stays.
pub record Passes (w : ReliableWindow) (ns : Nexts) (rs : List Row) (turn : ℕ) (d : List ℕ) (y : Tally) (left : ℕ)
    (w' : ReliableWindow) (ns' : Nexts) (rs' : List Row) : Type 0 where
  pub is : (store : List ℕ) → work_of (accepted w') y ns' rs' store d
      ≡ frames (work_of (accepted w) (begun_tally turn) ns rs store d) (frames_in ns.profile d)
  pub fits : AllFit d rs'
  pub reaches : accept_all w (frames_in ns.profile d) ≡ some w'
  pub end : left ≡ bytes_left ns.profile d
  pub nexts : length ns'.channels ≡ max_ord_chans
  pub profile : ns'.profile ≡ ns.profile

-- what the frames come to, with the window, the nexts and the rows afterwards: 7 where a number is beyond reach
unfoldable pub Ran : ReliableWindow → Nexts → List Row → ℕ → List ℕ → Result Framed Refusal → ReliableWindow → Nexts → List Row → Type 0
Ran w ns rs turn d (Err r) w' ns' rs' = (r ≡ ReliableBeyond)
    × (accept_all w (frames_in ns.profile d) ≡ none)
Ran w ns rs turn d (Ok f) w' ns' rs' = Passes w ns rs turn d f.counts f.left w' ns' rs'
