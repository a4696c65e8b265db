-- What a function over counts, nexts and rows does to the working state, whatever the store's bytes.
use Rattle.std.specs.Prelude.{ℕ, ◌+◌, ◌≤◌, ◌≡◌, Bool, false, cond, List, length, eqb}
use Rattle.base.specs.Limits.{max_cells}
use Rattle.base.specs.Lists.{any}
use Rattle.frame.specs.declared.Placed.{Placed}
use Rattle.bare.specs.Frame.{Frame, in_limits}
use Rattle.cells.specs.Cell.{Slot, open_as, all_there, clash, turn_to, ready_use}
use Rattle.cells.specs.Datagram.{Work, Fate, fate_of, drop_one, made, keep_in}
use Rattle.cells.proofs.SoundCascade.{Sound}
use Rattle.receiver.specs.declared.Nexts.{Nexts}
use Rattle.receiver.specs.Parts.{next_at}
use Rattle.receiver.specs.Receive.{frame_in}
use Rattle.rows.specs.declared.Row.{Row}
use Rattle.row_slots.specs.Slots.{slots_in, AllFit}
use Rattle.recv_steps.specs.declared.Tally.{Tally}
use Rattle.recv_steps.specs.Work.{work_of}
use Rattle.recv_steps.specs.CountChanges.{CanCount, Rises}

-- the rows rs become rs': their slots are changed by g, and they still fit
pub record Changes (d : List ℕ) (g : List Slot → List Slot) (rs rs' : List Row) : Type 0 where
  pub is : (store : List ℕ) → slots_in rs' store d ≡ g (slots_in rs store d)
  pub fits : AllFit d rs → AllFit d rs'

-- x, ns and rs become y, ns' and rs': the working state is changed by g, whatever numbers were accepted, the rows still fit, the
-- channels are as many, and the profile stays
pub record Moves (d : List ℕ) (g : Work → Work) (x : Tally) (ns : Nexts) (rs : List Row) (y : Tally) (ns' : Nexts) (rs' : List Row)
    : Type 0 where
  pub is : (a : ℕ → Bool) (store : List ℕ) → work_of a y ns' rs' store d ≡ g (work_of a x ns rs store d)
  pub fits : AllFit d rs → AllFit d rs'
  pub long : length ns'.channels ≡ length ns.channels
  pub profile : ns'.profile ≡ ns.profile

-- what steps 2 to 4 ask of the rows rs, the nexts ns and the counts x: not more rows than cells, and no number wraps, even if all held
-- messages follow
pub record MayStep (rs : List Row) (ns : Nexts) (x : Tally) : Type 0 where
  pub few : length rs ≤ max_cells
  pub counts : CanCount (max_cells + 2) x
  pub nexts : Rises (max_cells + 1) ns

-- a piece's message has all indices exactly if n is the count that the piece says
abbrev pub Counted : List ℕ → Placed → ℕ → List Row → Type 0
Counted d p n rs =
    (store : List ℕ) → all_there (open_as p.frame.meta.id) (slots_in rs store d) p.frame.meta.count ≡ eqb n p.frame.meta.count

-- the slots are sound, with the nexts and the turn of the next message made ready
abbrev pub Sane : List ℕ → Tally → Nexts → List Row → Type 0
Sane d x ns rs = (store : List ℕ) → Sound (next_at ns) (slots_in rs store d) x.turn

-- the frame may be kept beside the open pieces
abbrev pub Beside : List ℕ → Placed → List Row → Type 0
Beside d p rs = (store : List ℕ) → any (clash (frame_in d p)) (slots_in rs store d) ≡ false

-- an open message's slots become a ready one's
unfoldable pub turn_ready : ℕ → Work → Work
turn_ready id w = made (turn_to (open_as id) ready_use w.turn w.state.slots) w

-- what is done by what step 4 found
unfoldable pub by_fate : (Fate → Frame → Work → Work) → Frame → Work → Work
by_fate g f w = g (fate_of f w) f w

-- steps 2 to 4
unfoldable pub limited : Frame → Work → Work
limited f w = cond (in_limits f) (keep_in f w) (drop_one w)
