-- What a datagram's counts, nexts, memories, profile and rows mean: the working state of the receiver with cells.
use Rattle.std.specs.Prelude.{ℕ, Bool, List}
use Rattle.cells.specs.Datagram.{Work, Fate, late, early, due, newer, free}
use Rattle.rows.specs.declared.Row.{Row}
use Rattle.row_slots.specs.Slots.{slots_in}
use Rattle.receiver.specs.declared.Nexts.{Nexts}
use Rattle.receiver.specs.Parts.{next_at, newest_at}
use Rattle.recv_steps.specs.declared.Tally.{Tally}
use Rattle.recv_steps.specs.declared.Course.{Course}
use Rattle.recv_steps.specs.declared.Course.TheVariants.{Late, Early, Due, Newer, Free}

-- a tells the reliable numbers accepted; the bodies stand in the store, or in the datagram d
unfoldable pub work_of : (ℕ → Bool) → Tally → Nexts → List Row → List ℕ → List ℕ → Work
work_of a x ns rs store d =
    record {
      state =
          record { profile = ns.profile; accepted = a; next = next_at ns; newest = newest_at ns; slots = slots_in rs store d };
      counts = record { ready = x.ready; dropped = x.dropped };
      turn = x.turn;
      full = x.full;
    }

-- what the code found of a message in step 4
unfoldable pub fate_is : Course → Fate
fate_is Late = late
fate_is Early = early
fate_is Due = due
fate_is Newer = newer
fate_is Free = free
