-- Changes of counts and nexts alone: a frame dropped, room run out, a message made ready, a channel's next raised.
use Rattle.std.specs.Prelude.{ℕ, ◌+◌, ◌^◌, ◌<◌, ◌≡◌, true, length}
use Rattle.base.specs.Limits.{max_ord_chans}
use Rattle.receiver.specs.declared.Nexts.{Nexts}
use Rattle.receiver.specs.Parts.{next_at, with_next}
use Rattle.recv_steps.specs.declared.Tally.{Tally}

unfoldable pub dropped_one : Tally → Tally
dropped_one x = record { turn = x.turn; ready = x.ready; dropped = x.dropped + 1; full = x.full }

unfoldable pub filled_up : Tally → Tally
filled_up x = record { turn = x.turn; ready = x.ready; dropped = x.dropped; full = true }

unfoldable pub made_one : Tally → Tally
made_one x = record { turn = x.turn + 1; ready = x.ready + 1; dropped = x.dropped; full = x.full }

abbrev pub risen : ℕ → Nexts → Nexts
risen c ns = with_next c (next_at ns c + 1) ns

-- n more messages can be made ready or dropped, and no number wraps
pub record CanCount (n : ℕ) (x : Tally) : Type 0 where
  pub turn : x.turn + n < 2 ^ 32
  pub ready : x.ready + n < 2 ^ 32
  pub dropped : x.dropped + n < 2 ^ 32

-- there is a next for each channel, and each can rise by n
pub record Rises (n : ℕ) (ns : Nexts) : Type 0 where
  pub long : length ns.channels ≡ max_ord_chans
  pub next : (c : ℕ) → next_at ns c + n < 2 ^ 32
