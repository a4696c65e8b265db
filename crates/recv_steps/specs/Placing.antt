-- A frame that stands in a datagram, and its row.
use Rattle.std.specs.Prelude.{ℕ, ◌+◌, ◌<◌, ◌≤◌, ◌≡◌, true, cond, List, length}
use Rattle.base.specs.Limits.{numbers24, max_datagram}
use Rattle.frame.specs.declared.Placed.{Placed}
use Rattle.bare.specs.Frame.{in_limits}
use Rattle.rows.specs.declared.Row.{Row}
use Rattle.receiver.specs.Receive.{frame_in}

-- the row of a frame: a whole frame is its message's only piece, index 0 of count 1; the body's place is one more than where it starts
unfoldable pub row_for : Placed → ℕ → ℕ → Row
row_for p used turn =
    record {
      cell =
          record {
            used = used;
            kind = p.frame.kind;
            channel = p.frame.channel;
            id = p.frame.meta.id;
            index = cond p.frame.piece p.frame.meta.index 0;
            count = cond p.frame.piece p.frame.meta.count 1;
            length = p.len;
            sequence = p.frame.sequence;
            order = p.frame.order;
            turn = turn;
            age = 0;
          };
      place = p.start + 1;
    }

-- the frame stands whole in the datagram d
abbrev pub Stands : List ℕ → Placed → Type 0
Stands d p = p.start + p.len ≤ length d

-- what holds of each frame that was read from a datagram no longer than the limit
pub record ReadablePlaced (p : Placed) : Type 0 where
  pub within : p.start + p.len ≤ max_datagram
  pub reliable : p.frame.reliable < numbers24
  pub sequence : p.frame.sequence < numbers24

-- the frame is within step 2's limits, which do not look at its body
abbrev pub Limited : Placed → Type 0
Limited p = (d : List ℕ) → in_limits (frame_in d p) ≡ true
