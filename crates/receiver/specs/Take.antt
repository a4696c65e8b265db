-- Take: document 01, "Take, earliest ready first. 9; 20 none ready; 12 joining buffer shorter than a message of several pieces. A taken
-- message frees its cells."
use Rattle.std.specs.Prelude.{ℕ, ◌*◌, cond, List, eqb, length}
use Rattle.base.specs.Answer.{Answer, refused, gives}
use Rattle.base.specs.If.{if_true, if_lt}
use Rattle.base.specs.Limits.{cell_bytes}
use Rattle.base.specs.Lists.{option, find}
use Rattle.base.specs.Put.{put}
use Rattle.bare.specs.Frame.{Message}
use Rattle.cells.specs.Cell.{Cell, ready_as, at, message_at, freed}
use Rattle.cells.specs.Records.{index_of}
use Rattle.cells.specs.Take.{earliest}
use Rattle.cells.specs.Store.{slots_of, cells_of}
use Rattle.receiver.specs.declared.RecvQueue.{RecvQueue}
use Rattle.receiver.specs.Receive.{sound_call}

-- "handed back as part of the store or of the joining buffer": where the message's bytes stand
pub data Where : Type 0 where
  in_store : ℕ → ℕ → Where
  in_joined : ℕ → Where

-- "Where a take also tells kind, channel or order number"
pub record Handed : Type 0 where
  pub kind : ℕ
  pub channel : ℕ
  pub order : ℕ
  pub body : Where

-- the answer, and what the call leaves of records and joining buffer
pub record TakeResult : Type 0 where
  pub answer : Answer Handed
  pub records : List Cell
  pub joined : List ℕ

abbrev pub take_refuses : List Cell → List ℕ → ℕ → TakeResult
take_refuses rs buffer number = record { answer = refused number; records = rs; joined = buffer }

abbrev pub take_gives : Message → Where → List Cell → List ℕ → TakeResult
take_gives m body left buffer = record {
  answer = gives (record { kind = m.kind; channel = m.channel; order = m.order; body = body });
  records = left;
  joined = buffer;
}

-- the message m of turn t, whose first record is given: of one body, which stays in its cell; or of several, joined in the buffer
unfoldable pub handed : List Cell → List ℕ → List ℕ → ℕ → Message → Cell → TakeResult
handed rs st buffer t m first =
    let left = cells_of (freed (ready_as t) (slots_of rs st)) in
    cond (eqb first.count 1)
    (take_gives m (in_store (index_of (at (ready_as t) 0) rs * cell_bytes) first.length) left buffer)
    (if_lt (length buffer) (length m.body) (take_refuses rs buffer 12)
    (take_gives m (in_joined (length m.body)) left (put buffer 0 m.body)))

unfoldable pub take_of : RecvQueue → List Cell → List ℕ → List ℕ → TakeResult
take_of q rs st buffer =
    if_true (sound_call q rs st)
    (option (earliest (slots_of rs st)) (take_refuses rs buffer 20)
    (λ t. option (message_at (ready_as t) (slots_of rs st)) (take_refuses rs buffer 20)
    (λ m. option (find (at (ready_as t) 0) rs) (take_refuses rs buffer 20) (λ first. handed rs st buffer t m first))))
    (take_refuses rs buffer 9)
