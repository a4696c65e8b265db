-- What the two writings answer and leave.
use Rattle.std.specs.Prelude.{ℕ, ◌≤◌, ◌≡◌, true, false, List, length, Result}
use Rattle.base.specs.Answer.{Answer, refused, gives}
use Rattle.base.specs.declared.refusal.Refusal.{Refusal}
use Rattle.base.specs.Refusals.{answer}
use Rattle.base.specs.Limits.{max_list}
use Rattle.ack.specs.Write.{some_over, ascending}
use Rattle.receiver.specs.declared.RecvQueue.{RecvQueue}
use Rattle.receiver.specs.Write as Write

-- the answer, and what the call leaves of receiver and output
abbrev pub wrote : Result ℕ Refusal → RecvQueue → List ℕ → Write.Wrote
wrote r q out = record { answer = answer r; queue = q; out = out }

-- a list that neither 13 ("list too long or number of 2^24 or more") nor 14 ("not strictly ascending") refuses
pub record Sendable (l : List ℕ) : Type 0 where
  pub within : length l ≤ max_list
  pub below : some_over l ≡ false
  pub ordered : ascending l ≡ true

-- the receiver with another count of unsent numbers
abbrev pub with_pending : RecvQueue → ℕ → RecvQueue
with_pending q k =
    record {
      datagrams = q.datagrams;
      reliables = q.reliables;
      channels = q.channels;
      unsent = q.unsent;
      pending = k;
      newest = q.newest;
      profile = q.profile;
    }

-- "Sending the unsent empties them": how many are left of k
abbrev pub pending_after : Answer ℕ → ℕ → ℕ
pending_after (gives n) k = 0
pending_after (refused n) k = k
