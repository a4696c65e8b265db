-- What a receiver is once receive has worked on copies of its reliable window and nexts, and its answer is known.
use Rattle.std.specs.Prelude.{ℕ, ◌+◌, Bool}
use Rattle.base.specs.Answer.{Answer, refused, gives}
use Rattle.base.specs.If.{if_lt}
use Rattle.base.specs.Limits.{max_unsent}
use Rattle.window.specs.declared.ReliableWindow.{ReliableWindow}
use Rattle.window.specs.Window.{insert_of}
use Rattle.receiver.specs.declared.Nexts.{Nexts}
use Rattle.receiver.specs.declared.RecvQueue.{RecvQueue}
use Rattle.recv_unsent.specs.Unsent.{joined_by}
use Rattle.recv_channel.specs.Advance.{advanced_all}

-- one more unsent number, up to 1,024
unfoldable pub next_pending : ℕ → ℕ
next_pending k = if_lt k max_unsent (k + 1) k

-- the reliable numbers' window is w, and the number joins the accepted and the unsent
unfoldable pub with_number : RecvQueue → ReliableWindow → ℕ → Bool → RecvQueue
with_number q w n ascending =
    record {
      datagrams = (insert_of q.datagrams n).window;
      reliables = w;
      channels = q.channels;
      unsent = joined_by q.unsent q.pending n ascending;
      pending = next_pending q.pending;
      newest = q.newest;
      profile = q.profile;
    }

-- a refusal leaves the receiver as it was; else what the core left of window and nexts is the receiver's
unfoldable pub settled_of : {A : Type 0} → RecvQueue → Answer A → ReliableWindow → Nexts → Bool → ℕ → RecvQueue
settled_of q (refused number) w ns rising n = q
settled_of q (gives x) w ns rising n = with_number (advanced_all q ns) w n rising
