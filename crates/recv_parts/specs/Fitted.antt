-- A receiver whose arrays may have any length, with arrays as long as the type's.
use Rattle.std.specs.Prelude.{ℕ, List, length, min, replicate}
use Rattle.base.specs.If.{if_le}
use Rattle.base.specs.Limits.{max_unsent}
use Rattle.base.specs.Put.{put}
use Rattle.window.specs.declared.ReliableWindow.{ReliableWindow}
use Rattle.window.specs.Window.{window_of}
use Rattle.receiver.specs.declared.RecvQueue.{RecvQueue}

-- the first n of these numbers; zeros where they are fewer
unfoldable pub sized : ℕ → List ℕ → List ℕ
sized n l = put (replicate n 0) 0 l

unfoldable pub sized_window : ReliableWindow → ReliableWindow
sized_window w = window_of w.low (sized 256 w.bits)

-- how many numbers are unsent of n that there are; a count over the limit, which is not sound, stays
unfoldable pub sized_pending : ℕ → ℕ → ℕ
sized_pending k n = if_le k max_unsent (min n k) k

unfoldable pub fitted : RecvQueue → RecvQueue
fitted q =
    record {
      datagrams = sized_window q.datagrams;
      reliables = sized_window q.reliables;
      channels = q.channels;
      unsent = sized max_unsent q.unsent;
      pending = sized_pending q.pending (length q.unsent);
      newest = q.newest;
      profile = q.profile;
    }
