-- What is written back of receive's copies is what document 01's receive leaves of a receiver.
--     numbered             the channels at any numbers, and the number joined
--     accepted-settled     the receiver of an accepted datagram
-- Assumes nothing.
use mathlib.Core.Path.{◌≡◌, refl, sym, ap, ◌∙◌}
use Prim.Native.Nat.{ℕ, ◌+◌, ◌<◌, ◌≤◌}
use native.Mathlib.Omega.{arith}
use mathlib.Core.Bool.{Bool, false}
use mathlib.Core.List.{◌++◌}
use lib.ListN.{length, drop}
use Rattle.base.specs.Limits.{numbers24, max_ord_chans, max_unsent, window_places}
use Rattle.base.specs.Numbers.{distance}
use Rattle.base.proofs.Ifs.{lt_yes}
use Rattle.ack.specs.Write.{ascending}
use Rattle.window.specs.declared.ReliableWindow.{ReliableWindow}
use Rattle.window.specs.Window.{Insertion, accepted, accept, insert_of}
use Rattle.window.proofs.Inserts.{insert-new}
use Rattle.receiver.specs.declared.Nexts.{Nexts}
use Rattle.receiver.specs.declared.RecvQueue.{RecvQueue}
use Rattle.receiver.specs.Parts.{next_at, newest_at}
use Rattle.receiver.specs.Queue.{unsent_of, insert_unsent}
use Rattle.receiver.specs.Receive.{channels_after, queue_after}
use Rattle.receiver.proofs.NextsSet.{newest-own, channels-back}
use Rattle.recv_unsent.specs.Unsent.{joined_by}
use Rattle.recv_unsent.proofs.Joined.{joined_by_lem}
use Rattle.recv_channel.specs.Advance.{with_channels, advanced_all}
use Rattle.recv_lent.specs.Settled.{next_pending, with_number}

-- ---- the parts of a receiver that has the number n
datagrams-after : (w : ReliableWindow) (n : ℕ) → n < numbers24 → accepted w n ≡ false → distance w.low n ≤ window_places
    → (insert_of w n).window ≡ accept w n
datagrams-after w n small fresh near = ap (λ (x : Insertion). x.window) (insert-new w n small fresh (omega arith))

channels-after : (q : RecvQueue) (ns : Nexts) → length q.channels ≡ max_ord_chans → length ns.channels ≡ max_ord_chans
    → advanced_all q ns ≡ with_channels q (channels_after (next_at ns) (newest_at ns) 0 q.channels) (newest_at ns max_ord_chans)
unfolding advanced_all
channels-after q ns long numbers = λ i. with_channels q (sym (channels-back ns numbers q.channels long) i) (sym (newest-own ns numbers) i)

unsent-after : (q : RecvQueue) (n : ℕ) (rising : Bool) → length q.unsent ≡ 1024 → q.pending < max_unsent → rising
    ≡ ascending (unsent_of q) → joined_by q.unsent q.pending n rising ≡ insert_unsent n (unsent_of q) ++ drop (q.pending + 1) q.unsent
unfolding unsent_of
unsent-after q n rising long room e = joined_by_lem q.unsent q.pending n (omega (arith, long)) rising room (λ t. sym e ∙ t)

pending-after : (k : ℕ) → k < max_unsent → next_pending k ≡ k + 1
unfolding next_pending
pending-after k room = sym (lt_yes _ _ _ _ _ room refl)

module _ (q : RecvQueue) (unsent : length q.unsent ≡ max_unsent) (n : ℕ) (small : n < numbers24) (fresh : accepted q.datagrams n ≡ false)
    (near : distance q.datagrams.low n ≤ window_places) (room : q.pending < max_unsent) (w : ReliableWindow) (rising : Bool)
    (e : rising ≡ ascending (unsent_of q)) where
  -- the channels' numbers are in the receiver
  abbrev advanced : (ℕ → ℕ) → (ℕ → ℕ) → RecvQueue
  advanced next newest = with_channels q (channels_after next newest 0 q.channels) (newest max_ord_chans)

  pub numbered : (next newest : ℕ → ℕ) → with_number (advanced next newest) w n rising ≡ queue_after q n w next newest
  unfolding with_number queue_after
  numbered next newest = λ i. record {
    datagrams = datagrams-after q.datagrams n small fresh near i;
    reliables = w;
    channels = channels_after next newest 0 q.channels;
    unsent = unsent-after q n rising unsent room e i;
    pending = pending-after q.pending room i;
    newest = newest max_ord_chans;
    profile = q.profile;
  }

module _ (q : RecvQueue) (channels : length q.channels ≡ max_ord_chans) (unsent : length q.unsent ≡ max_unsent) (n : ℕ)
    (small : n < numbers24) (fresh : accepted q.datagrams n ≡ false) (near : distance q.datagrams.low n ≤ window_places)
    (room : q.pending < max_unsent) (w : ReliableWindow) (ns : Nexts)
    (numbers : length ns.channels ≡ max_ord_chans) (rising : Bool) (e : rising ≡ ascending (unsent_of q)) where
  pub accepted-settled : with_number (advanced_all q ns) w n rising ≡ queue_after q n w (next_at ns) (newest_at ns)
  accepted-settled = ap (λ (z : RecvQueue). with_number z w n rising) (channels-after q ns channels numbers)
      ∙ numbered q unsent n small fresh near room w rising e (next_at ns) (newest_at ns)
