-- Receive: document 01, "Calls and their numbers". The definition goes over the receiver, the records, the store and the datagram's bytes.
use Rattle.std.specs.Prelude.{ℕ, ◌+◌, ◌-◌, Bool, cond, ◌&&◌, List, [], ◌∷◌, ◌++◌, map, ltb, leb, length, get_or, drop}
use Rattle.std.proofs.Math.Option.{Option, none, some}
use Rattle.base.specs.Answer.{Answer, refused, gives}
use Rattle.base.specs.If.{if_true, if_lt, if_le}
use Rattle.base.specs.Limits.{min_datagram, max_datagram, max_ord_chans, max_unsent, window_places}
use Rattle.base.specs.Bytes.{le24}
use Rattle.base.specs.Lists.{option}
use Rattle.window.specs.declared.ReliableWindow.{ReliableWindow}
use Rattle.window.specs.Window.{accepted, accept}
use Rattle.base.specs.Numbers.{distance}
use Rattle.reliability.specs.declared.Profile.{Profile}
use Rattle.frame.specs.declared.Placed.{Placed}
use Rattle.frame.specs.Read.{body_of}
use Rattle.frame.specs.Frames.{frames_of, end_of}
use Rattle.bare.specs.Frame.{Frame, carries_reliable}
use Rattle.cells.specs.Cell.{Cell}
use Rattle.cells.specs.Datagram.{State, Work, datagram, end}
use Rattle.cells.specs.Sound.{sound_cells, lengths}
use Rattle.cells.specs.Store.{slots_of, cells_of, store_of}
use Rattle.receiver.specs.declared.Channel.{Channel}
use Rattle.receiver.specs.declared.RecvQueue.{RecvQueue}
use Rattle.receiver.specs.Queue.{next_of, newest_of, profile_in, unsent_of, sound_queue, insert_unsent}

-- "Datagram: id 80 to 8D (written 84), number in 24 bits little-endian, frames."
abbrev pub is_datagram : ℕ → Bool
is_datagram b = leb 0x80 b && leb b 0x8D

abbrev pub datagram_number : List ℕ → ℕ
datagram_number d = le24 d 1

-- a frame that stands in d, with its body
unfoldable pub frame_in : List ℕ → Placed → Frame
frame_in d p =
    record {
      kind = p.frame.kind;
      reliable = p.frame.reliable;
      sequence = p.frame.sequence;
      order = p.frame.order;
      channel = p.frame.channel;
      piece = p.frame.piece;
      count = p.frame.meta.count;
      id = p.frame.meta.id;
      index = p.frame.meta.index;
      body = body_of d p;
    }

-- the frames read from a datagram under a profile, in order, and its bytes left
unfoldable pub frames_in : Profile → List ℕ → List Frame
frames_in p d = map (frame_in d) (frames_of p d min_datagram)

unfoldable pub bytes_left : Profile → List ℕ → ℕ
bytes_left p d = length d - end_of p d min_datagram

-- the reliable numbers of the frames accepted in order; none where one, "at its frame's turn, [is] above low + 2,048"
unfoldable pub accept_all : ReliableWindow → List Frame → Option ReliableWindow
accept_all w [] = some w
accept_all w (f ∷ fs) =
    let skip = accept_all w fs in
    let more = accept_all (accept w f.reliable) fs in
    cond (carries_reliable f.kind)
    (cond (accepted w f.reliable) skip
    (cond (ltb window_places (distance w.low f.reliable)) none more))
    skip

-- what the four steps work on
unfoldable pub state_of : RecvQueue → List Cell → List ℕ → State
state_of q rs st = record {
  profile = profile_in q;
  accepted = accepted q.reliables;
  next = next_of q;
  newest = newest_of q;
  slots = slots_of rs st;
}

-- "The answer reports messages made ready, frames dropped .. and bytes left."
pub record Report : Type 0 where
  pub ready : ℕ
  pub dropped : ℕ
  pub left : ℕ

-- the answer, and what the call leaves of receiver, records and store
pub record Received : Type 0 where
  pub answer : Answer Report
  pub queue : RecvQueue
  pub records : List Cell
  pub store : List ℕ

-- each channel's next and memory after the datagram
unfoldable pub channels_after : (ℕ → ℕ) → (ℕ → ℕ) → ℕ → List Channel → List Channel
channels_after next newest c [] = []
channels_after next newest c (x ∷ xs) = record { next = next c; newest = newest c } ∷ channels_after next newest (1 + c) xs

-- an accepted datagram: its number joins the accepted and the unsent
unfoldable pub queue_after : RecvQueue → ℕ → ReliableWindow → (ℕ → ℕ) → (ℕ → ℕ) → RecvQueue
queue_after q n reliables next newest =
    record {
      datagrams = accept q.datagrams n;
      reliables = reliables;
      channels = channels_after next newest 0 q.channels;
      unsent = insert_unsent n (unsent_of q) ++ drop (q.pending + 1) q.unsent;
      pending = q.pending + 1;
      newest = newest max_ord_chans;
      profile = q.profile;
    }

unfoldable pub accepted_result : RecvQueue → List ℕ → List ℕ → ReliableWindow → Work → Received
accepted_result q st d reliables w =
    record {
      answer = gives (record { ready = w.counts.ready; dropped = w.counts.dropped; left = bytes_left (profile_in q) d });
      queue = queue_after q (datagram_number d) reliables w.state.next w.state.newest;
      records = cells_of (end w).slots;
      store = store_of st w.state.slots;
    }

unfoldable pub refused_result : RecvQueue → List Cell → List ℕ → ℕ → Received
refused_result q rs st number = record { answer = refused number; queue = q; records = rs; store = st }

-- "9 slice lengths .. or records unsound": the tests that come first
unfoldable pub sound_call : RecvQueue → List Cell → List ℕ → Bool
sound_call q rs st = lengths (length rs) (length st) && (sound_queue q && sound_cells rs (next_of q))

-- "Receive. 9 ..; 1 below 4 bytes; 2 above 1,500; 3 first byte; 4 number accepted before; 5 number above low + 2,048; 6 acknowledgements
-- full; 7 a reliable number ..; 8 cells in use before plus bodies not dropped as frames exceed all cells"
unfoldable pub receive_of : RecvQueue → List Cell → List ℕ → List ℕ → Received
receive_of q rs st d =
    let refuse = refused_result q rs st in
    let w = datagram (state_of q rs st) (frames_in (profile_in q) d) in
    if_true (sound_call q rs st)
    (if_lt (length d) min_datagram (refuse 1)
    (if_lt max_datagram (length d) (refuse 2)
    (if_true (is_datagram (get_or d 0 0))
    (if_true (accepted q.datagrams (datagram_number d)) (refuse 4)
    (if_lt window_places (distance q.datagrams.low (datagram_number d)) (refuse 5)
    (if_le max_unsent q.pending (refuse 6)
    (option (accept_all q.reliables (frames_in (profile_in q) d)) (refuse 7)
    (λ reliables. if_true w.full (refuse 8) (accepted_result q st d reliables w))))))
    (refuse 3))))
    (refuse 9)
