-- The ways through receive and take: what holds of each refusal and of what is given holds of the answer.
-- Assumes nothing.
use Prim.Native.Nat.{ℕ, ◌≤◌, ◌<◌}
use mathlib.Core.Path.{◌≡◌, refl}
use mathlib.Core.Bool.{Bool, true, false}
use mathlib.Core.Option.{some}
use mathlib.Core.List.{List}
use lib.ListN.{length, get_or}
use lib.Dec.{ltb, leb}
use borrow.Author.Tests.{ltb-true, ltb-false, leb-true, leb-false}
use Rattle.base.specs.If.{if_true, if_lt, if_le}
use Rattle.base.specs.Limits.{min_datagram, max_datagram, max_unsent, window_places}
use Rattle.base.specs.Lists.{find}
use Rattle.base.proofs.Choices.{by_option}
use Rattle.window.specs.declared.ReliableWindow.{ReliableWindow}
use Rattle.window.specs.Window.{accepted}
use Rattle.base.specs.Numbers.{distance}
use Rattle.bare.specs.Frame.{Message}
use Rattle.cells.specs.Cell.{Cell, ready_as, at, message_at}
use Rattle.cells.specs.Datagram.{datagram}
use Rattle.cells.specs.Store.{slots_of}
use Rattle.cells.specs.Take.{earliest}
use Rattle.receiver.specs.declared.RecvQueue.{RecvQueue}
use Rattle.receiver.specs.Queue.{profile_in}
use Rattle.receiver.specs.Receive.{Received, datagram_number, is_datagram, frames_in, accept_all, state_of, accepted_result, refused_result}
use Rattle.receiver.specs.Receive.{sound_call, receive_of}
use Rattle.receiver.specs.Take.{TakeResult, take_refuses, handed, take_of}

module _ {A : Type 0} (P : A → Type 0) {x y : A} where
  pub by-true : (b : Bool) → (b ≡ true → P x) → (b ≡ false → P y) → P (if_true b x y)
  unfolding if_true
  by-true true f g = f refl
  by-true false f g = g refl

  pub by-lt : (a b : ℕ) → (a < b → P x) → (b ≤ a → P y) → P (if_lt a b x y)
  unfolding if_lt
  by-lt a b f g = by-true (ltb a b) (λ t. f (ltb-true a b t)) (λ t. g (ltb-false a b t))

  pub by_le : (a b : ℕ) → (a ≤ b → P x) → (b < a → P y) → P (if_le a b x y)
  unfolding if_le
  by_le a b f g = by-true (leb a b) (λ t. f (leb-true a b t)) (λ t. g (leb-false a b t))

-- What is known where a datagram is accepted.
pub record Accepted (q : RecvQueue) (rs : List Cell) (st d : List ℕ) : Type 0 where
  pub sound : sound_call q rs st ≡ true
  pub long : min_datagram ≤ length d
  pub short : length d ≤ max_datagram
  pub fresh : accepted q.datagrams (datagram_number d) ≡ false
  pub near : distance q.datagrams.low (datagram_number d) ≤ window_places
  pub room : q.pending < max_unsent
  pub reliables : ReliableWindow
  pub accepts : accept_all q.reliables (frames_in (profile_in q) d) ≡ some reliables
  pub fits : (datagram (state_of q rs st) (frames_in (profile_in q) d)).full ≡ false

-- A receive refuses and changes nothing, or is accepted.
pub receive-ways : (q : RecvQueue) (rs : List Cell) (st d : List ℕ) (P : Received → Type 0)
    → ((number : ℕ) → P (refused_result q rs st number))
    → ((a : Accepted q rs st d) → P (accepted_result q st d a.reliables (datagram (state_of q rs st) (frames_in (profile_in q) d))))
    → P (receive_of q rs st d)
unfolding receive_of
receive-ways q rs st d P bad good =
    by-true P (sound_call q rs st)
    (λ s. by-lt P (length d) min_datagram (λ l. bad 1)
    (λ l. by-lt P max_datagram (length d) (λ m. bad 2)
    (λ m. by-true P (is_datagram (get_or d 0 0))
    (λ i. by-true P (accepted q.datagrams (datagram_number d)) (λ o. bad 4)
    (λ o. by-lt P window_places (distance q.datagrams.low (datagram_number d)) (λ b. bad 5)
    (λ b. by_le P max_unsent q.pending (λ u. bad 6)
    (λ u. by_option P (accept_all q.reliables (frames_in (profile_in q) d)) (λ e. bad 7)
    (λ v e. by-true P (datagram (state_of q rs st) (frames_in (profile_in q) d)).full (λ f. bad 8)
    (λ f. good (record { sound = s; long = l; short = m; fresh = o; near = b; room = u; reliables = v; accepts = e; fits = f })))))))
    (λ i. bad 3))))
    (λ s. bad 9)

-- What is known where a take hands out a message.
pub record Found (rs : List Cell) (st : List ℕ) : Type 0 where
  pub turn : ℕ
  pub message : Message
  pub first : Cell
  pub earliest-is : earliest (slots_of rs st) ≡ some turn
  pub message-is : message_at (ready_as turn) (slots_of rs st) ≡ some message
  pub first-is : find (at (ready_as turn) 0) rs ≡ some first

-- A take refuses and changes nothing, or finds a message.
pub take-ways : (q : RecvQueue) (rs : List Cell) (st buffer : List ℕ) (P : TakeResult → Type 0)
    → ((number : ℕ) → P (take_refuses rs buffer number))
    → ((f : Found rs st) → P (handed rs st buffer f.turn f.message f.first)) → P (take_of q rs st buffer)
unfolding take_of
take-ways q rs st buffer P bad good =
    by-true P (sound_call q rs st)
    (λ s. by_option P (earliest (slots_of rs st)) (λ e. bad _)
    (λ t e. by_option P (message_at (ready_as t) (slots_of rs st)) (λ f. bad _)
    (λ m f. by_option P (find (at (ready_as t) 0) rs) (λ g. bad _)
    (λ c g. good (record { turn = t; message = m; first = c; earliest-is = e; message-is = f; first-is = g })))))
    (λ s. bad _)
