-- Request 6: "Reading all frames written for a message and joining them yields its data." The frames come in any order, each from a
-- datagram of its own or several from one, to a bare receiver (document 01, "The line, the book and demand 3") for which the message is due
-- and new.
use Rattle.std.specs.Prelude.{ℕ, suc, ◌<◌, ◌≡◌, false, cond, List, ◌∷◌, ◌++◌, ltb, eqb, length, take}
use Rattle.std.specs.List.{AllZip, concat}
use mathlib.Core.List.{Memᴰ}
use Rattle.base.specs.Answer.{gives}
use Rattle.base.specs.Limits.{min_datagram}
use Rattle.base.specs.Lists.{any, count_of}
use Rattle.reliability.specs.declared.Profile.{Profile}
use Rattle.split.specs.Split.{count, piece_kind, write_piece_of, piece_written_of}
use Rattle.bare.specs.Frame.{Message}
use Rattle.bare.specs.Bare.{Bare, Fed, queue, has_id}
use Rattle.bare.specs.Unfinished.{Event, new_dated, after_events}

-- A message to be sent in pieces: what is handed to each call, the data as its body, and for each piece its reliable number.
pub record Outgoing : Type 0 where
  pub body : List ℕ
  pub mtu : ℕ
  pub id : ℕ
  pub channel : ℕ
  pub order : ℕ
  pub reliable : ℕ → ℕ

-- how many pieces it has
abbrev pub pieces_of : Outgoing → ℕ
pieces_of x = count (length x.body) x.mtu

-- the message that a receiver is to make ready
unfoldable pub message_sent : Outgoing → Message
message_sent x = record { kind = piece_kind; channel = x.channel; order = x.order; body = x.body }

-- a frame "written for a message": these bytes are what the call wrote for piece k at the beginning of some output
pub record WrittenFor (x : Outgoing) (k : ℕ) (bytes : List ℕ) : Type 0 where
  pub output : List ℕ
  pub answer : write_piece_of (length output) (length x.body) x.mtu x.id k x.channel x.order (x.reliable k) ≡ gives (length bytes)
  pub written : take (length bytes) (piece_written_of output x.body x.mtu x.id k x.channel x.order (x.reliable k)) ≡ bytes

-- a datagram of them: a head, whatever it says, and the frames written for pieces ks, one after another
pub record Carries (x : Outgoing) (ks d : List ℕ) : Type 0 where
  pub head : List ℕ
  pub frames : List (List ℕ)
  pub head_long : length head ≡ min_datagram
  pub all : AllZip (WrittenFor x) ks frames
  pub is : d ≡ head ++ concat frames

-- these datagrams carry the frames written for pieces ks, in this order: each has the next part of them, one frame, several or none
pub record Datagrams (x : Outgoing) (ks : List ℕ) (ds : List (List ℕ)) : Type 0 where
  pub parts : List (List ℕ)
  pub all : AllZip (Carries x) parts ds
  pub is : ks ≡ concat parts

-- "all frames", in any order: each number below n once, and no other
abbrev pub EachOnce : ℕ → List ℕ → Type 0
EachOnce n ks = (k : ℕ) → count_of (eqb k) ks ≡ cond (ltb k n) 1 0

-- a bare receiver that some events led to: datagrams whose frames were read, and calls of request 4
abbrev pub reached : Profile → List Event → Bare
reached p es = (after_events (new_dated p) es).bare

-- a bare receiver for which the message is due and new: its order number is the channel's next, no open piece has its id, and its reliable
-- numbers are not accepted
pub record DueAndNew (x : Outgoing) (b : Bare) : Type 0 where
  pub due : b.out.next x.channel ≡ x.order
  pub new_id : any (has_id x.id) b.pieces ≡ false
  pub new_numbers : (k : ℕ) → k < pieces_of x → b.accepted (x.reliable k) ≡ false

-- no two pieces have one reliable number: step 1 would drop the second
abbrev pub OneForEach : Outgoing → Type 0
OneForEach x = (j k : ℕ) → j < pieces_of x → k < pieces_of x → x.reliable j ≡ x.reliable k → j ≡ k

-- "joining them yields its data": the line goes on with the message, the only one of its channel and order number, and then as `queue` has
-- it: what follows was held, on its channel and above it. No frame is dropped, and the id is closed.
pub record MadeReady (x : Outgoing) (b : Bare) (a : Fed) : Type 0 where
  -- step 4 goes on as after one whole frame of the message
  pub as_whole : a.after.out ≡ (queue (message_sent x) b.out).after
  pub followers : List Message
  pub line : a.after.out.line ≡ b.out.line ++ (message_sent x ∷ followers)
  pub held_before : (m : Message) → Memᴰ m followers → Memᴰ m b.out.held
  pub later : (m : Message) → Memᴰ m followers → (m.channel ≡ x.channel) × (x.order < m.order)
  pub ready : a.ready ≡ suc (length followers)
  pub none_dropped : a.dropped ≡ 0
  pub closed : a.after.pieces ≡ b.pieces
