-- The line with sequence numbers: what request 1 comes to over all that was read. (The line's own messages do not carry the number.)
use Rattle.std.specs.Prelude.{ℕ, suc, ◌≤◌, Bool, ◌&&◌, List, [], ◌∷◌, ◌++◌, map, eqb, length, drop}
use Rattle.base.specs.Lists.{only}
use Rattle.reliability.specs.declared.Profile.{Profile}
use Rattle.bare.specs.Frame.{Frame, Message, sequenced}
use Rattle.bare.specs.Bare.{Bare, step}
use Rattle.bare.specs.Unfinished.{Dated, new_dated, receive_dated, drop_stale, Event, datagram, drop_past}

-- a message of the line, with the sequence number of the frame that put it there
pub record NumberedMessage : Type 0 where
  pub sequence : ℕ
  pub message : Message

unfoldable pub numbered_as : ℕ → Message → NumberedMessage
numbered_as n m = record { sequence = n; message = m }

-- the messages that a frame put at the end of the line: one of a sequenced kind puts at most the one that it completed
unfoldable pub put_by : Bare → Frame → List Message
put_by b f = drop (length b.out.line) (step b f).after.out.line

-- what a datagram's frames put at the end of the line, each message with the sequence number of the frame that put it there
unfoldable pub numbered_by : Bare → List Frame → List NumberedMessage
numbered_by b [] = []
numbered_by b (f ∷ fs) = map (numbered_as f.sequence) (put_by b f) ++ numbered_by (step b f).after fs

-- the same of all that a list told the bare receiver
unfoldable pub numbered_from : Dated → List Event → List NumberedMessage
numbered_from d [] = []
numbered_from d (datagram fs ∷ es) = numbered_by d.bare fs ++ numbered_from (receive_dated fs d) es
numbered_from d (drop_past n ∷ es) = numbered_from (drop_stale n d) es

unfoldable pub numbered_line : Profile → List Event → List NumberedMessage
numbered_line p es = numbered_from (new_dated p) es

-- the sequence numbers of the messages that pass, in the line's order
unfoldable pub sequences_of : (Message → Bool) → List NumberedMessage → List ℕ
sequences_of p l = map (λ (x : NumberedMessage). x.sequence) (only (λ (x : NumberedMessage). p x.message) l)

-- the messages of kind 1 on channel c; those of kind 4, which have a memory of their own in the console profile; and the sequenced ones on
-- channel c, kinds 1 and 4, which share its memory in the C++ profile
unfoldable pub kind1_on : ℕ → Message → Bool
kind1_on c m = eqb m.kind 1 && eqb m.channel c

unfoldable pub kind4 : Message → Bool
kind4 m = eqb m.kind 4

unfoldable pub sequenced_on : ℕ → Message → Bool
sequenced_on c m = sequenced m.kind && eqb m.channel c

-- each number is at least k, and each is greater than the one before it
abbrev pub RisesFrom : ℕ → List ℕ → Type 0
RisesFrom k [] = Unit {0}
RisesFrom k (n ∷ ns) = (k ≤ n) × RisesFrom (suc n) ns
