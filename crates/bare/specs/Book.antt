-- Document 01's sender's book, its ordered messages, and what has arrived of it.
use Rattle.std.specs.Prelude.{ℕ, zero, suc, ◌<◌, ◌≡◌, ◌⊎◌, true, false, List, [], ◌++◌}
use Rattle.bare.specs.Frame.{Frame, Message, carries_reliable, ordered, in_limits}

-- "frames of kinds 3 and 7 with one channel and order number": f is one of the ordered message o of channel c
pub record Of (c o : ℕ) (f : Frame) : Type 0 where
  pub ordered_kind : ordered f.kind ≡ true
  pub on : f.channel ≡ c
  pub numbered : f.order ≡ o

-- "have one id .. agree as in step 3": channel and order number agree by `Of`
pub record Agree (f g : Frame) : Type 0 where
  pub same_id : f.id ≡ g.id
  pub same_count : f.count ≡ g.count
  pub same_kind : f.kind ≡ g.kind
  pub same_sequence : f.sequence ≡ g.sequence

-- "A sender's book is a set of frames": a predicate B, so that an infinite book is one too.
pub record Book (B : Frame → Type 0) : Type 0 where
  -- "no two of which carry the same reliable number"
  pub reliable_once : (f g : Frame) → B f → B g → carries_reliable f.kind ≡ true → carries_reliable g.kind ≡ true → f.reliable
      ≡ g.reliable → f ≡ g
  -- "An ordered message is all the book's frames of kinds 3 and 7 with one channel and order number: either one whole frame"
  pub whole_alone : (c o : ℕ) (f g : Frame) → B f → B g → Of c o f → Of c o g → f.piece ≡ false → f ≡ g
  -- "or the pieces of one split. Those pieces have one id, .. agree as in step 3,"
  pub agree : (c o : ℕ) (f g : Frame) → B f → B g → Of c o f → Of c o g → f.piece ≡ true → g.piece ≡ true → Agree f g
  -- "[an id] which no other piece in the book bears"
  pub id_alone : (c o : ℕ) (f g : Frame) → B f → B g → Of c o f → f.piece ≡ true → g.piece ≡ true → f.id ≡ g.id → Of c o g
  -- "and bear each index below their count exactly once": at most once,
  pub index_once : (c o : ℕ) (f g : Frame) → B f → B g → Of c o f → Of c o g → f.piece ≡ true → g.piece ≡ true → f.index ≡ g.index → f
      ≡ g
  -- and at least once
  pub index-there : (c o : ℕ) (f : Frame) → B f → Of c o f → f.piece ≡ true → (i : ℕ) → i < f.count → (g : Frame) × B g × Of c o g
      × (g.piece ≡ true) × (g.index ≡ i)
  -- "Each of these frames is within the limits."
  pub within : (f : Frame) → B f → ordered f.kind ≡ true → in_limits f ≡ true

-- the bodies of the book's pieces of a message, indices below n, joined
abbrev pub Joins : (B : Frame → Type 0) (c o n : ℕ) → List ℕ → Type 0
Joins B c o zero body = body ≡ []
Joins B c o (suc n) body = (front : List ℕ) × (g : Frame) × Joins B c o n front × B g × Of c o g × (g.piece ≡ true) × (g.index ≡ n)
    × (body ≡ front ++ g.body)

-- m is the book's message o of channel c: its kind, channel, order number and body
pub record Written (B : Frame → Type 0) (c o : ℕ) (m : Message) : Type 0 where
  pub frame : Frame
  pub listed : B frame
  pub of : Of c o frame
  pub kind_is : m.kind ≡ frame.kind
  pub channel_is : m.channel ≡ c
  pub order_is : m.order ≡ o
  pub body_is : ((frame.piece ≡ false) × (m.body ≡ frame.body)) ⊎ ((frame.piece ≡ true) × Joins B c o frame.count m.body)

-- "A message has arrived when all its frames were read from accepted datagrams"; R says which frames were read.
-- "An order number has arrived when its message has; one that the book lacks never does."
pub record Arrived (B : Frame → Type 0) (R : Frame → Type 0) (c o : ℕ) : Type 0 where
  pub some_frame : (f : Frame) × B f × Of c o f
  pub all_read : (f : Frame) → B f → Of c o f → R f
