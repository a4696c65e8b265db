-- The bare receiver of document 01 ("The line, the book and demand 3"): no cells, and four steps for each frame ("A datagram's frames, in
-- order"); with document 02's request 1, late sequenced messages, and request 2, "The bare receiver has its list's profile".
use Rattle.std.specs.Prelude.{ℕ, zero, suc, ◌+◌, Bool, false, cond, not, ◌&&◌, ◌||◌, List, [], ◌∷◌, ◌++◌, eqb, length}
use Rattle.std.proofs.Math.Option.{Option, none, some}
use Rattle.base.specs.Limits.{max_ord_chans}
use Rattle.base.specs.Numbers.{behind, following}
use Rattle.base.specs.Lists.{option, find, any, without}
use Rattle.reliability.specs.declared.Profile.{Profile}
use Rattle.reliability.specs.declared.Profile.TheVariants.{Console, Cpp}
use Rattle.bare.specs.Frame.{Frame, Piece, Message, carries_reliable, ordered, sequenced, in_limits, piece_of, message}

-- "for each channel a next order number and held messages, and the line": what step 4 works on. newest: the memories of request 1,
-- "Document 01's bare receiver remembers the same": that of each channel and, as number 32, the receiver's own. A memory is the newest
-- sequence number plus 1, and 0 where there is none. profile: whose frames it is fed; it stays as it is.
pub record Out : Type 0 where
  pub profile : Profile
  pub next : ℕ → ℕ
  pub newest : ℕ → ℕ
  pub held : List Message
  pub line : List Message

-- "It holds the reliable numbers accepted, the open ids with their pieces", and the above.
pub record Bare : Type 0 where
  pub accepted : ℕ → Bool
  pub pieces : List Piece
  pub out : Out

-- What step 4, and what a frame or a datagram answers: the state after it, "messages made ready, frames dropped".
pub record Sent : Type 0 where
  pub after : Out
  pub ready : ℕ
  pub dropped : ℕ

pub record Fed : Type 0 where
  pub after : Bare
  pub ready : ℕ
  pub dropped : ℕ

-- "At first each next is 0 and all else is empty."
unfoldable pub new : Profile → Bare
new p = record { accepted = λ n. false; pieces = []; out = record { profile = p; next = λ c. 0; newest = λ m. 0; held = []; line = [] } }

-- ---- step 4

-- is this channel c's message of order number o?
unfoldable pub is_at : ℕ → ℕ → Message → Bool
is_at c o m = eqb m.channel c && eqb m.order o

-- "the channel's next then rises by one"
unfoldable pub bump : ℕ → (ℕ → ℕ) → ℕ → ℕ
bump c next d = cond (eqb d c) (following (next d)) (next d)

-- "Ready means put at the end of the line": a message of the channel's next number, held no more
unfoldable pub emit : Message → Sent → Sent
emit m s = record {
  after = record {
    profile = s.after.profile;
    next = bump m.channel s.after.next;
    newest = s.after.newest;
    held = without (is_at m.channel m.order) s.after.held;
    line = s.after.line ++ (m ∷ []);
  };
  ready = suc s.ready;
  dropped = s.dropped;
}

-- "and a held message of that number follows in the same way": at most n of them, and there are no more than are held
unfoldable pub follow : ℕ → ℕ → Sent → Sent
follow zero c s = s
follow (suc n) c s = option (find (is_at c (s.after.next c)) s.after.held) s (λ m. follow n c (emit m s))

-- nothing made ready and n dropped; a message held; a message "put at the end of the line"
unfoldable pub quiet : Out → ℕ → Sent
quiet o n = record { after = o; ready = 0; dropped = n }

unfoldable pub hold : Message → Out → Out
hold m o = record { profile = o.profile; next = o.next; newest = o.newest; held = m ∷ o.held; line = o.line }

unfoldable pub append : Message → Out → Out
append m o = record { profile = o.profile; next = o.next; newest = o.newest; held = o.held; line = o.line ++ (m ∷ []) }

-- "order number below the channel's next, or held: drop. Above: hold. Equal: ready, with the held ones that follow."
unfoldable pub queue : Message → Out → Sent
queue m o =
    cond (behind (o.next m.channel) m.order || any (is_at m.channel m.order) o.held) (quiet o 1)
    (cond (eqb m.order (o.next m.channel)) (follow (length o.held) m.channel (emit m (quiet o 0)))
    (quiet (hold m o) 0))

-- "each channel remembers the highest sequence number it made ready by kind 1 .. Kind 4 has no channel and gets one such memory for the
-- whole receiver": the memory of a sequenced kind and channel. Request 2, in the C++ profile: "Kind 4 then uses its channel's memory."
unfoldable pub memory_of : Profile → ℕ → ℕ → ℕ
memory_of Console kind channel = cond (eqb kind 1) channel max_ord_chans
memory_of Cpp kind channel = channel

-- "at or below it": is n no newer than memory m? "The first is always made ready": no number is, where there is none
unfoldable pub older : (ℕ → ℕ) → ℕ → ℕ → Bool
older newest m n = behind (newest m) n

-- memory m is n from now on
unfoldable pub noted : ℕ → ℕ → (ℕ → ℕ) → ℕ → ℕ
noted m n newest d = cond (eqb d m) (following n) (newest d)

unfoldable pub remember : ℕ → ℕ → Out → Out
remember m n o = record { profile = o.profile; next = o.next; newest = noted m n o.newest; held = o.held; line = o.line }

unfoldable pub ready : Message → Out → Sent
ready m o = record { after = append m o; ready = 1; dropped = 0 }

-- a message of a sequenced kind and sequence number n: "a frame or joined message of kind 1 at or below [its memory] is dropped in step 4",
-- and so is one of kind 4; else it is ready, and the memory is its number
unfoldable pub sequence : ℕ → Message → Out → Sent
sequence n m o =
    cond (older o.newest (memory_of o.profile m.kind m.channel) n) (quiet o 1)
    (ready m (remember (memory_of o.profile m.kind m.channel) n o))

-- "Kinds 3 and 7: .. Other kinds: ready", where a sequenced one is not late; n is the message's sequence number
unfoldable pub deliver : ℕ → Message → Out → Sent
deliver n m o = cond (ordered m.kind) (queue m o) (cond (sequenced m.kind) (sequence n m o) (ready m o))

-- ---- step 3

-- "its open id has another count, kind, sequence, order number or channel, or has this index": f may not be kept beside the open piece g
unfoldable pub conflict : Piece → Piece → Bool
conflict f g = eqb g.id f.id
    && (not (eqb g.count f.count && eqb g.kind f.kind && eqb g.sequence f.sequence && eqb g.order f.order
    && eqb g.channel f.channel) || eqb g.index f.index)

-- is this the piece of that id and index? one of that id?
unfoldable pub is_piece_at : ℕ → ℕ → Piece → Bool
is_piece_at id i g = eqb g.id id && eqb g.index i

unfoldable pub has_id : ℕ → Piece → Bool
has_id id g = eqb g.id id

-- "the bodies joined by index", of the first n indices of an id; none where one is lacking
unfoldable pub joined : List Piece → ℕ → ℕ → Option (List ℕ)
joined l id zero = some []
joined l id (suc n) = option (joined l id n) none (λ front. option (find (is_piece_at id n) l) none (λ g. some (front ++ g.body)))

-- Step 3 drops the frame; keeps it, with the open pieces now; or gives a message, with the open pieces that stay.
pub data Kept : Type 0 where
  refused : Kept
  waiting : List Piece → Kept
  complete : List Piece → Message → Kept

-- "Else keep. When all indices are there, the bodies joined by index are one message." "joining closes the id"
unfoldable pub keep : Frame → List Piece → Kept
keep f l =
    cond (any (conflict (piece_of f)) l) refused
    (option (joined (piece_of f ∷ l) f.id f.count) (waiting (piece_of f ∷ l))
    (λ body. complete (without (has_id f.id) l) (message f body)))

-- "A whole frame is a message at once"
unfoldable pub assemble : Frame → List Piece → Kept
assemble f l = cond f.piece (keep f l) (complete l (message f f.body))

-- ---- steps 1 and 2

-- "Reliable number accepted before: drop. Else accept it."
unfoldable pub seen_before : Frame → (ℕ → Bool) → Bool
seen_before f a = carries_reliable f.kind && a f.reliable

unfoldable pub accept_reliable : Frame → (ℕ → Bool) → ℕ → Bool
accept_reliable f a n = (carries_reliable f.kind && eqb n f.reliable) || a n

unfoldable pub drop_in : Bare → Fed
drop_in b = record { after = b; ready = 0; dropped = 1 }

-- what step 3 gave goes on to step 4; n is the frame's sequence number, which all pieces of its message have
unfoldable pub finish : ℕ → (ℕ → Bool) → List Piece → Out → Kept → Fed
finish n a l o refused = drop_in (record { accepted = a; pieces = l; out = o })
finish n a l o (waiting l') = record { after = record { accepted = a; pieces = l'; out = o }; ready = 0; dropped = 0 }
finish n a l o (complete l' m) =
    let s = deliver n m o in
    record { after = record { accepted = a; pieces = l'; out = s.after }; ready = s.ready; dropped = s.dropped }

-- the four steps: step 2 is "Channel, count or index over its limit: drop."
unfoldable pub step : Bare → Frame → Fed
step b f =
    cond (seen_before f b.accepted) (drop_in b)
    (cond (in_limits f) (finish f.sequence (accept_reliable f b.accepted) b.pieces b.out (assemble f b.pieces))
    (drop_in (record { accepted = accept_reliable f b.accepted; pieces = b.pieces; out = b.out })))

-- "Every frame read goes through the four steps", with the counts of ready and dropped
unfoldable pub feed : Bare → List Frame → Fed
feed b [] = record { after = b; ready = 0; dropped = 0 }
feed b (f ∷ fs) =
    let a = step b f in
    let r = feed a.after fs in
    record { after = r.after; ready = a.ready + r.ready; dropped = a.dropped + r.dropped }
