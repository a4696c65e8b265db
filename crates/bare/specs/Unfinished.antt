-- Request 4, "Unfinished unreliable joins give their cells back": "every unfinished message whose kind carries no reliable number, and
-- since whose last kept piece more than n further datagrams were accepted, is dropped"; "document 01's bare receiver drops the same
-- unfinished messages at it, counting back over the accepted datagrams." The four steps do not look at what is counted here.
use Rattle.std.specs.Prelude.{ℕ, suc, ◌-◌, Bool, cond, not, ◌&&◌, List, [], ◌∷◌, ◌++◌, ltb, eqb}
use Rattle.base.specs.Lists.{any, count_of, without}
use Rattle.reliability.specs.declared.Profile.{Profile}
use Rattle.bare.specs.Frame.{Frame, Piece, carries_reliable, in_limits, piece_of}
use Rattle.bare.specs.Bare.{Bare, new, conflict, seen_before, step, feed}

-- The bare receiver with its accepted datagrams counted: datagrams is how many there were, last for each id the number among them (from 1
-- on) of the one that carried the id's last kept piece; 0 where none did.
pub record Dated : Type 0 where
  pub bare : Bare
  pub datagrams : ℕ
  pub last : ℕ → ℕ

unfoldable pub new_dated : Profile → Dated
new_dated p = record { bare = new p; datagrams = 0; last = λ id. 0 }

-- does step 3 keep the frame as a piece of its id? Step 1, step 2, step 3.
unfoldable pub keeps_piece : Bare → Frame → Bool
keeps_piece b f = not (seen_before f b.accepted) && (in_limits f && (f.piece && not (any (conflict (piece_of f)) b.pieces)))

-- the id's last kept piece came with datagram t
unfoldable pub dated_at : ℕ → ℕ → (ℕ → ℕ) → ℕ → ℕ
dated_at id t last i = cond (eqb i id) t (last i)

-- the ids' last kept pieces after these frames of datagram t
unfoldable pub last_after : Bare → ℕ → (ℕ → ℕ) → List Frame → ℕ → ℕ
last_after b t last [] = last
last_after b t last (f ∷ fs) = last_after (step b f).after t (cond (keeps_piece b f) (dated_at f.id t last) last) fs

-- an accepted datagram, by its frames
unfoldable pub receive_dated : List Frame → Dated → Dated
receive_dated fs d = record {
  bare = (feed d.bare fs).after;
  datagrams = suc d.datagrams;
  last = last_after d.bare (suc d.datagrams) d.last fs;
}

-- how many datagrams were accepted after the one that carried the id's last kept piece
unfoldable pub since : Dated → ℕ → ℕ
since d id = d.datagrams - d.last id

-- an open piece "whose kind carries no reliable number, and since whose [id's] last kept piece more than n further datagrams were accepted"
unfoldable pub is_stale : ℕ → Dated → Piece → Bool
is_stale n d g = not (carries_reliable g.kind) && ltb n (since d g.id)

-- these are dropped, "and the call returns how many cells it freed": one for each
unfoldable pub drop_stale : ℕ → Dated → Dated
drop_stale n d = record {
  bare = record { accepted = d.bare.accepted; pieces = without (is_stale n d) d.bare.pieces; out = d.bare.out };
  datagrams = d.datagrams;
  last = d.last;
}

unfoldable pub stale_pieces : ℕ → Dated → ℕ
stale_pieces n d = count_of (is_stale n d) d.bare.pieces

-- What a list of calls tells the bare receiver, in order: each accepted datagram's frames, and each drop that was not refused, with its n.
pub data Event : Type 0 where
  datagram : List Frame → Event
  drop_past : ℕ → Event

unfoldable pub happens : Event → Dated → Dated
happens (datagram fs) d = receive_dated fs d
happens (drop_past n) d = drop_stale n d

unfoldable pub after_events : Dated → List Event → Dated
after_events d [] = d
after_events d (e ∷ es) = after_events (happens e d) es

-- all frames of the accepted datagrams
unfoldable pub frames_of : List Event → List Frame
frames_of [] = []
frames_of (datagram fs ∷ es) = fs ++ frames_of es
frames_of (drop_past n ∷ es) = frames_of es
