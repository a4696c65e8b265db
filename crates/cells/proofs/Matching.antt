-- The receiver with cells matches the bare receiver that was fed its accepted datagrams: one just made does, and accepted datagrams and
-- takes keep it so.
-- Assumes nothing.
use Prim.Native.Nat.{ℕ, zero, suc}
use mathlib.Core.Path.{◌≡◌, refl, sym, ◌∙◌, ap, subst}
use mathlib.Core.Bool.{false}
use mathlib.Core.Option.{some}
use mathlib.Core.List.{List, [], ◌∷◌, ◌++◌}
use native.Mathlib.Omega.{arith}
use lib.ListN.{replicate}
use Rattle.base.specs.Lists.{find, any, count_of}
use Rattle.base.proofs.Choices.{neither}
use Rattle.base.proofs.Lists.{find-no, any-replicate}
use Rattle.base.proofs.Counts.{count_none}
use Rattle.reliability.specs.declared.Profile.{Profile}
use Rattle.bare.specs.Frame.{Frame, Message}
use Rattle.bare.specs.Bare.{Bare, new, feed}
use Rattle.cells.specs.Cell.{Key, open_as, held_as, ready_as, of, sits, empty_slot, freed}
use Rattle.cells.specs.Datagram.{State, with_slots, place, begin, end, grow, datagram}
use Rattle.cells.specs.Take.{Taken, taking, drain}
use Rattle.cells.specs.Room.{exceeds}
use Rattle.cells.proofs.Keys.{of-used, empty_of, sits-not, message-none}
use Rattle.cells.proofs.Pieces.{opens, piece_at, Pieces}
use Rattle.cells.proofs.Ready.{Outs}
use Rattle.cells.proofs.Cascade.{Rel, Sim, is_open-used}
use Rattle.cells.proofs.Aging.{grow-rel}
use Rattle.cells.proofs.Frames.{frames-sim}
use Rattle.cells.proofs.Turns.{renumber-outs, renumber-pieces}
use Rattle.cells.proofs.Takes.{empty-open, emptied-pieces, sweep-outs, sweep-pieces, ready_line-nil, take_none, take-some, drain-is}
use Rattle.cells.proofs.Room.{related-room}

-- The turns of the ready messages are the n from lo on; handed are the messages that takes handed out before.
pub record Matches (b : Bare) (s : State) (handed : List Message) : Type 0 where
  pub lo : ℕ
  pub n : ℕ
  pub accepted : b.accepted ≡ s.accepted
  pub profile : b.out.profile ≡ s.profile
  pub newest : b.out.newest ≡ s.newest
  pub pieces : Pieces b.pieces s.slots
  pub outs : Outs b.out s.next s.slots lo n handed

module _ (b : Bare) (s : State) (h : List Message) (v : Matches b s h) where
  -- The line is what takes handed out and what they still would.
  pub matches-line : b.out.line ≡ h ++ drain s.slots
  matches-line = v.outs.line ∙ ap (λ (l : List Message). h ++ l) (sym (drain-is v.outs))

  pub begin-rel : Rel b (begin s) h
  unfolding begin
  begin-rel = record {
    accepted = v.accepted;
    profile = v.profile;
    newest = v.newest;
    pieces = renumber-pieces b.pieces s.slots v.pieces;
    outs = renumber-outs v.outs;
  }

  -- A datagram gets 8 exactly when the cells in use before and the bodies not dropped as frames are more than all cells.
  pub matches-room : (fs : List Frame) → (datagram s fs).full ≡ exceeds b s.slots fs
  matches-room fs = related-room b s h fs begin-rel

  -- An accepted datagram does what its frames do to the bare receiver, with the same counts.
  module _ (fs : List Frame) (full : (datagram s fs).full ≡ false) where
    sim : Sim (feed b fs) (datagram s fs) 0 0 h
    unfolding datagram begin grow place
    sim = frames-sim fs b (grow (begin s)) h (grow-rel b (begin s) h begin-rel) full

    pub ready-count : (datagram s fs).counts.ready ≡ (feed b fs).ready
    ready-count = omega (arith, sim.ready)

    pub dropped-count : (datagram s fs).counts.dropped ≡ (feed b fs).dropped
    dropped-count = omega (arith, sim.dropped)

    pub receive-matches : Matches (feed b fs).after (end (datagram s fs)) h
    unfolding end
    receive-matches = record {
      lo = 0;
      n = (datagram s fs).turn;
      accepted = sim.accepted;
      profile = sim.profile;
      newest = sim.newest;
      pieces = sweep-pieces _ _ sim.pieces;
      outs = sweep-outs sim.outs;
    }

  -- A take hands out the line's next message.
  pub take_matches : (t : Taken) → taking s.slots ≡ some t
      → Matches b (with_slots t.slots s) (h ++ (t.message ∷ []))
  unfolding freed
  take_matches t e = go v.lo v.n v.outs
    where
      go : (lo n : ℕ) → Outs b.out s.next s.slots lo n h
          → Matches b (with_slots t.slots s) (h ++ (t.message ∷ []))
      go lo zero w = absurd (let q = sym (take_none w) ∙ e in let z : ◌≡◌ {A = ℕ} 0 1 = cc in omega arith)
      go lo (suc n) w =
          let k = take-some n w in
          let q : some (record { message = k.0; slots = freed (ready_as lo) s.slots }) ≡ some t = sym k.2 ∙ e in
          let r : record { message = k.0; slots = freed (ready_as lo) s.slots } ≡ t = cc in
          subst (λ (t : Taken). Matches b (with_slots t.slots s) (h ++ (t.message ∷ []))) r
          (record {
            lo = suc lo;
            n = n;
            accepted = v.accepted;
            profile = v.profile;
            newest = v.newest;
            pieces = emptied-pieces (of (ready_as lo)) b.pieces
                s.slots (λ s m y. is_open-used s 3 (of-used (ready_as lo) s y) (λ q. omega arith)) v.pieces;
            outs = k.3;
          })

-- A receiver just made, of n cells, matches the bare receiver at first.
pub new-matches : (p : Profile) (n : ℕ) → Matches (new p) (record {
  profile = p;
  accepted = λ k. false;
  next = λ c. 0;
  newest = λ m. 0;
  slots = replicate n empty_slot;
}) []
unfolding new find count_of piece_at opens
new-matches p n = record {
  lo = 0;
  n = 0;
  accepted = refl;
  profile = refl;
  newest = refl;
  pieces = record {
    counts = λ p. sym (count_none (opens p) (replicate n empty_slot) (any-replicate (opens p) empty_slot n (rw empty-open)));
    finds = λ id i. sym (rw (find-no (sits (open_as id) i) (replicate n empty_slot) (nobody (open_as id) i)));
  };
  outs = record {
    next-same = refl;
    held = λ c k. sym (message-none (held_as c k) (replicate n empty_slot) (nobody (held_as c k) 0));
    first = λ c k. rw (message-none (held_as c k) (replicate n empty_slot) (nobody (held_as c k) 0))
        (any-replicate (of (held_as c k)) empty_slot n (empty_of (held_as c k)));
    line = sym (ready_line-nil (replicate n empty_slot) 0);
    within = λ t e. neither (any (of (ready_as t)) (replicate n empty_slot)) e
        (any-replicate (of (ready_as t)) empty_slot n (empty_of (ready_as t)));
    firsts = λ t a b. absurd (omega arith);
    unique = λ k i. rw (count_none (sits k i) (replicate n empty_slot) (nobody k i)) (omega arith);
  };
}
  where
    nobody : (k : Key) (i : ℕ) → any (sits k i) (replicate n empty_slot) ≡ false
    nobody k i = any-replicate (sits k i) empty_slot n (sits-not k i empty_slot (empty_of k))
