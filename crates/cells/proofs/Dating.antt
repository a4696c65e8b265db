-- The ages in the slots are what the bare receiver counts back over the accepted datagrams (request 4): after every datagram, take and
-- drop. So a drop drops the same messages in both.
-- Assumes nothing.
use Prim.Native.Nat.{ℕ, suc, ◌-◌, ◌≤◌, ◌<◌, min}
use mathlib.Core.Path.{◌≡◌, sym, ◌∙◌, ap}
use mathlib.Core.Bool.{Bool, true, false, cond, not, ◌&&◌}
use mathlib.Core.Option.{some}
use mathlib.Core.List.{List, [], ◌∷◌, ◌++◌, Memᴰ}
use native.Mathlib.Omega.{arith}
use lib.ListN.{replicate}
use lib.Dec.{ltb, eqb}
use borrow.Author.Tests.{ltb-true, ltb-false, lt-ltb}
use Rattle.base.specs.Limits.{max_age}
use Rattle.base.specs.Lists.{count_of}
use Rattle.base.proofs.Choices.{by_bool, cases, neither}
use Rattle.base.proofs.Lists.{mem-replicate}
use Rattle.base.proofs.Counts.{count-ext}
use Rattle.reliability.specs.declared.Profile.{Profile}
use Rattle.bare.specs.Frame.{Frame, Message, carries_reliable}
use Rattle.bare.specs.Bare.{Bare, seen_before, step}
use Rattle.bare.specs.Unfinished as bare
use Rattle.bare.specs.Unfinished.{Dated, new_dated, keeps_piece, dated_at, last_after, receive_dated, since, drop_stale, stale_pieces}
use Rattle.bare.proofs.Unfinished.{LastWithin, receive-within, drop-within}
use Rattle.cells.specs.Cell.{Slot, open_as, held_as, ready_as, is_open, piece_in, empty_slot}
use Rattle.cells.specs.Ages.{next_age, is_stale, dropped}
use Rattle.cells.specs.Datagram.{State, Work, with_slots, begin, end, grow, frame, frames, datagram}
use Rattle.cells.specs.Take.{Taken, taking}
use Rattle.cells.specs.Sound.{sound}
use Rattle.cells.specs.Store.{cells_of}
use Rattle.cells.proofs.Keys.{empty_of}
use Rattle.cells.proofs.Pieces.{opens, tests-clash, pieces-without}
use Rattle.cells.proofs.Ready.{outs-keep}
use Rattle.cells.proofs.Moves.{unique-left}
use Rattle.cells.proofs.Cascade.{Rel}
use Rattle.cells.proofs.Aging.{grow-rel}
use Rattle.cells.proofs.Frames.{sim-rel, frame-sim, not_full}
use Rattle.cells.proofs.Takes.{empty-open}
use Rattle.cells.proofs.Matching.{Matches, begin-rel, receive-matches, take_matches, new-matches}
use Rattle.cells.proofs.AgedAs.{AgedAs}
use Rattle.cells.proofs.SlotAges.{aged-ext, renewed_age, puts_piece, ages_after, frame-aged, grow-aged, end-aged, take-aged, drop-aged}
use Rattle.cells.proofs.SoundTest.{sound-rest}
use Rattle.cells.proofs.Dropping.{dropped-whole, dropped-closed}

-- An id's age, where t datagrams were accepted and its last kept piece came with datagram number `last id`; it "stops at 2^32".
unfoldable pub age_at : ℕ → (ℕ → ℕ) → ℕ → ℕ
age_at t last id = min (t - last id) max_age

-- The receiver with cells matches the bare receiver, and keeps the ages that this one counts.
pub record DatedMatches (d : Dated) (s : State) (handed : List Message) : Type 0 where
  pub matches : Matches d.bare s handed
  pub within : LastWithin d
  pub ages : AgedAs (age_at d.datagrams d.last) s.slots

-- ---- an accepted datagram

next_age-at : (t : ℕ) (last : ℕ → ℕ) (id : ℕ) → last id ≤ t → next_age (age_at t last id) ≡ age_at (suc t) last id
unfolding next_age age_at
next_age-at t last id le = by_bool (λ (x : ℕ). x ≡ min (suc t - last id) max_age) (ltb (min (t - last id) max_age) max_age)
    (λ y. let p = ltb-true (min (t - last id) max_age) max_age y in omega arith)
    (λ y. let p = ltb-false (min (t - last id) max_age) max_age y in omega arith)

-- Both keep the same frames as pieces.
keeps-same : (b : Bare) (w : Work) (h : List Message) (f : Frame) → Rel b w h → keeps_piece b f ≡ puts_piece w f
unfolding keeps_piece puts_piece
keeps-same b w h f v = rw (ap (seen_before f) v.accepted, tests-clash f b.pieces w.state.slots v.pieces)

last-step : (b : Bare) (w : Work) (h : List Message) (f : Frame) → Rel b w h → (t : ℕ) (last : ℕ → ℕ) (id : ℕ)
    → ages_after w f (age_at t last) id ≡ age_at t (cond (keeps_piece b f) (dated_at f.id t last) last) id
unfolding ages_after renewed_age age_at dated_at
last-step b w h f v t last id = rw (keeps-same b w h f v) (cases (puts_piece w f)
    (λ y. rw y (cases (eqb id f.id) (λ z. rw z (omega arith)) (λ z. rw z)))
    (λ y. rw y))

frames-dated : (fs : List Frame) (b : Bare) (w : Work) (h : List Message) (t : ℕ) (last : ℕ → ℕ) → Rel b w h
    → AgedAs (age_at t last) w.state.slots → (frames w fs).full ≡ false
    → AgedAs (age_at t (last_after b t last fs)) (frames w fs).state.slots
unfolding frames last_after
frames-dated [] b w h t last v a full = a
frames-dated (f ∷ fs) b w h t last v a full =
    let s = frame-sim b w h f v (not_full fs (frame w f) full) in
    frames-dated fs (step b f).after (frame w f) h t (cond (keeps_piece b f) (dated_at f.id t last) last) (sim-rel s)
    (aged-ext (last-step b w h f v t last) (frame-aged w f a)) full

-- No n reaches the age at which ages stop.
unreached : (n k : ℕ) → n < max_age → ltb n k ≡ ltb n (min k max_age)
unreached n k lt = cases (ltb n k)
    (λ y. let p = ltb-true n k y in y ∙ sym (lt-ltb n (min k max_age) (omega arith)))
    (λ y. let p = ltb-false n k y in y ∙ sym (cases (ltb n (min k max_age))
    (λ z. let q = ltb-true n (min k max_age) z in absurd (omega arith)) (λ z. z)))

-- So where the slots have the ages that are counted back, a slot is stale where its piece is.
pub stale-same : (d : Dated) {l : List Slot} → AgedAs (age_at d.datagrams d.last) l → (n : ℕ) → n < max_age → (x : Slot) → Memᴰ x l
    → opens (bare.is_stale n d) x ≡ is_stale n x.cell
unfolding opens bare.is_stale is_stale is_open piece_in since age_at
stale-same d a n lt x m = cases (is_open x)
    (λ y. rw (y, a.is x m y)
    (ap (λ (b : Bool). not (carries_reliable x.cell.kind) && b) (unreached n (d.datagrams - d.last x.cell.id) lt)))
    (λ y. rw y)

module _ {d : Dated} {s : State} {h : List Message} (v : DatedMatches d s h) where
  -- An accepted datagram, and a take, leave it so.
  pub receive-dated : (fs : List Frame) → (datagram s fs).full ≡ false → DatedMatches (receive_dated fs d) (end (datagram s fs)) h
  unfolding receive_dated datagram
  receive-dated fs full = record {
    matches = receive-matches d.bare s h v.matches fs full;
    within = receive-within fs d v.within;
    ages = end-aged (datagram s fs) (frames-dated fs d.bare (grow (begin s)) h (suc d.datagrams) d.last
        (grow-rel d.bare (begin s) h (begin-rel d.bare s h v.matches))
        (aged-ext (λ id. next_age-at d.datagrams d.last id (v.within id)) (grow-aged s v.ages)) full);
  }

  pub take-dated : (t : Taken) → taking s.slots ≡ some t → DatedMatches d (with_slots t.slots s) (h ++ (t.message ∷ []))
  take-dated t e = record {
    matches = take_matches d.bare s h v.matches t e;
    within = v.within;
    ages = take-aged s.slots t e v.ages;
  }

  -- An open slot's age: how many datagrams were accepted after the one that carried its id's last kept piece, up to where ages stop.
  pub age-is : (x : Slot) → Memᴰ x s.slots → is_open x ≡ true → x.cell.age ≡ min (since d x.cell.id) max_age
  unfolding since age_at
  age-is x m y = v.ages.is x m y

  -- ---- a drop
  module _ (e : sound (cells_of s.slots) s.next ≡ true) (n : ℕ) (lt : n < max_age) where
    -- "the call returns how many cells it freed": as many as there are pieces that the bare receiver drops
    pub drop-count : count_of (λ x. is_stale n x.cell) s.slots ≡ stale_pieces n d
    unfolding stale_pieces
    drop-count = sym (v.matches.pieces.counts (bare.is_stale n d) ∙ count-ext _ _ s.slots (stale-same d v.ages n lt))

    drop_matches : Matches (drop_stale n d).bare (with_slots (dropped n s.slots) s) h
    unfolding drop_stale dropped
    drop_matches = record {
      lo = v.matches.lo;
      n = v.matches.n;
      accepted = v.matches.accepted;
      profile = v.matches.profile;
      newest = v.matches.newest;
      pieces = pieces-without (bare.is_stale n d) (λ x. is_stale n x.cell) (λ x. empty_slot) d.bare.pieces s.slots
          (stale-same d v.ages n lt) (λ x. empty-open) v.matches.pieces
          (λ id. dropped-whole n s.slots (sound-rest s.next s.slots e).core v.ages (open_as id));
      outs = outs-keep (dropped n s.slots) v.matches.outs (λ c k. dropped-closed n s.slots (held_as c k) (λ q. omega arith))
          (λ t. dropped-closed n s.slots (ready_as t) (λ q. omega arith))
          (unique-left (λ x. is_stale n x.cell) (λ x. empty_slot) s.slots (λ k x m y. empty_of k) v.matches.outs.unique);
    }

    -- A drop leaves it so.
    pub drop-dated : DatedMatches (drop_stale n d) (with_slots (dropped n s.slots) s) h
    unfolding drop_stale
    drop-dated = record {
      matches = drop_matches;
      within = drop-within n d v.within;
      ages = drop-aged n s.slots v.ages;
    }

-- A receiver just made, of n cells.
pub new-dated-matches : (p : Profile) (n : ℕ) → DatedMatches (new_dated p) (record {
  profile = p;
  accepted = λ k. false;
  next = λ c. 0;
  newest = λ m. 0;
  slots = replicate n empty_slot;
}) []
unfolding new_dated age_at
new-dated-matches p n = record {
  matches = new-matches p n;
  within = λ id. omega arith;
  ages = record {
    is = λ s m o. neither (is_open s) o (ap is_open (mem-replicate empty_slot s n m) ∙ empty-open);
    small = λ id. omega arith;
  };
}
