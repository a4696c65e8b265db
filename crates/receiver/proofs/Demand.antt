-- Demand 3: the claim holds of every two lists of calls, on datagrams of bytes and numbers of 32 bits.
-- Assumes nothing.
use Prim.Native.Nat.{ℕ, zero, suc, ◌*◌, min}
use mathlib.Core.Path.{◌≡◌, refl, sym, ◌∙◌, ap, subst}
use mathlib.Core.Bool.{Bool, true, false, ◌&&◌}
use mathlib.Core.Option.{none}
use mathlib.Core.List.Memᴰ
use mathlib.Core.List.{List, [], ◌∷◌, ◌++◌, map, append-nil, Memᴰ}
use lib.ListN.{length, get_or, drop, replicate, length-replicate}
use lib.Dec.{leb, eqb}
use borrow.Author.Tests.{le-leb, eq-eqb}
use Rattle.base.specs.Limits.{max_cells, cell_bytes, max_ord_chans, max_age}
use Rattle.base.specs.Lists.{count_of, every, below}
use Rattle.base.proofs.Choices.{and_both}
use Rattle.reliability.specs.declared.Profile.{Profile}
use Rattle.reliability.proofs.Laws.{profile-back}
use Rattle.bare.specs.Frame.{Frame, Piece}
use Rattle.bare.specs.Unfinished.{Dated, new_dated, since, after_events}
use Rattle.bare.specs.Order.{line_for}
use Rattle.bare.proofs.InOrder.{in_order, begins}
use Rattle.window.proofs.Laws.{new-accepts-none}
use Rattle.cells.specs.Cell.{Cell, Slot, is_open, piece_in, empty_cell, empty_slot, open_use}
use Rattle.cells.specs.Datagram.{State, datagram}
use Rattle.cells.specs.Room.{exceeds}
use Rattle.cells.specs.Sound.{sound_cell, sound_nexts, sound_memories, lengths}
use Rattle.cells.specs.Store.{cell_size, cell_body, slots_of, cells_of}
use Rattle.cells.specs.Take.{taking, drain, drain_in}
use Rattle.cells.proofs.Matching.{matches-line, matches-room}
use Rattle.cells.proofs.Pieces.{opens}
use Rattle.cells.proofs.Dating.{DatedMatches, age-is, new-dated-matches}
use Rattle.cells.proofs.Store.{cells-slots}
use Rattle.receiver.specs.declared.Channel.{Channel}
use Rattle.receiver.specs.Queue.{new_channel, next_in, next_of, memories_in, newest_of, profile_in, new_queue, sound_queue}
use Rattle.receiver.specs.Receive.{state_of, sound_call}
use Rattle.receiver.specs.Calls.{Call, made, outcome, after_all, handed_out, done_by, still_out, drained}
use Rattle.receiver.specs.Receiver.{Receiver}
use Rattle.receiver.specs.Calls.{events_of}
use Rattle.receiver.specs.Claim.{Start, begun, Typed, told_by, OneList, Claim}
use Rattle.receiver.proofs.Queues.{new-good, good-sound}
use Rattle.receiver.proofs.Receives.{state_in, Sane}
use Rattle.receiver.proofs.Steps.{Step}
use Rattle.receiver.proofs.Runs.{runs}
use Rattle.receiver.proofs.Drains.{drains, dry, gets-20}

-- ---- a receiver just made
every-same : (p : Cell → Bool) (c : Cell) (n : ℕ) → p c ≡ true → every p (replicate n c) ≡ true
unfolding every
every-same p c zero e = refl
every-same p c (suc n) e = and_both (p c) _ e (every-same p c n e)

same_at : (n c : ℕ) (z : Channel) → get_or (replicate n z) c z ≡ z
same_at zero c z = refl
same_at (suc n) zero z = refl
same_at (suc n) (suc c) z = same_at n c z

next-zero : (p : Profile) → next_of (new_queue p) ≡ (λ c. 0)
unfolding next_of next_in new_queue
next-zero p = λ i c. (same_at max_ord_chans c new_channel i).next

newest-zero : (p : Profile) → newest_of (new_queue p) ≡ (λ m. 0)
unfolding newest_of memories_in new_queue
newest-zero p = λ i m. at max_ord_chans m i
  where
    at : (n m : ℕ) → get_or (map (λ (c : Channel). c.newest) (replicate n new_channel) ++ (0 ∷ [])) m 0 ≡ 0
    at zero zero = refl
    at zero (suc m) = refl
    at (suc n) zero = refl
    at (suc n) (suc m) = at n m

new-next : (p : Profile) → sound_nexts (next_of (new_queue p)) ≡ true
unfolding below
new-next p = rw (next-zero p)

new-memories : (p : Profile) → sound_memories (newest_of (new_queue p)) ≡ true
unfolding below
new-memories p = rw (newest-zero p)

pub start-sane : (s : Start) → Sane (begun s)
unfolding made sound_call lengths sound_cell empty_cell
start-sane s =
    let n = length-replicate s.cells empty_cell in
    record {
      good = new-good s.profile;
      sound =
          and_both (leb 1 (length (replicate s.cells empty_cell)) && (leb (length (replicate s.cells empty_cell)) max_cells
          && eqb (length s.store) (cell_bytes * length (replicate s.cells empty_cell)))) _
          (rw n (and_both (leb 1 s.cells) _ (le-leb _ _ s.some_cells)
          (and_both (leb s.cells max_cells) _ (le-leb _ _ s.most-cells) (eq-eqb _ _ s.store_length))))
          (and_both (sound_queue (new_queue s.profile)) _
          (good-sound (new_queue s.profile) (new-good s.profile) (new-next s.profile) (new-memories s.profile))
          (every-same (sound_cell (replicate s.cells empty_cell) (next_of (new_queue s.profile))) empty_cell s.cells refl));
    }

new-slots : (n : ℕ) (store : List ℕ) → slots_of (replicate n empty_cell) store ≡ replicate n empty_slot
unfolding slots_of cell_body empty_slot empty_cell
new-slots zero store = refl
new-slots (suc n) store = ap {B = List Slot} (λ l. empty_slot ∷ l) (new-slots n (drop cell_size store))

start-matches : (s : Start) → DatedMatches (new_dated s.profile) (state_in (begun s)) []
unfolding made state_of new_queue
start-matches s = subst (λ (z : State). DatedMatches (new_dated s.profile) z []) (sym is) (new-dated-matches s.profile s.cells)
  where
    is : state_in (begun s)
        ≡ record {
          profile = s.profile;
          accepted = λ k. false;
          next = λ c. 0;
          newest = λ m. 0;
          slots = replicate s.cells empty_slot;
        }
    is = unfold state_of made new_queue profile_in in
        (λ i. record {
          profile = profile-back s.profile i;
          accepted = λ k. new-accepts-none k i;
          next = next-zero s.profile i;
          newest = newest-zero s.profile i;
          slots = new-slots s.cells s.store i;
        })

-- ---- one list
module _ (s : Start) (cs : List Call) (typed : Typed cs) where
  run : Step (begun s) (after_all outcome (begun s) cs) (handed_out outcome (begun s) cs) (done_by outcome (begun s) cs)
  run = runs cs (begun s) typed (start-sane s)

  -- the bare receiver that was told what the list did
  abbrev pub told : Dated
  told = after_events (new_dated s.profile) (told_by outcome s cs)

  matched : DatedMatches told (state_in (after_all outcome (begun s) cs)) (handed_out outcome (begun s) cs)
  matched = run.matches (new_dated s.profile) [] (start-matches s)

  -- After every list of calls: a datagram gets 8 exactly when the cells in use before and the bodies not dropped as frames are more than
  -- all cells.
  pub room-runs-out : (fs : List Frame) → (datagram (state_in (after_all outcome (begun s) cs)) fs).full
      ≡ exceeds (after_events (new_dated s.profile) (told_by outcome s cs)).bare (state_in (after_all outcome (begun s) cs)).slots fs
  room-runs-out fs = matches-room _ (state_in (after_all outcome (begun s) cs)) (handed_out outcome (begun s) cs) matched.matches fs

  -- After every list of calls: an open record's age is how many datagrams were accepted after the one that carried its id's last kept
  -- piece, up to where ages stop.
  pub open-ages : (c : Cell) → Memᴰ c (after_all outcome (begun s) cs).records → c.used ≡ open_use → c.age ≡ min (since told c.id) max_age
  unfolding cells_of is_open state_of
  open-ages c m e =
      let x = after_all outcome (begun s) cs in
      let a = Memᴰ.of_map (λ (z : Slot). z.cell) (slots_of x.records x.store) (rw (← cells-slots x.records x.store) at m) in
      subst (λ (d : Cell). d.used ≡ open_use → d.age ≡ min (since told d.id) max_age) a.2 (λ u. age-is matched a.0 a.1 (eq-eqb _ _ u)) e

  -- The open pieces, as any test counts them, are those of the bare receiver that was told what the list did.
  same-open : (p : Piece → Bool) → count_of p told.bare.pieces
      ≡ count_of (λ x. is_open x && p (piece_in x))
      (slots_of (after_all outcome (begun s) cs).records (after_all outcome (begun s) cs).store)
  unfolding opens state_of
  same-open p = matched.matches.pieces.counts p

  in-line : line_for s.profile (told_by outcome s cs)
      ≡ handed_out outcome (begun s) cs ++ still_out outcome (after_all outcome (begun s) cs)
  unfolding line_for events_of after_events drain_in drain state_of
  in-line =
      let x = after_all outcome (begun s) cs in
      let m = (drains x run.sane).matches told (handed_out outcome (begun s) cs) matched in
      matches-line _ (state_in (drained outcome x)) _ m.matches ∙ (rw (none_out x run.sane) (append-nil _))
    where
      nothing : (n : ℕ) (l : List Slot) → taking l ≡ none → drain_in n l ≡ []
      nothing zero l e = refl
      nothing (suc n) l e = rw e

      none_out : (x : Receiver) → Sane x → drain (state_in (drained outcome x)).slots ≡ []
      none_out x v = nothing _ _ (dry x v)

  one_list : OneList outcome s cs
  one_list = record {
    line = in-line;
    until_20 = gets-20 (after_all outcome (begun s) cs) run.sane;
    counts = run.counts (new_dated s.profile) [] (start-matches s);
    unfinished = same-open;
  }

-- For every two lists of receive, take, writing the unsent, writing the missing, dropping the unfinished, saving and resuming, each from a
-- receiver just made: document 01's demand 3.
pub demand-3 : (s t : Start) (cs ds : List Call) → Typed cs → Typed ds → Claim s t cs ds
demand-3 s t cs ds a b =
    record {
      first = one_list s cs a;
      second = one_list t ds b;
      ordered = λ B book w v c. (
        in_order s.profile B book (told_by outcome s cs) w c,
        in_order t.profile B book (told_by outcome t ds) v c,
      );
      begin = λ B book w v c up. begins s.profile t.profile B book (told_by outcome s cs) (told_by outcome t ds) w v c up;
    }
