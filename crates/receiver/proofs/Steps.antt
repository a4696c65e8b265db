-- What each call does: a sane receiver stays sane, and a bare receiver that matches it and is told what the call did matches it again.
-- Assumes nothing.
use Prim.Native.Nat.{ℕ, ◌^◌, ◌≤◌, ◌<◌}
use mathlib.Core.Path.{◌≡◌, refl, sym, ◌∙◌, ap, subst}
use mathlib.Core.Bool.{Bool, true, false}
use mathlib.Core.Option.{Option, some}
use mathlib.Core.List.{List, [], ◌∷◌, ◌++◌, append-nil, Memᴰ}
use lib.ListN.{length, length-map}
use Rattle.base.specs.Answer.{Answer, refused, gives}
use Rattle.base.specs.Bytes.{Bytes}
use Rattle.base.specs.Limits.{max_age}
use Rattle.base.specs.Lists.{count_of}
use Rattle.base.proofs.Choices.{and_right, and_both}
use Rattle.bare.specs.Frame.{Message}
use Rattle.bare.specs.Unfinished.{Dated, receive_dated, stale_pieces, happens, after_events}
use Rattle.ack.specs.Write.{write_list_of}
use Rattle.window.specs.Missing.{missing}
use Rattle.cells.specs.Cell.{Cell, Slot, ready_as, freed}
use Rattle.cells.specs.Ages as ages
use Rattle.cells.specs.Datagram.{State, datagram}
use Rattle.cells.specs.Sound.{sound, sound_cells, sound_nexts, sound_memories, lengths}
use Rattle.cells.specs.Store.{slots_of, cells_of}
use Rattle.cells.specs.Take.{Taken, taking}
use Rattle.cells.proofs.Matching.{ready-count, dropped-count}
use Rattle.cells.proofs.Dating.{DatedMatches, receive-dated, take-dated, drop-dated, drop-count}
use Rattle.cells.proofs.Records.{count-cells}
use Rattle.cells.proofs.SoundKept.{take-sound}
use Rattle.cells.proofs.Store.{take-shaped, cells-slots, drop-read}
use Rattle.image.specs.Image.{Image, image_bytes, read_image}
use Rattle.image.specs.Slots.{used_slots}
use Rattle.image.proofs.ImageBytes.{write-then-read}
use Rattle.receiver.specs.declared.RecvQueue.{RecvQueue}
use Rattle.receiver.specs.Queue.{next_of, newest_of, profile_in, unsent_of, sound_queue}
use Rattle.receiver.specs.Receive.{Received, frames_in, state_of, accepted_result, refused_result, sound_call, receive_of}
use Rattle.receiver.specs.Take.{TakeResult, take_refuses, take_of}
use Rattle.receiver.specs.Write.{Wrote, when_given, emptied, write_of, sorted, write_unsent_of, write_missing_of}
use Rattle.receiver.specs.Drop.{DropResult, drop_unfinished_of}
use Rattle.receiver.specs.Save.{image_of, Saved, save_of}
use Rattle.receiver.specs.Restore.{restored, valid, Restored, restore_refuses, restore_of}
use Rattle.receiver.specs.Calls.{Call, receive, take_with, write_unsent, write_missing, drop_unfinished, save, resume, Done, accepted}
use Rattle.receiver.specs.Receiver.{Receiver}
use Rattle.receiver.specs.Calls as calls
use Rattle.receiver.specs.Calls.{Outcome, accepted_by, took_of, dropped_by, outcome, receive_outcome, take_outcome, write_outcome}
use Rattle.receiver.specs.Calls.{drop_outcome, save_outcome, restored_or, restore_outcome, resume_outcome, event_of, events_of}
use Rattle.receiver.specs.Calls.{bare_answers}
use Rattle.receiver.specs.Claim.{Typed}
use Rattle.receiver.proofs.Queues.{good-sound, emptied-good}
use Rattle.receiver.proofs.AnswerCases as ways
use Rattle.receiver.proofs.AnswerCases.{by-true, receive-ways, Found, take-ways}
use Rattle.receiver.proofs.Receives as receives
use Rattle.receiver.proofs.Receives.{state_in, Sane, lengths-sound, cells-sound, other-records, read_freed, slots-fit, accepted-state}
use Rattle.receiver.proofs.Receives.{accepted-sane}
use Rattle.receiver.proofs.Receives.{nexts-sound, memories-sound, queue-sound}
use Rattle.receiver.proofs.Hands.{Gave, take-taken, handed-ways}
use Rattle.receiver.proofs.Drops.{kept_past, drop-ways, kept-sound}
use Rattle.receiver.proofs.Equal.{fits}
use Rattle.receiver.proofs.Exact.{valid-room}
use Rattle.receiver.proofs.Restores.{restored-sane}
use Rattle.receiver.proofs.Resumes.{resumed-matches}
use Rattle.receiver.proofs.RestoreAnswers.{restore-ways}
use Rattle.receiver.proofs.SaveAnswers.{put-first, save-ways}
use Rattle.receiver.proofs.Sanes.{sane-sound}

-- Calls made on x leave y, handed out these messages and did this.
pub record Step (x y : Receiver) (handed : List Message) (done : List Done) : Type 0 where
  pub sane : Sane y
  pub matches : (d : Dated) (h : List Message) → DatedMatches d (state_in x) h
      → DatedMatches (after_events d (events_of done)) (state_in y) (h ++ handed)
  pub counts : (d : Dated) (h : List Message) → DatedMatches d (state_in x) h → done ≡ bare_answers d done

abbrev Leaves : Receiver → Outcome → Type 0
Leaves x o = Step x o.left o.handed o.done

-- A call that the bare receiver does not see.
quiet : (x y : Receiver) → Sane y → state_in y ≡ state_in x → Step x y [] []
unfolding events_of after_events bare_answers
quiet x y v e = record {
  sane = v;
  matches = λ d h m. rw (append-nil h) (subst (λ (s : State). DatedMatches d s h) (sym e) m);
  counts = λ d h m. refl;
}

-- ---- receive
accepts : (x : Receiver) (d : List ℕ) → Bytes d → Sane x → (a : ways.Accepted x.queue x.records x.store d)
    → Step x (receives.accepted_by x d a) [] (accepted (record {
      frames = frames_in (profile_in x.queue) d;
      ready = (datagram (state_in x) (frames_in (profile_in x.queue) d)).counts.ready;
      dropped = (datagram (state_in x) (frames_in (profile_in x.queue) d)).counts.dropped;
    }) ∷ [])
unfolding event_of events_of happens after_events bare_answers
accepts x d by v a = record {
  sane = accepted-sane x d by v a;
  matches = λ b h m. rw (append-nil h)
      (subst (λ (s : State). DatedMatches (receive_dated (frames_in (profile_in x.queue) d) b) s h) (sym (accepted-state x d by v a))
      (receive-dated m (frames_in (profile_in x.queue) d) a.fits));
  counts = λ b h m i. accepted (record {
    frames = frames_in (profile_in x.queue) d;
    ready = ready-count b.bare (state_in x) h m.matches (frames_in (profile_in x.queue) d) a.fits i;
    dropped = dropped-count b.bare (state_in x) h m.matches (frames_in (profile_in x.queue) d) a.fits i;
  }) ∷ [];
}

receives-one : (x : Receiver) (d : List ℕ) → Bytes d → Sane x → Leaves x
    (receive_outcome (profile_in x.queue) d (receive_of x.queue x.records x.store d))
unfolding receive_outcome
receives-one x d by v =
    receive-ways x.queue x.records x.store d (λ (r : Received). Leaves x (receive_outcome (profile_in x.queue) d r))
    (λ number. unfold refused_result accepted_by in quiet x x v refl)
    (λ a. unfold accepted_result accepted_by receives.accepted_by in accepts x d by v a)

-- ---- take
module _ (x : Receiver) (v : Sane x) (f : Found x.records x.store) where
  -- the slots and the records that it leaves
  taken : Taken
  taken = record { message = f.message; slots = freed (ready_as f.turn) (slots_of x.records x.store) }

  is-taken : taking (slots_of x.records x.store) ≡ some taken
  unfolding taken
  is-taken = take-taken x.records x.store f

  rest : List Cell
  rest = cells_of taken.slots

  read_back : slots_of rest x.store ≡ taken.slots
  unfolding rest taken
  read_back = read_freed x.queue x.records x.store v.sound (ready_as f.turn)

  kept : sound rest (next_of x.queue) ≡ true
  unfolding rest
  kept = take-sound (next_of x.queue) (slots_of x.records x.store) taken
      (rw (cells-slots x.records x.store) (cells-sound x.queue x.records x.store v.sound)) is-taken

  long : length rest ≡ length x.records
  unfolding rest cells_of
  long = length-map taken.slots (λ (s : Slot). s.cell) ∙ (take-shaped (length x.records) (slots_of x.records x.store) taken
      (slots-fit x.queue x.records x.store v.sound) is-taken).many

  hands : Step x (record { queue = x.queue; records = rest; store = x.store }) (f.message ∷ []) []
  unfolding events_of after_events bare_answers state_of
  hands = record {
    sane = record { good = v.good; sound = other-records x.queue x.records x.store v.sound rest long kept };
    matches = λ d h m. rw read_back (unfold taken in take-dated m taken is-taken);
    counts = λ d h m. refl;
  }

takes_one : (x : Receiver) (buffer : List ℕ) → Sane x → Leaves x (take_outcome x (take_of x.queue x.records x.store buffer))
unfolding take_outcome
takes_one x buffer v =
    take-ways x.queue x.records x.store buffer (λ (r : TakeResult). Leaves x (take_outcome x r))
    (λ number. same number)
    (λ f. handed-ways x.records x.store f buffer (λ (r : TakeResult). Leaves x (take_outcome x r))
    (λ ne l. same 12) (λ r g. given f r g))
  where
    same : (number : ℕ) → Leaves x (take_outcome x (take_refuses x.records buffer number))
    same number = unfold take_outcome took_of in quiet x x v refl

    given : (f : Found x.records x.store) (r : TakeResult) → Gave x.records x.store f buffer r → Leaves x (take_outcome x r)
    given f r g = unfold take_outcome in rw (g.hands, g.records) (unfold rest taken in hands x v f)

-- ---- writings
abbrev With : Receiver → RecvQueue → Type 0
With x q = Step x (record { queue = q; records = x.records; store = x.store }) [] []

writes_one : (x : Receiver) → Sane x → (next : RecvQueue) (nack : Bool) (l out : List ℕ) → With x next
    → Leaves x (write_outcome x (write_of x.queue next nack l out))
unfolding write_outcome write_of
writes_one x v next nack l out k =
    by-true (λ (w : Wrote). With x w.queue) (sound_queue x.queue) (λ t. go (write_list_of (length out) nack l)) (λ t. quiet x x v refl)
  where
    go : (r : Answer ℕ) → With x (when_given r next x.queue)
    go (refused n) = quiet x x v refl
    go (gives n) = k

empties : (x : Receiver) → Sane x → With x (emptied x.queue)
empties x v = quiet x _ (record { good = emptied-good x.queue v.good; sound = kept-sound })
    (unfold state_of emptied next_of newest_of profile_in in refl)
  where
    nexts : sound_nexts (next_of (emptied x.queue)) ≡ true
    nexts = unfold emptied next_of in nexts-sound x.queue (queue-sound x.queue x.records x.store v.sound)

    memories : sound_memories (newest_of (emptied x.queue)) ≡ true
    memories = unfold emptied newest_of in memories-sound x.queue (queue-sound x.queue x.records x.store v.sound)

    cells-kept : sound_cells x.records (next_of (emptied x.queue)) ≡ true
    cells-kept = unfold emptied next_of in and_right (sound_queue x.queue) (sound_cells x.records (next_of x.queue))
        (unfold sound_call in and_right (lengths (length x.records) (length x.store)) _ v.sound)

    kept-sound : sound_call (emptied x.queue) x.records x.store ≡ true
    kept-sound = unfold sound_call in
        and_both (lengths (length x.records) (length x.store)) _ (lengths-sound x.queue x.records x.store v.sound)
        (and_both (sound_queue (emptied x.queue)) _ (good-sound (emptied x.queue) (emptied-good x.queue v.good) nexts memories)
        cells-kept)

-- ---- drop
module _ (x : Receiver) (v : Sane x) (n : ℕ) (lt : n < max_age) where
  cells-are : sound (cells_of (slots_of x.records x.store)) (next_of x.queue) ≡ true
  cells-are = rw (cells-slots x.records x.store) (cells-sound x.queue x.records x.store v.sound)

  frees : Step x (record { queue = x.queue; records = kept_past n x.records; store = x.store }) []
      (calls.freed (record { past = n; cells = count_of (ages.is_stale n) x.records }) ∷ [])
  unfolding event_of events_of happens after_events bare_answers state_of
  frees = record {
    sane = record { good = v.good; sound = kept-sound x.queue x.records x.store n v.sound };
    matches = λ d h m. rw (append-nil h, drop-read n x.records x.store) (drop-dated m cells-are n lt);
    counts = λ d h m i. calls.freed (record { past = n; cells = count-is d h m i }) ∷ [];
  }
    where
      count-is : (d : Dated) (h : List Message) → DatedMatches d (state_in x) h → count_of (ages.is_stale n) x.records ≡ stale_pieces n d
      count-is d h m = ap (count_of (ages.is_stale n)) (sym (cells-slots x.records x.store))
          ∙ (count-cells (ages.is_stale n) (slots_of x.records x.store) ∙ drop-count m cells-are n lt)

-- "n has 32 bits; the age kept for an id stops at 2^32, which no n reaches."
below-max-age : (n : ℕ) → n < 2 ^ 32 → n < max_age
below-max-age n lt = lt

drops_one : (x : Receiver) (n : ℕ) → n < max_age → Sane x → Leaves x (drop_outcome x n (drop_unfinished_of x.queue x.records x.store n))
unfolding drop_outcome
drops_one x n lt v =
    drop-ways x.queue x.records x.store n (λ (r : DropResult). Leaves x (drop_outcome x n r))
    (λ s. unfold dropped_by in quiet x x v refl)
    (λ s. unfold dropped_by in frees x v n lt)

-- ---- save and resume
saves-one : (x : Receiver) (out : List ℕ) → Sane x → Leaves x (save_outcome x (save_of x.queue x.records x.store out))
unfolding save_outcome
saves-one x out v = quiet x x v refl

module _ (x : Receiver) (v : Sane x) (out : List ℕ) (y : Receiver) where
  abbrev bytes : List ℕ
  bytes = image_bytes (image_of x)

  -- over cells that it fits into
  resumes-on : (i : Image) → lengths (length y.records) (length y.store) ≡ true → read_image bytes ≡ some i
      → valid (length y.records) y.store i ≡ true → Step x (restored (length y.records) y.store i) [] []
  unfolding events_of after_events bare_answers
  resumes-on i len r u = subst (λ (j : Image). Step x (restored (length y.records) y.store j) [] []) (sym is) (record {
    sane = restored-sane x v (length y.records) y.store len room;
    matches = λ d h m. rw (append-nil h) (resumed-matches x v (length y.records) y.store len room d h m);
    counts = λ d h m. refl;
  })
    where
      is : i ≡ image_of x
      is = let e : ◌≡◌ {A = Option Image} (some (image_of x)) (some i) =
          sym (write-then-read (image_of x) (fits x (sane-sound x v))) ∙ r in cc

      room : length (used_slots (image_of x)) ≤ length y.records
      room = valid-room (length y.records) y.store (image_of x) (subst (λ (j : Image). valid (length y.records) y.store j ≡ true) is u)

  restores-one : Leaves x (restore_outcome x (restore_of y.queue y.records y.store bytes))
  restores-one =
      restore-ways y bytes (λ (r : Restored). Leaves x (restore_outcome x r))
      (λ s. refuses 9) (λ s c. refuses 21) (λ s i r b. refuses 22)
      (λ len i r u. unfold restore_outcome restored_or in resumes-on i len r u)
    where
      refuses : (n : ℕ) → Leaves x (restore_outcome x (restore_refuses y n))
      refuses n = unfold restore_outcome restored_or in quiet x x v refl

  resumes-one : Leaves x (resume_outcome x y (save_of x.queue x.records x.store out))
  resumes-one =
      save-ways x out (λ (r : Saved). Leaves x (resume_outcome x y r))
      (λ s. unfold resume_outcome save_outcome in quiet x x v refl)
      (λ s lt. unfold resume_outcome save_outcome in quiet x x v refl)
      (λ s le. unfold resume_outcome in rw (put-first out bytes le) restores-one)

-- Every call, on a datagram of bytes or a number of 32 bits, from a sane receiver.
pub steps : (c : Call) (x : Receiver) → Typed (c ∷ []) → Sane x → Step x (outcome x c).left (outcome x c).handed (outcome x c).done
unfolding outcome
steps (receive d) x t v = receives-one x d (t.bytes d (Memᴰ.head refl)) v
steps (take_with buffer) x t v = takes_one x buffer v
steps (write_unsent out) x t v = unfold write_unsent_of in
    writes_one x v (emptied x.queue) false (sorted (unsent_of x.queue)) out (empties x v)
steps (write_missing out) x t v = unfold write_missing_of in
    writes_one x v x.queue true (missing x.queue.datagrams) out (quiet x x v refl)
steps (drop_unfinished n) x t v = drops_one x n (below-max-age n (t.numbers n (Memᴰ.head refl))) v
steps (save out) x t v = saves-one x out v
steps (resume out y) x t v = resumes-one x v out y
