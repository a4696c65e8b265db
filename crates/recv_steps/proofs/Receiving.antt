-- The ways through a receive on rows: each refusal in its turn, as the code finds it.
-- Assumes nothing.
use Prim.Native.Nat.{ℕ, ◌≤◌, ◌<◌}
use mathlib.Core.Path.{◌≡◌, refl, sym, ◌∙◌, ap}
use mathlib.Core.Bool.{Bool, true, false, ◌&&◌}
use mathlib.Core.Option.{none, some}
use mathlib.Core.List.{List}
use lib.ListN.{length, get_or, replicate}
use Rattle.std.specs.Prelude.{Result, Ok, Err, MatchResult}
use Rattle.std.proofs.lemmas.Result.{MatchResult-at_ok, MatchResult-at_err}
use Rattle.base.specs.declared.refusal.Refusal.{Refusal}
use Rattle.base.specs.declared.refusal.Refusal.TheVariants.{Cut, TooLong, FirstByte, Old, Beyond, UnsentFull, NotSound}
use Rattle.base.specs.If.{if_true, if_lt, if_le}
use Rattle.base.specs.Refusals.{number_of}
use Rattle.base.specs.Limits.{min_datagram, max_datagram, max_unsent, window_places, max_ord_chans}
use Rattle.base.specs.Numbers.{distance}
use Rattle.base.proofs.Ifs.{true-yes, true-no}
use Rattle.ack.specs.Write.{ascending}
use Rattle.window.specs.declared.ReliableWindow.{ReliableWindow}
use Rattle.window.specs.Window.{accepted}
use Rattle.window.proofs.Accepted.{low-le}
use Rattle.cells.specs.Cell.{Cell}
use Rattle.cells.specs.Datagram.{datagram}
use Rattle.cells.specs.Sound.{sound_cells, lengths}
use Rattle.rows.specs.declared.Row.{Row}
use Rattle.rows.specs.Rows.{cells_in, blank_row}
use Rattle.rows.proofs.Rows.{cells-length}
use Rattle.receiver.specs.declared.RecvQueue.{RecvQueue}
use Rattle.receiver.specs.Queue.{next_in, next_of, profile_in, unsent_of, sound_queue}
use Rattle.receiver.specs.Receive.{Received, is_datagram, datagram_number, frames_in, accept_all, state_of, accepted_result}
use Rattle.receiver.specs.Receive.{refused_result, sound_call, receive_of}
use Rattle.receiver.proofs.AnswerCases.{by-true, by-lt, by_le}
use Rattle.sound_queue.specs.Sound.{told, queue_sound_of}
use Rattle.recv_steps.specs.Outcome.{received_rows, found_in_frames, rows_left, rows_outcome}
use Rattle.recv_steps.specs.Receives.{Receives, Numbered, worked, cells_of, head_of, fresh_of}

-- ---- a number that was not accepted is not below low
pub number_high : (q : RecvQueue) (number : ℕ) {b : Bool} → b ≡ accepted q.datagrams number → b ≡ false → q.datagrams.low ≤ number
number_high q number eb f = low-le q.datagrams number (sym eb ∙ f)

-- ---- what comes of a refusal or a value, where the refusals 1 to 3, 4 to 6 and 9 are asked
pass : {A : Type 0} → Result A Refusal → (ℕ → Received) → (A → Received) → Received
pass (Ok x) r f = f x
pass (Err a) r f = r (number_of a)

module _ (r : ℕ → Received) where
  pass_head : (a b c : Bool) (x : Received)
      → if_true a (r 1) (if_true b (r 2) (if_true c x (r 3)))
      ≡ pass (if_true a (Err Cut) (if_true b (Err TooLong) (if_true c (Ok (tt {0})) (Err FirstByte)))) r (λ _. x)
  unfolding if_true pass
  pass_head true b c x = refl
  pass_head false true c x = refl
  pass_head false false true x = refl
  pass_head false false false x = refl

  pass_fresh : (a b c : Bool) (n : ℕ) (x : Received)
      → if_true a (r 4) (if_true b (r 5) (if_true c (r 6) x))
      ≡ pass (if_true a (Err Old) (if_true b (Err Beyond) (if_true c (Err UnsentFull) (Ok n)))) r (λ _. x)
  unfolding if_true pass
  pass_fresh true b c n x = refl
  pass_fresh false true c n x = refl
  pass_fresh false false true n x = refl
  pass_fresh false false false n x = refl

  pass_sound : (a b rising : Bool) (x : Received)
      → if_true (a && b) x (r 9) ≡ pass (told a rising) r (λ _. pass (if_true b (Ok (tt {0})) (Err NotSound)) r (λ _. x))
  unfolding if_true pass
  pass_sound true true rising x = refl
  pass_sound true false rising x = refl
  pass_sound false b rising x = refl

-- ---- the definition's ways
pub refused-9 : (q : RecvQueue) (cs : List Cell) (st d : List ℕ) → sound_call q cs st ≡ false
    → receive_of q cs st d ≡ refused_result q cs st 9
unfolding receive_of
refused-9 q cs st d s = sym (true-no _ _ _ _ s refl)

-- 7 and 8, and an accepted datagram
module _ (q : RecvQueue) (cs : List Cell) (st d : List ℕ) where
  pub refused-7 : accept_all q.reliables (frames_in (profile_in q) d) ≡ none → worked q cs st d ≡ refused_result q cs st 7
  unfolding worked
  refused-7 e = rw e

  module _ (reliables : ReliableWindow) (e : accept_all q.reliables (frames_in (profile_in q) d) ≡ some reliables) where
    pub refused-8 : (datagram (state_of q cs st) (frames_in (profile_in q) d)).full ≡ true → worked q cs st d ≡ refused_result q cs st 8
    unfolding worked
    refused-8 f = rw e (sym (true-yes _ _ _ _ f refl))

    pub accepted-is : (datagram (state_of q cs st) (frames_in (profile_in q) d)).full ≡ false
        → worked q cs st d ≡ accepted_result q st d reliables (datagram (state_of q cs st) (frames_in (profile_in q) d))
    unfolding worked
    accepted-is f = rw e (sym (true-no _ _ _ _ f refl))

-- ---- refused before the frames and in them
module _ (q : RecvQueue) (rows : List Row) (st d : List ℕ) where
  -- A refusal before the frames leaves everything as it was.
  refuses : (a : Refusal) → found_in_frames (number_of a) ≡ false
      → receive_of q (cells_in rows) st d ≡ refused_result q (cells_in rows) st (number_of a)
      → Receives q rows st d (Err a) q rows st
  refuses a f e = record { is = rw e left }
    where
      left : received_rows (Err a) q rows st ≡ rows_outcome rows (refused_result q (cells_in rows) st (number_of a))
      left = unfold received_rows rows_outcome rows_left refused_result in rw f

  -- One that is found in the frames leaves as many blank rows.
  pub refuses-worked : (a : Refusal) → found_in_frames (number_of a) ≡ true
      → receive_of q (cells_in rows) st d ≡ refused_result q (cells_in rows) st (number_of a)
      → (worked : List Row) {rows' : List Row} → length worked ≡ length rows → rows' ≡ replicate (length worked) blank_row
      → Receives q rows st d (Err a) q rows' st
  refuses-worked a f e worked many v = record { is = rw (e, v, many) left }
    where
      left : received_rows (Err a) q (replicate (length rows) blank_row) st
          ≡ rows_outcome rows (refused_result q (cells_in rows) st (number_of a))
      left = unfold received_rows rows_outcome rows_left refused_result in rw f

  module _ (fit : lengths (length rows) (length st) ≡ true) where
    refuse : ℕ → Received
    refuse = refused_result q (cells_in rows) st

    goes-by : receive_of q (cells_in rows) st d
        ≡ pass (queue_sound_of q) refuse (λ _. pass (cells_of rows q.channels) refuse (λ _. pass (head_of d) refuse
        (λ _. pass (fresh_of q d) refuse (λ _. worked q (cells_in rows) st d))))
    unfolding receive_of sound_call queue_sound_of cells_of next_of head_of fresh_of worked if_lt if_le refuse
    goes-by = rw (cells-length rows, fit)
        (pass_sound refuse (sound_queue q) (sound_cells (cells_in rows) (next_in q.channels)) (ascending (unsent_of q)) _
        ∙ ap (λ x. pass (queue_sound_of q) refuse (λ _. pass (cells_of rows q.channels) refuse (λ _. x)))
        (pass_head refuse _ _ _ _ ∙ ap (λ x. pass (head_of d) refuse (λ _. x)) (pass_fresh refuse _ _ _ _ _)))

-- ---- what the code returns

-- it is not one of those that are found in the frames
abbrev Early : Refusal → Type 0
Early a = found_in_frames (number_of a) ≡ false

module _ (q : RecvQueue) (rows : List Row) (st d : List ℕ) where
  queue-tells : MatchResult (queue_sound_of q) (λ b. (sound_queue q ≡ true) × (b ≡ ascending (unsent_of q))) Early
  unfolding queue_sound_of found_in_frames
  queue-tells = by (sound_queue q)
    where
      by : (b : Bool) → MatchResult (told b (ascending (unsent_of q))) (λ r. (b ≡ true) × (r ≡ ascending (unsent_of q))) Early
      by true = (refl, refl)
      by false = refl

  cells-tell : MatchResult (cells_of rows q.channels) (λ _. sound_cells (cells_in rows) (next_of q) ≡ true) Early
  unfolding cells_of next_of found_in_frames
  cells-tell =
      let P : Result (Unit {0}) Refusal → Type 0 =
      λ r. MatchResult r (λ _. sound_cells (cells_in rows) (next_in q.channels) ≡ true) Early in
      by-true P (sound_cells (cells_in rows) (next_in q.channels)) (λ t. t) (λ f. refl)

  head-tells : MatchResult (head_of d) (λ _. length d ≤ max_datagram) Early
  unfolding head_of found_in_frames
  head-tells =
      let P : Result (Unit {0}) Refusal → Type 0 = λ r. MatchResult r (λ _. length d ≤ max_datagram) Early in
      by-lt P (length d) min_datagram (λ l. refl) (λ l. by-lt P max_datagram (length d) (λ m. refl)
      (λ m. by-true P (is_datagram (get_or d 0 0)) (λ t. m) (λ f. refl)))

  abbrev Fresh : ℕ → Type 0
  Fresh n = (n ≡ datagram_number d) × ((accepted q.datagrams n ≡ false)
      × ((distance q.datagrams.low n ≤ window_places) × (q.pending < max_unsent)))

  fresh-tells : MatchResult (fresh_of q d) Fresh Early
  unfolding fresh_of found_in_frames
  fresh-tells =
      let P : Result ℕ Refusal → Type 0 = λ r. MatchResult r Fresh Early in
      by-true P (accepted q.datagrams (datagram_number d)) (λ t. refl) (λ f. by-lt P window_places _ (λ m. refl)
      (λ m. by_le P max_unsent q.pending (λ u. refl) (λ u. (refl, (f, (m, u))))))

  module _ (fit : lengths (length rows) (length st) ≡ true) where
    pub queue_refuses : (a : Refusal) → Err a ≡ queue_sound_of q → Receives q rows st d (Err a) q rows st
    unfolding pass refuse
    queue_refuses a e = refuses q rows st d a (MatchResult-at_err _ _ _ (sym e) queue-tells) (goes-by q rows st d fit ∙ rw (← e))

    module _ {ascends : Bool} (eq : Ok ascends ≡ queue_sound_of q) where
      pub cells_refuse : (a : Refusal) → Err a ≡ cells_of rows q.channels → Receives q rows st d (Err a) q rows st
      unfolding pass refuse
      cells_refuse a e = refuses q rows st d a (MatchResult-at_err _ _ _ (sym e) cells-tell)
          (goes-by q rows st d fit ∙ rw (← eq, ← e))

      module _ (ec : Ok tt ≡ cells_of rows q.channels) where
        pub head_refuses : (a : Refusal) → Err a ≡ head_of d → Receives q rows st d (Err a) q rows st
        unfolding pass refuse
        head_refuses a e = refuses q rows st d a (MatchResult-at_err _ _ _ (sym e) head-tells)
            (goes-by q rows st d fit ∙ rw (← eq, ← ec, ← e))

        module _ (eh : Ok tt ≡ head_of d) where
          pub number_refuses : (a : Refusal) → Err a ≡ fresh_of q d → Receives q rows st d (Err a) q rows st
          unfolding pass refuse
          number_refuses a e = refuses q rows st d a (MatchResult-at_err _ _ _ (sym e) fresh-tells)
              (goes-by q rows st d fit ∙ rw (← eq, ← ec, ← eh, ← e))

          pub is_numbered : length q.channels ≡ max_ord_chans → {number : ℕ} → Ok number ≡ fresh_of q d
              → Numbered q rows st d ascends number
          unfolding sound_call pass
          is_numbered channels {number} e =
              let s = MatchResult-at_ok _ _ _ (sym eq) queue-tells in
              let n = MatchResult-at_ok _ _ _ (sym e) fresh-tells in
              record {
                sound = rw (cells-length rows, fit, s.0) (MatchResult-at_ok _ _ _ (sym ec) cells-tell);
                rising = s.1;
                short = MatchResult-at_ok _ _ _ (sym eh) head-tells;
                is = n.0;
                fresh = rw (← n.0) n.1.0;
                near = rw (← n.0) n.1.1.0;
                room = n.1.1.1;
                channels = channels;
                goes = goes-by q rows st d fit ∙ rw (← eq, ← ec, ← eh, ← e);
              }

-- what the refusals before the frames need
pub ruleset refusals = (queue_refuses, cells_refuse, head_refuses, number_refuses)
