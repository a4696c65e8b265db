-- What the frames of a datagram leave, refused or accepted, is what the definition leaves.
-- Assumes nothing.
use Prim.Native.Nat.{ℕ, ◌*◌, ◌≤◌, ◌<◌}
use mathlib.Core.Path.{◌≡◌, refl, sym, ◌∙◌, ap}
use mathlib.Core.Bool.{Bool, true, false}
use mathlib.Core.Option.{some}
use mathlib.Core.List.{List, [], ◌∷◌, map}
use native.Mathlib.Omega.{arith}
use lib.ListN.{length, get_or, replicate}
use mir.Syntax.{w8}
use mir.Val.{Fits}
use Rattle.std.specs.Prelude.{Result, Ok, Err}
use Rattle.base.specs.Answer.{gives}
use Rattle.base.specs.Bytes.{le24}
use Rattle.base.specs.declared.refusal.Refusal.{Refusal}
use Rattle.base.specs.declared.refusal.Refusal.TheVariants.{CellsFull, ReliableBeyond}
use Rattle.base.specs.Refusals.{answer_by}
use Rattle.base.specs.Limits.{numbers24, max_ord_chans}
use Rattle.base.specs.Lists.{count_of}
use Rattle.window.specs.Window as Window
use Rattle.window.specs.declared.ReliableWindow.{ReliableWindow}
use Rattle.cells.specs.Cell.{released_use}
use Rattle.cells.specs.Datagram.{Work, begin, grow, frames, datagram, end}
use Rattle.cells.proofs.Profile.{datagram-profile}
use Rattle.cells.specs.Records.{first_cell}
use Rattle.cells.specs.Store.{cell_size, cells_of, store_of}
use Rattle.rows.specs.declared.Row.{Row}
use Rattle.rows.specs.Rows.{cell_of, cells_in, stored_row, blank_row, change_rows}
use Rattle.rows.proofs.Rows.{cells-length}
use Rattle.row_tests.specs.Uses.{uses}
use Rattle.row_slots.proofs.Stored.{accepted-store, accepted-records}
use Rattle.row_bodies.specs.Flush.{flushed_rows, stored, settled, settled_rows}
use Rattle.row_bodies.proofs.Flushing.{all-flushed}
use Rattle.receiver.specs.declared.RecvQueue.{RecvQueue}
use Rattle.receiver.specs.declared.Nexts.{Nexts}
use Rattle.receiver.specs.Parts.{nexts_of, next_at, newest_at}
use Rattle.receiver.specs.Queue.{profile_in}
use Rattle.receiver.specs.Receive.{datagram_number, frames_in, bytes_left, accept_all, state_of, queue_after, accepted_result, receive_of}
use Rattle.receiver.proofs.Receives.{store_is}
use Rattle.recv_channel.specs.Advance.{advanced_all}
use Rattle.recv_lent.specs.Settled.{with_number, settled_of}
use Rattle.recv_lent.proofs.Settles.{accepted-settled}
use Rattle.recv_steps.specs.declared.Framed.{Framed}
use Rattle.recv_steps.specs.declared.Received.{Received}
use Rattle.recv_steps.specs.Work.{work_of}
use Rattle.recv_steps.specs.Frames.{begun_tally, Passes, Ran}
use Rattle.recv_steps.specs.Outcome.{report_of, found_in_frames, rows_left}
use Rattle.recv_steps.specs.Receives.{Receives, begun_rows}
use Rattle.recv_steps.specs.Core.{copies_kept, core_left, core_outcome}
use Rattle.recv_steps.proofs.CoreSettled.{part-settled}
use Rattle.recv_steps.proofs.Beginning.{begun-work}
use Rattle.recv_steps.specs.Receives.{Numbered}
use Rattle.recv_steps.proofs.Receiving.{accepted-is, refused-7, refused-8, refuses-worked}

-- The rows afterwards are those of the records that the definition leaves.
settled-rows : (rs : List Row) → settled_rows rs ≡ map stored_row (map cell_of (change_rows (uses released_use) (λ _. blank_row) rs))
unfolding settled_rows settled stored change_rows
settled-rows [] = refl
settled-rows (r ∷ rs) = ap (λ (l : List Row). settled r ∷ l) (settled-rows rs)

-- The datagram's number, from its bytes.
pub number-small : (d : List ℕ) → ((i : ℕ) → Fits w8 (get_or d i 0)) → datagram_number d < numbers24
unfolding le24
number-small d byte =
    let a : get_or d 1 0 < 256 = (byte 1).fits in
    let b : get_or d 2 0 < 256 = (byte 2).fits in
    let c : get_or d 3 0 < 256 = (byte 3).fits in
    omega arith

-- what an accepted datagram comes to
abbrev pub acceptance : Framed → Received
acceptance f = record { ready = f.counts.ready; dropped = f.counts.dropped; left = f.left }

-- ns: the nexts that the frames begin with
module _ (q : RecvQueue) (rows : List Row) (st d : List ℕ) {ascends : Bool} {number : ℕ} (n : Numbered q rows st d ascends number)
    {ns : Nexts} (own : ns ≡ nexts_of q) where
  profile-is : ns.profile ≡ profile_in q
  unfolding nexts_of
  profile-is = ap (λ (x : Nexts). x.profile) own

  -- A number beyond reach.
  pub beyond-reach : (turn : ℕ) (rs rs₁ : List Row) (r : Result Framed Refusal) (v : ReliableWindow) (ns₁ : Nexts)
      → Ran q.reliables ns rs turn d r v ns₁ rs₁ → {a : Refusal} → r ≡ Err a
      → length rs₁ ≡ length rows → {rs₂ : List Row} → rs₂ ≡ replicate (length rs₁) blank_row → Receives q rows st d (Err a) q rs₂ st
  unfolding Ran
  beyond-reach turn rs rs₁ r v ns₁ f {a} e many {rs₂} z = by (rw e at f)
    where
      by : Ran q.reliables ns rs turn d (Err a) v ns₁ rs₁ → Receives q rows st d (Err a) q rs₂ st
      by x = rw x.0 (refuses-worked q rows st d ReliableBeyond (unfold found_in_frames in refl)
          (n.goes ∙ refused-7 q (cells_in rows) st d (rw (sym profile-is) x.1)) rs₁ many z)

  store_long : length rows * cell_size ≤ length st
  store_long = omega (arith, rw (cells-length rows) at (store_is q (cells_in rows) st n.sound))

  module _ (turn : ℕ) (rs : List Row) (et : turn ≡ count_of first_cell (cells_in rows)) (er : rs ≡ begun_rows rows)
      (r : Result Framed Refusal) (v : ReliableWindow) (ns₁ : Nexts) (rs₁ : List Row)
      (f : Ran q.reliables ns rs turn d r v ns₁ rs₁) (fr : Framed)
      (e : r ≡ Ok fr) where
    ran : Passes q.reliables ns rs turn d fr.counts fr.left v ns₁ rs₁
    ran = unfold Ran in rw e at f

    work : Work
    work = datagram (state_of q (cells_in rows) st) (frames_in (profile_in q) d)

    abbrev after : Work
    after = work_of (Window.accepted v) fr.counts ns₁ rs₁ st d

    done : after ≡ work
    unfolding work datagram
    done = ran.is st ∙ (λ i. frames (begun i) (frames_in (profile-is i) d))
      where
        begun : work_of (Window.accepted q.reliables) (begun_tally turn) ns rs st d ≡ grow (begin (state_of q (cells_in rows) st))
        begun = rw (et, er, own) (begun-work q rows st d)

    reaches : accept_all q.reliables (frames_in (profile_in q) d) ≡ some v
    reaches = rw (sym profile-is) ran.reaches

    full_is : fr.counts.full ≡ work.full
    unfolding work_of
    full_is = ap (λ (z : Work). z.full) done

    -- A body found no cell.
    pub ran_out : fr.counts.full ≡ true → length rs₁ ≡ length rows → {rs₂ : List Row} → rs₂ ≡ replicate (length rs₁) blank_row
        → Receives q rows st d (Err CellsFull) q rs₂ st
    unfolding work
    ran_out t many z = refuses-worked q rows st d CellsFull (unfold found_in_frames in refl)
        (n.goes ∙ refused-8 q (cells_in rows) st d v reaches (sym full_is ∙ t)) rs₁ many z

    module _ (many : length rs₁ ≡ length rows) where
      store-left : length rs₁ * cell_size ≤ length st
      store-left = rw many store_long

      -- what the code writes back
      module _ (small : datagram_number d < numbers24) (channels : length q.channels ≡ max_ord_chans) (unsent : length q.unsent ≡ 1024)
          {rs₂ : List Row} (er₂ : rs₂ ≡ settled_rows rs₁) {st₂ : List ℕ} (es₂ : st₂ ≡ flushed_rows 0 rs₁ st d) {q' : RecvQueue}
          (eq : q' ≡ with_number (advanced_all q ns₁) v number ascends) where
        rows_are : rs₂ ≡ map stored_row (cells_of (end after).slots)
        rows_are = er₂ ∙ (settled-rows rs₁ ∙ ap (map stored_row) (sym (accepted-records rs₁ st d after (unfold work_of in refl))))

        store-is-flushed : st₂ ≡ store_of st after.state.slots
        store-is-flushed = es₂ ∙ (all-flushed d rs₁ st ran.fits store-left
            ∙ sym (accepted-store rs₁ st d after (unfold work_of in refl) ran.fits store-left))

        -- the receiver that the definition leaves, and its nexts
        abbrev given : RecvQueue
        given = queue_after q (datagram_number d) v (next_at ns₁) (newest_at ns₁)

        given-is : with_number (advanced_all q ns₁) v (datagram_number d) ascends ≡ given
        given-is = accepted-settled q channels unsent (datagram_number d) small n.fresh n.near n.room v ns₁ ran.nexts ascends n.rising

        profile-kept : ns₁.profile ≡ profile_in q
        unfolding work work_of state_of
        profile-kept = ap (λ (z : Work). z.state.profile) done
            ∙ datagram-profile (state_of q (cells_in rows) st) (frames_in (profile_in q) d)

        nexts-are : ns₁ ≡ nexts_of given
        unfolding nexts_of with_number advanced_all queue_after profile_in
        nexts-are = λ i. record { channels = (given-is i).channels; newest = (given-is i).newest; profile = profile-kept i }

        left_is : fr.left ≡ bytes_left (profile_in q) d
        left_is = ran.end ∙ ap (λ p. bytes_left p d) profile-is

        -- What the core leaves is what it is to leave.
        core-says : core_left (Ok (acceptance fr)) v ns₁ ascends rs₂ st₂ ≡ core_outcome q rows (accepted_result q st d v after)
        core-says = unfold core_left core_outcome copies_kept rows_left report_of accepted_result work_of queue_after in λ i. record {
          answer = gives (record { ready = fr.counts.ready; dropped = fr.counts.dropped; left = left_is i });
          copies = some (record { reliables = v; nexts = nexts-are i; rising = n.rising i });
          rows = rows_are i;
          store = store-is-flushed i;
        }

        pub is-accepted : fr.counts.full ≡ false → Receives q rows st d (Ok (acceptance fr)) q' rs₂ st₂
        is-accepted ne = rw settled-is (part-settled q rows st d (Ok (acceptance fr)) v ns₁ ascends rs₂ st₂ unsent small
            (core-says ∙ sym (ap (core_outcome q rows) defined)))
          where
            settled-is : q' ≡ settled_of q (answer_by report_of (Ok (acceptance fr))) v ns₁ ascends (datagram_number d)
            settled-is = unfold settled_of in eq ∙ ap (λ (m : ℕ). with_number (advanced_all q ns₁) v m ascends) n.is

            defined : receive_of q (cells_in rows) st d ≡ accepted_result q st d v after
            defined = n.goes ∙ accepted-is q (cells_in rows) st d v reaches (unfold work in sym full_is ∙ ne)
                ∙ (unfold work in rw done)
