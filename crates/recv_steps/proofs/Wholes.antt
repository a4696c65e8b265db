-- Whole frames in step 4: each way of the code, with the facts as it finds them.
-- Assumes nothing.
use Prim.Native.Nat.{ℕ, ◌<◌}
use mathlib.Core.Path.{◌≡◌, sym, ◌∙◌, ap}
use mathlib.Core.Bool.{Bool, true, false}
use mathlib.Core.List.{List}
use Rattle.base.specs.Limits.{max_ord_chans}
use Rattle.base.specs.Lists.{any}
use Rattle.frame.specs.declared.Placed.{Placed}
use Rattle.bare.specs.Frame.{Frame}
use Rattle.bare.specs.Bare.{memory_of}
use Rattle.cells.specs.Cell.{is_free, put_slot, slot_of}
use Rattle.cells.specs.Datagram.{Work, place, made, remember_in, roomy, Fate, early, due, free, fate_of, follows, readied, whole}
use Rattle.rows.specs.declared.Row.{Row}
use Rattle.row_slots.specs.Slots.{slots_in}
use Rattle.receiver.specs.declared.Nexts.{Nexts}
use Rattle.receiver.specs.Receive.{frame_in}
use Rattle.recv_memory.specs.Remembered.{remembered}
use Rattle.recv_steps.specs.declared.Tally.{Tally}
use Rattle.recv_steps.specs.declared.Course.{Course}
use Rattle.recv_steps.specs.declared.Course.TheVariants.{Late, Early, Due, Newer, Free}
use Rattle.recv_steps.specs.Work.{work_of, fate_is}
use Rattle.recv_steps.specs.CountChanges.{dropped_one, filled_up, made_one, Rises}
use Rattle.recv_steps.specs.Placing.{Stands, ReadablePlaced}
use Rattle.recv_steps.specs.Moves.{Changes, Moves, by_fate}
use Rattle.recv_steps.proofs.Changing.{put-none}
use Rattle.recv_steps.proofs.Moving.{moves-then, moves-drop, moves-place, moves-made, moves-remember, moves-roomy, moves-full}
use Rattle.recv_steps.proofs.Moving.{moves-by}

-- ---- room

-- A frame's row is put as use u and turn k; b tells whether there was room.
module _ (x : Tally) (rs rs' : List Row) (p : Placed) (u k : ℕ) (b : Bool) (h : (store d : List ℕ) → b ≡ any is_free (slots_in rs store d))
    (ch : (d : List ℕ) → Stands d p → Changes d (put_slot (slot_of (frame_in d p) u k)) rs rs') where
  -- There was none: nothing was put.
  pub put_full : b ≡ false → (g : Work → Work) (y : Tally) → y ≡ filled_up x → (ns : Nexts) (d : List ℕ) → Stands d p
      → Moves d (λ w. roomy w (g w)) x ns rs y ns rs'
  put_full t g y e ns d s = rw e (moves-full d x ns rs g b h t rs' (λ store. (ch d s).is store ∙ put-none (slot_of (frame_in d p) u k)
      (slots_in rs store d) (sym (h store d) ∙ t)) (ch d s).fits)

module _ (x : Tally) (rs rs' : List Row) (p : Placed) (b : Bool) (h : (store d : List ℕ) → b ≡ any is_free (slots_in rs store d)) where
  module _ (ch : (d : List ℕ) → Stands d p → Changes d (put_slot (slot_of (frame_in d p) 2 0)) rs rs') where
    pub early-full : b ≡ false → (y : Tally) → y ≡ filled_up x → (ns : Nexts) (d : List ℕ) → Stands d p
        → Moves d (whole early (frame_in d p)) x ns rs y ns rs'
    unfolding whole
    early-full t y e ns d s = put_full x rs rs' p 2 0 b h ch t (λ w. place (put_slot (slot_of (frame_in d p) 2 0) w.state.slots) w) y e ns
        d s

    pub early-put : b ≡ true → (ns : Nexts) (d : List ℕ) → Stands d p → Moves d (whole early (frame_in d p)) x ns rs x ns rs'
    unfolding whole work_of
    early-put t ns d s =
        moves-roomy d x ns rs (λ w. place (put_slot (slot_of (frame_in d p) 2 0) w.state.slots) w) b h t x ns rs'
        (moves-place d x ns rs rs' (λ w. put_slot (slot_of (frame_in d p) 2 0) w.state.slots) (λ a. (ch d s).is) (ch d s).fits)

  -- Put as a ready message.
  module _ (ch : (d : List ℕ) → Stands d p → Changes d (put_slot (slot_of (frame_in d p) 3 x.turn)) rs rs') where
    pub free-full : b ≡ false → (y : Tally) → y ≡ filled_up x → (ns : Nexts) (d : List ℕ) → Stands d p
        → Moves d (whole free (frame_in d p)) x ns rs y ns rs'
    unfolding whole readied
    free-full t y e ns d s = put_full x rs rs' p 3 x.turn b h ch t
        (λ w. made (put_slot (slot_of (frame_in d p) 3 w.turn) w.state.slots) w)
        y e ns d s

    pub due-full : b ≡ false → (y : Tally) → y ≡ filled_up x → (ns : Nexts) (d : List ℕ) → Stands d p
        → Moves d (whole due (frame_in d p)) x ns rs y ns rs'
    unfolding whole
    due-full t y e ns d s = put_full x rs rs' p 3 x.turn b h ch t
        (λ w. follows (frame_in d p).channel (made (put_slot (slot_of (frame_in d p) 3 w.turn) w.state.slots) w)) y e ns d s

    ready-put : (ns : Nexts) (d : List ℕ) → Stands d p
        → Moves d (λ w. made (put_slot (slot_of (frame_in d p) 3 w.turn) w.state.slots) w) x ns rs (made_one x) ns rs'
    unfolding work_of
    ready-put ns d s = moves-made d x ns rs rs' (λ w. put_slot (slot_of (frame_in d p) 3 w.turn) w.state.slots) (λ a. (ch d s).is)
        (ch d s).fits

    pub free-put : b ≡ true → (y : Tally) → y ≡ made_one x → (ns : Nexts) (d : List ℕ) → Stands d p
        → Moves d (whole free (frame_in d p)) x ns rs y ns rs'
    unfolding whole readied
    free-put t y e ns d s = rw e (moves-roomy d x ns rs (λ w. made (put_slot (slot_of (frame_in d p) 3 w.turn) w.state.slots) w) b h t
        (made_one x) ns rs' (ready-put ns d s))

    pub due-put : b ≡ true → (y z : Tally) → y ≡ made_one x
        → (ns ns' : Nexts) (rs'' : List Row) → ((d : List ℕ) → Moves d (follows p.frame.channel) y ns rs' z ns' rs'')
        → (d : List ℕ) → Stands d p → Moves d (whole due (frame_in d p)) x ns rs z ns' rs''
    unfolding whole frame_in
    due-put t y z e ns ns' rs'' f d s =
        moves-roomy d x ns rs (λ w. follows (frame_in d p).channel (made (put_slot (slot_of (frame_in d p) 3 w.turn) w.state.slots) w))
        b h t z ns' rs''
        (moves-then d (λ w. made (put_slot (slot_of (frame_in d p) 3 w.turn) w.state.slots) w) (follows (frame_in d p).channel) x
        (made_one x) z ns ns ns' rs rs' rs'' (ready-put ns d s) (rw e at (f d)))

-- ---- what step 4 found

module _ (x : Tally) (ns : Nexts) (rs : List Row) (p : Placed) (r : Course) (h : (x : Tally) (a : ℕ → Bool) (store d : List ℕ) → fate_is r
    ≡ fate_of (frame_in d p) (work_of a x ns rs store d)) where
  -- one of the five, and what is done then
  pub found-by : (g : Fate → Frame → Work → Work) (k : Course) → r ≡ k → (y : Tally) (ns' : Nexts) (rs' : List Row) (d : List ℕ)
      → Moves d (g (fate_is k) (frame_in d p)) x ns rs y ns' rs' → Moves d (by_fate g (frame_in d p)) x ns rs y ns' rs'
  found-by g k e y ns' rs' d m = moves-by d x ns rs g (frame_in d p) (fate_is k) (λ a store. ap fate_is (sym e) ∙ h x a store d) y ns' rs' m

  pub whole-late : r ≡ Late → (y : Tally) → y ≡ dropped_one x → (d : List ℕ) → Stands d p
      → Moves d (by_fate whole (frame_in d p)) x ns rs y ns rs
  unfolding whole fate_is
  whole-late e y ey d s = found-by whole Late e y ns rs d (rw ey (moves-drop d x ns rs))

  module _ (y : Tally) (rs' : List Row) where
    pub whole-early : r ≡ Early → ((ns : Nexts) (d : List ℕ) → Stands d p → Moves d (whole early (frame_in d p)) x ns rs y ns rs')
        → (d : List ℕ) → Stands d p → Moves d (by_fate whole (frame_in d p)) x ns rs y ns rs'
    unfolding fate_is
    whole-early e m d s = found-by whole Early e y ns rs' d (m ns d s)

    pub whole-due : r ≡ Due → (ns' : Nexts) → ((d : List ℕ) → Stands d p → Moves d (whole due (frame_in d p)) x ns rs y ns' rs')
        → (d : List ℕ) → Stands d p → Moves d (by_fate whole (frame_in d p)) x ns rs y ns' rs'
    unfolding fate_is
    whole-due e ns' m d s = found-by whole Due e y ns' rs' d (m d s)

    pub whole-newer : r ≡ Newer → {n : ℕ} → Rises n ns → ReadablePlaced p → p.frame.channel < max_ord_chans
        → (ns' : Nexts) → ns' ≡ remembered (memory_of ns.profile p.frame.kind p.frame.channel) p.frame.sequence ns
        → ((ns : Nexts) (d : List ℕ) → Stands d p → Moves d (whole free (frame_in d p)) x ns rs y ns rs') → (d : List ℕ)
        → Stands d p → Moves d (by_fate whole (frame_in d p)) x ns rs y ns' rs'
    unfolding fate_is whole
    whole-newer e rises fit lt ns' en f d s = found-by whole Newer e y ns' rs' d
        (moves-then d (remember_in (frame_in d p)) (readied (frame_in d p)) x x y ns ns' ns' rs rs rs'
        (rw en (moves-remember d x ns rs p rises.long lt fit.sequence)) (f ns' d s))

    pub whole-free : r ≡ Free → ((ns : Nexts) (d : List ℕ) → Stands d p → Moves d (whole free (frame_in d p)) x ns rs y ns rs')
        → (d : List ℕ) → Stands d p → Moves d (by_fate whole (frame_in d p)) x ns rs y ns rs'
    unfolding fate_is
    whole-free e m d s = found-by whole Free e y ns rs' d (m ns d s)
