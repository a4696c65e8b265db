-- What functions over counts, nexts and rows do to the working state, put together.
-- Assumes nothing.
use Prim.Native.Nat.{ℕ, ◌+◌, ◌<◌}
use Rattle.base.specs.Limits.{numbers24, max_ord_chans}
use mathlib.Core.Path.{◌≡◌, refl, sym, ◌∙◌, ap}
use mathlib.Core.Bool.{Bool, true, false}
use mathlib.Core.List.{List}
use lib.ListN.{length}
use Rattle.base.specs.Lists.{any}
use Rattle.bare.specs.Frame.{Frame}
use Rattle.cells.specs.Cell.{Slot, is_free}
use Rattle.frame.specs.declared.Placed.{Placed}
use Rattle.bare.specs.Bare.{memory_of}
use Rattle.cells.specs.Datagram.{Work, drop_one, fill_up, place, made, rise, remember_in, Fate, fate_of, roomy}
use Rattle.receiver.specs.declared.Nexts.{Nexts}
use Rattle.receiver.specs.Parts.{next_at}
use Rattle.receiver.specs.Receive.{frame_in}
use Rattle.receiver.proofs.NextsSet.{raised-length, profile-raised}
use Rattle.rows.specs.declared.Row.{Row}
use Rattle.row_slots.specs.Slots.{slots_in, AllFit}
use Rattle.recv_memory.specs.Remembered.{remembered}
use Rattle.recv_memory.proofs.Laws.{profile-remembered, remembered-length}
use Rattle.recv_steps.specs.declared.Tally.{Tally}
use Rattle.recv_steps.specs.Work.{work_of}
use Rattle.recv_steps.specs.CountChanges.{dropped_one, filled_up, made_one, risen}
use Rattle.recv_steps.specs.Moves.{Moves, by_fate}
use Rattle.recv_steps.proofs.CountChanges.{work-dropped, work-filled, work-made, work-risen, work-remembered}

module _ (d : List ℕ) where
  pub moves-then : (g h : Work → Work) (x y z : Tally) (ns ns' ns'' : Nexts) (rs rs' rs'' : List Row) → Moves d g x ns rs y ns' rs'
      → Moves d h y ns' rs' z ns'' rs'' → Moves d (λ w. h (g w)) x ns rs z ns'' rs''
  moves-then g h x y z ns ns' ns'' rs rs' rs'' m n = record {
    is = λ a store. n.is a store ∙ ap h (m.is a store);
    fits = λ v. n.fits (m.fits v);
    long = n.long ∙ m.long;
    profile = n.profile ∙ m.profile;
  }

  module _ (x : Tally) (ns : Nexts) (rs : List Row) where
    pub moves-drop : Moves d drop_one x ns rs (dropped_one x) ns rs
    moves-drop = record { is = λ a store. work-dropped a x ns rs store d; fits = λ v. v; long = refl; profile = refl }

    pub moves-rise : (c : ℕ) → length ns.channels ≡ max_ord_chans → c < max_ord_chans → Moves d (rise c) x ns rs x (risen c ns) rs
    moves-rise c long lt = record {
      is = λ a store. work-risen ns long c lt a x rs store d;
      fits = λ v. v;
      long = raised-length ns c (next_at ns c + 1);
      profile = profile-raised ns c (next_at ns c + 1);
    }

    pub moves-remember : (p : Placed) → length ns.channels ≡ max_ord_chans → p.frame.channel < max_ord_chans → p.frame.sequence < numbers24
        → Moves d (remember_in (frame_in d p)) x ns rs x
        (remembered (memory_of ns.profile p.frame.kind p.frame.channel) p.frame.sequence ns) rs
    moves-remember p long lt small = record {
      is = λ a store. work-remembered ns long p lt small a x rs store d;
      fits = λ v. v;
      long = remembered-length ns _ _ small;
      profile = profile-remembered ns _ _ small;
    }

    -- Other slots, and other slots that make a message ready: g may look at the working state, which has the slots of the rows.
    module _ (rs' : List Row) (g : Work → List Slot) (e : (a : ℕ → Bool) (store : List ℕ) → slots_in rs' store d
        ≡ g (work_of a x ns rs store d)) (f : AllFit d rs → AllFit d rs') where
      pub moves-place : Moves d (λ w. place (g w) w) x ns rs x ns rs'
      unfolding work_of place
      moves-place = record { is = λ a store. rw (e a store); fits = f; long = refl; profile = refl }

      pub moves-made : Moves d (λ w. made (g w) w) x ns rs (made_one x) ns rs'
      moves-made = record { is = λ a store. work-made a x ns rs' store d ∙ chosen a store; fits = f; long = refl; profile = refl }
        where
          chosen : (a : ℕ → Bool) (store : List ℕ) → made (work_of a x ns rs' store d).state.slots (work_of a x ns rs' store d)
              ≡ made (g (work_of a x ns rs store d)) (work_of a x ns rs store d)
          chosen a store = unfold work_of made in rw (e a store)

    -- Room is asked for.
    module _ (g : Work → Work) (b : Bool) (h : (store d : List ℕ) → b ≡ any is_free (slots_in rs store d)) where
      pub moves-roomy : b ≡ true → (y : Tally) (ns' : Nexts) (rs' : List Row) → Moves d g x ns rs y ns' rs' → Moves d (λ w. roomy w (g w))
          x ns rs y ns' rs'
      moves-roomy t y ns' rs' m = record {
        is = λ a store. m.is a store ∙ room a store;
        fits = m.fits;
        long = m.long;
        profile = m.profile;
      }
        where
          room : (a : ℕ → Bool) (store : List ℕ) → g (work_of a x ns rs store d) ≡ roomy (work_of a x ns rs store d)
              (g (work_of a x ns rs store d))
          room a store = unfold work_of roomy in rw (sym (h store d) ∙ t)

      -- there is none, and the slots stay
      pub moves-full : b ≡ false → (rs' : List Row) → ((store : List ℕ) → slots_in rs' store d ≡ slots_in rs store d)
          → (AllFit d rs → AllFit d rs') → Moves d (λ w. roomy w (g w)) x ns rs (filled_up x) ns rs'
      moves-full t rs' e f = record {
        is = λ a store. work-filled a x ns rs' store d ∙ room a store;
        fits = f;
        long = refl;
        profile = refl;
      }
        where
          room : (a : ℕ → Bool) (store : List ℕ) → fill_up (work_of a x ns rs' store d) ≡ roomy (work_of a x ns rs store d)
              (g (work_of a x ns rs store d))
          room a store = unfold work_of roomy fill_up in rw (sym (h store d) ∙ t, e store)

    -- What step 4 found decides.
    pub moves-by : (g : Fate → Frame → Work → Work) (f : Frame) (k : Fate)
        → ((a : ℕ → Bool) (store : List ℕ) → k ≡ fate_of f (work_of a x ns rs store d)) → (y : Tally) (ns' : Nexts) (rs' : List Row)
        → Moves d (g k f) x ns rs y ns' rs' → Moves d (by_fate g f) x ns rs y ns' rs'
    unfolding by_fate
    moves-by g f k e y ns' rs' m = record {
      is = λ a store. m.is a store ∙ ap (λ (z : Fate). g z f (work_of a x ns rs store d)) (e a store);
      fits = m.fits;
      long = m.long;
      profile = m.profile;
    }
