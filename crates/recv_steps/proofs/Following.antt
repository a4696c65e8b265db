-- The held messages that follow: the turns of the loop.
-- Assumes nothing.
use Prim.Native.Nat.{ℕ, zero, suc, ◌+◌, ◌-◌, ◌≤◌, ◌<◌}
use mathlib.Core.Path.{◌≡◌, refl, sym, ◌∙◌, ap}
use mathlib.Core.Bool.{Bool, true, false, cond, true≢false}
use mathlib.Core.List.{List, [], ◌∷◌, map}
use native.Mathlib.Omega.{arith}
use lib.ListN.{length}
use Rattle.base.specs.Limits.{max_ord_chans, max_cells}
use Rattle.base.specs.Lists.{any}
use Rattle.base.proofs.Choices.{cases}
use Rattle.cells.specs.Cell.{Cell, held_as, bears, turn_to}
use Rattle.cells.specs.Datagram.{Work, rise, made, is_held, go_on, cascade, follows}
use Rattle.rows.specs.declared.Row.{Row}
use Rattle.rows.specs.Rows.{cell_of, cells_in, mark_row, change_row, change_rows}
use Rattle.row_slots.specs.Slots.{slots_in, AllFit}
use Rattle.row_slots.proofs.Meaning.{slots-in-length}
use Rattle.row_slots.proofs.Tests.{held_rows}
use Rattle.receiver.specs.declared.Nexts.{Nexts}
use Rattle.receiver.specs.Parts.{next_at}
use Rattle.receiver.proofs.NextsSet.{profile-raised}
use Rattle.recv_steps.specs.declared.Tally.{Tally}
use Rattle.recv_steps.specs.Work.{work_of}
use Rattle.recv_steps.specs.CountChanges.{made_one, risen, CanCount, Rises}
use Rattle.recv_steps.specs.Moves.{Changes, Moves}
use Rattle.recv_steps.proofs.CountChanges.{counts-fewer, counts-made, rises_fewer, rises-risen}
use Rattle.recv_steps.proofs.Changing.{turn-changes}
use Rattle.recv_steps.proofs.Moving.{moves-then, moves-made, moves-rise}

-- One held message made ready, and next raised.
goes_on : (rs rs' : List Row) (x y : Tally) (ns ns' : Nexts) (c n : ℕ) → length ns.channels ≡ max_ord_chans → c < max_ord_chans
    → n ≡ next_at ns c → rs' ≡ change_rows (bears (held_as c n)) (mark_row 3 x.turn) rs → ns' ≡ risen c ns → y ≡ made_one x
    → (d : List ℕ) → Moves d (go_on c) x ns rs y ns' rs'
unfolding go_on
goes_on rs rs' x y ns ns' c n long lt en e em ey d =
    rw (em, ey)
    (moves-then d (λ w. made (turn_to (held_as c (w.state.next c)) 3 w.turn w.state.slots) w) (rise c) x (made_one x) (made_one x) ns
    ns (risen c ns) rs rs' rs'
    (moves-made d x ns rs rs' (λ w. turn_to (held_as c (w.state.next c)) 3 w.turn w.state.slots) at ch.fits)
    (moves-rise d (made_one x) ns rs' c long lt))
  where
    ch : Changes d (turn_to (held_as c n) 3 x.turn) rs rs'
    ch = turn-changes d (held_as c n) 3 x.turn rs rs' (omega arith) e

    at : (a : ℕ → Bool) (store : List ℕ)
        → slots_in rs' store d ≡ turn_to (held_as c ((work_of a x ns rs store d).state.next c)) 3
        (work_of a x ns rs store d).turn (work_of a x ns rs store d).state.slots
    at a store = unfold work_of in rw (← en) (ch.is store)

-- Where none is held, the sweep changes nothing.
none-turned : (p : Cell → Bool) (g : Row → Row) (rs : List Row) → any p (map cell_of rs) ≡ false → change_rows p g rs ≡ rs
unfolding any change_rows change_row
none-turned p g [] e = refl
none-turned p g (r ∷ rs) e = cases (p (cell_of r)) (λ t. absurd (true≢false (rw t at e)))
    (λ t. rw t (ap (λ (l : List Row). r ∷ l) (none-turned p g rs (rw t at e))))

-- What is left to do gives what was to be done at first.
pub record Following (c : ℕ) (left₀ : ℕ) (x₀ : Tally) (ns₀ : Nexts) (rs₀ : List Row) (left : ℕ) (x : Tally) (ns : Nexts) (rs : List Row)
    : Type 0 where
  pub counts : CanCount left x
  pub rises : Rises left ns
  pub long : length rs ≡ length rs₀
  pub profile : ns.profile ≡ ns₀.profile
  pub is : (a : ℕ → Bool) (store d : List ℕ) → cascade left c (work_of a x ns rs store d)
      ≡ cascade left₀ c (work_of a x₀ ns₀ rs₀ store d)
  pub fits : (d : List ℕ) → AllFit d rs₀ → AllFit d rs

-- The loop begins after next was raised, with as many turns as there are rows.
pub following-begins : (c : ℕ) (x : Tally) (ns ns₀ : Nexts) (rs : List Row) → c < max_ord_chans → length rs ≤ max_cells
    → CanCount (max_cells + 1) x
    → Rises (max_cells + 1) ns → ns₀ ≡ risen c ns
    → (left : ℕ) → left ≡ length rs → Following c (length rs) x ns₀ rs left x ns₀ rs
following-begins c x ns ns₀ rs lt le v r e left el = rw el (record {
  counts = counts-fewer x (length rs) (max_cells + 1) (omega arith) v;
  rises = rw e (rises-risen ns (length rs) c lt (rises_fewer ns (length rs + 1) (max_cells + 1) (omega arith) r));
  long = refl;
  profile = refl;
  is = λ a store d. refl;
  fits = λ d v. v;
})

module _ (c left₀ : ℕ) (x₀ : Tally) (ns₀ : Nexts) (rs₀ : List Row) (left : ℕ) (x : Tally) (ns : Nexts) (rs : List Row)
    (f : Following c left₀ x₀ ns₀ rs₀ left x ns rs) where
  held : (n : ℕ) → n ≡ next_at ns c → (b : Bool) → b ≡ any (bears (held_as c n)) (cells_in rs) → (a : ℕ → Bool) (store d : List ℕ)
      → is_held c ((work_of a x ns rs store d).state.next c) (work_of a x ns rs store d).state.slots ≡ b
  unfolding work_of cells_in
  held n en b eb a store d = rw (← en) (held_rows rs store d c n ∙ sym eb)

  pub following-goes : 0 < left → c < max_ord_chans → (n : ℕ) → n ≡ next_at ns c → {k : ℕ} → k ≡ c
      → (b : Bool) → b ≡ any (bears (held_as k n)) (cells_in rs) → b ≡ true → (y : Tally) (ns' : Nexts) (rs' : List Row)
      → length rs' ≡ length rs → rs' ≡ change_rows (bears (held_as k n)) (mark_row 3 x.turn) rs → ns' ≡ risen c ns → y
      ≡ made_one x → (less : ℕ) → less ≡ left - 1 → Following c left₀ x₀ ns₀ rs₀ less y ns' rs'
  unfolding cascade
  following-goes pos lt n en ek b eb t y ns' rs' long e em ey less el = rw el (record {
    counts = rw ey (counts-made x (left - 1) (counts-fewer x (left - 1 + 1) left (omega arith) f.counts));
    rises = rw em (rises-risen ns (left - 1) c lt (rises_fewer ns (left - 1 + 1) left (omega arith) f.rises));
    long = long ∙ f.long;
    profile = (m []).profile ∙ f.profile;
    is = λ a store d. step a store d left pos (f.is a store d);
    fits = λ d v. (m d).fits (f.fits d v);
  })
    where
      m : (d : List ℕ) → Moves d (go_on c) x ns rs y ns' rs'
      m = goes_on rs rs' x y ns ns' c n f.rises.long lt en (rw ek at e) em ey

      step : (a : ℕ → Bool) (store d : List ℕ) (k : ℕ) → 0 < k → cascade k c (work_of a x ns rs store d)
          ≡ cascade left₀ c (work_of a x₀ ns₀ rs₀ store d) → cascade (k - 1) c (work_of a y ns' rs' store d)
          ≡ cascade left₀ c (work_of a x₀ ns₀ rs₀ store d)
      step a store d zero pos e = absurd (omega arith)
      step a store d (suc k) pos e = let q : suc k - 1 ≡ k = omega arith in
          rw q (ap (cascade k c) ((m d).is a store)
          ∙ (sym (ap (λ (z : Bool). cond z (cascade k c (go_on c (work_of a x ns rs store d))) (work_of a x ns rs store d))
          (held n en b (rw ek at eb) a store d ∙ t)) ∙ e))

  -- No held message follows, or as many followed as there are rows.
  following-ends : (n : ℕ) → n ≡ next_at ns c → (b : Bool) → b ≡ any (bears (held_as c n)) (cells_in rs) → b ≡ false
      → (a : ℕ → Bool) (store d : List ℕ) → work_of a x ns rs store d ≡ cascade left₀ c (work_of a x₀ ns₀ rs₀ store d)
  unfolding cascade
  following-ends n en b eb t a store d = ends left (f.is a store d)
    where
      ends : (k : ℕ) → cascade k c (work_of a x ns rs store d) ≡ cascade left₀ c (work_of a x₀ ns₀ rs₀ store d)
          → work_of a x ns rs store d ≡ cascade left₀ c (work_of a x₀ ns₀ rs₀ store d)
      ends zero e = e
      ends (suc k) e = sym (ap (λ (z : Bool). cond z (cascade k c (go_on c (work_of a x ns rs store d)))
          (work_of a x ns rs store d)) (held n en b eb a store d ∙ t)) ∙ e

  following-done : left ≤ 0 → (a : ℕ → Bool) (store d : List ℕ) → work_of a x ns rs store d
      ≡ cascade left₀ c (work_of a x₀ ns₀ rs₀ store d)
  unfolding cascade
  following-done le a store d = ends left le (f.is a store d)
    where
      ends : (k : ℕ) → k ≤ 0 → cascade k c (work_of a x ns rs store d) ≡ cascade left₀ c (work_of a x₀ ns₀ rs₀ store d)
          → work_of a x ns rs store d ≡ cascade left₀ c (work_of a x₀ ns₀ rs₀ store d)
      ends zero le e = e
      ends (suc k) le e = absurd (omega arith)

module _ (c : ℕ) (x y : Tally) (ns ns₀ ns' : Nexts) (rs rs' : List Row) (lt : c < max_ord_chans) (v : Rises (max_cells + 1) ns)
    (e : ns₀ ≡ risen c ns) (left : ℕ) (f : Following c (length rs) x ns₀ rs left y ns' rs') where
  begun : (a : ℕ → Bool) (store d : List ℕ) → cascade (length rs) c (work_of a x ns₀ rs store d)
      ≡ follows c (work_of a x ns rs store d)
  unfolding follows
  begun a store d =
      ap (λ (z : Work). cascade (length rs) c z) (ap (λ (z : Nexts). work_of a x z rs store d) e ∙ (moves-rise d x ns rs
      c v.long lt).is a store)
      ∙ ap (λ (n : ℕ). cascade n c (rise c (work_of a x ns rs store d)))
      (unfold work_of in sym (slots-in-length rs store d))

  same : length ns'.channels ≡ length ns.channels
  same = f.rises.long ∙ sym v.long

  profile-same : ns'.profile ≡ ns.profile
  profile-same = f.profile ∙ (ap (λ (z : Nexts). z.profile) e ∙ profile-raised ns c (next_at ns c + 1))

  pub follows-stops : (n : ℕ) → n ≡ next_at ns' c → {k : ℕ} → k ≡ c → (b : Bool) → b ≡ any (bears (held_as k n)) (cells_in rs')
      → b ≡ false → (rs'' : List Row) → rs'' ≡ change_rows (bears (held_as k n)) (mark_row 3 y.turn) rs'
      → (d : List ℕ) → Moves d (follows c) x ns rs y ns' rs''
  unfolding cells_in
  follows-stops n en {k} ek b eb t rs'' e d =
      rw (e, none-turned (bears (held_as k n)) (mark_row 3 y.turn) rs' (sym eb ∙ t))
      (record {
        is = λ a store. following-ends c (length rs) x ns₀ rs left y ns' rs' f n en b (rw ek at eb) t a store d ∙ begun a store d;
        fits = f.fits d;
        long = same;
        profile = profile-same;
      })

  pub follows-done : left ≤ 0 → (d : List ℕ) → Moves d (follows c) x ns rs y ns' rs'
  follows-done le d = record {
    is = λ a store. following-done c (length rs) x ns₀ rs left y ns' rs' f le a store d ∙ begun a store d;
    fits = f.fits d;
    long = same;
    profile = profile-same;
  }
