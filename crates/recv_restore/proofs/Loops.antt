-- Entries one after the other, filled into rows: one entry after another, and all.
-- Assumes nothing.
use Prim.Native.Nat.{ℕ, suc, ◌+◌, ◌*◌, ◌-◌, ◌≤◌, ◌<◌}
use mathlib.Core.Path.{◌≡◌, refl, sym, ◌∙◌, ap}
use mathlib.Core.List.{List, [], ◌++◌, append_assoc, append-nil}
use native.Mathlib.Omega.{arith}
use lib.ListN.{length, length-append}
use Rattle.cells.specs.Cell.{Slot}
use Rattle.rows.specs.declared.Row.{Row}
use Rattle.image_read.specs.At.{place_after, values_at}
use Rattle.image_read.proofs.Standing.{places-onward}
use Rattle.recv_restore.specs.Fits.{Each, cells_of_each}
use Rattle.recv_restore.specs.Filling.{Rowed, Put}
use Rattle.recv_restore.specs.declared.filling.Filled.{Filled}

module _ {A : Type 0} (can : ℕ → A → Type 0) (next : ℕ → A → ℕ) (cells : ℕ → A → List Slot) (at : ℕ → A) (end : ℕ → ℕ) where
  -- After i of n entries: what the others are asked, and the cells that they make.
  pub record Going (pace : ℕ) (n : ℕ) (s : List ℕ) (k₀ : ℕ) (rows₀ : List Row) (f₀ : Filled) (i k : ℕ) (rows : List Row)
      (f : Filled) : Type 0 where
    pub done : List Slot
    pub forth : Each can next k₀ (values_at at end n f₀.place) → Each can next k (values_at at end (n - i) f.place)
    pub back : Each can next k (values_at at end (n - i) f.place) → Each can next k₀ (values_at at end n f₀.place)
    pub all : cells_of_each cells next k₀ (values_at at end n f₀.place)
        ≡ done ++ cells_of_each cells next k (values_at at end (n - i) f.place)
    pub ends : place_after end n f₀.place ≡ place_after end (n - i) f.place
    pub used : f.used ≡ f₀.used + length done
    pub room : f.used ≤ length rows₀
    pub many : length rows ≡ length rows₀
    pub near : f.place ≤ f₀.place + pace * length done
    pub rowed : (l : List Slot) → length l ≡ f₀.used → Rowed s rows₀ l → Rowed s rows (l ++ done)

  module _ (pace n : ℕ) (s : List ℕ) (k₀ : ℕ) (rows₀ : List Row) (f₀ : Filled) where
    pub going-begins : f₀.used ≤ length rows₀ → Going pace n s k₀ rows₀ f₀ 0 k₀ rows₀ f₀
    going-begins le = record {
      done = [];
      forth = let e : n ≡ n - 0 = omega arith in λ h. rw (← e) h;
      back = let e : n - 0 ≡ n = omega arith in λ h. rw e at h;
      all = let e : n - 0 ≡ n = omega arith in rw e refl;
      ends = let e : n - 0 ≡ n = omega arith in rw e refl;
      used = omega arith;
      room = le;
      many = refl;
      near = omega arith;
      rowed = λ l e r. rw (append-nil l) r;
    }

    module _ (i k : ℕ) (rows : List Row) (f : Filled) (g : Going pace n s k₀ rows₀ f₀ i k rows f) where
      one : i < n → n - i ≡ suc (n - (i + 1))
      one lt = omega arith

      -- what the loop asks of the next entry
      pub going-within : i < n → ((p : ℕ) → p ≤ end p) → place_after end n f₀.place ≤ length s → end f.place ≤ length s
      unfolding place_after
      going-within lt onward le =
          let e = one lt in
          let a = places-onward end onward (n - (i + 1)) (end f.place) in
          let b : place_after end (suc (n - (i + 1))) f.place ≤ length s = rw (← e) (rw g.ends at le) in
          omega arith

      pub going-on : i < n → (rows' : List Row) (f' : Filled)
          → Put pace (can k (at f.place)) (cells k (at f.place)) (end f.place) s rows f rows' f'
          → (k' : ℕ) → k' ≡ next k (at f.place) → Going pace n s k₀ rows₀ f₀ (i + 1) k' rows' f'
      unfolding Each cells_of_each values_at place_after
      going-on lt rows' f' u k' same =
          let e = one lt in
          let q = u.place in
          let many2 = u.many in
          let used2 = u.used in
          let near2 = u.near in
          record {
            done = g.done ++ cells k (at f.place);
            forth = λ h. rw (same, q) (rw e at (g.forth h)).1;
            back = λ h. g.back (rw e (u.may, rw (same, q) at h));
            all = g.all ∙ (rw (e, same, q) (sym (append_assoc g.done (cells k (at f.place)) _)));
            ends = g.ends ∙ rw (e, q) refl;
            used = omega (arith, length-append g.done (cells k (at f.place)), g.used);
            room = omega (arith, u.room, g.many);
            many = u.many ∙ g.many;
            near = omega (arith, ap (λ (x : ℕ). pace * x) (length-append g.done (cells k (at f.place))), g.near);
            rowed = λ l e r. rw (← append_assoc l g.done (cells k (at f.place)))
                (u.rowed (l ++ g.done) (omega (arith, length-append l g.done, g.used)) (g.rowed l e r));
          }

      -- An entry that cannot be restored, or has no room.
      pub going-stops : i < n → (can k (at f.place) → f.used + length (cells k (at f.place)) ≤ length rows → ⊥)
          → Each can next k₀ (values_at at end n f₀.place) → f₀.used + length
          (cells_of_each cells next k₀ (values_at at end n f₀.place)) ≤ length rows₀ → ⊥
      unfolding Each cells_of_each values_at
      going-stops lt h a room =
          let e = one lt in
          h (rw e at (g.forth a)).0
          (let r = rw (g.all, e) at room in
          omega (
            arith,
            length-append g.done (cells k (at f.place) ++ cells_of_each cells next (next k (at f.place))
                (values_at at end (n - (i + 1)) (end f.place))),
            length-append (cells k (at f.place)) (cells_of_each cells next (next k (at f.place))
                (values_at at end (n - (i + 1)) (end f.place))),
            g.used,
            g.many,
          ))

      pub going-ends : n ≤ i → Put pace (Each can next k₀ (values_at at end n f₀.place))
          (cells_of_each cells next k₀ (values_at at end n f₀.place))
          (place_after end n f₀.place) s rows₀ f₀ rows f
      unfolding Each cells_of_each values_at place_after
      going-ends le =
          let z : n - i ≡ 0 = omega arith in
          let a : cells_of_each cells next k₀ (values_at at end n f₀.place) ≡ g.done = rw z at g.all ∙ append-nil g.done in
          record {
            may = g.back (rw z tt);
            used = rw a g.used;
            room = g.room;
            many = g.many;
            place = sym (rw z at g.ends);
            near = rw a g.near;
            rowed = rw a g.rowed;
          }
