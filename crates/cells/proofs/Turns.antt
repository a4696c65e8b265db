-- Before a datagram: with their turns renumbered from 0 on, the ready messages are the bare receiver's still.
-- Assumes nothing.
use Prim.Native.Nat.{ℕ, zero, suc, ◌+◌, ◌-◌, ◌≤◌, ◌<◌}
use mathlib.Core.Path.{◌≡◌, refl, sym, ◌∙◌, ap}
use mathlib.Core.Bool.{Bool, true, false, ◌&&◌, and_comm, and-true}
use mathlib.Core.List.{List, ◌++◌, Memᴰ}
use native.Mathlib.Omega.{arith}
use lib.Dec.{eqb}
use borrow.Author.Tests.{ltb-true, lt-ltb, eqb-true, eqb-false, eq-eqb, ne_eqb}
use Rattle.base.specs.Lists.{any, count_of}
use Rattle.base.proofs.Choices.{by_bool, cases, and_left, and_right, and_both}
use Rattle.base.proofs.Lists.{any-mem, any-all}
use Rattle.base.proofs.Counts.{count-ext, count_none, count-some}
use Rattle.base.proofs.Indices.{count-below-suc}
use Rattle.bare.specs.Frame.{Piece, Message}
use Rattle.bare.specs.Bare.{Out}
use Rattle.cells.specs.Cell.{Slot, open_as, held_as, ready_as, of, sits, is_ready, message_at, mark_cell, mark, change, map_if}
use Rattle.cells.specs.Datagram.{is_first, is_before, rank, renumber}
use Rattle.cells.proofs.Keys.{of-ready, sits-of, shown, Carried, carried-count, message-there}
use Rattle.cells.proofs.Pieces.{Pieces, pieces-other}
use Rattle.cells.proofs.Ready.{ready_line, has, has_some, SameUnder, same-carried, Unique, Outs}
use Rattle.cells.proofs.Moves.{of-mark-ready}
use Rattle.cells.proofs.Cascade.{is_open-used, is_open-mark}
use Rattle.cells.proofs.TurnOrder.{retime, ready-used, retime-other}

ready_line-shift : (l' l : List Slot) (lo : ℕ) → ((t : ℕ) → message_at (ready_as t) l' ≡ message_at (ready_as (t + lo)) l) → (n : ℕ)
    → ready_line l' 0 n ≡ ready_line l lo n
unfolding ready_line
ready_line-shift l' l lo e zero = refl
ready_line-shift l' l lo e (suc n) = let z : n + 0 ≡ n = omega arith in rw (z, ready_line-shift l' l lo e n, e n)

pub rank-suc : (l : List Slot) (k T : ℕ) → T ≡ suc k → rank l T ≡ rank l k + count_of (sits (ready_as k) 0) l
unfolding rank is_before is_first
rank-suc l k T e = count-below-suc is_first (λ s. s.cell.turn) l k T e ∙ ap (λ (n : ℕ). rank l k + n)
    (count-ext (λ s. is_first s && eqb s.cell.turn k) (sits (ready_as k) 0) l (λ s m. point s))
  where
    swap : (a b c : Bool) → ((a && b) && c) ≡ ((a && c) && b)
    swap true b c = and_comm b c
    swap false b c = refl

    point : (s : Slot) → (is_first s && eqb s.cell.turn k) ≡ sits (ready_as k) 0 s
    point s = rw (sits-of (ready_as k) 0 s, of-ready k s) (swap (is_ready s) (eqb s.cell.index 0) (eqb s.cell.turn k))

module _ {o : Out} {next : ℕ → ℕ} {l : List Slot} {lo n : ℕ} {h : List Message} (v : Outs o next l lo n h) where
  pub turn-within : (s : Slot) → Memᴰ s l → is_ready s ≡ true → (lo ≤ s.cell.turn) × (s.cell.turn < n + lo)
  turn-within s m e = v.within s.cell.turn (any-mem (of (ready_as s.cell.turn)) l s m
      (of-ready s.cell.turn s ∙ and_both _ _ e (eq-eqb s.cell.turn _ refl)))

  ready-there : (t : ℕ) → lo ≤ t → t < n + lo → any (sits (ready_as t) 0) l ≡ true
  ready-there t a b = let m = has_some _ (v.firsts t a b) in message-there (ready_as t) l m.0 m.1

  ready-once : (t : ℕ) → lo ≤ t → t < n + lo → count_of (sits (ready_as t) 0) l ≡ 1
  ready-once t a b = let p = v.unique (ready_as t) 0 in let q = count-some (sits (ready_as t) 0) l (ready-there t a b) in omega arith

  rank-at : (k T : ℕ) → T ≡ k + lo → k ≤ n → rank l T ≡ k
  unfolding rank is_before is_first
  rank-at zero T e le = count_none (is_before T) l (any-all (is_before T) l (λ s m. cases (is_before T s)
      (λ y. let f = and_left (is_first s) _ y in
      let lt : s.cell.turn < T = ltb-true _ _ (and_right (is_first s) _ y) in
      let w = turn-within s m (and_left (is_ready s) _ f) in
      absurd (omega arith))
      (λ y. y)))
  rank-at (suc k) T e le =
      let r = rank-at k (k + lo) refl (omega arith) in
      let c = ready-once (k + lo) (omega arith) (omega arith) in
      let s = rank-suc l (k + lo) T (omega arith) in
      omega arith

  rank-turn : (s : Slot) → Memᴰ s l → is_ready s ≡ true → rank l s.cell.turn + lo ≡ s.cell.turn
  rank-turn s m e = go s.cell.turn (turn-within s m e)
    where
      go : (t : ℕ) → (lo ≤ t) × (t < n + lo) → rank l t + lo ≡ t
      go t w = let r = rank-at (t - lo) t (omega arith) (omega arith) in omega arith

  first_count : count_of is_first l ≡ n
  unfolding rank is_before is_first
  first_count = count-ext is_first (is_before (n + lo)) l point ∙ rank-at n (n + lo) refl (omega arith)
    where
      point : (s : Slot) → Memᴰ s l → is_first s ≡ is_before (n + lo) s
      point s m = cases (is_ready s)
          (λ y. let w = turn-within s m y in rw (y, lt-ltb s.cell.turn (n + lo) w.1) (sym (and-true (eqb s.cell.index 0))))
          (λ y. rw y)

  -- Renumbered, the turns begin with 0.
  renumber-carried : (t : ℕ) → Carried (ready_as (t + lo)) (ready_as t) (retime (rank l)) l
  unfolding retime change shown mark mark_cell
  renumber-carried t = record {
    moved = λ s m. cases (is_ready s)
        (λ y. let r = rank-turn s m y in
        rw (y, of-ready (t + lo) s, y) (of-mark-ready (rank l s.cell.turn) t s ∙ equal (rank l s.cell.turn) s.cell.turn r))
        (λ y. rw (y, of-ready t s, of-ready (t + lo) s, y));
    same = λ s m e. by_bool (λ (z : Slot). shown z ≡ shown s) (is_ready s) (λ y. refl) (λ y. refl);
  }
    where
      equal : (r u : ℕ) → r + lo ≡ u → eqb r t ≡ eqb u (t + lo)
      equal r u e = cases (eqb r t)
          (λ y. let q = eqb-true r t y in rw (y, eq-eqb u (t + lo) (omega arith)))
          (λ y. let q : r ≡ t → ⊥ = eqb-false r t y in rw (y, ne_eqb u (t + lo) (λ z. q (omega arith))))

  renumber-unique : Unique (renumber l)
  unfolding renumber map_if retime
  renumber-unique (open_as id) i = rw (carried-count (retime-other (rank l) l (open_as id) (λ q. omega arith)) i) (v.unique (open_as id) i)
  renumber-unique (held_as c k) i =
      rw (carried-count (retime-other (rank l) l (held_as c k) (λ q. omega arith)) i) (v.unique (held_as c k) i)
  renumber-unique (ready_as t) i = rw (carried-count (renumber-carried t) i) (v.unique (ready_as (t + lo)) i)

  -- The held and the ready messages with turns from 0 on.
  pub renumber-outs : Outs o next (renumber l) 0 (count_of is_first l) h
  unfolding renumber map_if retime
  renumber-outs = rw first_count (record {
    next-same = v.next-same;
    held = λ c k. v.held c k ∙ sym (held c k).message;
    first = λ c k. (held c k).present ∙ (v.first c k ∙ ap has (sym (held c k).message));
    line = v.line ∙ ap (λ (x : List Message). h ++ x) (sym (shift n (λ t. (ready t).message)));
    within = λ t e. let w = v.within (t + lo) (sym (ready t).present ∙ e) in (omega arith, omega arith);
    firsts = λ t a b. ap has (ready t).message ∙ v.firsts (t + lo) (omega arith) (omega arith);
    unique = renumber-unique;
  })
    where
      held : (c k : ℕ) → SameUnder (held_as c k) l (held_as c k) (renumber l)
      held c k = same-carried (retime-other (rank l) l (held_as c k) (λ q. omega arith))

      ready : (t : ℕ) → SameUnder (ready_as (t + lo)) l (ready_as t) (renumber l)
      ready t = same-carried (renumber-carried t)

      shift : (n : ℕ) → ((t : ℕ) → message_at (ready_as t) (renumber l) ≡ message_at (ready_as (t + lo)) l) → ready_line (renumber l) 0 n
          ≡ ready_line l lo n
      shift n e = ready_line-shift (renumber l) l lo e n

-- The open pieces are left alone.
pub renumber-pieces : (ps : List Piece) (l : List Slot) → Pieces ps l → Pieces ps (renumber l)
unfolding renumber
renumber-pieces ps l v = pieces-other is_ready (λ s. mark 3 (rank l s.cell.turn) s) ps l
    (λ s m y. (is_open-used s 3 (ready-used s y) (λ q. omega arith), is_open-mark 3 (rank l s.cell.turn) s (λ q. omega arith))) v
