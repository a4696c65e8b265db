-- Step 4's held messages that follow: the slots' cascade is the bare receiver's.
-- Assumes nothing.
use Prim.Native.Nat.{ℕ, zero, suc, ◌+◌, ◌≤◌, ◌<◌}
use mathlib.Core.Path.{◌≡◌, refl, sym, ◌∙◌, ap}
use mathlib.Core.Bool.{Bool, true, false, false≢true}
use mathlib.Core.Option.{none, some}
use mathlib.Core.List.{List}
use native.Mathlib.Omega.{arith}
use lib.ListN.{length}
use lib.Dec.{eqb}
use borrow.Author.Tests.{ne_eqb}
use Rattle.base.specs.Lists.{option, find, any, count_of}
use Rattle.base.proofs.Choices.{cases, case_option, neither}
use Rattle.base.proofs.Lists.{find-some, any-true, any-find, length-positive}
use Rattle.base.proofs.Counts.{count-lt-map, count-length}
use Rattle.bare.specs.Frame.{Piece, Message}
use Rattle.bare.specs.Bare.{Out, Bare, Sent, Fed, is_at, bump, emit, follow}
use Rattle.bare.proofs.Tests.{is_at-true, is_at-there, emit-shorter}
use Rattle.cells.specs.Cell.{Slot, Key, held_as, ready_as, of, is_open, mark_cell, mark, change, map_if, turn_to}
use Rattle.cells.specs.Datagram.{Work, made, rise, is_held, go_on, cascade}
use Rattle.cells.proofs.Keys.{of-used}
use Rattle.cells.proofs.Pieces.{Pieces, pieces-other}
use Rattle.cells.proofs.Ready.{has, Outs, outs-emit}
use Rattle.cells.proofs.Moves.{of-held, ready_moved, ready-others, ready-unique, ready-gone, ready_held}

-- The working state w has what the bare receiver b has; h are the messages handed out before.
pub record Rel (b : Bare) (w : Work) (h : List Message) : Type 0 where
  pub accepted : b.accepted ≡ w.state.accepted
  pub profile : b.out.profile ≡ w.state.profile
  pub newest : b.out.newest ≡ w.state.newest
  pub pieces : Pieces b.pieces w.state.slots
  pub outs : Outs b.out w.state.next w.state.slots 0 w.turn h

-- It has what the bare receiver's answer x has; r and d are the counts that w began with.
pub record Sim (x : Fed) (w : Work) (r d : ℕ) (h : List Message) : Type 0 where
  pub accepted : x.after.accepted ≡ w.state.accepted
  pub profile : x.after.out.profile ≡ w.state.profile
  pub newest : x.after.out.newest ≡ w.state.newest
  pub pieces : Pieces x.after.pieces w.state.slots
  pub outs : Outs x.after.out w.state.next w.state.slots 0 w.turn h
  pub ready : w.counts.ready ≡ r + x.ready
  pub dropped : w.counts.dropped ≡ d + x.dropped

abbrev pub answer : (ℕ → Bool) → List Piece → Sent → Fed
answer a ps s = record { after = record { accepted = a; pieces = ps; out = s.after }; ready = s.ready; dropped = s.dropped }

pub fresh-turn : {o : Out} {next : ℕ → ℕ} {l : List Slot} {n : ℕ} {h : List Message} → Outs o next l 0 n h → any (of (ready_as n)) l ≡ false
fresh-turn {o} {next} {l} {n} {h} v = cases (any (of (ready_as n)) l) (λ t. let r = v.within n t in absurd (omega arith)) (λ t. t)

pub is_held-is : {o : Out} {next : ℕ → ℕ} {l : List Slot} {lo n : ℕ} {h : List Message} → Outs o next l lo n h → (c k : ℕ) → is_held c k l
    ≡ any (is_at c k) o.held
unfolding is_held
is_held-is {o} v c k = v.first c k ∙ (ap has (sym (v.held c k)) ∙ sym (any-find (is_at c k) o.held))

pub is_open-used : (s : Slot) (u : ℕ) → s.cell.used ≡ u → (u ≡ 1 → ⊥) → is_open s ≡ false
unfolding is_open
is_open-used s u e ne = ne_eqb s.cell.used 1 (λ q. ne (sym e ∙ q))

pub is_open-mark : (u t : ℕ) (s : Slot) → (u ≡ 1 → ⊥) → is_open (mark u t s) ≡ false
unfolding is_open mark mark_cell
is_open-mark u t s ne = ne_eqb u 1 ne

module _ (a : ℕ → Bool) (ps : List Piece) (r d : ℕ) (h : List Message) where
  go_on-sim : (c : ℕ) (m : Message) (s : Sent) (w : Work) → Sim (answer a ps s) w r d h → find (is_at c (w.state.next c)) s.after.held
      ≡ some m → Sim (answer a ps (emit m s)) (go_on c w) r d h
  unfolding emit go_on rise made turn_to
  go_on-sim c m s w v e = record {
    accepted = v.accepted;
    profile = v.profile;
    newest = v.newest;
    pieces = pieces-other (of key) (mark 3 w.turn) ps w.state.slots
        (λ x i y. (is_open-used x 2 (of-used key x y) (λ q. omega arith), is_open-mark 3 w.turn x (λ q. omega arith))) v.pieces;
    outs = outs-emit m (turn_to key 3 w.turn w.state.slots) v.outs w.turn (omega arith)
        ((ready_moved key w.turn w.state.slots (λ q. omega arith) fresh).message ∙ (sym (v.outs.held c k) ∙ e))
        (ready-others key w.turn w.state.slots (λ q. omega arith) fresh)
        (ready-unique key w.turn w.state.slots (λ q. omega arith) fresh v.outs.unique)
        (bump m.channel s.after.next) (bump c w.state.next) (cc (v.outs.next-same, at.0))
        (rw same (ready-gone key w.turn w.state.slots (λ q. omega arith) fresh))
        (λ c' k' y. ready_held key w.turn w.state.slots (λ q. omega arith) fresh c' k' (apart c' k' y));
    ready = let q = v.ready in omega arith;
    dropped = v.dropped;
  }
    where
      k : ℕ
      k = w.state.next c

      key : Key
      key = held_as c (w.state.next c)

      at : (m.channel ≡ c) × (m.order ≡ w.state.next c)
      at = is_at-true c (w.state.next c) m (find-some _ _ e).1

      same : held_as m.channel m.order ≡ key
      same = cc (at.0, at.1)

      fresh : any (of (ready_as w.turn)) w.state.slots ≡ false
      fresh = fresh-turn v.outs

      apart : (c' k' : ℕ) → is_at c' k' m ≡ false → (x : Slot) → of key x ≡ true → of (held_as c' k') x ≡ false
      apart c' k' y x i = cases (of (held_as c' k') x)
          (λ z. let p = of-held c (w.state.next c) x i in
          let q = of-held c' k' x z in
          let a : m.channel ≡ c' = at.0 ∙ (sym p.0 ∙ q.0) in
          let b : m.order ≡ k' = at.1 ∙ (sym p.1 ∙ q.1) in
          neither (is_at c' k' m) (is_at-there c' k' m a b) y)
          (λ z. z)

  follow-cascade : (n c : ℕ) (s : Sent) (w : Work) → Sim (answer a ps s) w r d h → Sim (answer a ps (follow n c s)) (cascade n c w) r d h
  unfolding follow cascade
  follow-cascade zero c s w v = v
  follow-cascade (suc n) c s w v = case_option (find (is_at c (s.after.next c)) s.after.held)
      (λ e. rw (e, here, e) v)
      (λ m e. rw (e, here, e) (follow-cascade n c (emit m s) (go_on c w) (go_on-sim c m s w v (rw nx at e))))
    where
      nx : s.after.next c ≡ w.state.next c
      nx = ap (λ (g : ℕ → ℕ). g c) v.outs.next-same

      here : is_held c (w.state.next c) w.state.slots ≡ option (find (is_at c (s.after.next c)) s.after.held) false (λ x. true)
      here = rw nx (is_held-is v.outs c (w.state.next c) ∙ any-find (is_at c (w.state.next c)) s.after.held)

-- How far the two go: until none follows.

abbrev Stops : ℕ → Sent → Type 0
Stops c s = find (is_at c (s.after.next c)) s.after.held ≡ none

follow-stop : (m c : ℕ) (s : Sent) → Stops c s → follow m c s ≡ s
unfolding follow
follow-stop zero c s e = refl
follow-stop (suc m) c s e = rw e

follow-more : (n m c : ℕ) (s : Sent) → n ≤ m → Stops c (follow n c s) → follow m c s ≡ follow n c s
unfolding follow
follow-more zero m c s le e = follow-stop m c s e
follow-more (suc n) zero c s le e = absurd (omega arith)
follow-more (suc n) (suc m) c s le e = case_option (find (is_at c (s.after.next c)) s.after.held)
    (λ y. rw y)
    (λ x y. rw y (follow-more n m c (emit x s) (omega arith) (rw y at e)))

follow-stops : (n c : ℕ) (s : Sent) → length s.after.held ≤ n → Stops c (follow n c s)
unfolding follow
follow-stops zero c s le = case_option (find (is_at c (s.after.next c)) s.after.held) (λ y. y)
    (λ x y. let p = length-positive s.after.held (find-some _ _ y).0 in absurd (omega arith))
follow-stops (suc n) c s le = case_option (find (is_at c (s.after.next c)) s.after.held) (λ y. rw (y, y))
    (λ x y. rw y (follow-stops n c (emit x s) (emit-shorter x s n (find-some _ _ y).0 le)))

cascade-stop : (m c : ℕ) (w : Work) → is_held c (w.state.next c) w.state.slots ≡ false → cascade m c w ≡ w
unfolding cascade
cascade-stop zero c w e = refl
cascade-stop (suc m) c w e = rw e

pub cascade-more : (n m c : ℕ) (w : Work) → n ≤ m → is_held c ((cascade n c w).state.next c) (cascade n c w).state.slots ≡ false
    → cascade m c w ≡ cascade n c w
unfolding cascade
cascade-more zero m c w le e = cascade-stop m c w e
cascade-more (suc n) zero c w le e = absurd (omega arith)
cascade-more (suc n) (suc m) c w le e = cases (is_held c (w.state.next c) w.state.slots)
    (λ y. rw y (cascade-more n m c (go_on c w) (omega arith) (rw y at e)))
    (λ y. rw y)

unfoldable pub is_held_slot : Slot → Bool
is_held_slot s = eqb s.cell.used 2

go_on-fewer : (c : ℕ) (w : Work) → is_held c (w.state.next c) w.state.slots ≡ true → count_of is_held_slot (go_on c w).state.slots <
    count_of is_held_slot w.state.slots
unfolding is_held go_on rise made turn_to map_if is_held_slot change mark mark_cell
go_on-fewer c w e =
    let x = any-true (of (held_as c (w.state.next c))) w.state.slots e in
    count-lt-map is_held_slot is_held_slot (change (of (held_as c (w.state.next c))) (mark 3 w.turn)) w.state.slots
    (λ s m. cases (of (held_as c (w.state.next c)) s) (λ y. rw y (λ z. absurd (false≢true z))) (λ y. rw y (λ z. z)))
    x.0 x.1 (rw (of-used (held_as c (w.state.next c)) x.0 x.2)) (rw x.2)

pub cascade-stops : (n c : ℕ) (w : Work) → count_of is_held_slot w.state.slots ≤ n → is_held c ((cascade n c w).state.next c)
    (cascade n c w).state.slots ≡ false
unfolding cascade
cascade-stops zero c w le = cases (is_held c (w.state.next c) w.state.slots) (λ y. let p = go_on-fewer c w y in absurd (omega arith))
    (λ y. y)
cascade-stops (suc n) c w le = cases (is_held c (w.state.next c) w.state.slots)
    (λ y. rw y (cascade-stops n c (go_on c w) (let p = go_on-fewer c w y in omega arith))) (λ y. rw y y)

-- The slots' cascade does what the bare receiver's does, each with its own bound.
pub cascades : (a : ℕ → Bool) (ps : List Piece) (r d : ℕ) (h : List Message) (n c : ℕ) (s : Sent) (w : Work) → length s.after.held ≤ n
    → Sim (answer a ps s) w r d h → Sim (answer a ps (follow n c s)) (cascade (length w.state.slots) c w) r d h
cascades a ps r d h n c s w le v =
    let m : ℕ = n + length w.state.slots in
    let p = follow-more n m c s (omega arith) (follow-stops n c s le) in
    let q = cascade-more (length w.state.slots) m c w (omega arith)
    (cascade-stops (length w.state.slots) c w (count-length is_held_slot w.state.slots)) in
    rw (← p, ← q) (follow-cascade a ps r d h m c s w v)
