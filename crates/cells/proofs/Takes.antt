-- After a datagram and after a take: cells that become unused, and that takes until 20 hand out the ready messages by their turns.
-- Assumes nothing.
use Prim.Native.Nat.{ℕ, zero, suc, ◌+◌, ◌≤◌, ◌<◌}
use mathlib.Core.Path.{◌≡◌, refl, sym, ◌∙◌, ap}
use mathlib.Core.Logic.{◌⊎◌, inl, inr}
use mathlib.Core.Bool.{Bool, true, false, cond, false≢true}
use mathlib.Core.Option.{Option, none, some}
use mathlib.Core.List.Memᴰ
use mathlib.Core.List.{List, [], ◌∷◌, ◌++◌, append_assoc, append-nil, Memᴰ}
use native.Mathlib.Omega.{arith}
use lib.ListN.{length}
use lib.Dec.{ltb, eqb}
use borrow.Author.Tests.{ltb-true, ltb-false, eqb-true, eqb-false}
use Rattle.base.specs.Lists.{option, any, count_of}
use Rattle.base.proofs.Choices.{by_bool, cases, case_option, or_left, or_right, neither}
use Rattle.base.proofs.Lists.{any-true, any-mem, any-all, any-map}
use Rattle.base.proofs.Counts.{count-lt-map, count-length}
use Rattle.bare.specs.Frame.{Piece, Message}
use Rattle.bare.specs.Bare.{Out}
use Rattle.cells.specs.Cell.{Slot, Key, held_as, ready_as, of, sits, is_open, is_ready, message_at, empty_cell, empty_slot, change}
use Rattle.cells.specs.Cell.{map_if, freed}
use Rattle.cells.specs.Datagram.{sweep}
use Rattle.cells.specs.Take.{lower, earliest, Taken, taking, drain_in, drain}
use Rattle.cells.proofs.Keys.{of_other, empty_of, no-key-of-4, ready_of, sits-is, carried_other, message-there}
use Rattle.cells.proofs.Pieces.{Pieces, pieces-other}
use Rattle.cells.proofs.Ready.{ready_line, has, has_some, SameUnder, same-carried, Unique, Outs, ready_line-ext, outs-keep}
use Rattle.cells.proofs.Moves.{of-apart, unique-left}
use Rattle.cells.proofs.Cascade.{is_open-used}
use Rattle.cells.proofs.Turns.{turn-within}

pub empty-open : is_open empty_slot ≡ false
unfolding is_open empty_slot empty_cell
empty-open = refl

-- Slots whose use is another become empty: a key of its use is left alone.
emptied-same : (q : Slot → Bool) (l : List Slot) (k : Key) → ((s : Slot) → Memᴰ s l → q s ≡ true → of k s ≡ false)
    → SameUnder k l k (map_if q (λ s. empty_slot) l)
unfolding map_if
emptied-same q l k e = same-carried (carried_other k q (λ s. empty_slot) l (λ s m y. (e s m y, empty_of k)))

emptied-unique : (q : Slot → Bool) (l : List Slot) → Unique l → Unique (map_if q (λ s. empty_slot) l)
emptied-unique q l u = unique-left q (λ s. empty_slot) l (λ k s m y. empty_of k) u

pub emptied-pieces : (q : Slot → Bool) (ps : List Piece) (l : List Slot) → ((s : Slot) → Memᴰ s l → q s ≡ true → is_open s ≡ false)
    → Pieces ps l → Pieces ps (map_if q (λ s. empty_slot) l)
emptied-pieces q ps l e v = pieces-other q (λ s. empty_slot) ps l (λ s m y. (e s m y, empty-open)) v

-- After a datagram.
pub sweep-outs : {o : Out} {next : ℕ → ℕ} {l : List Slot} {lo n : ℕ} {h : List Message} → Outs o next l lo n h → Outs o next (sweep l) lo n
    h
unfolding sweep
sweep-outs {o} {next} {l} v = outs-keep _ v (λ c k. keeps (held_as c k)) (λ t. keeps (ready_as t)) (emptied-unique _ l v.unique)
  where
    keeps : (k : Key) → SameUnder k l k (sweep l)
    keeps k = emptied-same (λ s. eqb s.cell.used 4) l k (λ s m y. of_other k s
        (λ q. no-key-of-4 k (sym (eqb-true s.cell.used 4 y) ∙ q)))

pub sweep-pieces : (ps : List Piece) (l : List Slot) → Pieces ps l → Pieces ps (sweep l)
unfolding sweep
sweep-pieces ps l v = emptied-pieces (λ s. eqb s.cell.used 4) ps l (λ s m y. is_open-used s 4 (eqb-true s.cell.used 4 y)
    (λ q. omega arith)) v

-- The earliest ready message.
pub earliest-none : (l : List Slot) → any is_ready l ≡ false → earliest l ≡ none
unfolding earliest any
earliest-none [] e = refl
earliest-none (s ∷ l) e = rw (or_left (is_ready s) _ e) (earliest-none l (or_right (is_ready s) _ e))

lower-own : (t : ℕ) (o : Option ℕ) → lower t o ≤ t
unfolding lower
lower-own t none = omega arith
lower-own t (some u) = by_bool (λ (x : ℕ). x ≤ t) (ltb u t) (λ y. let p = ltb-true u t y in omega arith) (λ y. omega arith)

lower-other : (t u : ℕ) → lower t (some u) ≤ u
unfolding lower
lower-other t u = by_bool (λ (x : ℕ). x ≤ u) (ltb u t) (λ y. omega arith) (λ y. let p = ltb-false u t y in omega arith)

lower-above : (lo t : ℕ) (o : Option ℕ) → lo ≤ t → ((u : ℕ) → o ≡ some u → lo ≤ u) → lo ≤ lower t o
unfolding lower
lower-above lo t none a h = a
lower-above lo t (some u) a h = by_bool (λ (x : ℕ). lo ≤ x) (ltb u t) (λ y. h u refl) (λ y. a)

-- It is at most each turn, and at least what all are at least.
pub earliest-below : (l : List Slot) (s : Slot) → Memᴰ s l → is_ready s ≡ true → (t : ℕ) × (earliest l ≡ some t) × (t ≤ s.cell.turn)
unfolding earliest
earliest-below [] s m e = absurd (Memᴰ.not-nil m)
earliest-below (x ∷ l) s m e = go (Memᴰ.cases_cons m) (is_ready x) refl (λ m'. earliest-below l s m' e)
  where
    go : (s ≡ x) ⊎ Memᴰ s l → (b : Bool) → is_ready x ≡ b → (Memᴰ s l → (t : ℕ) × (earliest l ≡ some t) × (t ≤ s.cell.turn))
        → (t : ℕ) × (cond b (some (lower x.cell.turn (earliest l))) (earliest l) ≡ some t) × (t ≤ s.cell.turn)
    go (inl q) true y k = (
      lower x.cell.turn (earliest l),
      refl,
      let z : s.cell.turn ≡ x.cell.turn = cc in let w =
          lower-own x.cell.turn (earliest l) in omega arith,
    )
    go (inl q) false y k = neither (is_ready x) (ap is_ready (sym q) ∙ e) y
    go (inr i) true y k = let r = k i in (
      lower x.cell.turn (earliest l),
      refl,
      rw r.1 (let w = lower-other x.cell.turn r.0 in
          let z = r.2 in omega arith),
    )
    go (inr i) false y k = k i

earliest-above : (l : List Slot) (lo : ℕ) → ((s : Slot) → Memᴰ s l → is_ready s ≡ true → lo ≤ s.cell.turn) → (t : ℕ) → earliest l
    ≡ some t → lo ≤ t
unfolding earliest
earliest-above [] lo h t e = absurd (let z : ◌≡◌ {A = ℕ} 0 1 = cc in omega arith)
earliest-above (x ∷ l) lo h t e = go (is_ready x) refl e (earliest-above l lo (λ s m. h s (Memᴰ.tail m)))
  where
    go : (b : Bool) → is_ready x ≡ b → cond b (some (lower x.cell.turn (earliest l))) (earliest l) ≡ some t
        → ((u : ℕ) → earliest l ≡ some u → lo ≤ u) → lo ≤ t
    go true y e k = let q : lower x.cell.turn (earliest l) ≡ t = cc in let w = lower-above lo x.cell.turn (earliest l)
        (h x (Memᴰ.head refl) y) k in omega arith
    go false y e k = k t e

pub ready_line-nil : (l : List Slot) (lo : ℕ) → ready_line l lo 0 ≡ []
unfolding ready_line
ready_line-nil l lo = refl

ready_line-front : (l : List Slot) (lo n : ℕ) → ready_line l lo (suc n) ≡ option (message_at (ready_as lo) l) [] (λ m. m ∷ [])
    ++ ready_line l (suc lo) n
unfolding ready_line
ready_line-front l lo zero = let z : 0 + lo ≡ lo = omega arith in rw z (sym (append-nil _))
ready_line-front l lo (suc n) = let z : n + suc lo ≡ suc n + lo = omega arith in rw (ready_line-front l lo n, z, append_assoc)

freed-gone : (k : Key) (l : List Slot) → any (of k) (freed k l) ≡ false
unfolding freed map_if change
freed-gone k l = any-map (of k) (λ s. false) (change (of k) (λ s. empty_slot)) l
    (λ s m. cases (of k s) (λ y. rw y (empty_of k)) (λ y. rw y y)) ∙ any-all (λ s. false) l (λ s m. refl)

taking-is : (l : List Slot) (t : ℕ) (m : Message) → earliest l ≡ some t → message_at (ready_as t) l ≡ some m → taking l
    ≡ some (record { message = m; slots = freed (ready_as t) l })
unfolding taking
taking-is l t m e f = rw (e, f)

freed-fewer : (t : ℕ) (l : List Slot) → any (of (ready_as t)) l ≡ true → count_of is_ready (freed (ready_as t) l) < count_of is_ready l
unfolding freed map_if change is_ready empty_slot empty_cell
freed-fewer t l e =
    let a = any-true (of (ready_as t)) l e in
    count-lt-map is_ready is_ready (change (of (ready_as t)) (λ s. empty_slot)) l
    (λ s m. cases (of (ready_as t) s) (λ y. rw y (λ z. absurd (false≢true z))) (λ y. rw y (λ z. z)))
    a.0 a.1 (ready_of t a.0 a.2).0 (rw a.2)

message-present : (t : ℕ) (l : List Slot) (m : Message) → message_at (ready_as t) l ≡ some m → any (of (ready_as t)) l ≡ true
message-present t l m e =
    let a = any-true (sits (ready_as t) 0) l (message-there (ready_as t) l m e) in
    any-mem (of (ready_as t)) l a.0 a.1 (sits-is (ready_as t) 0 a.0 a.2).0

-- What a take leaves: the slots without those of one ready message, of which there was one.
pub taken-freed : (l : List Slot) (t : Taken) → taking l ≡ some t → (u : ℕ) × (t.slots ≡ freed (ready_as u) l)
    × (count_of is_ready t.slots < count_of is_ready l)
unfolding taking
taken-freed l t e = case_option (earliest l)
    (λ y. absurd (let n : none ≡ some t = rw y at e in let z : ◌≡◌ {A = ℕ} 0 1 = cc in omega arith))
    (λ u y. case_option (message_at (ready_as u) l)
    (λ z. absurd (let n : none ≡ some t = rw (y, z) at e in let z : ◌≡◌ {A = ℕ} 0 1 = cc in omega arith))
    (λ m z. let n : some (record { message = m; slots = freed (ready_as u) l }) ≡ some t = rw (y, z) at e in
    let q : record { message = m; slots = freed (ready_as u) l } ≡ t = cc in
    let f = ap (λ (x : Taken). x.slots) (sym q) in
    (u, f, rw f (freed-fewer u l (message-present u l m z)))))

freed-ready : (lo : ℕ) (l : List Slot) (t : ℕ) → (t ≡ lo → ⊥) → SameUnder (ready_as t) l (ready_as t) (freed (ready_as lo) l)
unfolding freed
freed-ready lo l t ne = emptied-same (of (ready_as lo)) l (ready_as t)
    (λ s i y. cases (of (ready_as t) s) (λ z. absurd (ne (sym (ready_of t s z).1 ∙ (ready_of lo s y).1))) (λ z. z))

freed-line : (l : List Slot) (lo n : ℕ) (m : Message) → message_at (ready_as lo) l ≡ some m → ready_line l lo (suc n) ≡ m
    ∷ ready_line (freed (ready_as lo) l) (suc lo) n
freed-line l lo n m e = rw (
  ready_line-front l lo n,
  e,
  ready_line-ext l (freed (ready_as lo) l) (suc lo) n
      (λ t a b. (freed-ready lo l t (λ q. omega arith)).message),
)

module _ {o : Out} {next : ℕ → ℕ} {l : List Slot} {lo : ℕ} {h : List Message} where
  pub take_none : Outs o next l lo 0 h → taking l ≡ none
  unfolding taking
  take_none v =
      rw (earliest-none l (any-all is_ready l (λ s m. cases (is_ready s) (λ y. let w = turn-within v s m y in absurd (omega arith))
      (λ y. y))))

  take-first : (n : ℕ) → Outs o next l lo (suc n) h → earliest l ≡ some lo
  take-first n v =
      let f = has_some (message_at (ready_as lo) l) (v.firsts lo (omega arith) (omega arith)) in
      let a = any-true (sits (ready_as lo) 0) l (message-there (ready_as lo) l f.0 f.1) in
      let r = ready_of lo a.0 (sits-is (ready_as lo) 0 a.0 a.2).0 in
      let b = earliest-below l a.0 a.1 r.0 in
      let g = earliest-above l lo (λ s m y. (turn-within v s m y).0) b.0 b.1 in
      let z = r.1 in
      let y = b.2 in
      let q : b.0 ≡ lo = omega arith in
      b.1 ∙ ap {B = Option ℕ} some q

  freed-outs : (n : ℕ) (m : Message) → Outs o next l lo (suc n) h → message_at (ready_as lo) l ≡ some m
      → Outs o next (freed (ready_as lo) l)
      (suc lo) n (h ++ (m ∷ []))
  unfolding freed
  freed-outs n m v e = record {
    next-same = v.next-same;
    held = λ c k. v.held c k ∙ sym (held c k).message;
    first = λ c k. (held c k).present ∙ (v.first c k ∙ ap has (sym (held c k).message));
    line = v.line ∙ rw (freed-line l lo n m e, append_assoc);
    within = λ t y. cases (eqb t lo)
        (λ z. neither (any (of (ready_as lo)) (freed (ready_as lo) l)) (rw (eqb-true t lo z) at y) gone)
        (λ z. let ne : t ≡ lo → ⊥ = eqb-false t lo z in let w = v.within t (sym (ready t ne).present ∙ y) in (omega arith, omega arith));
    firsts = λ t a b. ap has (ready t (λ q. omega arith)).message ∙ v.firsts t (omega arith) (omega arith);
    unique = emptied-unique (of (ready_as lo)) l v.unique;
  }
    where
      held : (c k : ℕ) → SameUnder (held_as c k) l (held_as c k) (freed (ready_as lo) l)
      held c k = emptied-same (of (ready_as lo)) l (held_as c k) (λ s i y. of-apart (ready_as lo) (held_as c k) s (λ q. omega arith) y)

      ready : (t : ℕ) → (t ≡ lo → ⊥) → SameUnder (ready_as t) l (ready_as t) (freed (ready_as lo) l)
      ready t ne = freed-ready lo l t ne

      gone : any (of (ready_as lo)) (freed (ready_as lo) l) ≡ false
      gone = freed-gone (ready_as lo) l

  pub take-some : (n : ℕ) → Outs o next l lo (suc n) h → (m : Message) × (message_at (ready_as lo) l ≡ some m)
      × (taking l ≡ some (record { message = m; slots = freed (ready_as lo) l })) × Outs o next (freed (ready_as lo) l) (suc lo) n
      (h ++ (m ∷ []))
  take-some n v = let f = has_some (message_at (ready_as lo) l) (v.firsts lo (omega arith) (omega arith)) in
      (f.0, f.1, taking-is l lo f.0 (take-first n v) f.1, freed-outs n f.0 v f.1)

module _ {o : Out} {next : ℕ → ℕ} where
  ready-present : {l : List Slot} {lo n : ℕ} {h : List Message} → Outs o next l lo (suc n) h → any (of (ready_as lo)) l ≡ true
  ready-present {l} {lo} v = let f = has_some (message_at (ready_as lo) l) (v.firsts lo (omega arith) (omega arith)) in
      message-present lo l f.0 f.1

  drain-line : (f n lo : ℕ) (l : List Slot) (h : List Message) → Outs o next l lo n h → count_of is_ready l ≤ f → drain_in f l
      ≡ ready_line l lo n
  unfolding drain_in
  drain-line zero zero lo l h v le = sym (ready_line-nil l lo)
  drain-line zero (suc n) lo l h v le = let q = freed-fewer lo l (ready-present v) in absurd (omega arith)
  drain-line (suc f) zero lo l h v le = rw (take_none v) (sym (ready_line-nil l lo))
  drain-line (suc f) (suc n) lo l h v le =
      let t = take-some n v in
      let q = freed-fewer lo l (ready-present v) in
      rw (t.2, drain-line f n (suc lo) (freed (ready_as lo) l) (h ++ (t.0 ∷ [])) t.3 (omega arith))
      (sym (freed-line l lo n t.0 t.1))

  -- What takes until 20 hand out are the ready messages by their turns.
  pub drain-is : {l : List Slot} {lo n : ℕ} {h : List Message} → Outs o next l lo n h → drain l ≡ ready_line l lo n
  unfolding drain
  drain-is {l} {lo} {n} {h} v = drain-line (length l) n lo l h v (count-length is_ready l)
