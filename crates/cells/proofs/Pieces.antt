-- Step 3: the open pieces in the slots are the bare receiver's.
-- Assumes nothing.
use Prim.Native.Nat.{ℕ, zero, suc, ◌+◌}
use mathlib.Core.Path.{◌≡◌, refl, sym, ◌∙◌, ap}
use mathlib.Core.Logic.{◌⊎◌, inl, inr}
use mathlib.Core.Bool.{Bool, true, false, cond, not, ◌&&◌, true≢false, false≢true, or-true}
use mathlib.Core.Option.{Option, none, some}
use mathlib.Core.List.{List, [], ◌∷◌, ◌++◌, map, Memᴰ}
use native.Mathlib.Omega.{arith}
use lib.Dec.{eqb}
use borrow.Author.Tests.{eqb-true, eqb-false, eq-eqb}
use Rattle.base.specs.Lists.{option, find, any, count_of, without, below}
use Rattle.base.proofs.Choices.{cases, cond-ap, and_left, and_right, and_both, neither}
use Rattle.base.proofs.Lists.{any_false, without-mem, find-without, any-all, any-find, find-no, any-map}
use Rattle.base.proofs.Counts.{count_map, count-without, any-counted}
use Rattle.bare.specs.Frame.{Frame, Piece, piece_of}
use Rattle.bare.specs.Bare.{conflict, is_piece_at, has_id, joined}
use Rattle.bare.proofs.Tests.{is_piece-true}
use Rattle.cells.specs.Cell.{Slot, Key, open_as, bears, at, of, sits, is_free, is_open, join, all_there, piece_in, clash, mark_cell, mark}
use Rattle.cells.specs.Cell.{change, map_if, turn_to, put_slot, slot_of}
use Rattle.cells.proofs.PutSlot.{count-put}
use Rattle.cells.proofs.Keys.{sits-not, sits-is, none-sits, shown, look, Carried, carried-look, carried_other, put-find}

-- An open slot whose piece passes; the piece under an id and index.
unfoldable pub opens : (Piece → Bool) → Slot → Bool
opens p s = is_open s && p (piece_in s)

unfoldable pub piece_at : ℕ → ℕ → List Slot → Option Piece
piece_at id i l = option (find (sits (open_as id) i) l) none (λ s. some (piece_in s))

-- The open slots hold the pieces ps: as many pass a test in the one as in the other, and under each id and index stands the same piece.
pub record Pieces (ps : List Piece) (l : List Slot) : Type 0 where
  pub counts : (p : Piece → Bool) → count_of p ps ≡ count_of (opens p) l
  pub finds : (id i : ℕ) → find (is_piece_at id i) ps ≡ piece_at id i l

opens-free : (p : Piece → Bool) (s : Slot) → is_free s ≡ true → opens p s ≡ false
unfolding opens is_free is_open
opens-free p s e = let u : s.cell.used ≡ 0 = eqb-true _ _ e in ap (λ (n : ℕ). eqb n 1 && p (piece_in s)) u

-- The piece found is all that `look` shows.
piece_at-look : (id i : ℕ) (l l' : List Slot) (id' : ℕ) → look (find (sits (open_as id') i) l') ≡ look (find (sits (open_as id) i) l)
    → piece_at id' i l' ≡ piece_at id i l
unfolding piece_at look shown mark mark_cell piece_in
piece_at-look id i l l' id' e = sym (fold (find (sits (open_as id') i) l'))
    ∙ (ap (λ (o : Option Slot). option o none (λ s. some (piece_in s))) e ∙ fold (find (sits (open_as id) i) l))
  where
    fold : (o : Option Slot) → option (look o) none (λ s. some (piece_in s)) ≡ option o none (λ s. some (piece_in s))
    fold none = refl
    fold (some s) = refl

of-open : (id : ℕ) (s : Slot) → of (open_as id) s ≡ (is_open s && eqb s.cell.id id)
unfolding of bears is_open
of-open id s = refl

open-not : (id : ℕ) (s : Slot) → is_open s ≡ false → of (open_as id) s ≡ false
open-not id s e = rw (of-open id s, e)

-- A change that leaves each open piece what it was.
pub pieces-same : (h : Slot → Slot) (ps : List Piece) (l : List Slot) → ((p : Piece → Bool) (s : Slot) → Memᴰ s l → opens p (h s)
    ≡ opens p s) → ((id : ℕ) → Carried (open_as id) (open_as id) h l) → Pieces ps l → Pieces ps (map h l)
pieces-same h ps l e c v = record {
  counts = λ p. v.counts p ∙ sym (count_map (opens p) (opens p) h l (e p));
  finds = λ id i. v.finds id i ∙ sym (piece_at-look id i l (map h l) id (carried-look (c id) i));
}

-- A change that touches no open piece.
pub pieces-other : (q : Slot → Bool) (g : Slot → Slot) (ps : List Piece) (l : List Slot)
    → ((s : Slot) → Memᴰ s l → q s ≡ true → (is_open s ≡ false) × (is_open (g s) ≡ false)) → Pieces ps l → Pieces ps (map_if q g l)
unfolding map_if change opens
pieces-other q g ps l e v = pieces-same (change q g) ps l point
    (λ id. carried_other (open_as id) q g l (λ s m t. let r = e s m t in (open-not id s r.0, open-not id (g s) r.1))) v
  where
    point : (p : Piece → Bool) (s : Slot) → Memᴰ s l → opens p (change q g s) ≡ opens p s
    point p s m = cases (q s) (λ t. let r = e s m t in rw (t, r.0, r.1)) (λ t. rw t)

pub pieces-put-other : (x : Slot) (ps : List Piece) (l : List Slot) → any is_free l ≡ true → is_open x ≡ false → Pieces ps l
    → Pieces ps (put_slot x l)
unfolding opens piece_at
pieces-put-other x ps l room e v = record {
  counts = λ p. v.counts p ∙ sym (count-put (opens p) x (opens-free p) l room ∙ rw e (omega arith));
  finds = λ id i. let n = sits-not (open_as id) i x (open-not id x e) in v.finds id i
      ∙ sym (rw (put-find x l room (open_as id) i (λ t. neither (sits (open_as id) i x) t n), n));
}

pub joined-join : (ps : List Piece) (l : List Slot) → Pieces ps l → (id n : ℕ) → joined ps id n ≡ cond (all_there (open_as id) l n)
    (some (join (open_as id) l n)) none
unfolding joined all_there below join piece_at piece_in
joined-join ps l v id zero = refl
joined-join ps l v id (suc n) = rw (joined-join ps l v id n, v.finds id n, any-find (sits (open_as id) n) l)
    (go (all_there (open_as id) l n) (find (sits (open_as id) n) l) (join (open_as id) l n))
  where
    go : (t : Bool) (o : Option Slot) (j : List ℕ) → option (cond t (some j) none) none
        (λ front. option (option o none (λ s. some (piece_in s))) none (λ g. some (front ++ g.body)))
        ≡ cond (t && option o false (λ x. true)) (some (j ++ option o [] (λ s. s.body))) none
    go true none j = refl
    go true (some s) j = refl
    go false none j = refl
    go false (some s) j = refl

-- A piece that is kept.

pub open_of : (id : ℕ) (s : Slot) → of (open_as id) s ≡ true → (is_open s ≡ true) × (s.cell.id ≡ id)
open_of id s e = let e' : (is_open s && eqb s.cell.id id) ≡ true = sym (of-open id s) ∙ e in
    (and_left (is_open s) _ e', eqb-true _ _ (and_right (is_open s) _ e'))

pub no-clash : (f : Frame) (l : List Slot) → any (clash f) l ≡ false → (s : Slot) → Memᴰ s l → of (open_as f.id) s ≡ true
    → conflict (piece_of f) (piece_in s) ≡ false
unfolding clash
no-clash f l e s m o = rw (open_of f.id s o).0 at (any_false (clash f) l e s m)

fresh-index : (f : Frame) (l : List Slot) → any (clash f) l ≡ false → any (sits (open_as f.id) f.index) l ≡ false
unfolding conflict piece_of piece_in
fresh-index f l e = any-all (sits (open_as f.id) f.index) l (λ s m. cases (sits (open_as f.id) f.index s)
    (λ t. let r = sits-is (open_as f.id) f.index s t in
    let n = no-clash f l e s m r.0 in
    let o = open_of f.id s r.0 in
    absurd (true≢false (sym (rw (eq-eqb _ _ o.1, eq-eqb _ _ r.1, or-true)) ∙ n)))
    (λ t. t))

pub tests-clash : (f : Frame) (ps : List Piece) (l : List Slot) → Pieces ps l → any (conflict (piece_of f)) ps ≡ any (clash f) l
unfolding clash opens
tests-clash f ps l v = any-counted (conflict (piece_of f)) (opens (conflict (piece_of f))) ps l (v.counts (conflict (piece_of f)))

piece_in-slot_of : (f : Frame) (u t : ℕ) → f.piece ≡ true → piece_in (slot_of f u t) ≡ piece_of f
unfolding piece_in slot_of piece_of
piece_in-slot_of f u t e = go f.piece e
  where
    go : (b : Bool) → b ≡ true → ◌≡◌ {A = Piece} (record {
      id = f.id;
      index = cond b f.index 0;
      count = cond b f.count 1;
      kind = f.kind;
      sequence = f.sequence;
      order = f.order;
      channel = f.channel;
      body = f.body;
    }) (piece_of f)
    go true e = refl
    go false e = absurd (false≢true e)

opens-new : (p : Piece → Bool) (f : Frame) (t : ℕ) → opens p (slot_of f 1 t) ≡ p (piece_in (slot_of f 1 t))
unfolding opens is_open slot_of
opens-new p f t = refl

sits-new : (id i : ℕ) (f : Frame) (t : ℕ) → f.piece ≡ true → sits (open_as id) i (slot_of f 1 t) ≡ is_piece_at id i (piece_of f)
unfolding sits at bears slot_of is_piece_at piece_of
sits-new id i f t e = go f.piece e
  where
    go : (b : Bool) → b ≡ true → ((true && eqb f.id id) && eqb (cond b f.index 0) i) ≡ (eqb f.id id && eqb f.index i)
    go true e = refl
    go false e = absurd (false≢true e)

pub fresh-open : (f : Frame) (l : List Slot) → f.piece ≡ true → any (clash f) l ≡ false → (id i : ℕ) → sits (open_as id) i (slot_of f 1 0)
    ≡ true → any (sits (open_as id) i) l ≡ false
unfolding piece_of
fresh-open f l e c id i t = let r = is_piece-true id i (piece_of f) (sym (sits-new id i f 0 e) ∙ t) in rw (← r.0, ← r.1) (fresh-index f l c)

pub pieces-put : (f : Frame) (ps : List Piece) (l : List Slot) → any is_free l ≡ true → f.piece ≡ true → any (clash f) l ≡ false
    → Pieces ps l → Pieces (piece_of f ∷ ps) (put_slot (slot_of f 1 0) l)
unfolding count_of find piece_at piece_of
pieces-put f ps l room e c v = record {
  counts = λ p. sym (count-put (opens p) (slot_of f 1 0) (opens-free p) l room
      ∙ rw (opens-new p f 0, piece_in-slot_of f 1 0 e, v.counts p) (one-more (p (piece_of f)) (count_of (opens p) l)));
  finds = λ id i. sym (rw (put-find (slot_of f 1 0) l room (open_as id) i (fresh-open f l e c id i), sits-new id i f 0 e, v.finds id i)
      (go (is_piece_at id i (piece_of f)) (find (sits (open_as id) i) l)));
}
  where
    go : (t : Bool) (o : Option Slot) → option (cond t (some (slot_of f 1 0)) o) none (λ s. some (piece_in s)) ≡ cond t (some (piece_of f))
        (option o none (λ s. some (piece_in s)))
    go true o = ap {B = Option Piece} some (piece_in-slot_of f 1 0 e)
    go false o = refl

    one-more : (t : Bool) (n : ℕ) → cond t 1 0 + n ≡ cond t (suc n) n
    one-more true n = omega arith
    one-more false n = omega arith

is_piece-has_id : (id id' i : ℕ) (g : Piece) → is_piece_at id' i g ≡ true → eqb id' id ≡ has_id id g
unfolding is_piece_at has_id
is_piece-has_id id id' i g e = ap (λ (n : ℕ). eqb n id) (sym (eqb-true _ _ (and_left (eqb g.id id') _ e)))

-- Of a message's slots none pass, or all do.
abbrev pub AllOrNone : (Slot → Bool) → List Slot → Key → Type 0
AllOrNone q l k = ((s : Slot) → Memᴰ s l → q s ≡ true → of k s ≡ false) ⊎ ((s : Slot) → Memᴰ s l → of k s ≡ true → q s ≡ true)

-- Open pieces are dropped, or become a message: of each id all, or none. r tells them, and q their slots, which are open no more.
module _ (r : Piece → Bool) (q : Slot → Bool) (g : Slot → Slot) (ps : List Piece) (l : List Slot)
    (told : (s : Slot) → Memᴰ s l → opens r s ≡ q s) (shut : (s : Slot) → is_open (g s) ≡ false)
    (v : Pieces ps l) where
  without-tests : (p : Piece → Bool) (s : Slot) → Memᴰ s l → opens p (change q g s) ≡ opens (λ x. p x && not (r x)) s
  unfolding change opens
  without-tests p s m = cond-ap (opens p) (q s) (g s) s
      ∙ rw (shut s, ← told s m) (table (is_open s) (r (piece_in s)) (p (piece_in s)))
    where
      table : (a b c : Bool) → cond (a && b) false (a && c) ≡ (a && (c && not b))
      table true true true = refl
      table true true false = refl
      table true false true = refl
      table true false false = refl
      table false true true = refl
      table false true false = refl
      table false false true = refl
      table false false false = refl

  module _ (id : ℕ) where
    its : (x : Piece) (i : ℕ) → is_piece_at id i x ≡ true → has_id id x ≡ true
    unfolding is_piece_at has_id
    its x i e = and_left (eqb x.id id) _ e

    slot-told : (s : Slot) → Memᴰ s l → of (open_as id) s ≡ true → r (piece_in s) ≡ q s
    unfolding opens
    slot-told s m y = rw (open_of id s y).0 at (told s m)

    -- what no slot of the id passes, no piece of it does
    none_of : (p : Piece → Bool) → ((s : Slot) → Memᴰ s l → of (open_as id) s ≡ true → p (piece_in s) ≡ false) → (x : Piece)
        → Memᴰ x ps → has_id id x ≡ true → p x ≡ false
    unfolding opens has_id piece_in
    none_of p e x m h = cases (p x) (λ y. neither (has_id id x && p x) (and_both _ _ h y) (any_false (λ x. has_id id x && p x) ps none x m))
        (λ y. y)
      where
        none : any (λ x. has_id id x && p x) ps ≡ false
        none = any-counted (λ x. has_id id x && p x) (opens (λ x. has_id id x && p x)) ps l (v.counts (λ x. has_id id x && p x))
            ∙ any-all (opens (λ x. has_id id x && p x)) l (λ s m. cases (opens (λ x. has_id id x && p x) s)
            (λ y. let z = and_right (is_open s) _ y in
            neither (p (piece_in s)) (and_right (eqb s.cell.id id) _ z)
            (e s m (of-open id s ∙ and_both _ _ (and_left (is_open s) _ y) (and_left (eqb s.cell.id id) _ z))))
            (λ y. y))

    -- no piece of the id goes
    stay : ((s : Slot) → Memᴰ s l → q s ≡ true → of (open_as id) s ≡ false) → (i : ℕ) → find (is_piece_at id i) (without r ps)
        ≡ piece_at id i (map (change q g) l)
    stay e i = find-without (is_piece_at id i) r ps (λ x m y. cases (is_piece_at id i x)
        (λ z. neither (r x) y (none_of r (λ s m o. slot-told s m o ∙ cases (q s) (λ t. neither (of (open_as id) s) o (e s m t)) (λ t. t))
        x m (its x i z)))
        (λ z. z))
        ∙ (v.finds id i ∙ sym (piece_at-look id i l (map (change q g) l) id
        (carried-look (carried_other (open_as id) q g l (λ s m y. (e s m y, open-not id (g s) (shut s)))) i)))

    -- all pieces of the id go
    leave : ((s : Slot) → Memᴰ s l → of (open_as id) s ≡ true → q s ≡ true) → (i : ℕ) → find (is_piece_at id i) (without r ps)
        ≡ piece_at id i (map (change q g) l)
    unfolding change piece_at
    leave e i = find-no (is_piece_at id i) (without r ps) (any-all _ _ (λ x m. cases (is_piece_at id i x)
        (λ z. let w = without-mem r ps x m in
        neither (not (r x)) (rw w.1) (none_of (λ x. not (r x)) (λ s m o. rw (slot-told s m o, e s m o)) x w.0 (its x i z)))
        (λ z. z)))
        ∙ sym (rw (find-no (sits (open_as id) i) (map (change q g) l) (none-sits (open_as id) i (map (change q g) l) gone)))
      where
        gone : any (of (open_as id)) (map (change q g) l) ≡ false
        gone = any-map (of (open_as id)) (λ s. false) (change q g) l
            (λ s m. cases (q s) (λ y. rw y (open-not id (g s) (shut s)))
            (λ y. rw y (cases (of (open_as id) s) (λ z. neither (q s) (e s m z) y) (λ z. z))))
            ∙ any-all (λ s. false) l (λ s m. refl)

  pub pieces-without : ((id : ℕ) → AllOrNone q l (open_as id)) → Pieces (without r ps) (map_if q g l)
  unfolding map_if
  pieces-without whole = record {
    counts = λ p. count-without p r ps ∙ (v.counts (λ x. p x && not (r x))
        ∙ sym (count_map (opens p) (opens (λ x. p x && not (r x))) (change q g) l (without-tests p)));
    finds = λ id i. go id i (whole id);
  }
    where
      go : (id i : ℕ) → AllOrNone q l (open_as id) → find (is_piece_at id i) (without r ps) ≡ piece_at id i (map (change q g) l)
      go id i (inl e) = stay id e i
      go id i (inr e) = leave id e i

-- A joined message's pieces.
pub pieces-close : (id u t : ℕ) (ps : List Piece) (l : List Slot) → eqb u 1 ≡ false → Pieces ps l → Pieces (without (has_id id) ps)
    (turn_to (open_as id) u t l)
unfolding turn_to opens has_id piece_in of bears is_open mark mark_cell
pieces-close id u t ps l e v = pieces-without (has_id id) (of (open_as id)) (mark u t) ps l (λ s m. refl) (λ s. e) v
    (λ id'. cases (eqb id' id) (λ y. inr (λ s m o. rw (← eqb-true id' id y) o)) (λ y. inl (λ s m o. apart id' y s o)))
  where
    apart : (id' : ℕ) → eqb id' id ≡ false → (s : Slot) → of (open_as id) s ≡ true → of (open_as id') s ≡ false
    apart id' q s y = cases (of (open_as id') s) (λ z. absurd (eqb-false _ _ q (sym (open_of id' s z).1 ∙ (open_of id s y).1))) (λ z. z)
