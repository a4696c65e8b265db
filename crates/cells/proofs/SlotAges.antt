-- The age that the slots keep for an id: what each step of a datagram, a take and a drop leave of it.
-- Assumes nothing.
use Prim.Native.Nat.{ℕ, zero, suc, ◌≤◌}
use mathlib.Core.Path.{◌≡◌, refl, sym, ◌∙◌, ap, subst}
use mathlib.Core.Logic.{◌⊎◌, inl, inr}
use mathlib.Core.Bool.{Bool, true, false, cond, not, ◌&&◌}
use mathlib.Core.Option.{some}
use mathlib.Core.List.Memᴰ
use mathlib.Core.List.{List, Memᴰ}
use native.Mathlib.Omega.{arith}
use lib.ListN.{length}
use lib.Dec.{ltb, eqb}
use borrow.Author.Tests.{ltb-true, eq-eqb}
use Rattle.base.specs.Limits.{max_age}
use Rattle.base.specs.Lists.{any}
use Rattle.base.proofs.Choices.{by_bool, cases, and_both, neither}
use Rattle.bare.specs.Frame.{Frame, in_limits}
use Rattle.bare.specs.Bare.{seen_before}
use Rattle.cells.specs.Cell.{Slot, Key, open_as, held_as, ready_as, bears, of, is_free, is_open, is_ready, all_there, clash, mark}
use Rattle.cells.specs.Cell.{empty_slot, change, map_if, turn_to, freed, put_slot, slot_of}
use Rattle.cells.specs.Ages.{with_age, aged, next_age, grown, renewed, is_stale, dropped}
use Rattle.cells.specs.Datagram.{Work, drop_one, fill_up, place, made, rise, remember_in, accept_in, is_held, go_on, cascade, follows, Fate}
use Rattle.cells.specs.Datagram.{late, early, due, newer, free, fate_of, roomy, readied, whole, joins, kept, put_piece, renew, piece}
use Rattle.cells.specs.Datagram.{keep_in, frame, rank, renumber, sweep, State, begin, end, grow}
use Rattle.cells.specs.Take.{Taken, taking}
use Rattle.cells.proofs.PutSlot.{mem-put}
use Rattle.cells.proofs.Pieces.{open_of}
use Rattle.cells.proofs.Cascade.{is_open-mark}
use Rattle.cells.proofs.FrameSlot.{slot-open}
use Rattle.cells.proofs.Takes.{empty-open, taken-freed}
use Rattle.cells.proofs.AgedAs.{AgedAs}

-- The same ages, told otherwise.
pub aged-ext : {F G : ℕ → ℕ} {l : List Slot} → ((id : ℕ) → F id ≡ G id) → AgedAs F l → AgedAs G l
aged-ext {F} {G} e v = record {
  is = λ s m o. v.is s m o ∙ e s.cell.id;
  small = λ id. rw (← e id) (v.small id);
}

-- A change: what it makes open has its id's new age, and what it leaves open its old one.
pub aged-change : {F G : ℕ → ℕ} (q : Slot → Bool) (g : Slot → Slot) (l : List Slot) → AgedAs F l → ((id : ℕ) → G id ≤ max_age)
    → ((s : Slot) → Memᴰ s l → q s ≡ true → is_open (g s) ≡ true → (g s).cell.age ≡ G (g s).cell.id)
    → ((s : Slot) → Memᴰ s l → q s ≡ false → is_open s ≡ true → F s.cell.id ≡ G s.cell.id) → AgedAs G (map_if q g l)
unfolding map_if change
aged-change {F} {G} q g l v small taken left = record {
  is = λ s m. let a = Memᴰ.of_map (change q g) l m in
      subst (λ (z : Slot). is_open z ≡ true → z.cell.age ≡ G z.cell.id) a.2
      (by_bool (λ (z : Slot). is_open z ≡ true → z.cell.age ≡ G z.cell.id) (q a.0) (λ y o. taken a.0 a.1 y o)
      (λ y o. v.is a.0 a.1 o ∙ left a.0 a.1 y o));
  small = small;
}

-- What becomes of the slots that a change takes is not open: all ages stay.
pub aged-closed : {F : ℕ → ℕ} (q : Slot → Bool) (g : Slot → Slot) (l : List Slot)
    → ((s : Slot) → q s ≡ true → is_open (g s) ≡ false) → AgedAs F l → AgedAs F (map_if q g l)
aged-closed q g l e v = aged-change q g l v v.small (λ s m y o. neither (is_open (g s)) o (e s y)) (λ s m y o. refl)

aged-emptied : {F : ℕ → ℕ} (q : Slot → Bool) (l : List Slot) → AgedAs F l → AgedAs F (map_if q (λ s. empty_slot) l)
aged-emptied q l v = aged-closed q (λ s. empty_slot) l (λ s y. empty-open) v

aged-turn : {F : ℕ → ℕ} (k : Key) (u t : ℕ) (l : List Slot) → (u ≡ 1 → ⊥) → AgedAs F l → AgedAs F (turn_to k u t l)
unfolding turn_to
aged-turn k u t l ne v = aged-closed (of k) (mark u t) l (λ s y. is_open-mark u t s ne) v

aged-put : {F : ℕ → ℕ} (x : Slot) (l : List Slot) → (is_open x ≡ true → x.cell.age ≡ F x.cell.id) → AgedAs F l → AgedAs F (put_slot x l)
aged-put {F} x l e v = record { is = λ s m o. go s o (mem-put x l s m); small = v.small }
  where
    go : (s : Slot) → is_open s ≡ true → (s ≡ x) ⊎ Memᴰ s l → s.cell.age ≡ F s.cell.id
    go s o (inl q) = subst (λ (z : Slot). z.cell.age ≡ F z.cell.id) (sym q) (e (ap is_open (sym q) ∙ o))
    go s o (inr m) = v.is s m o

aged-whole : {F : ℕ → ℕ} (f : Frame) (u t : ℕ) (l : List Slot) → (u ≡ 1 → ⊥) → AgedAs F l → AgedAs F (put_slot (slot_of f u t) l)
aged-whole f u t l ne v = aged-put (slot_of f u t) l (λ o. neither (is_open (slot_of f u t)) o (slot-open f u t ne)) v

-- Each open id one older.
next_age-small : (a : ℕ) → next_age a ≤ max_age
unfolding next_age
next_age-small a = by_bool (λ (x : ℕ). x ≤ max_age) (ltb a max_age) (λ t. let p = ltb-true a max_age t in omega arith) (λ t. omega arith)

pub aged-grown : {F : ℕ → ℕ} (l : List Slot) → AgedAs F l → AgedAs (λ id. next_age (F id)) (grown l)
unfolding grown aged with_age
aged-grown {F} l v = aged-change is_open (λ s. aged (next_age s.cell.age) s) l v (λ id. next_age-small (F id))
    (λ s m y o. ap next_age (v.is s m y)) (λ s m y o. neither (is_open s) o y)

-- The ages with that of an id at 0: one of its pieces is kept.
unfoldable pub renewed_age : ℕ → (ℕ → ℕ) → ℕ → ℕ
renewed_age id F i = cond (eqb i id) 0 (F i)

renewed-zero : (id : ℕ) (F : ℕ → ℕ) → renewed_age id F id ≡ 0
unfolding renewed_age
renewed-zero id F = rw (eq-eqb id id refl)

aged-renewed : {F : ℕ → ℕ} (id : ℕ) (l : List Slot) → AgedAs F l → AgedAs (renewed_age id F) (renewed id l)
unfolding renewed aged with_age renewed_age of bears is_open
aged-renewed {F} id l v = aged-change (of (open_as id)) (aged 0) l v
    (λ i. by_bool (λ (x : ℕ). x ≤ max_age) (eqb i id) (λ t. omega arith) (λ t. v.small i))
    (λ s m y o. let e = (open_of id s y).1 in rw (e, eq-eqb id id refl))
    (λ s m y o. cases (eqb s.cell.id id) (λ t. neither (of (open_as id) s) (and_both _ _ o t) y) (λ t. rw t))

-- Whether a frame is kept as a piece, and the ages after it.
unfoldable pub puts_piece : Work → Frame → Bool
puts_piece w f = not (seen_before f w.state.accepted) && (in_limits f && (f.piece && not (any (clash f) w.state.slots)))

unfoldable pub ages_after : Work → Frame → (ℕ → ℕ) → ℕ → ℕ
ages_after w f F = cond (puts_piece w f) (renewed_age f.id F) F

module _ (F : ℕ → ℕ) where
  abbrev Has : Work → Type 0
  Has w = AgedAs F w.state.slots

  cascade-aged : (n c : ℕ) (w : Work) → Has w → Has (cascade n c w)
  unfolding cascade go_on rise made
  cascade-aged zero c w v = v
  cascade-aged (suc n) c w v = by_bool Has (is_held c (w.state.next c) w.state.slots)
      (λ t. cascade-aged n c (go_on c w) (aged-turn (held_as c (w.state.next c)) 3 w.turn w.state.slots (λ q. omega arith) v)) (λ t. v)

  follows-aged : (c : ℕ) (w : Work) → Has w → Has (follows c w)
  unfolding follows rise
  follows-aged c w v = cascade-aged (length w.state.slots) c (rise c w) v

  roomy-aged : (w r : Work) → Has w → Has r → Has (roomy w r)
  unfolding roomy fill_up
  roomy-aged w r v u = by_bool Has (any is_free w.state.slots) (λ t. u) (λ t. v)

  readied-aged : (f : Frame) (w : Work) → Has w → Has (readied f w)
  unfolding readied made
  readied-aged f w v = roomy-aged w _ v (aged-whole f 3 w.turn w.state.slots (λ q. omega arith) v)

  whole-aged : (x : Fate) (f : Frame) (w : Work) → Has w → Has (whole x f w)
  unfolding whole remember_in drop_one place made
  whole-aged late f w v = v
  whole-aged early f w v = roomy-aged w _ v (aged-whole f 2 0 w.state.slots (λ q. omega arith) v)
  whole-aged due f w v = roomy-aged w _ v (follows-aged f.channel _ (aged-whole f 3 w.turn w.state.slots (λ q. omega arith) v))
  whole-aged newer f w v = readied-aged f (remember_in f w) v
  whole-aged free f w v = readied-aged f w v

  joins-aged : (x : Fate) (f : Frame) (w : Work) → Has w → Has (joins x f w)
  unfolding joins remember_in drop_one place made
  joins-aged late f w v = aged-turn (open_as f.id) 4 0 w.state.slots (λ q. omega arith) v
  joins-aged early f w v = aged-turn (open_as f.id) 2 0 w.state.slots (λ q. omega arith) v
  joins-aged due f w v = follows-aged f.channel _ (aged-turn (open_as f.id) 3 w.turn w.state.slots (λ q. omega arith) v)
  joins-aged newer f w v = aged-turn (open_as f.id) 3 w.turn w.state.slots (λ q. omega arith) v
  joins-aged free f w v = aged-turn (open_as f.id) 3 w.turn w.state.slots (λ q. omega arith) v

  -- The piece's own slot has age 0, as its id has.
  put-aged : (f : Frame) (w : Work) → F f.id ≡ 0 → Has w → Has (put_piece f w)
  unfolding put_piece kept place slot_of
  put-aged f w e v =
      let k = place (put_slot (slot_of f 1 0) w.state.slots) w in
      let u : Has (place (put_slot (slot_of f 1 0) w.state.slots) w) = aged-put (slot_of f 1 0) w.state.slots (λ o. sym e) v in
      roomy-aged w _ v (by_bool Has (all_there (open_as f.id) k.state.slots f.count) (λ t. joins-aged (fate_of f k) f k u) (λ t. u))

-- A frame: the ages stay, or its id's is 0 from now on.
pub frame-aged : {F : ℕ → ℕ} (w : Work) (f : Frame) → AgedAs F w.state.slots → AgedAs (ages_after w f F) (frame w f).state.slots
unfolding ages_after puts_piece frame keep_in piece renew place drop_one accept_in
frame-aged {F} w f v = cases (seen_before f w.state.accepted)
    (λ t. rw t v)
    (λ t. cases (in_limits f)
    (λ y. rw (t, y) (kept-in f.piece (any (clash f) w.state.slots)))
    (λ y. rw (t, y) v))
  where
    kept-in : (p c : Bool) → AgedAs (cond (p && not c) (renewed_age f.id F) F)
        (cond p (cond c (drop_one (accept_in f w)) (put_piece f (renew f (accept_in f w))))
        (whole (fate_of f (accept_in f w)) f (accept_in f w))).state.slots
    kept-in true true = v
    kept-in true false = put-aged (renewed_age f.id F) f (renew f (accept_in f w)) (renewed-zero f.id F) (aged-renewed f.id w.state.slots v)
    kept-in false true = whole-aged F (fate_of f (accept_in f w)) f (accept_in f w) v
    kept-in false false = whole-aged F (fate_of f (accept_in f w)) f (accept_in f w) v

-- Before and after a datagram's frames.
pub grow-aged : {F : ℕ → ℕ} (s : State) → AgedAs F s.slots → AgedAs (λ id. next_age (F id)) (grow (begin s)).state.slots
unfolding grow begin place renumber
grow-aged s v = aged-grown (renumber s.slots)
    (aged-closed is_ready (λ x. mark 3 (rank s.slots x.cell.turn) x) s.slots (λ x y. is_open-mark 3 _ x (λ q. omega arith)) v)

pub end-aged : {F : ℕ → ℕ} (w : Work) → AgedAs F w.state.slots → AgedAs F (end w).slots
unfolding end sweep
end-aged w v = aged-emptied (λ s. eqb s.cell.used 4) w.state.slots v

pub take-aged : {F : ℕ → ℕ} (l : List Slot) (t : Taken) → taking l ≡ some t → AgedAs F l → AgedAs F t.slots
unfolding freed
take-aged {F} l t e v = let f = taken-freed l t e in subst (AgedAs F) (sym f.1) (aged-emptied (of (ready_as f.0)) l v)

pub drop-aged : {F : ℕ → ℕ} (n : ℕ) (l : List Slot) → AgedAs F l → AgedAs F (dropped n l)
unfolding dropped
drop-aged n l v = aged-emptied (λ s. is_stale n s.cell) l v
