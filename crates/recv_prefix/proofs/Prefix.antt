-- Unused slots at the end do not matter to a datagram's frames, as long as the earlier ones have an unused one for each frame.
-- Assumes nothing.
use Prim.Native.Nat.{ℕ, zero, suc, ◌≤◌}
use mathlib.Core.Path.{◌≡◌, refl, ◌∙◌, ap}
use mathlib.Core.Bool.{Bool, true, false, cond, ◌||◌, false≢true}
use mathlib.Core.List.{List, [], ◌∷◌, ◌++◌, map, map-append}
use native.Mathlib.Omega.{arith}
use lib.ListN.{length, length-append}
use borrow.Author.Tests.{eqb-true}
use Rattle.base.specs.Lists.{any, every, count_of, below}
use Rattle.base.proofs.Choices.{by_bool, cases, same_cond}
use Rattle.base.proofs.Lists.{every-mem, any-map}
use Rattle.base.proofs.Counts.{count_none, count-length}
use Rattle.rows.proofs.ListMaps.{any_append}
use Rattle.bare.specs.Frame.{Frame, in_limits}
use Rattle.bare.specs.Bare.{seen_before}
use Rattle.cells.specs.Cell.{Slot, Key, open_as, held_as, of, sits, is_free, all_there, clash, mark, change, map_if, turn_to}
use Rattle.cells.specs.Cell.{put_slot, slot_of}
use Rattle.cells.specs.Ages.{with_age, aged, renewed}
use Rattle.cells.specs.Datagram.{Work, drop_one, fill_up, place, made, rise, remember_in, accept_in, is_held, go_on, cascade, follows}
use Rattle.cells.specs.Datagram.{Fate, late, early, due, newer, free, fate, fate_of, roomy, readied, whole, joins}
use Rattle.cells.specs.Datagram.{kept, put_piece, renew, piece, keep_in, frame, frames}
use Rattle.cells.proofs.PutSlot.{free-put}
use Rattle.cells.proofs.Keys.{of-free, sits-free}
use Rattle.cells.proofs.FrameSlot.{slot-free}
use Rattle.cells.proofs.Cascade.{is_open-used, is_held_slot, cascade-more, cascade-stops}
use Rattle.cells.proofs.Room.{free-follows, free-kept}
use Rattle.cells.proofs.Aging.{renewed-free}
use Rattle.recv_prefix.proofs.Unused.{map-fixed, any-first}

clash-free : (f : Frame) (s : Slot) → is_free s ≡ true → clash f s ≡ false
unfolding clash is_free
clash-free f s e = rw (is_open-used s 0 (eqb-true s.cell.used 0 e) (λ q. omega arith))

renewed-any : (id : ℕ) (l : List Slot) → any is_free (renewed id l) ≡ any is_free l
unfolding renewed map_if change is_free aged with_age
renewed-any id l = any-map is_free is_free (change (of (open_as id)) (aged 0)) l
    (λ s m. by_bool (λ (z : Slot). is_free z ≡ is_free s) (of (open_as id) s) (λ y. refl) (λ y. refl))

-- ---- lists that end in the unused slots t

module _ (t : List Slot) (unused : every is_free t ≡ true) where
  of-prefix : (k : Key) (l : List Slot) → any (of k) (l ++ t) ≡ any (of k) l
  of-prefix k l = any-first t unused (of k) (of-free k) l

  there-prefix : (k : Key) (l : List Slot) (n : ℕ) → all_there k (l ++ t) n ≡ all_there k l n
  unfolding all_there below
  there-prefix k l zero = refl
  there-prefix k l (suc n) = rw (there-prefix k l n, any-first t unused (sits k n) (sits-free k n) l)

  held-prefix : (c o : ℕ) (l : List Slot) → is_held c o (l ++ t) ≡ is_held c o l
  unfolding is_held
  held-prefix c o l = of-prefix (held_as c o) l

-- ---- how the unused slots become fewer: by at most one a frame

-- x lacks at most one of the unused slots of w.
abbrev Fewer : Work → Work → Type 0
Fewer w x = count_of is_free w.state.slots ≤ suc (count_of is_free x.state.slots)

fewer-roomy : (x : Slot) (w r : Work) → is_free x ≡ false → count_of is_free r.state.slots ≡ count_of is_free (put_slot x w.state.slots)
    → Fewer w (roomy w r)
unfolding roomy fill_up
fewer-roomy x w r e c = by_bool (λ (z : Work). Fewer w z) (any is_free w.state.slots) (λ y. let p = free-put x w.state.slots y e in
    omega arith) (λ y. omega arith)

fewer-whole : (x : Fate) (f : Frame) (w : Work) → Fewer w (whole x f w)
unfolding whole readied remember_in drop_one place made
fewer-whole late f w = omega arith
fewer-whole early f w = fewer-roomy (slot_of f 2 0) w _ (slot-free f 2 0 (λ q. omega arith)) refl
fewer-whole newer f w = fewer-roomy (slot_of f 3 w.turn) (remember_in f w) _ (slot-free f 3 w.turn (λ q. omega arith)) refl
fewer-whole free f w = fewer-roomy (slot_of f 3 w.turn) w _ (slot-free f 3 w.turn (λ q. omega arith)) refl
fewer-whole due f w = fewer-roomy (slot_of f 3 w.turn) w _ (slot-free f 3 w.turn (λ q. omega arith)) (free-follows f.channel _)

fewer-put : (f : Frame) (w : Work) → Fewer w (put_piece f w)
unfolding put_piece place
fewer-put f w = fewer-roomy (slot_of f 1 0) w _ (slot-free f 1 0 (λ q. omega arith))
    (free-kept f (place (put_slot (slot_of f 1 0) w.state.slots) w))

fewer-piece : (f : Frame) (w : Work) → Fewer w (piece f w)
unfolding piece drop_one renew place
fewer-piece f w = by_bool (λ (z : Work). Fewer w z) (any (clash f) w.state.slots) (λ y. omega arith)
    (λ y. let e = renewed-free f.id w.state.slots in let p = fewer-put f (renew f w) in omega arith)

fewer-keep : (f : Frame) (w : Work) → Fewer w (keep_in f w)
unfolding keep_in
fewer-keep f w = by_bool (λ (z : Work). Fewer w z) f.piece (λ y. fewer-piece f w) (λ y. fewer-whole (fate_of f w) f w)

fewer-frame : (f : Frame) (w : Work) → Fewer w (frame w f)
unfolding frame drop_one accept_in
fewer-frame f w = by_bool (λ (z : Work). Fewer w z) (seen_before f w.state.accepted) (λ y. omega arith)
    (λ y. by_bool (λ (z : Work). Fewer w z) (in_limits f) (λ u. fewer-keep f (accept_in f w)) (λ u. omega arith))

-- ---- the four steps with the unused slots t at the end

module _ (t : List Slot) (unused : every is_free t ≡ true) where
  unfoldable longer : Work → Work
  longer w = place (w.state.slots ++ t) w

  -- A working state that is another one with the slots t at its end.
  abbrev Longer : Work → Work → Type 0
  Longer x w = x ≡ longer w

  pub change-prefix : (p : Slot → Bool) (g : Slot → Slot) → ((s : Slot) → is_free s ≡ true → p s ≡ false) → (l : List Slot)
      → map_if p g (l ++ t) ≡ map_if p g l ++ t
  unfolding map_if change
  change-prefix p g blind l = map-append (change p g) l t
      ∙ ap (λ (r : List Slot). map (change p g) l ++ r) (map-fixed (change p g) t (λ s m. rw (blind s (every-mem is_free t unused s m))))

  turn-prefix : (k : Key) (u n : ℕ) (l : List Slot) → turn_to k u n (l ++ t) ≡ turn_to k u n l ++ t
  unfolding turn_to
  turn-prefix k u n l = change-prefix (of k) (mark u n) (of-free k) l

  put-prefix : (x : Slot) (l : List Slot) → any is_free l ≡ true → put_slot x (l ++ t) ≡ put_slot x l ++ t
  unfolding any put_slot
  put-prefix x [] e = absurd (false≢true e)
  put-prefix x (s ∷ l) e = go (is_free s) e (λ r. put-prefix x l r)
    where
      go : (b : Bool) → (b || any is_free l) ≡ true → (any is_free l ≡ true → put_slot x (l ++ t) ≡ put_slot x l ++ t)
          → cond b (x ∷ (l ++ t)) (s ∷ put_slot x (l ++ t)) ≡ cond b (x ∷ l) (s ∷ put_slot x l) ++ t
      go true e k = refl
      go false e k = ap (λ (r : List Slot). s ∷ r) (k e)

  free-prefix : (l : List Slot) → any is_free l ≡ true → any is_free (l ++ t) ≡ true
  free-prefix l e = rw (any_append is_free l t, e)

  go_on-longer : (c : ℕ) (w : Work) → go_on c (longer w) ≡ longer (go_on c w)
  unfolding longer go_on rise made place
  go_on-longer c w = ap (λ (l : List Slot). rise c (made l w)) (turn-prefix (held_as c (w.state.next c)) 3 w.turn w.state.slots)

  cascade-longer : (n c : ℕ) (w : Work) → cascade n c (longer w) ≡ longer (cascade n c w)
  unfolding cascade
  cascade-longer zero c w = refl
  cascade-longer (suc n) c w = same_cond Longer (is_held c ((longer w).state.next c) (longer w).state.slots)
      (is_held c (w.state.next c) w.state.slots) (unfold longer place in held-prefix t unused c (w.state.next c) w.state.slots)
      (λ y. ap (cascade n c) (go_on-longer c w) ∙ cascade-longer n c (go_on c w))
      (λ y. refl)

  follows-longer : (c : ℕ) (w : Work) → follows c (longer w) ≡ longer (follows c w)
  unfolding follows longer rise place
  follows-longer c w = cascade-longer (length (w.state.slots ++ t)) c (rise c w)
      ∙ ap longer (cascade-more (length w.state.slots) (length (w.state.slots ++ t)) c (rise c w)
      (rw (length-append w.state.slots t) (omega arith))
      (cascade-stops (length w.state.slots) c (rise c w) (count-length is_held_slot w.state.slots)))

  fate-longer : (f : Frame) (w : Work) → fate_of f (longer w) ≡ fate_of f w
  unfolding fate_of fate longer place
  fate-longer f w = rw (held-prefix t unused f.channel f.order w.state.slots)

  roomy-longer : (w x r : Work) → any is_free w.state.slots ≡ true → Longer x r → Longer (roomy (longer w) x) (roomy w r)
  unfolding roomy longer place
  roomy-longer w x r e y = rw (e, free-prefix w.state.slots e) y

  made-longer : (l m : List Slot) (w : Work) → l ≡ m ++ t → made l (longer w) ≡ longer (made m w)
  unfolding made longer place
  made-longer l m w e = ap (λ (r : List Slot). made r w) e

  place-longer : (l m : List Slot) (w : Work) → l ≡ m ++ t → place l (longer w) ≡ longer (place m w)
  unfolding longer place
  place-longer l m w e = ap (λ (r : List Slot). place r w) e

  remember-longer : (f : Frame) (w : Work) → remember_in f (longer w) ≡ longer (remember_in f w)
  unfolding remember_in longer place
  remember-longer f w = refl

  drop-longer : (w : Work) → drop_one (longer w) ≡ longer (drop_one w)
  unfolding drop_one longer place
  drop-longer w = refl

  due-longer : (c : ℕ) (l m : List Slot) (w : Work) → l ≡ m ++ t → follows c (made l (longer w)) ≡ longer (follows c (made m w))
  due-longer c l m w e = ap (follows c) (made-longer l m w e) ∙ follows-longer c (made m w)

  put-longer : (x : Slot) (w : Work) → any is_free w.state.slots ≡ true → put_slot x (longer w).state.slots
      ≡ put_slot x w.state.slots ++ t
  unfolding longer place
  put-longer x w e = put-prefix x w.state.slots e

  put-ready-longer : (f : Frame) (w : Work) → any is_free w.state.slots ≡ true → put_slot (slot_of f 3 (longer w).turn)
      (longer w).state.slots ≡ put_slot (slot_of f 3 w.turn) w.state.slots ++ t
  unfolding longer place
  put-ready-longer f w e = put-prefix (slot_of f 3 w.turn) w.state.slots e

  turn-longer : (k : Key) (u n : ℕ) (w : Work) → turn_to k u n (longer w).state.slots ≡ turn_to k u n w.state.slots ++ t
  unfolding longer place
  turn-longer k u n w = turn-prefix k u n w.state.slots

  turn-ready-longer : (k : Key) (w : Work) → turn_to k 3 (longer w).turn (longer w).state.slots ≡ turn_to k 3 w.turn w.state.slots
      ++ t
  unfolding longer place
  turn-ready-longer k w = turn-prefix k 3 w.turn w.state.slots

  readied-longer : (f : Frame) (w : Work) → any is_free w.state.slots ≡ true → readied f (longer w) ≡ longer (readied f w)
  unfolding readied
  readied-longer f w e = roomy-longer w _ _ e (made-longer _ _ w (put-ready-longer f w e))

  whole-longer : (x : Fate) (f : Frame) (w : Work) → any is_free w.state.slots ≡ true → whole x f (longer w) ≡ longer (whole x f w)
  unfolding whole
  whole-longer late f w e = drop-longer w
  whole-longer early f w e = roomy-longer w _ _ e (place-longer _ _ w (put-longer (slot_of f 2 0) w e))
  whole-longer due f w e = roomy-longer w _ _ e (due-longer f.channel _ _ w (put-ready-longer f w e))
  whole-longer newer f w e = ap (readied f) (remember-longer f w) ∙ readied-longer f (remember_in f w) (unfold remember_in in e)
  whole-longer free f w e = readied-longer f w e

  joins-longer : (x : Fate) (f : Frame) (w : Work) → joins x f (longer w) ≡ longer (joins x f w)
  unfolding joins
  joins-longer late f w = ap drop_one (place-longer _ _ w (turn-longer (open_as f.id) 4 0 w)) ∙ drop-longer _
  joins-longer early f w = place-longer _ _ w (turn-longer (open_as f.id) 2 0 w)
  joins-longer due f w = due-longer f.channel _ _ w (turn-ready-longer (open_as f.id) w)
  joins-longer newer f w =
      ap (made (turn_to (open_as f.id) 3 (longer w).turn (longer w).state.slots)) (remember-longer f w)
      ∙ made-longer _ _ (remember_in f w) (turn-ready-longer (open_as f.id) w)
  joins-longer free f w = made-longer _ _ w (turn-ready-longer (open_as f.id) w)

  kept-longer : (f : Frame) (w : Work) → kept f (longer w) ≡ longer (kept f w)
  unfolding kept
  kept-longer f w = same_cond Longer (all_there (open_as f.id) (longer w).state.slots f.count)
      (all_there (open_as f.id) w.state.slots f.count) (unfold longer place in there-prefix t unused (open_as f.id)
      w.state.slots f.count) (λ y. ap (λ (x : Fate). joins x f (longer w)) (fate-longer f w) ∙ joins-longer (fate_of f w) f w)
      (λ y. refl)

  renewed-longer : (id : ℕ) (w : Work) → renewed id (longer w).state.slots ≡ renewed id w.state.slots ++ t
  unfolding renewed longer place
  renewed-longer id w = change-prefix (of (open_as id)) (aged 0) (of-free (open_as id)) w.state.slots

  renew-longer : (f : Frame) (w : Work) → renew f (longer w) ≡ longer (renew f w)
  unfolding renew
  renew-longer f w = place-longer _ _ w (renewed-longer f.id w)

  put-piece-longer : (f : Frame) (w : Work) → any is_free w.state.slots ≡ true → put_piece f (longer w) ≡ longer (put_piece f w)
  unfolding put_piece
  put-piece-longer f w e = roomy-longer w _ _ e (ap (kept f) (place-longer _ _ w (put-longer (slot_of f 1 0) w e)) ∙ kept-longer f _)

  piece-longer : (f : Frame) (w : Work) → any is_free w.state.slots ≡ true → piece f (longer w) ≡ longer (piece f w)
  unfolding piece
  piece-longer f w e = same_cond Longer (any (clash f) (longer w).state.slots) (any (clash f) w.state.slots) (unfold longer place in
      any-first t unused (clash f) (clash-free f) w.state.slots) (λ y. drop-longer w)
      (λ y. ap (put_piece f) (renew-longer f w) ∙ put-piece-longer f (renew f w) (unfold renew place in renewed-any f.id w.state.slots ∙ e))

  keep-longer : (f : Frame) (w : Work) → any is_free w.state.slots ≡ true → keep_in f (longer w) ≡ longer (keep_in f w)
  unfolding keep_in
  keep-longer f w e = same_cond Longer f.piece f.piece refl
      (λ y. piece-longer f w e)
      (λ y. ap (λ (x : Fate). whole x f (longer w)) (fate-longer f w) ∙ whole-longer (fate_of f w) f w e)

  accept-longer : (f : Frame) (w : Work) → accept_in f (longer w) ≡ longer (accept_in f w)
  unfolding accept_in longer place
  accept-longer f w = refl

  frame-longer : (f : Frame) (w : Work) → any is_free w.state.slots ≡ true → frame (longer w) f ≡ longer (frame w f)
  unfolding frame
  frame-longer f w e = same_cond Longer (seen_before f (longer w).state.accepted) (seen_before f w.state.accepted)
      (unfold longer place in refl) (λ y. drop-longer w) (λ y. same_cond Longer (in_limits f) (in_limits f) refl
      (λ u. ap (keep_in f) (accept-longer f w) ∙ keep-longer f (accept_in f w) (unfold accept_in in e))
      (λ u. ap drop_one (accept-longer f w) ∙ drop-longer (accept_in f w)))

  frames-longer : (fs : List Frame) (w : Work) → length fs ≤ count_of is_free w.state.slots → frames (longer w) fs ≡ longer (frames w fs)
  unfolding frames
  frames-longer [] w le = refl
  frames-longer (f ∷ fs) w le = ap (λ (x : Work). frames x fs) (frame-longer f w room) ∙ frames-longer fs (frame w f)
      (let p = fewer-frame f w in omega arith)
    where
      room : any is_free w.state.slots ≡ true
      room = cases (any is_free w.state.slots) (λ y. y) (λ y. let p = count_none is_free w.state.slots y in absurd (omega arith))

-- Slots after which all are unused do not matter to a datagram's frames where the earlier ones have an unused one for each frame.
pub frames-prefix : (fs : List Frame) (w : Work) (t : List Slot) → every is_free t ≡ true → length fs ≤ count_of is_free w.state.slots
    → frames (place (w.state.slots ++ t) w) fs ≡ place ((frames w fs).state.slots ++ t) (frames w fs)
frames-prefix fs w t unused le = unfold longer in frames-longer t unused fs w le
