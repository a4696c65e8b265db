-- Soundness is kept by every frame.
-- Assumes nothing.
use Prim.Native.Nat.{ℕ, suc, ◌≤◌, ◌<◌}
use mathlib.Core.Path.{◌≡◌, refl, sym, ◌∙◌, ap}
use mathlib.Core.Logic.{◌⊎◌, inl, inr}
use mathlib.Core.Bool.{Bool, true, false, cond, ◌&&◌, ◌||◌}
use mathlib.Core.List.{List, [], ◌∷◌, Memᴰ}
use native.Mathlib.Omega.{arith}
use lib.Dec.{ltb, eqb}
use borrow.Author.Tests.{ltb-true, ltb-false, eqb-true, eqb-false, eq-eqb}
use Rattle.base.specs.Limits.{numbers24, max_ord_chans, max_frags}
use Rattle.base.specs.Lists.{any}
use Rattle.base.proofs.Choices.{by_bool, cases, and_left, and_right, and_both, or_left, or_right, neither}
use Rattle.base.proofs.Lists.{any_false}
use Rattle.bare.specs.Frame.{Frame, ordered, sequenced, in_limits, message}
use Rattle.bare.specs.Bare.{memory_of, older, seen_before}
use Rattle.bare.proofs.Tests.{piece-limits, is_at-true}
use Rattle.cells.specs.Cell.{Slot, Key, open_as, held_as, ready_as, bears, of, is_free, all_there, clash, turn_to, put_slot, slot_of}
use Rattle.cells.specs.Datagram.{Work, drop_one, fill_up, place, made, remember_in, accept_in, is_held, Fate, late, early, due, newer}
use Rattle.cells.specs.Datagram.{free}
use Rattle.cells.specs.Datagram.{fate, fate_of, roomy, readied, whole, joins, kept, put_piece, renew, piece, keep_in, frame, frames}
use Rattle.cells.specs.Sound.{Readable}
use Rattle.cells.proofs.PutSlot.{mem-put}
use Rattle.cells.proofs.Keys.{of-used, no-key-of-4, put-any-of}
use Rattle.cells.proofs.Moves.{of-apart, of-mark, of-mark-held, ready_held, held-others, held-ready, drop-other, put-unique}
use Rattle.cells.proofs.FrameSlot.{of-slot-held, of-slot-ready, of-slot-other, slot-index, slot-count, put-fresh, fresh-held}
use Rattle.cells.proofs.FrameSlot.{fresh-ready, fresh-piece, Agrees, agrees-no-clash, agrees-new, agrees-put}
use Rattle.cells.proofs.SoundCore.{Bounds, Agreeing, Core, Lack, there-put, core-put, Target, core-turn, lack-turn}
use Rattle.cells.proofs.Aging.{renewed-clash, renewed-sound}
use Rattle.cells.proofs.SoundCascade.{Sound, fresh, ready-core, ready-below, follows-sound}

slot-bounds : (f : Frame) (u t : ℕ) → Readable f → in_limits f ≡ true → u ≤ 4 → Bounds (slot_of f u t)
unfolding slot_of in_limits
slot-bounds f u t ok lim le = record {
  used = le;
  kind = ok.kind;
  channel = ltb-true f.channel max_ord_chans (and_left (ltb f.channel max_ord_chans) _ lim);
  sequence = ok.sequence;
  order = ok.order;
  some-count = (go f.piece (piece-limits f lim)).0;
  count = (go f.piece (piece-limits f lim)).1;
  index = (go f.piece (piece-limits f lim)).2;
  length = ok.body;
  id = ok.id;
}
  where
    go : (b : Bool) → (b ≡ true → (1 ≤ f.count) × (f.count ≤ max_frags) × (f.index < f.count)) → (1 ≤ cond b f.count 1)
        × (cond b f.count 1 ≤ max_frags) × (cond b f.index 0 < cond b f.count 1)
    go true h = h refl
    go false h = (omega arith, omega arith, omega arith)

-- A slot that is no open piece is put.
lack-put : (x : Slot) (l : List Slot) → any is_free l ≡ true → ((id : ℕ) → of (open_as id) x ≡ false) → Lack l → Lack (put_slot x l)
lack-put x l room e v id s m o = go (mem-put x l s m)
  where
    go : (s ≡ x) ⊎ Memᴰ s l → all_there (open_as id) (put_slot x l) s.cell.count ≡ false
    go (inl q) = neither (of (open_as id) s) o (ap (of (open_as id)) q ∙ e id)
    go (inr i) = there-put x l room (open_as id) (e id) s.cell.count ∙ v id s i o

whole-core : (x : Slot) (l : List Slot) → any is_free l ≡ true → Core l → Bounds x → ((k : Key) → of k x ≡ true → any (of k) l ≡ false)
    → x.cell.index ≡ 0 → x.cell.count ≡ 1 → Core (put_slot x l)
whole-core x l room v b f i n = core-put x l room v b (put-fresh x l room f v.unique)
    (λ k y s m o. neither (of k s) o (any_false (of k) l (f k y) s m)) (λ k y ne. (f k y, i, n))

module _ (f : Frame) (w : Work) (ok : Readable f) (lim : in_limits f ≡ true) (v : Sound w.state.next w.state.slots w.turn) where
  module _ (e : f.piece ≡ false) (room : any is_free w.state.slots ≡ true) where
    hold-sound : w.state.next f.channel < f.order → is_held f.channel f.order w.state.slots ≡ false
        → Sound w.state.next (put_slot (slot_of f 2 0) w.state.slots) w.turn
    unfolding is_held message
    hold-sound lt away = record {
      core = whole-core (slot_of f 2 0) w.state.slots room v.core (slot-bounds f 2 0 ok lim (omega arith))
          (fresh-held f w.state.slots away) (slot-index f 2 0 e) (slot-count f 2 0 e);
      lack = lack-put (slot_of f 2 0) w.state.slots room (λ id. of-slot-other f 2 0 (open_as id) (λ q. omega arith)) v.lack;
      ahead = λ c o y. cases (of (held_as c o) (slot_of f 2 0))
          (λ z. let p = held-slot c o z in rw (← p.0, ← p.1) lt)
          (λ z. v.ahead c o (rw z at (sym (put-any-of (slot_of f 2 0) w.state.slots room (held_as c o)) ∙ y)));
      below = λ t y. v.below t (rw (of-slot-other f 2 0 (ready_as t) (λ q. omega arith)) at
          (sym (put-any-of (slot_of f 2 0) w.state.slots room (ready_as t)) ∙ y));
      nexts = v.nexts;
    }
      where
        held-slot : (c o : ℕ) → of (held_as c o) (slot_of f 2 0) ≡ true → (f.channel ≡ c) × (f.order ≡ o)
        held-slot c o z = is_at-true c o (message f f.body) (sym (of-slot-held f 0 c o f.body) ∙ z)

    ready-sound : Sound w.state.next (put_slot (slot_of f 3 w.turn) w.state.slots) (suc w.turn)
    ready-sound = record {
      core = whole-core (slot_of f 3 w.turn) w.state.slots room v.core (slot-bounds f 3 w.turn ok lim (omega arith))
          (fresh-ready f w.turn w.state.slots (fresh w.state.slots w.turn v.below)) (slot-index f 3 w.turn e)
          (slot-count f 3 w.turn e);
      lack = lack-put (slot_of f 3 w.turn) w.state.slots room (λ id. of-slot-other f 3 w.turn (open_as id) (λ q. omega arith))
          v.lack;
      ahead = λ c o y. v.ahead c o (rw (of-slot-other f 3 w.turn (held_as c o) (λ q. omega arith)) at
          (sym (put-any-of (slot_of f 3 w.turn) w.state.slots room (held_as c o)) ∙ y));
      below = λ t y. cases (eqb w.turn t)
          (λ z. let q = eqb-true w.turn t z in omega arith)
          (λ z. let p = v.below t (rw (of-slot-ready f w.turn t ∙ z) at
          (sym (put-any-of (slot_of f 3 w.turn) w.state.slots room (ready_as t)) ∙ y)) in omega arith);
      nexts = v.nexts;
    }

-- What step 4 found.
abbrev Found : Fate → Frame → Work → Type 0
Found late f w = Unit {0}
Found early f w = (w.state.next f.channel < f.order) × (is_held f.channel f.order w.state.slots ≡ false)
Found due f w = w.state.next f.channel ≡ f.order
Found newer f w = Unit {0}
Found free f w = Unit {0}

found : (f : Frame) (w : Work) → Found (fate_of f w) f w
unfolding fate_of fate
found f w = by_bool (λ (x : Fate). Found x f w) (ordered f.kind)
    (λ t. by_bool (λ (x : Fate). Found x f w) (ltb f.order (w.state.next f.channel) || is_held f.channel f.order
    w.state.slots) (λ y. tt) (λ y. by_bool (λ (x : Fate). Found x f w) (eqb f.order (w.state.next f.channel))
    (λ z. sym (eqb-true f.order (w.state.next f.channel) z))
    (λ z. let a = eqb-false f.order (w.state.next f.channel) z in
    let b = ltb-false f.order (w.state.next f.channel) (or_left (ltb f.order (w.state.next f.channel)) _ y) in
    (omega arith, or_right (ltb f.order (w.state.next f.channel)) _ y))))
    (λ t. by_bool (λ (x : Fate). Found x f w) (sequenced f.kind)
    (λ y. by_bool (λ (x : Fate). Found x f w) (older w.state.newest (memory_of w.state.profile f.kind f.channel) f.sequence)
    (λ z. tt) (λ z. tt))
    (λ y. tt))

abbrev SoundIn : Work → Type 0
SoundIn w = Sound w.state.next w.state.slots w.turn

roomy-sound : (w r : Work) → SoundIn w → (any is_free w.state.slots ≡ true → SoundIn r) → SoundIn (roomy w r)
unfolding roomy fill_up
roomy-sound w r v k = by_bool SoundIn (any is_free w.state.slots) k (λ t. v)

whole-sound : (x : Fate) (f : Frame) (w : Work) → Readable f → in_limits f ≡ true → f.piece ≡ false → Found x f w → SoundIn w
    → SoundIn (whole x f w)
unfolding whole readied remember_in drop_one place made
whole-sound late f w ok lim e p v = v
whole-sound early f w ok lim e p v = roomy-sound w _ v (λ room. hold-sound f w ok lim v e room p.0 p.1)
whole-sound newer f w ok lim e p v = roomy-sound (remember_in f w) _ v (λ room. ready-sound f w ok lim v e room)
whole-sound free f w ok lim e p v = roomy-sound w _ v (λ room. ready-sound f w ok lim v e room)
whole-sound due f w ok lim e p v = roomy-sound w _ v (λ room. follows-sound f.channel
    (made (put_slot (slot_of f 3 w.turn) w.state.slots) w) (let r = ok.order in omega (arith, p)) (ready-sound f w ok lim v e room))

-- A piece was put: its own id may lack no index any more.
record But (id : ℕ) (next : ℕ → ℕ) (l : List Slot) (T : ℕ) : Type 0 where
  pub core : Core l
  pub lack : (j : ℕ) (s : Slot) → Memᴰ s l → of (open_as j) s ≡ true → of (open_as id) s ≡ false → all_there (open_as j) l s.cell.count
      ≡ false
  pub ahead : (c o : ℕ) → any (of (held_as c o)) l ≡ true → next c < o
  pub below : (t : ℕ) → any (of (ready_as t)) l ≡ true → t < T
  pub nexts : (c : ℕ) → c < max_ord_chans → next c ≤ numbers24

open-slot : (f : Frame) (id : ℕ) → of (open_as id) (slot_of f 1 0) ≡ true → f.id ≡ id
unfolding of bears slot_of
open-slot f id e = eqb-true f.id id e

slot-used : (f : Frame) (u t : ℕ) → (slot_of f u t).cell.used ≡ u
unfolding slot_of
slot-used f u t = refl

agrees-agreeing : {f : Frame} {s x : Slot} → Agrees f s → Agrees f x → Agreeing s x
agrees-agreeing a b = record {
  count = a.count ∙ sym b.count;
  kind = a.kind ∙ sym b.kind;
  sequence = a.sequence ∙ sym b.sequence;
  order = a.order ∙ sym b.order;
  channel = a.channel ∙ sym b.channel;
}

id-of : (id : ℕ) (s : Slot) → of (open_as id) s ≡ true → id ≡ s.cell.id
unfolding of bears
id-of id s e = sym (eqb-true s.cell.id id (and_right (eqb s.cell.used 1) _ e))

put-but : (f : Frame) (w : Work) → Readable f → in_limits f ≡ true → f.piece ≡ true → any (clash f) w.state.slots ≡ false
    → any is_free w.state.slots ≡ true → SoundIn w → But f.id w.state.next (put_slot (slot_of f 1 0) w.state.slots) w.turn
put-but f w ok lim e c room v = record {
  core = core-put x w.state.slots room v.core (slot-bounds f 1 0 ok lim (omega arith))
      (put-unique x w.state.slots room (fresh-piece f w.state.slots e c) v.core.unique) like
      (λ k y ne. absurd (ne (sym (of-used k x y) ∙ one)));
  lack = λ j s m o n. lacks j s o n (mem-put x w.state.slots s m);
  ahead = λ d o y. v.ahead d o (rw (of-slot-other f 1 0 (held_as d o) (λ q. omega arith)) at
      (sym (put-any-of x w.state.slots room (held_as d o)) ∙ y));
  below = λ t y. v.below t (rw (of-slot-other f 1 0 (ready_as t) (λ q. omega arith)) at
      (sym (put-any-of x w.state.slots room (ready_as t)) ∙ y));
  nexts = v.nexts;
}
  where
    x : Slot
    x = slot_of f 1 0

    one : (slot_of f 1 0).cell.used ≡ 1
    one = slot-used f 1 0

    like : (k : Key) → of k (slot_of f 1 0) ≡ true → (s : Slot) → Memᴰ s w.state.slots → of k s ≡ true → Agreeing s (slot_of f 1 0)
    like (open_as id) y s m o = agrees-agreeing (agrees-no-clash f w.state.slots c s m (rw (open-slot f id y) o)) (agrees-new f 1 0 e)
    like (held_as d k) y s m o = neither (of (held_as d k) (slot_of f 1 0)) y (of-slot-other f 1 0 (held_as d k) (λ q. omega arith))
    like (ready_as t) y s m o = neither (of (ready_as t) (slot_of f 1 0)) y (of-slot-other f 1 0 (ready_as t) (λ q. omega arith))

    lacks : (j : ℕ) (s : Slot) → of (open_as j) s ≡ true → of (open_as f.id) s ≡ false → (s ≡ slot_of f 1 0) ⊎ Memᴰ s w.state.slots
        → all_there (open_as j) (put_slot (slot_of f 1 0) w.state.slots) s.cell.count ≡ false
    lacks j s o n (inl q) = neither (of (open_as j) s) o (rw (← open-slot f j (ap (of (open_as j)) (sym q) ∙ o)) n)
    lacks j s o n (inr i) = cases (of (open_as j) (slot_of f 1 0))
        (λ y. neither (of (open_as j) s) o (rw (← open-slot f j y) n))
        (λ y. there-put (slot_of f 1 0) w.state.slots room (open_as j) y s.cell.count ∙ v.lack j s i o)

-- Its message is joined.
module _ (f : Frame) (w : Work) (ok : Readable f) (agree : (s : Slot) → Memᴰ s w.state.slots → of (open_as f.id) s ≡ true
    → Agrees f s)
    (v : But f.id w.state.next w.state.slots w.turn) where
  wait-sound : all_there (open_as f.id) w.state.slots f.count ≡ false → SoundIn w
  wait-sound e = record {
    core = v.core;
    lack = λ id s m o. cases (of (open_as f.id) s)
        (λ y. let q = (agree s m y).count in rw (id-of id s o ∙ sym (id-of f.id s y)) (ap (all_there (open_as f.id) w.state.slots) q
        ∙ e)) (λ y. v.lack id s m o y);
    ahead = v.ahead;
    below = v.below;
    nexts = v.nexts;
  }

  module _ (t : all_there (open_as f.id) w.state.slots f.count ≡ true) where
    all : (s : Slot) → Memᴰ s w.state.slots → of (open_as f.id) s ≡ true → all_there (open_as f.id) w.state.slots
        s.cell.count ≡ true
    all s m y = ap (all_there (open_as f.id) w.state.slots) (agree s m y).count ∙ t

    join-late : Sound w.state.next (turn_to (open_as f.id) 4 0 w.state.slots) w.turn
    join-late = record {
      core = core-turn (open_as f.id) 4 0 w.state.slots v.core (λ s. of-mark (open_as f.id) 4 0 s (λ q. omega arith))
          (omega arith) (λ k. inl (λ s m y. of-mark k 4 0 s (no-key-of-4 k)));
      lack = lack-turn (open_as f.id) 4 0 w.state.slots v.core (λ s. of-mark (open_as f.id) 4 0 s (λ q. omega arith))
          (omega arith) (λ q. omega arith) v.lack;
      ahead = λ c o y. v.ahead c o (sym (drop-other (open_as f.id) w.state.slots (held_as c o) (λ q. omega arith)).present ∙ y);
      below = λ u y. v.below u (sym (drop-other (open_as f.id) w.state.slots (ready_as u) (λ q. omega arith)).present ∙ y);
      nexts = v.nexts;
    }

    join-early : w.state.next f.channel < f.order → is_held f.channel f.order w.state.slots ≡ false
        → Sound w.state.next (turn_to (open_as f.id) 2 0 w.state.slots) w.turn
    unfolding is_held
    join-early lt away = record {
      core = core-turn (open_as f.id) 2 0 w.state.slots v.core (λ s. of-mark (open_as f.id) 2 0 s (λ q. omega arith))
          (omega arith) target;
      lack = lack-turn (open_as f.id) 2 0 w.state.slots v.core (λ s. of-mark (open_as f.id) 2 0 s (λ q. omega arith))
          (omega arith) (λ q. omega arith) v.lack;
      ahead = λ c o y. cases (eqb c f.channel && eqb o f.order)
          (λ z. rw (eqb-true c f.channel (and_left (eqb c f.channel) _ z), eqb-true o f.order (and_right (eqb c f.channel) _ z))
          lt)
          (λ z. v.ahead c o (sym (held-others f.id f.channel f.order w.state.slots on away c o
          (λ p q. neither (eqb c f.channel && eqb o f.order) (and_both _ _ (eq-eqb c f.channel p) (eq-eqb o f.order q)) z)
          ).present ∙ y));
      below = λ u y. v.below u (sym (held-ready f.id f.channel f.order w.state.slots on away u).present ∙ y);
      nexts = v.nexts;
    }
      where
        on : (s : Slot) → Memᴰ s w.state.slots → of (open_as f.id) s ≡ true → (s.cell.channel ≡ f.channel)
            × (s.cell.order ≡ f.order)
        on s m y = ((agree s m y).channel, (agree s m y).order)

        its : (c o : ℕ) (s : Slot) → (s.cell.channel ≡ f.channel) × (s.cell.order ≡ f.order)
            → (eqb s.cell.channel c && eqb s.cell.order o) ≡ (eqb f.channel c && eqb f.order o)
        its c o s p = cc (p.0, p.1)

        target : (k : Key) → Target (open_as f.id) 2 0 w.state.slots k
        target (open_as id) = inl (λ s m y. of-mark (open_as id) 2 0 s (λ q. omega arith))
        target (ready_as u) = inl (λ s m y. of-mark (ready_as u) 2 0 s (λ q. omega arith))
        target (held_as c o) = cases (eqb f.channel c && eqb f.order o)
            (λ z. inr (
              λ s m y. of-mark-held c o 0 s ∙ (its c o s (on s m y) ∙ z),
              rw (
                ← eqb-true f.channel c (and_left (eqb f.channel c) _ z),
                ← eqb-true f.order o
                    (and_right (eqb f.channel c) _ z),
              ) away,
              all,
            ))
            (λ z. inl (λ s m y. of-mark-held c o 0 s ∙ (its c o s (on s m y) ∙ z)))

    join-ready : Sound w.state.next (turn_to (open_as f.id) 3 w.turn w.state.slots) (suc w.turn)
    join-ready = record {
      core = ready-core (open_as f.id) w.turn w.state.slots v.core v.below (λ q. omega arith) all;
      lack = lack-turn (open_as f.id) 3 w.turn w.state.slots v.core
          (λ s. of-mark (open_as f.id) 3 w.turn s (λ q. omega arith)) (omega arith) (λ q. omega arith) v.lack;
      ahead = λ c o y. v.ahead c o (sym (ready_held (open_as f.id) w.turn w.state.slots (λ q. omega arith)
          (fresh w.state.slots w.turn v.below) c o (λ s z. of-apart (open_as f.id) (held_as c o) s (λ q. omega arith) z)
          ).present ∙ y);
      below = ready-below (open_as f.id) w.turn w.state.slots v.core v.below (λ q. omega arith) all;
      nexts = v.nexts;
    }

    joins-sound : (x : Fate) → Found x f w → SoundIn (joins x f w)
    unfolding joins remember_in drop_one place made
    joins-sound late p = join-late
    joins-sound early p = join-early p.0 p.1
    joins-sound newer p = join-ready
    joins-sound free p = join-ready
    joins-sound due p = follows-sound f.channel (made (turn_to (open_as f.id) 3 w.turn w.state.slots) w) (let r = ok.order in
        omega (arith, p)) join-ready

  kept-sound : SoundIn (kept f w)
  unfolding kept
  kept-sound = by_bool SoundIn (all_there (open_as f.id) w.state.slots f.count) (λ t. joins-sound t (fate_of f w) (found f w))
      wait-sound

put-sound : (f : Frame) (w : Work) → Readable f → in_limits f ≡ true → f.piece ≡ true → any (clash f) w.state.slots ≡ false → SoundIn w
    → SoundIn (put_piece f w)
unfolding put_piece place
put-sound f w ok lim e c v = roomy-sound w _ v (λ room. kept-sound f (place (put_slot (slot_of f 1 0) w.state.slots) w) ok
    (agrees-put f w.state.slots e c) (put-but f w ok lim e c room v))

piece-sound : (f : Frame) (w : Work) → Readable f → in_limits f ≡ true → f.piece ≡ true → SoundIn w → SoundIn (piece f w)
unfolding piece drop_one renew place
piece-sound f w ok lim e v = by_bool SoundIn (any (clash f) w.state.slots) (λ t. v) (λ t. put-sound f (renew f w) ok lim e
    (renewed-clash f f.id w.state.slots ∙ t) (renewed-sound f.id w.state.slots v))

frame-sound : (f : Frame) (w : Work) → Readable f → SoundIn w → SoundIn (frame w f)
unfolding frame drop_one accept_in keep_in
frame-sound f w ok v = by_bool SoundIn (seen_before f w.state.accepted) (λ t. v)
    (λ t. by_bool SoundIn (in_limits f)
    (λ y. by_bool SoundIn f.piece
    (λ z. piece-sound f (accept_in f w) ok y z v)
    (λ z. whole-sound (fate_of f (accept_in f w)) f (accept_in f w) ok y z (found f (accept_in f w)) v))
    (λ y. v))

-- Every frame that came from bytes keeps the slots sound.
pub frames-sound : (fs : List Frame) (w : Work) → ((f : Frame) → Memᴰ f fs → Readable f) → SoundIn w → SoundIn (frames w fs)
unfolding frames
frames-sound [] w ok v = v
frames-sound (f ∷ fs) w ok v = frames-sound fs (frame w f) (λ g m. ok g (Memᴰ.tail m)) (frame-sound f w (ok f (Memᴰ.head refl)) v)
