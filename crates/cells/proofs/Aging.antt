-- Ages alone change (request 4), as in `grown` and `renewed`: every message keeps its cells and says what it said, and what is sound is
-- sound.
-- Assumes nothing.
use Prim.Native.Nat.{ℕ}
use mathlib.Core.Path.{◌≡◌, refl, sym, ◌∙◌}
use mathlib.Core.Bool.{Bool}
use mathlib.Core.List.{List, map}
use lib.ListN.{length, length-map}
use Rattle.base.specs.Lists.{any, count_of}
use Rattle.base.proofs.Choices.{by_bool}
use Rattle.base.proofs.Lists.{any-map}
use Rattle.base.proofs.Counts.{count_map}
use Rattle.bare.specs.Frame.{Frame, Piece, Message}
use Rattle.bare.specs.Bare.{Out, Bare}
use Rattle.cells.specs.Cell.{Slot, Key, open_as, held_as, ready_as, bears, of, is_free, is_open, piece_in, clash, mark_cell, mark, change}
use Rattle.cells.specs.Cell.{map_if}
use Rattle.cells.specs.Ages.{with_age, aged, next_age, grown, renewed}
use Rattle.cells.specs.Datagram.{Work, place, renew, grow}
use Rattle.cells.proofs.Keys.{shown, Carried, carried-any, carried-count}
use Rattle.cells.proofs.Pieces.{opens, Pieces, pieces-same}
use Rattle.cells.proofs.Ready.{SameUnder, same-carried, Unique, Outs, outs-keep}
use Rattle.cells.proofs.Cascade.{Rel}
use Rattle.cells.proofs.SoundCore.{Bounds, Core, core-map, from-same, Lack, lack-map}
use Rattle.cells.proofs.SoundCascade.{Sound}

-- What does not look at ages.
of-aged : (k : Key) (n : ℕ) (s : Slot) → of k (aged n s) ≡ of k s
unfolding of bears aged with_age
of-aged (open_as id) n s = refl
of-aged (held_as c o) n s = refl
of-aged (ready_as t) n s = refl

free-aged : (n : ℕ) (s : Slot) → is_free (aged n s) ≡ is_free s
unfolding is_free aged with_age
free-aged n s = refl

shown-aged : (n : ℕ) (s : Slot) → shown (aged n s) ≡ shown s
unfolding shown mark mark_cell aged with_age
shown-aged n s = refl

opens-aged : (p : Piece → Bool) (n : ℕ) (s : Slot) → opens p (aged n s) ≡ opens p s
unfolding opens is_open piece_in aged with_age
opens-aged p n s = refl

clash-aged : (f : Frame) (n : ℕ) (s : Slot) → clash f (aged n s) ≡ clash f s
unfolding clash is_open piece_in aged with_age
clash-aged f n s = refl

bounds-aged : (n : ℕ) (s : Slot) → Bounds s → Bounds (aged n s)
unfolding aged with_age
bounds-aged n s b = record {
  used = b.used;
  kind = b.kind;
  channel = b.channel;
  sequence = b.sequence;
  order = b.order;
  some-count = b.some-count;
  count = b.count;
  index = b.index;
  length = b.length;
  id = b.id;
}

-- The slots that pass q get the ages a.
module _ (q : Slot → Bool) (a : Slot → ℕ) where
  abbrev aging : Slot → Slot
  aging = change q (λ s. aged (a s) s)

  blind : {B : Type 0} (F : Slot → B) → ((n : ℕ) (s : Slot) → F (aged n s) ≡ F s) → (s : Slot) → F (aging s) ≡ F s
  unfolding change
  blind F e s = by_bool (λ (z : Slot). F z ≡ F s) (q s) (λ t. e (a s) s) (λ t. refl)

  module _ (l : List Slot) where
    aging-carried : (k : Key) → Carried k k aging l
    aging-carried k = record { moved = λ s m. blind (of k) (of-aged k) s; same = λ s m e. blind shown shown-aged s }

    aging-any : (p : Slot → Bool) → ((n : ℕ) (s : Slot) → p (aged n s) ≡ p s) → any p (map aging l) ≡ any p l
    aging-any p e = any-map p p aging l (λ s m. blind p e s)

    aging-count : (p : Slot → Bool) → ((n : ℕ) (s : Slot) → p (aged n s) ≡ p s) → count_of p (map aging l) ≡ count_of p l
    aging-count p e = count_map p p aging l (λ s m. blind p e s)

    aging-same : (k : Key) → SameUnder k l k (map aging l)
    aging-same k = same-carried (aging-carried k)

    aging-unique : Unique l → Unique (map aging l)
    aging-unique u k i = rw (carried-count (aging-carried k) i) (u k i)

    aging-pieces : (ps : List Piece) → Pieces ps l → Pieces ps (map aging l)
    aging-pieces ps = pieces-same aging ps l (λ p s m. blind (opens p) (opens-aged p) s) (λ id. aging-carried (open_as id))

    aging-outs : {o : Out} {next : ℕ → ℕ} {lo n : ℕ} {h : List Message} → Outs o next l lo n h → Outs o next (map aging l) lo n h
    aging-outs v = outs-keep (map aging l) v (λ c k. aging-same (held_as c k)) (λ t. aging-same (ready_as t)) (aging-unique v.unique)

    aging-core : Core l → Core (map aging l)
    unfolding change
    aging-core v = core-map aging l v (λ s m e. let b = v.bounds s m (sym (blind is_free free-aged s) ∙ e) in
        by_bool Bounds (q s) (λ t. bounds-aged (a s) s b) (λ t. b)) (λ k. from-same aging l v k (aging-carried k))

    aging-lack : Lack l → Lack (map aging l)
    aging-lack v id = lack-map aging l id (v id) (aging-carried (open_as id))

    aging-sound : {next : ℕ → ℕ} {T : ℕ} → Sound next l T → Sound next (map aging l) T
    aging-sound v = record {
      core = aging-core v.core;
      lack = aging-lack v.lack;
      ahead = λ c o y. v.ahead c o (sym (carried-any (aging-carried (held_as c o))) ∙ y);
      below = λ t y. v.below t (sym (carried-any (aging-carried (ready_as t))) ∙ y);
      nexts = v.nexts;
    }

  aging-rel : (b : Bare) (w : Work) (h : List Message) → Rel b w h → Rel b (place (map aging w.state.slots) w) h
  unfolding place
  aging-rel b w h v = record {
    accepted = v.accepted;
    profile = v.profile;
    newest = v.newest;
    pieces = aging-pieces w.state.slots b.pieces v.pieces;
    outs = aging-outs w.state.slots v.outs;
  }

-- A datagram was accepted: each open id is one older.
pub grown-free : (l : List Slot) → count_of is_free (grown l) ≡ count_of is_free l
unfolding grown map_if
grown-free l = aging-count is_open (λ s. next_age s.cell.age) l is_free free-aged

pub grow-rel : (b : Bare) (w : Work) (h : List Message) → Rel b w h → Rel b (grow w) h
unfolding grow grown map_if
grow-rel b w h v = aging-rel is_open (λ s. next_age s.cell.age) b w h v

pub grown-sound : {next : ℕ → ℕ} {T : ℕ} (l : List Slot) → Sound next l T → Sound next (grown l) T
unfolding grown map_if
grown-sound l v = aging-sound is_open (λ s. next_age s.cell.age) l v

-- A piece of an id is kept: the id's age is 0.
pub renewed-free : (id : ℕ) (l : List Slot) → count_of is_free (renewed id l) ≡ count_of is_free l
unfolding renewed map_if
renewed-free id l = aging-count (of (open_as id)) (λ s. 0) l is_free free-aged

pub renewed-clash : (f : Frame) (id : ℕ) (l : List Slot) → any (clash f) (renewed id l) ≡ any (clash f) l
unfolding renewed map_if
renewed-clash f id l = aging-any (of (open_as id)) (λ s. 0) l (clash f) (clash-aged f)

pub renewed-length : (id : ℕ) (l : List Slot) → length (renewed id l) ≡ length l
unfolding renewed map_if
renewed-length id l = length-map l (change (of (open_as id)) (aged 0))

pub renew-rel : (b : Bare) (w : Work) (h : List Message) (f : Frame) → Rel b w h → Rel b (renew f w) h
unfolding renew renewed map_if
renew-rel b w h f v = aging-rel (of (open_as f.id)) (λ s. 0) b w h v

pub renewed-sound : {next : ℕ → ℕ} {T : ℕ} (id : ℕ) (l : List Slot) → Sound next l T → Sound next (renewed id l) T
unfolding renewed map_if
renewed-sound id l v = aging-sound (of (open_as id)) (λ s. 0) l v
