-- What step 4 needs of the slots to hold a message, make it ready or drop it; a whole frame and a joined message have it.
-- Assumes nothing.
use Prim.Native.Nat.{ℕ, zero, suc, ◌≤◌}
use mathlib.Core.Path.{◌≡◌, refl, sym, ◌∙◌, ap}
use mathlib.Core.Bool.{true, false}
use mathlib.Core.Option.{Option, some}
use mathlib.Core.List.{List, ◌∷◌, Memᴰ}
use native.Mathlib.Omega.{arith}
use lib.Dec.{eqb}
use borrow.Author.Tests.{eq-eqb, ne_eqb}
use Rattle.base.specs.Lists.{find, any, without, below}
use Rattle.base.proofs.Choices.{case_option, and_left, neither}
use Rattle.base.proofs.Lists.{find-some, any-true, any-mem, any-find}
use Rattle.bare.specs.Frame.{Frame, Piece, Message, piece_of, message}
use Rattle.bare.specs.Bare.{is_at, has_id}
use Rattle.bare.proofs.Tests.{is_at-there}
use Rattle.cells.specs.Cell.{Slot, Key, open_as, held_as, ready_as, of, sits, is_free, join, all_there, message_of, message_at, turn_to}
use Rattle.cells.specs.Cell.{put_slot, slot_of}
use Rattle.cells.specs.Datagram.{Fate, late}
use Rattle.cells.proofs.Keys.{sits-is, put-any-of, put_whole}
use Rattle.cells.proofs.Pieces.{Pieces, pieces-put-other, pieces-close}
use Rattle.cells.proofs.Ready.{SameUnder, same-put, Unique}
use Rattle.cells.proofs.Moves.{of-apart, ready_moved, ready-others, ready-unique, ready_held, held_moved, held-others, held-ready}
use Rattle.cells.proofs.Moves.{held-unique, drop-other, drop-unique}
use Rattle.cells.proofs.FrameSlot.{of-slot-held, of-slot-ready, of-slot-other, slot-index, slot-count, slot-message, slot-open}
use Rattle.cells.proofs.FrameSlot.{put-fresh, fresh-held, fresh-ready, Agrees}

-- What the slots must be where a message is held, made ready, or dropped after its join.
pub record Holds (m : Message) (l l' : List Slot) : Type 0 where
  pub is : message_at (held_as m.channel m.order) l' ≡ some m
  pub here : any (of (held_as m.channel m.order)) l' ≡ true
  pub held : (c k : ℕ) → is_at c k m ≡ false → SameUnder (held_as c k) l (held_as c k) l'
  pub ready : (t : ℕ) → SameUnder (ready_as t) l (ready_as t) l'
  pub unique : Unique l'

pub record Readies (m : Message) (T : ℕ) (l l' : List Slot) : Type 0 where
  pub is : message_at (ready_as T) l' ≡ some m
  pub held : (c k : ℕ) → SameUnder (held_as c k) l (held_as c k) l'
  pub ready : (t : ℕ) → (t ≡ T → ⊥) → SameUnder (ready_as t) l (ready_as t) l'
  pub unique : Unique l'

pub record Keeps (l l' : List Slot) : Type 0 where
  pub held : (c k : ℕ) → SameUnder (held_as c k) l (held_as c k) l'
  pub ready : (t : ℕ) → SameUnder (ready_as t) l (ready_as t) l'
  pub unique : Unique l'

pub record Placing (x : Fate) (m : Message) (ps : List Piece) (T : ℕ) (l l₂ l₃ l₄ : List Slot) : Type 0 where
  pub holds : (x ≡ late → ⊥) → any (of (held_as m.channel m.order)) l ≡ false → Holds m l l₂
  pub readies : (x ≡ late → ⊥) → any (of (ready_as T)) l ≡ false → Readies m T l l₃
  pub drops : Keeps l l₄
  pub pieces₂ : (x ≡ late → ⊥) → Pieces ps l₂
  pub pieces₃ : (x ≡ late → ⊥) → Pieces ps l₃
  pub pieces₄ : Pieces ps l₄

-- A whole frame, where there is room.
pub whole-placing : (x : Fate) (f : Frame) (ps : List Piece) (T : ℕ) (l : List Slot) → f.piece ≡ false
    → ((x ≡ late → ⊥) → any is_free l ≡ true) → Unique l → Pieces ps l → Placing x (message f f.body) ps T l (put_slot (slot_of f 2 0) l)
    (put_slot (slot_of f 3 T) l) l
unfolding message
whole-placing x f ps T l e roomed u v = record {
  holds = λ ne no. let room = roomed ne in record {
    is = put_whole x₂ l room (held_as f.channel f.order) at₂ (slot-index f 2 0 e) (slot-count f 2 0 e) no ∙ ap {B = Option Message}
        some (slot-message f 2 0);
    here = put-any-of x₂ l room (held_as f.channel f.order) ∙ rw at₂;
    held = λ c k y. same-put x₂ l room (held_as c k) (of-slot-held f 0 c k f.body ∙ y);
    ready = λ t. same-put x₂ l room (ready_as t) (of-slot-other f 2 0 (ready_as t) (λ q. omega arith));
    unique = put-fresh x₂ l room (fresh-held f l no) u;
  };
  readies = λ ne no. let room = roomed ne in record {
    is = put_whole x₃ l room (ready_as T) at₃ (slot-index f 3 T e) (slot-count f 3 T e) no ∙ ap {B = Option Message} some
        (slot-message f 3 T);
    held = λ c k. same-put x₃ l room (held_as c k) (of-slot-other f 3 T (held_as c k) (λ q. omega arith));
    ready = λ t ne. same-put x₃ l room (ready_as t) (of-slot-ready f T t ∙ ne_eqb T t (λ q. ne (sym q)));
    unique = put-fresh x₃ l room (fresh-ready f T l no) u;
  };
  drops = record {
    held = λ c k. record { message = refl; present = refl };
    ready = λ t. record { message = refl; present = refl };
    unique = u;
  };
  pieces₂ = λ ne. pieces-put-other x₂ ps l (roomed ne) (slot-open f 2 0 (λ q. omega arith)) v;
  pieces₃ = λ ne. pieces-put-other x₃ ps l (roomed ne) (slot-open f 3 T (λ q. omega arith)) v;
  pieces₄ = v;
}
  where
    x₂ : Slot
    x₂ = slot_of f 2 0

    x₃ : Slot
    x₃ = slot_of f 3 T

    at₂ : of (held_as f.channel f.order) (slot_of f 2 0) ≡ true
    at₂ = of-slot-held f 0 f.channel f.order f.body ∙ is_at-there f.channel f.order (message f f.body) refl refl

    at₃ : of (ready_as T) (slot_of f 3 T) ≡ true
    at₃ = of-slot-ready f T T ∙ eq-eqb T T refl

pub there-first : (k : Key) (l : List Slot) (n : ℕ) → 1 ≤ n → all_there k l n ≡ true → any (sits k 0) l ≡ true
unfolding all_there below
there-first k l zero le e = absurd (omega arith)
there-first k l (suc zero) le e = e
there-first k l (suc (suc n)) le e = there-first k l (suc n) (omega arith) (and_left (all_there k l (suc n)) _ e)

-- The joined message.
joined-message : (f : Frame) (l : List Slot) → ((s : Slot) → Memᴰ s l → of (open_as f.id) s ≡ true → Agrees f s) → 1 ≤ f.count
    → all_there (open_as f.id) l f.count ≡ true → message_at (open_as f.id) l ≡ some (message f (join (open_as f.id) l f.count))
unfolding message_at message_of message
joined-message f l agree le e = case_option (find (sits (open_as f.id) 0) l)
    (λ t. neither (any (sits (open_as f.id) 0) l) (there-first _ l f.count le e) (any-find (sits (open_as f.id) 0) l ∙ rw t))
    (λ s t. let i = find-some (sits (open_as f.id) 0) l t in
    let g = agree s i.0 (sits-is (open_as f.id) 0 s i.1).0 in
    rw t (cc (g.count, g.kind, g.order, g.channel)))

abbrev pub joined_of : Frame → List Slot → Message
joined_of f l = message f (join (open_as f.id) l f.count)

close-new : (f : Frame) (ps : List Piece) → without (has_id f.id) (piece_of f ∷ ps) ≡ without (has_id f.id) ps
unfolding without has_id piece_of
close-new f ps = rw (eq-eqb f.id f.id refl)

module _ (f : Frame) (ps : List Piece) (T : ℕ) (l : List Slot) (agree : (s : Slot) → Memᴰ s l → of (open_as f.id) s ≡ true
    → Agrees f s) (le : 1 ≤ f.count) (all : all_there (open_as f.id) l f.count ≡ true)
    (u : Unique l) (v : Pieces (piece_of f ∷ ps) l) where
  joined_is : message_at (open_as f.id) l ≡ some (joined_of f l)
  joined_is = joined-message f l agree le all

  on-its-channel : (s : Slot) → Memᴰ s l → of (open_as f.id) s ≡ true → (s.cell.channel ≡ f.channel) × (s.cell.order ≡ f.order)
  on-its-channel s i y = ((agree s i y).channel, (agree s i y).order)

  joined-present : any (of (open_as f.id)) l ≡ true
  joined-present = let t = any-true (sits (open_as f.id) 0) l (there-first _ l f.count le all) in
      any-mem (of (open_as f.id)) l t.0 t.1 (sits-is (open_as f.id) 0 t.0 t.2).0

  closed : (u t : ℕ) → eqb u 1 ≡ false → Pieces (without (has_id f.id) ps) (turn_to (open_as f.id) u t l)
  closed u t e = rw (close-new f ps) at (pieces-close f.id u t (piece_of f ∷ ps) l e v)

  -- A joined message, its slots being there.
  pub joined-placing : (x : Fate) → Placing x (joined_of f l) (without (has_id f.id) ps) T l (turn_to (open_as f.id) 2 0 l)
      (turn_to (open_as f.id) 3 T l) (turn_to (open_as f.id) 4 0 l)
  unfolding message
  joined-placing x = record {
    holds = λ ne no. record {
      is = (held_moved f.id f.channel f.order l on-its-channel no).message ∙ joined_is;
      here = (held_moved f.id f.channel f.order l on-its-channel no).present ∙ joined-present;
      held = λ c k y. held-others f.id f.channel f.order l on-its-channel no c k
          (λ p q. neither (is_at c k (joined_of f l)) (is_at-there c k (joined_of f l) (sym p) (sym q)) y);
      ready = held-ready f.id f.channel f.order l on-its-channel no;
      unique = held-unique f.id f.channel f.order l on-its-channel no u;
    };
    readies = λ ne no. record {
      is = (ready_moved (open_as f.id) T l (λ q. omega arith) no).message ∙ joined_is;
      held = λ c k. ready_held (open_as f.id) T l (λ q. omega arith) no c k
          (λ s y. of-apart (open_as f.id) (held_as c k) s (λ q. omega arith) y);
      ready = ready-others (open_as f.id) T l (λ q. omega arith) no;
      unique = ready-unique (open_as f.id) T l (λ q. omega arith) no u;
    };
    drops = record {
      held = λ c k. drop-other (open_as f.id) l (held_as c k) (λ q. omega arith);
      ready = λ t. drop-other (open_as f.id) l (ready_as t) (λ q. omega arith);
      unique = drop-unique (open_as f.id) l u;
    };
    pieces₂ = λ ne. closed 2 0 refl;
    pieces₃ = λ ne. closed 3 T refl;
    pieces₄ = closed 4 0 refl;
  }
