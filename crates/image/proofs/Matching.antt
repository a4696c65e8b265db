-- Cells restored from an image match the bare receiver that the saved cells matched, and keep the ages that it counts.
-- Assumes nothing.
use Prim.Native.Nat.{ℕ, suc, ◌+◌, ◌≤◌, ◌<◌}
use mathlib.Core.Path.{◌≡◌, refl, sym, ◌∙◌, ap}
use mathlib.Core.Bool.{Bool, true, false, cond, ◌&&◌}
use mathlib.Core.Option.{Option, none, some}
use mathlib.Core.List.{List, [], ◌∷◌, ◌++◌, map, Memᴰ}
use native.Mathlib.Omega.{arith}
use lib.ListN.{length, get_or}
use Rattle.base.specs.Lists.{option, find, any, only, count_of}
use Rattle.base.proofs.Lists.{find-some, any-true, any-mem, at-place}
use Rattle.base.proofs.Sorts.{sort-rising, sort-count}
use Rattle.bare.specs.Frame.{Piece, Message}
use Rattle.bare.specs.Bare.{Bare, Out}
use Rattle.bare.specs.Unfinished.{Dated}
use Rattle.cells.specs.Cell.{Slot, open_as, held_as, ready_as, of, sits, is_open, message_at, piece_in}
use Rattle.cells.specs.Datagram.{State, with_slots, is_first}
use Rattle.cells.proofs.Keys.{sits-is}
use Rattle.cells.proofs.Pieces.{opens, piece_at, Pieces}
use Rattle.cells.proofs.Ready.{ready_line, Outs}
use Rattle.cells.proofs.Matching.{Matches}
use Rattle.cells.proofs.AgedAs.{AgedAs}
use Rattle.cells.proofs.Dating.{DatedMatches}
use Rattle.cells.proofs.SoundRest.{Rest}
use Rattle.cells.proofs.EverySound.{present-has}
use Rattle.image.specs.Image.{PieceEntry, MessageEntry, Image}
use Rattle.image.specs.Entries.{piece_entry, turn_of, piece_rank, pieces_in}
use Rattle.image.specs.Slots.{slots_from}
use Rattle.image.specs.Holds.{open_at, SameSlots}
use Rattle.image.proofs.Members.{no_entry}
use Rattle.image.proofs.Again.{Rises, find-ready}
use Rattle.image.proofs.Entries.{Entries, restored-rest, of-ready-entry}
use Rattle.image.proofs.Sections.{first-ready, turns-apart, pieces-from, in-pieces}
use Rattle.image.proofs.Equal.{turned, pieces-over, same-pieces}
use Rattle.image.proofs.Joins.{message_from, held-message, ready-line}

-- ---- cells that hold the same
piece_from : PieceEntry → Piece
piece_from e = record {
  id = e.id;
  index = e.index;
  count = e.count;
  kind = e.kind;
  sequence = e.sequence;
  order = e.order;
  channel = e.channel;
  body = e.body;
}

piece-from : (s : Slot) → piece_from (piece_entry s) ≡ piece_in s
unfolding piece_from piece_entry piece_in
piece-from s = refl

-- the piece under an id and index is that of the entry there
piece-at : (id i : ℕ) (l : List Slot) → piece_at id i l ≡ option (open_at id i l) none (λ e. some (piece_from e))
unfolding piece_at open_at
piece-at id i l = go (find (sits (open_as id) i) l)
  where
    go : (o : Option Slot) → option o none (λ s. some (piece_in s))
        ≡ option (option o none (λ s. some (piece_entry s))) none (λ e. some (piece_from e))
    go none = refl
    go (some s) = ap {B = Option Piece} some (sym (piece-from s))

-- as many open pieces pass a test as entries do
listed-count : (p : Piece → Bool) (l : List Slot) → count_of (λ e. p (piece_from e)) (pieces_in l) ≡ count_of (opens p) l
unfolding pieces_in count_of only opens
listed-count p l = sort-count piece_rank (λ e. p (piece_from e)) (map piece_entry (only is_open l)) ∙ go l
  where
    go : (l : List Slot) → count_of (λ e. p (piece_from e)) (map piece_entry (only is_open l)) ≡ count_of (opens p) l
    go [] = refl
    go (s ∷ l) = one (is_open s) (piece-from s) (go l)
      where
        one : (t : Bool) → piece_from (piece_entry s) ≡ piece_in s
            → count_of (λ e. p (piece_from e)) (map piece_entry (only is_open l)) ≡ count_of (opens p) l
            → count_of (λ e. p (piece_from e)) (map piece_entry (cond t (s ∷ only is_open l) (only is_open l)))
            ≡ cond (t && p (piece_in s)) (suc (count_of (opens p) l)) (count_of (opens p) l)
        one true q r = rw (q, r)
        one false q r = r

first-turn : (l : List Slot) (s : Slot) → Memᴰ s l → is_first s ≡ true → any (of (ready_as s.cell.turn)) l ≡ true
first-turn l s m e = any-mem (of (ready_as s.cell.turn)) l s m (sits-is (ready_as s.cell.turn) 0 s (first-ready s e).0).0

module _ (next : ℕ → ℕ) (l : List Slot) (v : Rest next l) (n : ℕ) (i : Image) (r : Rises i) (w : Entries next i)
    (e : SameSlots l (slots_from n i)) where
  rest : Rest next (slots_from n i)
  rest = restored-rest next n i r w

  pieces-match : (ps : List Piece) → Pieces ps l → Pieces ps (slots_from n i)
  pieces-match ps p = record {
    counts = λ t. p.counts t ∙ (sym (listed-count t l)
        ∙ (ap (count_of (λ e. t (piece_from e))) (same-pieces next next l (slots_from n i) v rest e) ∙ listed-count t (slots_from n i)));
    finds = λ id j. p.finds id j ∙ (piece-at id j l
        ∙ (ap (λ (o : Option PieceEntry). option o none (λ e. some (piece_from e))) (e.pieces id j)
        ∙ sym (piece-at id j (slots_from n i))));
  }

  held_same : (c o : ℕ) → message_at (held_as c o) (slots_from n i) ≡ message_at (held_as c o) l
  held_same c o =
      held-message (slots_from n i) c o
      ∙ (ap (λ (x : Option MessageEntry). option x none (λ e. some (message_from e))) (sym (e.held c o)) ∙ sym (held-message l c o))

  ready-within : (t : ℕ) → any (of (ready_as t)) (slots_from n i) ≡ true → (0 ≤ t) × (t < length i.ready + 0)
  ready-within t y =
      let a = any-true (of (ready_as t)) (slots_from n i) y in
      let b = (of-ready-entry next n i r w t a.0 a.1 a.2).0 in
      (omega arith, omega arith)

  outs-match : (o : Out) (lo k : ℕ) (handed : List Message) → Outs o next l lo k handed
      → Outs o next (slots_from n i) 0 (length i.ready) handed
  outs-match o lo k handed u = record {
    next-same = u.next-same;
    held = λ c d. u.held c d ∙ sym (held_same c d);
    first = λ c d. present-has (slots_from n i) rest.core (held_as c d) (λ q. omega arith);
    line = u.line ∙ ap (λ (x : List Message). handed ++ x) lines;
    within = ready-within;
    firsts = λ t a b. sym (present-has (slots_from n i) rest.core (ready_as t) (λ q. omega arith)) ∙ there t (omega arith);
    unique = rest.core.unique;
  }
    where
      there : (t : ℕ) → t < length i.ready → any (of (ready_as t)) (slots_from n i) ≡ true
      there t lt =
          let f = find-ready n i r t lt 0 (r.some-ready (get_or i.ready t no_entry) (at-place no_entry i.ready t lt)) in
          let g = find-some (sits (ready_as t) 0) (slots_from n i) f in
          any-mem (of (ready_as t)) (slots_from n i) _ g.0 (sits-is (ready_as t) 0 _ g.1).0

      lines : ready_line l lo k ≡ ready_line (slots_from n i) 0 (length i.ready)
      lines =
          sym (ready-line l v.core.unique lo k (λ s m f. u.within s.cell.turn (first-turn l s m f))
          (sort-rising turn_of (only is_first l) (turns-apart next l v)))
          ∙ (ap (map message_from) e.ready
          ∙ ready-line (slots_from n i) rest.core.unique 0 (length i.ready)
          (λ s m f. ready-within s.cell.turn (first-turn (slots_from n i) s m f))
          (sort-rising turn_of (only is_first (slots_from n i)) (turns-apart next (slots_from n i) rest)))

  -- an open piece has the age that its id had
  ages-match : {F : ℕ → ℕ} → AgedAs F l → AgedAs F (slots_from n i)
  unfolding piece_entry
  ages-match {F} a = record { is = one; small = a.small }
    where
      one : (s : Slot) → Memᴰ s (slots_from n i) → is_open s ≡ true → s.cell.age ≡ F s.cell.id
      one s m o =
          let b = pieces-from l (piece_entry s)
          (pieces-over next (slots_from n i) rest l (turned l (slots_from n i) e) (piece_entry s) (in-pieces (slots_from n i) s m o)) in
          ap (λ (x : PieceEntry). x.age) b.3 ∙ (a.is b.0 b.1 b.2 ∙ ap (λ (x : PieceEntry). F x.id) (sym b.3))

-- So what the saved cells matched, the restored ones do.
module _ (s : State) (v : Rest s.next s.slots) (n : ℕ) (i : Image) (r : Rises i) (w : Entries s.next i)
    (e : SameSlots s.slots (slots_from n i)) where
  restored-matches : (b : Bare) (handed : List Message) → Matches b s handed → Matches b (with_slots (slots_from n i) s) handed
  restored-matches b handed m = record {
    lo = 0;
    n = length i.ready;
    accepted = m.accepted;
    profile = m.profile;
    newest = m.newest;
    pieces = pieces-match s.next s.slots v n i r w e b.pieces m.pieces;
    outs = outs-match s.next s.slots v n i r w e b.out m.lo m.n handed m.outs;
  }

  pub restored-dated : (d : Dated) (handed : List Message) → DatedMatches d s handed
      → DatedMatches d (with_slots (slots_from n i) s) handed
  restored-dated d handed m = record {
    matches = restored-matches d.bare handed m.matches;
    within = m.within;
    ages = ages-match s.next s.slots v n i r w e m.ages;
  }
