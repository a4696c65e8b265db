-- What a datagram leaves of slots and bytes beside which unused ones stand.
-- Assumes nothing.
use Prim.Native.Nat.{ℕ, suc, ◌*◌, ◌≤◌}
use mathlib.Core.Path.{◌≡◌, refl, sym, ◌∙◌, ap}
use mathlib.Core.Bool.{true, false}
use mathlib.Core.List.{List, [], ◌∷◌, ◌++◌, map-append, append_assoc}
use native.Mathlib.Nat.{suc-mul}
use native.Mathlib.Omega.{arith}
use lib.Dec.{eqb}
use lib.ListN.{length, take, drop, length-map, length-drop, take-append-drop}
use lib.Seq.{take-append-le, drop-append-le}
use borrow.Author.Tests.{eqb-true, ne_eqb}
use Rattle.base.specs.Lists.{every, count_of}
use Rattle.base.proofs.Choices.{cases, and_left, and_right}
use Rattle.base.proofs.Counts.{count_map}
use Rattle.bare.specs.Frame.{Frame}
use Rattle.cells.specs.Cell.{Cell, Slot, is_free, is_open, is_ready, mark, empty_slot, change, map_if}
use Rattle.cells.specs.Ages.{aged, next_age, grown}
use Rattle.cells.specs.Datagram.{Work, place, frame, frames, is_first, is_before, rank, renumber, sweep, State, with_slots, begin, grow}
use Rattle.cells.specs.Datagram.{datagram}
use Rattle.cells.specs.Store.{cell_size, slots_of, cells_of, laid, store_of}
use Rattle.cells.proofs.Keys.{used-free, mark-free}
use Rattle.cells.proofs.Growing.{frame-grows}
use Rattle.cells.proofs.Aging.{grown-free}
use Rattle.recv_prefix.specs.First.{is_unused}
use Rattle.recv_prefix.proofs.Unused.{count-first}
use Rattle.recv_prefix.proofs.Prefix.{change-prefix, frames-prefix}

pub slots-count : (cs : List Cell) (st : List ℕ) → count_of is_free (slots_of cs st) ≡ count_of is_unused cs
unfolding slots_of count_of is_free is_unused
slots-count [] st = refl
slots-count (c ∷ cs) st = rw (slots-count cs (drop cell_size st))

pub slots-many : (cs : List Cell) (st : List ℕ) → length (slots_of cs st) ≡ length cs
unfolding slots_of
slots-many [] st = refl
slots-many (c ∷ cs) st = ap suc (slots-many cs (drop cell_size st))

-- ---- bodies laid over the bytes

-- The bytes after the slots' cells stay.
pub store-append : (l : List Slot) (a b : List ℕ) → length l * cell_size ≤ length a → store_of (a ++ b) l ≡ store_of a l ++ b
unfolding store_of
store-append [] a b le = refl
store-append (s ∷ l) a b le =
    let m = suc-mul (length l) cell_size in
    let room : cell_size ≤ length a = omega arith in
    let left : length l * cell_size ≤ length (drop cell_size a) = simp length-drop (omega arith) in
    rw (take-append-le cell_size a b room, drop-append-le cell_size a b room, store-append l (drop cell_size a) b left)
    (sym (append_assoc (laid s (take cell_size a)) (store_of (drop cell_size a) l) b))

free-laid : (t : List Slot) (st : List ℕ) → every is_free t ≡ true → store_of st t ≡ st
unfolding store_of every laid
free-laid [] st e = refl
free-laid (s ∷ t) st e = rw (and_left (is_free s) _ e, free-laid t (drop cell_size st) (and_right (is_free s) _ e))
    (take-append-drop cell_size st)

-- Unused slots write nothing.
pub store-free : (l t : List Slot) (st : List ℕ) → every is_free t ≡ true → store_of st (l ++ t) ≡ store_of st l
unfolding store_of
store-free [] t st e = free-laid t st e
store-free (s ∷ l) t st e = ap (λ (r : List ℕ). laid s (take cell_size st) ++ r) (store-free l t (drop cell_size st) e)

-- ---- a datagram over slots after which the unused ones t stand

-- An unused slot has no other use.
not_used : (u : ℕ) → (0 ≡ u → ⊥) → (s : Slot) → is_free s ≡ true → eqb s.cell.used u ≡ false
unfolding is_free
not_used u n s e = let z = eqb-true s.cell.used 0 e in ne_eqb s.cell.used u (λ q. n (sym z ∙ q))

not-ready : (s : Slot) → is_free s ≡ true → is_ready s ≡ false
unfolding is_ready
not-ready = not_used 3 (λ q. omega arith)

not-open : (s : Slot) → is_free s ≡ true → is_open s ≡ false
unfolding is_open
not-open = not_used 1 (λ q. omega arith)

not_first : (s : Slot) → is_free s ≡ true → is_first s ≡ false
unfolding is_first
not_first s e = rw (not-ready s e)

not-before : (n : ℕ) (s : Slot) → is_free s ≡ true → is_before n s ≡ false
unfolding is_before
not-before n s e = rw (not_first s e)

free-renumber : (l : List Slot) → count_of is_free (renumber l) ≡ count_of is_free l
unfolding renumber map_if change is_ready
free-renumber l = count_map is_free is_free (change is_ready (λ s. mark 3 (rank l s.cell.turn) s)) l
    (λ s m. cases (is_ready s) (λ y. rw (
      y,
      mark-free 3 (rank l s.cell.turn) s (λ q. omega arith),
      used-free s 3 (eqb-true s.cell.used 3 y) (λ q. omega arith),
    )) (λ y. rw y))

frames-many : (fs : List Frame) (w : Work) → length (frames w fs).state.slots ≡ length w.state.slots
unfolding frames
frames-many [] w = refl
frames-many (f ∷ fs) w = frames-many fs (frame w f) ∙ (frame-grows (length w.state.slots) f w (omega arith)).many

-- a datagram keeps the number of slots
pub datagram-many : (s : State) (fs : List Frame) → length (datagram s fs).state.slots ≡ length s.slots
unfolding datagram grow begin place grown renumber map_if
datagram-many s fs =
    frames-many fs (grow (begin s)) ∙ length-map (renumber s.slots) (change is_open (λ x. aged (next_age x.cell.age) x))
    ∙ length-map s.slots (change is_ready (λ x. mark 3 (rank s.slots x.cell.turn) x))

module _ (t : List Slot) (unused : every is_free t ≡ true) where
  rank-beside : (l : List Slot) (n : ℕ) → rank (l ++ t) n ≡ rank l n
  unfolding rank
  rank-beside l n = count-first t unused (is_before n) (not-before n) l

  renumber-beside : (l : List Slot) → renumber (l ++ t) ≡ renumber l ++ t
  unfolding renumber
  renumber-beside l = ap (λ (r : ℕ → ℕ). map_if is_ready (λ s. mark 3 (r s.cell.turn) s) (l ++ t)) (λ i n. rank-beside l n i)
      ∙ change-prefix t unused is_ready (λ s. mark 3 (rank l s.cell.turn) s) not-ready l

  pub sweep-beside : (l : List Slot) → sweep (l ++ t) ≡ sweep l ++ t
  unfolding sweep
  sweep-beside l = change-prefix t unused (λ s. eqb s.cell.used 4) (λ s. empty_slot) (not_used 4 (λ q. omega arith)) l

  begin-beside : (s : State) → begin (with_slots (s.slots ++ t) s) ≡ place ((begin s).state.slots ++ t) (begin s)
  unfolding begin place
  begin-beside s = rw (renumber-beside s.slots, count-first t unused is_first not_first s.slots)

  grown-beside : (l : List Slot) → grown (l ++ t) ≡ grown l ++ t
  unfolding grown
  grown-beside l = change-prefix t unused is_open (λ s. aged (next_age s.cell.age) s) not-open l

  grow-beside : (w : Work) → grow (place (w.state.slots ++ t) w) ≡ place ((grow w).state.slots ++ t) (grow w)
  unfolding grow place
  grow-beside w = rw (grown-beside w.state.slots)

  -- Where the others have an unused one for each frame, they stay as they are, and nothing else changes.
  pub datagram-beside : (s : State) (fs : List Frame) → length fs ≤ count_of is_free s.slots
      → datagram (with_slots (s.slots ++ t) s) fs ≡ place ((datagram s fs).state.slots ++ t) (datagram s fs)
  unfolding datagram
  datagram-beside s fs le =
      ap (λ (w : Work). frames (grow w) fs) (begin-beside s)
      ∙ ap (λ (w : Work). frames w fs) (grow-beside (begin s))
      ∙ frames-prefix fs (grow (begin s)) t unused (unfold grow begin place in (let g = grown-free (renumber s.slots) in
      let e = free-renumber s.slots in omega arith))

pub cells-append : (l t : List Slot) → cells_of (l ++ t) ≡ cells_of l ++ cells_of t
unfolding cells_of
cells-append l t = map-append (λ (s : Slot). s.cell) l t
