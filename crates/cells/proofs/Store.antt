-- The slots' bodies are in the store, and a call's slots are read back from what it leaves.
-- Assumes nothing.
use Prim.Native.Nat.{ℕ, zero, suc, ◌*◌, ◌≤◌}
use mathlib.Core.Path.{◌≡◌, refl, sym, ◌∙◌, ap, subst}
use mathlib.Core.Logic.{◌⊎◌, inl, inr}
use mathlib.Core.Bool.{Bool, true, false, true≢false}
use mathlib.Core.Option.{some}
use mathlib.Core.List.Memᴰ
use mathlib.Core.List.{List, [], ◌∷◌, ◌++◌, append_assoc, Memᴰ}
use native.Mathlib.Nat.{suc-mul}
use native.Mathlib.Omega.{arith}
use lib.ListN.{length, take, drop, length-append, length-drop, length-map, length-take, take-append-drop}
use lib.Seq.{drop_at, take_at, take-take}
use lib.Dec.{eqb}
use borrow.Author.Tests.{eqb-true, ne_eqb}
use Rattle.base.specs.Lists.{any}
use Rattle.base.proofs.Choices.{by_bool, cases}
use Rattle.bare.specs.Frame.{Frame, in_limits}
use Rattle.bare.specs.Bare.{seen_before}
use Rattle.cells.specs.Cell.{Cell, Slot, Key, open_as, held_as, ready_as, of, is_free, is_open, is_ready, all_there, clash, mark_cell}
use Rattle.cells.specs.Cell.{mark, empty_cell, empty_slot, change, map_if, turn_to, freed, put_slot, slot_of}
use Rattle.cells.specs.Ages.{with_age, aged, grown, renewed, is_stale, dropped}
use Rattle.cells.specs.Records.{change_cells}
use Rattle.cells.specs.Datagram.{Work, drop_one, fill_up, place, made, rise, accept_in, is_held, go_on, cascade, follows, Fate, late}
use Rattle.cells.specs.Datagram.{early, due, newer, free, remember_in, fate_of, roomy, readied, whole, joins, kept, put_piece, renew}
use Rattle.cells.specs.Datagram.{piece, keep_in, frame, frames, renumber, sweep, State, begin, end, grow, datagram}
use Rattle.cells.specs.Take.{Taken, taking}
use Rattle.cells.specs.Sound.{Readable}
use Rattle.cells.specs.Store.{cell_size, cell_body, slots_of, cells_of, laid, store_of}
use Rattle.cells.proofs.PutSlot.{mem-put, put-length}
use Rattle.cells.proofs.Keys.{key-used}
use Rattle.cells.proofs.Takes.{taken-freed}

-- A body is as long as its record says, and no longer than a cell; an unused slot has none.
pub record Sized (s : Slot) : Type 0 where
  pub none : is_free s ≡ true → s.body ≡ []
  pub exact : is_free s ≡ false → length s.body ≡ s.cell.length
  pub fits : is_free s ≡ false → length s.body ≤ cell_size

abbrev pub AllSized : List Slot → Type 0
AllSized l = (s : Slot) → Memᴰ s l → Sized s

pub laid-length : (s : Slot) (bytes : List ℕ) → Sized s → length bytes ≡ cell_size → length (laid s bytes) ≡ cell_size
unfolding laid
laid-length s bytes z e = cases (is_free s)
    (λ y. rw y e)
    (λ y. rw y (let p = z.fits y in simp (length-append, length-drop) (omega arith)))

pub room-one : (n k : ℕ) (store : List ℕ) → suc n * k ≤ length store → (k ≤ length store) × (n * k ≤ length (drop k store))
room-one n k store le = let e = suc-mul n k in (omega arith, simp length-drop (omega arith))

pub first-length : (store : List ℕ) → cell_size ≤ length store → length (take cell_size store) ≡ cell_size
first-length store le = simp length-take (omega arith)

pub store_length : (l : List Slot) (store : List ℕ) → AllSized l → length l * cell_size ≤ length store → length (store_of store l)
    ≡ length store
unfolding store_of
store_length [] store z le = refl
store_length (s ∷ l) store z le =
    let r = room-one (length l) cell_size store le in
    let a = r.0 in
    let p = laid-length s (take cell_size store) (z s (Memᴰ.head refl)) (first-length store r.0) in
    let q = store_length l (drop cell_size store) (λ x m. z x (Memᴰ.tail m)) r.1 in
    let d = length-drop cell_size store in
    length-append (laid s (take cell_size store)) (store_of (drop cell_size store) l) ∙ (omega arith)

laid-body : (s : Slot) (store rest : List ℕ) → Sized s → cell_body s.cell (laid s store ++ rest) ≡ s.body
unfolding cell_body laid is_free
laid-body s store rest z = cases (is_free s)
    (λ y. rw y (sym (z.none y)))
    (λ y. rw (y, append_assoc) (take_at s.body _ s.cell.length (z.exact y)))

pub store-slots : (l : List Slot) (store : List ℕ) → AllSized l → length l * cell_size ≤ length store
    → slots_of (cells_of l) (store_of store l)
    ≡ l
unfolding slots_of cells_of store_of
store-slots [] store z le = refl
store-slots (s ∷ l) store z le =
    let r = room-one (length l) cell_size store le in
    let p = laid-length s (take cell_size store) (z s (Memᴰ.head refl)) (first-length store r.0) in
    rw (
      laid-body s (take cell_size store) (store_of (drop cell_size store) l) (z s (Memᴰ.head refl)),
      drop_at (laid s (take cell_size store)) (store_of (drop cell_size store) l) cell_size p,
    )
    (ap {B = List Slot} (λ r. s ∷ r) (store-slots l (drop cell_size store) (λ x m. z x (Memᴰ.tail m)) r.1))

-- Every call keeps the number of slots, and each body's length.
pub record Shaped (n : ℕ) (l : List Slot) : Type 0 where
  pub sized : AllSized l
  pub many : length l ≡ n

pub empty-sized : Sized empty_slot
unfolding empty_slot empty_cell is_free
empty-sized = record { none = λ e. refl; exact = λ e. absurd (true≢false e); fits = λ e. absurd (true≢false e) }

mark-sized : (u t : ℕ) (s : Slot) → (u ≡ 0 → ⊥) → is_free s ≡ false → Sized s → Sized (mark u t s)
unfolding mark mark_cell is_free
mark-sized u t s ne e z = record { none = λ f. absurd (ne (eqb-true u 0 f)); exact = λ f. z.exact e; fits = λ f. z.fits e }

aged-sized : (n : ℕ) (s : Slot) → Sized s → Sized (aged n s)
unfolding aged with_age is_free
aged-sized n s z = record { none = z.none; exact = z.exact; fits = z.fits }

slot-sized : (f : Frame) (u t : ℕ) → Readable f → (u ≡ 0 → ⊥) → Sized (slot_of f u t)
unfolding slot_of is_free cell_size
slot-sized f u t ok ne = record { none = λ e. absurd (ne (eqb-true u 0 e)); exact = λ e. refl; fits = λ e. ok.body }

put-shaped : (n : ℕ) (x : Slot) (l : List Slot) → Sized x → Shaped n l → Shaped n (put_slot x l)
put-shaped n x l z v = record { sized = λ s m. go s (mem-put x l s m); many = put-length x l ∙ v.many }
  where
    go : (s : Slot) → (s ≡ x) ⊎ Memᴰ s l → Sized s
    go s (inl q) = subst Sized (sym q) z
    go s (inr i) = v.sized s i

change-shaped : (n : ℕ) (q : Slot → Bool) (g : Slot → Slot) (l : List Slot) → ((s : Slot) → q s ≡ true → Sized s → Sized (g s)) → Shaped n l
    → Shaped n (map_if q g l)
unfolding map_if change
change-shaped n q g l e v = record {
  sized = λ s m. let a = Memᴰ.of_map (change q g) l m in subst Sized a.2
      (by_bool Sized (q a.0) (λ y. e a.0 y (v.sized a.0 a.1)) (λ y. v.sized a.0 a.1));
  many = length-map l (change q g) ∙ v.many;
}

turn-shaped : (n : ℕ) (k : Key) (u t : ℕ) (l : List Slot) → (u ≡ 0 → ⊥) → Shaped n l → Shaped n (turn_to k u t l)
unfolding turn_to
turn-shaped n k u t l ne v = change-shaped n (of k) (mark u t) l (λ s y z. mark-sized u t s ne (key-used k s y) z) v

ready-not-free : (s : Slot) → is_ready s ≡ true → is_free s ≡ false
unfolding is_ready is_free
ready-not-free s e = let p = eqb-true s.cell.used 3 e in ne_eqb s.cell.used 0 (λ q. omega arith)

module _ (n : ℕ) where
  cascade-shaped : (i c : ℕ) (w : Work) → Shaped n w.state.slots → Shaped n (cascade i c w).state.slots
  unfolding cascade go_on rise made
  cascade-shaped zero c w v = v
  cascade-shaped (suc i) c w v = by_bool (λ (x : Work). Shaped n x.state.slots) (is_held c (w.state.next c) w.state.slots)
      (λ y. cascade-shaped i c (go_on c w) (turn-shaped n (held_as c (w.state.next c)) 3 w.turn w.state.slots (λ q. omega arith) v))
      (λ y. v)

  follows-shaped : (c : ℕ) (w : Work) → Shaped n w.state.slots → Shaped n (follows c w).state.slots
  unfolding follows rise
  follows-shaped c w v = cascade-shaped (length w.state.slots) c (rise c w) v

  roomy-shaped : (w r : Work) → Shaped n w.state.slots → Shaped n r.state.slots → Shaped n (roomy w r).state.slots
  unfolding roomy fill_up
  roomy-shaped w r v k = by_bool (λ (x : Work). Shaped n x.state.slots) (any is_free w.state.slots) (λ y. k) (λ y. v)

  whole-shaped : (x : Fate) (f : Frame) (w : Work) → Readable f → Shaped n w.state.slots → Shaped n (whole x f w).state.slots
  unfolding whole readied remember_in drop_one place made
  whole-shaped late f w ok v = v
  whole-shaped early f w ok v = roomy-shaped w _ v (put-shaped n (slot_of f 2 0) w.state.slots (slot-sized f 2 0 ok (λ q. omega arith))
      v)
  whole-shaped newer f w ok v = roomy-shaped (remember_in f w) _ v (put-shaped n (slot_of f 3 w.turn) w.state.slots
      (slot-sized f 3 w.turn ok (λ q. omega arith)) v)
  whole-shaped free f w ok v = roomy-shaped w _ v (put-shaped n (slot_of f 3 w.turn) w.state.slots
      (slot-sized f 3 w.turn ok (λ q. omega arith)) v)
  whole-shaped due f w ok v = roomy-shaped w _ v (follows-shaped f.channel (made (put_slot (slot_of f 3 w.turn) w.state.slots) w)
      (put-shaped n (slot_of f 3 w.turn) w.state.slots (slot-sized f 3 w.turn ok (λ q. omega arith)) v))

  joins-shaped : (x : Fate) (f : Frame) (w : Work) → Shaped n w.state.slots → Shaped n (joins x f w).state.slots
  unfolding joins remember_in drop_one place made
  joins-shaped late f w v = turn-shaped n (open_as f.id) 4 0 w.state.slots (λ q. omega arith) v
  joins-shaped early f w v = turn-shaped n (open_as f.id) 2 0 w.state.slots (λ q. omega arith) v
  joins-shaped newer f w v = turn-shaped n (open_as f.id) 3 w.turn w.state.slots (λ q. omega arith) v
  joins-shaped free f w v = turn-shaped n (open_as f.id) 3 w.turn w.state.slots (λ q. omega arith) v
  joins-shaped due f w v = follows-shaped f.channel (made (turn_to (open_as f.id) 3 w.turn w.state.slots) w)
      (turn-shaped n (open_as f.id) 3 w.turn w.state.slots (λ q. omega arith) v)

  kept-shaped : (f : Frame) (w : Work) → Shaped n w.state.slots → Shaped n (kept f w).state.slots
  unfolding kept
  kept-shaped f w v = by_bool (λ (x : Work). Shaped n x.state.slots) (all_there (open_as f.id) w.state.slots f.count)
      (λ y. joins-shaped (fate_of f w) f w v) (λ y. v)

  put_piece-shaped : (f : Frame) (w : Work) → Readable f → Shaped n w.state.slots → Shaped n (put_piece f w).state.slots
  unfolding put_piece place
  put_piece-shaped f w ok v = roomy-shaped w _ v (kept-shaped f (place (put_slot (slot_of f 1 0) w.state.slots) w)
      (put-shaped n (slot_of f 1 0) w.state.slots (slot-sized f 1 0 ok (λ q. omega arith)) v))

  piece-shaped : (f : Frame) (w : Work) → Readable f → Shaped n w.state.slots → Shaped n (piece f w).state.slots
  unfolding piece drop_one renew place renewed
  piece-shaped f w ok v = by_bool (λ (x : Work). Shaped n x.state.slots) (any (clash f) w.state.slots) (λ y. v)
      (λ y. put_piece-shaped f (renew f w) ok
      (change-shaped n (of (open_as f.id)) (aged 0) w.state.slots (λ s y z. aged-sized 0 s z) v))

  frame-shaped : (f : Frame) (w : Work) → Readable f → Shaped n w.state.slots → Shaped n (frame w f).state.slots
  unfolding frame keep_in drop_one accept_in
  frame-shaped f w ok v = by_bool (λ (x : Work). Shaped n x.state.slots) (seen_before f w.state.accepted) (λ y. v)
      (λ y. by_bool (λ (x : Work). Shaped n x.state.slots) (in_limits f)
      (λ z. by_bool (λ (x : Work). Shaped n x.state.slots) f.piece (λ p. piece-shaped f (accept_in f w) ok v)
      (λ p. whole-shaped (fate_of f (accept_in f w)) f (accept_in f w) ok v))
      (λ z. v))

  frames-shaped : (fs : List Frame) (w : Work) → ((f : Frame) → Memᴰ f fs → Readable f) → Shaped n w.state.slots
      → Shaped n (frames w fs).state.slots
  unfolding frames
  frames-shaped [] w ok v = v
  frames-shaped (f ∷ fs) w ok v = frames-shaped fs (frame w f) (λ g m. ok g (Memᴰ.tail m))
      (frame-shaped f w (ok f (Memᴰ.head refl)) v)

  begun-shaped : (s : State) → Shaped n s.slots → Shaped n (grow (begin s)).state.slots
  unfolding begin renumber grow place grown
  begun-shaped s v = change-shaped n is_open _ _ (λ x y z. aged-sized _ x z) (change-shaped n is_ready _ s.slots
      (λ x y z. mark-sized 3 _ x (λ q. omega arith) (ready-not-free x y) z) v)

  pub datagram-worked : (s : State) (fs : List Frame) → ((f : Frame) → Memᴰ f fs → Readable f) → Shaped n s.slots
      → Shaped n (datagram s fs).state.slots
  unfolding datagram
  datagram-worked s fs ok v = frames-shaped fs (grow (begin s)) ok (begun-shaped s v)

  pub datagram-shaped : (s : State) (fs : List Frame) → ((f : Frame) → Memᴰ f fs → Readable f) → Shaped n s.slots
      → Shaped n (end (datagram s fs)).slots
  unfolding end sweep
  datagram-shaped s fs ok v = change-shaped n _ _ _ (λ x y z. empty-sized) (datagram-worked s fs ok v)

  pub take-shaped : (l : List Slot) (t : Taken) → Shaped n l → taking l ≡ some t → Shaped n t.slots
  unfolding freed
  take-shaped l t v e = let f = taken-freed l t e in subst (Shaped n) (sym f.1) (change-shaped n (of (ready_as f.0)) (λ s. empty_slot) l
      (λ x y z. empty-sized) v)

  pub drop-shaped : (m : ℕ) (l : List Slot) → Shaped n l → Shaped n (dropped m l)
  unfolding dropped
  drop-shaped m l v = change-shaped n (λ s. is_stale m s.cell) (λ s. empty_slot) l (λ x y z. empty-sized) v

read-sized : (c : Cell) (store : List ℕ) → (eqb c.used 0 ≡ false → c.length ≤ cell_size) → cell_size ≤ length store
    → Sized (record { cell = c; body = cell_body c store })
unfolding cell_body is_free
read-sized c store h a = record {
  none = λ e. rw e;
  exact = λ e. rw e (let p = h e in simp length-take (omega arith));
  fits = λ e. rw e (let p = h e in simp length-take (omega arith));
}

-- The slots read from records and store.
pub slots-shaped : (cs : List Cell) (store : List ℕ) → ((c : Cell) → Memᴰ c cs → eqb c.used 0 ≡ false → c.length ≤ cell_size)
    → length cs * cell_size ≤ length store → Shaped (length cs) (slots_of cs store)
unfolding slots_of cell_body
slots-shaped [] store h le = record { sized = λ s m. absurd (Memᴰ.not-nil m); many = refl }
slots-shaped (c ∷ cs) store h le =
    let r = room-one (length cs) cell_size store le in
    let k = slots-shaped cs (drop cell_size store) (λ d m. h d (Memᴰ.tail m)) r.1 in
    record { sized = λ s m. go s r.0 k.sized (Memᴰ.cases_cons m); many = ap suc k.many }
  where
    go : (s : Slot) → cell_size ≤ length store → AllSized (slots_of cs (drop cell_size store))
        → (s ≡ record { cell = c; body = cell_body c store }) ⊎ Memᴰ s (slots_of cs (drop cell_size store)) → Sized s
    go s a k (inl q) = subst Sized (sym q) (read-sized c store (h c (Memᴰ.head refl)) a)
    go s a k (inr i) = k s i

pub cells-slots : (cs : List Cell) (store : List ℕ) → cells_of (slots_of cs store) ≡ cs
unfolding cells_of slots_of
cells-slots [] store = refl
cells-slots (c ∷ cs) store = ap {B = List Cell} (λ r. c ∷ r) (cells-slots cs (drop cell_size store))

-- Bodies that are there already are laid over themselves.
laid-again : (c : Cell) (store : List ℕ) → (eqb c.used 0 ≡ false → c.length ≤ cell_size) → cell_size ≤ length store
    → laid (record { cell = c; body = cell_body c store }) (take cell_size store) ≡ take cell_size store
unfolding laid is_free cell_body
laid-again c store h a = cases (eqb c.used 0)
    (λ y. rw y)
    (λ y. rw y (again c.length (h y)))
  where
    again : (n : ℕ) → n ≤ cell_size → take n store ++ drop (length (take n store)) (take cell_size store) ≡ take cell_size store
    again n le =
        let p : length (take n store) ≡ n = simp length-take (omega arith) in
        rw p (ap (λ (x : List ℕ). x ++ drop n (take cell_size store)) (sym (take-take n cell_size store le))
        ∙ take-append-drop n (take cell_size store))

pub store_same : (cs : List Cell) (store : List ℕ) → ((c : Cell) → Memᴰ c cs → eqb c.used 0 ≡ false → c.length ≤ cell_size)
    → length cs * cell_size ≤ length store → store_of store (slots_of cs store) ≡ store
unfolding store_of slots_of
store_same [] store h le = refl
store_same (c ∷ cs) store h le =
    let r = room-one (length cs) cell_size store le in
    rw (laid-again c store (h c (Memᴰ.head refl)) r.0, store_same cs (drop cell_size store) (λ d m. h d (Memᴰ.tail m)) r.1)
    (take-append-drop cell_size store)

-- Slots that become unused leave their bytes where they are.
empty-read : (x : List ℕ) → ◌≡◌ {A = Slot} (record { cell = empty_cell; body = cell_body (empty_cell) x }) empty_slot
unfolding cell_body empty_slot empty_cell
empty-read x = refl

read_one : (q : Slot → Bool) (s : Slot) (store rest : List ℕ) → Sized s
    → ◌≡◌ {A = Slot} (record {
      cell = (change q (λ s. empty_slot) s).cell;
      body = cell_body (change q (λ s. empty_slot) s).cell
          (laid s store ++ rest);
    }) (change q (λ s. empty_slot) s)
unfolding change empty_slot
read_one q s store rest z = cases (q s)
    (λ y. rw y (empty-read (laid s store ++ rest)))
    (λ y. rw y (ap {B = Slot} (λ b. record { cell = s.cell; body = b }) (laid-body s store rest z)))

read-emptied : (q : Slot → Bool) (l : List Slot) (store : List ℕ) → AllSized l → length l * cell_size ≤ length store
    → slots_of (cells_of (map_if q (λ s. empty_slot) l)) (store_of store l) ≡ map_if q (λ s. empty_slot) l
unfolding slots_of cells_of store_of map_if
read-emptied q [] store z le = refl
read-emptied q (s ∷ l) store z le =
    let r = room-one (length l) cell_size store le in
    let p = laid-length s (take cell_size store) (z s (Memᴰ.head refl)) (first-length store r.0) in
    let a = read_one q s (take cell_size store) (store_of (drop cell_size store) l) (z s (Memᴰ.head refl)) in
    let b = read-emptied q l (drop cell_size store) (λ x m. z x (Memᴰ.tail m)) r.1 in
    let d = drop_at (laid s (take cell_size store)) (store_of (drop cell_size store) l) cell_size p in
    cc (a, b, d)

-- What a datagram's call leaves, read again, is what its definition says. Bodies of slots that are to be freed were written too.
pub datagram-read : (s : State) (store : List ℕ) (fs : List Frame) → ((f : Frame) → Memᴰ f fs → Readable f) → AllSized s.slots
    → length s.slots * cell_size ≡ length store
    → slots_of (cells_of (end (datagram s fs)).slots) (store_of store (datagram s fs).state.slots) ≡ (end (datagram s fs)).slots
unfolding end sweep
datagram-read s store fs ok z e = let v = datagram-worked (length s.slots) s fs ok (record { sized = z; many = refl }) in
    read-emptied (λ s. eqb s.cell.used 4) (datagram s fs).state.slots store v.sized (rw v.many (omega arith))

-- A take writes no byte of the store.
pub take-read : (k : Key) (cs : List Cell) (store : List ℕ) → ((c : Cell) → Memᴰ c cs → eqb c.used 0 ≡ false → c.length ≤ cell_size)
    → length cs * cell_size ≤ length store → slots_of (cells_of (freed k (slots_of cs store))) store ≡ freed k (slots_of cs store)
unfolding freed
take-read k cs store h le =
    let v = slots-shaped cs store h le in
    rw (store_same cs store h le) at (read-emptied (of k) (slots_of cs store) store v.sized (rw v.many le))

-- Records that become unused, read from the store as it is: neither does a call of request 4 write a byte of it.
emptied-read : (p : Cell → Bool) (cs : List Cell) (store : List ℕ) → slots_of (change_cells p (λ c. empty_cell) cs) store
    ≡ map_if (λ s. p s.cell) (λ s. empty_slot) (slots_of cs store)
unfolding slots_of change_cells map_if change
emptied-read p [] store = refl
emptied-read p (c ∷ cs) store = cases (p c)
    (λ y. rw (y, emptied-read p cs (drop cell_size store), empty-read store))
    (λ y. rw (y, emptied-read p cs (drop cell_size store)))

pub drop-read : (n : ℕ) (cs : List Cell) (store : List ℕ) → slots_of (change_cells (is_stale n) (λ c. empty_cell) cs) store
    ≡ dropped n (slots_of cs store)
unfolding dropped
drop-read n cs store = emptied-read (is_stale n) cs store
