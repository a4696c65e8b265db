-- Sound cells that hold the same are listed the same in an image, and cells that are listed the same hold the same.
-- Assumes nothing.
use Prim.Native.Nat.{ℕ}
use mathlib.Core.Path.{◌≡◌, refl, sym, ◌∙◌, ap, subst}
use mathlib.Core.Bool.{Bool, true, false, ◌&&◌}
use mathlib.Core.Option.{Option, none, some}
use mathlib.Core.List.{List, Memᴰ}
use native.Mathlib.Omega.{arith}
use lib.Dec.{eqb}
use borrow.Author.Tests.{eqb-true, eq-eqb}
use Rattle.base.specs.Lists.{find}
use Rattle.base.proofs.Choices.{cases, case_option, and_left, and_right, and_both, neither}
use Rattle.base.proofs.Lists.{find-some, find_none, find-no, any-all}
use Rattle.base.proofs.Sorts.{find-only, find-unique, rising-same, rising-unique}
use Rattle.cells.specs.Cell.{Slot, open_as, held_as, sits, is_open}
use Rattle.cells.specs.Room.{is_held_first}
use Rattle.cells.proofs.Keys.{of-used, sits-is}
use Rattle.cells.proofs.Pieces.{open_of}
use Rattle.cells.proofs.Moves.{of-held}
use Rattle.cells.proofs.SoundRest.{Rest}
use Rattle.image.specs.Image.{PieceEntry, MessageEntry}
use Rattle.image.specs.Entries.{piece_entry, message_entry, piece_rank, held_rank, pieces_in, held_in, ready_in}
use Rattle.image.specs.Holds.{open_at, held_at, SameSlots}
use Rattle.image.proofs.Sections.{first-held, open-key, pieces-from, in-pieces, held-from, in-held, pieces-rise, held-rise, message-fields}

-- ---- lookups in the image's lists
is_entry : ℕ → ℕ → PieceEntry → Bool
is_entry id i e = eqb e.id id && eqb e.index i

is_message : ℕ → ℕ → MessageEntry → Bool
is_message c o e = eqb e.channel c && eqb e.order o

entry-fields : (s : Slot) → ((piece_entry s).id ≡ s.cell.id) × ((piece_entry s).index ≡ s.cell.index)
unfolding piece_entry
entry-fields s = (refl, refl)

sits-open : (id i : ℕ) (s : Slot) → sits (open_as id) i s ≡ true → (is_open s ≡ true) × (s.cell.id ≡ id) × (s.cell.index ≡ i)
sits-open id i s e = let a = sits-is (open_as id) i s e in let b = open_of id s a.0 in (b.0, b.1, a.1)

pub sits-held : (c o : ℕ) (s : Slot) → sits (held_as c o) 0 s ≡ true
    → (is_held_first s ≡ true) × (s.cell.channel ≡ c) × (s.cell.order ≡ o)
unfolding is_held_first
sits-held c o s e =
    let a = sits-is (held_as c o) 0 s e in
    let b = of-held c o s a.0 in
    (and_both _ _ (eq-eqb _ _ (of-used (held_as c o) s a.0)) (eq-eqb _ _ a.1), b.0, b.1)

-- ---- what a lookup gives is listed
some-open : (l : List Slot) (id i : ℕ) (p : PieceEntry) → open_at id i l ≡ some p
    → (s : Slot) × Memᴰ s l × (is_open s ≡ true) × (piece_entry s ≡ p)
unfolding open_at
some-open l id i p e = case_option (find (sits (open_as id) i) l)
    (λ n. absurd (let q : ◌≡◌ {A = Option PieceEntry} none (some p) = rw n at e in let z : ◌≡◌ {A = ℕ} 0 1 = cc in omega arith))
    (λ s n. let a = find-some (sits (open_as id) i) l n in
    let q : ◌≡◌ {A = Option PieceEntry} (some (piece_entry s)) (some p) = rw n at e in (s, a.0, (sits-open id i s a.1).0, cc))

some-held : (l : List Slot) (c o : ℕ) (p : MessageEntry) → held_at c o l ≡ some p
    → (s : Slot) × Memᴰ s l × (is_held_first s ≡ true) × (message_entry l s ≡ p)
unfolding held_at
some-held l c o p e = case_option (find (sits (held_as c o) 0) l)
    (λ n. absurd (let q : ◌≡◌ {A = Option MessageEntry} none (some p) = rw n at e in let z : ◌≡◌ {A = ℕ} 0 1 = cc in omega arith))
    (λ s n. let a = find-some (sits (held_as c o) 0) l n in
    let q : ◌≡◌ {A = Option MessageEntry} (some (message_entry l s)) (some p) = rw n at e in (s, a.0, (sits-held c o s a.1).0, cc))

module _ (next : ℕ → ℕ) (l : List Slot) (v : Rest next l) where
  -- the open piece under an id and index is the list's
  open-listed : (id i : ℕ) → open_at id i l ≡ find (is_entry id i) (pieces_in l)
  unfolding open_at
  open-listed id i = case_option (find (sits (open_as id) i) l)
      (λ e. rw (e, find-no (is_entry id i) (pieces_in l) (any-all (is_entry id i) (pieces_in l) (λ f m. nobody e f (pieces-from l f m)))))
      (λ s e. let a = find-some (sits (open_as id) i) l e in rw (e, found s a.0 a.1))
    where
      nobody : find (sits (open_as id) i) l ≡ none → (f : PieceEntry)
          → (s : Slot) × Memᴰ s l × (is_open s ≡ true) × (f ≡ piece_entry s) → is_entry id i f ≡ false
      nobody e f a = cases (is_entry id i f)
          (λ y. neither (sits (open_as id) i a.0) (here f a.0 a.2 a.3 y) (find_none (sits (open_as id) i) l e a.0 a.1)) (λ y. y)
        where
          here : (f : PieceEntry) (s : Slot) → is_open s ≡ true → f ≡ piece_entry s → is_entry id i f ≡ true → sits (open_as id) i s ≡ true
          here f s o q y = unfold is_entry in
              (let p : s.cell.id ≡ id = sym (entry-fields s).0
              ∙ (sym (ap (λ (x : PieceEntry). x.id) q) ∙ eqb-true _ _ (and_left (eqb f.id id) _ y)) in
              let r : s.cell.index ≡ i = sym (entry-fields s).1
              ∙ (sym (ap (λ (x : PieceEntry). x.index) q) ∙ eqb-true _ _ (and_right (eqb f.id id) _ y)) in
              subst (λ (d : ℕ). sits (open_as id) d s ≡ true) r
              (subst (λ (d : ℕ). sits (open_as d) s.cell.index s ≡ true) p (open-key s o)))

      found : (s : Slot) → Memᴰ s l → sits (open_as id) i s ≡ true → find (is_entry id i) (pieces_in l) ≡ some (piece_entry s)
      found s m e =
          let a = sits-open id i s e in
          find-only (is_entry id i) (pieces_in l) (piece_entry s) (in-pieces l s m a.0)
          (unfold is_entry piece_entry in and_both _ _ (eq-eqb _ _ a.1) (eq-eqb _ _ a.2))
          (λ f mf y. rising-same piece_rank (pieces_in l) (pieces-rise next l v) f (piece_entry s) mf (in-pieces l s m a.0)
          (rank s f a.1 a.2 y))
        where
          rank : (s : Slot) (f : PieceEntry) → s.cell.id ≡ id → s.cell.index ≡ i → is_entry id i f ≡ true
              → piece_rank f ≡ piece_rank (piece_entry s)
          rank s f p q y = unfold is_entry piece_entry in
              (let a : f.id ≡ id = eqb-true _ _ (and_left (eqb f.id id) _ y) in
              let b : f.index ≡ i = eqb-true _ _ (and_right (eqb f.id id) _ y) in
              omega arith)

  -- and the held message under a channel and order number
  held-listed : (c o : ℕ) → held_at c o l ≡ find (is_message c o) (held_in l)
  unfolding held_at
  held-listed c o = case_option (find (sits (held_as c o) 0) l)
      (λ e. rw (e, find-no (is_message c o) (held_in l) (any-all (is_message c o) (held_in l) (λ f m. nobody e f (held-from l f m)))))
      (λ s e. let a = find-some (sits (held_as c o) 0) l e in rw (e, found s a.0 a.1))
    where
      nobody : find (sits (held_as c o) 0) l ≡ none → (f : MessageEntry)
          → (s : Slot) × Memᴰ s l × (is_held_first s ≡ true) × (f ≡ message_entry l s) → is_message c o f ≡ false
      nobody e f a = cases (is_message c o f)
          (λ y. neither (sits (held_as c o) 0 a.0) (here f a.0 a.2 a.3 y) (find_none (sits (held_as c o) 0) l e a.0 a.1)) (λ y. y)
        where
          here : (f : MessageEntry) (s : Slot) → is_held_first s ≡ true → f ≡ message_entry l s → is_message c o f ≡ true
              → sits (held_as c o) 0 s ≡ true
          here f s h q y = unfold is_message in
              (let p : s.cell.channel ≡ c = sym (message-fields l s).0
              ∙ (sym (ap (λ (x : MessageEntry). x.channel) q) ∙ eqb-true _ _ (and_left (eqb f.channel c) _ y)) in
              let r : s.cell.order ≡ o = sym (message-fields l s).1
              ∙ (sym (ap (λ (x : MessageEntry). x.order) q) ∙ eqb-true _ _ (and_right (eqb f.channel c) _ y)) in
              subst (λ (d : ℕ). sits (held_as c d) 0 s ≡ true) r
              (subst (λ (d : ℕ). sits (held_as d s.cell.order) 0 s ≡ true) p (first-held s h).0))

      found : (s : Slot) → Memᴰ s l → sits (held_as c o) 0 s ≡ true → find (is_message c o) (held_in l) ≡ some (message_entry l s)
      found s m e =
          let a = sits-held c o s e in
          find-only (is_message c o) (held_in l) (message_entry l s) (in-held l s m a.0)
          (unfold is_message message_entry in and_both _ _ (eq-eqb _ _ a.1) (eq-eqb _ _ a.2))
          (λ f mf y. rising-same held_rank (held_in l) (held-rise next l v) f (message_entry l s) mf (in-held l s m a.0)
          (rank s f a.1 a.2 y))
        where
          rank : (s : Slot) (f : MessageEntry) → s.cell.channel ≡ c → s.cell.order ≡ o → is_message c o f ≡ true
              → held_rank f ≡ held_rank (message_entry l s)
          rank s f p q y = unfold is_message message_entry in
              (let a : f.channel ≡ c = eqb-true _ _ (and_left (eqb f.channel c) _ y) in
              let b : f.order ≡ o = eqb-true _ _ (and_right (eqb f.channel c) _ y) in
              omega arith)

  -- ---- every open piece and held message of these cells stands in others that hold the same
  open-there : (s : Slot) → Memᴰ s l → is_open s ≡ true → open_at s.cell.id s.cell.index l ≡ some (piece_entry s)
  unfolding open_at
  open-there s m o = rw (find-unique _ l s m (open-key s o) (v.core.unique (open_as s.cell.id) s.cell.index))

  held-there : (s : Slot) → Memᴰ s l → is_held_first s ≡ true → held_at s.cell.channel s.cell.order l ≡ some (message_entry l s)
  unfolding held_at
  held-there s m o = rw (find-unique _ l s m (first-held s o).0 (v.core.unique (held_as s.cell.channel s.cell.order) 0))

  module _ (m : List Slot) (e : SameSlots l m) where
    pub pieces-over : (f : PieceEntry) → Memᴰ f (pieces_in l) → Memᴰ f (pieces_in m)
    pieces-over f i =
        let a = pieces-from l f i in
        let b = some-open m a.0.cell.id a.0.cell.index (piece_entry a.0)
        (sym (e.pieces a.0.cell.id a.0.cell.index) ∙ open-there a.0 a.1 a.2) in
        subst (λ (g : PieceEntry). Memᴰ g (pieces_in m)) (b.3 ∙ sym a.3) (in-pieces m b.0 b.1 b.2)

    held-over : (f : MessageEntry) → Memᴰ f (held_in l) → Memᴰ f (held_in m)
    held-over f i =
        let a = held-from l f i in
        let b = some-held m a.0.cell.channel a.0.cell.order (message_entry l a.0)
        (sym (e.held a.0.cell.channel a.0.cell.order) ∙ held-there a.0 a.1 a.2) in
        subst (λ (g : MessageEntry). Memᴰ g (held_in m)) (b.3 ∙ sym a.3) (in-held m b.0 b.1 b.2)

pub turned : (l m : List Slot) → SameSlots l m → SameSlots m l
turned l m e = record { pieces = λ id i. sym (e.pieces id i); held = λ c o. sym (e.held c o); ready = sym e.ready }

module _ (next next' : ℕ → ℕ) (l m : List Slot) (v : Rest next l) (v' : Rest next' m) where
  -- Sound cells with the same lists hold the same,
  pub lists-same : pieces_in l ≡ pieces_in m → held_in l ≡ held_in m → ready_in l ≡ ready_in m → SameSlots l m
  lists-same p h r = record {
    pieces = λ id i. open-listed next l v id i ∙ (ap (find (is_entry id i)) p ∙ sym (open-listed next' m v' id i));
    held = λ c o. held-listed next l v c o ∙ (ap (find (is_message c o)) h ∙ sym (held-listed next' m v' c o));
    ready = r;
  }

  -- and those that hold the same have the same lists.
  module _ (e : SameSlots l m) where
    pub same-pieces : pieces_in l ≡ pieces_in m
    same-pieces = rising-unique piece_rank (pieces_in l) (pieces_in m) (pieces-rise next l v) (pieces-rise next' m v')
        (pieces-over next l v m e) (pieces-over next' m v' l (turned l m e))

    pub same-held : held_in l ≡ held_in m
    same-held = rising-unique held_rank (held_in l) (held_in m) (held-rise next l v) (held-rise next' m v')
        (held-over next l v m e) (held-over next' m v' l (turned l m e))
