-- The bytes of an image's last three sections are those of the used cells in the order of their ranks.
-- Assumes nothing.
use Prim.Native.Nat.{ℕ, zero, suc, ◌+◌, ◌*◌, ◌≤◌, ◌<◌}
use mathlib.Core.Path.{◌≡◌, refl, sym, ◌∙◌, ap, subst}
use mathlib.Core.Bool.{Bool, true, false, cond, ◌&&◌}
use mathlib.Core.Option.{Option, none, some}
use mathlib.Core.List.{List, [], ◌∷◌, ◌++◌, map, append_assoc, Memᴰ}
use native.Mathlib.Omega.{arith}
use lib.Dec.{eqb}
use lib.ListN.{length, length-append, length-map}
use borrow.Author.Tests.{eqb-true, eqb-false, eq-eqb}
use Rattle.base.specs.Bytes.{be32_bytes}
use Rattle.base.specs.If.{if_eq}
use Rattle.base.specs.Limits.{numbers24, max_frags}
use Rattle.base.specs.Lists.{option, find, only, count_of}
use Rattle.base.specs.Put.{and_then}
use Rattle.base.specs.Sort.{sort_by}
use Rattle.base.proofs.Choices.{cases, and_left, and_right, and_both}
use Rattle.base.proofs.Counts.{count-ext}
use Rattle.base.proofs.Ifs.{eq_yes, eq_no}
use Rattle.base.proofs.Sorts.{Rising, Apart, only-many, sort-map, rising-unique, sort-rising, sort-length, only-in, in-only, in-sort}
use Rattle.base.proofs.Sorts.{sort-in}
use Rattle.cells.specs.Cell.{Slot, Key, sits, is_open, is_ready, empty_slot}
use Rattle.cells.specs.Datagram.{is_first}
use Rattle.cells.specs.Room.{is_held_first}
use Rattle.cells.specs.Sound.{key_of}
use Rattle.cells.specs.Store.{cells_of}
use Rattle.cells.proofs.Keys.{used-free}
use Rattle.cells.proofs.Records.{count-cells}
use Rattle.cells.proofs.SoundCore.{Bounds, Core}
use Rattle.image.specs.Image.{piece_format, message_format, four_numbers}
use Rattle.image.specs.Format.{Format, exactly, number32, number64, both, formed, many, write_all, counted, section, body}
use Rattle.image.specs.Entries.{piece_entry, bodies_of, message_entry, piece_rank, held_rank, turn_of, pieces_in, held_in, ready_in}
use Rattle.recv_save.specs.Each.{each_bytes}
use Rattle.recv_save.specs.Slots.{key_rank, body_bytes, four_bytes, piece_bytes, part_bytes, slot_bytes, begins}
use Rattle.recv_save.proofs.Orders.{only-only, apart-finer, apart-sub, rising-finer, rising-sub}
use Rattle.recv_save.proofs.Ranks.{is_used, rank_of, rank-is, number-open, number-held, number-ready, not-free-used, in_order, its-bounds}
use Rattle.recv_save.proofs.Ranks.{its-use}
use Rattle.recv_save.proofs.Ranks.{ranks-apart, order-rising, order-in, in-the-order, sits-key}
use Rattle.recv_save.proofs.Messages.{has_use, Firsts, found, pieces_to, message_by, piece-is, found-same, messages-are}

-- ---- bytes one after the other
module _ {A B : Type 0} where
  pub each-map : (f : B → List ℕ) (g : A → B) (l : List A) → each_bytes f (map g l) ≡ each_bytes (λ x. f (g x)) l
  unfolding each_bytes and_then
  each-map f g [] = refl
  each-map f g (x ∷ l) = ap (λ (r : List ℕ). f (g x) ++ r) (each-map f g l)

module _ {A : Type 0} where
  pub each-append : (f : A → List ℕ) (l r : List A) → each_bytes f (l ++ r) ≡ each_bytes f l ++ each_bytes f r
  unfolding each_bytes and_then
  each-append f [] r = refl
  each-append f (x ∷ l) r = ap (λ (z : List ℕ). f x ++ z) (each-append f l r) ∙ sym (append_assoc (f x) (each_bytes f l) (each_bytes f r))

  write-append : (f : Format A) (l r : List A) → write_all f (l ++ r) ≡ write_all f l ++ write_all f r
  unfolding write_all
  write-append f [] r = refl
  write-append f (x ∷ l) r = ap (λ (z : List ℕ). f.write x ++ z) (write-append f l r)
      ∙ sym (append_assoc (f.write x) (write_all f l) (write_all f r))

  pub section-bytes : (f : Format A) (l : List A) → (section f).write l ≡ be32_bytes (length l) ++ write_all f l
  unfolding section counted many number32
  section-bytes f l = refl

-- the cells of one use
abbrev own_bytes : ℕ → Slot → List ℕ
own_bytes u s = if_eq u 1 (piece_bytes s.cell s.body) (part_bytes s.cell s.body)

pub each-used : (u : ℕ) (l : List Slot) → each_bytes (λ (s : Slot). slot_bytes u s.cell s.body) l
    ≡ each_bytes (own_bytes u) (only (has_use u) l)
unfolding each_bytes slot_bytes only and_then
each-used u [] = refl
each-used u (s ∷ l) = go (each-used u l)
  where
    go : each_bytes (λ (s : Slot). slot_bytes u s.cell s.body) l ≡ each_bytes (own_bytes u) (only (has_use u) l)
        → if_eq s.cell.used u (own_bytes u s) [] ++ each_bytes (λ (s : Slot). slot_bytes u s.cell s.body) l
        ≡ each_bytes (own_bytes u) (cond (eqb s.cell.used u) (s ∷ only (has_use u) l) (only (has_use u) l))
    go e = cases (eqb s.cell.used u)
        (λ y. rw (y, ← eq_yes s.cell.used u (own_bytes u s) (own_bytes u s) [] (eqb-true s.cell.used u y) refl)
        (ap (λ (r : List ℕ). own_bytes u s ++ r) e))
        (λ y. rw (y, ← eq_no s.cell.used u [] (own_bytes u s) [] (eqb-false s.cell.used u y) refl) e)

pub each-same : (f g : Slot → List ℕ) (l : List Slot) → ((s : Slot) → f s ≡ g s) → each_bytes f l ≡ each_bytes g l
unfolding each_bytes and_then
each-same f g [] h = refl
each-same f g (s ∷ l) h = rw (h s) (ap (λ (r : List ℕ). g s ++ r) (each-same f g l h))

own-piece : (s : Slot) → own_bytes 1 s ≡ piece_bytes s.cell s.body
own-piece s = sym (eq_yes 1 1 (piece_bytes s.cell s.body) (piece_bytes s.cell s.body) (part_bytes s.cell s.body) refl refl)

own-part : (u : ℕ) → (u ≡ 1 → ⊥) → (s : Slot) → own_bytes u s ≡ part_bytes s.cell s.body
own-part u n s = sym (eq_no u 1 (part_bytes s.cell s.body) (piece_bytes s.cell s.body) (part_bytes s.cell s.body) n refl)

-- ---- one piece
pub piece-written : (s : Slot) → piece_bytes s.cell s.body ≡ piece_format.write (piece_entry s)
unfolding piece_bytes four_bytes body_bytes and_then piece_format formed both four_numbers number64 body counted exactly piece_entry
piece-written s = simp append_assoc

pub pieces-written : (l : List Slot) → each_bytes (λ (s : Slot). piece_bytes s.cell s.body) l ≡ write_all piece_format (map piece_entry l)
unfolding each_bytes and_then write_all
pieces-written [] = refl
pieces-written (s ∷ l) = rw (piece-written s) (ap (λ (r : List ℕ). piece_format.write (piece_entry s) ++ r) (pieces-written l))

-- ---- a part of the used cells, sorted by a number that goes as their ranks
module _ (l : List Slot) (v : Core l) (few : (s : Slot) → Memᴰ s l → s.cell.used ≤ 3) where
  module _ (p : Slot → Bool) (n : Slot → ℕ) (used : (s : Slot) → p s ≡ true → is_used s ≡ true)
      (same : (x y : Slot) → Memᴰ x l → Memᴰ y l → p x ≡ true → p y ≡ true → n x ≡ n y → rank_of x ≡ rank_of y)
      (less : (x y : Slot) → Memᴰ x l → Memᴰ y l → p x ≡ true → p y ≡ true → rank_of x < rank_of y → n x < n y) where
    pub sorted-part : sort_by n (only p l) ≡ only p (in_order l)
    sorted-part =
        rising-unique n (sort_by n (only p l)) (only p (in_order l)) (sort-rising n (only p l) apart) rises
        (λ x m. let a = only-in p l x (sort-in n (only p l) x m) in in-only p (in_order l) x (in-the-order l v few x a.0 (used x a.1)) a.1)
        (λ x m. let a = only-in p (in_order l) x m in in-sort n (only p l) x (in-only p l x (order-in l v few x a.0).0 a.1))
      where
        apart : Apart n (only p l)
        apart = apart-finer rank_of n (only p l)
            (λ x y i j. let a = only-in p l x i in let b = only-in p l y j in same x y a.0 b.0 a.1 b.1)
            (rw (only-only p is_used l used) at (apart-sub rank_of p (only is_used l) (ranks-apart l v few)))

        rises : Rising n (only p (in_order l))
        rises = rising-finer rank_of n (only p (in_order l))
            (λ x y i j. let a = only-in p (in_order l) x i in let b = only-in p (in_order l) y j in
            less x y (order-in l v few x a.0).0 (order-in l v few y b.0).0 a.1 b.1)
            (rising-sub rank_of p (in_order l) (order-rising l v few))

  bounds : (s : Slot) (u : ℕ) → Memᴰ s l → (u ≡ 0 → ⊥) → s.cell.used ≡ u → Bounds s
  bounds s u m n q = its-bounds l v few s m (not-free-used s (used-free s u q n))

  -- ---- open pieces
  open-rank : (s : Slot) → Memᴰ s l → is_open s ≡ true → rank_of s ≡ s.cell.id * max_frags + s.cell.index
  unfolding is_open
  open-rank s m e =
      let u = eqb-true s.cell.used 1 e in
      let b = bounds s 1 m (λ q. omega arith) u in
      rank-is s b ∙ rw (number-open s u)

  open-used : (s : Slot) → is_open s ≡ true → is_used s ≡ true
  unfolding is_open
  open-used s e = not-free-used s (used-free s 1 (eqb-true s.cell.used 1 e) (λ q. omega arith))

  piece-number : (s : Slot) → piece_rank (piece_entry s) ≡ s.cell.id * max_frags + s.cell.index
  unfolding piece_entry
  piece-number s = refl

  pub pieces-are : pieces_in l ≡ map piece_entry (only is_open (in_order l))
  unfolding pieces_in
  pieces-are = sort-map piece_entry piece_rank (only is_open l)
      ∙ ap (map piece_entry) (sorted-part is_open (λ (s : Slot). piece_rank (piece_entry s)) open-used
      (λ x y i j e f q. let a = open-rank x i e in let b = open-rank y j f in let c = piece-number x in let d = piece-number y in
      omega arith)
      (λ x y i j e f q. let a = open-rank x i e in let b = open-rank y j f in let c = piece-number x in let d = piece-number y in
      omega arith))

  -- ---- first cells of held and of ready messages
  abbrev first : ℕ → Slot → Bool
  first u s = eqb s.cell.used u && eqb s.cell.index 0

  first-is : (u : ℕ) (s : Slot) → first u s ≡ true → (s.cell.used ≡ u) × (s.cell.index ≡ 0)
  first-is u s e = (eqb-true s.cell.used u (and_left (eqb s.cell.used u) _ e), eqb-true s.cell.index 0 (and_right (eqb s.cell.used u) _ e))

  first-rank : (u : ℕ) (s : Slot) → Memᴰ s l → (u ≡ 0 → ⊥) → first u s ≡ true → rank_of s ≡ key_rank s.cell * max_frags
  first-rank u s m n e =
      let p = first-is u s e in
      let r = rank-is s (bounds s u m n p.0) in
      let i = p.1 in
      omega arith

  pub firsts : (u : ℕ) → (u ≡ 0 → ⊥) → Firsts u l (only (first u) (in_order l))
  firsts u n = record {
    rises = rising-finer rank_of (λ (s : Slot). key_rank s.cell) (only (first u) (in_order l))
        (λ x y i j lt. let a = only-in (first u) (in_order l) x i in let b = only-in (first u) (in_order l) y j in
        let p = first-rank u x (order-in l v few x a.0).0 n a.1 in let q = first-rank u y (order-in l v few y b.0).0 n b.1 in omega arith)
        (rising-sub rank_of (first u) (in_order l) (order-rising l v few));
    within = λ s m. let a = only-in (first u) (in_order l) s m in let p = first-is u s a.1 in ((order-in l v few s a.0).0, p.0, p.1);
    all = λ s m q i. in-only (first u) (in_order l) s (in-the-order l v few s m (not-free-used s (used-free s u q n)))
        (and_both _ _ (eq-eqb s.cell.used u q) (eq-eqb s.cell.index 0 i));
  }

  held-number : (s : Slot) → Memᴰ s l → first 2 s ≡ true
      → rank_of s ≡ (4294967296 + (s.cell.channel * numbers24 + s.cell.order)) * max_frags
  held-number s m e =
      let p = first-is 2 s e in
      let r = first-rank 2 s m (λ q. omega arith) e in
      let h = number-held s (bounds s 2 m (λ q. omega arith) p.0) p.0 in
      r ∙ rw h

  ready-number : (s : Slot) → Memᴰ s l → first 3 s ≡ true → rank_of s ≡ (8589934592 + s.cell.turn) * max_frags
  ready-number s m e =
      let p = first-is 3 s e in
      let r = first-rank 3 s m (λ q. omega arith) e in
      r ∙ rw (number-ready s p.0)

  held-field : (s : Slot) → held_rank (message_entry l s) ≡ s.cell.channel * numbers24 + s.cell.order
  unfolding message_entry
  held-field s = refl

  first-used : (u : ℕ) → (u ≡ 0 → ⊥) → (s : Slot) → first u s ≡ true → is_used s ≡ true
  first-used u n s e = not-free-used s (used-free s u (first-is u s e).0 n)

  pub held-are : held_in l ≡ map (message_entry l) (only (first 2) (in_order l))
  unfolding held_in is_held_first
  held-are = sort-map (message_entry l) held_rank (only (first 2) l)
      ∙ ap (map (message_entry l)) (sorted-part (first 2) (λ (s : Slot). held_rank (message_entry l s))
      (first-used 2 (λ q. omega arith))
      (λ x y i j e f q. let a = held-number x i e in let b = held-number y j f in let c = held-field x in let d = held-field y in
      omega arith)
      (λ x y i j e f q. let a = held-number x i e in let b = held-number y j f in let c = held-field x in let d = held-field y in
      omega arith))

  pub ready-are : ready_in l ≡ map (message_entry l) (only (first 3) (in_order l))
  unfolding ready_in is_first is_ready
  ready-are = ap (map (message_entry l)) (sorted-part (first 3) turn_of (first-used 3 (λ q. omega arith))
      (λ x y i j e f q. let a = ready-number x i e in let b = ready-number y j f in omega arith)
      (λ x y i j e f q. let a = ready-number x i e in let b = ready-number y j f in omega arith))

  -- ---- a message's bytes
  abbrev parts_bytes : List Slot → List ℕ
  parts_bytes r = each_bytes (λ (s : Slot). part_bytes s.cell s.body) r

  body-written : (b : List ℕ) → body_bytes b ≡ body.write b
  unfolding body_bytes and_then body counted number64 exactly
  body-written b = refl

  part-first : (s : Slot) → s.cell.index ≡ 0 → part_bytes s.cell s.body
      ≡ four_bytes s.cell.channel s.cell.order s.cell.kind s.cell.count ++ body.write s.body
  unfolding part_bytes and_then
  part-first s q =
      let x = four_bytes s.cell.channel s.cell.order s.cell.kind s.cell.count in
      rw (← eq_yes s.cell.index 0 x x [] q refl, body-written s.body)

  part-later : (s : Slot) → (s.cell.index ≡ 0 → ⊥) → part_bytes s.cell s.body ≡ body.write s.body
  unfolding part_bytes and_then
  part-later s n =
      let x = four_bytes s.cell.channel s.cell.order s.cell.kind s.cell.count in
      rw (← eq_no s.cell.index 0 [] x [] n refl, body-written s.body)

  body-of : (k : Key) (i : ℕ) → option (find (sits k i) l) [] (λ s. s.body) ≡ (found l k i).body
  unfolding found empty_slot
  body-of k i = go (find (sits k i) l)
    where
      go : (o : Option Slot) → option o [] (λ s. s.body) ≡ (option o empty_slot (λ s. s)).body
      go none = refl
      go (some s) = refl

  module _ (f : Slot) (m : Memᴰ f l) (e : is_used f ≡ true) (closed : f.cell.used ≡ 1 → ⊥) (first-cell : f.cell.index ≡ 0) where
    abbrev head : List ℕ
    head = four_bytes f.cell.channel f.cell.order f.cell.kind f.cell.count

    begun : found l (key_of f.cell) 0 ≡ f
    begun = found-same l v few (key_of f.cell) 0 f m
        (subst (λ (i : ℕ). sits (key_of f.cell) i f ≡ true) first-cell (sits-key f (its-use l v few f m e)))

    written-start : (x : Slot) (b : List ℕ) → x ≡ f → b ≡ x.body → parts_bytes (x ∷ []) ≡ head ++ write_all body (b ∷ [])
    unfolding each_bytes and_then write_all
    written-start x b q r = rw (r, q, part-first f first-cell) (append_assoc head (body.write f.body) [])

    written-one : (x : Slot) (b : List ℕ) → b ≡ x.body → (x.cell.index ≡ 0 → ⊥) → parts_bytes (x ∷ []) ≡ write_all body (b ∷ [])
    unfolding each_bytes and_then write_all
    written-one x b q n = rw (q, part-later x n)

    written-step : (r : List Slot) (bs : List (List ℕ)) (x : Slot) (b : List ℕ) → parts_bytes r ≡ head ++ write_all body bs → b ≡ x.body
        → (x.cell.index ≡ 0 → ⊥)
        → parts_bytes (r ++ (x ∷ [])) ≡ head ++ write_all body (bs ++ (b ∷ []))
    written-step r bs x b p q n =
        let one : parts_bytes (x ∷ []) ≡ write_all body (b ∷ []) = written-one x b q n in
        each-append (λ (s : Slot). part_bytes s.cell s.body) r (x ∷ [])
        ∙ rw (p, one, write-append body bs (b ∷ [])) (append_assoc head (write_all body bs) (write_all body (b ∷ [])))

    written-to : (n : ℕ) → suc n ≤ f.cell.count → parts_bytes (pieces_to l (key_of f.cell) (suc n))
        ≡ head ++ write_all body (bodies_of (key_of f.cell) l (suc n))
    unfolding pieces_to bodies_of
    written-to zero le = written-start (found l (key_of f.cell) 0) _ begun (body-of (key_of f.cell) 0)
    written-to (suc n) le =
        let p = piece-is l v few f m e closed (suc n) (omega arith) in
        let i = p.3 in
        written-step (pieces_to l (key_of f.cell) (suc n)) (bodies_of (key_of f.cell) l (suc n)) (found l (key_of f.cell) (suc n)) _
        (written-to n (omega arith))
        (body-of (key_of f.cell) (suc n)) (λ q. omega arith)

    bodies-length : (k : Key) (n : ℕ) → length (bodies_of k l n) ≡ n
    unfolding bodies_of
    bodies-length k zero = refl
    bodies-length k (suc n) =
        let r = bodies-length k n in
        length-append (bodies_of k l n) (option (find (sits k n) l) [] (λ s. s.body) ∷ []) ∙ omega arith

    entry-written : head ++ write_all body (bodies_of (key_of f.cell) l f.cell.count) ≡ message_format.write (message_entry l f)
    unfolding four_bytes and_then message_format formed both number64 counted many message_entry
    entry-written = rw (bodies-length (key_of f.cell) f.cell.count) (simp append_assoc)

    pub message-written : parts_bytes (pieces_to l (key_of f.cell) f.cell.count) ≡ message_format.write (message_entry l f)
    message-written = by f.cell.count (omega arith) (its-bounds l v few f m e).some-count ∙ entry-written
      where
        by : (c : ℕ) → c ≤ f.cell.count → 1 ≤ c → parts_bytes (pieces_to l (key_of f.cell) c)
            ≡ head ++ write_all body (bodies_of (key_of f.cell) l c)
        by zero le h = absurd (omega arith)
        by (suc n) le h = written-to n (omega arith)

  -- ---- all messages of a use
  module _ (u : ℕ) (closed : u ≡ 1 → ⊥) (some-use : u ≡ 0 → ⊥) where
    messages-written : (r : List Slot) → ((s : Slot) → Memᴰ s r → Memᴰ s l × (s.cell.used ≡ u) × (s.cell.index ≡ 0))
        → parts_bytes (message_by l r) ≡ write_all message_format (map (message_entry l) r)
    unfolding message_by write_all each_bytes
    messages-written [] w = refl
    messages-written (s ∷ r) w =
        let a = w s (Memᴰ.head refl) in
        each-append (λ (s : Slot). part_bytes s.cell s.body) (pieces_to l (key_of s.cell) s.cell.count) (message_by l r)
        ∙ rw (
          message-written s a.0 (not-free-used s (used-free s u a.1 some-use)) (λ q. closed (sym a.1 ∙ q)) a.2,
          messages-written r (λ t i. w t (Memᴰ.tail i)),
        )

    pub use-written : each_bytes (λ (s : Slot). slot_bytes u s.cell s.body) (in_order l)
        ≡ write_all message_format (map (message_entry l) (only (first u) (in_order l)))
    use-written =
        each-used u (in_order l) ∙ each-same (own_bytes u) (λ (s : Slot). part_bytes s.cell s.body) (only (has_use u) (in_order l))
        (own-part u closed)
        ∙ ap (λ (r : List Slot). parts_bytes r) (messages-are l v few u closed some-use (only (first u) (in_order l)) (firsts u some-use))
        ∙ messages-written (only (first u) (in_order l)) (firsts u some-use).within

  -- ---- the three sections
  entries-count : (u : ℕ) (p : Slot → Bool) → ((s : Slot) → begins u s.cell ≡ p s) → count_of (begins u) (cells_of l) ≡ length (only p l)
  entries-count u p h = count-cells (begins u) l ∙ (count-same l ∙ sym (only-many p l))
    where
      count-same : (l : List Slot) → count_of (λ (s : Slot). begins u s.cell) l ≡ count_of p l
      count-same l = count-ext (λ (s : Slot). begins u s.cell) p l (λ s m. h s)

  begins-piece : (s : Slot) → begins 1 s.cell ≡ is_open s
  unfolding begins is_open
  begins-piece s = go (eqb s.cell.used 1)
    where
      go : (b : Bool) → (b && true) ≡ b
      go true = refl
      go false = refl

  begins-held : (s : Slot) → begins 2 s.cell ≡ is_held_first s
  unfolding begins is_held_first
  begins-held s = refl

  begins-ready : (s : Slot) → begins 3 s.cell ≡ is_first s
  unfolding begins is_first is_ready
  begins-ready s = refl

  pub pieces-section : be32_bytes (count_of (begins 1) (cells_of l)) ++ each_bytes (λ (s : Slot). slot_bytes 1 s.cell s.body) (in_order l)
      ≡ (section piece_format).write (pieces_in l)
  unfolding pieces_in is_open
  pieces-section =
      let n : count_of (begins 1) (cells_of l) ≡ length (pieces_in l) =
      entries-count 1 is_open begins-piece ∙ sym (sort-length piece_rank (map piece_entry (only is_open l))
      ∙ length-map (only is_open l) piece_entry) in
      let w : each_bytes (λ (s : Slot). slot_bytes 1 s.cell s.body) (in_order l) ≡ write_all piece_format (pieces_in l) =
      each-used 1 (in_order l) ∙ each-same (own_bytes 1) (λ (s : Slot). piece_bytes s.cell s.body) (only (has_use 1) (in_order l)) own-piece
      ∙ pieces-written (only (has_use 1) (in_order l)) ∙ ap (write_all piece_format) (sym pieces-are) in
      rw (n, w) (sym (section-bytes piece_format (pieces_in l)))

  pub held-section : be32_bytes (count_of (begins 2) (cells_of l)) ++ each_bytes (λ (s : Slot). slot_bytes 2 s.cell s.body) (in_order l)
      ≡ (section message_format).write (held_in l)
  unfolding held_in
  held-section =
      let n : count_of (begins 2) (cells_of l) ≡ length (held_in l) =
      entries-count 2 is_held_first begins-held
      ∙ sym (sort-length held_rank (map (message_entry l) (only is_held_first l)) ∙ length-map (only is_held_first l) (message_entry l)) in
      let w : each_bytes (λ (s : Slot). slot_bytes 2 s.cell s.body) (in_order l) ≡ write_all message_format (held_in l) =
      use-written 2 (λ q. omega arith) (λ q. omega arith) ∙ ap (write_all message_format) (sym held-are) in
      rw (n, w) (sym (section-bytes message_format (held_in l)))

  pub ready-section : be32_bytes (count_of (begins 3) (cells_of l)) ++ each_bytes (λ (s : Slot). slot_bytes 3 s.cell s.body) (in_order l)
      ≡ (section message_format).write (ready_in l)
  unfolding ready_in
  ready-section =
      let n : count_of (begins 3) (cells_of l) ≡ length (ready_in l) =
      entries-count 3 is_first begins-ready
      ∙ sym (length-map (sort_by turn_of (only is_first l)) (message_entry l) ∙ sort-length turn_of (only is_first l)) in
      let w : each_bytes (λ (s : Slot). slot_bytes 3 s.cell s.body) (in_order l) ≡ write_all message_format (ready_in l) =
      use-written 3 (λ q. omega arith) (λ q. omega arith) ∙ ap (write_all message_format) (sym ready-are) in
      rw (n, w) (sym (section-bytes message_format (ready_in l)))
