-- Messages by their keys, after a slot was put or slots were changed.
-- Assumes nothing.
use Prim.Native.Nat.{ℕ, zero, suc, ◌+◌}
use mathlib.Core.Path.{◌≡◌, refl, sym, ◌∙◌, ap}
use mathlib.Core.Bool.{Bool, true, false, cond, ◌&&◌, ◌||◌}
use mathlib.Core.Option.{Option, none, some}
use mathlib.Core.List.{List, [], map, Memᴰ}
use native.Mathlib.Omega.{arith}
use lib.Dec.{eqb}
use borrow.Author.Tests.{eqb-true, ne_eqb}
use Rattle.base.specs.Lists.{option, find, any, count_of, below}
use Rattle.base.proofs.Choices.{by_bool, cases, case_option, option-arm, and_left, and_right, neither}
use Rattle.base.proofs.Lists.{any_false, any-all, any-find, find-no, any-map, find-map}
use Rattle.base.proofs.Counts.{count_map}
use Rattle.bare.specs.Frame.{Message}
use Rattle.cells.specs.Cell.{Slot, Key, open_as, held_as, ready_as, bears, at, of, sits, is_free, is_ready, join, all_there, message_of}
use Rattle.cells.specs.Cell.{message_at, mark_cell, mark, empty_cell, empty_slot, change, put_slot}
use Rattle.cells.proofs.PutSlot.{any-put, find-put, count-put}

-- The use that a key's cells have.
abbrev pub use_of : Key → ℕ
use_of (open_as id) = 1
use_of (held_as c o) = 2
use_of (ready_as t) = 3

pub of-used : (k : Key) (s : Slot) → of k s ≡ true → s.cell.used ≡ use_of k
unfolding of bears
of-used (open_as id) s e = eqb-true _ _ (and_left (eqb s.cell.used 1) _ e)
of-used (held_as c o) s e = eqb-true _ _ (and_left (eqb s.cell.used 2) _ e)
of-used (ready_as t) s e = eqb-true _ _ (and_left (eqb s.cell.used 3) _ e)

pub of_other : (k : Key) (s : Slot) → (s.cell.used ≡ use_of k → ⊥) → of k s ≡ false
of_other k s h = cases (of k s) (λ t. absurd (h (of-used k s t))) (λ t. t)

pub of-free : (k : Key) (s : Slot) → is_free s ≡ true → of k s ≡ false
unfolding is_free
of-free k s e = of_other k s (λ u. no k u)
  where
    z : s.cell.used ≡ 0
    z = eqb-true _ _ e

    no : (k : Key) → s.cell.used ≡ use_of k → ⊥
    no (open_as id) u = omega (arith, z)
    no (held_as c o) u = omega (arith, z)
    no (ready_as t) u = omega (arith, z)

pub key-used : (k : Key) (s : Slot) → of k s ≡ true → is_free s ≡ false
key-used k s e = cases (is_free s) (λ y. neither (of k s) e (of-free k s y)) (λ y. y)

pub used-free : (s : Slot) (u : ℕ) → s.cell.used ≡ u → (u ≡ 0 → ⊥) → is_free s ≡ false
unfolding is_free
used-free s u e ne = ne_eqb s.cell.used 0 (λ q. ne (sym e ∙ q))

pub mark-free : (u t : ℕ) (s : Slot) → (u ≡ 0 → ⊥) → is_free (mark u t s) ≡ false
unfolding is_free mark mark_cell
mark-free u t s ne = ne_eqb u 0 ne

pub empty-free : is_free empty_slot ≡ true
unfolding is_free empty_slot empty_cell
empty-free = refl

pub empty_of : (k : Key) → of k empty_slot ≡ false
empty_of k = of-free k empty_slot empty-free

-- A cell of use 4 is no message's.
pub no-key-of-4 : (k : Key) → 4 ≡ use_of k → ⊥
no-key-of-4 (open_as id) q = omega arith
no-key-of-4 (held_as c o) q = omega arith
no-key-of-4 (ready_as t) q = omega arith

pub of-ready : (t : ℕ) (s : Slot) → of (ready_as t) s ≡ (is_ready s && eqb s.cell.turn t)
unfolding of bears is_ready
of-ready t s = refl

pub ready_of : (t : ℕ) (s : Slot) → of (ready_as t) s ≡ true → (is_ready s ≡ true) × (s.cell.turn ≡ t)
ready_of t s e = let e' : (is_ready s && eqb s.cell.turn t) ≡ true = sym (of-ready t s) ∙ e in
    (and_left (is_ready s) _ e', eqb-true _ _ (and_right (is_ready s) _ e'))

pub sits-of : (k : Key) (i : ℕ) (s : Slot) → sits k i s ≡ (of k s && eqb s.cell.index i)
unfolding sits at of
sits-of k i s = refl

pub sits-not : (k : Key) (i : ℕ) (s : Slot) → of k s ≡ false → sits k i s ≡ false
sits-not k i s e = rw (sits-of k i s, e)

pub sits-free : (k : Key) (i : ℕ) (s : Slot) → is_free s ≡ true → sits k i s ≡ false
sits-free k i s e = sits-not k i s (of-free k s e)

pub sits-is : (k : Key) (i : ℕ) (s : Slot) → sits k i s ≡ true → (of k s ≡ true) × (s.cell.index ≡ i)
sits-is k i s e = let e' : (of k s && eqb s.cell.index i) ≡ true = sym (sits-of k i s) ∙ e in
    (and_left (of k s) _ e', eqb-true _ _ (and_right (of k s) _ e'))

pub none-sits : (k : Key) (i : ℕ) (l : List Slot) → any (of k) l ≡ false → any (sits k i) l ≡ false
none-sits k i l e = any-all (sits k i) l (λ s m. sits-not k i s (any_false (of k) l e s m))

-- A slot without use and turn.
unfoldable pub shown : Slot → Slot
shown s = mark 0 0 s

unfoldable pub look : Option Slot → Option Slot
look o = option o none (λ s. some (shown s))

look-fold : {B : Type 0} (F : Slot → B) (b : B) → ((s : Slot) → F (shown s) ≡ F s) → (o : Option Slot) → option o b F ≡ option (look o) b F
unfolding look
look-fold F b h none = refl
look-fold F b h (some s) = sym (h s)

shown-body : (s : Slot) → (shown s).body ≡ s.body
unfolding shown mark mark_cell
shown-body s = refl

module _ (k k' : Key) (l l' : List Slot) (e : (i : ℕ) → look (find (sits k' i) l') ≡ look (find (sits k i) l)) where
  join-ext : (n : ℕ) → join k' l' n ≡ join k l n
  unfolding join
  join-ext zero = refl
  join-ext (suc n) =
      rw (
        join-ext n,
        look-fold (λ (s : Slot). s.body) [] shown-body (find (sits k' n) l'),
        look-fold (λ (s : Slot). s.body) [] shown-body
            (find (sits k n) l),
        e n,
      )

  message_at-ext : message_at k' l' ≡ message_at k l
  unfolding message_at message_of shown mark mark_cell
  message_at-ext =
      look-fold F' none seen' (find (sits k' 0) l') ∙ (rw (e 0)
      (option-arm (look (find (sits k 0) l)) none F' F (λ s. rw (join-ext s.cell.count)))
      ∙ sym (look-fold F none seen (find (sits k 0) l)))
    where
      F : Slot → Option Message
      F s = some (message_of s (join k l s.cell.count))

      F' : Slot → Option Message
      F' s = some (message_of s (join k' l' s.cell.count))

      seen : (s : Slot) → F (shown s) ≡ F s
      seen s = refl

      seen' : (s : Slot) → F' (shown s) ≡ F' s
      seen' s = refl

-- In the changed list, the message k' is what the message k was.
pub record Carried (k k' : Key) (h : Slot → Slot) (l : List Slot) : Type 0 where
  pub moved : (s : Slot) → Memᴰ s l → of k' (h s) ≡ of k s
  pub same : (s : Slot) → Memᴰ s l → of k s ≡ true → shown (h s) ≡ shown s

module _ {k k' : Key} {h : Slot → Slot} {l : List Slot} (c : Carried k k' h l) where
  carried-sits : (i : ℕ) (s : Slot) → Memᴰ s l → sits k' i (h s) ≡ sits k i s
  unfolding shown mark mark_cell
  carried-sits i s m = rw (sits-of k' i (h s), sits-of k i s, c.moved s m) (go (of k s) refl)
    where
      go : (t : Bool) → of k s ≡ t → (t && eqb (h s).cell.index i) ≡ (t && eqb s.cell.index i)
      go true t = ap (λ (z : Slot). eqb z.cell.index i) (c.same s m t)
      go false t = refl

  pub carried-look : (i : ℕ) → look (find (sits k' i) (map h l)) ≡ look (find (sits k i) l)
  unfolding look
  carried-look i = find-map shown (sits k' i) (sits k i) h l (carried-sits i) (λ s m e. c.same s m (sits-is k i s e).0)

  pub carried-message : message_at k' (map h l) ≡ message_at k l
  carried-message = message_at-ext k k' l (map h l) carried-look

  pub carried-join : (n : ℕ) → join k' (map h l) n ≡ join k l n
  carried-join n = join-ext k k' l (map h l) carried-look n

  pub carried-any : any (of k') (map h l) ≡ any (of k) l
  carried-any = any-map (of k') (of k) h l c.moved

  pub carried-count : (i : ℕ) → count_of (sits k' i) (map h l) ≡ count_of (sits k i) l
  carried-count i = count_map (sits k' i) (sits k i) h l (carried-sits i)

  pub carried-there : (n : ℕ) → all_there k' (map h l) n ≡ all_there k l n
  unfolding all_there below
  carried-there zero = refl
  carried-there (suc n) = rw (carried-there n, any-map (sits k' n) (sits k n) h l (carried-sits n))

-- A message that a change leaves alone.
pub carried_other : (k : Key) (q : Slot → Bool) (g : Slot → Slot) (l : List Slot)
    → ((s : Slot) → Memᴰ s l → q s ≡ true → (of k s ≡ false) × (of k (g s) ≡ false)) → Carried k k (change q g) l
unfolding change
carried_other k q g l e = record {
  moved = λ s m. by_bool (λ (z : Slot). of k z ≡ of k s) (q s) (λ t. let r = e s m t in r.1 ∙ sym r.0) (λ t. refl);
  same = λ s m o. by_bool (λ (z : Slot). shown z ≡ shown s) (q s) (λ t. let r = e s m t in neither (of k s) o r.0) (λ t. refl);
}

-- A message that gets another key.
pub carried-moved : (k k' : Key) (u t : ℕ) (l : List Slot) → ((s : Slot) → Memᴰ s l → of k s ≡ true → of k' (mark u t s) ≡ true)
    → any (of k') l ≡ false → Carried k k' (change (of k) (mark u t)) l
unfolding change shown mark mark_cell
carried-moved k k' u t l e f = record {
  moved = λ s m. cases (of k s) (λ y. rw y (e s m y)) (λ y. rw y (any_false (of k') l f s m));
  same = λ s m y. rw y (shows s);
}
  where
    shows : (s : Slot) → shown (mark u t s) ≡ shown s
    shows s = refl

pub message-none : (k : Key) (l : List Slot) → any (sits k 0) l ≡ false → message_at k l ≡ none
unfolding message_at
message-none k l e = rw (find-no (sits k 0) l e)

pub message-some : (k : Key) (l : List Slot) → any (sits k 0) l ≡ true → (m : Message) × (message_at k l ≡ some m)
unfolding message_at
message-some k l e = case_option (find (sits k 0) l)
    (λ t. neither (any (sits k 0) l) e (rw (any-find (sits k 0) l, t)))
    (λ s t. (message_of s (join k l s.cell.count), rw t))

pub message-there : (k : Key) (l : List Slot) (m : Message) → message_at k l ≡ some m → any (sits k 0) l ≡ true
message-there k l m e = cases (any (sits k 0) l) (λ t. t) (λ t. let n = message-none k l t in
    absurd (let z : ◌≡◌ {A = ℕ} 0 1 = cc in omega arith))

-- A new slot.
module _ (x : Slot) (l : List Slot) (room : any is_free l ≡ true) where
  pub put-any-of : (k : Key) → any (of k) (put_slot x l) ≡ (of k x || any (of k) l)
  put-any-of k = any-put (of k) x (of-free k) l room

  pub put-any-sits : (k : Key) (i : ℕ) → any (sits k i) (put_slot x l) ≡ (sits k i x || any (sits k i) l)
  put-any-sits k i = any-put (sits k i) x (sits-free k i) l room

  pub put_count : (k : Key) (i : ℕ) → count_of (sits k i) (put_slot x l) ≡ cond (sits k i x) 1 0 + count_of (sits k i) l
  put_count k i = count-put (sits k i) x (sits-free k i) l room

  pub put-find : (k : Key) (i : ℕ) → (sits k i x ≡ true → any (sits k i) l ≡ false) → find (sits k i) (put_slot x l)
      ≡ cond (sits k i x) (some x) (find (sits k i) l)
  put-find k i h = find-put (sits k i) x (sits-free k i) l room h

  pub put_other : (k : Key) → of k x ≡ false → message_at k (put_slot x l) ≡ message_at k l
  put_other k e = message_at-ext k k l (put_slot x l) (λ i. let n = sits-not k i x e in
      ap look (put-find k i (λ t. neither (sits k i x) t n) ∙ rw n))

  pub put_whole : (k : Key) → of k x ≡ true → x.cell.index ≡ 0 → x.cell.count ≡ 1 → any (of k) l ≡ false → message_at k (put_slot x l)
      ≡ some (message_of x x.body)
  unfolding message_at join
  put_whole k e i n a = rw f (ap (λ (b : List ℕ). some (message_of x b)) (j x.cell.count n))
    where
      f : find (sits k 0) (put_slot x l) ≡ some x
      f = put-find k 0 (λ t. none-sits k 0 l a) ∙ rw (sits-of k 0 x, e, i)

      j : (n : ℕ) → n ≡ 1 → join k (put_slot x l) n ≡ x.body
      j n e = rw e (rw f)
