-- The laws of `put`, `after` and `Run`.
-- Assumes nothing.
use mathlib.Core.Path.{◌≡◌, ◌∙◌, sym, ap, refl}
use mathlib.Core.Bool.{Bool, true, false}
use mathlib.Core.List.{List, [], ◌∷◌, ◌++◌, append-nil, append_assoc}
use Prim.Native.Nat.{ℕ, zero, suc, ◌+◌, ◌-◌, ◌<◌, ◌≤◌, min}
use native.Mathlib.Decide.{dec_le}
use native.Mathlib.Nat.{add-zero, zero-add, add-suc, suc-add, le_of_suc-le-suc, not-suc-le-zero}
use native.Mathlib.Omega.{arith}
use lib.Dec.{ltb}
use lib.ListN.{length, get_or, set, take, drop, length-set, length-append, length-take, length-drop, take-append-drop}
use lib.Seq.{get_or-set_same, get_or-set_other, set_out, take_all, length-take-le, drop-drop, sets, sets-eq}
use lib.Seq.{drop-length}
use borrow.Author.Tests.{lt-ltb, le-ltb, ltb-true, ltb-false}
use Rattle.base.specs.If.{if_true, if_lt}
use Rattle.base.proofs.Ifs.{lt_yes, lt_no}
use Rattle.base.specs.Put.{put, and_then, after, Run}

pub put-none : {A : Type 0} (l : List A) (p : ℕ) → put l p [] ≡ l
unfolding put
put-none l p = refl

pub length-put : {A : Type 0} (l : List A) (p : ℕ) (bs : List A) → length (put l p bs) ≡ length l
unfolding put
length-put l p [] = refl
length-put l p (b ∷ bs) = length-put (set l p b) (suc p) bs ∙ length-set l p b

-- past the end nothing is stored, and the place stays
pub put-past : {A : Type 0} (l : List A) (p : ℕ) (bs : List A) → length l ≤ p → put l p bs ≡ l
unfolding put
put-past l p [] h = refl
put-past l p (b ∷ bs) h = rw (set_out l p b h) (put-past l (suc p) bs (omega arith))

after-past : (n p k : ℕ) → n ≤ p → after n p k ≡ p
unfolding after if_lt if_true
after-past n p zero h = refl
after-past n p (suc k) h = rw (le-ltb p n h) (after-past n p k h)

-- within the list the place is the sum
pub after-fits : (n p k : ℕ) → p + k ≤ n → after n p k ≡ p + k
unfolding after if_lt if_true
after-fits n p zero h = sym (add-zero p)
after-fits n p (suc k) h =
    let t : p < n = omega arith in
    rw (lt-ltb p n t) (after-fits n (suc p) k (omega arith) ∙ suc-add p k ∙ sym (add-suc p k))

pub after-add : (n p j k : ℕ) → after n p (j + k) ≡ after n (after n p j) k
unfolding after
after-add n p zero k = rw zero-add
after-add n p (suc j) k = rw suc-add (after-add n (if_lt p n (suc p) p) j k)

-- two runs, one after the other
pub put-append : {A : Type 0} (l : List A) (p : ℕ) (xs bs : List A)
    → put (put l p xs) (after (length l) p (length xs)) bs ≡ put l p (xs ++ bs)
unfolding put after
put-append l p [] bs = refl
put-append l p (a ∷ xs) bs = go (ltb p (length l)) refl (put-append (set l p a) (suc p) xs bs)
  where
    go : (t : Bool) → ltb p (length l) ≡ t
        → put (put (set l p a) (suc p) xs) (after (length (set l p a)) (suc p) (length xs)) bs ≡ put (set l p a) (suc p) (xs ++ bs)
        → put (put (set l p a) (suc p) xs) (after (length l) (if_lt p (length l) (suc p) p) (length xs)) bs ≡ put (set l p a) (suc p)
        (xs ++ bs)
    go true t r = rw (← lt_yes p (length l) _ (suc p) p (ltb-true p (length l) t) refl, ← length-set l p a) r
    go false t r =
        let h : length l ≤ p = ltb-false p (length l) t in
        let h' : length l ≤ suc p = omega arith in
        rw (
          ← lt_no p (length l) _ (suc p) p h refl,
          set_out l p a h,
          put-past l (suc p) xs h',
          after-past (length l) p (length xs) h,
          put-past l (suc p) (xs ++ bs) h',
        )
        (put-past l p bs h)

-- what stands before the run, and in it
pub put-before : (l : List ℕ) (p : ℕ) (bs : List ℕ) (i : ℕ) → i < p → get_or (put l p bs) i 0 ≡ get_or l i 0
unfolding put
put-before l p [] i h = refl
put-before l p (b ∷ bs) i h = put-before (set l p b) (suc p) bs i (omega arith) ∙ get_or-set_other l p i b 0 (omega arith)

pub put_in : (l : List ℕ) (p : ℕ) (bs : List ℕ) (i : ℕ) → p + length bs ≤ length l → i < length bs → get_or (put l p bs) (p + i) 0
    ≡ get_or bs i 0
unfolding put
put_in l p [] i h k = absurd (not-suc-le-zero k)
put_in l p (b ∷ bs) zero h k =
    rw add-zero (put-before (set l p b) (suc p) bs p (omega arith) ∙ get_or-set_same l p b 0 (omega arith))
put_in l p (b ∷ bs) (suc i) h k =
    rw (add-suc, ← suc-add p i) (put_in (set l p b) (suc p) bs i (rw length-set (omega arith)) (le_of_suc-le-suc k))

-- the rest of a list from a place on, lent and given back
put-cons : (a : ℕ) (l : List ℕ) (p : ℕ) (bs : List ℕ) → put (a ∷ l) (suc p) bs ≡ a ∷ put l p bs
unfolding put
put-cons a l p [] = refl
put-cons a l p (b ∷ bs) = put-cons a (set l p b) (suc p) bs

put_front : (u r : List ℕ) (p : ℕ) (bs : List ℕ) → put (u ++ r) (length u + p) bs ≡ u ++ put r p bs
put_front [] r p bs = rw zero-add
put_front (a ∷ u) r p bs = rw (suc-add, put-cons) (ap (λ (x : List ℕ). a ∷ x) (put_front u r p bs))

pub put_back : (l : List ℕ) (at : ℕ) (bs : List ℕ) → at ≤ length l
    → take at l ++ (put (drop at l) 0 bs ++ drop (length l - at) (drop at l)) ≡ put l at bs
put_back l at bs h =
    let n : length (take at l) ≡ at = simp length-take (omega arith) in
    let e : put (take at l ++ drop at l) (length (take at l) + 0) bs ≡ take at l ++ put (drop at l) 0 bs =
    put_front (take at l) (drop at l) 0 bs in
    let d : drop (length l - at) (drop at l) ≡ [] = rw (← length-drop at l) (drop-length (drop at l)) in
    rw (d, append-nil) (sym (rw (take-append-drop, n, add-zero) at e))

-- a run within the list: what stands before it, the run, and what stands after it
put-sets : {A : Type 0} (bs l : List A) (p : ℕ) → put l p bs ≡ sets l p bs
unfolding put
put-sets [] l p = refl
put-sets (b ∷ bs) l p = put-sets bs (set l p b) (suc p)

pub put-split : {A : Type 0} (l : List A) (p : ℕ) (bs : List A) → p + length bs ≤ length l
    → put l p bs ≡ take p l ++ (bs ++ drop (p + length bs) l)
put-split l p bs h = put-sets bs l p ∙ sets-eq bs l p h ∙ append_assoc (take p l) bs (drop (p + length bs) l)

-- ---- runs, as `search` uses them: facts as the code finds them
pub run_none : {A : Type 0} (p : ℕ) (bs l : List A) → bs ≡ [] → Run p bs l p l
unfolding after
run_none p bs l e = record { next = rw e; is = rw e (sym (put-none l p)) }

pub run-then : {A : Type 0} (p : ℕ) (xs ys l : List A) (q : ℕ) (L : List A) (r : ℕ) (M : List A) → Run p xs l q L → Run q ys L r M
    → Run p (and_then xs ys) l r M
unfolding and_then
run-then p xs ys l q L r M a b =
    let n : length L ≡ length l = ap length a.is ∙ length-put l p xs in
    record {
      next = b.next ∙ rw (n, a.next, length-append) (sym (after-add (length l) p (length xs) (length ys)));
      is = b.is ∙ rw (a.is, a.next) (put-append l p xs ys);
    }

pub run-cons : {A : Type 0} (p : ℕ) (a : A) (bs l : List A) (q : ℕ) (L : List A) (r : ℕ) (M : List A) → Run p (a ∷ []) l q L
    → Run q bs L r M
    → Run p (a ∷ bs) l r M
unfolding and_then
run-cons p a bs l q L r M x y = run-then p (a ∷ []) bs l q L r M x y

-- past the end nothing is stored
pub run_past : {A : Type 0} (p : ℕ) (bs l : List A) → length l ≤ p → Run p bs l p l
run_past p bs l h = record { next = sym (after-past (length l) p (length bs) h); is = sym (put-past l p bs h) }

-- a body, as much of it as there is room for, in place of a part of the list
module _ {A : Type 0} (p m : ℕ) (body l : List A) (h : p < length l) (e : m ≡ min (length l - p) (length body)) where
  part-long : length (take m body) ≡ m
  part-long = length-take-le m body (omega arith)

  part-put : put l p body ≡ put l p (take m body)
  part-put = go (dec_le (length body) m)
    where
      go : Dec (length body ≤ m) → put l p body ≡ put l p (take m body)
      go (yes i) = rw (take_all m body i)
      go (no i) =
          let f : after (length l) p (length (take m body)) ≡ p + m = rw part-long (after-fits (length l) p m (omega arith)) in
          let full : length (put l p (take m body)) ≤ p + m = rw length-put (omega arith) in
          let a : put (put l p (take m body)) (after (length l) p (length (take m body))) (drop m body)
          ≡ put l p (take m body ++ drop m body) =
          put-append l p (take m body) (drop m body) in
          sym (rw (f, put-past (put l p (take m body)) (p + m) (drop m body) full, take-append-drop) at a)

  part-next : after (length l) p (length body) ≡ p + m
  part-next = go (dec_le (length body) m)
    where
      go : Dec (length body ≤ m) → after (length l) p (length body) ≡ p + m
      go (yes i) = let n : length body ≡ m = omega arith in rw n (after-fits (length l) p m (omega arith))
      go (no i) =
          let n : length body ≡ m + (length body - m) = omega arith in
          rw (n, after-add (length l) p m (length body - m), after-fits (length l) p m (omega arith))
          (after-past (length l) (p + m) (length body - m) (omega arith))

  -- the part of the body and the part of the list, as they are lent
  pub part_count : m ≡ length (take m body)
  part_count = sym part-long

  pub part_same : length (take (p + m - p) (drop p l)) ≡ length (take m body)
  part_same = rw part-long (simp (length-take, length-drop) (omega arith))

  pub part-run : (part : List A) → part ≡ take m body → Run p body l (p + m) (take p l ++ (part ++ drop (p + m - p) (drop p l)))
  part-run part i =
      let s : put l p (take m body) ≡ take p l ++ (take m body ++ drop (p + length (take m body)) l) =
      put-split l p (take m body) (rw part-long (omega arith)) in
      let d : p + (p + m - p) ≡ p + m = omega arith in
      record { next = sym part-next; is = rw (i, drop-drop, d) (sym (part-put ∙ (rw part-long at s))) }

-- all of it, where there is room
pub whole-run : {A : Type 0} (p : ℕ) (body l part : List A) → p < length l → length body ≤ length l - p → part ≡ body
    → Run p body l (p + length body) (take p l ++ (part ++ drop (p + length body - p) (drop p l)))
whole-run p body l part h i e =
    part-run p (length body) body l h (omega arith) part (e ∙ sym (take_all (length body) body (omega arith)))

-- a run leaves the length
pub run_long : {A : Type 0} (p : ℕ) (bs l : List A) (q : ℕ) (m : List A) → Run p bs l q m → length m ≡ length l
run_long p bs l q m a = ap length a.is ∙ length-put l p bs
