-- The unsent numbers after a new one went before the first greater one.
-- Assumes nothing.
use Prim.Native.Nat.{ℕ, suc, ◌+◌, ◌≤◌, ◌<◌}
use mathlib.Core.Path.{◌≡◌, refl, sym, ◌∙◌, ap}
use mathlib.Core.Bool.{Bool, true, false, not, ◌||◌, true≢false}
use mathlib.Core.List.{List, [], ◌∷◌, ◌++◌}
use native.Mathlib.Omega.{arith}
use lib.ListN.{length, take, drop, length-append, length-drop}
use lib.Seq.{take_at, length-take-le}
use lib.Dec.{ltb, eqb}
use borrow.Author.Tests.{eqb-true, eqb-false, ne_eqb}
use Rattle.base.specs.Lists.{any, every}
use Rattle.base.proofs.Choices.{cases, by_bool, and_left, and_right, and_both, neither}
use Rattle.receiver.specs.Queue.{differ, insert_unsent}

pub insert-length : (n : ℕ) (l : List ℕ) → length (insert_unsent n l) ≡ suc (length l)
unfolding insert_unsent
insert-length n [] = refl
insert-length n (m ∷ l) = by_bool (λ (r : List ℕ). length r ≡ suc (suc (length l))) (ltb n m) (λ t. refl) (λ t. ap suc (insert-length n l))

-- A test that passes n and all that was there passes all that is there.
pub every-insert : (p : ℕ → Bool) (n : ℕ) (l : List ℕ) → p n ≡ true → every p l ≡ true → every p (insert_unsent n l) ≡ true
unfolding insert_unsent every
every-insert p n [] e f = and_both (p n) true e refl
every-insert p n (m ∷ l) e f =
    by_bool (λ (r : List ℕ). every p r ≡ true) (ltb n m)
    (λ t. and_both (p n) _ e f)
    (λ t. and_both (p m) _ (and_left (p m) _ f) (every-insert p n l e (and_right (p m) _ f)))

any-insert : (x n : ℕ) (l : List ℕ) → eqb x n ≡ false → any (eqb x) l ≡ false → any (eqb x) (insert_unsent n l) ≡ false
unfolding insert_unsent any
any-insert x n [] e f = rw e
any-insert x n (m ∷ l) e f =
    by_bool (λ (r : List ℕ). any (eqb x) r ≡ false) (ltb n m)
    (λ t. rw e f)
    (λ t. go (eqb x m) f (λ g. any-insert x n l e g))
  where
    go : (b : Bool) → (b || any (eqb x) l) ≡ false → (any (eqb x) l ≡ false → any (eqb x) (insert_unsent n l) ≡ false)
        → (b || any (eqb x) (insert_unsent n l)) ≡ false
    go true g k = absurd (true≢false g)
    go false g k = k g

not-false : (b : Bool) → not b ≡ true → b ≡ false
not-false true e = sym e
not-false false e = refl

-- Numbers that differ still differ with a number that is not among them.
pub differ-insert : (n : ℕ) (l : List ℕ) → any (eqb n) l ≡ false → differ l ≡ true → differ (insert_unsent n l) ≡ true
unfolding insert_unsent differ any
differ-insert n [] e f = refl
differ-insert n (m ∷ l) e f =
    by_bool (λ (r : List ℕ). differ r ≡ true) (ltb n m)
    (λ t. and_both (not (any (eqb n) (m ∷ l))) _ (rw e) f)
    (λ t. and_both (not (any (eqb m) (insert_unsent n l))) _
    (rw (any-insert m n l other (not-false _ (and_left (not (any (eqb m) l)) _ f))))
    (differ-insert n l away (and_right (not (any (eqb m) l)) _ f)))
  where
    parts : (b c : Bool) → (b || c) ≡ false → (b ≡ false) × (c ≡ false)
    parts true c g = absurd (true≢false g)
    parts false c g = (refl, g)

    away : any (eqb n) l ≡ false
    away = (parts (eqb n m) (any (eqb n) l) e).1

    other : eqb m n ≡ false
    other = ne_eqb m n (λ q. eqb-false n m (parts (eqb n m) (any (eqb n) l) e).0 (sym q))

-- The first k numbers of the array afterwards are those with the new one.
pub taken-after : (n k : ℕ) (l : List ℕ) → k ≤ length l → take (k + 1) (insert_unsent n (take k l) ++ drop (k + 1) l)
    ≡ insert_unsent n (take k l)
taken-after n k l le =
    take_at (insert_unsent n (take k l)) (drop (k + 1) l) (k + 1) (let a = insert-length n (take k l) in let b = length-take-le k l le in
    omega arith)

pub array-after : (n k : ℕ) (l : List ℕ) → k < length l → length (insert_unsent n (take k l) ++ drop (k + 1) l) ≡ length l
array-after n k l lt =
    let a = insert-length n (take k l) in
    let b = length-take-le k l (omega arith) in
    simp (length-append, length-drop) (omega arith)

pub every_more : (p q : ℕ → Bool) → ((n : ℕ) → p n ≡ true → q n ≡ true) → (l : List ℕ) → every p l ≡ true → every q l ≡ true
unfolding every
every_more p q h [] e = refl
every_more p q h (n ∷ l) e = and_both (q n) _ (h n (and_left (p n) _ e)) (every_more p q h l (and_right (p n) _ e))

-- A number that fails a test that all pass is not among them.
pub not-among : (p : ℕ → Bool) (n : ℕ) (l : List ℕ) → every p l ≡ true → p n ≡ false → any (eqb n) l ≡ false
unfolding every any
not-among p n [] e f = refl
not-among p n (m ∷ l) e f =
    cases (eqb n m)
    (λ t. neither (p m) (and_left (p m) _ e) (ap p (sym (eqb-true n m t)) ∙ f))
    (λ t. rw t (not-among p n l (and_right (p m) _ e) f))
