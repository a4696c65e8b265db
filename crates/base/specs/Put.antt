-- Bytes, or other elements, stored from a place on.
use Rattle.std.specs.Prelude.{ℕ, zero, suc, List, [], ◌∷◌, ◌++◌, ◌≡◌, set, length}
use Rattle.base.specs.If.{if_lt}

-- the list l with the bytes bs from place p on; what would stand past the end of l is not stored
unfoldable pub put : {A : Type 0} → List A → ℕ → List A → List A
put l p [] = l
put l p (b ∷ bs) = put (set l p b) (suc p) bs

-- one run of bytes after another: `◌++◌`, shut
unfoldable pub and_then : {A : Type 0} → List A → List A → List A
and_then xs ys = xs ++ ys

-- the place after k bytes from place p on in a list of n: one further with each byte that is stored
unfoldable pub after : ℕ → ℕ → ℕ → ℕ
after n p zero = p
after n p (suc k) = after n (if_lt p n (suc p) p) k

-- what a writer of the bytes bs at place p does to l: m is the list afterwards, and q the place after the bytes
pub record Run {A : Type 0} (p : ℕ) (bs l : List A) (q : ℕ) (m : List A) : Type 0 where
  pub next : q ≡ after (length l) p (length bs)
  pub is : m ≡ put l p bs
