-- Tests that no unused record, or slot, passes find the same with and without unused ones at the end.
-- Assumes nothing.
use Prim.Native.Nat.{ℕ, zero, suc}
use mathlib.Core.Path.{◌≡◌, refl, ◌∙◌, ap}
use mathlib.Core.Bool.{Bool, true, false, ◌||◌}
use mathlib.Core.List.{List, [], ◌∷◌, ◌++◌, map, map-append, Memᴰ}
use native.Mathlib.Omega.{arith}
use Rattle.base.specs.Lists.{find, any, every, count_of, below}
use Rattle.base.proofs.Lists.{any-all, every-mem, find-no}
use Rattle.base.proofs.Counts.{count_none}
use Rattle.rows.proofs.ListMaps.{count-append, any_append}
use Rattle.cells.specs.Cell.{Cell, Key, bears, at, of, is_free}
use Rattle.cells.specs.Records.{change_cells}
use Rattle.cells.specs.Sound.{lacks_none}
use Rattle.cells.proofs.Keys.{of-free}
use Rattle.recv_prefix.specs.First.{is_unused}

or-none : (a b : Bool) → b ≡ false → (a || b) ≡ a
or-none true b e = refl
or-none false b e = e

-- What changes no element changes no list.
pub map-fixed : {A : Type 0} (h : A → A) (l : List A) → ((x : A) → Memᴰ x l → h x ≡ x) → map h l ≡ l
map-fixed h [] e = refl
map-fixed h (x ∷ l) e =
    let a = e x (Memᴰ.head refl) in
    let b = map-fixed h l (λ y m. e y (Memᴰ.tail m)) in
    cc

-- Elements of which the last ones, rest, all pass u; a test that fails where u passes.
module _ {A : Type 0} {u : A → Bool} (rest : List A) (unused : every u rest ≡ true) (p : A → Bool) (blind : (c : A) → u c ≡ true → p c
    ≡ false) where
  pub any-rest : any p rest ≡ false
  any-rest = any-all p rest (λ c m. blind c (every-mem u rest unused c m))

  pub any-first : (cs : List A) → any p (cs ++ rest) ≡ any p cs
  any-first cs = any_append p cs rest ∙ or-none (any p cs) (any p rest) any-rest

  pub count-first : (cs : List A) → count_of p (cs ++ rest) ≡ count_of p cs
  count-first cs = let a = count-append p cs rest in let b = count_none p rest any-rest in omega arith

  pub find_first : (cs : List A) → find p (cs ++ rest) ≡ find p cs
  unfolding find
  find_first [] = find-no p rest any-rest
  find_first (c ∷ cs) = rw (find_first cs)

-- ---- records

-- A change of records that no unused one passes is one of the first.
module _ (rest : List Cell) (unused : every is_unused rest ≡ true) (p : Cell → Bool) (blind : (c : Cell) → is_unused c ≡ true → p c
    ≡ false) (g : Cell → Cell) where
  pub changed-first : (first : List Cell) → change_cells p g (first ++ rest) ≡ change_cells p g first ++ rest
  unfolding change_cells
  changed-first first = map-append _ first rest ∙ ap (λ (l : List Cell). change_cells p g first ++ l)
      (map-fixed _ rest (λ c m. rw (blind c (every-mem is_unused rest unused c m))))

-- An unused record is no message's.
pub bears-unused : (k : Key) (c : Cell) → is_unused c ≡ true → bears k c ≡ false
unfolding is_unused is_free of
bears-unused k c e = of-free k (record { cell = c; body = [] }) e

pub at-unused : (k : Key) (i : ℕ) (c : Cell) → is_unused c ≡ true → at k i c ≡ false
unfolding at
at-unused k i c e = rw (bears-unused k c e)

pub lacks-first : (rest : List Cell) → every is_unused rest ≡ true → (k : Key) (cs : List Cell) (n : ℕ) → lacks_none k (cs ++ rest) n
    ≡ lacks_none k cs n
unfolding lacks_none below
lacks-first rest unused k cs zero = refl
lacks-first rest unused k cs (suc n) = rw (lacks-first rest unused k cs n, any-first rest unused (at k n) (at-unused k n) cs)
