-- The first record with the least turn among the ready messages' first ones: what it is, and the scan's state, one record more at a time.
-- Assumes nothing.
use Prim.Native.Nat.{ℕ, suc, ◌+◌, ◌<◌, ◌≤◌}
use mathlib.Core.Path.{◌≡◌, refl, sym, ap, ◌∙◌}
use mathlib.Core.Bool.{Bool, true, false, ◌&&◌, cond, ◌||◌, true≢false, false≢true}
use mathlib.Core.List.{List, [], ◌∷◌, ◌++◌, append-nil, Memᴰ}
use native.Mathlib.Omega.{arith}
use lib.Dec.{ltb, eqb}
use lib.ListN.{length}
use borrow.Author.Tests.{ltb-true, ltb-false, lt-ltb, le-ltb, eqb-true, eqb-false, eq-eqb}
use Rattle.std.specs.Prelude.{Option, Some, None, MatchOption}
use Rattle.base.specs.Lists.{any}
use Rattle.base.proofs.Choices.{cases, and_left, and_right, and_both, neither}
use Rattle.base.proofs.Lists.{any-true, any_false, any-all, any-mem}
use Rattle.cells.specs.Cell.{Cell, ready_as, bears, at}
use Rattle.cells.specs.Records.{unused_at, before_cell, first_cell, index_of}
use Rattle.rows.specs.declared.Row.{Row}
use Rattle.rows.specs.Rows.{cells_in}
use Rattle.rows.proofs.Rows.{cells-length}
use Rattle.row_tests.specs.Uses.{uses}
use Rattle.rows.proofs.ListMaps.{any_append}
use Rattle.row_scans.specs.Ready.{is_earliest, first_ready, FoundAt}

-- ---- the first record that passes

pub unused-index : (cs : List Cell) → unused_at cs ≡ index_of (uses 0) cs
unfolding unused_at index_of
unused-index [] = refl
unused-index (c ∷ cs) = ap (λ (n : ℕ). cond (eqb c.used 0) 0 (suc n)) (unused-index cs)

module _ (p : Cell → Bool) where
  pub index-there : (cs : List Cell) → any p cs ≡ true → index_of p cs < length cs
  unfolding index_of any
  index-there [] e = absurd (false≢true e)
  index-there (c ∷ cs) e = cases (p c) (λ t. rw t (omega arith)) (λ t. let k = index-there cs (rw t at e) in rw t (omega arith))

  -- None of the first list passes, or one does.
  index-past : (cs ds : List Cell) → any p cs ≡ false → index_of p (cs ++ ds) ≡ length cs + index_of p ds
  unfolding index_of any
  index-past [] ds e = omega arith
  index-past (c ∷ cs) ds e = cases (p c) (λ t. absurd (true≢false (rw t at e))) (λ t. let k = index-past cs ds (rw t at e) in
      rw t (omega arith))

  index-within : (cs ds : List Cell) → any p cs ≡ true → index_of p (cs ++ ds) ≡ index_of p cs
  unfolding index_of any
  index-within [] ds e = absurd (false≢true e)
  index-within (c ∷ cs) ds e = cases (p c) (λ t. rw t) (λ t. let k = index-within cs ds (rw t at e) in rw (t, k))

  index-all-past : (cs : List Cell) → any p cs ≡ false → index_of p cs ≡ length cs
  unfolding index_of
  index-all-past cs e = ap (index_of p) (sym (append-nil cs)) ∙ (index-past cs [] e ∙ omega arith)

index_same : (p q : Cell → Bool) (cs : List Cell) → ((c : Cell) → Memᴰ c cs → p c ≡ q c) → index_of p cs ≡ index_of q cs
unfolding index_of
index_same p q [] h = refl
index_same p q (c ∷ cs) h = rw (h c (Memᴰ.head refl), index_same p q cs (λ x m. h x (Memᴰ.tail m)))

-- ---- tests of a first record's turn

-- Where q passes p does, and p passes none.
none-less : (p q : Cell → Bool) (cs : List Cell) → ((c : Cell) → q c ≡ true → p c ≡ true) → any p cs ≡ false → any q cs ≡ false
none-less p q cs h e = any-all q cs (λ c m. cases (q c) (λ t. neither (p c) (h c t) (any_false p cs e c m)) (λ t. t))

before-is : (t : ℕ) (c : Cell) → before_cell t c ≡ (first_cell c && ltb c.turn t)
unfolding before_cell first_cell
before-is t c = refl

at-is : (t : ℕ) (c : Cell) → at (ready_as t) 0 c ≡ (first_cell c && eqb c.turn t)
unfolding at bears first_cell
at-is t c = swapped (eqb c.used 3) (eqb c.turn t) (eqb c.index 0)
  where
    swapped : (a b d : Bool) → ((a && b) && d) ≡ ((a && d) && b)
    swapped true true true = refl
    swapped true true false = refl
    swapped true false true = refl
    swapped true false false = refl
    swapped false b d = refl

before-first : (t : ℕ) (c : Cell) → before_cell t c ≡ true → first_cell c ≡ true
before-first t c e = and_left (first_cell c) _ (sym (before-is t c) ∙ e)

before-later : (t u : ℕ) → t ≤ u → (c : Cell) → before_cell t c ≡ true → before_cell u c ≡ true
before-later t u le c e =
    let b = sym (before-is t c) ∙ e in
    let l = ltb-true c.turn t (and_right (first_cell c) _ b) in
    before-is u c ∙ and_both _ _ (and_left (first_cell c) _ b) (lt-ltb c.turn u (omega arith))

at_before : (t u : ℕ) → t < u → (c : Cell) → at (ready_as t) 0 c ≡ true → before_cell u c ≡ true
at_before t u lt c e =
    let b = sym (at-is t c) ∙ e in
    let q = eqb-true c.turn t (and_right (first_cell c) _ b) in
    before-is u c ∙ and_both _ _ (and_left (first_cell c) _ b) (lt-ltb c.turn u (omega arith))

-- ---- what it is

-- Of turn t is a first record, and none is before it.
module _ (cs : List Cell) (t : ℕ) (none : any (before_cell t) cs ≡ false) (there : any (at (ready_as t) 0) cs ≡ true) where
  earliest-is : (c : Cell) → Memᴰ c cs → is_earliest cs c ≡ at (ready_as t) 0 c
  unfolding is_earliest
  earliest-is c m = cases (first_cell c)
      (λ f. cases (eqb c.turn t)
      (λ e. rw (at-is t c, f, e, eqb-true c.turn t e, none))
      (λ e. rw (at-is t c, f, e, earlier f (eqb-false c.turn t e))))
      (λ f. rw (at-is t c, f))
    where
      earlier : first_cell c ≡ true → (c.turn ≡ t → ⊥) → any (before_cell c.turn) cs ≡ true
      earlier f ne =
          let a = any-true (at (ready_as t) 0) cs there in
          let l = ltb-false c.turn t (rw f at (sym (before-is t c) ∙ any_false (before_cell t) cs none c m)) in
          any-mem (before_cell c.turn) cs a.0 a.1 (at_before t c.turn (omega arith) a.0 a.2)

  pub ready-is : first_ready cs ≡ index_of (at (ready_as t) 0) cs
  unfolding first_ready
  ready-is = index_same (is_earliest cs) (at (ready_as t) 0) cs earliest-is

pub ready-none : (cs : List Cell) → any first_cell cs ≡ false → first_ready cs ≡ length cs
unfolding first_ready is_earliest
ready-none cs e = index-all-past (is_earliest cs) cs (none-less first_cell (is_earliest cs) cs (λ c q. and_left _ _ q) e)

-- ---- the scan

-- Of the records cs, number i is the first of those of turn t, and none has an earlier turn.
pub record Least (cs : List Cell) (i t : ℕ) : Type 0 where
  pub none : any (before_cell t) cs ≡ false
  pub there : any (at (ready_as t) 0) cs ≡ true
  pub is : i ≡ index_of (at (ready_as t) 0) cs

-- The scan's state: what the best so far is, if there is one.
abbrev pub Scanned : List Cell → Option (ℕ × ℕ) → Type 0
Scanned cs None = any first_cell cs ≡ false
Scanned cs (Some b) = Least cs b.0 b.1

-- Is a turn earlier than that of the best so far?
abbrev pub is_sooner : ℕ → Option (ℕ × ℕ) → Bool
is_sooner turn None = true
is_sooner turn (Some b) = ltb turn b.1

-- One record more: it is now the least, or the one found before it is. f is what the test gave of it.
module _ (cs : List Cell) (c : Cell) {f : Bool} (e : f ≡ first_cell c) where
  more : (p : Cell → Bool) {a b : Bool} → any p cs ≡ a → p c ≡ b → any p (cs ++ (c ∷ [])) ≡ (a || (b || false))
  unfolding any
  more p g h = any_append p cs (c ∷ []) ∙ rw (g, h)

  all-later : (o : Option (ℕ × ℕ)) → Scanned cs o → is_sooner c.turn o ≡ true → any (before_cell (suc c.turn)) cs ≡ false
  all-later None s h = none-less first_cell _ cs (before-first (suc c.turn)) s
  all-later (Some b) s h = let lt = ltb-true c.turn b.1 h in none-less _ _ cs (before-later (suc c.turn) b.1 (omega arith)) s.none

  module _ (o : Option (ℕ × ℕ)) (s : Scanned cs o) (h : (f && is_sooner c.turn o) ≡ true) where
    later : any (before_cell (suc c.turn)) cs ≡ false
    later = all-later o s (and_right f _ h)

    none-same : any (at (ready_as c.turn) 0) cs ≡ false
    none-same = none-less _ _ cs (at_before c.turn (suc c.turn) (omega arith)) later

    own : at (ready_as c.turn) 0 c ≡ true
    own = at-is c.turn c ∙ and_both _ _ (sym e ∙ and_left f _ h) (eq-eqb c.turn c.turn refl)

    not_own : before_cell c.turn c ≡ false
    not_own = before-is c.turn c ∙ cases (first_cell c) (λ y. rw (y, le-ltb c.turn c.turn (omega arith))) (λ y. rw y)

    pub takes : Least (cs ++ (c ∷ [])) (length cs) c.turn
    unfolding index_of
    takes = record {
      none = more (before_cell c.turn) (none-less _ _ cs (before-later c.turn (suc c.turn) (omega arith)) later) not_own;
      there = more (at (ready_as c.turn) 0) none-same own;
      is = sym (index-past (at (ready_as c.turn) 0) cs (c ∷ []) none-same ∙ rw own (omega arith));
    }

  pub passes : (o : Option (ℕ × ℕ)) → Scanned cs o → (f && is_sooner c.turn o) ≡ false → Scanned (cs ++ (c ∷ [])) o
  passes None s h = more first_cell s (sym e ∙ cases f (λ y. absurd (true≢false (rw y at h))) (λ y. y))
  passes (Some b) s h = record {
    none = more (before_cell b.1) {b = false} s.none (before-is b.1 c ∙ rw (← e) h);
    there = any_append (at (ready_as b.1) 0) cs (c ∷ []) ∙ rw s.there;
    is = s.is ∙ sym (index-within (at (ready_as b.1) 0) cs (c ∷ []) s.there);
  }

-- Before the first row, and after the last.
pub scan-starts : Scanned (cells_in []) None
unfolding cells_in any
scan-starts = refl

pub scan-ends : (rows : List Row) (o : Option (ℕ × ℕ)) (q : Option ℕ) → Scanned (cells_in rows) o
    → MatchOption o (q ≡ None) (λ x. q ≡ Some x.0) → FoundAt q (first_ready (cells_in rows)) (length rows)
scan-ends rows None q s e = rw e (ready-none (cells_in rows) s ∙ cells-length rows)
scan-ends rows (Some x) q s e =
    let z = index-there (at (ready_as x.1) 0) (cells_in rows) s.there in
    rw e (omega (arith, s.is, cells-length rows), s.is ∙ sym (ready-is (cells_in rows) x.1 s.none s.there))
