-- A survey: one more row, and the end.
-- Assumes nothing.
use Prim.Native.Nat.{ℕ, min, max, ◌+◌, ◌-◌, ◌%◌, ◌<◌, ◌≤◌}
use mathlib.Core.Path.{◌≡◌, refl, sym, ap, ◌∙◌}
use mathlib.Core.Bool.{Bool, true, false, cond, not, ◌&&◌}
use mathlib.Core.List.{List, [], ◌∷◌, ◌++◌}
use native.Mathlib.Nat.{mod-lt}
use native.Mathlib.Omega.{arith}
use lib.Dec.{leb, eqb}
use lib.ListN.{length, take, get_or, set, length-set}
use lib.Seq.{get_or-set_same, get_or-set_other, take_all}
use borrow.Author.Tests.{lt-ltb, le-ltb, leb-true, le-leb, eqb-true, eqb-false, eq-eqb, ne_eqb, not-true}
use Rattle.std.specs.Prelude.{Option, MatchOption}
use Rattle.std.specs.Bool.{then_some}
use Rattle.base.specs.Lists.{every, count_of}
use Rattle.base.proofs.Choices.{cases, neither, and_left, and_right, and_both, or-implied}
use Rattle.base.proofs.Counts.{count-length}
use Rattle.base.proofs.Lists.{every-mem, every-all}
use Rattle.cells.specs.Cell.{Cell}
use Rattle.cells.specs.Records.{first_cell}
use Rattle.rows.specs.declared.Row.{Row}
use Rattle.rows.specs.Rows.{cell_of, cells_in}
use Rattle.rows.proofs.ListMaps.{count-append, every_append}
use Rattle.rows.proofs.Rows.{cells-more, below-length}
use Rattle.row_tests.specs.Uses.{uses}
use Rattle.row_ranks.specs.declared.Turns.{Turns}
use Rattle.row_ranks.specs.Renumber.{with_turn, mark_at, is_new, marked_with, gapless, excess, first_of_turn, between}
use Rattle.row_ranks.specs.Renumber.{ageless, Surveyed}

-- The cells passed, and the marks of their first ones: where a mark is not set, no first cell of such a turn was there.
pub record Marked (n : ℕ) (cs : List Cell) (marks : List Bool) (t : Turns) : Type 0 where
  pub long : length marks ≡ n
  pub told : Surveyed cs t
  pub clear : (v : ℕ) → get_or marks (v % n) false ≡ false → count_of (first_of_turn v) cs ≡ 0

module _ (n : ℕ) (cs : List Cell) (marks : List Bool) (t : Turns) (h : Marked n cs marks t) (c : Cell) where
  more : (p : Cell → Bool) → count_of p (cs ++ (c ∷ [])) ≡ count_of p cs + cond (p c) 1 0
  unfolding count_of
  more p = count-append p cs (c ∷ [])

  module _ (u : uses 3 c ≡ false) where
    not_first : first_cell c ≡ false
    unfolding first_cell
    not_first = rw u

    not_at : (v : ℕ) → first_of_turn v c ≡ false
    unfolding first_of_turn
    not_at v = rw not_first

    pub other-cell : Marked n (cs ++ (c ∷ [])) marks t
    unfolding between ageless every
    other-cell = record {
      long = h.long;
      told = record {
        count = h.told.count ∙ (let e = more first_cell in omega (arith, rw not_first at e));
        once = λ v. let e = more (first_of_turn v) in omega (arith, rw (not_at v) at e, h.told.once v);
        within = every_append (between t.least t.top) cs (c ∷ []) ∙ rw (h.told.within, u);
        ages = every_append ageless cs (c ∷ []) ∙ rw (h.told.ages, u);
      };
      clear = λ v z. let e = more (first_of_turn v) in omega (arith, rw (not_at v) at e, h.clear v z);
    }

  module _ (u : uses 3 c ≡ true) (new : is_new marks c ≡ true) (young : eqb c.age 0 ≡ true) (room : 0 < n) where
    first-is : first_cell c ≡ eqb c.index 0
    unfolding first_cell
    first-is = rw u

    at-is : (v : ℕ) → first_of_turn v c ≡ (eqb c.index 0 && eqb c.turn v)
    unfolding first_of_turn
    at-is v = rw first-is

    count-more : (with_turn t c).firsts ≡ count_of first_cell (cs ++ (c ∷ []))
    unfolding with_turn
    count-more = ap (λ (k : ℕ). k + cond (eqb c.index 0) 1 0) h.told.count ∙ sym (rw first-is at (more first_cell))

    clear-mark : eqb c.index 0 ≡ true → get_or marks (c.turn % n) false ≡ false
    unfolding is_new mark_at
    clear-mark y = not-true _ (rw (y, h.long) at new)

    set-mark : eqb c.index 0 ≡ true → get_or (marked_with marks c) (c.turn % n) false ≡ true
    unfolding marked_with mark_at
    set-mark y = rw (y, h.long) (get_or-set_same marks (c.turn % n) true false (rw h.long (mod-lt c.turn room)))

    kept-mark : (g : ℕ) → get_or (marked_with marks c) g false ≡ false → get_or marks g false ≡ false
    kept-mark g z = cases (eqb c.index 0)
        (λ y. cases (eqb g (c.turn % n))
        (λ q. let e : g ≡ c.turn % n = eqb-true _ _ q in neither _ (set-mark y) (rw e at z))
        (λ q. (unfold marked_with mark_at in rw (y, h.long, get_or-set_other marks (c.turn % n) g true false (eqb-false _ _ q)) at z)))
        (λ y. (unfold marked_with in rw y at z))

    first-here : (v : ℕ) → first_of_turn v c ≡ true → (eqb c.index 0 ≡ true) × (c.turn ≡ v)
    first-here v y = let e = sym (at-is v) ∙ y in (and_left (eqb c.index 0) _ e, eqb-true _ _ (and_right (eqb c.index 0) _ e))

    once_more : (v : ℕ) → count_of (first_of_turn v) (cs ++ (c ∷ [])) ≤ 1
    once_more v = cases (first_of_turn v c)
        (λ y. let f = first-here v y in
        let e = rw y at (more (first_of_turn v)) in
        let none = h.clear v (rw f.1 at (clear-mark f.0)) in
        omega arith)
        (λ y. let e = rw y at (more (first_of_turn v)) in omega (arith, h.told.once v))

    clear-more : (v : ℕ) → get_or (marked_with marks c) (v % n) false ≡ false → count_of (first_of_turn v) (cs ++ (c ∷ [])) ≡ 0
    clear-more v z = cases (first_of_turn v c)
        (λ y. let f = first-here v y in
        let e : get_or (marked_with marks c) (v % n) false ≡ true =
        ap {B = Bool} (λ (k : ℕ). get_or (marked_with marks c) (k % n) false) (sym f.1) ∙ set-mark f.0 in
        neither _ e z)
        (λ y. let e = rw y at (more (first_of_turn v)) in omega (arith, h.clear v (kept-mark (v % n) z)))

    long-more : length (marked_with marks c) ≡ n
    unfolding marked_with
    long-more = cases (eqb c.index 0)
        (λ y. rw y (length-set marks (mark_at marks c) true ∙ h.long))
        (λ y. rw y h.long)

    wider : (d : Cell) → between t.least t.top d ≡ true → between (with_turn t c).least (with_turn t c).top d ≡ true
    unfolding between with_turn
    wider d e = cases (uses 3 d)
        (λ y. let f = or-implied (uses 3 d) _ e y in
        let a : t.least ≤ d.turn = leb-true _ _ (and_left (leb t.least d.turn) _ f) in
        let b : d.turn ≤ t.top = leb-true _ _ (and_right (leb t.least d.turn) _ f) in
        let a' : min t.least c.turn ≤ d.turn = omega arith in
        let b' : d.turn ≤ max t.top c.turn = omega arith in
        rw (y, le-leb _ _ a', le-leb _ _ b'))
        (λ y. rw y)

    own-between : between (with_turn t c).least (with_turn t c).top c ≡ true
    unfolding between with_turn
    own-between =
        let a : min t.least c.turn ≤ c.turn = omega arith in
        let b : c.turn ≤ max t.top c.turn = omega arith in
        rw (u, le-leb _ _ a, le-leb _ _ b)

    within_more : every (between (with_turn t c).least (with_turn t c).top) (cs ++ (c ∷ [])) ≡ true
    unfolding every
    within_more =
        every_append (between (with_turn t c).least (with_turn t c).top) cs (c ∷ [])
        ∙ and_both _ _ (every-all (between (with_turn t c).least (with_turn t c).top) cs
        (λ d m. wider d (every-mem (between t.least t.top) cs h.told.within d m))) (rw own-between)

    ages-more : every ageless (cs ++ (c ∷ [])) ≡ true
    unfolding every ageless
    ages-more = every_append ageless cs (c ∷ []) ∙ rw (h.told.ages, u, young)

    pub ready-cell : Marked n (cs ++ (c ∷ [])) (marked_with marks c) (with_turn t c)
    ready-cell = record {
      long = long-more;
      told = record { count = count-more; once = once_more; within = within_more; ages = ages-more };
      clear = clear-more;
    }

-- The rows passed.
pub survey-starts : (marks : List Bool) (t : Turns) → t.firsts ≡ 0 → Marked (length marks) (cells_in []) marks t
unfolding cells_in count_of every
survey-starts marks t e = record {
  long = refl;
  told = record { count = e; once = λ v. omega arith; within = refl; ages = refl };
  clear = λ v z. refl;
}

module _ (rows : List Row) {n i : ℕ} {marks : List Bool} {t : Turns} (h : Marked n (cells_in (take i rows)) marks t) where
  pub few-firsts : i ≤ length rows → t.firsts ≤ i
  few-firsts l = omega (arith, h.told.count, count-length first_cell (cells_in (take i rows)), below-length rows i l)

  -- x stands for row i where there is none.
  module _ (x : Row) (inside : i < length rows) {b : Bool} (e : b ≡ uses 3 (cell_of (get_or rows i x))) where
    pub survey-other : b ≡ false → Marked n (cells_in (take (i + 1) rows)) marks t
    survey-other y = rw (cells-more rows i x inside)
        (other-cell n (cells_in (take i rows)) marks t h (cell_of (get_or rows i x)) (sym e ∙ y))

    pub survey-ready : {v : Bool} {new : List Bool} {s : Turns} → 0 < n → b ≡ true → v ≡ is_new marks (cell_of (get_or rows i x))
        → (v && eqb (cell_of (get_or rows i x)).age 0) ≡ true → new ≡ marked_with marks (cell_of (get_or rows i x))
        → s ≡ with_turn t (cell_of (get_or rows i x))
        → Marked n (cells_in (take (i + 1) rows)) new s
    survey-ready l y f z g k = rw (cells-more rows i x inside, g, k)
        (ready-cell n (cells_in (take i rows)) marks t h (cell_of (get_or rows i x)) (sym e ∙ y)
        (sym f ∙ and_left _ _ z) (and_right _ _ z) l)

  pub survey-ends : length rows ≤ i → Surveyed (cells_in rows) t
  survey-ends l = rw (take_all i rows l) at h.told

-- The code's ways of its tests.
module _ (t : Turns) where
  pub gapless_none : t.top < t.least → gapless t ≡ true
  unfolding gapless
  gapless_none l = rw (lt-ltb t.top t.least l)

  pub excess_none : t.top < t.least → excess t ≡ 0
  unfolding excess
  excess_none l = rw (lt-ltb t.top t.least l)

  module _ (l : t.least ≤ t.top) where
    pub gapless_no : t.firsts ≡ 0 → gapless t ≡ false
    unfolding gapless
    gapless_no e = rw (le-ltb t.top t.least l, e)

    pub gapless_is : (t.firsts ≡ 0 → ⊥) → {o : Option ℕ} → o ≡ then_some (eqb (t.top - t.least) (t.firsts - 1)) t.least
        → MatchOption o (gapless t ≡ false) (λ by. (gapless t ≡ true) × (by ≡ excess t))
    unfolding gapless excess
    gapless_is ne {o} q = rw q (full (eqb (t.top - t.least) (t.firsts - 1)) refl)
      where
        is : {v : Bool} → eqb (t.top - t.least) (t.firsts - 1) ≡ v → gapless t ≡ v
        is e = rw (le-ltb t.top t.least l, lt-ltb 0 t.firsts (omega arith)) e

        full : (b : Bool) → eqb (t.top - t.least) (t.firsts - 1) ≡ b
            → MatchOption (then_some b t.least) (gapless t ≡ false) (λ by. (gapless t ≡ true) × (by ≡ excess t))
        full true e = (is e, rw (le-ltb t.top t.least l))
        full false e = is e

pub ruleset gaps = (gapless_none, excess_none, gapless_no, gapless_is)

module _ (marks : List Bool) (c : Cell) where
  pub new_first : c.index ≡ 0 → is_new marks c ≡ not (get_or marks (c.turn % length marks) false)
  unfolding is_new mark_at
  new_first e = rw (eq-eqb c.index 0 e)

  pub new_later : (c.index ≡ 0 → ⊥) → is_new marks c ≡ true
  unfolding is_new
  new_later ne = rw (ne_eqb c.index 0 ne)

  pub marked_first : c.index ≡ 0 → marked_with marks c ≡ set marks (c.turn % length marks) true
  unfolding marked_with mark_at
  marked_first e = rw (eq-eqb c.index 0 e)

  pub marked_later : (c.index ≡ 0 → ⊥) → marked_with marks c ≡ marks
  unfolding marked_with
  marked_later ne = rw (ne_eqb c.index 0 ne)

pub ruleset marking = (new_first, new_later, marked_first, marked_later)
