-- The passes over the numbers: their tests, and the record of a run, each with the facts as the code finds them.
-- Assumes nothing.
use mathlib.Core.Path.{◌≡◌, ◌∙◌, sym, ap, refl}
use mathlib.Core.Bool.{Bool, true, false, ◌||◌}
use mathlib.Core.List.{List, [], ◌∷◌, ◌++◌}
use mathlib.Core.Logic.{⊎_elim}
use Prim.Native.Nat.{ℕ, zero, suc, ◌+◌, ◌-◌, ◌*◌, ◌<◌, ◌≤◌}
use native.Mathlib.Nat.{add-zero, zero-add}
use native.Mathlib.Numerals.{add-one, sub-one, unary_clauses}
use native.Mathlib.Omega.{arith}
use lib.ListN.{length, get_or, length-append}
use lib.Dec.{leb, ltb}
use borrow.Author.Tests.{eqb-true, eqb-false, ltb-true, ltb-false}
use Rattle.std.proofs.lemmas.Bool.{cases_lt}
use Rattle.std.specs.List.{list_any, IsAllAdjacentAnswer, IsChunkByPrefix}
use Rattle.base.specs.Limits.{numbers24, max_list}
use Rattle.base.specs.Bytes.{le24_bytes}
use Rattle.base.specs.If.{if_true, if_le}
use Rattle.base.specs.Put.{and_then, Run}
use Rattle.base.proofs.Ifs.{lt_yes, lt_no, eq_yes, eq_no}
use Rattle.base.proofs.Puts.{run-cons, run-then}
use Rattle.base.proofs.Runs.{Left, left_less, left-none}
use Rattle.ack.specs.Records.{single, range, single_type, range_type, range_size, first_of, last_of, record_bytes, records_bytes}
use Rattle.ack.specs.Records.{record_size, records_size, grow, runs}
use Rattle.ack.specs.Write.{some_over, too_large, ascending}
use Rattle.ack.specs.Passes.{is_next, record_of, tally_of}
use Rattle.ack.proofs.Grown.{grow-joins, grow-stands}
use Rattle.ack.proofs.RunLaws.{first_run}

-- ---- a number of 2^24 or more
some_over-any : (l : List ℕ) → list_any (leb numbers24) l ≡ some_over l
unfolding some_over if_le if_true
some_over-any [] = refl
some_over-any (x ∷ l) = by (leb numbers24 x) (some_over-any l)
  where
    by : (b : Bool) → list_any (leb numbers24) l ≡ some_over l → (b || list_any (leb numbers24) l) ≡ if_true b true (some_over l)
    by true e = refl
    by false e = e

pub over_is : (l : List ℕ) → length l ≤ max_list → (b : Bool) → b ≡ list_any (leb numbers24) l → b ≡ too_large l
unfolding too_large
over_is l h b e = lt_no _ _ _ _ _ h (e ∙ some_over-any l)

-- ---- strictly ascending
pub ascending-is : (l : List ℕ) (b : Bool) → IsAllAdjacentAnswer (λ x y a. a ≡ ltb x y) l b → b ≡ ascending l
unfolding ascending
ascending-is [] true h = refl
ascending-is [] false (k, i, h) = absurd (omega arith)
ascending-is (x ∷ []) true h = refl
ascending-is (x ∷ []) false (k, i, h) = absurd (omega arith)
ascending-is (x ∷ y ∷ l) true h =
    let rest : true ≡ ascending (y ∷ l) =
    ascending-is (y ∷ l) true (λ k d i. simp unary_clauses (simp unary_clauses at (h (suc k) d (omega arith)))) in
    lt_yes _ _ _ _ _ (ltb-true x y (sym (h 0 0 (omega arith)))) rest
ascending-is (x ∷ y ∷ l) false (zero, i, h) = lt_no _ _ _ _ _ (ltb-false x y (sym (h 0))) refl
ascending-is (x ∷ y ∷ l) false (suc k, i, h) =
    let rest : false ≡ ascending (y ∷ l) =
    ascending-is (y ∷ l) false (k, omega arith, λ d. simp unary_clauses (simp unary_clauses at (h d))) in
    ⊎_elim (λ c. lt_yes _ _ _ _ _ c rest) (λ c. lt_no _ _ _ _ _ c refl) (cases_lt x y)

-- ---- the record of a run
module _ (run : List ℕ) where
  of-single : length run ≡ 1 → record_of run ≡ single (get_or run 0 0)
  of-single e = sym (eq_yes _ _ _ _ _ e refl)

  of_range : (length run ≡ 1 → ⊥) → record_of run ≡ range (get_or run 0 0) (get_or run (length run - 1) 0)
  of_range n = sym (eq_no _ _ _ _ _ n refl)

  module _ (p : ℕ) (l : List ℕ) (q : ℕ) (L : List ℕ) (r : ℕ) (M : List ℕ) where
    pub put-single : 1 ≤ length run → length run < 2 → Run p (single_type ∷ []) l q L → Run q (le24_bytes (get_or run 0 0)) L r M
        → Run p (record_bytes (record_of run)) l r M
    unfolding record_bytes
    put-single h k a b = rw (of-single (omega arith)) (run-cons p single_type (le24_bytes (get_or run 0 0)) l q L r M a b)

    pub put-range : 2 ≤ length run → (s : ℕ) (K : List ℕ) → Run p (range_type ∷ []) l s K → Run s (le24_bytes (get_or run 0 0)) K q L
        → Run q (le24_bytes (get_or run (length run - 1) 0)) L r M
        → Run p (record_bytes (record_of run)) l r M
    unfolding record_bytes
    put-range n s K a b c =
        let first = get_or run 0 0 in
        let last = get_or run (length run - 1) 0 in
        rw (of_range (omega arith)) (run-cons p range_type (and_then (le24_bytes first) (le24_bytes last)) l s K r M a
        (run-then s (le24_bytes first) (le24_bytes last) K q L r M b c))

first-of-run : (x : ℕ) (l : List ℕ) → first_of (record_of (x ∷ l)) ≡ x
unfolding first_of
first-of-run x [] = rw (of-single (x ∷ []) refl)
first-of-run x (y ∷ l) = rw (of_range (x ∷ y ∷ l) (omega arith))

last-of-run : (x : ℕ) (l : List ℕ) → last_of (record_of (x ∷ l)) ≡ get_or (x ∷ l) (length l) 0
unfolding last_of
last-of-run x [] = rw (of-single (x ∷ []) refl)
last-of-run x (y ∷ l) = rw (of_range (x ∷ y ∷ l) (omega arith), sub-one)

-- ---- the longest run at the front of a list: its record is the first of the list's
front : (run rest : List ℕ) → 0 < length run → IsChunkByPrefix is_next (run ++ rest) (length run)
    → runs (run ++ rest) ≡ record_of run ∷ runs rest
unfolding runs is_next grow
front [] rest h p = absurd (omega arith)
front (x ∷ []) [] h p = rw (of-single (x ∷ []) refl)
front (x ∷ []) (y ∷ rest) h p =
    let (r, qs, f, g) = first_run y rest in
    let n : y ≡ x + 1 → ⊥ = eqb-false _ _ (p.1 (omega arith) 0) in
    rw (of-single (x ∷ []) refl, f, grow-stands x r qs (λ e. n (omega arith)))
front (x ∷ y ∷ run) rest h p =
    let e : y ≡ x + 1 = eqb-true _ _ (p.0 0 0 (omega arith)) in
    let tail : runs ((y ∷ run) ++ rest) ≡ record_of (y ∷ run) ∷ runs rest =
    front (y ∷ run) rest (omega arith) (
      λ k d i. simp unary_clauses (simp unary_clauses at (p.0 (suc k) d (omega arith))),
      λ i d. simp unary_clauses (simp unary_clauses at (p.1 (omega arith) d)),
    ) in
    let first : first_of (record_of (y ∷ run)) ≡ suc x = first-of-run y run ∙ e ∙ add-one x in
    rw (tail, of_range (x ∷ y ∷ run) (omega arith), grow-joins x (record_of (y ∷ run)) (runs rest) first, last-of-run y run)
    (simp unary_clauses)

pub front-run : (l run rest : List ℕ) → l ≡ run ++ rest → 0 < length run → IsChunkByPrefix is_next l (length run)
    → runs l ≡ record_of run ∷ runs rest
front-run l run rest e h p = rw e (front run rest h (rw e at p))

-- ---- the runs counted, and written: what is done, and what the runs of the rest will add
pub record Counted (l rest : List ℕ) (n b : ℕ) : Type 0 where
  pub records : n + length (runs rest) ≡ length (runs l)
  pub bytes : b + records_size (runs rest) ≡ records_size (runs l)
  pub few : n + length rest ≤ length l
  pub small : b + range_size * length rest ≤ range_size * length l

pub counted_none : (l : List ℕ) → Counted l l 0 0
counted_none l = record {
  records = zero-add (length (runs l));
  bytes = zero-add (records_size (runs l));
  few = omega arith;
  small = omega arith;
}

module _ (l rest run last : List ℕ) (e : rest ≡ run ++ last) (h : 0 < length run) where
  pub counted-more : IsChunkByPrefix is_next rest (length run) → (n b s : ℕ) → s ≡ record_size (record_of run) → s ≤ range_size
      → Counted l rest n b → Counted l last (n + 1) (b + s)
  unfolding records_size
  counted-more p n b s z m c =
      let f : runs rest ≡ record_of run ∷ runs last = front-run rest run last e h p in
      let len : length rest ≡ length run + length last = ap length e ∙ length-append run last in
      let r = ap length f in
      let k = ap records_size f in
      record {
        records = omega (arith, c.records);
        bytes = omega (arith, c.bytes);
        few = omega (arith, c.few);
        small = omega (arith, c.small);
      }

pub counted-all : (l rest : List ℕ) (n b : ℕ) → length rest ≡ 0 → Counted l rest n b → record { records = n; bytes = b } ≡ tally_of (runs l)
unfolding tally_of runs records_size
counted-all l [] n b h c = rw (← c.records, ← c.bytes, add-zero n, add-zero b)
counted-all l (x ∷ rest) n b h c = absurd (omega arith)

module _ (p : ℕ) (bs out : List ℕ) (q : ℕ) (m rest : List ℕ) (a : Left p bs out q (records_bytes (runs rest)) m) where
  pub written-more : (run last : List ℕ) → rest ≡ run ++ last → 0 < length run → IsChunkByPrefix is_next rest (length run)
      → (r : ℕ) (M : List ℕ) → Run q (record_bytes (record_of run)) m r M → Left p bs out r (records_bytes (runs last)) M
  unfolding records_bytes
  written-more run last e h f r M w =
      left_less p bs out q _ _ m r M w (rw (front-run rest run last e h f) at a)

  pub written_all : length rest ≡ 0 → Run p bs out q m
  unfolding runs records_bytes
  written_all h = left-none p bs out q _ m (none rest h) a
    where
      none : (l : List ℕ) → length l ≡ 0 → records_bytes (runs l) ≡ []
      none [] h = refl
      none (x ∷ l) h = absurd (omega arith)
