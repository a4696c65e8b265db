-- The copying of bodies and the settling of rows, row by row.
-- Assumes nothing.
use Prim.Native.Nat.{ℕ, zero, suc, ◌+◌, ◌*◌, ◌-◌, ◌≤◌, ◌<◌}
use mathlib.Core.Path.{◌≡◌, refl, sym, ◌∙◌, ap}
use mathlib.Core.Bool.{true, false}
use mathlib.Core.List.{List, [], ◌++◌, map, append-nil}
use native.Mathlib.Omega.{arith}
use native.Mathlib.Decide.{dec_le}
use lib.Dec.{eqb}
use lib.ListN.{length, take, drop, get_or, set, length-map, length-drop}
use lib.Seq.{drop-cons, length-take-le}
use Rattle.std.specs.Prelude.{min}
use Rattle.std.proofs.lemmas.List.{get_or_at, get_or_default, take_all, drop_all}
use Rattle.std.proofs.lemmas.List.Edits.{map_over_more}
use borrow.Author.Tests.{eqb-true, eqb-false, eq-eqb, ne_eqb}
use Rattle.base.specs.Limits.{cell_bytes}
use Rattle.base.specs.Put.{put}
use Rattle.base.proofs.Choices.{cases}
use Rattle.base.proofs.Puts.{put-past}
use Rattle.cells.specs.Store.{cell_size}
use Rattle.rows.specs.declared.Row.{Row}
use Rattle.rows.specs.Rows.{blank_row, change_row}
use Rattle.row_slots.specs.Slots.{is_placed, flushed, flushed_to, AllFit}
use Rattle.row_slots.proofs.Copying.{flush-begins, flush-puts, flush-unused, flush-stored}
use Rattle.row_slots.proofs.Fitting.{placed-is}
use Rattle.row_bodies.specs.Flush.{flushed_row, flushed_rows, stored, settled, settled_rows}

-- ---- a row afterwards
module _ (r : Row) where
  pub settled_late : {q : Row} → r.cell.used ≡ 4 → q ≡ blank_row → q ≡ settled r
  unfolding settled stored change_row blank_row
  settled_late t e = e ∙ (let u = eq-eqb r.cell.used 4 t in rw u)

  pub settled_kept : {q : Row} → (r.cell.used ≡ 4 → ⊥) → q ≡ stored r → q ≡ settled r
  unfolding settled change_row
  settled_kept t e = e ∙ (let u = ne_eqb r.cell.used 4 t in rw u)

-- ---- one row
pub row_kept : (i : ℕ) (r : Row) (st d : List ℕ) → is_placed r ≡ false → st ≡ flushed_row i r st d
unfolding flushed_row
row_kept i r st d t = rw t

-- what the code asks before it copies
pub placed_there : (r : Row) → is_placed r ≡ true → 1 ≤ r.place
placed_there r t = let p : (r.place ≡ 0 → ⊥) = eqb-false r.place 0 (placed-is r t).1 in omega arith

-- the bytes from a on, at most len, as the code takes them
bytes-taken : (d : List ℕ) (a len f e : ℕ) → f ≡ min (length d) a → e ≡ min (length d) (f + len) → take (e - f) (drop f d)
    ≡ take len (drop a d)
bytes-taken d a len f e p q = go (dec_le a (length d))
  where
    go : Dec (a ≤ length d) → take (e - f) (drop f d) ≡ take len (drop a d)
    go (yes le) = let u : f ≡ a = omega arith in rw u (inside (dec_le (a + len) (length d)))
      where
        inside : Dec (a + len ≤ length d) → take (e - a) (drop a d) ≡ take len (drop a d)
        inside (yes i) = let v : e - a ≡ len = omega arith in rw v refl
        inside (no i) = let n = length-drop a d in take_all (e - a) (drop a d) (omega arith) ∙ sym (take_all len (drop a d) (omega arith))
    go (no gt) = let v : e - f ≡ 0 = omega arith in rw (v, drop_all a d (omega arith)) (take-nil len)
      where
        take-nil : (n : ℕ) → take 0 (drop f d) ≡ take n []
        take-nil n = sym (take_all n [] (omega arith))

pub row_copied : (i : ℕ) (r : Row) (st d : List ℕ) {st' : List ℕ} → is_placed r ≡ true → (at from end : ℕ)
    → (length st ≤ at → length st ≤ i * cell_bytes)
    → (at < length st → at ≡ i * cell_bytes) → from ≡ min (length d) (r.place - 1) → end ≡ min (length d) (from + r.cell.length)
    → st' ≡ put st at (take (end - from) (drop from d)) → st' ≡ flushed_row i r st d
unfolding flushed_row cell_size
row_copied i r st d t at from end past here f e is = is ∙ (rw (t, bytes-taken d (r.place - 1) r.cell.length from end f e)
    (go (dec_le (length st) at)))
  where
    body : List ℕ
    body = take r.cell.length (drop (r.place - 1) d)

    go : Dec (length st ≤ at) → put st at body ≡ put st (i * cell_bytes) body
    go (yes le) = put-past st at body le ∙ sym (put-past st (i * cell_bytes) body (past le))
    go (no gt) = rw (here (omega arith)) refl

-- ---- all rows
flush-next : (d : List ℕ) (x : Row) (i : ℕ) (rs : List Row) (st : List ℕ) → AllFit d rs → length rs * cell_size ≤ length st → i < length rs
    → flushed_to (suc i) rs st d ≡ flushed_row i (get_or rs i x) (flushed_to i rs st d) d
unfolding flushed_row is_placed
flush-next d x i rs st v le lt = cases (eqb (get_or rs i x).cell.used 0)
    (λ t. flush-unused d x i rs st lt (eqb-true (get_or rs i x).cell.used 0 t) ∙ rw t)
    (λ t. cases (eqb (get_or rs i x).place 0)
    (λ u. flush-stored d x i rs st lt (eqb-true (get_or rs i x).place 0 u) ∙ rw (t, u))
    (λ u. flush-puts d x i rs st v le lt (eqb-false (get_or rs i x).cell.used 0 t) (eqb-false (get_or rs i x).place 0 u) ∙ rw (t, u)))

-- Where all bodies fit, the store is the one after acceptance.
module _ (d : List ℕ) (rs : List Row) (st : List ℕ) (v : AllFit d rs) (le : length rs * cell_size ≤ length st) where
  flushed-from : (k i : ℕ) → k + i ≡ length rs → flushed_rows i (drop i rs) (flushed_to i rs st d) d ≡ flushed rs st d
  unfolding flushed_rows flushed_to
  flushed-from zero i e = ap (λ (l : List Row). flushed_rows i l (flushed_to i rs st d) d) (drop_all i rs (omega arith))
      ∙ ap (λ (l : List Row). flushed l st d) (take_all i rs (omega arith))
  flushed-from (suc k) i e =
      let lt : i < length rs = omega arith in
      ap (λ (l : List Row). flushed_rows i l (flushed_to i rs st d) d) (drop-cons rs i blank_row lt)
      ∙ (ap (λ (x : List ℕ). flushed_rows (suc i) (drop (suc i) rs) x d) (sym (flush-next d blank_row i rs st v le lt))
      ∙ flushed-from k (suc i) (omega arith))

  pub all-flushed : flushed_rows 0 rs st d ≡ flushed rs st d
  all-flushed = ap (λ (x : List ℕ). flushed_rows 0 rs x d) (sym (flush-begins rs st d)) ∙ flushed-from (length rs) 0 (omega arith)

-- The rows below i are made by f; the others are as they were. (x stands for row i where there is none.)
module _ (f : Row → Row) (old now : List Row) (i : ℕ) (lt : i < length old) (e : now ≡ map f (take i old) ++ drop i old) where
  as_it_was : (x : Row) → get_or now i x ≡ get_or old i x
  as_it_was x = rw (e, drop-cons old i x lt) (get_or_at (map f (take i old)) (get_or old i x) (drop (suc i) old) x i
      (length-map (take i old) f ∙ length-take-le i old (omega arith)))

  row-more : (x : Row) {q : Row} → q ≡ f (get_or now i x) → set now i q ≡ map f (take (i + 1) old) ++ drop (i + 1) old
  row-more x eq = ap (set now i) eq ∙ map_over_more f old now i (get_or now i x) lt e
      (as_it_was x ∙ get_or_default old i x (get_or now i x) lt ∙ sym (as_it_was (get_or now i x)))

-- The bodies of the first i rows were copied, and these rows settled.
pub record Settling (rs₀ : List Row) (st₀ d : List ℕ) (rs : List Row) (st : List ℕ) (i : ℕ) : Type 0 where
  pub rows : rs ≡ map settled (take i rs₀) ++ drop i rs₀
  pub bodies : flushed_rows i (drop i rs₀) st d ≡ flushed_rows 0 rs₀ st₀ d

module _ (rs₀ : List Row) (st₀ d : List ℕ) where
  pub settling-begins : Settling rs₀ st₀ d rs₀ st₀ 0
  settling-begins = record { rows = refl; bodies = refl }

  module _ (rs : List Row) (st : List ℕ) (i : ℕ) (s : Settling rs₀ st₀ d rs st i) where
    pub settling-goes : i < length rs₀ → (x q : Row) (st' : List ℕ) → q ≡ settled (get_or rs i x) → st' ≡ flushed_row i (get_or rs i x) st d
        → Settling rs₀ st₀ d (set rs i q) st' (i + 1)
    unfolding flushed_rows
    settling-goes lt x q st' eq e = record {
      rows = row-more settled rs₀ rs i lt s.rows x eq;
      bodies =
          let n : i + 1 ≡ suc i = omega arith in
          rw (e, as_it_was settled rs₀ rs i lt s.rows x, n) (ap (λ (l : List Row). flushed_rows i l st d) (sym (drop-cons rs₀ i x lt))
          ∙ s.bodies);
    }

    pub settling-ends : length rs₀ ≤ i → (rs ≡ settled_rows rs₀) × (st ≡ flushed_rows 0 rs₀ st₀ d)
    unfolding settled_rows flushed_rows
    settling-ends ge = (
      s.rows ∙ (rw (take_all i rs₀ ge, drop_all i rs₀ ge) (append-nil (map settled rs₀))),
      ap (λ (l : List Row). flushed_rows i l st d) (sym (drop_all i rs₀ ge)) ∙ s.bodies,
    )
