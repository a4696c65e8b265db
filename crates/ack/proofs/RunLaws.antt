-- The laws of `runs`: what the records of a list are, whatever the list.
-- Assumes nothing.
use mathlib.Core.Path.{◌≡◌, ◌∙◌, sym, ap, refl}
use mathlib.Core.Bool.{true, false}
use mathlib.Core.List.{List, [], ◌∷◌, ◌++◌}
use mathlib.Core.Logic.{⊎_elim}
use Prim.Native.Nat.{ℕ, zero, suc, ◌+◌, ◌-◌, ◌<◌, ◌≤◌}
use native.Mathlib.Nat.{le_refl}
use native.Mathlib.Omega.{arith}
use Rattle.ack.specs.declared.Record.{Record}
use Rattle.ack.specs.declared.Record.TheVariants.{Single, Range}
use Rattle.ack.specs.Records.{single, range, first_of, last_of, count_up, named, numbers_of, grow, runs, ProperRecord, AllProper, Beyond}
use Rattle.ack.specs.Records.{Apart}
use Rattle.ack.specs.Write.{ascending}
use Rattle.base.proofs.IfCases.{lt-cases}
use Rattle.ack.proofs.Grown.{grow-joins, grow-stands, Grown, alone, joins, stands, grown}

-- a proper record's first number is at most its last
pub proper-le : (r : Record) → ProperRecord r → first_of r ≤ last_of r
unfolding ProperRecord first_of last_of
proper-le (Single r) p = le_refl r.sequence
proper-le (Range r) p = omega arith

grown-proper : {x : ℕ} {rs gs : List Record} → Grown x rs gs → AllProper rs → AllProper gs
unfolding AllProper ProperRecord
grown-proper alone p = (tt, tt)
grown-proper (joins r rs e) p = (let le = proper-le r p.0 in omega arith, p.1)
grown-proper (stands r rs n) p = (tt, p)

-- every record is a Single, or a Range whose first number is below its last
pub runs-proper : (l : List ℕ) → AllProper (runs l)
unfolding runs AllProper
runs-proper [] = tt
runs-proper (x ∷ l) = grown-proper (grown x (runs l)) (runs-proper l)

named-single : (x : ℕ) → named (single x) ≡ x ∷ []
unfolding named first_of last_of count_up
named-single x = let e : suc x - x ≡ 1 = omega arith in rw e

named-joins : (x : ℕ) (r : Record) → first_of r ≡ suc x → first_of r ≤ last_of r → named (range x (last_of r)) ≡ x ∷ named r
unfolding named first_of last_of count_up
named-joins x r e h = let d : suc (last_of r) - x ≡ suc (suc (last_of r) - suc x) = omega arith in rw (e, d)

grown-names : {x : ℕ} {rs gs : List Record} → Grown x rs gs → AllProper rs → numbers_of gs ≡ x ∷ numbers_of rs
unfolding numbers_of AllProper
grown-names {x} alone p = rw (named-single x)
grown-names {x} (joins r rs e) p = rw (named-joins x r e (proper-le r p.0))
grown-names {x} (stands r rs n) p = rw (named-single x)

-- the records name the list's numbers, in its order
pub runs-name : (l : List ℕ) → numbers_of (runs l) ≡ l
unfolding runs numbers_of
runs-name [] = refl
runs-name (x ∷ l) = grown-names (grown x (runs l)) (runs-proper l) ∙ ap (λ (m : List ℕ). x ∷ m) (runs-name l)

grown-first : {x : ℕ} {rs gs : List Record} → Grown x rs gs → (r : Record) × (qs : List Record) × (gs ≡ r ∷ qs) × (first_of r ≡ x)
unfolding first_of
grown-first {x} alone = (single x, [], refl, refl)
grown-first {x} (joins r rs e) = (range x (last_of r), rs, refl, refl)
grown-first {x} (stands r rs n) = (single x, r ∷ rs, refl, refl)

-- the first record of a list begins at the list's first number
pub first_run : (x : ℕ) (l : List ℕ) → (r : Record) × (qs : List Record) × (runs (x ∷ l) ≡ r ∷ qs) × (first_of r ≡ x)
unfolding runs
first_run x l = grown-first (grown x (runs l))

ascending-cons : (x y : ℕ) (l : List ℕ) → ascending (x ∷ y ∷ l) ≡ true → (x < y) × (ascending (y ∷ l) ≡ true)
unfolding ascending
ascending-cons x y l a = ⊎_elim (λ c. (c.0, sym c.1 ∙ a)) (λ c. absurd (let z : ◌≡◌ {A = ℕ} 0 1 = cc in omega arith))
    (lt-cases x y (ascending (y ∷ l)) false)

above : ℕ → List Record → Type 0
above x [] = Unit
above x (r ∷ rs) = x < first_of r

grown-apart : {x : ℕ} {rs gs : List Record} → Grown x rs gs → above x rs → Apart rs → Apart gs
unfolding above Apart Beyond last_of
grown-apart alone h p = (tt, tt)
grown-apart (joins r rs e) h p = p
grown-apart {x} (stands r rs n) h p = (omega arith, p)

runs-above : (x y : ℕ) (l : List ℕ) → x < y → above x (runs (y ∷ l))
unfolding above
runs-above x y l h = let (r, qs, e, f) = first_run y l in rw e (omega arith)

-- of a strictly ascending list, no record's last number is one below the next one's first, and they ascend
pub runs-apart : (l : List ℕ) → ascending l ≡ true → Apart (runs l)
unfolding runs Apart above
runs-apart [] a = tt
runs-apart (x ∷ []) a = grown-apart (grown x []) tt tt
runs-apart (x ∷ y ∷ l) a =
    let (h, b) = ascending-cons x y l a in
    grown-apart (grown x (runs (y ∷ l))) (runs-above x y l h) (runs-apart (y ∷ l) b)

grow-beyond : (x : ℕ) (rs : List Record) → Beyond x rs → grow x rs ≡ single x ∷ rs
unfolding grow Beyond
grow-beyond x [] b = refl
grow-beyond x (r ∷ rs) b = grow-stands x r rs (omega arith)

runs-count : (k x last : ℕ) (m : List ℕ) → last ≡ x + suc k → Beyond last (runs m) → runs (count_up x (suc (suc k)) ++ m) ≡ range x last
    ∷ runs m
unfolding runs count_up first_of last_of
runs-count zero x last m e b =
    let f : suc x ≡ last = omega arith in
    rw (f, grow-beyond last (runs m) b) (grow-joins x (single last) (runs m) (sym f))
runs-count (suc k) x last m e b =
    rw (runs-count k (suc x) last m (omega arith) b) (grow-joins x (range (suc x) last) (runs m) refl)

runs-named : (r : Record) (m : List ℕ) → ProperRecord r → Beyond (last_of r) (runs m) → runs (named r ++ m) ≡ r ∷ runs m
unfolding runs named ProperRecord first_of last_of
runs-named (Single r) m p b = rw (named-single r.sequence) (grow-beyond r.sequence (runs m) b)
runs-named (Range r) m p b =
    let n : suc r.end - r.start ≡ suc (suc (r.end - suc r.start)) = omega arith in
    rw n (runs-count (r.end - suc r.start) r.start r.end m (omega arith) b)

-- and no other records are such runs: those that are, and name a list's numbers, are the list's
pub runs-only : (rs : List Record) → AllProper rs → Apart rs → runs (numbers_of rs) ≡ rs
unfolding runs numbers_of AllProper Apart
runs-only [] p a = refl
runs-only (r ∷ rs) p a =
    let e : runs (numbers_of rs) ≡ rs = runs-only rs p.1 a.1 in
    rw (runs-named r (numbers_of rs) p.0 (rw e a.0), e)
