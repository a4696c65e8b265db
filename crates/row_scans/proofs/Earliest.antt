-- The earliest first record, as `min_by_key` tells it of the numbered rows that pass.
-- Assumes nothing.
use Prim.Native.Nat.{ℕ, ◌+◌, ◌<◌}
use mathlib.Core.Path.{◌≡◌, refl, sym, ap, ◌∙◌, subst}
use mathlib.Core.Bool.{Bool, true, false, cond}
use mathlib.Core.List.{List, [], ◌∷◌, ◌++◌, append-nil, map}
use native.Mathlib.Omega.{arith}
use denote.Ref.{Bor}
use denote.Param.Members.{Mut}
use lib.Dec.{ltb}
use lib.ListN.{length, length-append}
use lib.Seq.{append_snoc}
use borrow.Author.Tests.{lt-ltb, le-ltb}
use Rattle.std.specs.Prelude.{Option, Some, None, MatchOption}
use Rattle.std.specs.Fn.{CalledAt}
use Rattle.std.specs.List.{filter, enumerate_from, FoldsTo}
use Rattle.std.specs.declared.cmp.Ordering.{Ordering}
use Rattle.std.specs.declared.cmp.Ordering.TheVariants.{Less, Equal, Greater}
use Rattle.std.specs.Ordering.{nat_cmp, min_by_ordering}
use Rattle.std.specs.Iterator.{PicksMinByKey, KeyTurn}
use Rattle.std.proofs.iter.Yields.{gives_Drains}
use Rattle.std.proofs.lemmas.Cmp.{ranked}
use Rattle.std.proofs.lemmas.Iterator.{YieldsList}
use Rattle.cells.specs.Cell.{Cell}
use Rattle.cells.specs.Records.{first_cell}
use Rattle.rows.specs.declared.Row.{Row}
use Rattle.rows.specs.Rows.{cell_of, cells_in}
use Rattle.row_scans.specs.Ready.{first_ready, FoundAt}
use Rattle.row_scans.proofs.Ready.{Scanned, is_sooner, takes, passes, scan-starts, scan-ends}

-- ---- the numbered rows that pass, one after the other

-- The best of the numbered rows, after o: its number and its turn.
picked : Option (ℕ × ℕ) → List (ℕ × Row) → Option (ℕ × ℕ)
picked o [] = o
picked o (p ∷ ps) = picked (cond (is_sooner p.1.cell.turn o) (Some (p.0, p.1.cell.turn)) o) ps

abbrev numbered : ℕ → List Row → List (ℕ × Row)
numbered i rows = filter (λ (p : ℕ × Row). first_cell p.1.cell) (enumerate_from i rows)

-- One row more, and those after it.
module _ (r : Row) (rows : List Row) (cs : List Cell) (o : Option (ℕ × ℕ)) (i : ℕ) (e : i ≡ length cs) (s : Scanned cs o)
    (on : (q : Option (ℕ × ℕ)) → Scanned (cs ++ (r.cell ∷ [])) q
    → Scanned (cs ++ (r.cell ∷ []) ++ map cell_of rows) (picked q (numbered (i + 1) rows))) where
  next : (q : Option (ℕ × ℕ)) → Scanned (cs ++ (r.cell ∷ [])) q
      → Scanned (cs ++ (r.cell ∷ map cell_of rows)) (picked q (numbered (i + 1) rows))
  next q t = subst (λ (l : List Cell). Scanned l (picked q (numbered (i + 1) rows))) (append_snoc cs r.cell (map cell_of rows)) (on q t)

  chosen : true ≡ first_cell r.cell → (b : Bool) → is_sooner r.cell.turn o ≡ b
      → Scanned (cs ++ (r.cell ∷ map cell_of rows)) (picked (cond b (Some (i, r.cell.turn)) o) (numbered (i + 1) rows))
  chosen y true z = next (Some (i, r.cell.turn)) (rw e (takes cs r.cell y o s z))
  chosen y false z = next o (passes cs r.cell y o s z)

  go : (f : Bool) → f ≡ first_cell r.cell → Scanned (cs ++ (r.cell ∷ map cell_of rows))
      (picked o (cond f ((i, r) ∷ numbered (i + 1) rows) (numbered (i + 1) rows)))
  unfolding picked
  go true y = chosen y (is_sooner r.cell.turn o) refl
  go false y = next o (passes cs r.cell y o s refl)

scan-all : (rows : List Row) (cs : List Cell) (o : Option (ℕ × ℕ)) (i : ℕ) → i ≡ length cs → Scanned cs o
    → Scanned (cs ++ map cell_of rows) (picked o (numbered i rows))
unfolding picked
scan-all [] cs o i e s = rw (append-nil cs) s
scan-all (r ∷ rows) cs o i e s = go r rows cs o i e s
    (λ q t. scan-all rows (cs ++ (r.cell ∷ [])) q (i + 1) (omega (arith, e, length-append cs (r.cell ∷ []))) t)
    (first_cell r.cell) refl

-- ---- what `min_by_key` does with them

abbrev Item : Type 0
Item = ℕ × Bor Row

abbrev seen : Item → ℕ × Row
seen x = (x.0, x.1.now)

-- The best so far and its key a, against an item x with its key k.
module _ (best x : Item) (a k : ℕ) (b : a ≡ best.1.now.cell.turn) (m : k ≡ x.1.now.cell.turn) where
  kept : (o : Ordering) → nat_cmp a k ≡ o → (min_by_ordering o a k ≡ (min_by_ordering o best x).1.now.cell.turn)
      × ◌≡◌ {A = Option (ℕ × ℕ)} (Some ((min_by_ordering o best x).0, min_by_ordering o a k))
      (cond (ltb x.1.now.cell.turn a) (Some (x.0, x.1.now.cell.turn)) (Some (best.0, a)))
  kept Less e = let h : a < k = ranked a k Less (sym e) in
      (b, rw (sym m, le-ltb k a (omega arith)) refl)
  kept Equal e = let h : a ≡ k = ranked a k Equal (sym e) in
      (b, rw (sym m, le-ltb k a (omega arith)) refl)
  kept Greater e = let h : k < a = ranked a k Greater (sym e) in
      (m, rw (sym m, lt-ltb k a (omega arith)) refl)

module _ {F : Type 0} (g : Mut F (Bor Item × Unit {0}) ℕ) (f : F)
    (key : (x : Item) (k : ℕ) (q : F) → CalledAt g f x k q → (q ≡ f) × (k ≡ x.1.now.cell.turn)) where
  turned : (xs : List Item) (p q : (F × ℕ) × Item) → p.0.0 ≡ f → p.0.1 ≡ p.1.1.now.cell.turn
      → FoldsTo {P = (F × ℕ) × Item} (KeyTurn min_by_ordering min_by_ordering g nat_cmp) p xs q
      → ◌≡◌ {A = Option (ℕ × ℕ)} (Some (q.1.0, q.1.1.now.cell.turn)) (picked (Some (p.1.0, p.0.1)) (map seen xs))
  unfolding picked
  turned [] p q a b c =
      let own : ◌≡◌ {A = Option (ℕ × ℕ)} (Some (p.1.0, p.1.1.now.cell.turn)) (Some (p.1.0, p.0.1)) = λ i. Some (p.1.0, sym b i) in
      let end : ◌≡◌ {A = Option (ℕ × ℕ)} (Some (q.1.0, q.1.1.now.cell.turn)) (Some (p.1.0, p.1.1.now.cell.turn)) =
      λ i. Some ((sym c i).1.0, (sym c i).1.1.now.cell.turn) in
      end ∙ own
  turned (x ∷ xs) p q a b c =
      let t = c.1 in
      let m = key x t.0 c.0.0.0 (subst (λ (w : F). CalledAt g w x t.0 c.0.0.0) a t.2) in
      let s = kept p.1 x p.0.1 t.0 b m.1 t.1 t.3 in
      let same : ◌≡◌ {A = Option (ℕ × ℕ)} (Some (c.0.1.0, c.0.0.1)) (Some ((min_by_ordering t.1 p.1 x).0, min_by_ordering t.1 p.0.1 t.0)) =
      λ i. Some ((t.5 i).0, t.4 i) in
      turned xs c.0 q m.0 (t.4 ∙ s.0 ∙ ap (λ (y : Item). y.1.now.cell.turn) (sym t.5)) c.2
      ∙ ap (λ (o : Option (ℕ × ℕ)). picked o (map seen xs)) (same ∙ s.1)

all : (rows : List Row) → Scanned (map cell_of rows) (picked None (numbered 0 rows))
unfolding cells_in
all rows = scan-all rows [] None 0 refl scan-starts

module _ {S F : Type 0} {steps : S → Option Item → S → Type 0} {g : Mut F (Bor Item × Unit {0}) ℕ} {s : S} (f : F) (rows : List Row) where
  told : (r : Option Item) → PicksMinByKey steps g nat_cmp s f r → YieldsList steps seen s (numbered 0 rows)
      → ((x : Item) (k : ℕ) (q : F) → CalledAt g f x k q → (q ≡ f) × (k ≡ x.1.now.cell.turn))
      → MatchOption r (Scanned (map cell_of rows) None) (λ y. Scanned (map cell_of rows) (Some (y.0, y.1.now.cell.turn)))
  unfolding picked
  told None h road key = subst (λ (l : List (ℕ × Row)). Scanned (map cell_of rows) (picked None l))
      (sym (gives_Drains steps seen [] (numbered 0 rows) s road.runs h)) (all rows)
  told (Some y) h road key =
      let first = key h.0 h.2 h.3 h.6 in
      let e : map seen (h.0 ∷ h.1) ≡ numbered 0 rows = gives_Drains steps seen (h.0 ∷ h.1) (numbered 0 rows) s road.runs h.5 in
      let z = turned g f key h.1 ((h.3, h.2), h.0) (h.4, y) first.0 first.1 h.7 in
      let own : ◌≡◌ {A = Option (ℕ × ℕ)} (Some (h.0.0, h.2)) (Some (h.0.0, h.0.1.now.cell.turn)) = λ i. Some (h.0.0, first.1 i) in
      subst (Scanned (map cell_of rows)) (sym (z ∙ ap (λ (o : Option (ℕ × ℕ)). picked o (map seen h.1)) own))
      (subst (λ (l : List (ℕ × Row)). Scanned (map cell_of rows) (picked None l)) (sym e) (all rows))

  pub ready_found : (r : Option Item) → PicksMinByKey steps g nat_cmp s f r → YieldsList steps seen s (numbered 0 rows)
      → ((x : Item) (k : ℕ) (q : F) → CalledAt g f x k q → (q ≡ f) × (k ≡ x.1.now.cell.turn)) → (n : Option ℕ)
      → MatchOption r (n ≡ None) (λ y. n ≡ Some y.0) → FoundAt n (first_ready (cells_in rows)) (length rows)
  unfolding cells_in
  ready_found None h road key n e = scan-ends rows None n (told None h road key) e
  ready_found (Some y) h road key n e = scan-ends rows (Some (y.0, y.1.now.cell.turn)) n (told (Some y) h road key) e
