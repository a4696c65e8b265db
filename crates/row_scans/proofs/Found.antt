-- The first row that passes, as `position` tells it.
-- Assumes nothing.
use Prim.Native.Nat.{ℕ, ◌+◌}
use mathlib.Core.Path.{◌≡◌, refl, sym, ap, subst}
use mathlib.Core.Bool.{Bool, cond, not}
use mathlib.Core.List.{List, [], ◌∷◌}
use native.Mathlib.Omega.{arith}
use denote.Ref.{Bor}
use denote.Param.Members.{Mut}
use lib.Dec.{ltb}
use lib.ListN.{length}
use borrow.Author.Tests.{ltb-true, ltb-false}
use Rattle.std.specs.Prelude.{Option, Some, None}
use Rattle.std.specs.Fn.{Called}
use Rattle.std.specs.Iterator.{FindsPosition}
use Rattle.std.proofs.lemmas.Iterator.{YieldsList}
use Rattle.std.proofs.lemmas.Iterator.Search.{position_from_yields_List}
use Rattle.std.specs.List.{position_or_len}
use Rattle.std.proofs.lemmas.List.Sums.{prefix_len-le-length}
use Rattle.std.proofs.lemmas.List.Recursion.{is_position_or_len}
use Rattle.base.proofs.Choices.{cases}
use Rattle.cells.specs.Cell.{Cell}
use Rattle.cells.specs.Records.{unused_at, index_of}
use Rattle.rows.specs.declared.Row.{Row}
use Rattle.rows.specs.Rows.{cell_of, cells_in}
use Rattle.row_tests.specs.Uses.{uses}
use Rattle.row_scans.specs.Ready.{FoundAt}
use Rattle.row_scans.proofs.Ready.{unused-index}

module _ (p : Cell → Bool) where
  index-more : (r : Row) (rows : List Row) → index_of p (cells_in (r ∷ rows)) ≡ cond (p (cell_of r)) 0 (1 + index_of p (cells_in rows))
  unfolding index_of cells_in
  index-more r rows = ap (cond (p (cell_of r)) 0) (omega arith)

  pub index-none : index_of p (cells_in []) ≡ 0
  unfolding index_of cells_in
  index-none = refl

  index-is : (rows : List Row) → index_of p (cells_in rows) ≡ position_or_len (λ r. p (cell_of r)) rows
  index-is rows = is_position_or_len (λ rs. index_of p (cells_in rs)) (λ r. p (cell_of r)) index-none index-more rows

  found : (rows : List Row) → FoundAt (cond (ltb (position_or_len (λ r. p (cell_of r)) rows) (length rows))
      (Some (position_or_len (λ r. p (cell_of r)) rows)) None) (index_of p (cells_in rows)) (length rows)
  found rows = cases (ltb (position_or_len (λ r. p (cell_of r)) rows) (length rows))
      (λ t. rw t (ltb-true _ _ t, sym (index-is rows)))
      (λ t. rw t (omega (arith, index-is rows, ltb-false _ _ t, prefix_len-le-length (λ (r : Row). not (p (cell_of r))) rows)))

  module _ {S F : Type 0} {steps : S → Option (Bor Row) → S → Type 0} {g : Mut F (Bor Row × Unit {0}) Bool} {s : S} (u : S) (f : F) where
    pub index_found : (rows : List Row) (o : Option ℕ) → FindsPosition steps g s f o u → YieldsList steps (λ r. r.now) s rows
        → ((r : Bor Row) (t : Bool) (q : F) → Called g f (r, tt) t q → (q ≡ f) × (t ≡ p (cell_of r.now)))
        → FoundAt o (index_of p (cells_in rows)) (length rows)
    index_found rows o ran road test =
        subst (λ (x : Option ℕ). FoundAt x (index_of p (cells_in rows)) (length rows))
        (sym (position_from_yields_List (λ r. p (cell_of r)) u f o ran road test))
        (found rows)

pub unused_found : (cs : List Cell) (o : Option ℕ) (n : ℕ) → FoundAt o (index_of (uses 0) cs) n → FoundAt o (unused_at cs) n
unused_found cs o n e = rw (unused-index cs) e
