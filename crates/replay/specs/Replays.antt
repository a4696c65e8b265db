-- A program's step, run at items.
use Rattle.std.specs.Prelude.{ℕ, ◌≡◌, List}
use Rattle.std.specs.Borrow.{Bor}
use Rattle.std.specs.Fn.{Called, Mut}
use Rattle.std.specs.List.{FoldsTo}

module _ {F : Type 0} (m : Mut F (ℕ × (Bor (List ℕ) × Unit {0})) (Unit {0})) where
  -- a call of f at an item's tag and bytes left g
  pub record RanAt (f : F) (item : ℕ × List ℕ) (g : F) : Type 0 where
    pub payload : Bor (List ℕ)
    pub shows : payload.now ≡ item.1
    pub called : Called m f (item.0, (payload, tt)) tt g

  -- calls at all items, one after another, each as the one before left f
  abbrev pub RanAtEach : F → List (ℕ × List ℕ) → Type 0
  RanAtEach f items = (last : F) × FoldsTo RanAt f items last
