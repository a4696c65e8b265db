-- The bytes of a list's elements, one element after the other.
use Rattle.std.specs.Prelude.{ℕ, List, [], ◌∷◌}
use Rattle.base.specs.Put.{and_then}

unfoldable pub each_bytes : {A : Type 0} → (A → List ℕ) → List A → List ℕ
each_bytes f [] = []
each_bytes f (x ∷ l) = and_then (f x) (each_bytes f l)
