-- Reading at places: where a value that is read at place p of s ends, or that the bytes are cut.
use Rattle.std.specs.Prelude.{ℕ, ◌≤◌, ◌≡◌, Bool, true, false, List, length, drop}
use Rattle.std.specs.Prelude as Code
use Rattle.std.proofs.Math.Option.{Option, none, some}
use Rattle.base.specs.Lists.{option}
use Rattle.image.specs.Format.{Got, Format}

-- the bytes after what was read
unfoldable pub rest_of : {A : Type 0} → Option (Got A) → Option (List ℕ)
rest_of o = option o none (λ g. some g.rest)

-- the bytes from a place on
unfoldable pub from_place : List ℕ → Code.Option ℕ → Option (List ℕ)
from_place s Code.None = none
from_place s (Code.Some q) = some (drop q s)

-- no place but one from p on is given, and within s, if p is
unfoldable pub Onward : List ℕ → ℕ → Code.Option ℕ → Type 0
Onward s p Code.None = Unit {0}
Onward s p (Code.Some q) = (p ≤ q) × (p ≤ length s → q ≤ length s)

-- what f reads at place p of s ends at the place r; none where s is cut
pub record Ends {A : Type 0} (f : Format A) (s : List ℕ) (p : ℕ) (r : Code.Option ℕ) : Type 0 where
  pub is : rest_of (f.read (drop p s)) ≡ from_place s r
  pub onward : Onward s p r

-- does an option hold a value?
unfoldable pub is_some : {A : Type 0} → Option A → Bool
is_some o = option o false (λ a. true)
