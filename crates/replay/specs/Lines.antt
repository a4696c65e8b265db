-- "on a refusal .. document 01's number", and no values
use Rattle.std.specs.Prelude.{ℕ, List, []}
use Rattle.base.specs.If.{if_eq}

unfoldable pub given_beside : ℕ → List ℕ → List ℕ
given_beside number values = if_eq number 0 values []
