-- What document 01 says of a call's answer: a refusal's number, or the values that the call gives.
-- For each answer of the code that is an enum, a definition beside the call's own maps every case to one of these.
use Rattle.std.specs.Prelude.{ℕ}

pub data Answer (A : Type 0) : Type 0 where
  refused : ℕ → Answer A
  gives : A → Answer A
