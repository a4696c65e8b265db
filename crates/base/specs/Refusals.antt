-- Document 01's numbers ("Calls and their numbers"; 21 and 22 are request 5's), and the answer that a call's `Result` is.
use Rattle.std.specs.Prelude.{ℕ, Result, Ok, Err}
use Rattle.base.specs.Answer.{Answer, refused, gives}
use Rattle.base.specs.declared.refusal.Refusal.{Refusal}
use Rattle.base.specs.declared.refusal.Refusal.TheVariants as refusal

abbrev pub number_of : Refusal → ℕ
number_of refusal.Cut = 1
number_of refusal.TooLong = 2
number_of refusal.FirstByte = 3
number_of refusal.Old = 4
number_of refusal.Beyond = 5
number_of refusal.UnsentFull = 6
number_of refusal.ReliableBeyond = 7
number_of refusal.CellsFull = 8
number_of refusal.NotSound = 9
number_of refusal.UnknownType = 10
number_of refusal.Reversed = 11
number_of refusal.NoRoom = 12
number_of refusal.TooLarge = 13
number_of refusal.NotAscending = 14
number_of refusal.OverLimit = 15
number_of refusal.BadMtu = 16
number_of refusal.FitsOneChunk = 17
number_of refusal.TooManyPieces = 18
number_of refusal.BeyondLast = 19
number_of refusal.NoneReady = 20
number_of refusal.BadForm = 21
number_of refusal.NotRestorable = 22

-- a refusal's number, or what the paper's value is of the code's
abbrev pub answer_by : {A B : Type 0} → (A → B) → Result A Refusal → Answer B
answer_by f (Ok x) = gives (f x)
answer_by f (Err r) = refused (number_of r)

-- the same, where the two are one
abbrev pub answer : {A : Type 0} → Result A Refusal → Answer A
answer (Ok x) = gives x
answer (Err r) = refused (number_of r)
