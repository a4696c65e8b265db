-- The bytes of the message that a take gave.
use Rattle.std.specs.Prelude.{ℕ, List, [], Result}
use Rattle.base.specs.Answer.{Answer, refused, gives}
use Rattle.base.specs.declared.refusal.Refusal.{Refusal}
use Rattle.base.specs.Refusals.{answer_by}
use Rattle.receiver.specs.Take.{Handed}
use Rattle.receiver.specs.Calls.{bytes_at}
use Rattle.recv_take.specs.declared.Taken.{Taken}
use Rattle.recv_take.specs.Outcome.{handed_of}

-- where the list's definitions (`bytes_at`) read them, too
abbrev body_in : List ℕ → List ℕ → Answer Handed → List ℕ
body_in store joined (refused number) = []
body_in store joined (gives h) = bytes_at store joined h.body

unfoldable pub taken_body : List ℕ → List ℕ → Result Taken Refusal → List ℕ
taken_body store joined a = body_in store joined (answer_by handed_of a)
