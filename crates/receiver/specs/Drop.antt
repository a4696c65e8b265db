-- Request 4: "Add a call with a number n: every unfinished message whose kind carries no reliable number, and since whose last kept piece
-- more than n further datagrams were accepted, is dropped, and the call returns how many cells it freed. It refuses by 9 alone."
use Rattle.std.specs.Prelude.{ℕ, List}
use Rattle.base.specs.Answer.{Answer, refused, gives}
use Rattle.base.specs.If.{if_true}
use Rattle.base.specs.Lists.{count_of}
use Rattle.cells.specs.Cell.{Cell, empty_cell}
use Rattle.cells.specs.Ages.{is_stale}
use Rattle.cells.specs.Records.{change_cells}
use Rattle.receiver.specs.declared.RecvQueue.{RecvQueue}
use Rattle.receiver.specs.Receive.{sound_call}

-- the answer, and what the call leaves of the records
pub record DropResult : Type 0 where
  pub answer : Answer ℕ
  pub records : List Cell

abbrev pub drop_refuses : List Cell → DropResult
drop_refuses rs = record { answer = refused 9; records = rs }

abbrev pub drop_gives : ℕ → List Cell → DropResult
drop_gives n rs = record { answer = gives (count_of (is_stale n) rs); records = change_cells (is_stale n) (λ c. empty_cell) rs }

unfoldable pub drop_unfinished_of : RecvQueue → List Cell → List ℕ → ℕ → DropResult
drop_unfinished_of q rs st n = if_true (sound_call q rs st) (drop_gives n rs) (drop_refuses rs)
