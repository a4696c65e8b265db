-- How many of the records a call works on. It leaves those after them, all unused, alone.
use Rattle.std.specs.Prelude.{ℕ, zero, suc, ◌+◌, min, cond, List, length, get_or}
use Rattle.base.specs.If.{if_true, if_lt}
use Rattle.base.specs.Limits.{min_datagram}
use Rattle.reliability.specs.declared.Profile.{Profile}
use Rattle.frame.specs.Frames.{frames_of}
use Rattle.cells.specs.Cell.{Cell}
use Rattle.cells.specs.Sound.{lengths}
use Rattle.row_slots.specs.First.{blank}
use Rattle.recv_prefix.specs.First.{is_unused}

-- of the first n records, how many there are up to the last used one
unfoldable pub used_in : List Cell → ℕ → ℕ
used_in rs zero = 0
used_in rs (suc n) = cond (is_unused (get_or rs n blank)) (used_in rs n) (suc n)

unfoldable pub last_used : List Cell → ℕ
last_used rs = used_in rs (length rs)

-- a receive: those up to the last used one, and one for each frame, and one, as far as there are so many; none where the lengths do not fit
unfoldable pub receive_needs : Profile → ℕ → ℕ → ℕ → List ℕ → ℕ
receive_needs p used cells store d = if_true (lengths cells store) (min cells (used + length (frames_of p d min_datagram) + 1)) 0

-- a take, and a drop: those up to the last used one, and at least one
unfoldable pub take_needs : ℕ → ℕ → ℕ → ℕ
take_needs used cells store = if_true (lengths cells store) (if_lt used 1 1 used) 0
