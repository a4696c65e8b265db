-- What `make_new` returns and leaves: its two cases.
-- Assumes nothing.
use mathlib.Core.Path.{◌≡◌, ◌∙◌, refl, sym}
use Prim.Native.Nat.{ℕ}
use mathlib.Core.Bool.{Bool, true, false}
use mathlib.Core.List.{List}
use lib.ListN.{length, replicate}
use Rattle.std.specs.Prelude.{Ok, Err}
use Rattle.base.specs.declared.refusal.Refusal.TheVariants.{NotSound}
use Rattle.base.proofs.Ifs.{true-yes, true-no}
use Rattle.reliability.specs.declared.Profile.{Profile}
use Rattle.cells.specs.Cell.{Cell, empty_cell}
use Rattle.cells.specs.Sound.{lengths}
use Rattle.row_slots.specs.First.{blank}
use Rattle.receiver.specs.declared.RecvQueue.{RecvQueue}
use Rattle.receiver.specs.Queue.{new_queue}
use Rattle.recv_new.specs.New.{make_new_of, made_new}

-- b says whether the lengths fit.
module _ (p : Profile) (q : RecvQueue) (rs : List Cell) (st : List ℕ) {b : Bool} (fit : b ≡ lengths (length rs) (length st)) where
  pub makes_none : b ≡ false → made_new (Err NotSound) q rs ≡ make_new_of p q rs st
  unfolding made_new make_new_of
  makes_none e = true-no _ _ _ _ (sym fit ∙ e) refl

  pub makes_some : b ≡ true → (made : RecvQueue) → made ≡ new_queue p → (cleared : List Cell) → cleared ≡ replicate (length rs) blank
      → made_new (Ok tt) made cleared ≡ make_new_of p q rs st
  unfolding made_new make_new_of empty_cell
  makes_some e made f cleared g = rw (f, g) (true-yes _ _ _ _ (sym fit ∙ e) refl)
