-- What a receiver holds: request 5, "Equal receivers, wherever their cells lie, give equal images". Which cell a body lies in, turns but
-- for their order, unused records, the unsent array past those pending, and id, sequence number and age of held and ready messages are not
-- held.
use Rattle.std.specs.Prelude.{ℕ, ◌≡◌, eqb}
use Rattle.base.specs.Lists.{any}
use Rattle.window.specs.Window.{accepted}
use Rattle.cells.specs.Store.{slots_of}
use Rattle.image.specs.Holds.{SameSlots}
use Rattle.receiver.specs.Queue.{next_of, newest_of, unsent_of}
use Rattle.receiver.specs.Receiver.{Receiver}

-- the same profile, numbers accepted, nexts, memories and unsent numbers, and the same in the cells
pub record Same (x y : Receiver) : Type 0 where
  pub profile : x.queue.profile ≡ y.queue.profile
  pub datagrams : (n : ℕ) → accepted x.queue.datagrams n ≡ accepted y.queue.datagrams n
  pub reliables : (n : ℕ) → accepted x.queue.reliables n ≡ accepted y.queue.reliables n
  pub nexts : (c : ℕ) → next_of x.queue c ≡ next_of y.queue c
  pub newest : (m : ℕ) → newest_of x.queue m ≡ newest_of y.queue m
  pub unsent : (n : ℕ) → any (eqb n) (unsent_of x.queue) ≡ any (eqb n) (unsent_of y.queue)
  pub slots : SameSlots (slots_of x.records x.store) (slots_of y.records y.store)
