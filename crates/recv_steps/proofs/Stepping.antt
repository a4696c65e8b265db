-- Steps 2 to 4: each way of the code, with the facts as it finds them.
-- Assumes nothing.
use Prim.Native.Nat.{ℕ, ◌<◌}
use mathlib.Core.Path.{◌≡◌, refl, sym, ◌∙◌}
use mathlib.Core.Bool.{Bool, true, false}
use mathlib.Core.List.{List, []}
use lib.Dec.{ltb}
use borrow.Author.Tests.{ltb-true}
use Rattle.base.specs.Limits.{max_ord_chans}
use Rattle.base.proofs.Choices.{and_left}
use Rattle.frame.specs.declared.Placed.{Placed}
use Rattle.bare.specs.Frame.{in_limits}
use Rattle.cells.specs.Datagram.{whole, piece, keep_in}
use Rattle.rows.specs.declared.Row.{Row}
use Rattle.receiver.specs.declared.Nexts.{Nexts}
use Rattle.receiver.specs.Receive.{frame_in}
use Rattle.recv_steps.specs.declared.Tally.{Tally}
use Rattle.recv_steps.specs.CountChanges.{dropped_one}
use Rattle.recv_steps.specs.Placing.{Stands, Limited}
use Rattle.recv_steps.specs.Moves.{Moves, Sane, by_fate, limited}
use Rattle.recv_steps.proofs.Moving.{moves-drop}

-- ---- step 2

module _ (p : Placed) (b : Bool) (e : (d : List ℕ) → b ≡ in_limits (frame_in d p)) where
  pub limits-kept : b ≡ true → Limited p
  limits-kept t d = sym (e d) ∙ t

  -- A frame within the limits has one of the channels.
  pub limits-channel : b ≡ true → p.frame.channel < max_ord_chans
  unfolding in_limits frame_in
  limits-channel t = ltb-true p.frame.channel max_ord_chans (and_left (ltb p.frame.channel max_ord_chans) _ (sym (e []) ∙ t))

  pub limits-over : b ≡ false → (d : List ℕ) → in_limits (frame_in d p) ≡ false
  limits-over t d = sym (e d) ∙ t

-- what `in_limits` needs
pub ruleset limits = (limits-kept, limits-channel, limits-over)

-- k: the frame p, known to be within the limits
module _ (p k : Placed) (ek : k ≡ p) (lim : Limited k) (x y : Tally) (ns ns' : Nexts) (rs rs' : List Row) where
  pub limited-piece : k.frame.piece ≡ true → ((d : List ℕ) → Stands d k → Sane d x ns rs → Moves d (piece (frame_in d k)) x ns rs y ns' rs')
      → (d : List ℕ) → Stands d p → Sane d x ns rs → Moves d (limited (frame_in d p)) x ns rs y ns' rs'
  unfolding limited keep_in frame_in
  limited-piece q m = rw (← ek) (λ d s v. let n = m d s v in
      record { is = λ a store. n.is a store ∙ rw (lim d, q); fits = n.fits; long = n.long; profile = n.profile })

  pub limited-whole : k.frame.piece ≡ false → ((d : List ℕ) → Stands d k → Moves d (by_fate whole (frame_in d k)) x ns rs y ns' rs')
      → (d : List ℕ) → Stands d p → Sane d x ns rs → Moves d (limited (frame_in d p)) x ns rs y ns' rs'
  unfolding limited keep_in frame_in by_fate
  limited-whole q m = rw (← ek) (λ d s v. let n = m d s in
      record { is = λ a store. n.is a store ∙ rw (lim d, q); fits = n.fits; long = n.long; profile = n.profile })

pub limited-drops : (p : Placed) → ((d : List ℕ) → in_limits (frame_in d p) ≡ false)
    → (x y : Tally) (ns : Nexts) (rs : List Row) → y ≡ dropped_one x → (d : List ℕ) → Stands d p → Sane d x ns rs
    → Moves d (limited (frame_in d p)) x ns rs y ns rs
unfolding limited
limited-drops p e x y ns rs ey d s v =
    rw ey (record { is = λ a store. (moves-drop d x ns rs).is a store ∙ rw (e d); fits = λ z. z; long = refl; profile = refl })
