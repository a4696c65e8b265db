-- A resumption: a receiver restored from a sane one's image is sane, and matches the bare receiver that the saved one matched.
-- Assumes nothing.
use Prim.Native.Nat.{ℕ, ◌≤◌}
use mathlib.Core.Path.{◌≡◌, refl, sym, ◌∙◌, subst}
use mathlib.Core.Bool.{true}
use mathlib.Core.List.{List}
use lib.ListN.{length}
use Rattle.bare.specs.Frame.{Message}
use Rattle.bare.specs.Unfinished.{Dated}
use Rattle.window.specs.Window.{accepted}
use Rattle.cells.specs.Datagram.{State, with_slots}
use Rattle.cells.specs.Sound.{lengths}
use Rattle.cells.specs.Store.{slots_of}
use Rattle.cells.proofs.Dating.{DatedMatches}
use Rattle.image.specs.Holds.{SameSlots}
use Rattle.image.specs.Slots.{used_slots, slots_from}
use Rattle.image.proofs.Again.{pieces-again, held-again, ready-again}
use Rattle.image.proofs.Entries.{restored-rest}
use Rattle.image.proofs.Equal.{lists-same}
use Rattle.image.proofs.Matching.{restored-dated}
use Rattle.receiver.specs.Queue.{next_of, newest_of, profile_in}
use Rattle.receiver.specs.Receive.{state_of}
use Rattle.receiver.specs.Receiver.{Receiver}
use Rattle.receiver.specs.Save.{image_of}
use Rattle.receiver.specs.Restore.{restored}
use Rattle.receiver.proofs.ImageQueue.{nexts-are, memories-are, profile-is, accepts-reliables}
use Rattle.receiver.proofs.Receives.{state_in, Sane}
use Rattle.receiver.proofs.Restores.{slots-rest, rises, entries, read-again, pieces-of, held-of, ready-of}

module _ (x : Receiver) (v : Sane x) (n : ℕ) (store : List ℕ) (len : lengths n (length store) ≡ true)
    (room : length (used_slots (image_of x)) ≤ n) where
  same-slots : SameSlots (slots_of x.records x.store) (slots_from n (image_of x))
  same-slots =
      lists-same (next_of x.queue) (next_of x.queue) _ _ (slots-rest x v)
      (restored-rest (next_of x.queue) n (image_of x) (rises x v) (entries x v))
      (sym (pieces-of x) ∙ sym (pieces-again n (image_of x) (rises x v)))
      (sym (held-of x) ∙ sym (held-again n (image_of x) (rises x v)))
      (sym (ready-of x) ∙ sym (ready-again n (image_of x) (rises x v)))

  -- what the four steps find in it: the same but for the cells
  restored-state : state_in (restored n store (image_of x)) ≡ with_slots (slots_from n (image_of x)) (state_in x)
  unfolding state_of profile_in
  restored-state = λ k. record {
    profile = profile_in-same k;
    accepted = λ m. reliables m k;
    next = nexts k;
    newest = memories k;
    slots = read-again x v n store len room k;
  }
    where
      profile_in-same : profile_in (restored n store (image_of x)).queue ≡ profile_in x.queue
      profile_in-same = unfold restored profile_in in rw (profile-is x v.good) refl

      reliables : (m : ℕ) → accepted (restored n store (image_of x)).queue.reliables m ≡ accepted x.queue.reliables m
      reliables m = unfold restored in accepts-reliables x v.good m

      nexts : next_of (restored n store (image_of x)).queue ≡ next_of x.queue
      nexts = unfold restored in nexts-are x v.good

      memories : newest_of (restored n store (image_of x)).queue ≡ newest_of x.queue
      memories = unfold restored in memories-are x v.good

  pub resumed-matches : (d : Dated) (h : List Message) → DatedMatches d (state_in x) h
      → DatedMatches d (state_in (restored n store (image_of x))) h
  unfolding state_of
  resumed-matches d h m = subst (λ (s : State). DatedMatches d s h) (sym restored-state)
      (restored-dated (state_in x) (slots-rest x v) n (image_of x) (rises x v) (entries x v) same-slots d h m)
