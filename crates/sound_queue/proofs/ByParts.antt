-- A receiver by its parts is judged by the receiver whose arrays are as long as the type's.
--     by_parts      what is told of that one is told of the parts
-- Assumes nothing.
use mathlib.Core.Path.{◌≡◌, ◌∙◌, refl, sym, ap}
use mathlib.Core.Bool.{Bool, true}
use mathlib.Core.List.{List}
use Prim.Native.Nat.{ℕ, ◌≤◌}
use Rattle.std.specs.Prelude.{Result}
use Rattle.base.specs.Limits.{max_unsent}
use Rattle.base.specs.declared.refusal.Refusal.{Refusal}
use Rattle.base.proofs.Choices.{cases, and_left}
use Rattle.ack.specs.Write.{ascending}
use Rattle.receiver.specs.declared.RecvQueue.{RecvQueue}
use Rattle.receiver.specs.Queue.{unsent_of, sound_queue}
use Rattle.recv_parts.specs.Fitted.{fitted}
use Rattle.recv_parts.proofs.Fits.{fitted-sound, fitted-unsent}
use Rattle.sound_queue.proofs.Rules.{sound-is, values_pending}
use Rattle.sound_queue.specs.Sound.{told, queue_sound_of, sound_values}

module _ (q : RecvQueue) where
  sound_pending : sound_queue q ≡ true → q.pending ≤ max_unsent
  sound_pending t = values_pending q (and_left (sound_values q) _ (sym (sound-is q) ∙ t))

  told_fitted : queue_sound_of (fitted q) ≡ queue_sound_of q
  unfolding queue_sound_of
  told_fitted = cases (sound_queue q)
      (λ t. rw (fitted-sound q, t) (ap (λ (l : List ℕ). told true (ascending l)) (fitted-unsent q (sound_pending t))))
      (λ f. rw (fitted-sound q, f) refl)

  pub by_parts : (q' : RecvQueue) (r : Result Bool Refusal) → q' ≡ fitted q → r ≡ queue_sound_of q' → r ≡ queue_sound_of q
  by_parts q' r e f = f ∙ ap queue_sound_of e ∙ told_fitted
