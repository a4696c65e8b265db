-- "A receiver .. keeps" its profile (request 2): a datagram does not change it.
-- Assumes nothing.
use mathlib.Core.Path.{◌≡◌, refl}
use mathlib.Core.List.{List}
use Rattle.bare.specs.Frame.{Frame}
use Rattle.cells.specs.Datagram.{State, datagram}
use Rattle.cells.proofs.Memories.{datagram-has}

pub datagram-profile : (s : State) (fs : List Frame) → (datagram s fs).state.profile ≡ s.profile
datagram-profile s fs = datagram-has (λ p newest. p ≡ s.profile) s fs (λ f i e p newest v. v) refl
