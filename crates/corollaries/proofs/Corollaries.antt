-- What follows of document 01's rules for every call, and for every list of calls.
-- Assumes nothing.
use Prim.Native.Nat.{ℕ}
use mathlib.Core.Path.{◌≡◌, sym, ap, subst, ◌∙◌}
use mathlib.Core.Logic.{◌⊎◌, ◌↔◌}
use mathlib.Core.Bool.{true}
use mathlib.Core.List.{List, [], ◌∷◌, Memᴰ}
use Rattle.base.specs.Answer.{refused}
use Rattle.reliability.specs.declared.Profile.{Profile}
use Rattle.window.specs.declared.ReliableWindow.{ReliableWindow}
use Rattle.window.specs.Window.{insert_of}
use Rattle.window.proofs.Laws.{refusal-keeps-window}
use Rattle.receiver.specs.Queue.{unsent_of}
use Rattle.receiver.specs.Receive.{datagram_number}
use Rattle.receiver.specs.Calls.{Call, receive, outcome, after_all}
use Rattle.receiver.specs.Receiver.{Receiver, sound_receiver, Arrays}
use Rattle.receiver.specs.Claim.{Start, begun, Typed, told_by}
use Rattle.receiver.proofs.Runs.{runs}
use Rattle.receiver.proofs.Demand.{start-sane, demand-3}
use Rattle.receiver.proofs.Sanes.{sane, sane-sound}
use Rattle.bare.specs.Sequenced.{numbered_line, sequences_of, kind4, sequenced_on, RisesFrom}
use Rattle.bare.proofs.Sequenced.{line-numbered, kind-1-rises, kind-4-rises, kinds-1-and-4-rise}
use Rattle.corollaries.specs.Sequenced.{SequencedRise}
use Rattle.corollaries.specs.Refusals.{RefusedWith, lent, lent_after, FitLengths, IsAccepted}
use Rattle.corollaries.proofs.Refusals.{refusal-keeps, sound-no-9}
use Rattle.corollaries.proofs.UnsentAfter.{accepted-unsent}

-- "A refusal returns its number and the state unchanged, and writes nothing to any lent slice.": of receive, take, both writings,
-- dropping and saving: receiver, records, store and the slice that is the call's own; and of a resumption receiver, records and store of
-- the one that was saved.
pub refused-changes-nothing : (x : Receiver) (c : Call) (n : ℕ) → RefusedWith x c n → ((outcome x c).left ≡ x) × (lent_after x c ≡ lent c)
refused-changes-nothing = refusal-keeps

-- the same of "Window insert"
pub refused-insert-changes-nothing : (w : ReliableWindow) (k n : ℕ) → (insert_of w k).answer ≡ refused n → (insert_of w k).window ≡ w
refused-insert-changes-nothing = refusal-keeps-window

-- "unsent acknowledgements": after an accepted datagram they are its number and those before, no other
pub accepted-adds-its-number : (x : Receiver) (d : List ℕ) → Arrays x.queue → IsAccepted x d
    → (m : ℕ) → Memᴰ m (unsent_of (outcome x (receive d)).left.queue) ↔ (m ≡ datagram_number d) ⊎ Memᴰ m (unsent_of x.queue)
accepted-adds-its-number = accepted-unsent

-- a refused one adds none
pub refused-adds-none : (x : Receiver) (d : List ℕ) (n : ℕ) → RefusedWith x (receive d) n → unsent_of (outcome x (receive d)).left.queue
    ≡ unsent_of x.queue
refused-adds-none x d n e = ap (λ (y : Receiver). unsent_of y.queue) (refusal-keeps x (receive d) n e).0

-- "Each call has the receiver, records and store that the last one returned or left": where these are sound (9), they are sound after any
-- list of calls, refused ones too.
pub sound-stays : (cs : List Call) (x : Receiver) → Typed cs → Arrays x.queue → sound_receiver x ≡ true
    → Arrays (after_all outcome x cs).queue × (sound_receiver (after_all outcome x cs) ≡ true)
sound-stays cs x t z s =
    let v = sane-sound (after_all outcome x cs) (runs cs x t (sane x (record { arrays = z; call = s }))).sane in
    (v.arrays, v.call)

-- and after each call
pub sound-stays-one : (c : Call) (x : Receiver) → Typed (c ∷ []) → Arrays x.queue → sound_receiver x ≡ true
    → Arrays (outcome x c).left.queue × (sound_receiver (outcome x c).left ≡ true)
unfolding after_all
sound-stays-one c x b z s = sound-stays (c ∷ []) x b z s

-- a receiver just made is sound, and what calls make of it
pub reached-is-sound : (s : Start) (cs : List Call) → Typed cs → sound_receiver (after_all outcome (begun s) cs) ≡ true
reached-is-sound s cs b = (runs cs (begun s) b (start-sane s)).sane.sound

-- "9 slice lengths .. or records unsound": a sound state never gets it, whatever the call (what a resumption restores into has the right
-- lengths, too)
pub sound-never-9 : (x : Receiver) (c : Call) → FitLengths c → sound_receiver x ≡ true → RefusedWith x c 9 → ⊥
sound-never-9 = sound-no-9

-- nor does any call of a list from a receiver just made
pub never-9 : (s : Start) (cs : List Call) (c : Call) → FitLengths c → Typed cs → RefusedWith (after_all outcome (begun s) cs) c 9 → ⊥
never-9 s cs c f b = sound-no-9 (after_all outcome (begun s) cs) c f (reached-is-sound s cs b)

-- Request 1: on one channel the sequence numbers of the kind 1 messages that a list's takes hand out rise strictly, and in the console
-- profile so do kind 4's among all of them; in the C++ profile (request 2) those of both kinds together, on one channel.
pub sequenced-rise : (s : Start) (cs : List Call) → Typed cs → SequencedRise s cs
sequenced-rise s cs b = record {
  messages = line-numbered s.profile (told_by outcome s cs) ∙ (demand-3 s s cs cs b b).first.line;
  kind_1 = kind-1-rises s.profile (told_by outcome s cs);
  kind_4 = λ e. subst (λ (p : Profile). RisesFrom 0 (sequences_of kind4 (numbered_line p (told_by outcome s cs)))) (sym e)
      (kind-4-rises (told_by outcome s cs));
  kinds_1_and_4 = λ e c. subst
      (λ (p : Profile). RisesFrom 0 (sequences_of (sequenced_on c) (numbered_line p (told_by outcome s cs)))) (sym e)
      (kinds-1-and-4-rise (told_by outcome s cs) c);
}
