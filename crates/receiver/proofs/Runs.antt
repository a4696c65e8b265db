-- Every list of calls runs beside the bare receiver that is told what they did.
-- Assumes nothing.
use mathlib.Core.Path.{◌≡◌, refl, ap}
use mathlib.Core.List.Memᴰ
use mathlib.Core.List.{List, [], ◌∷◌, ◌++◌, append-nil, append_assoc, Memᴰ}
use mathlib.Core.Logic.{◌⊎◌, inl, inr}
use Rattle.bare.specs.Frame.{Message}
use Rattle.bare.specs.Bare.{feed}
use Rattle.bare.specs.Unfinished.{Dated, receive_dated, drop_stale, stale_pieces, happens, after_events}
use Rattle.receiver.specs.Calls.{Call, Done, accepted, freed, outcome, after_all, handed_out, done_by, event_of, events_of}
use Rattle.receiver.specs.Receiver.{Receiver}
use Rattle.receiver.specs.Calls.{bare_answers}
use Rattle.receiver.specs.Claim.{Typed}
use Rattle.receiver.proofs.Receives.{Sane}
use Rattle.receiver.proofs.Steps.{Step, steps}

-- What was told in two parts,
after-append : (d : Dated) (a r : List Done)
    → after_events d (events_of (a ++ r)) ≡ after_events (after_events d (events_of a)) (events_of r)
unfolding after_events events_of
after-append d [] r = refl
after-append d (x ∷ a) r = after-append (happens (event_of x) d) a r

-- and what is answered to it.
answers-append : (d : Dated) (a r : List Done) → bare_answers d (a ++ r) ≡ bare_answers d a ++ bare_answers (after_events d (events_of a)) r
unfolding bare_answers events_of event_of after_events happens
answers-append d [] r = refl
answers-append d (accepted x ∷ a) r = ap {B = List Done} (λ l. accepted (record {
  frames = x.frames;
  ready = (feed d.bare x.frames).ready;
  dropped = (feed d.bare x.frames).dropped;
}) ∷ l) (answers-append (receive_dated x.frames d) a r)
answers-append d (freed x ∷ a) r = ap {B = List Done} (λ l. freed (record { past = x.past; cells = stale_pieces x.past d }) ∷ l)
    (answers-append (drop_stale x.past d) a r)

-- One step after another.
then : {x y z : Receiver} {h₁ h₂ : List Message} {a₁ a₂ : List Done} → Step x y h₁ a₁ → Step y z h₂ a₂ → Step x z (h₁ ++ h₂) (a₁ ++ a₂)
then {x} {y} {z} {h₁} {h₂} {a₁} {a₂} p q = record {
  sane = q.sane;
  matches = λ d h m. rw (after-append d a₁ a₂, ← append_assoc h h₁ h₂)
      (q.matches (after_events d (events_of a₁)) (h ++ h₁) (p.matches d h m));
  counts = λ d h m. rw (answers-append d a₁ a₂, ← p.counts d h m)
      (ap (λ (l : List Done). a₁ ++ l) (q.counts (after_events d (events_of a₁)) (h ++ h₁) (p.matches d h m)));
}

-- A list's first call, and the others.
first-typed : (c : Call) (cs : List Call) → Typed (c ∷ cs) → Typed (c ∷ [])
first-typed c cs t = record { bytes = λ d m. t.bytes d (among m); numbers = λ n m. t.numbers n (among m) }
  where
    at_first : {x : Call} → (x ≡ c) ⊎ Memᴰ x [] → Memᴰ x (c ∷ cs)
    at_first (inl e) = Memᴰ.head e
    at_first (inr i) = absurd (Memᴰ.not-nil i)

    among : {x : Call} → Memᴰ x (c ∷ []) → Memᴰ x (c ∷ cs)
    among m = at_first (Memᴰ.cases_cons m)

rest-typed : (c : Call) (cs : List Call) → Typed (c ∷ cs) → Typed cs
rest-typed c cs t = record { bytes = λ d m. t.bytes d (Memᴰ.tail m); numbers = λ n m. t.numbers n (Memᴰ.tail m) }

-- Every list of calls, on datagrams of bytes and numbers of 32 bits, from a sane receiver.
pub runs : (cs : List Call) (x : Receiver) → Typed cs → Sane x → Step x (after_all outcome x cs) (handed_out outcome x cs)
    (done_by outcome x cs)
unfolding after_all handed_out done_by
runs [] x t v = unfold events_of after_events bare_answers in
    record { sane = v; matches = λ d h m. rw (append-nil h) m; counts = λ d h m. refl }
runs (c ∷ cs) x t v =
    let s = steps c x (first-typed c cs t) v in
    then s (runs cs (outcome x c).left (rest-typed c cs t) s.sane)
