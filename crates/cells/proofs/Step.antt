-- Step 4 of one message: the slots do what the bare receiver does.
-- Assumes nothing.
use Prim.Native.Nat.{ℕ}
use mathlib.Core.Path.{◌≡◌, ◌∙◌, ap}
use mathlib.Core.Bool.{Bool, false, ◌||◌}
use mathlib.Core.List.{List}
use native.Mathlib.Omega.{arith}
use lib.ListN.{length}
use lib.Dec.{ltb, eqb}
use Rattle.base.proofs.Choices.{cases, or_right}
use Rattle.reliability.specs.declared.Profile.{Profile}
use Rattle.bare.specs.Frame.{Piece, Message, ordered, sequenced}
use Rattle.bare.specs.Bare.{Out, bump, emit, follow, quiet, hold, append, queue, memory_of, older, noted, remember, ready, sequence}
use Rattle.bare.specs.Bare.{deliver}
use Rattle.bare.proofs.Tests.{emit-not-longer}
use Rattle.cells.specs.Cell.{Slot}
use Rattle.cells.specs.Datagram.{Work, on_state, drop_one, place, made, rise, is_held, follows, Fate, late, early, due, newer, free}
use Rattle.cells.specs.Datagram.{fate}
use Rattle.cells.proofs.Ready.{Outs, outs-keep, outs-remember, outs-hold, outs-append, outs-emit}
use Rattle.cells.proofs.Placing.{Placing}
use Rattle.cells.proofs.Cascade.{Sim, answer, fresh-turn, is_held-is, cascades}

-- memory i of the working state is n from now on
abbrev note_in : ℕ → ℕ → Work → Work
note_in i n w = on_state (record {
  profile = w.state.profile;
  accepted = w.state.accepted;
  next = w.state.next;
  newest = noted i n w.state.newest;
  slots = w.state.slots;
}) w

-- Step 4 on channel c, memory i and sequence number n; the slots are l₂ if the message is held, l₃ if it is ready, l₄ if it is dropped.
unfoldable pub settle : Fate → ℕ → ℕ → ℕ → Work → List Slot → List Slot → List Slot → Work
settle late c i n w l₂ l₃ l₄ = drop_one (place l₄ w)
settle early c i n w l₂ l₃ l₄ = place l₂ w
settle newer c i n w l₂ l₃ l₄ = made l₃ (note_in i n w)
settle free c i n w l₂ l₃ l₄ = made l₃ w
settle due c i n w l₂ l₃ l₄ = follows c (made l₃ w)

pub early≢late : early ≡ late → ⊥
early≢late e = let z : ◌≡◌ {A = ℕ} 0 1 = cc in omega arith

pub newer≢late : newer ≡ late → ⊥
newer≢late e = let z : ◌≡◌ {A = ℕ} 0 1 = cc in omega arith

pub free≢late : free ≡ late → ⊥
free≢late e = let z : ◌≡◌ {A = ℕ} 0 1 = cc in omega arith

pub due≢late : due ≡ late → ⊥
due≢late e = let z : ◌≡◌ {A = ℕ} 0 1 = cc in omega arith

-- A message made ready, and no channel touched.
append-sim : {x : Fate} {a : ℕ → Bool} {ps : List Piece} {h : List Message} {m : Message} {o : Out} {l₂ l₃ l₄ : List Slot} (w : Work)
    → Placing x m ps w.turn w.state.slots l₂ l₃ l₄ → a ≡ w.state.accepted → o.profile ≡ w.state.profile
    → o.newest ≡ w.state.newest
    → Outs o w.state.next w.state.slots 0 w.turn h → (x ≡ late → ⊥)
    → Sim (answer a ps (ready m o)) (made l₃ w) w.counts.ready w.counts.dropped h
unfolding made ready append
append-sim {x} {a} {ps} {h} {m} {o} {l₂} {l₃} {l₄} w p same who mem v ne = let q = p.readies ne (fresh-turn v) in record {
  accepted = same;
  profile = who;
  newest = mem;
  pieces = p.pieces₃ ne;
  outs = outs-append m l₃ v w.turn (omega arith) q.is q.ready q.unique q.held;
  ready = omega arith;
  dropped = omega arith;
}

module _ (x : Fate) (a : ℕ → Bool) (ps : List Piece) (h : List Message) (n : ℕ) (m : Message) (o : Out) (w : Work) (l₂ l₃ l₄ : List Slot)
    (p : Placing x m ps w.turn w.state.slots l₂ l₃ l₄) (same : a ≡ w.state.accepted)
    (who : o.profile ≡ w.state.profile) (mem : o.newest ≡ w.state.newest)
    (v : Outs o w.state.next w.state.slots 0 w.turn h) where
  abbrev i : ℕ
  i = memory_of w.state.profile m.kind m.channel

  late-sim : Sim (answer a ps (quiet o 1)) (settle late m.channel i n w l₂ l₃ l₄) w.counts.ready w.counts.dropped h
  unfolding settle drop_one place quiet
  late-sim = record {
    accepted = same;
    profile = who;
    newest = mem;
    pieces = p.pieces₄;
    outs = outs-keep l₄ v p.drops.held p.drops.ready p.drops.unique;
    ready = omega arith;
    dropped = omega arith;
  }

  early-sim : (x ≡ late → ⊥) → is_held m.channel m.order w.state.slots ≡ false → Sim (answer a ps (quiet (hold m o) 0))
      (settle early m.channel i n w l₂ l₃ l₄) w.counts.ready w.counts.dropped h
  unfolding settle place quiet is_held hold
  early-sim ne e = let q = p.holds ne e in record {
    accepted = same;
    profile = who;
    newest = mem;
    pieces = p.pieces₂ ne;
    outs = outs-hold m l₂ v q.is q.here q.held q.ready q.unique;
    ready = omega arith;
    dropped = omega arith;
  }

  free-sim : (x ≡ late → ⊥) → Sim (answer a ps (ready m o)) (settle free m.channel i n w l₂ l₃ l₄) w.counts.ready
      w.counts.dropped h
  unfolding settle
  free-sim ne = append-sim w p same who mem v ne

  -- The same at the remembered state.
  newer-sim : (x ≡ late → ⊥) → Sim (answer a ps (ready m (remember i n o))) (settle newer m.channel i n w l₂ l₃ l₄) w.counts.ready
      w.counts.dropped h
  unfolding settle remember
  newer-sim ne = append-sim (note_in i n w) p same who (ap (noted i n) mem) (outs-remember i n v) ne

  emit-sim : (x ≡ late → ⊥) → is_held m.channel m.order w.state.slots ≡ false → Sim (answer a ps (emit m (quiet o 0)))
      (rise m.channel (made l₃ w)) w.counts.ready w.counts.dropped h
  unfolding emit quiet rise made is_held
  emit-sim ne e = let q = p.readies ne (fresh-turn v) in record {
    accepted = same;
    profile = who;
    newest = mem;
    pieces = p.pieces₃ ne;
    outs = outs-emit m l₃ v w.turn (omega arith) q.is q.ready q.unique (bump m.channel o.next)
        (bump m.channel w.state.next) (ap (bump m.channel) v.next-same) ((q.held m.channel m.order).present ∙ e)
        (λ c k t. q.held c k);
    ready = omega arith;
    dropped = omega arith;
  }

  due-sim : (x ≡ late → ⊥) → is_held m.channel m.order w.state.slots ≡ false
      → Sim (answer a ps (follow (length o.held) m.channel (emit m (quiet o 0)))) (settle due m.channel i n w l₂ l₃ l₄)
      w.counts.ready w.counts.dropped h
  unfolding settle follows rise quiet
  due-sim ne e = cascades a ps w.counts.ready w.counts.dropped h (length o.held) m.channel (emit m (quiet o 0))
      (rise m.channel (made l₃ w)) (emit-not-longer m (quiet o 0)) (emit-sim ne e)

  -- Step 4 does to the slots what it does to the bare receiver.
  pub deliver-sim : fate m.kind m.channel m.order n w ≡ x
      → Sim (answer a ps (deliver n m o)) (settle x m.channel (memory_of w.state.profile m.kind m.channel) n w l₂ l₃ l₄)
      w.counts.ready w.counts.dropped h
  unfolding deliver queue sequence fate
  deliver-sim is = cases (ordered m.kind)
      (λ t. rw (t, nx, ← is_held-is v m.channel m.order)
      (cases (ltb m.order (w.state.next m.channel) || is_held m.channel m.order w.state.slots)
      (λ y. let q : late ≡ x = rw (t, y) at is in rw (y, ← q) late-sim)
      (λ y. cases (eqb m.order (w.state.next m.channel))
      (λ z. let q : due ≡ x = rw (t, y, z) at is in rw (y, z, ← q)
      (due-sim (λ r. due≢late (q ∙ r)) (or_right (ltb m.order (w.state.next m.channel)) _ y)))
      (λ z. let q : early ≡ x = rw (t, y, z) at is in rw (y, z, ← q)
      (early-sim (λ r. early≢late (q ∙ r)) (or_right (ltb m.order (w.state.next m.channel)) _ y))))))
      (λ t. cases (sequenced m.kind)
      (λ s. rw (t, s, one-memory, old) (cases (older w.state.newest i n)
      (λ y. let q : late ≡ x = rw (t, s, y) at is in rw (y, ← q) late-sim)
      (λ y. let q : newer ≡ x = rw (t, s, y) at is in rw (y, ← q) (newer-sim (λ r. newer≢late (q ∙ r))))))
      (λ s. let q : free ≡ x = rw (t, s) at is in rw (t, s, ← q) (free-sim (λ r. free≢late (q ∙ r)))))
    where
      nx : o.next m.channel ≡ w.state.next m.channel
      nx = ap (λ (g : ℕ → ℕ). g m.channel) v.next-same

      one-memory : memory_of o.profile m.kind m.channel ≡ memory_of w.state.profile m.kind m.channel
      one-memory = ap (λ (p : Profile). memory_of p m.kind m.channel) who

      old : older o.newest (memory_of w.state.profile m.kind m.channel) n
          ≡ older w.state.newest (memory_of w.state.profile m.kind m.channel) n
      old = ap (λ (g : ℕ → ℕ). older g (memory_of w.state.profile m.kind m.channel) n) mem
