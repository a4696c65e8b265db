-- Changes of counts and nexts alone, as changes of the working state.
-- Assumes nothing.
use Prim.Native.Nat.{ℕ, suc, ◌+◌, ◌≤◌, ◌<◌}
use mathlib.Core.Path.{◌≡◌, refl, ◌∙◌}
use mathlib.Core.Bool.{Bool}
use mathlib.Core.List.{List}
use native.Mathlib.Omega.{arith}
use lib.Dec.{eqb}
use lib.ListN.{length}
use Rattle.base.specs.Limits.{numbers24, max_ord_chans, max_cells}
use Rattle.base.proofs.Choices.{cases}
use Rattle.frame.specs.declared.Placed.{Placed}
use Rattle.bare.specs.Bare.{bump, memory_of}
use Rattle.cells.specs.Datagram.{drop_one, fill_up, made, rise, remember_in}
use Rattle.rows.specs.declared.Row.{Row}
use Rattle.receiver.specs.declared.Nexts.{Nexts}
use Rattle.receiver.specs.Parts.{next_at}
use Rattle.receiver.specs.Receive.{frame_in}
use Rattle.receiver.proofs.NextsSet.{raised-length, bumped-is, newest-raised, profile-raised}
use Rattle.recv_memory.specs.Remembered.{remembered}
use Rattle.recv_memory.proofs.Laws.{memory-within, next-remembered, newest-remembered, profile-remembered}
use Rattle.recv_steps.specs.declared.Tally.{Tally}
use Rattle.recv_steps.specs.Work.{work_of}
use Rattle.recv_steps.specs.CountChanges.{dropped_one, filled_up, made_one, risen, CanCount, Rises}

one_more : (n : ℕ) → n + 1 ≡ suc n
one_more n = omega arith

module _ (a : ℕ → Bool) (x : Tally) (ns : Nexts) (rs : List Row) (st d : List ℕ) where
  pub work-dropped : work_of a (dropped_one x) ns rs st d ≡ drop_one (work_of a x ns rs st d)
  unfolding work_of dropped_one drop_one
  work-dropped = rw (one_more x.dropped)

  pub work-filled : work_of a (filled_up x) ns rs st d ≡ fill_up (work_of a x ns rs st d)
  unfolding work_of filled_up fill_up
  work-filled = refl

  pub work-made : work_of a (made_one x) ns rs st d ≡ made (work_of a x ns rs st d).state.slots (work_of a x ns rs st d)
  unfolding work_of made_one made
  work-made = rw (one_more x.turn, one_more x.ready)

-- A channel's next raised by one is `bump`, and no memory is touched.
module _ (ns : Nexts) (long : length ns.channels ≡ max_ord_chans) (c : ℕ) (lt : c < max_ord_chans) where
  next-risen : next_at (risen c ns) ≡ bump c (next_at ns)
  next-risen = bumped-is ns c (next_at ns c + 1) long lt refl

  pub work-risen : (a : ℕ → Bool) (x : Tally) (rs : List Row) (st d : List ℕ) → work_of a x (risen c ns) rs st d
      ≡ rise c (work_of a x ns rs st d)
  unfolding work_of rise
  work-risen a x rs st d =
      rw (next-risen, newest-raised ns c (next_at ns c + 1), profile-raised ns c (next_at ns c + 1))

pub work-remembered : (ns : Nexts) → length ns.channels ≡ max_ord_chans → (p : Placed) → p.frame.channel < max_ord_chans
    → p.frame.sequence < numbers24 → (a : ℕ → Bool) (x : Tally) (rs : List Row) (st d : List ℕ)
    → work_of a x (remembered (memory_of ns.profile p.frame.kind p.frame.channel) p.frame.sequence ns) rs st d
    ≡ remember_in (frame_in d p) (work_of a x ns rs st d)
unfolding work_of remember_in frame_in
work-remembered ns long p lt small a x rs st d = rw (
  next-remembered ns m p.frame.sequence small,
  newest-remembered ns m p.frame.sequence small long (memory-within ns.profile p.frame.kind p.frame.channel lt),
  profile-remembered ns m p.frame.sequence small,
)
  where
    m : ℕ
    m = memory_of ns.profile p.frame.kind p.frame.channel

-- ---- counters

module _ (x : Tally) where
  pub counts-fewer : (n m : ℕ) → n ≤ m → CanCount m x → CanCount n x
  counts-fewer n m le v = record {
    turn = let p = v.turn in omega arith;
    ready = let p = v.ready in omega arith;
    dropped = let p = v.dropped in omega arith;
  }

  pub counts-made : (n : ℕ) → CanCount (n + 1) x → CanCount n (made_one x)
  unfolding made_one
  counts-made n v = record {
    turn = let p = v.turn in omega arith;
    ready = let p = v.ready in omega arith;
    dropped = let p = v.dropped in omega arith;
  }

  -- as the code asks for it
  pub counts-after : (y : Tally) → CanCount (max_cells + 2) x → y ≡ made_one x → CanCount (max_cells + 1) y
  counts-after y v e = rw e (counts-made (max_cells + 1) v)

-- ---- nexts

bump-small : (c : ℕ) (next : ℕ → ℕ) (k : ℕ) → bump c next k ≤ next k + 1
unfolding bump
bump-small c next k = cases (eqb k c) (λ t. rw t (omega arith)) (λ t. rw t (omega arith))

module _ (ns : Nexts) where
  pub rises_fewer : (n m : ℕ) → n ≤ m → Rises m ns → Rises n ns
  rises_fewer n m le v = record { long = v.long; next = λ c. let p = v.next c in omega arith }

  pub rises-risen : (n c : ℕ) → c < max_ord_chans → Rises (n + 1) ns → Rises n (risen c ns)
  rises-risen n c lt v = record {
    long = raised-length ns c (next_at ns c + 1) ∙ v.long;
    next = λ k. let p = v.next k in let q = bump-small c (next_at ns) k in rw (next-risen ns v.long c lt) (omega arith);
  }
