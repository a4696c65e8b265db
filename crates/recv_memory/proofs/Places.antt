-- Memories in a list of numbers, as the code finds and sets them.
--     place_below, place_above      where a memory stands
--     older_told                    what is read there
--     stored, past_the_end, too_large      what is set there
-- Assumes nothing.
use Prim.Native.Nat.{ℕ, ◌+◌, ◌*◌, ◌≤◌, ◌<◌}
use mathlib.Core.Path.{◌≡◌, refl, sym}
use mathlib.Core.List.{List}
use lib.Dec.{ltb}
use lib.ListN.{length, get_or, set, take}
use lib.Seq.{set_out}
use Rattle.base.specs.Limits.{numbers24, max_ord_chans}
use Rattle.base.proofs.Ifs.{lt_yes, lt_no}
use Rattle.bare.specs.Bare.{older}
use Rattle.recv_parts.specs.Parts.{many_nexts, memory_place, newest_at}
use Rattle.recv_parts.proofs.ByParts.{place-channel, place-past}
use Rattle.recv_memory.specs.Remembered.{remembered_at}

pub place_below : (m : ℕ) → m < max_ord_chans → 2 * m + 1 ≡ memory_place m
place_below m h = sym (place-channel m h)

pub place_above : (m : ℕ) → max_ord_chans ≤ m → 2 * m ≡ memory_place m
place_above m h = sym (place-past m h)

pub older_told : (ns : List ℕ) (m n place newest : ℕ) → place ≡ memory_place m → newest ≡ get_or (take many_nexts ns) place 0
    → ltb n newest ≡ older (newest_at ns) m n
unfolding older newest_at
older_told ns m n place newest ep e = rw (← ep, ← e)

-- a number that is stored, one past the end, and one that is no sequence number
module _ (ns : List ℕ) (m n place : ℕ) (ep : place ≡ memory_place m) where
  pub stored : n < numbers24 → set ns place (n + 1) ≡ remembered_at m n ns
  unfolding remembered_at
  stored small = rw ep (lt_yes _ _ _ _ _ small refl)

  pub past_the_end : n < numbers24 → length ns ≤ place → ns ≡ remembered_at m n ns
  unfolding remembered_at
  past_the_end small h = lt_yes _ _ _ _ _ small (rw (← ep) (sym (set_out ns place (n + 1) h)))

pub too_large : (ns : List ℕ) (m n : ℕ) → numbers24 ≤ n → ns ≡ remembered_at m n ns
unfolding remembered_at
too_large ns m n h = lt_no _ _ _ _ _ h refl
