-- A drop over all records is the drop over the first ones, where those after them are unused.
-- Assumes nothing.
use Prim.Native.Nat.{ℕ, ◌+◌, ◌*◌, ◌≤◌}
use mathlib.Core.Path.{◌≡◌, refl, sym, ◌∙◌, ap}
use mathlib.Core.Bool.{true, false}
use mathlib.Core.List.{List, ◌++◌}
use native.Mathlib.Omega.{arith}
use lib.ListN.{length, take, length-append}
use borrow.Author.Tests.{eqb-true, ne_eqb}
use Rattle.base.specs.If.{if_true}
use Rattle.base.specs.Limits.{cell_bytes}
use Rattle.base.specs.Lists.{every}
use Rattle.base.proofs.Choices.{cases}
use Rattle.base.proofs.Ifs.{true-yes, true-no, le_yes}
use Rattle.cells.specs.Cell.{Cell, empty_cell}
use Rattle.cells.specs.Ages.{is_stale}
use Rattle.cells.specs.Sound.{lengths}
use Rattle.receiver.specs.declared.RecvQueue.{RecvQueue}
use Rattle.receiver.specs.Receive.{sound_call}
use Rattle.receiver.specs.Drop.{DropResult, drop_refuses, drop_unfinished_of}
use Rattle.recv_prefix.specs.First.{is_unused}
use Rattle.recv_prefix.specs.Dropping.{drop_first, beside_dropped}
use Rattle.recv_prefix.proofs.Unused.{count-first, changed-first}
use Rattle.recv_prefix.proofs.Sound.{sound-first}

-- An unused record is no unfinished message's.
stale-unused : (n : ℕ) (c : Cell) → is_unused c ≡ true → is_stale n c ≡ false
unfolding is_unused is_stale
stale-unused n c e = let u = eqb-true c.used 0 e in rw (ne_eqb c.used 1 (λ q. omega arith))

module _ (first rest : List Cell) (unused : every is_unused rest ≡ true) (n : ℕ) where
  abbrev Beside : DropResult → DropResult → Type 0
  Beside x y = x ≡ beside_dropped rest y

  refused-first : Beside (drop_refuses (first ++ rest)) (drop_refuses first)
  unfolding beside_dropped
  refused-first = refl

  -- The records are as sound as the first ones.
  drops-part : (q : RecvQueue) (st part : List ℕ) → sound_call q (first ++ rest) st ≡ sound_call q first part
      → Beside (drop_unfinished_of q (first ++ rest) st n) (drop_unfinished_of q first part n)
  unfolding drop_unfinished_of if_true beside_dropped
  drops-part q st part same = cases (sound_call q first part)
      (λ sound. rw (
        same,
        sound,
        count-first rest unused (is_stale n) (stale-unused n) first,
        changed-first rest unused (is_stale n) (stale-unused n) (λ c. empty_cell) first,
      ))
      (λ not. rw (same, not))

-- "9 slice lengths"
pub drop-unfit : (q : RecvQueue) (rs : List Cell) (st : List ℕ) (n : ℕ) → lengths (length rs) (length st) ≡ false
    → drop_unfinished_of q rs st n ≡ drop_refuses rs
unfolding drop_unfinished_of sound_call
drop-unfit q rs st n e = sym (true-no _ _ _ _ (rw e) refl)

-- A drop over records whose last ones are unused is the drop over the first ones, beside them.
pub drop-first : (q : RecvQueue) (first rest : List Cell) (st : List ℕ) (n : ℕ) → every is_unused rest ≡ true → 1 ≤ length first
    → drop_unfinished_of q (first ++ rest) st n ≡ beside_dropped rest (drop_first q (length first + length rest) first st n)
unfolding drop_first
drop-first q first rest st n unused nonempty = cases (lengths (length first + length rest) (length st))
    (λ fit. drops-part first rest unused n q st (take (cell_bytes * length first) st) (sound-first q first rest st unused nonempty fit)
    ∙ ap (beside_dropped rest) (true-yes _ _ _ _ fit (le_yes _ _ _ _ _ (omega arith) refl)))
    (λ unfit. drop-unfit q (first ++ rest) st n (rw (length-append first rest) unfit)
    ∙ (refused-first first rest unused n ∙ ap (beside_dropped rest) (true-no _ _ _ _ unfit refl)))
