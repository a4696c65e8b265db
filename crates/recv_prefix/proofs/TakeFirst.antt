-- A take over all records is the take over the first ones, where those after them are unused.
-- Assumes nothing.
use Prim.Native.Nat.{ℕ, zero, suc, ◌+◌, ◌*◌, ◌≤◌}
use mathlib.Core.Path.{◌≡◌, refl, sym, ◌∙◌, ap}
use mathlib.Core.Bool.{Bool, true, false, cond, ◌||◌, false≢true}
use mathlib.Core.Option.{none, some}
use mathlib.Core.List.{List, [], ◌∷◌, ◌++◌}
use native.Mathlib.Omega.{arith}
use lib.Dec.{eqb}
use lib.ListN.{length, take, drop, length-append, take-append-drop}
use borrow.Author.Tests.{eqb-true, ne_eqb}
use Rattle.base.specs.If.{if_true, if_lt}
use Rattle.base.specs.Limits.{cell_bytes}
use Rattle.base.specs.Lists.{find, any, every}
use Rattle.base.proofs.Choices.{cases, same_cond, same-option, and_left, and_right}
use Rattle.base.proofs.Lists.{find-some, any-mem}
use Rattle.base.proofs.Ifs.{true-yes, true-no, le_yes}
use Rattle.bare.specs.Frame.{Message}
use Rattle.cells.specs.Cell.{Cell, Slot, Key, ready_as, bears, at, sits, is_free, is_ready, join, message_of, message_at, empty_cell, freed}
use Rattle.cells.specs.Records.{index_of, change_cells}
use Rattle.cells.specs.Sound.{lengths}
use Rattle.cells.specs.Store.{cell_size, slots_of, cells_of}
use Rattle.cells.specs.Take.{earliest}
use Rattle.cells.proofs.Keys.{sits-free}
use Rattle.cells.proofs.Records.{cells-freed}
use Rattle.cells.proofs.Store.{cells-slots}
use Rattle.receiver.specs.declared.RecvQueue.{RecvQueue}
use Rattle.receiver.specs.Receive.{sound_call}
use Rattle.receiver.specs.Take.{TakeResult, take_refuses, handed, take_of}
use Rattle.receiver.proofs.Receives.{bodies-short}
use Rattle.recv_prefix.specs.First.{is_unused}
use Rattle.recv_prefix.specs.Taking.{take_first, beside_taken}
use Rattle.recv_prefix.proofs.Unused.{changed-first, find_first, bears-unused, at-unused}
use Rattle.recv_prefix.proofs.Sound.{part-long, sound-first}
use Rattle.recv_prefix.proofs.Beside.{slots-append, slots-free}

-- ---- slots of which the last ones, t, are unused

none-ready : (t : List Slot) → every is_free t ≡ true → earliest t ≡ none
unfolding earliest every is_free is_ready
none-ready [] e = refl
none-ready (s ∷ t) e =
    let z = eqb-true s.cell.used 0 (and_left (eqb s.cell.used 0) _ e) in
    rw (ne_eqb s.cell.used 3 (λ q. omega arith)) (none-ready t (and_right (eqb s.cell.used 0) _ e))

module _ (t : List Slot) (unused : every is_free t ≡ true) where
  earliest-first : (l : List Slot) → earliest (l ++ t) ≡ earliest l
  unfolding earliest
  earliest-first [] = none-ready t unused
  earliest-first (s ∷ l) = rw (earliest-first l)

  join_first : (k : Key) (l : List Slot) (n : ℕ) → join k (l ++ t) n ≡ join k l n
  unfolding join
  join_first k l zero = refl
  join_first k l (suc n) = rw (join_first k l n, find_first t unused (sits k n) (sits-free k n) l)

  message-first : (k : Key) (l : List Slot) → message_at k (l ++ t) ≡ message_at k l
  unfolding message_at
  message-first k l = rw (find_first t unused (sits k 0) (sits-free k 0) l)
      (same-option ◌≡◌ (find (sits k 0) l) (find (sits k 0) l) refl (λ e. refl)
      (λ s e. ap (λ (body : List ℕ). some (message_of s body)) (join_first k l s.cell.count)))

-- ---- records of which the last ones, rest, are unused

-- The number of a record that is among the first.
index-first : (p : Cell → Bool) (cs rest : List Cell) → any p cs ≡ true → index_of p (cs ++ rest) ≡ index_of p cs
unfolding index_of any
index-first p [] rest e = absurd (false≢true e)
index-first p (c ∷ cs) rest e = go (p c) e (λ f. index-first p cs rest f)
  where
    go : (b : Bool) → (b || any p cs) ≡ true → (any p cs ≡ true → index_of p (cs ++ rest) ≡ index_of p cs)
        → cond b 0 (suc (index_of p (cs ++ rest))) ≡ cond b 0 (suc (index_of p cs))
    go true f k = refl
    go false f k = ap suc (k f)

module _ (first rest : List Cell) (unused : every is_unused rest ≡ true) where
  -- A taken message's records become unused.
  freed-first : (k : Key) (st part : List ℕ) → cells_of (freed k (slots_of (first ++ rest) st)) ≡ cells_of (freed k (slots_of first part))
      ++ rest
  freed-first k st part =
      cells-freed k (slots_of (first ++ rest) st)
      ∙ ap (change_cells (bears k) (λ c. empty_cell)) (cells-slots (first ++ rest) st)
      ∙ changed-first rest unused (bears k) (bears-unused k) (λ c. empty_cell) first
      ∙ ap (λ (l : List Cell). l ++ rest) (sym (cells-freed k (slots_of first part) ∙ ap (change_cells (bears k) (λ c. empty_cell))
      (cells-slots first part)))

  abbrev Beside : TakeResult → TakeResult → Type 0
  Beside x y = x ≡ beside_taken rest y

  beside-choice : (b : Bool) (x y x' y' : TakeResult) → Beside x x' → Beside y y' → Beside (if_true b x y) (if_true b x' y')
  unfolding if_true
  beside-choice true x y x' y' e f = e
  beside-choice false x y x' y' e f = f

  refused-first : (buffer : List ℕ) (n : ℕ) → Beside (take_refuses (first ++ rest) buffer n) (take_refuses first buffer n)
  unfolding beside_taken
  refused-first buffer n = refl

  handed-first : (st part buffer : List ℕ) (t : ℕ) (m : Message) (c : Cell) → any (at (ready_as t) 0) first ≡ true
      → Beside (handed (first ++ rest) st buffer t m c) (handed first part buffer t m c)
  unfolding handed beside_taken if_lt
  handed-first st part buffer t m c there = same_cond Beside (eqb c.count 1) (eqb c.count 1) refl
      (λ e. rw (freed-first (ready_as t) st part, index-first (at (ready_as t) 0) first rest there))
      (λ e. beside-choice _ _ _ _ _ refl (rw (freed-first (ready_as t) st part)))

  module _ (q : RecvQueue) (st buffer : List ℕ) (nonempty : 1 ≤ length first) (fit : lengths (length first + length rest) (length st)
      ≡ true) where
    abbrev part : List ℕ
    part = take (cell_bytes * length first) st

    abbrev tail : List Slot
    tail = slots_of rest (drop (cell_bytes * length first) st)

    slots-first : sound_call q first part ≡ true → slots_of (first ++ rest) st ≡ slots_of first part ++ tail
    unfolding cell_size
    slots-first sound =
        let l : length part ≡ length first * cell_size = part-long first rest st fit ∙ (omega arith) in
        ap (slots_of (first ++ rest)) (sym (take-append-drop (cell_bytes * length first) st)) ∙ slots-append first rest part
        (drop (cell_bytes * length first) st) (bodies-short q first part sound) l

    takes_part : Beside (take_of q (first ++ rest) st buffer) (take_of q first part buffer)
    unfolding take_of if_true
    takes_part = cases (sound_call q first part)
        (λ sound.
        let free = slots-free rest (drop (cell_bytes * length first) st) ∙ unused in
        rw (sound-first q first rest st unused nonempty fit, sound, slots-first sound)
        (same-option Beside (earliest (slots_of first part ++ tail)) (earliest (slots_of first part))
        (earliest-first tail free (slots_of first part)) (λ e. refused-first buffer 20)
        (λ t e. same-option Beside (message_at (ready_as t) (slots_of first part ++ tail)) (message_at (ready_as t) (slots_of first part))
        (message-first tail free (ready_as t) (slots_of first part)) (λ f. refused-first buffer 20)
        (λ m f. same-option Beside (find (at (ready_as t) 0) (first ++ rest)) (find (at (ready_as t) 0) first) (finds t)
        (λ g. refused-first buffer 20)
        (λ c g. let h = find-some (at (ready_as t) 0) first (sym (finds t) ∙ g) in
        handed-first st part buffer t m c (any-mem (at (ready_as t) 0) first c h.0 h.1))))))
        (λ not. rw (sound-first q first rest st unused nonempty fit, not) (refused-first buffer 9))
      where
        finds : (t : ℕ) → find (at (ready_as t) 0) (first ++ rest) ≡ find (at (ready_as t) 0) first
        finds t = find_first rest unused (at (ready_as t) 0) (at-unused (ready_as t) 0) first

-- "9 slice lengths"
pub take-unfit : (q : RecvQueue) (rs : List Cell) (st buffer : List ℕ) → lengths (length rs) (length st) ≡ false → take_of q rs st buffer
    ≡ take_refuses rs buffer 9
unfolding take_of sound_call
take-unfit q rs st buffer e = sym (true-no _ _ _ _ (rw e) refl)

-- A take over records whose last ones are unused is the take over the first ones, beside them.
pub take-first : (q : RecvQueue) (first rest : List Cell) (st buffer : List ℕ) → every is_unused rest ≡ true → 1 ≤ length first
    → take_of q (first ++ rest) st buffer ≡ beside_taken rest (take_first q (length first + length rest) first st buffer)
unfolding take_first
take-first q first rest st buffer unused nonempty = cases (lengths (length first + length rest) (length st))
    (λ fit. takes_part first rest unused q st buffer nonempty fit
    ∙ ap (beside_taken rest) (true-yes _ _ _ _ fit (le_yes _ _ _ _ _ (omega arith) refl)))
    (λ unfit. take-unfit q (first ++ rest) st buffer (rw (length-append first rest) unfit)
    ∙ (refused-first first rest unused buffer 9 ∙ ap (beside_taken rest) (true-no _ _ _ _ unfit refl)))
