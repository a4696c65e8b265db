-- Of the records that a call needs (`receive_needs`, `take_needs`) it asks no more than of all.
-- Assumes nothing.
use Prim.Native.Nat.{ℕ, ◌+◌, ◌<◌, ◌≤◌}
use mathlib.Core.Path.{◌≡◌, refl, sym, ◌∙◌, ap}
use mathlib.Core.Bool.{true, false}
use mathlib.Core.List.{List, [], ◌++◌}
use native.Mathlib.Omega.{arith}
use lib.Dec.{ltb}
use lib.ListN.{length, take, drop, length-drop, take-append-drop}
use lib.Seq.{length-take-le, drop-length}
use borrow.Author.Tests.{ltb-true, ltb-false}
use Rattle.base.specs.Limits.{min_datagram}
use Rattle.base.specs.Lists.{every, count_of}
use Rattle.base.proofs.Choices.{cases}
use Rattle.base.proofs.Ifs.{true-no}
use Rattle.frame.specs.Frames.{frames_of}
use Rattle.cells.specs.Cell.{Cell}
use Rattle.cells.specs.Sound.{lengths}
use Rattle.receiver.specs.declared.RecvQueue.{RecvQueue}
use Rattle.receiver.specs.Queue.{profile_in}
use Rattle.receiver.specs.Receive.{refused_result, receive_of}
use Rattle.receiver.specs.Take.{take_refuses, take_of}
use Rattle.receiver.specs.Drop.{drop_refuses, drop_unfinished_of}
use Rattle.recv_prefix.specs.First.{is_unused}
use Rattle.recv_prefix.specs.Needs.{last_used, receive_needs, take_needs}
use Rattle.recv_prefix.specs.Receiving.{beside, receive_first}
use Rattle.recv_prefix.specs.Taking.{beside_taken, take_first}
use Rattle.recv_prefix.specs.Dropping.{drop_first, beside_dropped}
use Rattle.recv_prefix.proofs.ReceiveFirst.{receive-first, receive-unfit}
use Rattle.recv_prefix.proofs.TakeFirst.{take-first, take-unfit}
use Rattle.recv_prefix.proofs.DropFirst.{drop-first, drop-unfit}
use Rattle.recv_prefix.proofs.Used.{last_within, rest-unused, unused-count}
use Rattle.recv_prefix.proofs.Needs.{receive-some, receive-few, take-some}

-- A law of records in two parts, of the first k and the others.
split : {A : Type 0} (f : List Cell → A) (g : ℕ → A) (rs : List Cell) (k : ℕ) → k ≤ length rs → f (take k rs ++ drop k rs)
    ≡ g (length (take k rs) + length (drop k rs)) → f rs ≡ g (length rs)
split f g rs k few law =
    let long = length-take-le k rs few in
    let all : length (take k rs) + length (drop k rs) ≡ length rs = omega (arith, length-drop k rs) in
    ap f (sym (take-append-drop k rs)) ∙ law ∙ ap g all

-- ---- receive

module _ (q : RecvQueue) (rs : List Cell) (st d : List ℕ) (k : ℕ)
    (is : k ≡ receive_needs (profile_in q) (last_used rs) (length rs) (length st) d) where
  few : k ≤ length rs
  few = (receive-few (profile_in q) (last_used rs) (length rs) (length st) d k is (last_within rs)).0

  receive_fit : lengths (length rs) (length st) ≡ true → receive_of q rs st d
      ≡ beside (drop k rs) (receive_first q (length rs) (take k rs) st d)
  receive_fit t =
      let long = length-take-le k rs few in
      let some : (1 ≤ k) × (last_used rs ≤ k) × (k ≤ length rs)
      × (k < length rs → last_used rs + length (frames_of (profile_in q) d min_datagram) < k)
      =
      receive-some (profile_in q) (last_used rs) (length rs) (length st) d k is t (last_within rs) in
      let room : (drop k rs ≡ [] → ⊥) → length (frames_of (profile_in q) d min_datagram) ≤ count_of is_unused (take k rs)
      = λ more. cases (ltb k (length rs))
      (λ s. let l : last_used rs + length (frames_of (profile_in q) d min_datagram) < k = some.3 (ltb-true k (length rs) s) in
      omega (arith, unused-count rs k few))
      (λ s. absurd (more (let e : k ≡ length rs = omega (arith, ltb-false k (length rs) s, few) in ap (λ (n : ℕ). drop n rs) e
      ∙ drop-length rs)))
      in
      split (λ cs. receive_of q cs st d) (λ n. beside (drop k rs) (receive_first q n (take k rs) st d)) rs k few
      (receive-first q (take k rs) (drop k rs) st d (rest-unused rs k some.1) (omega (arith, some.0)) room)

  -- where the lengths do not fit both take_refuses
  receive-none : lengths (length rs) (length st) ≡ false → receive_of q rs st d
      ≡ beside (drop k rs) (receive_first q (length rs) (take k rs) st d)
  unfolding receive_first beside refused_result
  receive-none t =
      let e : refused_result q (take k rs) st 9 ≡ receive_first q (length rs) (take k rs) st d = true-no _ _ _ _ t refl in
      receive-unfit q rs st d t ∙ ap (λ (cs : List Cell). refused_result q cs st 9) (sym (take-append-drop k rs))
      ∙ ap (beside (drop k rs)) e

  -- A receive is that over the first k records, with the others beside them.
  pub receive-enough : receive_of q rs st d ≡ beside (drop k rs) (receive_first q (length rs) (take k rs) st d)
  receive-enough = cases (lengths (length rs) (length st)) receive_fit receive-none

-- ---- take and drop

-- A law of records whose last ones are unused, for the first k, where the lengths fit.
module _ (rs : List Cell) (st : List ℕ) (k : ℕ) (is : k ≡ take_needs (last_used rs) (length rs) (length st)) where
  needed-fit : {A : Type 0} (f : List Cell → A) (g : List Cell → List Cell → ℕ → A) → ((first rest : List Cell)
      → every is_unused rest ≡ true
      → 1 ≤ length first → f (first ++ rest) ≡ g first rest (length first + length rest)) → lengths (length rs) (length st) ≡ true
      → f rs ≡ g (take k rs) (drop k rs) (length rs)
  needed-fit f g law t =
      let some : (1 ≤ k) × (last_used rs ≤ k) × (k ≤ length rs) =
      take-some (last_used rs) (length rs) (length st) k is t (last_within rs) in
      let long = length-take-le k rs some.2 in
      split f (g (take k rs) (drop k rs)) rs k some.2 (law (take k rs) (drop k rs) (rest-unused rs k some.1) (omega (arith, some.0)))

module _ (q : RecvQueue) (rs : List Cell) (st buffer : List ℕ) (k : ℕ) (is : k ≡ take_needs (last_used rs) (length rs) (length st)) where
  take_none : lengths (length rs) (length st) ≡ false → take_of q rs st buffer ≡ beside_taken (drop k rs)
      (take_first q (length rs) (take k rs) st buffer)
  unfolding take_first beside_taken
  take_none t =
      let e : take_refuses (take k rs) buffer 9 ≡ take_first q (length rs) (take k rs) st buffer = true-no _ _ _ _ t refl in
      take-unfit q rs st buffer t ∙ ap (λ (cs : List Cell). take_refuses cs buffer 9) (sym (take-append-drop k rs))
      ∙ ap (beside_taken (drop k rs)) e

  -- A take is that over the first k records, with the others beside them.
  pub take-enough : take_of q rs st buffer ≡ beside_taken (drop k rs) (take_first q (length rs) (take k rs) st buffer)
  take-enough = cases (lengths (length rs) (length st))
      (needed-fit rs st k is (λ cs. take_of q cs st buffer) (λ first rest n. beside_taken rest (take_first q n first st buffer))
      (λ first rest. take-first q first rest st buffer))
      take_none

module _ (q : RecvQueue) (rs : List Cell) (st : List ℕ) (n k : ℕ) (is : k ≡ take_needs (last_used rs) (length rs) (length st)) where
  drop_none : lengths (length rs) (length st) ≡ false → drop_unfinished_of q rs st n ≡ beside_dropped (drop k rs)
      (drop_first q (length rs) (take k rs) st n)
  unfolding drop_first beside_dropped
  drop_none t =
      let e : drop_refuses (take k rs) ≡ drop_first q (length rs) (take k rs) st n = true-no _ _ _ _ t refl in
      drop-unfit q rs st n t ∙ ap drop_refuses (sym (take-append-drop k rs)) ∙ ap (beside_dropped (drop k rs)) e

  -- So is a drop.
  pub drop-enough : drop_unfinished_of q rs st n ≡ beside_dropped (drop k rs) (drop_first q (length rs) (take k rs) st n)
  drop-enough = cases (lengths (length rs) (length st))
      (needed-fit rs st k is (λ cs. drop_unfinished_of q cs st n) (λ first rest cells. beside_dropped rest (drop_first q cells first st n))
      (λ first rest. drop-first q first rest st n))
      drop_none
