-- A receive over all records is one over the first, where the rest is unused and the first have an unused one for each frame.
-- Assumes nothing.
use Prim.Native.Nat.{ℕ, ◌+◌, ◌*◌, ◌≤◌}
use mathlib.Core.Path.{◌≡◌, refl, sym, ◌∙◌, ap}
use mathlib.Core.Bool.{Bool, true, false, true≢false, false≢true}
use mathlib.Core.List.{List, [], ◌∷◌, ◌++◌, append-nil, Memᴰ}
use native.Mathlib.Omega.{arith}
use lib.Dec.{eqb}
use lib.ListN.{length, take, drop, length-append, length-map, take-append-drop}
use lib.Seq.{take-length, drop-length}
use Rattle.base.specs.If.{if_true, if_lt, if_le}
use Rattle.base.specs.Limits.{cell_bytes, min_datagram, max_datagram, max_unsent, window_places}
use Rattle.base.specs.Lists.{every, count_of}
use Rattle.base.specs.Numbers.{distance}
use Rattle.base.proofs.Choices.{cases, same-option}
use Rattle.base.proofs.Ifs.{true-yes, true-no, le_yes}
use Rattle.window.specs.declared.ReliableWindow.{ReliableWindow}
use Rattle.frame.specs.Frames.{frames_of}
use Rattle.cells.specs.Cell.{Cell, Slot, is_free}
use Rattle.cells.specs.Datagram.{Work, with_slots, place, sweep, end, datagram}
use Rattle.cells.specs.Sound.{lengths}
use Rattle.cells.specs.Store.{cell_size, slots_of, cells_of, store_of}
use Rattle.cells.proofs.Store.{cells-slots}
use Rattle.receiver.specs.declared.RecvQueue.{RecvQueue}
use Rattle.receiver.specs.Queue.{profile_in}
use Rattle.receiver.specs.Receive.{Received, datagram_number, frame_in, frames_in, accept_all, state_of, accepted_result, refused_result}
use Rattle.receiver.specs.Receive.{sound_call, receive_of}
use Rattle.receiver.proofs.Receives.{bodies-short}
use Rattle.recv_prefix.specs.First.{is_unused}
use Rattle.recv_prefix.specs.Receiving.{with_rest, beside, receive_first}
use Rattle.recv_prefix.proofs.Sound.{store_long, part-long, sound-first}
use Rattle.recv_prefix.proofs.Beside.{slots-append, slots-free}
use Rattle.recv_prefix.proofs.Datagrams.{slots-count, slots-many, store-append, store-free, datagram-many, sweep-beside}
use Rattle.recv_prefix.proofs.Datagrams.{datagram-beside, cells-append}

-- Choices by equal tests are related where their arms are.
same_true : {A : Type 0} (R : A → A → Type 0) (b b' : Bool) → b ≡ b' → {x y x' y' : A} → (b ≡ true → R x x') → (b ≡ false → R y y')
    → R (if_true b x y) (if_true b' x' y')
unfolding if_true
same_true R true true e f g = f refl
same_true R true false e f g = absurd (true≢false e)
same_true R false true e f g = absurd (false≢true e)
same_true R false false e f g = g refl

module _ {A : Type 0} (R : A → A → Type 0) (a b : ℕ) {x y x' y' : A} where
  same-lt : R x x' → R y y' → R (if_lt a b x y) (if_lt a b x' y')
  unfolding if_lt
  same-lt f g = same_true R _ _ refl (λ t. f) (λ t. g)

  same-le : R x x' → R y y' → R (if_le a b x y) (if_le a b x' y')
  unfolding if_le
  same-le f g = same_true R _ _ refl (λ t. f) (λ t. g)

-- ---- the first records in their own bytes a, the rest in the bytes b

module _ (q : RecvQueue) (first rest : List Cell) (a b d : List ℕ) (unused : every is_unused rest ≡ true)
    (exact : length a ≡ length first * cell_size) where
  -- the rest of the records and of the bytes as they were
  abbrev More : Received → Received → Type 0
  More x y = x ≡ beside rest (with_rest b y)

  refused-more : (n : ℕ) → More (refused_result q (first ++ rest) (a ++ b) n) (refused_result q first a n)
  unfolding refused_result beside with_rest
  refused-more n = refl

  -- the slots after those of the first records
  abbrev others : List Slot
  others = slots_of rest b

  others-free : every is_free others ≡ true
  others-free = slots-free rest b ∙ unused

  work : Work
  work = datagram (state_of q first a) (frames_in (profile_in q) d)

  work-many : length work.state.slots ≡ length first
  unfolding state_of work
  work-many = datagram-many (state_of q first a) (frames_in (profile_in q) d) ∙ slots-many first a

  module _ (short : (c : Cell) → Memᴰ c first → eqb c.used 0 ≡ false → c.length ≤ cell_size)
      (room : length (frames_of (profile_in q) d min_datagram) ≤ count_of is_unused first) where
    work-more : datagram (state_of q (first ++ rest) (a ++ b)) (frames_in (profile_in q) d) ≡ place (work.state.slots ++ others) work
    unfolding state_of frames_in work
    work-more =
        ap (λ (l : List Slot). datagram (with_slots l (state_of q first a)) (frames_in (profile_in q) d))
        (slots-append first rest a b short exact)
        ∙ datagram-beside others others-free (state_of q first a) (frames_in (profile_in q) d)
        (rw (slots-count first a, length-map (frames_of (profile_in q) d min_datagram) (frame_in d)) room)

    records-more : cells_of (sweep (work.state.slots ++ others)) ≡ cells_of (sweep work.state.slots) ++ rest
    records-more = ap cells_of (sweep-beside others others-free work.state.slots) ∙ cells-append (sweep work.state.slots) others
        ∙ ap (λ (l : List Cell). cells_of (sweep work.state.slots) ++ l) (cells-slots rest b)

    store-more : store_of (a ++ b) (work.state.slots ++ others) ≡ store_of a work.state.slots ++ b
    store-more = store-free work.state.slots others (a ++ b) others-free ∙ store-append work.state.slots a b
        (rw work-many (omega arith))

    accepted-more : (v : ReliableWindow) → More (accepted_result q (a ++ b) d v (place (work.state.slots ++ others) work))
        (accepted_result q a d v work)
    unfolding accepted_result place end beside with_rest
    accepted-more v = rw (records-more, store-more)

    full-more : (w : Work) → w ≡ place (work.state.slots ++ others) work → w.full ≡ work.full
    unfolding place
    full-more w e = ap (λ (z : Work). z.full) e

  receive-more : sound_call q (first ++ rest) (a ++ b) ≡ sound_call q first a
      → length (frames_of (profile_in q) d min_datagram) ≤ count_of is_unused first
      → More (receive_of q (first ++ rest) (a ++ b) d) (receive_of q first a d)
  unfolding receive_of work
  receive-more same room =
      same_true More (sound_call q (first ++ rest) (a ++ b)) (sound_call q first a) same
      (λ s. same-lt More (length d) min_datagram (refused-more 1)
      (same-lt More max_datagram (length d) (refused-more 2)
      (same_true More _ _ refl
      (λ i. same_true More _ _ refl (λ o. refused-more 4)
      (λ o. same-lt More window_places (distance q.datagrams.low (datagram_number d)) (refused-more 5)
      (same-le More max_unsent q.pending (refused-more 6)
      (same-option More (accept_all q.reliables (frames_in (profile_in q) d)) (accept_all q.reliables (frames_in (profile_in q) d)) refl
      (λ e. refused-more 7)
      (λ v e. let short = bodies-short q first a (sym same ∙ s) in
      same_true More _ _ (full-more short room _ (work-more short room)) (λ f. refused-more 8)
      (λ f. ap (accepted_result q (a ++ b) d v) (work-more short room) ∙ accepted-more short room v))))))
      (λ i. refused-more 3))))
      (λ s. refused-more 9)

-- ---- where no records are left

beside_none : (r : Received) → beside [] (with_rest [] r) ≡ r
unfolding beside with_rest
beside_none r = rw (append-nil r.records, append-nil r.store)

module _ (q : RecvQueue) (first : List Cell) (st d : List ℕ) (all : length st ≡ cell_bytes * length first) where
  bytes-all : take (cell_bytes * length first) st ≡ st
  bytes-all = rw (← all) (take-length st)

  bytes-none : drop (cell_bytes * length first) st ≡ []
  bytes-none = rw (← all) (drop-length st)

  receive-same : receive_of q (first ++ []) st d ≡ beside [] (with_rest (drop (cell_bytes * length first) st)
      (receive_of q first (take (cell_bytes * length first) st) d))
  receive-same = rw (append-nil first, bytes-all, bytes-none) (sym (beside_none (receive_of q first st d)))

-- ---- the law

-- The lengths fit: the part of the store that the first records have, and the rest of it.
module _ (q : RecvQueue) (first rest : List Cell) (st d : List ℕ) (unused : every is_unused rest ≡ true) (some : 1 ≤ length first)
    (fit : lengths (length first + length rest) (length st) ≡ true) where
  abbrev part : List ℕ
  part = take (cell_bytes * length first) st

  abbrev others-bytes : List ℕ
  others-bytes = drop (cell_bytes * length first) st

  exact : length part ≡ length first * cell_size
  unfolding cell_size
  exact = part-long first rest st fit ∙ (omega arith)

  receive-split : length (frames_of (profile_in q) d min_datagram) ≤ count_of is_unused first → receive_of q (first ++ rest) st d
      ≡ beside rest (with_rest others-bytes (receive_of q first part d))
  receive-split room =
      let whole : part ++ others-bytes ≡ st = take-append-drop (cell_bytes * length first) st in
      ap (λ (s : List ℕ). receive_of q (first ++ rest) s d) (sym whole)
      ∙ receive-more q first rest part others-bytes d unused exact (ap (sound_call q (first ++ rest)) whole ∙ sound-first q first rest st
      unused some fit) room

  receive-fitting : ((rest ≡ [] → ⊥) → length (frames_of (profile_in q) d min_datagram) ≤ count_of is_unused first)
      → receive_of q (first ++ rest) st d ≡ beside rest (with_rest others-bytes (receive_of q first part d))
  receive-fitting room = by-rest rest refl
    where
      by-rest : (l : List Cell) → rest ≡ l → receive_of q (first ++ rest) st d
          ≡ beside rest (with_rest others-bytes (receive_of q first part d))
      by-rest [] e = rw e (receive-same q first st d (store_long first rest st fit
          ∙ ap (λ (l : List Cell). cell_bytes * (length first + length l)) e ∙ (omega arith)))
      by-rest (c ∷ cs) e = receive-split (room (λ n. let z : length (c ∷ cs) ≡ 0 = ap length (sym e ∙ n) in absurd (omega arith)))

-- "9 slice lengths"
pub receive-unfit : (q : RecvQueue) (rs : List Cell) (st d : List ℕ) → lengths (length rs) (length st) ≡ false → receive_of q rs st d
    ≡ refused_result q rs st 9
unfolding receive_of sound_call
receive-unfit q rs st d e = sym (true-no _ _ _ _ (rw e) refl)

-- Records after the first ones do not matter to a receive where they are unused and the first have an unused one for each frame of the
-- datagram.
pub receive-first : (q : RecvQueue) (first rest : List Cell) (st d : List ℕ) → every is_unused rest ≡ true → 1 ≤ length first
    → ((rest ≡ [] → ⊥) → length (frames_of (profile_in q) d min_datagram) ≤ count_of is_unused first)
    → receive_of q (first ++ rest) st d ≡ beside rest (receive_first q (length first + length rest) first st d)
unfolding receive_first
receive-first q first rest st d unused some room = cases (lengths (length first + length rest) (length st))
    (λ fit. receive-fitting q first rest st d unused some fit room
    ∙ ap (beside rest) (true-yes _ _ _ _ fit (le_yes _ _ _ _ _ (omega arith) refl)))
    (λ unfit. receive-unfit q (first ++ rest) st d (rw (length-append first rest) unfit)
    ∙ (refused-beside ∙ ap (beside rest) (true-no _ _ _ _ unfit refl)))
  where
    refused-beside : refused_result q (first ++ rest) st 9 ≡ beside rest (refused_result q first st 9)
    refused-beside = unfold refused_result beside in refl
