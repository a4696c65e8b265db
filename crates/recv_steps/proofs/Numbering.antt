-- Step 1: a frame's reliable number inserted, and what that says of the window and of the working state.
-- Assumes nothing.
use Prim.Native.Nat.{ℕ, ◌+◌, ◌≤◌, ◌<◌}
use mathlib.Core.Path.{◌≡◌, refl, sym, ◌∙◌, ap}
use mathlib.Core.Bool.{Bool, true, false, ◌||◌}
use mathlib.Core.Option.{none}
use mathlib.Core.List.{List, ◌∷◌}
use native.Mathlib.Omega.{arith}
use lib.Dec.{eqb}
use borrow.Author.Tests.{lt-ltb, le-ltb}
use Rattle.base.specs.declared.refusal.Refusal.{Refusal}
use Rattle.base.specs.declared.refusal.Refusal.TheVariants as refusal
use Rattle.base.specs.Refusals.{number_of}
use Rattle.base.specs.Limits.{numbers24, window_places}
use Rattle.base.specs.Numbers.{distance}
use Rattle.base.proofs.Choices.{cases}
use Rattle.window.specs.declared.ReliableWindow.{ReliableWindow}
use Rattle.window.specs.Proper.{Sized}
use Rattle.window.specs.Window as Window
use Rattle.window.specs.Window.{Insertion, insert_of, give, refuse}
use Rattle.window.proofs.Inserts.{insert-ways, accept-accepts}
use Rattle.frame.specs.declared.Placed.{Placed}
use Rattle.bare.specs.Frame.{Frame, carries_reliable}
use Rattle.bare.specs.Bare.{accept_reliable, seen_before}
use Rattle.cells.specs.Datagram.{Work, accept_in, frame}
use Rattle.rows.specs.declared.Row.{Row}
use Rattle.receiver.specs.declared.Nexts.{Nexts}
use Rattle.receiver.specs.Receive.{frame_in, accept_all}
use Rattle.recv_steps.specs.declared.Tally.{Tally}
use Rattle.recv_steps.specs.CountChanges.{dropped_one}
use Rattle.recv_steps.specs.Work.{work_of}
use Rattle.recv_steps.specs.Moves.{Moves, limited}
use Rattle.recv_steps.specs.Frames.{number_in}
use Rattle.recv_steps.proofs.Moving.{moves-drop}

-- The other refusals have other numbers.
pub five-beyond : (r : Refusal) → number_of r ≡ 5 → r ≡ refusal.Beyond
five-beyond refusal.Cut e = absurd (omega arith)
five-beyond refusal.TooLong e = absurd (omega arith)
five-beyond refusal.FirstByte e = absurd (omega arith)
five-beyond refusal.Old e = absurd (omega arith)
five-beyond refusal.Beyond e = refl
five-beyond refusal.UnsentFull e = absurd (omega arith)
five-beyond refusal.ReliableBeyond e = absurd (omega arith)
five-beyond refusal.CellsFull e = absurd (omega arith)
five-beyond refusal.NotSound e = absurd (omega arith)
five-beyond refusal.UnknownType e = absurd (omega arith)
five-beyond refusal.Reversed e = absurd (omega arith)
five-beyond refusal.NoRoom e = absurd (omega arith)
five-beyond refusal.TooLarge e = absurd (omega arith)
five-beyond refusal.NotAscending e = absurd (omega arith)
five-beyond refusal.OverLimit e = absurd (omega arith)
five-beyond refusal.BadMtu e = absurd (omega arith)
five-beyond refusal.FitsOneChunk e = absurd (omega arith)
five-beyond refusal.TooManyPieces e = absurd (omega arith)
five-beyond refusal.BeyondLast e = absurd (omega arith)
five-beyond refusal.NoneReady e = absurd (omega arith)
five-beyond refusal.BadForm e = absurd (omega arith)
five-beyond refusal.NotRestorable e = absurd (omega arith)

-- ---- two ways of an insert that differ
given-refused : {X : Type 0} (v w : ReliableWindow) (n : ℕ) → give v ≡ refuse n w → X
given-refused v w n e = absurd (let q = ap (λ (i : Insertion). i.answer) e in cc)

same-number : (v w : ReliableWindow) (m n : ℕ) → refuse m v ≡ refuse n w → m ≡ n
same-number v w m n e = let q = ap (λ (i : Insertion). i.answer) e in cc

module _ (w : ReliableWindow) (p : Placed) (small : p.frame.reliable < numbers24) where
  -- The ways of an insert: no number; a fresh one within reach; one accepted before; one beyond reach.
  ways : (P : Insertion → Type 0) → (carries_reliable p.frame.kind ≡ false → P (give w))
      → (carries_reliable p.frame.kind ≡ true → Window.accepted w p.frame.reliable ≡ false → p.frame.reliable ≤ w.low +
      window_places → P (give (Window.accept w p.frame.reliable)))
      → (carries_reliable p.frame.kind ≡ true → Window.accepted w p.frame.reliable ≡ true → P (refuse 4 w))
      → (carries_reliable p.frame.kind ≡ true → Window.accepted w p.frame.reliable ≡ false → w.low + window_places < p.frame.reliable
      → P (refuse 5 w))
      → P (number_in w p)
  unfolding number_in
  ways P plain fresh seen far = cases (carries_reliable p.frame.kind)
      (λ c. rw c (insert-ways w p.frame.reliable P
      (λ large. absurd (omega arith))
      (λ less a. seen c a)
      (λ less a above. far c a above)
      (λ less a near. fresh c a near)))
      (λ c. rw c (plain c))

  -- The insert refuses with number n, and this is not 5: the number was accepted before, and the window stays.
  Seen : ReliableWindow → Type 0
  Seen v = (v ≡ w) × (carries_reliable p.frame.kind ≡ true) × (Window.accepted w p.frame.reliable ≡ true)

  number-seen : (n : ℕ) (v : ReliableWindow) → (n ≡ 5 → ⊥) → refuse n v ≡ number_in w p → Seen v
  unfolding Seen
  number-seen n v ne = ways (λ i. refuse n v ≡ i → (v ≡ w) × (carries_reliable p.frame.kind ≡ true)
      × (Window.accepted w p.frame.reliable ≡ true))
      (λ c e. given-refused w v n (sym e))
      (λ c a near e. given-refused _ v n (sym e))
      (λ c a e. (ap (λ (i : Insertion). i.window) e, c, a))
      (λ c a above e. absurd (ne (same-number v w n 5 e)))

  module _ (d : List ℕ) where
    module _ (fs : List Frame) where
      -- Beyond reach: refusal 7.
      pub number-beyond : (v : ReliableWindow) → refuse 5 v ≡ number_in w p → accept_all w (frame_in d p ∷ fs) ≡ none
      number-beyond v = ways (λ i. refuse 5 v ≡ i → accept_all w (frame_in d p ∷ fs) ≡ none)
          (λ c e. given-refused w v 5 (sym e))
          (λ c a near e. given-refused _ v 5 (sym e))
          (λ c a e. absurd (let z = same-number v w 5 4 e in omega arith))
          (λ c a above e. unfold accept_all frame_in in rw (c, a, lt-ltb window_places (distance w.low p.frame.reliable) (omega arith)))

      -- Else the numbers of the frames after it are accepted from the window after its own.
      pub number-goes : (v : ReliableWindow) → give v ≡ number_in w p → accept_all w (frame_in d p ∷ fs) ≡ accept_all v fs
      number-goes v = ways (λ i. give v ≡ i → accept_all w (frame_in d p ∷ fs) ≡ accept_all v fs)
          (λ c e. rw (ap (λ (i : Insertion). i.window) e) (unfold accept_all frame_in in rw c))
          (λ c a near e. rw (ap (λ (i : Insertion). i.window) e)
          (unfold accept_all frame_in in rw (c, a, le-ltb window_places (distance w.low p.frame.reliable) (omega arith))))
          (λ c a e. given-refused v w 4 e)
          (λ c a above e. given-refused v w 5 e)

      pub number-skips : (n : ℕ) (v : ReliableWindow) → (n ≡ 5 → ⊥) → refuse n v ≡ number_in w p → accept_all w (frame_in d p ∷ fs)
          ≡ accept_all v fs
      unfolding accept_all frame_in Seen
      number-skips n v ne e = let s = number-seen n v ne e in rw (s.0, s.1, s.2)

    module _ (x : Tally) (ns : Nexts) (rs : List Row) where
      abbrev before : List ℕ → Work
      before store = work_of (Window.accepted w) x ns rs store d

      -- Accepted before: the frame is dropped.
      pub number-drops : (n : ℕ) (v : ReliableWindow) → (n ≡ 5 → ⊥) → refuse n v ≡ number_in w p → (store : List ℕ)
          → work_of (Window.accepted v) (dropped_one x) ns rs store d ≡ frame (before store) (frame_in d p)
      unfolding frame seen_before frame_in work_of Seen
      number-drops n v ne e store = let s = number-seen n v ne e in
          rw (s.0, s.1, s.2) ((moves-drop d x ns rs).is (Window.accepted w) store)

      module _ (y : Tally) (ns' : Nexts) (rs' : List Row) (places : carries_reliable p.frame.kind ≡ true → Sized w) where
        -- The working state once the number is accepted.
        taken : carries_reliable p.frame.kind ≡ true → Window.accepted w p.frame.reliable ≡ false → p.frame.reliable ≤ w.low +
            window_places → (store : List ℕ)
            → work_of (Window.accepted (Window.accept w p.frame.reliable)) x ns rs store d ≡ accept_in (frame_in d p) (before store)
        unfolding accept_in
        taken c a near store = unfold work_of in ap (λ (k : ℕ → Bool). work_of k x ns rs store d)
            (λ i m. (accept-accepts w p.frame.reliable m (places c) a near ∙ joined m) i)
          where
            joined : (m : ℕ) → (eqb m p.frame.reliable || Window.accepted w m) ≡ accept_reliable (frame_in d p) (Window.accepted w) m
            joined m = unfold accept_reliable frame_in in rw c

        -- A frame that carries no number accepts none.
        untaken : carries_reliable p.frame.kind ≡ false → (store : List ℕ) → before store ≡ accept_in (frame_in d p) (before store)
        unfolding accept_in
        untaken c store = unfold work_of in ap (λ (k : ℕ → Bool). work_of k x ns rs store d) (λ i m. same m i)
          where
            same : (m : ℕ) → Window.accepted w m ≡ accept_reliable (frame_in d p) (Window.accepted w) m
            same m = unfold accept_reliable frame_in in rw c

        opened : seen_before (frame_in d p) (Window.accepted w) ≡ false → (store : List ℕ)
            → limited (frame_in d p) (accept_in (frame_in d p) (before store)) ≡ frame (before store) (frame_in d p)
        opened e store = unfold limited frame work_of in rw e

        pub number-keeps : (v : ReliableWindow) → Moves d (limited (frame_in d p)) x ns rs y ns' rs' → give v ≡ number_in w p
            → (store : List ℕ) → work_of (Window.accepted v) y ns' rs' store d ≡ frame (before store) (frame_in d p)
        number-keeps v m = ways (λ i. give v ≡ i → (store : List ℕ)
            → work_of (Window.accepted v) y ns' rs' store d ≡ frame (before store) (frame_in d p))
            (λ c e store. rw (ap (λ (i : Insertion). i.window) e) (m.is (Window.accepted w) store
            ∙ (ap (limited (frame_in d p)) (untaken c store) ∙ opened (unfold seen_before frame_in in rw c) store)))
            (λ c a near e store. rw (ap (λ (i : Insertion). i.window) e) (m.is (Window.accepted (Window.accept w p.frame.reliable)) store
            ∙ (ap (limited (frame_in d p)) (taken c a near store) ∙ opened (unfold seen_before frame_in in rw (c, a)) store)))
            (λ c a e. given-refused v w 4 e)
            (λ c a above e. given-refused v w 5 e)
