-- What step 4 does with a message, found from the channel's next number and the rows, or from its memory; each case with the facts as the
-- code finds them.
-- Assumes nothing.
use Prim.Native.Nat.{ℕ, ◌≤◌, ◌<◌}
use mathlib.Core.Path.{◌≡◌, refl, sym, ◌∙◌}
use mathlib.Core.Bool.{Bool, true, false}
use mathlib.Core.Logic.{◌⊎◌, inl, inr}
use mathlib.Core.List.{List}
use borrow.Author.Tests.{lt-ltb, le-ltb, eq-eqb, ne_eqb}
use native.Mathlib.Omega.{arith}
use Rattle.base.specs.Answer.{refused, gives}
use Rattle.base.specs.Lists.{any}
use Rattle.reliability.specs.declared.Reliability.{Reliability}
use Rattle.reliability.specs.declared.Reliability.TheVariants.{Unreliable, UnreliableSeq, Reliable, ReliableOrd}
use Rattle.reliability.specs.declared.Reliability.TheVariants.{ReliableSeq, UnreliableAck, ReliableAck, ReliableOrdAck}
use Rattle.reliability.specs.Kinds.{kind_number, kind_named}
use Rattle.reliability.proofs.Named.{kind_told, none_told}
use Rattle.frame.specs.declared.Placed.{Placed}
use Rattle.bare.specs.Frame.{ordered, sequenced}
use Rattle.bare.specs.Bare.{memory_of, older}
use Rattle.cells.specs.Cell.{held_as, bears}
use Rattle.cells.specs.Datagram.{fate, fate_of, is_held}
use Rattle.rows.specs.declared.Row.{Row}
use Rattle.rows.specs.Rows.{cells_in}
use Rattle.row_slots.specs.Slots.{slots_in}
use Rattle.row_slots.proofs.Tests.{held_rows}
use Rattle.receiver.specs.Receive.{frame_in}
use Rattle.receiver.specs.declared.Nexts.{Nexts}
use Rattle.receiver.specs.Parts.{next_at, newest_at}
use Rattle.recv_steps.specs.declared.Tally.{Tally}
use Rattle.recv_steps.specs.declared.Course.TheVariants.{Late, Early, Due, Newer, Free}
use Rattle.recv_steps.specs.Work.{work_of, fate_is}

-- ---- a frame's kind, as the code reads it

module _ (k : ℕ) (kind : Reliability) (e : gives kind ≡ kind_named k) where
  told : k ≡ kind_number kind
  told = kind_told kind k e

  pub kind-ordered : (kind ≡ ReliableOrd) ⊎ (kind ≡ ReliableOrdAck) → ordered k ≡ true
  unfolding ordered
  kind-ordered = elim [ inl q ↦ rw (told, q) | inr q ↦ rw (told, q) ]

  module _ (s : (kind ≡ UnreliableSeq) ⊎ (kind ≡ ReliableSeq)) where
    pub kind-not_ordered : ordered k ≡ false
    unfolding ordered
    kind-not_ordered = elim s [ inl q ↦ rw (told, q) | inr q ↦ rw (told, q) ]

    pub kind-sequenced : sequenced k ≡ true
    unfolding sequenced
    kind-sequenced = elim s [ inl q ↦ rw (told, q) | inr q ↦ rw (told, q) ]

  pub kind-other_3_7 : (kind ≡ ReliableOrd → ⊥) → (kind ≡ ReliableOrdAck → ⊥) → ordered k ≡ false
  unfolding ordered
  kind-other_3_7 m n = rw told (by kind m n)
    where
      by : (i : Reliability) → (i ≡ ReliableOrd → ⊥) → (i ≡ ReliableOrdAck → ⊥) → ordered (kind_number i) ≡ false
      by Unreliable m n = refl
      by UnreliableSeq m n = refl
      by Reliable m n = refl
      by ReliableOrd m n = absurd (m refl)
      by ReliableSeq m n = refl
      by UnreliableAck m n = refl
      by ReliableAck m n = refl
      by ReliableOrdAck m n = absurd (n refl)

  pub kind-other_1_4 : (kind ≡ UnreliableSeq → ⊥) → (kind ≡ ReliableSeq → ⊥) → sequenced k ≡ false
  unfolding sequenced
  kind-other_1_4 m n = rw told (by kind m n)
    where
      by : (i : Reliability) → (i ≡ UnreliableSeq → ⊥) → (i ≡ ReliableSeq → ⊥) → sequenced (kind_number i) ≡ false
      by Unreliable m n = refl
      by UnreliableSeq m n = absurd (m refl)
      by Reliable m n = refl
      by ReliableOrd m n = refl
      by ReliableSeq m n = absurd (n refl)
      by UnreliableAck m n = refl
      by ReliableAck m n = refl
      by ReliableOrdAck m n = refl

-- A number that is no kind's is neither.
module _ (k m : ℕ) (e : refused m ≡ kind_named k) where
  large : 8 ≤ k
  large = none_told k m e

  pub none-ordered : ordered k ≡ false
  unfolding ordered
  none-ordered = rw (ne_eqb k 3 (λ q. let h = large in omega arith), ne_eqb k 7 (λ q. let h = large in omega arith))

  pub none-sequenced : sequenced k ≡ false
  unfolding sequenced
  none-sequenced = rw (ne_eqb k 1 (λ q. let h = large in omega arith), ne_eqb k 4 (λ q. let h = large in omega arith))

-- ---- the cases
module _ (rs : List Row) (ns : Nexts) (p : Placed) where
  module _ (t : ordered p.frame.kind ≡ false) where
    pub fate-free : sequenced p.frame.kind ≡ false → (x : Tally) (a : ℕ → Bool) (store d : List ℕ) → fate_is Free
        ≡ fate_of (frame_in d p) (work_of a x ns rs store d)
    unfolding fate_is fate_of frame_in fate
    fate-free u x a store d = rw (t, u)

    module _ (u : sequenced p.frame.kind ≡ true) (o : Bool)
        (eo : o ≡ older (newest_at ns) (memory_of ns.profile p.frame.kind p.frame.channel) p.frame.sequence)
      where
        pub fate-older : o ≡ true → (x : Tally) (a : ℕ → Bool) (store d : List ℕ) → fate_is Late
            ≡ fate_of (frame_in d p) (work_of a x ns rs store d)
        unfolding fate_is fate_of frame_in fate work_of
        fate-older y x a store d = rw (t, u, sym eo ∙ y)

        pub fate-newer : o ≡ false → (x : Tally) (a : ℕ → Bool) (store d : List ℕ) → fate_is Newer
            ≡ fate_of (frame_in d p) (work_of a x ns rs store d)
        unfolding fate_is fate_of frame_in fate work_of
        fate-newer y x a store d = rw (t, u, sym eo ∙ y)

  module _ (t : ordered p.frame.kind ≡ true) (n : ℕ) (en : n ≡ next_at ns p.frame.channel) where
    pub fate-behind : p.frame.order < n → (x : Tally) (a : ℕ → Bool) (store d : List ℕ) → fate_is Late
        ≡ fate_of (frame_in d p) (work_of a x ns rs store d)
    unfolding fate_is fate_of frame_in fate work_of
    fate-behind lt x a store d = rw (t, ← en, lt-ltb p.frame.order n lt)

    module _ (ge : n ≤ p.frame.order) (h : Bool) (eh : h ≡ any (bears (held_as p.frame.channel p.frame.order)) (cells_in rs)) where
      held : (store d : List ℕ) → is_held p.frame.channel p.frame.order (slots_in rs store d) ≡ h
      unfolding cells_in
      held store d = held_rows rs store d p.frame.channel p.frame.order ∙ sym eh

      pub fate-held : h ≡ true → (x : Tally) (a : ℕ → Bool) (store d : List ℕ) → fate_is Late
          ≡ fate_of (frame_in d p) (work_of a x ns rs store d)
      unfolding fate_is fate_of frame_in fate work_of
      fate-held y x a store d = rw (t, ← en, le-ltb p.frame.order n ge, held store d ∙ y)

      pub fate-due : h ≡ false → p.frame.order ≡ n → (x : Tally) (a : ℕ → Bool) (store d : List ℕ) → fate_is Due
          ≡ fate_of (frame_in d p) (work_of a x ns rs store d)
      unfolding fate_is fate_of frame_in fate work_of
      fate-due y q x a store d = rw (t, ← en, le-ltb p.frame.order n ge, held store d ∙ y, eq-eqb p.frame.order n q)

      pub fate-early : h ≡ false → (p.frame.order ≡ n → ⊥) → (x : Tally) (a : ℕ → Bool) (store d : List ℕ) → fate_is Early
          ≡ fate_of (frame_in d p) (work_of a x ns rs store d)
      unfolding fate_is fate_of frame_in fate work_of
      fate-early y q x a store d = rw (t, ← en, le-ltb p.frame.order n ge, held store d ∙ y, ne_eqb p.frame.order n q)

-- what `fate_of` needs
pub ruleset fates = (
  kind-ordered,
  kind-not_ordered,
  kind-sequenced,
  kind-other_3_7,
  kind-other_1_4,
  none-ordered,
  none-sequenced,
  fate-free,
  fate-older,
  fate-newer,
  fate-behind,
  fate-held,
  fate-due,
  fate-early,
)
