-- The ways through restore, and its answers exactly: what a save of a sound receiver writes restores; 21; 22; what restores is what a save
-- of the restored receiver writes, byte for byte; and a refusal changes nothing.
-- Assumes nothing.
use Prim.Native.Nat.{ℕ, ◌≤◌}
use mathlib.Core.Path.{◌≡◌, refl, sym, ◌∙◌, ap, subst}
use mathlib.Core.Logic.{◌↔◌, ◌⊎◌}
use mathlib.Core.Bool.{Bool, true, false, not}
use mathlib.Core.Option.{Option, none, some}
use mathlib.Core.List.{List, []}
use native.Mathlib.Omega.{arith}
use lib.Dec.{eqb}
use lib.ListN.{length, take}
use Rattle.base.specs.Answer.{Answer, refused, gives}
use Rattle.base.specs.Bytes.{Bytes}
use Rattle.base.specs.If.{if_true}
use Rattle.base.specs.Lists.{count_of}
use Rattle.base.proofs.Choices.{by_option, neither}
use Rattle.cells.specs.Cell.{unused_use}
use Rattle.cells.specs.Sound.{lengths}
use Rattle.image.specs.Image.{Image, image_bytes, read_image}
use Rattle.image.specs.Slots.{used_slots}
use Rattle.image.proofs.ImageBytes.{FitsImage, write-then-read, read-then-write, none-some, read-none}
use Rattle.image.proofs.ImageCuts.{CutShort, Overlong, read-none-exactly}
use Rattle.receiver.specs.Receiver.{Receiver, sound_receiver, Sound}
use Rattle.receiver.specs.Save.{image_of, Saved, save_of}
use Rattle.receiver.specs.Restore.{restored, valid, Restored, restore_refuses, restore_of}
use Rattle.receiver.specs.Holds.{Same}
use Rattle.receiver.specs.Calls.{resume, refusal_of, restored_or, restore_outcome, resume_outcome, outcome}
use Rattle.receiver.proofs.AnswerCases.{by-true}
use Rattle.receiver.proofs.Equal.{fits}
use Rattle.receiver.proofs.SaveAnswers.{put-first, bytes_of, save-ways, save-writes}
use Rattle.receiver.proofs.Exact.{needed-cells, own-cells-enough, restored-sound, restored-holds, restored-image, image-valid}
use Rattle.receiver.proofs.Exact.{Writes, valid-exactly, valid-room, valid-image, valid-receiver}

some-is : {A : Type 0} {a b : A} (o : Option A) → o ≡ some a → o ≡ some b → a ≡ b
some-is {A} {a} {b} o e f = let g : ◌≡◌ {A = Option A} (some a) (some b) = sym e ∙ f in cc

-- the answers differ
abbrev Done : Answer (Unit {0})
Done = gives tt

refused-done : {X : Type 0} {n : ℕ} → ◌≡◌ {A = Answer (Unit {0})} (refused n) Done → X
refused-done e = absurd (let z : ◌≡◌ {A = ℕ} 0 1 = cc in omega arith)

done-refused : {X : Type 0} {n : ℕ} → ◌≡◌ {A = Answer (Unit {0})} Done (refused n) → X
done-refused e = absurd (let z : ◌≡◌ {A = ℕ} 0 1 = cc in omega arith)

refused-same : {n m : ℕ} → ◌≡◌ {A = Answer (Unit {0})} (refused n) (refused m) → n ≡ m
refused-same e = cc

module _ (y : Receiver) (bytes : List ℕ) where
  abbrev call : Restored
  call = restore_of y.queue y.records y.store bytes

  abbrev long : Bool
  long = lengths (length y.records) (length y.store)

  abbrev pub valid_in : Image → Bool
  valid_in i = valid (length y.records) y.store i

  abbrev pub restore_done : Image → Restored
  restore_done i = record { answer = gives tt; left = restored (length y.records) y.store i }

  pub restore-ways : (P : Restored → Type 0) → (long ≡ false → P (restore_refuses y 9))
      → (long ≡ true → read_image bytes ≡ none → P (restore_refuses y 21))
      → (long ≡ true → (i : Image) → read_image bytes ≡ some i → valid_in i ≡ false → P (restore_refuses y 22))
      → (long ≡ true → (i : Image) → read_image bytes ≡ some i → valid_in i ≡ true → P (restore_done i)) → P call
  unfolding restore_of
  restore-ways P short cut bad done =
      by-true P long
      (λ len. by_option P (read_image bytes) (λ e. cut len e) (λ i e. by-true P (valid_in i) (λ u. done len i e u) (λ u. bad len i e u)))
      short

  -- "A refusal returns its number and the state unchanged": a restore that is refused leaves receiver, records and store.
  pub refused-restore-changes-nothing : (number : ℕ) → call.answer ≡ refused number → call.left ≡ y
  refused-restore-changes-nothing number = restore-ways (λ (r : Restored). r.answer ≡ refused number → r.left ≡ y)
      (λ s e. refl) (λ s c e. refl) (λ s i r b e. refl) (λ s i r b e. done-refused e)

  -- 9 goes by the lengths only,
  pub answer-9 : (call.answer ≡ refused 9) ↔ (long ≡ false)
  answer-9 = restore-ways (λ (r : Restored). (r.answer ≡ refused 9) ↔ (long ≡ false))
      (λ s. ((λ e. s), (λ e. refl)))
      (λ s c. ((λ e. absurd (omega (arith, refused-same e))), (λ f. neither long s f)))
      (λ s i r b. ((λ e. absurd (omega (arith, refused-same e))), (λ f. neither long s f)))
      (λ s i r b. ((λ e. done-refused e), (λ f. neither long s f)))

  module _ (len : long ≡ true) where
    -- then 21 by the reading,
    unread-21 : (call.answer ≡ refused 21) ↔ (read_image bytes ≡ none)
    unread-21 = restore-ways (λ (r : Restored). (r.answer ≡ refused 21) ↔ (read_image bytes ≡ none))
        (λ s. neither long len s)
        (λ s c. ((λ e. c), (λ e. refl)))
        (λ s i r b. ((λ e. absurd (omega (arith, refused-same e))), (λ c. none-some (read_image bytes) c r)))
        (λ s i r b. ((λ e. done-refused e), (λ c. none-some (read_image bytes) c r)))

    -- which is "21 for an image cut or with bytes after its last section": the bytes are some image's cut short, or some image's with
    -- bytes after them;
    pub answer-21 : Bytes bytes → (call.answer ≡ refused 21) ↔ (CutShort bytes ⊎ Overlong bytes)
    answer-21 by = let r = read-none-exactly bytes by in ((λ e. r.0 (unread-21.0 e)), (λ c. unread-21.1 (r.1 c)))

    -- in other words, they are no image's;
    pub no-image-21 : Bytes bytes → (call.answer ≡ refused 21) ↔ ((i : Image) → FitsImage i → bytes ≡ image_bytes i → ⊥)
    no-image-21 by = let r = read-none bytes by in ((λ e. r.0 (unread-21.0 e)), (λ f. unread-21.1 (r.1 f)))

    module _ (i : Image) (by : Bytes bytes) (is : read_image bytes ≡ some i) where
      exactly : (valid_in i ≡ true) ↔ Writes (length y.records) i
      exactly = valid-exactly (length y.records) y.store len i (read-then-write bytes i by is).1

      same-image : (j : Image) → read_image bytes ≡ some j → (b : Bool) → valid_in j ≡ b → valid_in i ≡ b
      same-image j r b u = subst (λ (k : Image). valid_in k ≡ b) (some-is (read_image bytes) r is) u

      -- then "22 for one that no sound receiver's save writes or that needs more cells than lent";
      pub answer-22 : (call.answer ≡ refused 22) ↔ (Writes (length y.records) i → ⊥)
      answer-22 = restore-ways (λ (r : Restored). (r.answer ≡ refused 22) ↔ (Writes (length y.records) i → ⊥))
          (λ s. neither long len s)
          (λ s c. none-some (read_image bytes) c is)
          (λ s j r b. ((λ e w. neither (valid_in i) (exactly.1 w) (same-image j r false b)), (λ f. refl)))
          (λ s j r b. ((λ e. done-refused e), (λ f. absurd (f (exactly.0 (same-image j r true b))))))

      -- and it restores every other.
      pub answer-done : (call.answer ≡ gives tt) ↔ Writes (length y.records) i
      answer-done = restore-ways (λ (r : Restored). (r.answer ≡ gives tt) ↔ Writes (length y.records) i)
          (λ s. neither long len s)
          (λ s c. none-some (read_image bytes) c is)
          (λ s j r b. ((λ e. refused-done e), (λ w. neither (valid_in i) (exactly.1 w) (same-image j r false b))))
          (λ s j r b. ((λ e. exactly.0 (same-image j r true b)), (λ w. refl)))

    -- What restores is what a save of the restored receiver writes, byte for byte; and it is sound.
    pub restored-writes : Bytes bytes → call.answer ≡ gives tt → (image_bytes (image_of call.left) ≡ bytes) × Sound call.left
    restored-writes by = restore-ways
        (λ (r : Restored). r.answer ≡ gives tt → (image_bytes (image_of r.left) ≡ bytes) × Sound r.left)
        (λ s e. refused-done e) (λ s c e. refused-done e) (λ s i r b e. refused-done e)
        (λ s i r b e.
        let f = read-then-write bytes i by r in (
          ap image_bytes (valid-image (length y.records) y.store len i f.1 b) ∙ sym f.0,
          valid-receiver (length y.records) y.store len i f.1 b,
        ))

-- What a sound receiver's save writes restores, over any cells that it fits into, whatever the receiver there was.
pub save-restores : (x : Receiver) → Sound x → (y : Receiver) → lengths (length y.records) (length y.store) ≡ true
    → length (used_slots (image_of x)) ≤ length y.records
    → restore_of y.queue y.records y.store (image_bytes (image_of x)) ≡ restore_done y (image_bytes (image_of x)) (image_of x)
unfolding restore_of if_true
save-restores x v y len room =
    rw (len, write-then-read (image_of x) (fits x v), image-valid x v (length y.records) y.store len room)

-- "a lent store, which may have more cells": as many cells as the saved receiver has are enough.
pub as-many-cells-enough : (x : Receiver) → Sound x → (y : Receiver) → lengths (length y.records) (length y.store) ≡ true
    → length x.records ≤ length y.records
    → restore_of y.queue y.records y.store (image_bytes (image_of x)) ≡ restore_done y (image_bytes (image_of x)) (image_of x)
as-many-cells-enough x v y len le = save-restores x v y len (let a = own-cells-enough x v in omega arith)

-- Bytes restore exactly where a sound receiver's save writes them whose used records are no more than the records lent.
abbrev pub SavedWithRoom : Receiver → List ℕ → Type 0
SavedWithRoom y bytes = (x : Receiver) × Sound x × (image_bytes (image_of x) ≡ bytes)
    × (count_of (λ c. not (eqb c.used unused_use)) x.records ≤ length y.records)

pub restores-exactly : (y : Receiver) (bytes : List ℕ) → lengths (length y.records) (length y.store) ≡ true → Bytes bytes
    → ((restore_of y.queue y.records y.store bytes).answer ≡ gives tt) ↔ SavedWithRoom y bytes
restores-exactly y bytes len by = (there, λ w. back w.0 w.1 w.2 w.3)
  where
    there : (restore_of y.queue y.records y.store bytes).answer ≡ gives tt → SavedWithRoom y bytes
    there = restore-ways y bytes (λ (r : Restored). r.answer ≡ gives tt → SavedWithRoom y bytes)
        (λ s e. refused-done e) (λ s c e. refused-done e) (λ s i r b e. refused-done e) (λ s i r b e. saved i r b)
      where
        saved : (i : Image) → read_image bytes ≡ some i → valid_in y bytes i ≡ true → SavedWithRoom y bytes
        saved i r b =
            let n = length y.records in
            let f = read-then-write bytes i by r in
            let v = valid-receiver n y.store len i f.1 b in
            let g = valid-image n y.store len i f.1 b in
            let a = needed-cells (restored n y.store i) v in
            let c : length (used_slots (image_of (restored n y.store i))) ≡ length (used_slots i) =
            ap (λ (j : Image). length (used_slots j)) g in
            let d = valid-room n y.store i b in
            (restored n y.store i, v, ap image_bytes g ∙ sym f.0, omega arith)

    back : (x : Receiver) → Sound x → image_bytes (image_of x) ≡ bytes
        → count_of (λ c. not (eqb c.used unused_use)) x.records ≤ length y.records
        → (restore_of y.queue y.records y.store bytes).answer ≡ gives tt
    back x v e le = subst (λ (b : List ℕ). (restore_of y.queue y.records y.store b).answer ≡ gives tt) e
        (ap (λ (r : Restored). r.answer) (save-restores x v y len (let a = needed-cells x v in omega arith)))

-- ---- a save, and a restore of what it wrote
module _ (x : Receiver) (v : Sound x) (out : List ℕ) (y : Receiver) (len : lengths (length y.records) (length y.store) ≡ true)
    (room : length (used_slots (image_of x)) ≤ length y.records) where
  -- Where the save gives a length, so many bytes of its output restore, to a sound receiver that holds the same and has the same image.
  pub saved-restores : (n : ℕ) → (save_of x.queue x.records x.store out).answer ≡ gives n
      → (r : Restored) × (restore_of y.queue y.records y.store (take n (save_of x.queue x.records x.store out).out) ≡ r)
      × (r.answer ≡ gives tt) × Sound r.left × Same r.left x × (image_of r.left ≡ image_of x)
  saved-restores n e = (
    restore_done y (image_bytes (image_of x)) (image_of x),
    ap (restore_of y.queue y.records y.store) (save-writes x out n e).first ∙ save-restores x v y len room,
    refl,
    restored-sound x v (length y.records) y.store len room,
    restored-holds x v (length y.records) y.store len room,
    restored-image x v (length y.records) y.store len room,
  )

  -- A resumption of a sound receiver, with an output long enough and cells that it fits into, is never refused.
  pub resumption : length (bytes_of x out) ≤ length out
      → outcome x (resume out y)
      ≡ record { left = restored (length y.records) y.store (image_of x); refusal = none; handed = []; done = [] }
  unfolding outcome resume_outcome refusal_of restored_or restore_outcome
  resumption le = save-ways x out
      (λ (r : Saved). resume_outcome x y r
      ≡ record { left = restored (length y.records) y.store (image_of x); refusal = none; handed = []; done = [] })
      (λ s. neither (sound_receiver x) v.call s)
      (λ s lt. absurd (omega arith))
      (λ s m. rw (put-first out (bytes_of x out) m, save-restores x v y len room) refl)
