-- The ways through save: 9 exactly for unsound ones, then 12 exactly where the image is longer than the output; else the output begins with
-- the image, and nothing after it changes. At a refusal nothing changes at all.
-- Assumes nothing.
use Prim.Native.Nat.{ℕ, ◌+◌, ◌≤◌, ◌<◌}
use mathlib.Core.Path.{◌≡◌, refl, ◌∙◌, ap}
use mathlib.Core.Logic.{◌↔◌}
use mathlib.Core.Bool.{true, false}
use mathlib.Core.List.{List}
use native.Mathlib.Omega.{arith}
use lib.ListN.{length, take, drop}
use lib.Seq.{take_at, drop_at}
use Rattle.base.specs.Answer.{refused, gives}
use Rattle.base.specs.Put.{put}
use Rattle.base.proofs.Choices.{neither}
use Rattle.base.proofs.Puts.{put-split, length-put}
use Rattle.image.specs.Image.{image_bytes}
use Rattle.receiver.specs.Receiver.{Receiver, sound_receiver}
use Rattle.receiver.specs.Save.{image_of, Saved, save_refuses, save_of}
use Rattle.receiver.proofs.AnswerCases.{by-true, by-lt}

-- bytes put at the front of an output that they fit into are the first there
pub put-first : (out bytes : List ℕ) → length bytes ≤ length out → take (length bytes) (put out 0 bytes) ≡ bytes
put-first out bytes le =
    rw (put-split out 0 bytes (omega arith)) (take_at bytes (drop (0 + length bytes) out) (length bytes) refl)

-- and those after them stay
put-rest : (out bytes : List ℕ) → length bytes ≤ length out → drop (length bytes) (put out 0 bytes) ≡ drop (length bytes) out
put-rest out bytes le = rw (put-split out 0 bytes (omega arith)) (drop_at bytes (drop (0 + length bytes) out) (length bytes) refl
    ∙ ap (λ (k : ℕ). drop k out) (let z : 0 + length bytes ≡ length bytes = omega arith in z))

module _ (x : Receiver) (out : List ℕ) where
  abbrev pub bytes_of : List ℕ
  bytes_of = image_bytes (image_of x)

  abbrev pub save_gives : Saved
  save_gives = record { answer = gives (length bytes_of); out = put out 0 bytes_of }

  -- the first n bytes of an output are the image's, all of them, and no other byte of it has changed
  pub record Written (n : ℕ) (new : List ℕ) : Type 0 where
    pub number : n ≡ length bytes_of
    pub first : take n new ≡ bytes_of
    pub rest : drop n new ≡ drop n out
    pub long : length new ≡ length out
    pub sound : sound_receiver x ≡ true

  pub save-ways : (P : Saved → Type 0) → (sound_receiver x ≡ false → P (save_refuses out 9))
      → (sound_receiver x ≡ true → length out < length bytes_of → P (save_refuses out 12))
      → (sound_receiver x ≡ true → length bytes_of ≤ length out → P save_gives) → P (save_of x.queue x.records x.store out)
  unfolding save_of
  save-ways P unsound short done =
      by-true P (sound_receiver x) (λ s. by-lt P (length out) (length bytes_of) (short s) (done s)) unsound

  pub refused-save-changes-nothing : (number : ℕ) → (save_of x.queue x.records x.store out).answer ≡ refused number
      → (save_of x.queue x.records x.store out).out ≡ out
  refused-save-changes-nothing number = save-ways (λ (r : Saved). r.answer ≡ refused number → r.out ≡ out)
      (λ s e. refl) (λ s lt e. refl) (λ s le e. absurd (let z : ◌≡◌ {A = ℕ} 0 1 = cc in omega arith))

  pub save-9 : ((save_of x.queue x.records x.store out).answer ≡ refused 9) ↔ (sound_receiver x ≡ false)
  save-9 = save-ways (λ (r : Saved). (r.answer ≡ refused 9) ↔ (sound_receiver x ≡ false))
      (λ s. ((λ e. s), (λ e. refl)))
      (λ s lt. ((λ e. absurd (let z : ◌≡◌ {A = ℕ} 12 9 = cc in omega arith)), (λ e. neither (sound_receiver x) s e)))
      (λ s le. ((λ e. absurd (let z : ◌≡◌ {A = ℕ} 0 1 = cc in omega arith)), (λ e. neither (sound_receiver x) s e)))

  pub save-12 : sound_receiver x ≡ true
      → ((save_of x.queue x.records x.store out).answer ≡ refused 12) ↔ (length out < length bytes_of)
  save-12 t = save-ways (λ (r : Saved). (r.answer ≡ refused 12) ↔ (length out < length bytes_of))
      (λ s. neither (sound_receiver x) t s)
      (λ s lt. ((λ e. lt), (λ e. refl)))
      (λ s le. ((λ e. absurd (let z : ◌≡◌ {A = ℕ} 0 1 = cc in omega arith)), (λ lt. absurd (omega arith))))

  -- A sound receiver's save gives the image's length, where the output is long enough;
  pub long-enough-gives : sound_receiver x ≡ true → length bytes_of ≤ length out
      → (save_of x.queue x.records x.store out).answer ≡ gives (length bytes_of)
  long-enough-gives t le = save-ways (λ (r : Saved). r.answer ≡ gives (length bytes_of))
      (λ s. neither (sound_receiver x) t s)
      (λ s lt. absurd (omega arith))
      (λ s m. refl)

  -- and where it gives a length, it gives the image's, so many first bytes of the output are the image's, and those after them stay.
  pub save-writes : (n : ℕ) → (save_of x.queue x.records x.store out).answer ≡ gives n
      → Written n (save_of x.queue x.records x.store out).out
  save-writes n = save-ways (λ (r : Saved). r.answer ≡ gives n → Written n r.out)
      (λ s e. absurd (let z : ◌≡◌ {A = ℕ} 0 1 = cc in omega arith))
      (λ s lt e. absurd (let z : ◌≡◌ {A = ℕ} 0 1 = cc in omega arith))
      (λ s le e. let q : n ≡ length bytes_of = cc in record {
        number = q;
        first = rw q (put-first out bytes_of le);
        rest = rw q (put-rest out bytes_of le);
        long = length-put out 0 bytes_of;
        sound = s;
      })
