-- The cases of `write_head`, each with the facts as the code finds them; and what a written head reads as.
-- Assumes nothing.
use mathlib.Core.Path.{◌≡◌, ◌∙◌, refl}
use mathlib.Core.List.{List, [], ◌∷◌}
use Prim.Native.Nat.{ℕ, ◌<◌, ◌≤◌}
use lib.ListN.{length}
use Rattle.base.specs.Answer.{refused, gives}
use Rattle.base.specs.Bytes.{le24_bytes}
use Rattle.base.specs.Limits.{numbers24}
use Rattle.base.specs.Put.{Run}
use Rattle.base.proofs.Ifs.{le_yes, le-no, lt_yes, lt_no}
use Rattle.base.proofs.Puts.{run-cons}
use Rattle.frame_write.specs.Head.{head_id, head_size, head_bytes, by_head, write_head_of, head_written_of}

-- ---- the call's three cases, for the answer and for the output alike
module _ {A : Type 0} (room number : ℕ) (x y z : A) where
  too_large : numbers24 ≤ number → x ≡ by_head room number x y z
  unfolding by_head
  too_large h = le_yes _ _ _ _ _ h refl

  no_room : number < numbers24 → room < head_size → y ≡ by_head room number x y z
  unfolding by_head
  no_room h r = le-no _ _ _ _ _ h (lt_yes _ _ _ _ _ r refl)

  has_room : number < numbers24 → head_size ≤ room → z ≡ by_head room number x y z
  unfolding by_head
  has_room h r = le-no _ _ _ _ _ h (lt_no _ _ _ _ _ r refl)

module _ (l : List ℕ) (number : ℕ) where
  pub answer-large : numbers24 ≤ number → refused 13 ≡ write_head_of (length l) number
  unfolding write_head_of
  answer-large h = too_large (length l) number _ _ _ h

  pub answer-short : number < numbers24 → length l < head_size → refused 12 ≡ write_head_of (length l) number
  unfolding write_head_of
  answer-short h r = no_room (length l) number _ _ _ h r

  pub answer-written : number < numbers24 → head_size ≤ length l → gives tt ≡ write_head_of (length l) number
  unfolding write_head_of
  answer-written h r = has_room (length l) number _ _ _ h r

  pub output-large : numbers24 ≤ number → l ≡ head_written_of l number
  unfolding head_written_of
  output-large h = too_large (length l) number _ _ _ h

  pub output-short : number < numbers24 → length l < head_size → l ≡ head_written_of l number
  unfolding head_written_of
  output-short h r = no_room (length l) number _ _ _ h r

  pub output-written : number < numbers24 → head_size ≤ length l → (p : ℕ) (L : List ℕ) (q : ℕ) (M : List ℕ)
      → Run 0 (head_id ∷ []) l p L → Run p (le24_bytes number) L q M → M ≡ head_written_of l number
  unfolding head_written_of head_bytes
  output-written h r p L q M a b =
      (run-cons 0 head_id (le24_bytes number) l p L q M a b).is ∙ has_room (length l) number _ _ _ h r
