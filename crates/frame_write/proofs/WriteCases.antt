-- The cases of the writers, each with the facts as the code finds them.
-- Assumes nothing.
use mathlib.Core.Path.{◌≡◌, ◌∙◌, sym, refl}
use mathlib.Core.Bool.{Bool, true, false}
use mathlib.Core.Logic.{◌↔◌, inl, inr}
use mathlib.Core.List.{List, [], ◌∷◌, ◌++◌}
use Prim.Native.Nat.{ℕ, ◌+◌, ◌-◌, ◌*◌, ◌/◌, ◌%◌, ◌<◌, ◌≤◌}
use native.Mathlib.Decide.{dec_lt}
use native.Mathlib.Omega.{arith}
use lib.Dec.{leb}
use lib.ListN.{length, take, drop, length-drop}
use lib.Seq.{take_all}
use Rattle.std.specs.Prelude.{Option, Some, None, Result, Ok, Err}
use Rattle.std.specs.Result.{is_ok}
use Rattle.std.proofs.lemmas.Bool.Decides.{leb_tells}
use Rattle.base.specs.Answer.{Answer, refused, gives}
use Rattle.base.specs.Bytes.{be16_bytes, le24_bytes}
use Rattle.base.specs.Limits.{max_body}
use Rattle.base.specs.Put.{Run}
use Rattle.base.specs.Refusals.{number_of, answer}
use Rattle.base.specs.declared.refusal.Refusal.{Refusal}
use Rattle.base.proofs.Ifs.{lt_yes, lt_no, true-yes, true-no}
use Rattle.base.proofs.Puts.{put_back, run_none, run-then}
use Rattle.reliability.proofs.Named.{named_none, none_told}
use Rattle.reliability.specs.Kinds.{fields_of, on_place, kind_named}
use Rattle.reliability.specs.declared.KindFields.{KindFields}
use Rattle.reliability.specs.declared.Profile.{Profile}
use Rattle.reliability.specs.declared.Reliability.{Reliability}
use Rattle.frame.specs.declared.Frame.{Frame}
use Rattle.frame.specs.Read.{header_size, max_kind}
use Rattle.frame_write.specs.Write.{flags_of, start_bytes, number_bytes, field_bytes, frame_bytes}
use Rattle.frame_write.specs.Valid.{within_limits, size_of, by_frame_case, write_frame_of}
use Rattle.frame_write.specs.Valid.{frame_written_of}
use Rattle.frame_write.proofs.Limits.{within}

-- ---- the parts of a frame
pub start_is : (p : ℕ) (l : List ℕ) (kind : ℕ) (piece : Bool) (n flags : ℕ) (q : ℕ) (L : List ℕ) (r : ℕ) (M : List ℕ) → flags
    ≡ flags_of kind piece
    → Run p (flags ∷ []) l q L → Run q (be16_bytes (n * 8)) L r M → Run p (start_bytes kind piece n) l r M
unfolding start_bytes
start_is p l kind piece n flags q L r M e a b = run-then p _ _ l q L r M (rw e at a) b

pub fields-is : (p : ℕ) (l : List ℕ) (f : Frame) (k j : KindFields) (q : ℕ) (L : List ℕ) → k ≡ j → Run p (field_bytes k f) l q L
    → Run p (field_bytes j f) l q L
fields-is p l f k j q L e a = rw e at a

-- a field is written where the kind has it
pub field_none : (p : ℕ) (off : Option ℕ) (xs l : List ℕ) → off ≡ None → Run p (on_place off [] (λ _. xs)) l p l
field_none p off xs l e = rw e (run_none p [] l refl)

pub field_some : (p : ℕ) (off : Option ℕ) (xs l : List ℕ) (n q : ℕ) (m : List ℕ) → off ≡ Some n → Run p xs l q m
    → Run p (on_place off [] (λ _. xs)) l q m
field_some p off xs l n q m e r = rw e r

-- the three low bytes of a number
pub low-bytes : (x : ℕ) (bs : List ℕ) → bs ≡ x % 256 ∷ x / 256 % 256 ∷ x / 65536 % 256 ∷ x / 16777216 % 256 ∷ [] → take 3 bs ≡ le24_bytes x
unfolding le24_bytes
low-bytes x bs e = rw e refl

-- a number's run, as the code finds its bytes
pub number-run : (p : ℕ) (off : Option ℕ) (x : ℕ) (bs l : List ℕ) (q : ℕ) (m : List ℕ) → Run p (on_place off [] (λ _. take 3 bs)) l q m
    → bs ≡ x % 256 ∷ x / 256 % 256 ∷ x / 65536 % 256 ∷ x / 16777216 % 256 ∷ [] → Run p (number_bytes off x) l q m
unfolding number_bytes
number-run p off x bs l q m a e = rw (low-bytes x bs e) at a

-- ---- the limits
-- a number is a kind's where it is below its limit
pub is_kind : (n : ℕ) (r : Result Reliability Refusal) → answer r ≡ kind_named n → is_ok r ≡ leb n max_kind
is_kind n (Ok k) e = elim (leb_tells n max_kind) [
  | inl h ↦ sym h.0
  | inr h ↦
      let other : gives k ≡ refused 15 = e ∙ sym (named_none n (omega (arith, h.1))) in
      absurd cc
]
is_kind n (Err m) e = elim (leb_tells n max_kind) [
  | inl h ↦ absurd (omega (arith, h.1, none_told n (number_of m) e))
  | inr h ↦ sym h.0
]

module _ (p : Profile) (f : Frame) (n : ℕ) where
  -- what the limits say of kind and body
  pub limits-kind : (t : Bool) → t ≡ within_limits p f n → t ≡ true → f.kind ≤ max_kind
  limits-kind t e g = (within p f n (sym e ∙ g)).kind

  pub limits-body : (t : Bool) → t ≡ within_limits p f n → t ≡ true → n ≤ max_body
  limits-body t e g = (within p f n (sym e ∙ g)).body

-- ---- the call's three cases, for the answer and for the output alike
module _ {A : Type 0} (p : Profile) (room at : ℕ) (f : Frame) (n : ℕ) (x y z : A) where
  pub over-limit : within_limits p f n ≡ false → x ≡ by_frame_case p room at f n x y z
  unfolding by_frame_case
  over-limit e = true-no _ _ _ _ e refl

  pub no_room : within_limits p f n ≡ true → room < at + size_of p f n → y ≡ by_frame_case p room at f n x y z
  unfolding by_frame_case
  no_room e h = true-yes _ _ _ _ e (lt_yes _ _ _ _ _ h refl)

  pub has_room : within_limits p f n ≡ true → at + size_of p f n ≤ room → z ≡ by_frame_case p room at f n x y z
  unfolding by_frame_case
  has_room e h = true-yes _ _ _ _ e (lt_no _ _ _ _ _ h refl)

-- 15 is given exactly where the frame is not within its limits.
pub over-exactly : (p : Profile) (room at : ℕ) (f : Frame) (n : ℕ)
    → (write_frame_of p room at f n ≡ refused 15) ↔ (within_limits p f n ≡ false)
unfolding write_frame_of
over-exactly p room at f n = (
  λ e. only (within_limits p f n) refl (dec_lt room (at + size_of p f n)) e,
  λ i. sym (over-limit p room at f n _ _ _ i),
)
  where
    only : (t : Bool) → within_limits p f n ≡ t → Dec (room < at + size_of p f n) → write_frame_of p room at f n ≡ refused 15
        → within_limits p f n ≡ false
    only false i r e = i
    only true i (yes r) e =
        let z : ◌≡◌ {A = Answer ℕ} (refused 12) (refused 15) = no_room p room at f n _ _ _ i r ∙ e in
        let other : ◌≡◌ {A = ℕ} 12 15 = cc in
        absurd (omega arith)
    only true i (no r) e =
        let z : gives (at + size_of p f n) ≡ refused 15 = has_room p room at f n _ _ _ i (omega arith) ∙ e in
        absurd cc

-- A refused frame writes nothing.
pub refused-writes-nothing : (p : Profile) (out : List ℕ) (at : ℕ) (f : Frame) (body : List ℕ) (number : ℕ)
    → write_frame_of p (length out) at f (length body) ≡ refused number → frame_written_of p out at f body ≡ out
unfolding write_frame_of frame_written_of
refused-writes-nothing p out at f body number e =
    go (within_limits p f (length body)) refl (dec_lt (length out) (at + size_of p f (length body)))
  where
    go : (t : Bool) → within_limits p f (length body) ≡ t → Dec (length out < at + size_of p f (length body))
        → frame_written_of p out at f body ≡ out
    go false i r = sym (over-limit p (length out) at f (length body) _ _ _ i)
    go true i (yes r) = sym (no_room p (length out) at f (length body) _ _ _ i r)
    go true i (no r) =
        let z : gives (at + size_of p f (length body)) ≡ refused number = has_room p (length out) at f (length body) _ _ _ i (omega arith)
        ∙ e in
        absurd cc

module _ (p : Profile) (room at : ℕ) (f : Frame) (n : ℕ) (t : Bool) (i : t ≡ within_limits p f n) where
  pub answer-over : t ≡ false → refused 15 ≡ write_frame_of p room at f n
  unfolding write_frame_of
  answer-over e = over-limit p room at f n _ _ _ (sym i ∙ e)

  pub answer-past : t ≡ true → room < at → refused 12 ≡ write_frame_of p room at f n
  unfolding write_frame_of
  answer-past e h = no_room p room at f n _ _ _ (sym i ∙ e) (omega arith)

  -- h is what the header takes
  pub answer-short : t ≡ true → (h : ℕ) → h ≡ header_size f.piece (fields_of p f.kind).header → room - at < h + n
      → refused 12 ≡ write_frame_of p room at f n
  unfolding write_frame_of size_of
  answer-short e h v k = no_room p room at f n _ _ _ (sym i ∙ e) (omega arith)

  pub answer-written : t ≡ true → (h : ℕ) → h ≡ header_size f.piece (fields_of p f.kind).header → at ≤ room → h + n ≤ room - at
      → gives (at + (h + n)) ≡ write_frame_of p room at f n
  unfolding write_frame_of size_of
  answer-written e h v g k = rw v (has_room p room at f n _ _ _ (sym i ∙ e) (omega arith))

module _ (p : Profile) (l : List ℕ) (at : ℕ) (f : Frame) (body : List ℕ) (t : Bool) (i : t ≡ within_limits p f (length body)) where
  pub output-over : t ≡ false → l ≡ frame_written_of p l at f body
  unfolding frame_written_of
  output-over e = over-limit p (length l) at f (length body) _ _ _ (sym i ∙ e)

  pub output-past : t ≡ true → length l < at → l ≡ frame_written_of p l at f body
  unfolding frame_written_of
  output-past e h = no_room p (length l) at f (length body) _ _ _ (sym i ∙ e) (omega arith)

  pub output-short : t ≡ true → (h : ℕ) → h ≡ header_size f.piece (fields_of p f.kind).header → length l - at < h + length body
      → l ≡ frame_written_of p l at f body
  unfolding frame_written_of size_of
  output-short e h v k = no_room p (length l) at f (length body) _ _ _ (sym i ∙ e) (omega arith)

  -- the rest of the output was lent, and came back with the frame at its start
  pub output-written : t ≡ true → (h : ℕ) → h ≡ header_size f.piece (fields_of p f.kind).header → at ≤ length l
      → h + length body ≤ length l - at
      → (q : ℕ) (ys : List ℕ) → Run 0 (frame_bytes p f body) (take (length l - at) (drop at l)) q ys
      → take at l ++ (ys ++ drop (length l - at) (drop at l)) ≡ frame_written_of p l at f body
  unfolding frame_written_of size_of
  output-written e h v g k q ys m =
      let r : take (length l - at) (drop at l) ≡ drop at l = take_all (length l - at) (drop at l) (simp length-drop (omega arith)) in
      rw (m.is, r) (put_back l at (frame_bytes p f body) g) ∙ has_room p (length l) at f (length body) _ _ _ (sym i ∙ e) (omega arith)

-- ---- what the check goes by
pub ruleset writes = (
  limits-kind,
  limits-body,
  answer-over,
  answer-past,
  answer-short,
  answer-written,
  output-over,
  output-past,
  output-short,
  output-written,
)
