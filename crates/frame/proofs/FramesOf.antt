-- The laws of a datagram's frames: what a loop over them needs.
-- Assumes nothing.
use mathlib.Core.Path.{◌≡◌, ◌∙◌, sym, ap, refl}
use mathlib.Core.Logic.{◌⊎◌, inl, inr}
use mathlib.Core.List.Memᴰ
use mathlib.Core.List.{List, [], ◌∷◌, Memᴰ}
use Prim.Native.Nat.{ℕ, zero, suc, ◌+◌, ◌≤◌}
use native.Mathlib.Omega.{arith}
use lib.ListN.{length}
use Rattle.base.specs.Answer.{Answer, refused, gives}
use Rattle.reliability.specs.declared.Profile.{Profile}
use Rattle.frame.specs.declared.Placed.{Placed}
use Rattle.frame.specs.Read.{read_frame_of}
use Rattle.frame.specs.Frames.{on_read, frames_from, end_from, frames_of, end_of}
use Rattle.frame.proofs.Reading.{read_whole, read_past, read-cut}

module _ (p : Profile) (s : List ℕ) where
  -- ---- fuel
  frames-nil : (k at n : ℕ) → read_frame_of p s at ≡ refused n → frames_from p k s at ≡ []
  unfolding frames_from on_read
  frames-nil zero at n e = refl
  frames-nil (suc k) at n e = rw e

  end-here : (k at n : ℕ) → read_frame_of p s at ≡ refused n → end_from p k s at ≡ at
  unfolding end_from on_read
  end-here zero at n e = refl
  end-here (suc k) at n e = rw e

  Same : ℕ → ℕ → ℕ → Type 0
  Same k j at = (frames_from p k s at ≡ frames_from p j s at) × (end_from p k s at ≡ end_from p j s at)

  cut-same : (k j at n : ℕ) → read_frame_of p s at ≡ refused n → Same k j at
  unfolding Same
  cut-same k j at n e =
      (frames-nil k at n e ∙ sym (frames-nil j at n e), end-here k at n e ∙ sym (end-here j at n e))

  -- any two amounts of fuel that are enough give the same
  enough : (k j at : ℕ) → length s ≤ at + k → length s ≤ at + j → Same k j at
  unfolding frames_from end_from on_read Same
  enough zero j at h i = cut-same zero j at 1 (read_past p s at (omega arith))
  enough (suc k) zero at h i = cut-same (suc k) zero at 1 (read_past p s at (omega arith))
  enough (suc k) (suc j) at h i = go (read_frame_of p s at) refl (λ next a b. enough k j next a b)
    where
      go : (r : Answer (Placed × ℕ)) → read_frame_of p s at ≡ r
          → ((next : ℕ) → length s ≤ next + k → length s ≤ next + j → Same k j next) → Same (suc k) (suc j) at
      go (refused n) e rec = cut-same (suc k) (suc j) at n e
      go (gives v) e rec =
          let w = read_whole p s at v.0 v.1 e in
          let r = rec v.1 (omega arith) (omega arith) in
          rw e (ap (λ (l : List Placed). v.0 ∷ l) r.0, r.1)

  -- Fuel for the bytes that are left is enough: more gives no other frames and no other end.
  pub frames-enough : (k at : ℕ) → length s ≤ at + k → (frames_from p k s at ≡ frames_of p s at) × (end_from p k s at ≡ end_of p s at)
  unfolding frames_of end_of Same
  frames-enough k at h = enough k (length s) at h (omega arith)

  -- ---- one frame more, or none
  module _ (at : ℕ) (x : Placed) (next : ℕ) (e : read_frame_of p s at ≡ gives (x, next)) where
    -- Where a frame is read, it is the first of the frames, and the others are those after it.
    pub frames-more : frames_of p s at ≡ x ∷ frames_of p s next
    unfolding frames_from on_read frames_of
    frames-more =
        sym (frames-enough (suc (length s)) at (omega arith)).0 ∙ rw e

    -- Reading ends where it ends after that frame.
    pub end_more : end_of p s at ≡ end_of p s next
    unfolding end_from on_read end_of
    end_more = sym (frames-enough (suc (length s)) at (omega arith)).1 ∙ rw e

  module _ (at n : ℕ) (e : read_frame_of p s at ≡ refused n) where
    -- Where none is read, there are no frames,
    pub frames-cut : frames_of p s at ≡ []
    unfolding frames_of
    frames-cut = frames-nil (length s) at n e

    -- and reading ends at that place.
    pub end-cut : end_of p s at ≡ at
    unfolding end_of
    end-cut = end-here (length s) at n e

  -- ---- each frame
  -- x is a frame that is read at some place
  pub record ReadAt (x : Placed) : Type 0 where
    pub place : ℕ
    pub next : ℕ
    pub read : read_frame_of p s place ≡ gives (x, next)

  from-read : (k at : ℕ) (x : Placed) → Memᴰ x (frames_from p k s at) → ReadAt x
  unfolding frames_from on_read
  from-read zero at x m = absurd (Memᴰ.not-nil m)
  from-read (suc k) at x m = go (read_frame_of p s at) refl m (λ next i. from-read k next x i)
    where
      last : (v : Placed × ℕ) → read_frame_of p s at ≡ gives v → ((next : ℕ) → Memᴰ x (frames_from p k s next) → ReadAt x)
          → (x ≡ v.0) ⊎ Memᴰ x (frames_from p k s v.1) → ReadAt x
      last v e rec (inl i) = record { place = at; next = v.1; read = rw i e }
      last v e rec (inr i) = rec v.1 i

      go : (r : Answer (Placed × ℕ)) → read_frame_of p s at ≡ r → Memᴰ x (on_read r [] (λ y next. y ∷ frames_from p k s next))
          → ((next : ℕ) → Memᴰ x (frames_from p k s next) → ReadAt x) → ReadAt x
      go (refused n) e i rec = absurd (Memᴰ.not-nil i)
      go (gives v) e i rec = last v e rec (Memᴰ.cases_cons i)

  -- Each of the frames is read at some place.
  pub frames-read : (at : ℕ) (x : Placed) → Memᴰ x (frames_of p s at) → ReadAt x
  unfolding frames_of
  frames-read at x m = from-read (length s) at x m

  -- Each of the frames lies within the list.
  pub frames-within : (at : ℕ) (x : Placed) → Memᴰ x (frames_of p s at) → x.start + x.len ≤ length s
  frames-within at x m =
      let r = frames-read at x m in
      let w = read_whole p s r.place x r.next r.read in
      omega arith

  -- ---- the end
  -- what is known of the place `end` where reading from `at` on ends
  pub record Ends (at end : ℕ) : Type 0 where
    pub after : at ≤ end
    pub within : at ≤ length s → end ≤ length s
    pub cut : read_frame_of p s end ≡ refused 1

  from-ends : (k at : ℕ) → length s ≤ at + k → Ends at (end_from p k s at)
  unfolding end_from on_read
  from-ends zero at h = record { after = omega arith; within = λ i. i; cut = read_past p s at (omega arith) }
  from-ends (suc k) at h = go (read_frame_of p s at) refl (λ next i. from-ends k next i)
    where
      go : (r : Answer (Placed × ℕ)) → read_frame_of p s at ≡ r → ((next : ℕ) → length s ≤ next + k → Ends next (end_from p k s next))
          → Ends at (on_read (read_frame_of p s at) at (λ x next. end_from p k s next))
      go (refused n) e rec = rw e (record { after = omega arith; within = λ i. i; cut = read-cut p s at n e })
      go (gives v) e rec =
          let w = read_whole p s at v.0 v.1 e in
          let r = rec v.1 (omega arith) in
          rw e (record { after = omega arith; within = λ _. r.within (omega arith); cut = r.cut })

  -- Reading ends at or after its start, within the list, before a frame that does not fit.
  pub end-ends : (at : ℕ) → Ends at (end_of p s at)
  unfolding end_of
  end-ends at = from-ends (length s) at (omega arith)
