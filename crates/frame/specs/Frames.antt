-- A datagram's frames, one after the other: "reading ends before the first frame that doesn't fit; the bytes left are reported" (document
-- 01, "Corners", frame.rs).
use Rattle.std.specs.Prelude.{ℕ, zero, suc, ◌-◌, List, [], ◌∷◌, length}
use Rattle.base.specs.Answer.{Answer, refused, gives}
use Rattle.reliability.specs.declared.Profile.{Profile}
use Rattle.frame.specs.declared.Placed.{Placed}
use Rattle.frame.specs.declared.FramesRead.{FramesRead}
use Rattle.frame.specs.Read.{read_frame_of}

-- x where there is no frame, else g of the frame and the place after it
unfoldable pub on_read : {A : Type 0} → Answer (Placed × ℕ) → A → (Placed → ℕ → A) → A
on_read (refused n) x g = x
on_read (gives v) x g = g v.0 v.1

-- the frames from a place on, at most k of them
unfoldable pub frames_from : Profile → ℕ → List ℕ → ℕ → List Placed
frames_from p zero s at = []
frames_from p (suc k) s at = on_read (read_frame_of p s at) [] (λ x next. x ∷ frames_from p k s next)

-- the place where reading them ends
unfoldable pub end_from : Profile → ℕ → List ℕ → ℕ → ℕ
end_from p zero s at = at
end_from p (suc k) s at = on_read (read_frame_of p s at) at (λ x next. end_from p k s next)

-- all the frames from a place on: each takes three bytes or more, so there are no more of them than bytes
unfoldable pub frames_of : Profile → List ℕ → ℕ → List Placed
frames_of p s at = frames_from p (length s) s at

-- the first byte of the frame that does not fit
unfoldable pub end_of : Profile → List ℕ → ℕ → ℕ
end_of p s at = end_from p (length s) s at

-- how many frames there are, and how many bytes are left; none are where `at` is past the end
unfoldable pub read_frames_of : Profile → List ℕ → ℕ → FramesRead
read_frames_of p s at = record { count = length (frames_of p s at); left = length s - end_of p s at }
