-- What the exported functions on frames return: the number of the refusal, or 0 where nothing is refused, and the values beside it, which
-- are 0 on a refusal. A profile is a number to them (document 02, request 5: "0 console, 1 C++").
use Rattle.std.specs.Prelude.{ℕ, false}
use Rattle.base.specs.Answer.{Answer, refused, gives}
use Rattle.base.specs.If.{if_lt}
use Rattle.base.specs.Limits.{profiles}
use Rattle.frame.specs.declared.FramesRead.{FramesRead}
use Rattle.frame.specs.declared.Placed.{Placed}
use Rattle.exports_frames.specs.declared.FrameFound.{FrameFound}
use Rattle.exports_frames.specs.declared.FramesFound.{FramesFound}
use Rattle.exports_frames.specs.declared.FrameWritten.{FrameWritten}

-- the answer where a profile is asked for by number: 9 where the number is none's, before all else
unfoldable pub under_profile : {A : Type 0} → ℕ → Answer A → Answer A
under_profile profile answer = if_lt profile profiles answer (refused 9)

abbrev pub no_placed : Placed
no_placed =
    record {
      frame =
          record {
            kind = 0;
            reliable = 0;
            sequence = 0;
            order = 0;
            channel = 0;
            piece = false;
            meta = record { count = 0; id = 0; index = 0 };
          };
      start = 0;
      len = 0;
    }

abbrev pub no_frame : ℕ → FrameFound
no_frame number = record { number = number; placed = no_placed; next = 0 }

-- the frame with its body's place, and the place after it
abbrev pub frame_told : Answer (Placed × ℕ) → FrameFound
frame_told (refused number) = no_frame number
frame_told (gives v) = record { number = 0; placed = v.0; next = v.1 }

-- how many frames, and the bytes left
abbrev pub frames_told : Answer FramesRead → FramesFound
frames_told (refused number) = record { number = number; count = 0; left = 0 }
frames_told (gives v) = record { number = 0; count = v.count; left = v.left }

-- the place after the frame that was written
abbrev pub written_told : Answer ℕ → FrameWritten
written_told (refused number) = record { number = number; next = 0 }
written_told (gives next) = record { number = 0; next = next }
