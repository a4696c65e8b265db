-- What a datagram's bytes always give of its frames.
-- Assumes nothing.
use Prim.Native.Nat.{ℕ, ◌≤◌, ◌<◌}
use mathlib.Core.Path.{subst}
use mathlib.Core.List.Memᴰ
use mathlib.Core.List.{List, Memᴰ}
use native.Mathlib.Omega.{arith}
use lib.ListN.{length, take, drop, length-take}
use Rattle.base.specs.Limits.{numbers24, min_datagram, max_datagram}
use Rattle.reliability.specs.declared.Profile.{Profile}
use Rattle.frame.specs.declared.Placed.{Placed}
use Rattle.frame.specs.Frames.{frames_of}
use Rattle.base.specs.Bytes.{Bytes}
use Rattle.frame.proofs.Bounds.{read_small}
use Rattle.frame.proofs.FramesOf.{frames-read, frames-within}
use Rattle.bare.specs.Frame.{Frame}
use Rattle.cells.specs.Sound.{Readable}
use Rattle.receiver.specs.Receive.{frame_in, frames_in}

pub record Read (f : Frame) : Type 0 where
  pub ok : Readable f
  pub reliable : f.reliable < numbers24

placed-read : (who : Profile) (d : List ℕ) → Bytes d → length d ≤ max_datagram → (p : Placed) → Memᴰ p (frames_of who d min_datagram)
    → Read (frame_in d p)
unfolding frame_in
placed-read who d by short p m =
    let r = frames-read who d min_datagram p m in
    let s = read_small who d by r.place p r.next r.read in
    let w = frames-within who d min_datagram p m in
    let n : length (take p.len (drop p.start d)) ≤ p.len = simp length-take (omega arith) in
    record {
      ok = record { kind = s.0.kind; sequence = s.0.sequence; order = s.0.order; id = s.0.meta.id; body = omega arith };
      reliable = s.0.reliable;
    }

-- Every frame of a datagram of at most 1,500 bytes fits: its kind, numbers and body are within the limits of their fields.
pub frames-in-read : (who : Profile) (d : List ℕ) → Bytes d → length d ≤ max_datagram → (f : Frame) → Memᴰ f (frames_in who d) → Read f
unfolding frames_in
frames-in-read who d by short f m =
    let a = Memᴰ.of_map (frame_in d) (frames_of who d min_datagram) m in
    subst Read a.2 (placed-read who d by short a.0 a.1)
