-- Soundness is kept by an accepted datagram, by a take and by a drop.
-- Assumes nothing.
use Prim.Native.Nat.{ℕ}
use mathlib.Core.Path.{◌≡◌}
use mathlib.Core.Logic.{◌⊎◌, inl, inr}
use mathlib.Core.Bool.{true, false}
use mathlib.Core.Option.{some}
use mathlib.Core.List.{List, [], ◌∷◌, map, Memᴰ}
use Rattle.base.specs.Lists.{any}
use Rattle.bare.specs.Frame.{Frame}
use Rattle.cells.specs.Cell.{Slot, Key, of, empty_slot, change, map_if}
use Rattle.cells.specs.Ages.{is_stale, dropped}
use Rattle.cells.specs.Datagram.{Work, frame, frames, State, begin, end, grow, datagram}
use Rattle.cells.specs.Take.{Taken, taking}
use Rattle.cells.specs.Sound.{sound, Readable}
use Rattle.cells.specs.Store.{cells_of}
use Rattle.cells.proofs.SlotAges.{ages_after, frame-aged, grow-aged, end-aged, take-aged, drop-aged}
use Rattle.cells.proofs.Pieces.{AllOrNone}
use Rattle.cells.proofs.AgedAs.{AgedAs}
use Rattle.cells.proofs.SoundRest.{Rest, take_rest, emptied-rest, datagram-rest}
use Rattle.cells.proofs.SoundTest.{sound-rest, sound-aged, rest-sound}
use Rattle.cells.proofs.Dropping.{dropped-whole, dropped-gone}

drop-rest : {F : ℕ → ℕ} (next : ℕ → ℕ) (n : ℕ) (l : List Slot) → AgedAs F l → Rest next l → Rest next (dropped n l)
unfolding dropped map_if
drop-rest next n l a v = emptied-rest next (λ s. is_stale n s.cell) l (λ k. keep k (dropped-whole n l v.core a k)) v
  where
    keep : (k : Key) → AllOrNone (λ s. is_stale n s.cell) l k → ((s : Slot) → Memᴰ s l → is_stale n s.cell ≡ true → of k s ≡ false)
        ⊎ (any (of k) (map (change (λ s. is_stale n s.cell) (λ s. empty_slot)) l) ≡ false)
    keep k (inl e) = inl e
    keep k (inr e) = inr (dropped-gone n l k e)

-- The open slots of each id have one age still.
frames-aged : (fs : List Frame) (w : Work) (F : ℕ → ℕ) → AgedAs F w.state.slots → (G : ℕ → ℕ) × AgedAs G (frames w fs).state.slots
unfolding frames
frames-aged [] w F v = (F, v)
frames-aged (f ∷ fs) w F v = frames-aged fs (frame w f) (ages_after w f F) (frame-aged w f v)

datagram-aged : {F : ℕ → ℕ} (s : State) (fs : List Frame) → AgedAs F s.slots → (G : ℕ → ℕ) × AgedAs G (end (datagram s fs)).slots
unfolding datagram
datagram-aged s fs v = let a = frames-aged fs (grow (begin s)) _ (grow-aged s v) in (a.0, end-aged (datagram s fs) a.1)

-- An accepted datagram leaves sound cells wherever it found sound cells, and so do a take and a drop.
pub datagram-sound : (s : State) (fs : List Frame) → ((f : Frame) → Memᴰ f fs → Readable f) → sound (cells_of s.slots) s.next
    ≡ true → sound (cells_of (end (datagram s fs)).slots) (end (datagram s fs)).next ≡ true
datagram-sound s fs ok e = rest-sound _ _ (datagram-rest s fs ok (sound-rest s.next s.slots e))
    (datagram-aged s fs (sound-aged s.next s.slots e)).1

pub take-sound : (next : ℕ → ℕ) (l : List Slot) (t : Taken) → sound (cells_of l) next ≡ true → taking l ≡ some t → sound (cells_of t.slots)
    next ≡ true
take-sound next l t e q = rest-sound next t.slots (take_rest next l t (sound-rest next l e) q) (take-aged l t q (sound-aged next l e))

pub drop-sound : (next : ℕ → ℕ) (l : List Slot) (n : ℕ) → sound (cells_of l) next ≡ true → sound (cells_of (dropped n l)) next ≡ true
drop-sound next l n e = rest-sound next (dropped n l) (drop-rest next n l (sound-aged next l e) (sound-rest next l e))
    (drop-aged n l (sound-aged next l e))
