-- The memories of newest sequence numbers after a datagram: each is as before, or the number of one of its frames that is within limits.
-- So they stay within 24 bits, and there are no more of them than 33.
-- Assumes nothing.
use Prim.Native.Nat.{ℕ, zero, suc, ◌≤◌, ◌<◌}
use mathlib.Core.Path.{◌≡◌, refl}
use mathlib.Core.Bool.{true}
use mathlib.Core.List.{List, [], ◌∷◌, Memᴰ}
use native.Mathlib.Omega.{arith}
use lib.ListN.{length}
use lib.Dec.{ltb, leb, eqb}
use borrow.Author.Tests.{ltb-true, leb-true, le-leb, eqb-true}
use Rattle.base.specs.Limits.{numbers24, max_ord_chans, memories}
use Rattle.base.specs.Lists.{any}
use Rattle.base.specs.Numbers.{following}
use Rattle.base.proofs.Choices.{by_bool, and_left}
use Rattle.base.proofs.Lists.{below_at, below_all}
use Rattle.reliability.specs.declared.Profile.{Profile}
use Rattle.reliability.specs.declared.Profile.TheVariants.{Console, Cpp}
use Rattle.bare.specs.Frame.{Frame, in_limits}
use Rattle.bare.specs.Bare.{memory_of, noted, seen_before}
use Rattle.cells.specs.Cell.{open_as, is_free, all_there, clash, put_slot, slot_of}
use Rattle.cells.specs.Datagram.{Work, drop_one, fill_up, place, made, rise, remember_in, accept_in, is_held, go_on, cascade, follows, Fate}
use Rattle.cells.specs.Datagram.{late, early, due, newer, free, fate_of, roomy, readied, whole, joins, kept, put_piece, renew, piece}
use Rattle.cells.specs.Datagram.{keep_in, frame, frames, State, begin, end, grow, datagram}
use Rattle.cells.specs.Sound.{Readable, sound_memories}

-- What holds of the profile and the memories, and of those that frames may make, holds of them afterwards.
module _ (P : Profile → (ℕ → ℕ) → Type 0) where
  abbrev Has : Work → Type 0
  Has w = P w.state.profile w.state.newest

  cascade-has : (n c : ℕ) (w : Work) → Has w → Has (cascade n c w)
  unfolding cascade go_on rise made
  cascade-has zero c w v = v
  cascade-has (suc n) c w v = by_bool Has (is_held c (w.state.next c) w.state.slots) (λ t. cascade-has n c (go_on c w) v) (λ t. v)

  follows-has : (c : ℕ) (w : Work) → Has w → Has (follows c w)
  unfolding follows rise
  follows-has c w v = cascade-has (length w.state.slots) c (rise c w) v

  roomy-has : (w r : Work) → Has w → Has r → Has (roomy w r)
  unfolding roomy fill_up
  roomy-has w r v u = by_bool Has (any is_free w.state.slots) (λ t. u) (λ t. v)

  -- it still holds where the frame's number is remembered
  abbrev Stays : Frame → Type 0
  Stays f = (p : Profile) (newest : ℕ → ℕ) → P p newest → P p (noted (memory_of p f.kind f.channel) f.sequence newest)

  whole_has : (x : Fate) (f : Frame) (w : Work) → Stays f → Has w → Has (whole x f w)
  unfolding whole readied remember_in drop_one place made
  whole_has late f w k v = v
  whole_has early f w k v = roomy-has w _ v v
  whole_has due f w k v = roomy-has w _ v (follows-has f.channel _ v)
  whole_has newer f w k v = let u = k w.state.profile w.state.newest v in roomy-has (remember_in f w) _ u u
  whole_has free f w k v = roomy-has w _ v v

  joins-has : (x : Fate) (f : Frame) (w : Work) → Stays f → Has w → Has (joins x f w)
  unfolding joins remember_in drop_one place made
  joins-has late f w k v = v
  joins-has early f w k v = v
  joins-has due f w k v = follows-has f.channel _ v
  joins-has newer f w k v = k w.state.profile w.state.newest v
  joins-has free f w k v = v

  kept-has : (f : Frame) (w : Work) → Stays f → Has w → Has (kept f w)
  unfolding kept
  kept-has f w k v = by_bool Has (all_there (open_as f.id) w.state.slots f.count) (λ t. joins-has (fate_of f w) f w k v) (λ t. v)

  piece-has : (f : Frame) (w : Work) → Stays f → Has w → Has (piece f w)
  unfolding piece put_piece renew drop_one place
  piece-has f w k v = by_bool Has (any (clash f) w.state.slots) (λ t. v) (λ t. let r = renew f w in
      roomy-has r _ v (kept-has f (place (put_slot (slot_of f 1 0) r.state.slots) r) k v))

  frame_has : (f : Frame) (w : Work) → (in_limits f ≡ true → Stays f) → Has w → Has (frame w f)
  unfolding frame accept_in drop_one keep_in
  frame_has f w k v = by_bool Has (seen_before f w.state.accepted) (λ t. v)
      (λ t. by_bool Has (in_limits f)
      (λ y. by_bool Has f.piece (λ z. piece-has f (accept_in f w) (k y) v)
      (λ z. whole_has (fate_of f (accept_in f w)) f (accept_in f w) (k y) v))
      (λ y. v))

  frames-has : (fs : List Frame) (w : Work) → ((f : Frame) → Memᴰ f fs → in_limits f ≡ true → Stays f) → Has w → Has (frames w fs)
  unfolding frames
  frames-has [] w k v = v
  frames-has (f ∷ fs) w k v = frames-has fs (frame w f) (λ g i. k g (Memᴰ.tail i)) (frame_has f w (k f (Memᴰ.head refl)) v)

  pub datagram-has : (s : State) (fs : List Frame) → ((f : Frame) → Memᴰ f fs → in_limits f ≡ true → Stays f) → P s.profile s.newest
      → Has (datagram s fs)
  unfolding datagram begin grow place
  datagram-has s fs k v = frames-has fs (grow (begin s)) k v

-- What holds of memory m's number, and of those that frames may set it to, holds of it afterwards.
memory-has : (P : ℕ → Type 0) (m : ℕ) (s : State) (fs : List Frame) → ((f : Frame) → Memᴰ f fs → in_limits f ≡ true
    → (p : Profile) → m ≡ memory_of p f.kind f.channel → P (following f.sequence)) → P (s.newest m) → P ((end (datagram s fs)).newest m)
unfolding end noted
memory-has P m s fs k v = datagram-has (λ p newest. P (newest m)) s fs (λ f i e p newest u. by_bool P (eqb m (memory_of p f.kind f.channel))
    (λ t. k f i e p (eqb-true m (memory_of p f.kind f.channel) t)) (λ t. u)) v

-- A frame within limits has one of the 33 memories, in either profile.
memory-within : (p : Profile) (f : Frame) → in_limits f ≡ true → memory_of p f.kind f.channel < memories
unfolding in_limits memory_of
memory-within Console f e = by_bool (λ (i : ℕ). i < memories) (eqb f.kind 1)
    (λ t. let p = ltb-true f.channel max_ord_chans (and_left (ltb f.channel max_ord_chans) _ e) in omega arith) (λ t. omega arith)
memory-within Cpp f e = let p = ltb-true f.channel max_ord_chans (and_left (ltb f.channel max_ord_chans) _ e) in omega arith

-- Past them no memory is touched.
pub memories-past : (s : State) (fs : List Frame) (m : ℕ) → memories ≤ m → (end (datagram s fs)).newest m ≡ s.newest m
memories-past s fs m le = memory-has (λ n. n ≡ s.newest m) m s fs
    (λ f i e who q. let p = memory-within who f e in absurd (omega arith)) refl

-- A memory within 24 bits stays so, where the frames came from bytes.
pub memory-small : (s : State) (fs : List Frame) → ((f : Frame) → Memᴰ f fs → Readable f) → (m : ℕ) → s.newest m ≤ numbers24
    → (end (datagram s fs)).newest m ≤ numbers24
memory-small s fs ok m v = memory-has (λ n. n ≤ numbers24) m s fs (λ f i e who q. let p = (ok f i).sequence in omega arith) v

pub memories-sound : (s : State) (fs : List Frame) → ((f : Frame) → Memᴰ f fs → Readable f) → sound_memories s.newest ≡ true
    → sound_memories (end (datagram s fs)).newest ≡ true
memories-sound s fs ok e = below_all memories (λ m. leb ((end (datagram s fs)).newest m) numbers24)
    (λ m lt. le-leb _ _ (memory-small s fs ok m (leb-true (s.newest m) numbers24
    (below_at memories (λ i. leb (s.newest i) numbers24) e m lt))))
