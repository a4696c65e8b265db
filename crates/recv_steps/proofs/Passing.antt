-- A datagram's frames, one after the other: the turns of the loop.
-- Assumes nothing.
use Prim.Native.Nat.{ℕ, ◌+◌, ◌*◌, ◌-◌, ◌≤◌, ◌<◌}
use mathlib.Core.Path.{◌≡◌, refl, sym, ◌∙◌, ap, subst}
use mathlib.Core.Logic.{◌⊎◌, inl, inr}
use mathlib.Core.Option.{some}
use mathlib.Core.List.Memᴰ
use mathlib.Core.List.{List, [], ◌∷◌, map, Memᴰ}
use native.Mathlib.Omega.{arith}
use native.Mathlib.Decide.{dec_lt}
use lib.ListN.{length, take, drop, length-take}
use Rattle.std.specs.Prelude.{Result, Ok, Err}
use Rattle.base.specs.Answer.{gives, refused}
use Rattle.base.specs.declared.refusal.Refusal.{Refusal}
use Rattle.base.specs.declared.refusal.Refusal.TheVariants.{Beyond, ReliableBeyond}
use Rattle.base.specs.Refusals.{number_of, answer}
use Rattle.base.specs.Bytes.{Bytes}
use Rattle.base.specs.Limits.{numbers24, max_ord_chans, max_cells, min_datagram, max_datagram}
use Rattle.reliability.specs.declared.Profile.{Profile}
use Rattle.window.specs.Proper.{Sized}
use Rattle.window.specs.declared.ReliableWindow.{ReliableWindow}
use Rattle.window.specs.Window.{accepted, give, refuse}
use Rattle.frame.specs.declared.Placed.{Placed}
use Rattle.frame.specs.Read.{read_frame_of}
use Rattle.frame.specs.Frames.{frames_of, end_of}
use Rattle.frame.proofs.Bounds.{read_small}
use Rattle.frame.proofs.Reading.{read_whole}
use Rattle.frame.proofs.FramesOf.{frames-more, end_more, frames-cut, end-cut}
use Rattle.bare.specs.Frame.{Frame, carries_reliable}
use mathlib.Core.Bool.{true}
use Rattle.cells.specs.Datagram.{Work, frame, frames}
use Rattle.cells.specs.Sound as sound
use Rattle.cells.proofs.Growing.{Grows, frame-grows}
use Rattle.cells.proofs.SoundCascade.{Sound}
use Rattle.cells.proofs.SoundFrames.{frames-sound}
use Rattle.rows.specs.declared.Row.{Row}
use Rattle.row_slots.specs.Slots.{slots_in, AllFit}
use Rattle.row_slots.proofs.Meaning.{slots-in-length}
use Rattle.receiver.specs.declared.Nexts.{Nexts}
use Rattle.receiver.specs.Parts.{next_at}
use Rattle.receiver.proofs.NextsSet.{next_past}
use Rattle.receiver.specs.Receive.{frame_in, frames_in, accept_all, bytes_left}
use Rattle.recv_steps.specs.declared.Tally.{Tally}
use Rattle.recv_steps.specs.Work.{work_of}
use Rattle.recv_steps.specs.CountChanges.{dropped_one}
use Rattle.recv_steps.specs.Placing.{Stands, ReadablePlaced}
use Rattle.recv_steps.specs.Moves.{MayStep, Moves, Sane, limited}
use Rattle.recv_steps.specs.Frames.{number_in, Begun, begun_tally, Ran}
use Rattle.recv_steps.proofs.Numbering.{five-beyond, number-beyond, number-goes, number-skips, number-drops, number-keeps}

-- ---- a frame that was read

module _ (f : Profile) (d : List ℕ) (by : Bytes d) (short : length d ≤ max_datagram) (at : ℕ) (p : Placed) (next : ℕ)
    (e : read_frame_of f d at ≡ gives (p, next)) where
  pub read-stands : Stands d p
  read-stands = let w = read_whole f d at p next e in omega arith

  pub read-readable : ReadablePlaced p
  read-readable = let w = read_whole f d at p next e in record {
    within = omega arith;
    reliable = (read_small f d by at p next e).0.reliable;
    sequence = (read_small f d by at p next e).0.sequence;
  }

  read_ok : sound.Readable (frame_in d p)
  unfolding frame_in
  read_ok =
      let s = read_small f d by at p next e in
      let w = read_whole f d at p next e in
      let n : length (take p.len (drop p.start d)) ≤ p.len = simp length-take (omega arith) in
      record { kind = s.0.kind; sequence = s.0.sequence; order = s.0.order; body = omega arith; id = s.0.meta.id }

-- ---- the loop

-- The frames from a place on, with their bodies.
abbrev rest : Profile → List ℕ → ℕ → List Frame
rest f d at = map (frame_in d) (frames_of f d at)

-- what a turn may have come to, at a place
abbrev high : ℕ → ℕ
high at = max_cells + at * (max_cells + 1)

-- the working state
abbrev work : ReliableWindow → Nexts → List Row → Tally → List ℕ → List ℕ → Work
work v ns rs x store d = work_of (accepted v) x ns rs store d

-- What is left to do gives what was to be done at first.
pub record Going (f : Profile) (w₀ : ReliableWindow) (ns₀ : Nexts) (rs₀ : List Row) (turn₀ : ℕ) (d : List ℕ)
    (v : ReliableWindow) (ns : Nexts) (rs : List Row) (x : Tally) (at : ℕ) : Type 0
  where
    pub begun : Begun w₀ ns₀ rs₀ turn₀ d
    pub bytes : Bytes d
    pub long : length rs ≡ length rs₀
    pub here : at ≤ max_datagram
    pub is : (store : List ℕ) → frames (work v ns rs x store d) (map (frame_in d) (frames_of f d at))
        ≡ frames (work w₀ ns₀ rs₀ (begun_tally turn₀) store d) (frames_in ns₀.profile d)
    pub fits : AllFit d rs
    pub sound : (store : List ℕ) → Sound (next_at ns) (slots_in rs store d) x.turn
    pub reaches : accept_all v (map (frame_in d) (frames_of f d at))
        ≡ accept_all w₀ (frames_in ns₀.profile d)
    pub end : end_of ns₀.profile d min_datagram ≡ end_of f d at
    pub nexts : length ns.channels ≡ max_ord_chans
    pub profile : ns.profile ≡ ns₀.profile
    pub turn : x.turn ≤ high at
    pub ready : x.ready ≤ high at
    pub dropped : x.dropped ≤ high at

pub going-begins : (f : Profile) (u : ReliableWindow) (ns : Nexts) (rs : List Row) (turn₀ : ℕ) (d : List ℕ) → f ≡ ns.profile
    → Begun u ns rs turn₀ d → Bytes d → Going f u ns rs turn₀ d u ns rs (begun_tally turn₀) min_datagram
unfolding frames_in
going-begins f u ns rs turn₀ d e v by = record {
  begun = v;
  bytes = by;
  long = refl;
  here = omega arith;
  is = λ store. rw e;
  fits = v.fits;
  sound = v.sound;
  reaches = rw e;
  end = rw e;
  nexts = v.nexts;
  profile = refl;
  turn = let p = v.first in omega arith;
  ready = omega arith;
  dropped = omega arith;
}

module _ (f : Profile) (w₀ : ReliableWindow) (ns₀ : Nexts) (rs₀ : List Row) (turn₀ : ℕ) (d : List ℕ)
    (v : ReliableWindow) (ns : Nexts) (rs : List Row) (x : Tally) (at : ℕ) (g : Going f w₀ ns₀ rs₀ turn₀ d v ns rs x at) where
  -- What the next frame asks for.
  next_small : (c : ℕ) → next_at ns c ≤ numbers24
  next_small c = go (dec_lt c max_ord_chans)
    where
      go : Dec (c < max_ord_chans) → next_at ns c ≤ numbers24
      go (yes lt) = (g.sound []).nexts c lt
      go (no ge) = subst (λ (z : ℕ). z ≤ numbers24) (sym past) (omega arith)
        where
          past : next_at ns c ≡ 0
          past = next_past ns g.nexts c (omega arith)

  pub may-step : MayStep rs ns x
  may-step = record {
    few = rw g.long g.begun.few;
    counts = let h = g.here in record {
      turn = let p = g.turn in omega arith;
      ready = let p = g.ready in omega arith;
      dropped = let p = g.dropped in omega arith;
    };
    nexts = record { long = g.nexts; next = λ c. let p = next_small c in omega arith };
  }

  going-sane : Sane d x ns rs
  going-sane = g.sound

  module _ (r : Result (Placed × ℕ) Refusal) (er : answer r ≡ read_frame_of f d at) where
    module _ (p : Placed) (next : ℕ) (q : r ≡ Ok (p, next)) where
      read : read_frame_of f d at ≡ gives (p, next)
      read = sym er ∙ ap answer q

      more : map (frame_in d) (frames_of f d at) ≡ frame_in d p ∷ map (frame_in d) (frames_of f d next)
      more = ap (map (frame_in d)) (frames-more f d at p next read)

      pub going-readable : ReadablePlaced p
      going-readable = read-readable f d g.bytes g.begun.short at p next read

      going-stands : Stands d p
      going-stands = read-stands f d g.bytes g.begun.short at p next read

      pub going_less : length d - next < length d - at
      going_less = let w = read_whole f d at p next read in omega arith

      -- The number is beyond reach.
      pub going-stops : (v' : ReliableWindow) → refuse 5 v' ≡ number_in v p
          → (v'' : ReliableWindow) (ns'' : Nexts) (rs'' : List Row) → Ran w₀ ns₀ rs₀ turn₀ d (Err ReliableBeyond) v'' ns'' rs''
      unfolding Ran
      going-stops v' e v'' ns'' rs'' = (
        refl,
        sym g.reaches ∙ (ap (accept_all v) more
            ∙ number-beyond v p going-readable.reliable d (rest f d next) v' e),
      )

      -- The frame is worked on, whatever comes of it.
      module _ (v' : ReliableWindow) (y : Tally) (ns' : Nexts) (rs' : List Row)
          (long : length rs' ≡ length rs) (many : length ns'.channels ≡ length ns.channels)
          (stays : ns'.profile ≡ ns.profile)
          (one : (store : List ℕ) → work v' ns' rs' y store d ≡ frame (work v ns rs x store d) (frame_in d p))
          (goes : accept_all v (frame_in d p ∷ rest f d next) ≡ accept_all v' (rest f d next))
          (fits' : AllFit d rs') where
        first : (store : List ℕ) → frames (frame (work v ns rs x store d) (frame_in d p)) (rest f d next)
            ≡ frames (work v ns rs x store d) (rest f d at)
        first store = unfold frames in rw more

        after : (store : List ℕ) → Sound (next_at ns') (slots_in rs' store d) y.turn
        after store = unfold work_of in subst (λ (w : Work). Sound w.state.next w.state.slots w.turn) (sym (one store))
            (unfold frames in frames-sound (frame_in d p ∷ []) (work v ns rs x store d) ok (unfold work_of in g.sound store))
          where
            ok : (z : Frame) → Memᴰ z (frame_in d p ∷ []) → sound.Readable z
            ok z m = here (Memᴰ.cases_cons m)
              where
                here : (z ≡ frame_in d p) ⊎ Memᴰ z [] → sound.Readable z
                here (inl i) = subst sound.Readable (sym i) (read_ok f d g.bytes g.begun.short at p next read)
                here (inr m) = absurd (Memᴰ.not-nil m)

        grown : Grows (1 + max_cells) (work v ns rs x [] d) (work v' ns' rs' y [] d)
        grown = subst (Grows (1 + max_cells) (work v ns rs x [] d)) (sym (one []))
            (frame-grows max_cells (frame_in d p) (work v ns rs x [] d) few)
          where
            few : length (work v ns rs x [] d).state.slots ≤ max_cells
            few = unfold work_of in (omega (arith, slots-in-length rs [] d, may-step.few))

        turned : y.turn ≤ x.turn + (1 + max_cells)
        turned = unfold work_of in grown.turn

        readied : y.ready ≤ x.ready + (1 + max_cells)
        readied = unfold work_of in grown.ready

        lost : y.dropped ≤ x.dropped + (1 + max_cells)
        lost = unfold work_of in grown.dropped

        raised : (k : Tally → ℕ) → k y ≤ k x + (1 + max_cells) → k x ≤ high at → k y ≤ high next
        raised k a b = let w = read_whole f d at p next read in let l : at + 1 ≤ next = omega arith in omega arith

        pub going-goes : Going f w₀ ns₀ rs₀ turn₀ d v' ns' rs' y next
        going-goes = record {
          begun = g.begun;
          bytes = g.bytes;
          long = long ∙ g.long;
          here = let w = read_whole f d at p next read in let s = g.begun.short in omega arith;
          is = λ store. ap (λ (w : Work). frames w (rest f d next)) (one store) ∙ (first store ∙ g.is store);
          fits = fits';
          sound = after;
          reaches = sym goes ∙ (ap (accept_all v) (sym more) ∙ g.reaches);
          end = g.end ∙ end_more f d at p next read;
          nexts = many ∙ g.nexts;
          profile = stays ∙ g.profile;
          turn = raised (λ (z : Tally). z.turn) turned g.turn;
          ready = raised (λ (z : Tally). z.ready) readied g.ready;
          dropped = raised (λ (z : Tally). z.dropped) lost g.dropped;
        }

      -- It carries no number, or its number was accepted.
      pub going-keeps : (v' : ReliableWindow) → (carries_reliable p.frame.kind ≡ true → Sized v) → give v' ≡ number_in v p
          → (y : Tally) (ns' : Nexts) (rs' : List Row)
          → length rs' ≡ length rs
          → ((d : List ℕ) → Stands d p → Sane d x ns rs → Moves d (limited (frame_in d p)) x ns rs y ns' rs')
          → Going f w₀ ns₀ rs₀ turn₀ d v' ns' rs' y next
      going-keeps v' sized e y ns' rs' long steps =
          let m = steps d going-stands going-sane in
          going-goes v' y ns' rs' long m.long m.profile
          (number-keeps v p going-readable.reliable d x ns rs y ns' rs' sized v' m e)
          (number-goes v p going-readable.reliable d (rest f d next) v' e)
          (m.fits g.fits)

      -- Its number was accepted before.
      pub going-drops : (n : Refusal) → (n ≡ Beyond → ⊥) → (v' : ReliableWindow)
          → refuse (number_of n) v' ≡ number_in v p → (y : Tally) → y ≡ dropped_one x
          → Going f w₀ ns₀ rs₀ turn₀ d v' ns rs y next
      going-drops n ne v' e y ey =
          rw ey (going-goes v' (dropped_one x) ns rs refl refl refl
          (number-drops v p going-readable.reliable d x ns rs (number_of n) v'
          (λ z. ne (five-beyond n z)) e)
          (number-skips v p going-readable.reliable d (rest f d next) (number_of n) v'
          (λ z. ne (five-beyond n z)) e)
          g.fits)

    pub going-ends : (n : Refusal) → r ≡ Err n → (left : ℕ) → left ≡ length d - at
        → Ran w₀ ns₀ rs₀ turn₀ d (Ok (record { counts = x; left = left })) v ns rs
    unfolding Ran
    going-ends n q left e = record {
      is = λ store. done store ∙ (ap (frames (work v ns rs x store d)) (sym none_left) ∙ g.is store);
      fits = g.fits;
      reaches = sym g.reaches ∙ (ap (accept_all v) none_left ∙ taken);
      end = e ∙ (unfold bytes_left in rw (g.end, end-cut f d at (number_of n) cut));
      nexts = g.nexts;
      profile = g.profile;
    }
      where
        cut : read_frame_of f d at ≡ refused (number_of n)
        cut = sym er ∙ ap answer q

        done : (store : List ℕ) → work v ns rs x store d ≡ frames (work v ns rs x store d) []
        done store = unfold frames in refl

        taken : accept_all v [] ≡ some v
        taken = unfold accept_all in refl

        none_left : map (frame_in d) (frames_of f d at) ≡ []
        none_left = ap (map (frame_in d)) (frames-cut f d at (number_of n) cut)
