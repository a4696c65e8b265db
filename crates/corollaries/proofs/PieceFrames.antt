-- What is read from datagrams that carry frames written for a message's pieces: exactly those pieces' frames, in the order in which they
-- stand, under either profile.
-- Assumes nothing.
use mathlib.Core.Path.{◌≡◌, ◌∙◌, sym, refl, subst}
use mathlib.Core.Bool.{true}
use mathlib.Core.Logic.{inl, inr}
use mathlib.Core.List.Memᴰ
use mathlib.Core.List.{List, [], ◌∷◌, ◌++◌, map, map-append, Memᴰ}
use Prim.Native.Nat.{ℕ, ◌+◌, ◌<◌, ◌≤◌}
use native.Mathlib.Omega.{arith}
use lib.ListN.{length, take, replicate, length-append, length-replicate}
use lib.Seq.{get_or-append-add, length-take-le}
use Rattle.std.specs.List.{AllZip, concat, flat_map}
use Rattle.base.specs.Limits.{min_datagram, max_ord_chans, numbers16, numbers24}
use Rattle.base.specs.Put.{put, and_then}
use Rattle.base.proofs.Puts.{length-put}
use Rattle.reliability.specs.declared.Profile.{Profile}
use Rattle.reliability.specs.declared.Profile.TheVariants.{Console}
use Rattle.frame.specs.Frames.{frames_of}
use Rattle.frame.proofs.Reading.{read_past}
use Rattle.frame.proofs.FramesOf.{frames-more, frames-cut}
use Rattle.frame_write.specs.Write.{frame_bytes}
use Rattle.frame_write.specs.Valid.{within_limits, size_of}
use Rattle.frame_write.proofs.Limits.{within}
use Rattle.frame_write.proofs.Rows.{frame-wide}
use Rattle.frame_write.proofs.Stands.{Stands, put-stands, stands-there, stands-first, stands-next}
use Rattle.frame_write.proofs.WriteThenRead.{stands-read, stands-body}
use Rattle.bare.specs.Frame.{Frame}
use Rattle.split.specs.Split.{Splits, piece_kind, piece_header, part_of, part_length, piece_written_of}
use Rattle.split.proofs.Written.{frame_of, piece-written, room-enough}
use Rattle.receiver.specs.Receive.{frame_in, frames_in}
use Rattle.corollaries.specs.Pieces.{Outgoing, pieces_of, WrittenFor, Carries, Datagrams}

-- the frame of piece k as a receiver is handed it
unfoldable pub line_frame : Outgoing → ℕ → Frame
line_frame x k =
    record {
      kind = piece_kind;
      reliable = x.reliable k;
      sequence = 0;
      order = x.order;
      channel = x.channel;
      piece = true;
      count = pieces_of x;
      id = x.id;
      index = k;
      body = part_of x.body x.mtu k;
    }

module _ (x : Outgoing) where
  -- ---- one frame
  -- the bytes of piece k's frame under profile p
  abbrev bytes_of : Profile → ℕ → List ℕ
  bytes_of p k = frame_bytes p (frame_of (length x.body) x.mtu x.id k x.channel x.order (x.reliable k)) (part_of x.body x.mtu k)

  -- what it means that bytes were written for piece k
  pub record PieceSent (k : ℕ) (bytes : List ℕ) : Type 0 where
    pub splits : Splits (length x.body) x.mtu
    pub there : k < pieces_of x
    pub channel : x.channel < max_ord_chans
    pub order : x.order < numbers24
    pub reliable : x.reliable k < numbers24
    pub limits : (p : Profile)
        → within_limits p (frame_of (length x.body) x.mtu x.id k x.channel x.order (x.reliable k)) (length (part_of x.body x.mtu k)) ≡ true
    pub is : (p : Profile) → bytes ≡ bytes_of p k

  pub sent : (k : ℕ) (bytes : List ℕ) → WrittenFor x k bytes → PieceSent k bytes
  sent k bytes w =
      let a = piece-written x.body x.mtu x.id k x.channel x.order (x.reliable k) w.output (length bytes) w.answer in
      let l = within Console _ _ (a.limits Console) in
      record {
        splits = a.splits;
        there = a.there;
        channel = l.channel.below;
        order = l.order.below;
        reliable = l.reliable.below;
        limits = a.limits;
        is = λ p.
            let o : List ℕ = put w.output 0 (bytes_of p k) in
            let n : length (bytes_of p k) ≡ length bytes = a.long p in
            let b : take (length (bytes_of p k)) o ≡ bytes_of p k = stands-there o 0 (bytes_of p k)
            (put-stands w.output 0 (bytes_of p k) (omega (arith, a.room))) (rw length-put (omega (arith, a.room))) in
            sym w.written ∙ rw (a.is p) (rw n at b);
      }

  -- A message that is split, with its numbers below their limits, has bytes written for each piece: what the theorem asks can be met.
  pub each-written : Splits (length x.body) x.mtu → x.channel < max_ord_chans → x.order < numbers24
      → (k : ℕ) → k < pieces_of x → x.reliable k < numbers24 → (bytes : List ℕ) × WrittenFor x k bytes
  each-written splits c o k lt r =
      let n : ℕ = piece_header + part_length (length x.body) x.mtu k in
      let out : List ℕ = replicate n 0 in
      let long : length out ≡ n = length-replicate n 0 in
      let e = room-enough (length out) (length x.body) x.mtu x.id k x.channel x.order (x.reliable k) splits lt c o r (omega arith) in
      let w = piece-written x.body x.mtu x.id k x.channel x.order (x.reliable k) out n e in
      let all : List ℕ = piece_written_of out x.body x.mtu x.id k x.channel x.order (x.reliable k) in
      let wide : length all ≡ length out = rw (w.is Console, length-put) refl in
      let m : length (take n all) ≡ n = length-take-le n all (omega arith) in
      (take n all, record { output = out; answer = rw m e; written = rw m refl })

  module _ (p : Profile) (id : x.id < numbers16) (s : List ℕ) where
    -- where the bytes written for piece k stand, its frame is read, and the frames after it
    first-read : (k at : ℕ) (frame : List ℕ) → PieceSent k frame → Stands s at frame → at + length frame ≤ length s
        → map (frame_in s) (frames_of p s at) ≡ line_frame x k ∷ map (frame_in s) (frames_of p s (at + length frame))
    unfolding frame_in line_frame
    first-read k at frame w stands fits =
        let f = frame_of (length x.body) x.mtu x.id k x.channel x.order (x.reliable k) in
        let body : List ℕ = part_of x.body x.mtu k in
        let there : Stands s at (bytes_of p k) = rw (w.is p) at stands in
        let long : length frame ≡ size_of p f (length body) = rw (w.is p) (frame-wide p f body) in
        let room : at + size_of p f (length body) ≤ length s = omega arith in
        rw (
          frames-more p s at _ _ (stands-read p s at f body there room (w.limits p) id),
          stands-body p s at f body there room,
          long,
        ) refl

    -- ---- one datagram
    -- where all frames written for pieces ks stand up to the end, these are read
    read_in_order : (ks : List ℕ) (at : ℕ) (frames : List (List ℕ)) → AllZip (WrittenFor x) ks frames → Stands s at (concat frames)
        → at + length (concat frames) ≡ length s → map (frame_in s) (frames_of p s at) ≡ map (line_frame x) ks
    read_in_order [] at [] all stands end = rw (frames-cut p s at 1 (read_past p s at (omega arith))) refl
    read_in_order [] at (frame ∷ frames) all stands end = absurd all
    read_in_order (k ∷ ks) at [] all stands end = absurd all
    read_in_order (k ∷ ks) at (frame ∷ frames) (w, ws) stands end =
        let rest : List ℕ = concat frames in
        let both : Stands s at (and_then frame rest) = unfold and_then in stands in
        let long : length (frame ++ rest) ≡ length frame + length rest = length-append frame rest in
        rw (
          first-read k at frame (sent k frame w) (stands-first s at frame rest both) (omega arith),
          read_in_order ks (at + length frame) frames ws (stands-next s at frame rest both) (omega arith),
        ) refl

  module _ (id : x.id < numbers16) (p : Profile) where
    -- The frames read from a datagram that carries those written for pieces ks are these.
    pub frames-carried : (ks d : List ℕ) → Carries x ks d → frames_in p d ≡ map (line_frame x) ks
    unfolding frames_in
    frames-carried ks d c =
        let stands : Stands d min_datagram (concat c.frames) = record {
          each = λ i h. rw (c.is, ← c.head_long) (get_or-append-add c.head (concat c.frames) i 0);
        } in
        read_in_order p id d ks min_datagram c.frames c.all stands (rw (c.is, length-append) (omega (arith, c.head_long)))

    -- ---- all datagrams
    parts-read : (parts ds : List (List ℕ)) → AllZip (Carries x) parts ds
        → flat_map (frames_in p) ds ≡ map (line_frame x) (concat parts)
    parts-read [] [] all = refl
    parts-read [] (d ∷ ds) all = absurd all
    parts-read (ks ∷ parts) [] all = absurd all
    parts-read (ks ∷ parts) (d ∷ ds) (c, more) =
        rw (frames-carried ks d c, parts-read parts ds more) (sym (map-append (line_frame x) ks (concat parts)))

    -- The frames read from datagrams that carry those written for pieces ks, one datagram after another, are these.
    pub datagrams-read : (ks : List ℕ) (ds : List (List ℕ)) → Datagrams x ks ds → flat_map (frames_in p) ds ≡ map (line_frame x) ks
    datagrams-read ks ds g = rw g.is (parts-read g.parts ds g.all)

  -- ---- what datagrams tell of each piece
  frames-written : (ks : List ℕ) (frames : List (List ℕ)) → AllZip (WrittenFor x) ks frames → (k : ℕ) → Memᴰ k ks
      → (b : List ℕ) × WrittenFor x k b
  frames-written [] frames all k m = absurd (Memᴰ.not-nil m)
  frames-written (j ∷ ks) [] all k m = absurd all
  frames-written (j ∷ ks) (frame ∷ frames) (w, ws) k m = elim (Memᴰ.cases_cons m) [
    | inl i ↦ subst (λ (l : ℕ). (b : List ℕ) × WrittenFor x l b) (sym i) (frame, w)
    | inr i ↦ frames-written ks frames ws k i
  ]

  parts-written : (parts ds : List (List ℕ)) → AllZip (Carries x) parts ds → (k : ℕ) → Memᴰ k (concat parts)
      → (b : List ℕ) × WrittenFor x k b
  parts-written [] ds all k m = absurd (Memᴰ.not-nil m)
  parts-written (ks ∷ parts) [] all k m = absurd all
  parts-written (ks ∷ parts) (d ∷ ds) (c, more) k m = elim (Memᴰ.append_cases ks m) [
    | inl i ↦ frames-written ks c.frames c.all k i
    | inr i ↦ parts-written parts ds more k i
  ]

  -- each of the pieces was written
  pub datagrams-written : (ks : List ℕ) (ds : List (List ℕ)) → Datagrams x ks ds → (k : ℕ) → Memᴰ k ks
      → (b : List ℕ) × WrittenFor x k b
  datagrams-written ks ds g k m = parts-written g.parts ds g.all k (rw g.is at m)
