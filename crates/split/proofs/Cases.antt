-- What `count_pieces` and `write_piece` return, with the facts as the code finds them: r is what `div_ceil` returned, e what `count_pieces`
-- answered.
-- Assumes nothing.
use mathlib.Core.Path.{◌≡◌, ◌∙◌, sym, ap, refl}
use mathlib.Core.List.{List}
use Prim.Native.Nat.{ℕ, ◌*◌, ◌<◌, ◌≤◌}
use native.Mathlib.Omega.{arith}
use lib.ListN.{length}
use Rattle.std.specs.Int.{div_ceil}
use Rattle.base.specs.Answer.{refused, gives}
use Rattle.base.specs.Limits.{min_mtu, max_mtu, max_frags, frame_overhead}
use Rattle.base.proofs.Ifs.{lt_yes, lt_no, le-no}
use Rattle.reliability.specs.declared.Profile.TheVariants.{Console}
use Rattle.frame_write.specs.Valid.{write_frame_of, frame_written_of}
use Rattle.split.specs.Split.{chunk, count, part_of, piece_frame, split_of, on_split, write_piece_of, piece_written_of, Splits}
use Rattle.split.proofs.Chunks.{rounded-up}
use Rattle.split.proofs.Laws.{piece-given, piece-beyond, splitting, part-long, starts-within}

module _ (n mtu k : ℕ) (least : min_mtu ≤ mtu) (most : mtu ≤ max_mtu) (c : ℕ) (d : c ≡ chunk mtu) (over : c < n) (r : ℕ)
    (counted : r ≡ div_ceil n c) where
  count-is : r ≡ count n mtu
  count-is = counted ∙ ap (div_ceil n) d ∙ rounded-up n (chunk mtu) (omega arith)

  pub too_many : max_frags < r → refused 18 ≡ split_of n mtu k
  unfolding split_of
  too_many h = let e = count-is in
      lt_no _ _ _ _ _ least (lt_no _ _ _ _ _ most (le-no _ _ _ _ _ (omega arith) (lt_yes _ _ _ _ _ (omega arith) refl)))

  splits : r ≤ max_frags → Splits n mtu
  splits few = let e = count-is in record { least = least; most = most; over = omega arith; few = omega arith }

  pub beyond-last : r ≤ max_frags → r ≤ k → refused 19 ≡ split_of n mtu k
  beyond-last few h = let e = count-is in sym (piece-beyond n mtu (splits few) k (omega arith))

  pub given : r ≤ max_frags → k < r → gives r ≡ split_of n mtu k
  given few h = rw (piece-given n mtu (splits few) k (let e = count-is in omega arith), count-is)

-- where the split is not refused, the mtu is no less than the overhead, and piece k starts within the data
pub starts_in : (s : List ℕ) (mtu k pieces : ℕ) → gives pieces ≡ split_of (length s) mtu k
    → (frame_overhead ≤ mtu) × (k * chunk mtu ≤ length s)
starts_in s mtu k pieces e =
    let h = splitting (length s) mtu k pieces e in
    let least : min_mtu ≤ mtu = h.splits.least in
    let t : k * chunk mtu < length s = starts-within s mtu h.splits k h.there in
    (omega arith, omega arith)

module _ (s : List ℕ) (mtu id k channel order reliable : ℕ) (out : List ℕ) where
  module _ (number : ℕ) (e : refused number ≡ split_of (length s) mtu k) where
    pub answer_none : refused number ≡ write_piece_of (length out) (length s) mtu id k channel order reliable
    unfolding write_piece_of on_split
    answer_none = rw (← e)

    pub output_none : out ≡ piece_written_of out s mtu id k channel order reliable
    unfolding piece_written_of on_split
    output_none = rw (← e)

  module _ (pieces : ℕ) (e : gives pieces ≡ split_of (length s) mtu k) where
    pub answer_given : write_frame_of Console (length out) 0 (piece_frame pieces id k channel order reliable) (length (part_of s mtu k))
        ≡ write_piece_of (length out) (length s) mtu id k channel order reliable
    unfolding write_piece_of on_split
    answer_given = rw (← e, part-long s mtu k)

    pub output_given : frame_written_of Console out 0 (piece_frame pieces id k channel order reliable) (part_of s mtu k)
        ≡ piece_written_of out s mtu id k channel order reliable
    unfolding piece_written_of on_split
    output_given = rw (← e)

-- ---- what the check goes by
pub ruleset pieces = (starts_in, answer_none, output_none, answer_given, output_given)
