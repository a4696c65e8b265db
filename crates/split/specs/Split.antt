-- Document 01: "Piece k of a split, chunk mtu - 60. 16 mtu outside 61 to 1,500; 17 data fits one chunk; 18 over 1,024 pieces; 19 k beyond
-- the last." Request 6: "one call takes the data, mtu, id, k, channel, order and reliable number, and writes the frame of kind 3. Its
-- numbers are those of the split, then those of the writer". Pieces count from 0, as a piece's index does.
use Rattle.std.specs.Prelude.{ℕ, zero, suc, ◌+◌, ◌-◌, ◌*◌, ◌/◌, ◌≤◌, ◌<◌, min, true, List, [], ◌++◌, length, take, drop}
use Rattle.base.specs.Answer.{Answer, refused, gives}
use Rattle.base.specs.If.{if_lt, if_le}
use Rattle.base.specs.Limits.{min_mtu, max_mtu, frame_overhead, max_frags}
use Rattle.reliability.specs.declared.Profile.TheVariants.{Console}
use Rattle.frame.specs.declared.Frame.{Frame}
use Rattle.frame_write.specs.Valid.{write_frame_of, frame_written_of}

-- "chunk mtu - 60": how many bytes each piece takes, the last one at most so many
abbrev pub chunk : ℕ → ℕ
chunk mtu = mtu - frame_overhead

-- how many chunks of c bytes hold n bytes: n divided by c, rounded up
unfoldable pub chunks_of : ℕ → ℕ → ℕ
chunks_of n c = (n + (c - 1)) / c

-- how many pieces n bytes make
abbrev pub count : ℕ → ℕ → ℕ
count n mtu = chunks_of n (chunk mtu)

-- piece k of the data: from k chunks on one chunk, or what is left of the data where that is less
unfoldable pub part_of : List ℕ → ℕ → ℕ → List ℕ
part_of s mtu k = take (chunk mtu) (drop (k * chunk mtu) s)

-- how many bytes it has, of n bytes of data
unfoldable pub part_length : ℕ → ℕ → ℕ → ℕ
part_length n mtu k = min (chunk mtu) (n - k * chunk mtu)

-- the parts of the first m pieces, one after another (for the laws alone)
unfoldable pub first_parts : List ℕ → ℕ → ℕ → List ℕ
first_parts s mtu zero = []
first_parts s mtu (suc m) = first_parts s mtu m ++ part_of s mtu m

-- n bytes are split at this mtu: none of 16, 17 and 18 is due
pub record Splits (n mtu : ℕ) : Type 0 where
  pub least : min_mtu ≤ mtu
  pub most : mtu ≤ max_mtu
  pub over : chunk mtu < n
  pub few : count n mtu ≤ max_frags

-- "the frame of kind 3"
abbrev pub piece_kind : ℕ
piece_kind = 3

-- how many bytes of such a frame stand before its body (`piece-size`, split/proofs/Written)
abbrev pub piece_header : ℕ
piece_header = 20

-- the frame of piece k of so many
abbrev pub piece_frame : ℕ → ℕ → ℕ → ℕ → ℕ → ℕ → Frame
piece_frame pieces id k channel order reliable =
    record {
      kind = piece_kind;
      reliable = reliable;
      sequence = 0;
      order = order;
      channel = channel;
      piece = true;
      meta = record { count = pieces; id = id; index = k };
    }

-- how many pieces n bytes make, where they are split and there is a piece k; refusals in the order written
unfoldable pub split_of : ℕ → ℕ → ℕ → Answer ℕ
split_of n mtu k =
    if_lt mtu min_mtu (refused 16)
    (if_lt max_mtu mtu (refused 16)
    (if_le n (chunk mtu) (refused 17)
    (if_lt max_frags (count n mtu) (refused 18)
    (if_le (count n mtu) k (refused 19)
    (gives (count n mtu))))))

-- r of the number where the split is refused, else w of how many pieces there are
unfoldable pub on_split : {A : Type 0} → Answer ℕ → (ℕ → A) → (ℕ → A) → A
on_split (refused number) r w = r number
on_split (gives pieces) r w = w pieces

-- the answer, for an output of `room` bytes and n bytes of data: how many bytes the frame takes, or the number of the refusal. (Frames of
-- kind 3 are the same in both profiles: `either_profile`, split/proofs/Written.)
unfoldable pub write_piece_of : ℕ → ℕ → ℕ → ℕ → ℕ → ℕ → ℕ → ℕ → Answer ℕ
write_piece_of room n mtu id k channel order reliable =
    on_split (split_of n mtu k) refused
    (λ pieces. write_frame_of Console room 0 (piece_frame pieces id k channel order reliable) (part_length n mtu k))

-- the output afterwards, the frame at its beginning; a refusal leaves it as it was
unfoldable pub piece_written_of : List ℕ → List ℕ → ℕ → ℕ → ℕ → ℕ → ℕ → ℕ → List ℕ
piece_written_of out s mtu id k channel order reliable =
    on_split (split_of (length s) mtu k) (λ _. out)
    (λ pieces. frame_written_of Console out 0 (piece_frame pieces id k channel order reliable) (part_of s mtu k))
