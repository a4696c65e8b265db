-- Document 01, "Bench lines": the starred lines as one list, over the definitions that the calls' promises cite. Each field stands under
-- its line.
use Rattle.std.specs.Prelude.{ℕ, ◌+◌, ◌≡◌, true, false, List, [], ◌∷◌, length, replicate}
use Rattle.base.specs.Answer.{Answer, refused, gives}
use Rattle.reliability.specs.declared.Profile.{Profile}
use Rattle.reliability.specs.declared.Profile.TheVariants.{Console}
use Rattle.frame.specs.declared.Frame.{Frame}
use Rattle.frame.specs.declared.Placed.{Placed}
use Rattle.frame.specs.Read.{read_frame_of, body_of}
use Rattle.ack.specs.Write.{write_list_of, written_of}
use Rattle.window.specs.Window.{new_window, insert_of}
use Rattle.split.specs.Split.{count, part_length, piece_header, write_piece_of}
use Rattle.bare.specs.Frame as line
use Rattle.bare.specs.Bare.{new, step}
use Rattle.receiver.specs.Receive.{Report, receive_of}
use Rattle.receiver.specs.Receiver.{Receiver}
use Rattle.receiver.specs.Claim.{Start, begun}

-- reading at the first byte, under document 01's own profile, gives this frame with this body, to the last byte
abbrev pub ReadsAs : List ℕ → Frame → List ℕ → Type 0
ReadsAs s f body = (p : Placed) × (read_frame_of Console s 0 ≡ gives (p, length s)) × (p.frame ≡ f) × (body_of s p ≡ body)

-- a frame that is no piece
abbrev pub whole_frame : ℕ → ℕ → ℕ → ℕ → ℕ → Frame
whole_frame kind reliable sequence order channel =
    record {
      kind = kind;
      reliable = reliable;
      sequence = sequence;
      order = order;
      channel = channel;
      piece = false;
      meta = record { count = 0; id = 0; index = 0 };
    }

-- writing the numbers as an ACK into an output of so many bytes fills it with these
abbrev pub AckIs : List ℕ → List ℕ → Type 0
AckIs numbers bytes =
    (write_list_of (length bytes) false numbers ≡ gives (length bytes))
    × (written_of (replicate (length bytes) 0) false numbers ≡ bytes)

-- what a receive answers
abbrev pub reported : Receiver → List ℕ → Answer Report
reported x d = (receive_of x.queue x.records x.store d).answer

-- a datagram with one frame, a piece of kind 3 in channel 0 of count 2 and index 2, whose id and body's byte are given
abbrev pub with_piece : ℕ → ℕ → ℕ → List ℕ
with_piece id₁ id₂ byte =
    0x84 ∷ 0x00 ∷ 0x00 ∷ 0x00
    ∷ 0x70 ∷ 0x00 ∷ 0x08 ∷ 0x00 ∷ 0x00 ∷ 0x00 ∷ 0x00 ∷ 0x00 ∷ 0x00 ∷ 0x00
    ∷ 0x00 ∷ 0x00 ∷ 0x00 ∷ 0x02 ∷ id₁ ∷ id₂ ∷ 0x00 ∷ 0x00 ∷ 0x00 ∷ 0x02 ∷ byte ∷ []

-- a piece of kind 3 with these piece fields
abbrev pub piece_of3 : ℕ → ℕ → ℕ → line.Frame
piece_of3 count id index =
    record {
      kind = 3;
      reliable = 0;
      sequence = 0;
      order = 0;
      channel = 0;
      piece = true;
      count = count;
      id = id;
      index = index;
      body = [];
    }

pub record BenchLines : Type 0 where
  -- "New window: 0 accepted, low 1."
  pub zero_accepted : ((insert_of new_window 0).answer ≡ gives tt) × ((insert_of new_window 0).window.low ≡ 1)
  -- "Then 0 again: 4."
  pub zero_again : (insert_of (insert_of new_window 0).window 0).answer ≡ refused 4
  -- "New window: 2,048 accepted, 2,049 gets 5."
  pub reach : ((insert_of new_window 2048).answer ≡ gives tt) × ((insert_of new_window 2049).answer ≡ refused 5)
  -- "`60 00 08 00 00 00 01 00 00 00 42`: kind 3, reliable 0, order 1, channel 0, body 42."
  pub kind_3 :
      ReadsAs (0x60 ∷ 0x00 ∷ 0x08 ∷ 0x00 ∷ 0x00 ∷ 0x00 ∷ 0x01 ∷ 0x00 ∷ 0x00 ∷ 0x00 ∷ 0x42 ∷ []) (whole_frame 3 0 0 1 0) (0x42 ∷ [])
  -- "`00 00 00`: kind 0, empty."
  pub kind_0 : ReadsAs (0x00 ∷ 0x00 ∷ 0x00 ∷ []) (whole_frame 0 0 0 0 0) []
  -- "`00 00 0C 41`: one byte, 41."
  pub one_byte : ReadsAs (0x00 ∷ 0x00 ∷ 0x0C ∷ 0x41 ∷ []) (whole_frame 0 0 0 0 0) (0x41 ∷ [])
  -- "ACK {0}: `C0 00 01 01 00 00 00`."
  pub ack_0 : AckIs (0 ∷ []) (0xC0 ∷ 0x00 ∷ 0x01 ∷ 0x01 ∷ 0x00 ∷ 0x00 ∷ 0x00 ∷ [])
  -- "{0,1}: `C0 00 01 00 00 00 00 01 00 00`."
  pub ack_0_1 : AckIs (0 ∷ 1 ∷ []) (0xC0 ∷ 0x00 ∷ 0x01 ∷ 0x00 ∷ 0x00 ∷ 0x00 ∷ 0x00 ∷ 0x01 ∷ 0x00 ∷ 0x00 ∷ [])
  -- "{3,5,6,7}: `C0 00 02 01 03 00 00 00 05 00 00 07 00 00`."
  pub ack_3_5_6_7 :
      AckIs (3 ∷ 5 ∷ 6 ∷ 7 ∷ []) (0xC0 ∷ 0x00 ∷ 0x02 ∷ 0x01 ∷ 0x03 ∷ 0x00 ∷ 0x00 ∷ 0x00 ∷ 0x05 ∷ 0x00 ∷ 0x00 ∷ 0x07 ∷ 0x00 ∷ 0x00 ∷ [])
  -- "1,441 bytes at mtu 1,500: pieces 1,440 and 1;" by request 6's call, under any id. There are two pieces, each answer is the header more
  -- than the piece, and there is no third
  pub split_1441 : (count 1441 1500 ≡ 2) × (part_length 1441 1500 0 ≡ 1440) × (part_length 1441 1500 1 ≡ 1)
      × ((id : ℕ) → (write_piece_of 1500 1441 1500 id 0 0 0 0 ≡ gives (piece_header + 1440))
      × (write_piece_of 1500 1441 1500 id 1 0 0 0 ≡ gives (piece_header + 1))
      × (write_piece_of 1500 1441 1500 id 2 0 0 0 ≡ refused 19))
  -- "1,440: 17;": whichever piece is asked for, and whatever else
  pub split_1440 : (room id k channel order reliable : ℕ) → write_piece_of room 1440 1500 id k channel order reliable ≡ refused 17
  -- "mtu 60: 16.": whatever the data, and all else
  pub mtu_60 : (room n id k channel order reliable : ℕ) → write_piece_of room n 60 id k channel order reliable ≡ refused 16
  -- "Piece index 2 of count 2: dropped.": by a receiver just made, of either profile and any number of cells
  pub index_2_of_2 : (s : Start) (id₁ id₂ byte : ℕ) → reported (begun s) (with_piece id₁ id₂ byte)
      ≡ gives (record { ready = 0; dropped = 1; left = 0 })
  -- and by the bare receiver
  pub bare_index_2_of_2 : (p : Profile) (id : ℕ) → ((step (new p) (piece_of3 2 id 2)).dropped ≡ 1)
      × ((step (new p) (piece_of3 2 id 2)).ready ≡ 0)
