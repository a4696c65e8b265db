-- Unfinished messages whose kind carries no reliable number (request 4) on worked examples: what each datagram and each call gives, and the
-- line.
-- Assumes nothing.
use Prim.Native.Nat.{ℕ}
use mathlib.Core.Path.{◌≡◌, refl}
use mathlib.Core.Bool.{false}
use mathlib.Core.List.{List, [], ◌∷◌, map}
use Rattle.reliability.specs.declared.Profile.{Profile}
use Rattle.reliability.specs.declared.Profile.TheVariants.{Console, Cpp}
use Rattle.bare.specs.Frame.{Frame, piece_of}
use Rattle.bare.specs.Bare.{new}
use Rattle.bare.specs.Unfinished.{Dated, stale_pieces, datagram, drop_past}
use Rattle.bare.proofs.Shown.{whole-frame, piece-frame, preview, alone, msg, gave, freed, seen, run_events}
use Rattle.bare.proofs.ByExampleProfile.{share}

-- ---- how many further datagrams

-- "one lost piece holds the others": of three, index 1 is lost. Right after them 0 drops nothing; after one further datagram 1 still drops
-- nothing, and 0 drops both. Then there is nothing left to drop.
pub one-piece-lost : run_events Console (datagram (preview 3 7 0 65 ∷ preview 3 7 2 67 ∷ []) ∷ drop_past 0 ∷ alone (whole-frame 0 0 0 0 10)
    ∷ drop_past 1 ∷ drop_past 0 ∷ drop_past 0 ∷ [])
    ≡ seen (gave 0 0 ∷ freed 0 ∷ gave 1 0 ∷ freed 0 ∷ freed 2 ∷ freed 0 ∷ []) (msg 0 0 0 (10 ∷ []) ∷ [])
unfolding run_events
one-piece-lost = refl

-- "more than n further datagrams": at exactly 2 of them the call with 2 drops nothing, and the last piece completes the message.
pub last-piece-in-time : run_events Console (datagram (preview 3 7 0 65 ∷ preview 3 7 2 67 ∷ []) ∷ alone (whole-frame 0 0 0 0 10)
    ∷ alone (whole-frame 0 0 0 0 11) ∷ drop_past 2 ∷ alone (preview 3 7 1 66) ∷ [])
    ≡ seen (gave 0 0 ∷ gave 1 0 ∷ gave 1 0 ∷ freed 0 ∷ gave 1 0 ∷ [])
    (msg 0 0 0 (10 ∷ []) ∷ msg 0 0 0 (11 ∷ []) ∷ msg 0 0 0 (65 ∷ 66 ∷ 67 ∷ []) ∷ [])
unfolding run_events
last-piece-in-time = refl

-- At 3 it drops both, and the last piece alone opens the id anew: nothing is ready. From then on the id goes by that piece.
pub last-piece-too-late : run_events Console (datagram (preview 3 7 0 65 ∷ preview 3 7 2 67 ∷ []) ∷ alone (whole-frame 0 0 0 0 10)
    ∷ alone (whole-frame 0 0 0 0 11) ∷ alone (whole-frame 0 0 0 0 12) ∷ drop_past 2 ∷ alone (preview 3 7 1 66) ∷ drop_past 0
    ∷ alone (whole-frame 0 0 0 0 13) ∷ drop_past 0 ∷ [])
    ≡ seen (gave 0 0 ∷ gave 1 0 ∷ gave 1 0 ∷ gave 1 0 ∷ freed 2 ∷ gave 0 0 ∷ freed 0 ∷ gave 1 0 ∷ freed 1 ∷ [])
    (msg 0 0 0 (10 ∷ []) ∷ msg 0 0 0 (11 ∷ []) ∷ msg 0 0 0 (12 ∷ []) ∷ msg 0 0 0 (13 ∷ []) ∷ [])
unfolding run_events
last-piece-too-late = refl

-- A further datagram counts though it has no frame.
pub empty-datagrams-count : run_events Console (alone (preview 2 7 0 65) ∷ datagram [] ∷ drop_past 1 ∷ datagram [] ∷ drop_past 1 ∷ [])
    ≡ seen (gave 0 0 ∷ gave 0 0 ∷ freed 0 ∷ gave 0 0 ∷ freed 1 ∷ []) []
unfolding run_events
empty-datagrams-count = refl

-- "since whose last kept piece": id 7 has a second piece, so id 8 goes before it, though id 7 was opened first. Id 7 is joined.
pub second-piece-renews : run_events Console (alone (preview 3 7 0 65) ∷ alone (preview 2 8 0 75) ∷ alone (preview 3 7 1 66)
    ∷ alone (whole-frame 0 0 0 0 10) ∷ drop_past 1 ∷ alone (preview 3 7 2 67) ∷ alone (preview 2 8 1 76) ∷ [])
    ≡ seen (gave 0 0 ∷ gave 0 0 ∷ gave 0 0 ∷ gave 1 0 ∷ freed 1 ∷ gave 1 0 ∷ gave 0 0 ∷ [])
    (msg 0 0 0 (10 ∷ []) ∷ msg 0 0 0 (65 ∷ 66 ∷ 67 ∷ []) ∷ [])
unfolding run_events
second-piece-renews = refl

-- Pieces of the id that step 2 or 3 drops do not renew it: an index at the count, one that is there, another count, another kind.
pub dropped-pieces-do-not : run_events Console (alone (preview 3 7 0 65) ∷ datagram (preview 3 7 3 66 ∷ preview 3 7 0 67 ∷ preview 4 7 1 68
    ∷ piece-frame 2 0 0 0 3 7 1 69 ∷ []) ∷ drop_past 0 ∷ [])
    ≡ seen (gave 0 0 ∷ gave 0 4 ∷ freed 1 ∷ []) []
unfolding run_events
dropped-pieces-do-not = refl

-- The highest number of 32 bits, 2^32 - 1: an id of which a piece was kept in the first datagram goes after 2^32 further ones.
unfoldable pub opened-first : ℕ → Dated
opened-first datagrams = record {
  bare = record { accepted = λ n. false; pieces = piece_of (preview 2 7 0 65) ∷ []; out = (new Console).out };
  datagrams = datagrams;
  last = λ id. 1;
}

pub highest-number : map (λ (datagrams : ℕ). stale_pieces 4294967295 (opened-first datagrams)) (4294967296 ∷ 4294967297 ∷ []) ≡ 0 ∷ 1 ∷ []
unfolding run_events opened-first
highest-number = refl

-- ---- which kinds

-- Of each kind an id with one of its two pieces, and the other pieces: kinds 2, 3, 4 and 7 with reliable numbers.
unfoldable pub first-pieces : List Frame
first-pieces = piece-frame 0 0 0 0 2 10 0 1 ∷ piece-frame 1 0 0 0 2 11 0 11 ∷ piece-frame 2 0 0 0 2 12 0 21 ∷ piece-frame 3 1 0 0 2 13 0 31
    ∷ piece-frame 4 2 0 0 2 14 0 41 ∷ piece-frame 5 0 0 0 2 15 0 51 ∷ piece-frame 6 0 0 0 2 16 0 61 ∷ piece-frame 7 3 0 1 2 17 0 71 ∷ []

unfoldable pub other-pieces : List Frame
other-pieces = piece-frame 0 0 0 0 2 10 1 2 ∷ piece-frame 1 0 0 0 2 11 1 12 ∷ piece-frame 2 4 0 0 2 12 1 22 ∷ piece-frame 3 5 0 0 2 13 1 32
    ∷ piece-frame 4 6 0 0 2 14 1 42 ∷ piece-frame 5 0 0 0 2 15 1 52 ∷ piece-frame 6 0 0 0 2 16 1 62 ∷ piece-frame 7 7 0 1 2 17 1 72 ∷ []

-- "whose kind carries no reliable number": those of kinds 0, 1, 5 and 6 go, in either profile. Those of kinds 2, 3, 4 and 7 stay, and their
-- other pieces complete them; the other pieces of kinds 0, 1, 5 and 6 open their ids anew.
pub kinds-0-1-5-6-go : map (λ (p : Profile). run_events p (datagram first-pieces ∷ datagram [] ∷ drop_past 0 ∷ datagram [] ∷ drop_past 0
    ∷ datagram other-pieces ∷ datagram [] ∷ drop_past 0 ∷ [])) (Console ∷ Cpp ∷ [])
    ≡ map (λ (p : Profile). seen (gave 0 0 ∷ gave 0 0 ∷ freed 4 ∷ gave 0 0 ∷ freed 0 ∷ gave 4 0 ∷ gave 0 0 ∷ freed 4 ∷ [])
    (msg 2 0 0 (21 ∷ 22 ∷ []) ∷ msg 3 0 0 (31 ∷ 32 ∷ []) ∷ msg 4 0 0 (41 ∷ 42 ∷ []) ∷ msg 7 0 1 (71 ∷ 72 ∷ []) ∷ [])) (Console ∷ Cpp ∷ [])
unfolding run_events first-pieces other-pieces
kinds-0-1-5-6-go = refl

-- One kind at a time: how many pieces of kinds 0 to 7 the call with 0 drops after a further datagram.
pub kind-by-kind : map (λ (kind : ℕ). (run_events Cpp (alone (piece-frame kind 0 0 0 2 7 0 65) ∷ datagram [] ∷ drop_past 0 ∷ [])).answers)
    (0 ∷ 1 ∷ 2 ∷ 3 ∷ 4 ∷ 5 ∷ 6 ∷ 7 ∷ [])
    ≡ map (λ (pieces : ℕ). gave 0 0 ∷ gave 0 0 ∷ freed pieces ∷ []) (1 ∷ 1 ∷ 0 ∷ 0 ∷ 0 ∷ 1 ∷ 1 ∷ 0 ∷ [])
unfolding run_events
kind-by-kind = refl

-- Kind 4 of the C++ profile, which has an order number and a channel of its own (3 and 2), has a reliable number, too: it stays where the
-- preview beside it goes. So it is completed by the piece that agrees in both, and by no other.
pub kind-4-of-cpp-stays : run_events Cpp (datagram (share 0 3 2 0 10 ∷ preview 2 8 0 65 ∷ []) ∷ datagram [] ∷ drop_past 0
    ∷ alone (share 1 4 2 1 11) ∷ alone (share 2 3 1 1 12) ∷ alone (share 3 3 2 1 13) ∷ [])
    ≡ seen (gave 0 0 ∷ gave 0 0 ∷ freed 1 ∷ gave 0 1 ∷ gave 0 1 ∷ gave 1 0 ∷ []) (msg 4 2 3 (10 ∷ 13 ∷ []) ∷ [])
unfolding run_events share
kind-4-of-cpp-stays = refl

-- ---- what is left

-- Once dropped, the id is free for another kind and count; before it is not.
pub id-for-another-kind : run_events Console (alone (preview 3 7 0 65) ∷ alone (piece-frame 2 0 0 0 2 7 0 75) ∷ drop_past 0
    ∷ alone (piece-frame 2 1 0 0 2 7 0 76) ∷ alone (piece-frame 2 2 0 0 2 7 1 77) ∷ [])
    ≡ seen (gave 0 0 ∷ gave 0 1 ∷ freed 1 ∷ gave 0 0 ∷ gave 1 0 ∷ []) (msg 2 0 0 (76 ∷ 77 ∷ []) ∷ [])
unfolding run_events
id-for-another-kind = refl

-- All else stays: an ordered message held behind order number 0, a reliable number that was accepted, and a sequence number's memory.
pub all-else-stays : run_events Console (datagram (preview 2 7 0 65 ∷ whole-frame 3 0 0 1 31 ∷ whole-frame 1 0 0 0 11 ∷ []) ∷ datagram []
    ∷ drop_past 0 ∷ datagram (whole-frame 3 0 0 1 31 ∷ whole-frame 1 0 0 0 12 ∷ whole-frame 3 1 0 0 30 ∷ []) ∷ [])
    ≡ seen (gave 1 0 ∷ gave 0 0 ∷ freed 1 ∷ gave 2 2 ∷ []) (msg 1 0 0 (11 ∷ []) ∷ msg 3 0 0 (30 ∷ []) ∷ msg 3 0 1 (31 ∷ []) ∷ [])
unfolding run_events
all-else-stays = refl
