-- Demand 3's statement has teeth, by computation. Over the calls of document 01's program `trace` it holds of our receiver, and fails of
-- an idle one, of one that keeps its first datagram only, and of one that hands out nothing. Over calls that drop unfinished messages it
-- fails of receivers that never drop, that drop too early, that count refused datagrams, and that drop another id.
-- Assumes nothing.
use Prim.Native.Nat.{ℕ}
use mathlib.Core.Path.{◌≡◌, refl, sym, ◌∙◌, ap}
use mathlib.Core.Bool.{Bool, ◌&&◌}
use mathlib.Core.Option.{some}
use mathlib.Core.List.{List, [], ◌∷◌, ◌++◌}
use native.Mathlib.Omega.{arith}
use lib.ListN.{length}
use Rattle.base.specs.Bytes.{be16, be32, le24, be16_bytes, le24_bytes}
use Rattle.base.specs.Put.{put, and_then}
use Rattle.base.specs.If.{if_true, if_lt, if_le, if_eq}
use Rattle.base.specs.Lists.{count_of}
use Rattle.reliability.specs.declared.Profile.TheVariants.{Console}
use Rattle.reliability.specs.Profiles.{profile_of}
use Rattle.reliability.specs.Kinds.{fields_of}
use Rattle.frame.specs.Read as fr
use Rattle.frame.specs.Frames as frs
use Rattle.ack.specs.Records as records
use Rattle.ack.specs.Write as ack
use Rattle.window.specs.Places as places
use Rattle.window.specs.Window as window
use Rattle.bare.specs.Frame.{Message, Piece}
use Rattle.bare.specs.Bare.{has_id}
use Rattle.bare.specs.Unfinished.{new_dated, receive_dated, since, is_stale, drop_stale, stale_pieces, frames_of}
use Rattle.bare.specs.Unfinished as dated
use Rattle.bare.specs.Order.{line_for}
use Rattle.bare.proofs.Shown.{whole-frame, msg}
use Rattle.cells.specs.Cell.{is_open, piece_in}
use Rattle.cells.specs.Records.{index_of, change_cells}
use Rattle.cells.specs.Store.{slots_of}
use Rattle.cells.proofs.Shown.{run}
use Rattle.receiver.specs.Queue.{new_queue, places_within, sound_window, differ, sound_unsent, sound_queue}
use Rattle.receiver.specs.Queue.{next_in, next_of, memories_in, newest_of}
use Rattle.receiver.specs.Queue.{profile_in, unsent_of, sound_profile, insert_unsent}
use Rattle.receiver.specs.Receive.{frame_in, frames_in, bytes_left, accept_all, state_of, channels_after, queue_after, accepted_result}
use Rattle.receiver.specs.Receive.{refused_result, sound_call, receive_of}
use Rattle.receiver.specs.Take.{handed, take_of}
use Rattle.receiver.specs.Write.{sorted, write_of, emptied, write_unsent_of}
use Rattle.receiver.specs.Calls.{Call, take_with, Outcome, Done, accepted, freed, made, zeros, takes, bytes_at, message_handed}
use Rattle.receiver.specs.Receiver.{Receiver}
use Rattle.receiver.specs.Calls.{took_of, accepted_by, dropped_by, refusal_of, receive_outcome, take_outcome, write_outcome, drop_outcome}
use Rattle.receiver.specs.Calls.{outcome, after_all, handed_out, done_by, still_out, drained, event_of, events_of, bare_answers}
use Rattle.receiver.specs.Drop.{drop_unfinished_of}
use Rattle.receiver.specs.Claim.{begun, told_by, left_by, OneList}
use Rattle.corollaries.specs.Wrong.{outcome_with, idle, untouched, acknowledged, first_only, mute, keeping, droppable, is_stale_early}
use Rattle.corollaries.specs.Wrong.{hasty, aged_if_refused, counting_refused, without_last, another_id, trace1, trace2, trace_calls}
use Rattle.corollaries.specs.Wrong.{half, drop_calls, two_ids, trace_start}

-- What takes handed out over a list of calls, then what they would still hand out. `unfolding out_by` opens every definition that such a
-- run computes with, beside those that `run` does.
unfoldable pub out_by : (Receiver → Call → Outcome) → List Call → List Message
unfolding trace1 trace2 trace_calls trace_start made zeros takes bytes_at message_handed took_of accepted_by refusal_of receive_outcome
    take_outcome write_outcome drop_outcome dropped_by outcome event_of events_of
    bare_answers after_all handed_out done_by still_out drained line_for
    frames_in frame_in bytes_left frs.frames_of frs.frames_from frs.end_of frs.end_from frs.on_read fr.read_frame_of fr.frame_at
    fr.body_length
    fr.placed_at if_true if_lt if_le if_eq be16 be32 le24 be16_bytes le24_bytes put and_then fields_of profile_of
    records.first_of records.last_of records.record_bytes records.records_bytes records.grow records.runs ack.id_of ack.ack_header_bytes
    ack.list_bytes ack.some_over ack.too_large ack.ascending ack.by_list_case ack.write_list_of ack.written_of
    places.bit places.place_set places.set_place places.clear_place window.new_window window.accepted window.advance window.accept
    new_queue places_within sound_window differ sound_profile sound_unsent sound_queue next_in next_of memories_in newest_of
    profile_in unsent_of
    insert_unsent accept_all state_of channels_after queue_after accepted_result refused_result sound_call receive_of
    handed take_of index_of sorted write_of emptied write_unsent_of drop_unfinished_of change_cells
    new_dated dated.happens dated.after_events receive_dated dated.keeps_piece dated.dated_at dated.last_after since is_stale drop_stale
    stale_pieces frames_of outcome_with idle untouched acknowledged first_only mute keeping droppable is_stale_early hasty
    aged_if_refused counting_refused without_last another_id half drop_calls two_ids
out_by by cs = handed_out by (begun trace_start) cs ++ still_out by (after_all by (begun trace_start) cs)

-- how many open pieces pass a test, the bare receiver's and those in the cells, after a list of calls
unfoldable pub bare_open : (Receiver → Call → Outcome) → List Call → (Piece → Bool) → ℕ
bare_open by cs p = count_of p (dated.after_events (new_dated Console) (told_by by trace_start cs)).bare.pieces

unfoldable pub open_in : (Receiver → Call → Outcome) → List Call → (Piece → Bool) → ℕ
open_in by cs p = let x = after_all by (begun trace_start) cs in count_of (λ s. is_open s && p (piece_in s)) (slots_of x.records x.store)

-- the line that the trace's two accepted datagrams give: their messages by order number
unfoldable pub trace_line : List Message
trace_line = msg 3 0 0 (0x41 ∷ []) ∷ msg 3 0 1 (0x42 ∷ []) ∷ []

-- what a list does; here, two datagrams are accepted, with the answers' counts
unfoldable pub does_by : (Receiver → Call → Outcome) → List Call → List Done
does_by by cs = done_by by (begun trace_start) cs

unfoldable pub trace_done : List Done
trace_done =
    accepted (record { frames = whole-frame 3 0 0 1 0x42 ∷ []; ready = 0; dropped = 0 })
    ∷ accepted (record { frames = whole-frame 3 1 0 0 0x41 ∷ []; ready = 2; dropped = 0 }) ∷ []

ours-does : does_by outcome trace_calls ≡ trace_done
unfolding run out_by does_by trace_done
ours-does = refl

ours-hands-out : out_by outcome trace_calls ≡ trace_line
unfolding run out_by trace_line
ours-hands-out = refl

ours-ends : (buffer : List ℕ) → (outcome (left_by outcome trace_start trace_calls) (take_with buffer)).refusal ≡ some 20
unfolding run out_by
ours-ends buffer = refl

bare-line : line_for Console (events_of trace_done) ≡ trace_line
unfolding run out_by trace_line trace_done
bare-line = refl

bare-counts : bare_answers (new_dated Console) trace_done ≡ trace_done
unfolding run out_by trace_done
bare-counts = refl

ours-open : (p : Piece → Bool) → (bare_open outcome trace_calls p ≡ 0) × (open_in outcome trace_calls p ≡ 0)
unfolding run out_by bare_open open_in
ours-open p = (refl, refl)

-- Ours passes.
pub ours-passes : OneList outcome trace_start trace_calls
unfolding trace_start
ours-passes =
    let e : done_by outcome (begun trace_start) trace_calls ≡ trace_done = unfold does_by in ours-does in
    let h : handed_out outcome (begun trace_start) trace_calls ++ still_out outcome (after_all outcome (begun trace_start) trace_calls)
    ≡ trace_line =
    unfold out_by in ours-hands-out in
    record {
      line = rw e (bare-line ∙ sym h);
      until_20 = ours-ends;
      counts = rw e (sym bare-counts);
      unfinished = λ p. unfold bare_open open_in in ((ours-open p).0 ∙ sym (ours-open p).1);
    }

-- Calls that accept frames with two messages in the line and hand out none fail.
none-handed-out : (by : Receiver → Call → Outcome) → length (line_for Console (told_by by trace_start trace_calls)) ≡ 2
    → length (out_by by trace_calls) ≡ 0
    → OneList by trace_start trace_calls → ⊥
none-handed-out by two none o =
    let c : line_for Console (told_by by trace_start trace_calls) ≡ out_by by trace_calls = unfold out_by in o.line in
    let n : length (line_for Console (told_by by trace_start trace_calls)) ≡ length (out_by by trace_calls) =
    ap {B = ℕ} (λ l. length l) c in
    omega arith

idle-line : length (line_for Console (told_by idle trace_start trace_calls)) ≡ 2
unfolding run out_by
idle-line = refl

idle-out : length (out_by idle trace_calls) ≡ 0
unfolding run out_by
idle-out = refl

-- The idle one hands out nothing of what it accepted.
pub idle-fails : OneList idle trace_start trace_calls → ⊥
idle-fails = none-handed-out idle idle-line idle-out

first-only-line : length (line_for Console (told_by first_only trace_start trace_calls)) ≡ 2
unfolding run out_by
first-only-line = refl

first-only-out : length (out_by first_only trace_calls) ≡ 0
unfolding run out_by
first-only-out = refl

-- The one that keeps its first datagram only holds order number 1 for ever.
pub first-only-fails : OneList first_only trace_start trace_calls → ⊥
first-only-fails = none-handed-out first_only first-only-line first-only-out

mute-line : length (line_for Console (told_by mute trace_start trace_calls)) ≡ 2
unfolding run out_by
mute-line = refl

mute-out : length (out_by mute trace_calls) ≡ 0
unfolding run out_by
mute-out = refl

-- The mute one has both messages ready and hands out none.
pub mute-fails : OneList mute trace_start trace_calls → ⊥
mute-fails = none-handed-out mute mute-line mute-out

-- ---- dropping the unfinished

-- what the drops answered
unfoldable pub freed_of : List Done → List ℕ
freed_of [] = []
freed_of (accepted a ∷ rest) = freed_of rest
freed_of (freed f ∷ rest) = f.cells ∷ freed_of rest

-- over a list of calls, and what the bare receiver answers to the same
unfoldable pub frees_by : (Receiver → Call → Outcome) → List Call → List ℕ
frees_by by cs = freed_of (done_by by (begun trace_start) cs)

unfoldable pub bare_frees : (Receiver → Call → Outcome) → List Call → List ℕ
bare_frees by cs = freed_of (bare_answers (new_dated Console) (done_by by (begun trace_start) cs))

-- Ours frees the cell where more than n further datagrams were accepted, not before.
pub ours-frees : (frees_by outcome drop_calls ≡ 0 ∷ 1 ∷ []) × (bare_frees outcome drop_calls ≡ 0 ∷ 1 ∷ [])
unfolding run out_by freed_of frees_by bare_frees
ours-frees = (refl, refl)

-- Drops that do not free what the bare receiver drops fail.
frees-otherwise : (by : Receiver → Call → Outcome) (a b c d : ℕ) → frees_by by drop_calls ≡ a ∷ b ∷ []
    → bare_frees by drop_calls ≡ c ∷ d ∷ [] → (a ≡ c → b ≡ d → ⊥) → OneList by trace_start drop_calls → ⊥
unfolding frees_by bare_frees trace_start
frees-otherwise by a b c d f g ne o =
    let e : frees_by by drop_calls ≡ bare_frees by drop_calls = ap freed_of o.counts in
    let l : ◌≡◌ {A = List ℕ} (a ∷ b ∷ []) (c ∷ d ∷ []) = sym f ∙ (e ∙ g) in
    let p : a ≡ c = cc in
    let q : b ≡ d = cc in
    ne p q

keeping-frees : (frees_by keeping drop_calls ≡ 0 ∷ 0 ∷ []) × (bare_frees keeping drop_calls ≡ 0 ∷ 1 ∷ [])
unfolding run out_by freed_of frees_by bare_frees
keeping-frees = (refl, refl)

-- The one that never drops frees none at the second drop.
pub keeping-fails : OneList keeping trace_start drop_calls → ⊥
keeping-fails = frees-otherwise keeping 0 0 0 1 keeping-frees.0 keeping-frees.1 (λ p q. omega arith)

hasty-frees : (frees_by hasty drop_calls ≡ 1 ∷ 0 ∷ []) × (bare_frees hasty drop_calls ≡ 0 ∷ 1 ∷ [])
unfolding run out_by freed_of frees_by bare_frees
hasty-frees = (refl, refl)

-- The hasty one frees the cell at exactly n.
pub hasty-fails : OneList hasty trace_start drop_calls → ⊥
hasty-fails = frees-otherwise hasty 1 0 0 1 hasty-frees.0 hasty-frees.1 (λ p q. omega arith)

refused-frees : (frees_by counting_refused drop_calls ≡ 1 ∷ 0 ∷ []) × (bare_frees counting_refused drop_calls ≡ 0 ∷ 1 ∷ [])
unfolding run out_by freed_of frees_by bare_frees
refused-frees = (refl, refl)

-- The one that counts refused datagrams frees it where one was refused and none accepted.
pub counting-refused-fails : OneList counting_refused trace_start drop_calls → ⊥
counting-refused-fails = frees-otherwise counting_refused 1 0 0 1 refused-frees.0 refused-frees.1 (λ p q. omega arith)

-- ---- dropping another id

-- Of two ids ours frees the one that waited longer, as the bare receiver does: id 6's half is left.
pub ours-leaves : (frees_by outcome two_ids ≡ 1 ∷ [])
    × (bare_open outcome two_ids (has_id 6) ≡ 1) × (open_in outcome two_ids (has_id 6) ≡ 1)
unfolding run out_by freed_of frees_by bare_open open_in has_id
ours-leaves = (refl, refl, refl)

-- The other frees as many cells as the bare receiver drops pieces,
another-frees : (frees_by another_id two_ids ≡ 1 ∷ []) × (bare_frees another_id two_ids ≡ 1 ∷ [])
unfolding run out_by freed_of frees_by bare_frees
another-frees = (refl, refl)

another-leaves : (bare_open another_id two_ids (has_id 6) ≡ 1) × (open_in another_id two_ids (has_id 6) ≡ 0)
unfolding run out_by bare_open open_in has_id
another-leaves = (refl, refl)

-- but id 6's: what is left open is not what the bare receiver has left.
pub another-id-fails : OneList another_id trace_start two_ids → ⊥
unfolding bare_open open_in trace_start
another-id-fails o =
    let e : bare_open another_id two_ids (has_id 6) ≡ open_in another_id two_ids (has_id 6) = o.unfinished (has_id 6) in
    let n : ◌≡◌ {A = ℕ} 1 0 = sym another-leaves.0 ∙ (e ∙ another-leaves.1) in
    omega arith
