-- Demand 3's statement has teeth where a receiver is saved and resumed (request 5). Over two lists of calls it holds of our receiver, as
-- over any; by computation it fails of one whose save drops held messages, and of such whose resumption forgets all, loses held or open
-- messages, sets ages to 0, reverses the ready messages, or exchanges the windows.
-- Assumes nothing.
use Prim.Native.Nat.{ℕ, zero, suc, ◌+◌, ◌^◌}
use mathlib.Core.Path.{◌≡◌, refl, sym, ◌∙◌, ap}
use mathlib.Core.Bool.{Bool, true}
use mathlib.Core.List.{List, [], ◌∷◌}
use native.Mathlib.Omega.{arith}
use lib.Dec.{ltb}
use borrow.Author.Tests.{ltb-true}
use Rattle.base.specs.Bytes.{Bytes, be64, be32_bytes, be64_bytes}
use Rattle.base.specs.Lists as lists
use Rattle.base.specs.Lists.{every}
use Rattle.base.specs.Sort.{insert_by, sort_by}
use Rattle.base.proofs.Choices.{and_left, and_right}
use Rattle.base.proofs.Lists.{every-mem}
use Rattle.reliability.specs.declared.Profile.TheVariants.{Console}
use Rattle.bare.specs.Frame.{Message}
use Rattle.bare.specs.Unfinished.{new_dated}
use Rattle.bare.specs.Order.{line_for}
use Rattle.bare.proofs.Shown.{whole-frame, preview}
use Rattle.cells.specs.Room.{is_held_first}
use Rattle.cells.proofs.Shown.{run}
use Rattle.image.specs.Format as format
use Rattle.image.specs.Image as image
use Rattle.image.specs.Windows as windows
use Rattle.image.specs.Entries as entries
use Rattle.image.specs.Slots as slots
use Rattle.receiver.specs.Receiver.{Receiver}
use Rattle.receiver.specs.Save as save
use Rattle.receiver.specs.Restore as restore
use Rattle.receiver.specs.Calls as calls
use Rattle.receiver.specs.Calls.{Call, receive, drop_unfinished, Outcome, Done, accepted, freed, outcome, done_by, events_of, bare_answers}
use Rattle.receiver.specs.Claim.{begun, Typed, told_by, OneList}
use Rattle.receiver.proofs.Demand.{demand-3}
use Rattle.corollaries.specs.Wrong as wrong
use Rattle.corollaries.specs.Wrong.{save_drops_held, forgetful, loses_held, loses_open, loses_ages, reversing, exchanging}
use Rattle.corollaries.specs.Wrong.{saved_calls, resumed_calls, trace_start}
use Rattle.corollaries.proofs.Teeth.{out_by, does_by}

-- What a list's datagrams made ready, and what its drops freed.
unfoldable pub made_ready : List Done → ℕ
made_ready [] = 0
made_ready (accepted a ∷ rest) = a.ready + made_ready rest
made_ready (freed f ∷ rest) = made_ready rest

unfoldable pub cells_freed : List Done → ℕ
cells_freed [] = 0
cells_freed (accepted a ∷ rest) = cells_freed rest
cells_freed (freed f ∷ rest) = f.cells + cells_freed rest

-- What these calls do. `unfolding resumed_by` opens what a save and a resumption compute with, beside what `out_by` does.
unfoldable pub resumed_by : (Receiver → Call → Outcome) → List Done
unfolding run out_by be64 be32_bytes be64_bytes lists.only lists.same insert_by sort_by is_held_first
    windows.eight windows.packed windows.window_entry windows.window_from
    entries.piece_entry entries.bodies_of entries.message_entry entries.pieces_in entries.held_in entries.ready_in
    slots.piece_slot slots.part_slot slots.parts slots.held_slots slots.ready_slots slots.used_slots slots.slots_from
    format.exactly format.number32 format.number64 format.both format.formed format.write_all format.read_all format.many format.counted
    format.section format.body image.window_format image.channel_format image.four_numbers image.piece_format image.message_format
    image.image_format image.image_bytes image.read_image
    save.channels_in save.image_of save.save_of restore.queue_from restore.restored restore.valid restore.restore_of
    calls.save_outcome calls.restored_or calls.restore_outcome calls.resume_outcome
    wrong.leaving wrong.outcome_then wrong.without_use wrong.save_drops_held wrong.forgetful wrong.loses_held wrong.loses_open
    wrong.loses_ages wrong.reversing wrong.exchanged wrong.exchanging wrong.numbered_whole wrong.resume_over wrong.saved_calls
    wrong.resumed_calls does_by
resumed_by by = does_by by resumed_calls

-- ---- ours
-- a test of what the types say of a call's bytes and numbers
unfoldable pub is_typed : Call → Bool
is_typed (receive d) = every (λ b. ltb b 256) d
is_typed (drop_unfinished n) = ltb n (2 ^ 32)
is_typed c = true

all-bytes : (d : List ℕ) → every (λ b. ltb b 256) d ≡ true → Bytes d
unfolding every
all-bytes [] e i = omega arith
all-bytes (b ∷ d) e zero = ltb-true b 256 (and_left (ltb b 256) _ e)
all-bytes (b ∷ d) e (suc i) = all-bytes d (and_right (ltb b 256) _ e) i

-- Ours passes every list that passes the test.
passes : (cs : List Call) → every is_typed cs ≡ true → OneList outcome trace_start cs
unfolding is_typed
passes cs e =
    let t : Typed cs = record {
      bytes = λ d i. all-bytes d (every-mem is_typed cs e (receive d) i);
      numbers = λ n i. ltb-true n (2 ^ 32) (every-mem is_typed cs e (drop_unfinished n) i);
    } in
    (demand-3 trace_start trace_start cs cs t t).first

-- ---- the others
-- Calls that count otherwise than the bare receiver does fail.
does-otherwise : (by : Receiver → Call → Outcome) (cs : List Call) (ds es : List Done) (f : List Done → ℕ) → does_by by cs ≡ ds
    → bare_answers (new_dated Console) ds ≡ es → (f ds ≡ f es → ⊥) → OneList by trace_start cs → ⊥
unfolding does_by trace_start
does-otherwise by cs ds es f d e ne o =
    let g : bare_answers (new_dated Console) (done_by by (begun trace_start) cs) ≡ es = rw d e in
    ne (ap f (sym d ∙ (o.counts ∙ g)))

-- ---- a save between two datagrams, and a resumption after them
-- the second datagram makes n messages ready
unfoldable pub readying : ℕ → List Done
readying n =
    accepted (record { frames = whole-frame 3 0 0 1 0x42 ∷ []; ready = 0; dropped = 0 })
    ∷ accepted (record { frames = whole-frame 3 1 0 0 0x41 ∷ []; ready = n; dropped = 0 }) ∷ []

-- Ours makes both ready.
pub saved-does : does_by outcome saved_calls ≡ readying 2
unfolding resumed_by readying
saved-does = refl

saved-typed : every is_typed saved_calls ≡ true
unfolding resumed_by is_typed
saved-typed = refl

pub ours-passes-saved : OneList outcome trace_start saved_calls
ours-passes-saved = passes saved_calls saved-typed

save-drops-held-does : does_by save_drops_held saved_calls ≡ readying 1
unfolding resumed_by readying
save-drops-held-does = refl

bare-readies : bare_answers (new_dated Console) (readying 1) ≡ readying 2
unfolding resumed_by readying
bare-readies = refl

-- Order number 1 is gone after the save: one message is made ready, where the bare receiver makes two.
pub save-drops-held-fails : OneList save_drops_held trace_start saved_calls → ⊥
unfolding readying made_ready
save-drops-held-fails =
    does-otherwise save_drops_held saved_calls (readying 1) (readying 2) made_ready save-drops-held-does bare-readies (λ e. omega arith)

-- The order number of a list's first message.
unfoldable pub first_order : List Message → ℕ
first_order [] = 0
first_order (m ∷ ms) = m.order

reversing-line : first_order (line_for Console (told_by reversing trace_start saved_calls)) ≡ 0
unfolding resumed_by first_order
reversing-line = refl

reversing-out : first_order (out_by reversing saved_calls) ≡ 1
unfolding resumed_by first_order
reversing-out = refl

-- After the resumption order number 1 is handed out before 0.
pub reversing-fails : OneList reversing trace_start saved_calls → ⊥
reversing-fails o =
    let c : line_for Console (told_by reversing trace_start saved_calls) ≡ out_by reversing saved_calls = unfold out_by in o.line in
    let e : ◌≡◌ {A = ℕ} 0 1 = sym reversing-line ∙ (ap first_order c ∙ reversing-out) in
    omega arith

-- ---- a resumption between datagrams
-- three datagrams are accepted, the last after the resumption: it makes n messages ready, and k of its frames are dropped. Then a drop
-- frees f cells
unfoldable pub resumed_done : ℕ → ℕ → ℕ → List Done
resumed_done n k f =
    accepted (record { frames = preview 2 5 0 0x41 ∷ []; ready = 0; dropped = 0 })
    ∷ accepted (record { frames = whole-frame 3 1 0 1 0x42 ∷ []; ready = 0; dropped = 0 })
    ∷ accepted (record { frames = whole-frame 3 0 0 0 0x41 ∷ []; ready = n; dropped = k })
    ∷ freed (record { past = 1; cells = f }) ∷ []

-- Ours makes both ready, too, and frees the half.
pub resumed-does : does_by outcome resumed_calls ≡ resumed_done 2 0 1
unfolding resumed_by resumed_done preview
resumed-does = refl

resumed-typed : every is_typed resumed_calls ≡ true
unfolding resumed_by is_typed
resumed-typed = refl

pub ours-passes-resumed : OneList outcome trace_start resumed_calls
ours-passes-resumed = passes resumed_calls resumed-typed

-- whatever was answered, the bare receiver makes two ready, drops none and frees a cell
resumed-counts : (n k f : ℕ) → bare_answers (new_dated Console) (resumed_done n k f) ≡ resumed_done 2 0 1
unfolding resumed_by resumed_done preview
resumed-counts n k f = refl

-- A receiver that makes another number of messages ready fails, and one that frees another number of cells.
readies-otherwise : (by : Receiver → Call → Outcome) (n k f : ℕ) → does_by by resumed_calls ≡ resumed_done n k f → (n ≡ 2 → ⊥)
    → OneList by trace_start resumed_calls → ⊥
unfolding resumed_done made_ready
readies-otherwise by n k f d ne =
    does-otherwise by resumed_calls (resumed_done n k f) (resumed_done 2 0 1) made_ready d (resumed-counts n k f) (λ e. ne (omega arith))

frees-otherwise : (by : Receiver → Call → Outcome) (n k f : ℕ) → does_by by resumed_calls ≡ resumed_done n k f → (f ≡ 1 → ⊥)
    → OneList by trace_start resumed_calls → ⊥
unfolding resumed_done cells_freed
frees-otherwise by n k f d ne =
    does-otherwise by resumed_calls (resumed_done n k f) (resumed_done 2 0 1) cells_freed d (resumed-counts n k f) (λ e. ne (omega arith))

forgetful-does : does_by forgetful resumed_calls ≡ resumed_done 1 0 0
unfolding resumed_by resumed_done preview
forgetful-does = refl

-- The new receiver has neither order number 1 nor id 5's half: one message is made ready, and no cell is freed.
pub forgetful-fails : OneList forgetful trace_start resumed_calls → ⊥
forgetful-fails = readies-otherwise forgetful 1 0 0 forgetful-does (λ e. omega arith)

loses-held-does : does_by loses_held resumed_calls ≡ resumed_done 1 0 1
unfolding resumed_by resumed_done preview
loses-held-does = refl

-- The one that lost the held messages makes one ready.
pub loses-held-fails : OneList loses_held trace_start resumed_calls → ⊥
loses-held-fails = readies-otherwise loses_held 1 0 1 loses-held-does (λ e. omega arith)

loses-open-does : does_by loses_open resumed_calls ≡ resumed_done 2 0 0
unfolding resumed_by resumed_done preview
loses-open-does = refl

-- The one that lost the open pieces frees no cell,
pub loses-open-fails : OneList loses_open trace_start resumed_calls → ⊥
loses-open-fails = frees-otherwise loses_open 2 0 0 loses-open-does (λ e. omega arith)

loses-ages-does : does_by loses_ages resumed_calls ≡ resumed_done 2 0 0
unfolding resumed_by resumed_done preview
loses-ages-does = refl

-- nor does the one that set the ages to 0: one further datagram was accepted since.
pub loses-ages-fails : OneList loses_ages trace_start resumed_calls → ⊥
loses-ages-fails = frees-otherwise loses_ages 2 0 0 loses-ages-does (λ e. omega arith)

exchanging-does : does_by exchanging resumed_calls ≡ resumed_done 0 1 1
unfolding resumed_by resumed_done preview
exchanging-does = refl

-- With the windows exchanged reliable number 0 counts as accepted, as datagram 0 was: its frame is dropped.
pub exchanging-fails : OneList exchanging trace_start resumed_calls → ⊥
exchanging-fails = readies-otherwise exchanging 0 1 1 exchanging-does (λ e. omega arith)
