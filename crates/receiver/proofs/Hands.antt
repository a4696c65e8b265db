-- What a take hands out: the message that the receiver with cells takes, its bytes where the answer says that they stand.
-- Assumes nothing.
use Prim.Native.Nat.{ℕ, suc, ◌+◌, ◌*◌, ◌≤◌, ◌<◌}
use mathlib.Core.Path.{◌≡◌, refl, sym, ◌∙◌, ap}
use mathlib.Core.Bool.{Bool, true, false, cond, ◌&&◌}
use mathlib.Core.Option.{some}
use mathlib.Core.List.{List, [], ◌∷◌}
use native.Mathlib.Omega.{arith}
use native.Mathlib.Nat.{suc-mul}
use lib.ListN.{length, take, drop}
use lib.Seq.{take_at, drop-drop}
use lib.Dec.{eqb}
use borrow.Author.Tests.{eqb-true, eqb-false, ne_eqb}
use Rattle.base.specs.Limits.{cell_bytes}
use Rattle.base.specs.Lists.{find}
use Rattle.base.specs.Put.{put}
use Rattle.base.proofs.Puts.{put-split}
use Rattle.base.proofs.Choices.{by_bool, and_left}
use Rattle.base.proofs.Lists.{find-some}
use Rattle.bare.specs.Frame.{Message}
use Rattle.cells.specs.Cell.{Cell, Slot, Key, ready_as, bears, at, sits, join, message_of, message_at, freed}
use Rattle.cells.specs.Records.{index_of}
use Rattle.cells.specs.Take.{taking}
use Rattle.cells.specs.Store.{cell_size, cell_body, slots_of, cells_of}
use Rattle.receiver.specs.Take.{in_store, in_joined, TakeResult, take_refuses, take_gives, handed}
use Rattle.receiver.specs.Calls as calls
use Rattle.receiver.specs.Calls.{took_of, bytes_at}
use Rattle.receiver.proofs.AnswerCases.{by-lt, Found}

-- The record found and its slot: what stands in its cell.
pub record SlotOf (p : Cell → Bool) (rs : List Cell) (st : List ℕ) (c : Cell) : Type 0 where
  pub slot : Slot
  pub found : find (λ (s : Slot). p s.cell) (slots_of rs st) ≡ some slot
  pub cell-is : slot.cell ≡ c
  pub body_is : slot.body ≡ cell_body c (drop (index_of p rs * cell_size) st)

slot_of : (p : Cell → Bool) (rs : List Cell) (st : List ℕ) (c : Cell) → find p rs ≡ some c → SlotOf p rs st c
unfolding find slots_of index_of
slot_of p [] st c e = absurd (let z : ◌≡◌ {A = ℕ} 0 1 = cc in omega arith)
slot_of p (r ∷ rs) st c e = go (p r) refl e (λ f. slot_of p rs (drop cell_size st) c f)
  where
    go : (b : Bool) → p r ≡ b → cond b (some r) (find p rs) ≡ some c → (find p rs ≡ some c → SlotOf p rs (drop cell_size st) c)
        → SlotOf p (r ∷ rs) st c
    go true t f k =
        let q : r ≡ c = cc in
        record {
          slot = record { cell = r; body = cell_body r st };
          found = rw t;
          cell-is = q;
          body_is = ap (λ (x : Cell). cell_body x st) q ∙ rw t (let z : 0 * cell_size ≡ 0 = omega arith in rw z);
        }
    go false t f k =
        let s = k f in
        let m = suc-mul (index_of p rs) cell_size in
        let z : suc (index_of p rs) * cell_size ≡ cell_size + index_of p rs * cell_size = omega arith in
        record {
          slot = s.slot;
          found = rw t s.found;
          cell-is = s.cell-is;
          body_is = s.body_is ∙ rw (t, z) (ap (cell_body c) (drop-drop (index_of p rs * cell_size) cell_size st));
        }

module _ (rs : List Cell) (st : List ℕ) (f : Found rs st) where
  abbrev pub key : Key
  key = ready_as f.turn

  pub the : SlotOf (at key 0) rs st f.first
  the = slot_of (at (ready_as f.turn) 0) rs st f.first f.first-is

  -- the message that was found is that of this slot
  pub message-of : f.message ≡ message_of the.slot (join (ready_as f.turn) (slots_of rs st) f.first.count)
  unfolding message_at sits
  message-of =
      let e : some (message_of the.slot (join (ready_as f.turn) (slots_of rs st) the.slot.cell.count)) ≡ some f.message =
      rw the.found at f.message-is in
      let q : message_of the.slot (join (ready_as f.turn) (slots_of rs st) the.slot.cell.count) ≡ f.message = cc in
      sym q ∙ ap (λ (n : ℕ). message_of the.slot (join (ready_as f.turn) (slots_of rs st) n))
      (ap (λ (c : Cell). c.count) the.cell-is)

  pub first-used : eqb f.first.used 0 ≡ false
  unfolding at bears
  first-used =
      let m = (find-some (at (ready_as f.turn) 0) rs f.first-is).1 in
      let u = eqb-true f.first.used 3 (and_left (eqb f.first.used 3) _
      (and_left (eqb f.first.used 3 && eqb f.first.turn f.turn) _ m)) in
      ne_eqb f.first.used 0 (λ q. omega arith)

  -- one body stays in its cell
  pub single-bytes : f.first.count ≡ 1 → take f.first.length (drop (index_of (at (ready_as f.turn) 0) rs * cell_bytes) st)
      ≡ f.message.body
  unfolding message_of join sits cell_size cell_body
  single-bytes one =
      sym (ap (λ (m : Message). m.body) message-of ∙ rw (one, the.found) (the.body_is ∙ rw first-used))

  -- several stand joined in the buffer
  pub joined_bytes : (buffer : List ℕ) → length f.message.body ≤ length buffer → take (length f.message.body)
      (put buffer 0 f.message.body) ≡ f.message.body
  joined_bytes buffer le =
      let z : 0 + length f.message.body ≤ length buffer = omega arith in
      rw (put-split buffer 0 f.message.body z) (take_at f.message.body (drop (0 + length f.message.body) buffer)
      (length f.message.body) refl)

  pub take-taken : taking (slots_of rs st) ≡ some (record { message = f.message; slots = freed (ready_as f.turn) (slots_of rs st) })
  unfolding taking
  take-taken = rw (f.earliest-is, f.message-is)

  -- what a take that is given leaves and hands out
  pub record Gave (buffer : List ℕ) (r : TakeResult) : Type 0 where
    pub records : r.records ≡ cells_of (freed (ready_as f.turn) (slots_of rs st))
    pub hands : took_of st r ≡ f.message ∷ []

  -- A take refuses for want of room in the buffer, or hands out the message that was found.
  pub handed-ways : (buffer : List ℕ) (P : TakeResult → Type 0) → ((f.first.count ≡ 1 → ⊥) → length buffer < length f.message.body
      → P (take_refuses rs buffer 12)) → ((r : TakeResult) → Gave buffer r → P r)
      → P (handed rs st buffer f.turn f.message f.first)
  unfolding handed
  handed-ways buffer P short good =
      by_bool P (eqb f.first.count 1)
      (λ t. good _ (record { records = refl; hands = single (eqb-true f.first.count 1 t) }))
      (λ t. by-lt P (length buffer) (length f.message.body)
      (λ l. short (eqb-false f.first.count 1 t) l)
      (λ l. good _ (record { records = refl; hands = several l })))
    where
      single : f.first.count ≡ 1 → took_of st (take_gives f.message (in_store (index_of (at (ready_as f.turn) 0) rs * cell_bytes)
          f.first.length) (cells_of (freed (ready_as f.turn) (slots_of rs st))) buffer) ≡ f.message ∷ []
      single one = unfold took_of calls.message_handed bytes_at in
          (λ i. record { kind = f.message.kind; channel = f.message.channel; order = f.message.order; body = single-bytes one i }
          ∷ [])

      several : length f.message.body ≤ length buffer → took_of st (take_gives f.message (in_joined (length f.message.body))
          (cells_of (freed (ready_as f.turn) (slots_of rs st))) (put buffer 0 f.message.body)) ≡ f.message ∷ []
      several l = unfold took_of calls.message_handed bytes_at in
          (λ i. record { kind = f.message.kind; channel = f.message.channel; order = f.message.order; body = joined_bytes buffer l i }
          ∷ [])
