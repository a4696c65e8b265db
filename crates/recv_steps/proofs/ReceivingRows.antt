-- A receive on rows and their part of the store: what it does to these is what it does to the rows and the whole store.
-- Assumes nothing.
use Prim.Native.Nat.{ℕ, ◌*◌, ◌≤◌, ◌<◌}
use mathlib.Core.Path.{◌≡◌, refl, sym, ◌∙◌, ap}
use mathlib.Core.Bool.{Bool, true, false, ◌&&◌}
use mathlib.Core.List.{List, ◌++◌}
use native.Mathlib.Omega.{arith}
use mir.Syntax.{w64}
use mir.Val.{Fits}
use lib.Dec.{leb, eqb}
use lib.ListN.{length, take, drop, take-append-drop}
use lib.Seq.{length-take-le}
use borrow.Author.Tests.{leb-true, eqb-true, eq-eqb, le-leb}
use Rattle.std.specs.Prelude.{Result, Err}
use Rattle.base.specs.declared.refusal.Refusal.{Refusal}
use Rattle.base.specs.declared.refusal.Refusal.TheVariants.{NotSound}
use Rattle.base.specs.Limits.{max_cells, cell_bytes}
use Rattle.base.proofs.Choices.{and_left, and_right}
use Rattle.base.proofs.Ifs.{true-yes, true-no, le_yes, le-no}
use Rattle.cells.specs.Sound.{lengths}
use Rattle.rows.specs.declared.Row.{Row}
use Rattle.rows.specs.Rows.{cells_in}
use Rattle.rows.proofs.Rows.{cells-length}
use Rattle.receiver.specs.declared.RecvQueue.{RecvQueue}
use Rattle.receiver.specs.Receive as Definition
use Rattle.receiver.specs.Receive.{refused_result, sound_call, receive_of}
use Rattle.recv_prefix.specs.Receiving.{with_rest, receive_first}
use Rattle.recv_steps.specs.declared.Received.{Received}
use Rattle.recv_steps.specs.Outcome.{RowsReceived, received_rows, found_in_frames, rows_left, rows_outcome, receive_rows_of}
use Rattle.recv_steps.specs.Receives.{Receives}
use Rattle.recv_steps.proofs.Receiving.{refused-9}

-- ---- what the tests tell of lengths

module _ (cells bytes : ℕ) (fit : lengths cells bytes ≡ true) where
  few : (cells ≤ max_cells) × (bytes ≡ cell_bytes * cells)
  few = let e = and_right (leb 1 cells) (leb cells max_cells && eqb bytes (cell_bytes * cells)) (unfold lengths in fit) in (
    leb-true cells max_cells (and_left (leb cells max_cells) (eqb bytes (cell_bytes * cells)) e),
    eqb-true bytes (cell_bytes * cells)
        (and_right (leb cells max_cells) (eqb bytes (cell_bytes * cells)) e),
  )

  module _ (m : ℕ) (some : 1 ≤ m) (within : m ≤ cells) where
    pub store-room : cell_bytes * m ≤ bytes
    store-room = let e = few.1 in omega arith

    pub store-fit : Fits w64 (cell_bytes * m)
    store-fit = record { fits = let e = few.0 in omega arith }

    -- The part that is lent is as long as it must be.
    pub part-fit : (rows : List Row) (st : List ℕ) → length rows ≡ m → length st ≡ bytes
        → lengths (length rows) (length (take (cell_bytes * m) st)) ≡ true
    unfolding lengths
    part-fit rows st er es = rw (
      er,
      length-take-le (cell_bytes * m) st (omega (arith, store-room)),
      le-leb 1 m some,
      le-leb m max_cells (let e = few.0 in omega arith),
      eq-eqb (cell_bytes * m) (cell_bytes * m) refl,
    )

module _ (q : RecvQueue) (cells : ℕ) (rows : List Row) (st d : List ℕ) where
  -- ---- refused

  abbrev Nine : Type 0
  Nine = received_rows (Err NotSound) q rows st ≡ receive_rows_of q cells rows st d

  pub nine : receive_first q cells (cells_in rows) st d ≡ refused_result q (cells_in rows) st 9 → Nine
  nine e = unfold received_rows receive_rows_of rows_outcome in rw e (unfold refused_result rows_left found_in_frames in refl)

  pub lengths_not : {l : Bool} → l ≡ lengths cells (length st) → l ≡ false → Nine
  lengths_not el f = nine (unfold receive_first in sym (true-no _ _ _ _ (sym el ∙ f) refl))

  module _ {l : Bool} (el : l ≡ lengths cells (length st)) (t : l ≡ true) where
    fit : lengths cells (length st) ≡ true
    fit = sym el ∙ t

    -- what receive comes to over these rows and their part of the store
    abbrev part : Definition.Received
    part = receive_of q (cells_in rows) (take (cell_bytes * length rows) st) d

    within-is : length rows ≤ cells → receive_first q cells (cells_in rows) st d ≡ with_rest (drop (cell_bytes * length rows) st) part
    within-is h = unfold receive_first in sym (true-yes _ _ _ _ fit (le_yes _ _ _ _ _ (omega (arith, cells-length rows))
        (rw (cells-length rows))))

    -- No rows make no sound call.
    pub no_row : length rows ≡ 0 → Nine
    no_row z = nine (within-is (omega arith) ∙ rw (refused-9 q (cells_in rows) (take (cell_bytes * length rows) st) d none)
        (unfold with_rest refused_result in rw (take-append-drop (cell_bytes * length rows) st)))
      where
        none : sound_call q (cells_in rows) (take (cell_bytes * length rows) st) ≡ false
        none = unfold sound_call lengths in rw (cells-length rows, z)

    pub too_many : cells < length rows → Nine
    too_many h = nine (unfold receive_first in sym (true-yes _ _ _ _ fit (le-no _ _ _ _ _ (omega (arith, cells-length rows)) refl)))

    -- ---- received: the store's other bytes stay

    abbrev extend : RowsReceived → RowsReceived
    extend x = record { answer = x.answer; queue = x.queue; rows = x.rows; store = x.store ++ drop (cell_bytes * length rows) st }

    pub received : length rows ≤ cells → {r : Result Received Refusal} {q' : RecvQueue} {rows' : List Row} {st' : List ℕ}
        → Receives q rows (take (cell_bytes * length rows) st) d r q' rows' st'
        → received_rows r q' rows' (st' ++ drop (cell_bytes * length rows) st) ≡ receive_rows_of q cells rows st d
    unfolding received_rows receive_rows_of rows_outcome with_rest
    received h v = ap extend v.is ∙ rw (within-is h)
